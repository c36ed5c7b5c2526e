-- Hosts that all sleep or have left have left: the bell's law, at the stages of a play.
use Rattle.std.proofs.Common.{◌≡◌, ℕ, Bool, true, false, ◌||◌, not, List, is_some, Option, inl, inr, refl, ap}
use Rattle.std.proofs.lemmas.Bool.{and_parts}
use Rattle.play_format.specs.Plays.{Script}
use Rattle.play_check.specs.Stuck.{IsStuck}
use Rattle.frame_stages.specs.DbaseWorks.{is_ended}
use Rattle.pipe_plays.specs.Plays.{CanRun}
use Rattle.mode_hosts.specs.Waits.{Stage, App, Cull, Draw, Dbase, System, IsOfPlay, HasEnded, IsDone, IsOver, IsWaiting}
use Rattle.mode_hosts.specs.Polls.{DidSomething}
use Rattle.mode_hosts.specs.Bells.{HasLeft, BellState, AreAllAsleep}
use Rattle.mode_hosts.specs.Laws.{AreKept, BellLaw, HasHost, HostsLaw}
use Rattle.mode_hosts.proofs.Bells.{opening_keeps, steps_keep, steps_hold, all_idle, some_waits}
use Rattle.mode_hosts.proofs.Polling.{over_lasts, poll_law}
use Rattle.mode_hosts.proofs.Progress.{progress}

pub bell_law : BellLaw
bell_law ahead crews hosts b c opening steps =
    let kept =
    steps_keep (IsWaiting ahead) IsOver (DidSomething ahead) (over_lasts ahead) crews hosts b c steps
    (opening_keeps (IsWaiting ahead) IsOver (DidSomething ahead) (over_lasts ahead) crews b opening) in
    record {
      kept = kept;
      rest = all_idle (IsWaiting ahead) IsOver (DidSomething ahead) (over_lasts ahead) crews c kept;
      some = some_waits (IsWaiting ahead) IsOver (DidSomething ahead) (over_lasts ahead) crews c kept;
    }

-- a stage that has ended is done
ended_done : (stage : Stage) (s : System) → HasEnded stage s → IsDone stage s
ended_done App s ended = ap (λ b. b || is_some s.sites.app.work.state.fault) ended
ended_done Cull s ended = ended
ended_done Draw s ended = ended
ended_done Dbase s ended = (and_parts (is_ended s.sites.dbase.work.rest) (not s.sites.dbase.work.failed) ended).0

module _ (play : Script) (ahead : ℕ) (bytes : Option (List ℕ)) (crews : ℕ → List Stage) (c : BellState System) (can : CanRun play ahead)
    (free : IsStuck play.app play.dbase → ⊥) (have : (stage : Stage) → HasHost crews stage) (is_of : IsOfPlay play ahead bytes c.world)
    (kept : AreKept ahead crews c) (asleep : AreAllAsleep c) where
  -- while the stop mark is not set, all stages have ended
  ended : c.world.scene.shared.stopped ≡ false → (stage : Stage) → HasEnded stage c.world
  ended unset = elim (progress play ahead bytes c.world can is_of unset (λ stage. let host = have stage in kept.rest asleep host.0 host.1 stage host.2)) [
    | inl all ↦ all
    | inr stuck ↦ absurd (free stuck)
  ]

  each_over : (stage : Stage) → IsOver stage c.world
  each_over stage = by c.world.scene.shared.stopped refl
    where
      by : (b : Bool) → c.world.scene.shared.stopped ≡ b → IsOver stage c.world
      by true is = inr is
      by false is = inl (ended_done stage c.world (ended is stage))

  all_left : (k : ℕ) → c.doing k ≡ HasLeft
  all_left k = elim (asleep k) [
    | inl sleeps ↦ (let waits = kept.some asleep k sleeps in absurd (waits.3.0 (each_over waits.1)))
    | inr left ↦ left
  ]

pub hosts_law : HostsLaw
hosts_law play ahead bytes crews hosts b c can free have is_of opening steps asleep =
    let still = steps_hold (IsWaiting ahead) IsOver (DidSomething ahead) (over_lasts ahead) (IsOfPlay play ahead bytes)
    (λ stage s t poll before. poll_law play ahead bytes stage s t before poll) crews hosts b c steps is_of in
    all_left play ahead bytes crews c can free have still (bell_law ahead crews hosts b c opening steps) asleep
