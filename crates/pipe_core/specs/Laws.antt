-- The laws of the core.
use Rattle.std.specs.Prelude.{◌≡◌, ◌⊎◌, ℕ, ◌+◌, ◌*◌, ◌≤◌, true, false, List, length, slice_get, Some}
use Rattle.std.specs.List.{AllByRecursion, flat_map}
use Rattle.pf_history.specs.CutLaws.{is_among, sync_entry}
use Rattle.play_format.specs.Plays.{Script}
use Rattle.play_check.specs.Stuck.{IsStuck}
use Rattle.stage_parts.specs.Moves.{moved}
use Rattle.pipe_core.specs.declared.events.Event.{Event}
use Rattle.pipe_plays.specs.Plays.{CanRun}
use Rattle.pipe_plays.specs.Laws.{ShowsHistory, ShowsAll, IsFreedWritten}
use Rattle.pipe_core.specs.Cores.{CoreState, CoreFits, HaveAllEnded}
use Rattle.pipe_core.specs.Waits.{IsIdleEvent}
use Rattle.pipe_core.specs.Runs.{Ran, holds_all, rounds}

-- The core makes progress: where no event has set the stop mark and each event changes nothing, all stages have ended, or
-- the play is stuck.
abbrev pub ProgressLaw : Type 0
ProgressLaw =
    (play : Script) (ahead : ℕ) (s : CoreState) → CanRun play ahead → CoreFits play ahead s → s.stopped ≡ false →
    ((e : Event) → IsIdleEvent play ahead e s) → HaveAllEnded play s.pipe ⊎ IsStuck play.app play.dbase

-- the steps of both sections
abbrev pub steps_in : Script → ℕ
steps_in play = length play.app + length play.dbase

-- a core that fits moves at most nine times for each step, and five times besides
abbrev pub BoundLaw : Type 0
BoundLaw = (play : Script) (ahead : ℕ) (s : CoreState) → CoreFits play ahead s → moved s.pipe ≤ 9 * steps_in play + 5

-- A run of events of a play that is not stuck ends all stages, or moves at least once in each part that holds all four;
-- so it ends them where it has enough such parts.
pub record RunsEnd (play : Script) (events : List Event) (s t : CoreState) : Type 0 where
  pub each_part : HaveAllEnded play t.pipe ⊎ (rounds events + moved s.pipe ≤ moved t.pipe)
  pub enough : 16 * (steps_in play + 1) ≤ rounds events → HaveAllEnded play t.pipe

abbrev pub RunLaw : Type 0
RunLaw =
    (play : Script) (ahead : ℕ) (events : List Event) (s t : CoreState) → CanRun play ahead →
    (IsStuck play.app play.dbase → ⊥) → CoreFits play ahead s → s.stopped ≡ false → Ran play ahead events s t →
    RunsEnd play events s t

-- events that can be cut into parts that hold all four have at least so many rounds
abbrev pub CuttingLaw : Type 0
CuttingLaw =
    (parts : List (List Event)) → AllByRecursion (λ part. holds_all part ≡ true) parts →
    length parts ≤ rounds (flat_map (λ part. part) parts)

-- a core in which all stages have ended: its history fits the play wholly, and the stream is all its pictures
pub record IsPlayed (play : Script) (ahead : ℕ) (s : CoreState) : Type 0 where
  pub ended : HaveAllEnded play s.pipe
  pub shown : ShowsAll play ahead s.pipe

-- Events of which none answers an error end a play that is not stuck, where they can be cut into enough parts that each
-- hold all four: 16 for each step of the play, and 16 besides.
abbrev pub PartsLaw : Type 0
PartsLaw =
    (play : Script) (ahead : ℕ) (parts : List (List Event)) (s t : CoreState) → CanRun play ahead →
    (IsStuck play.app play.dbase → ⊥) → CoreFits play ahead s → s.stopped ≡ false →
    AllByRecursion (λ part. holds_all part ≡ true) parts → 16 * (steps_in play + 1) ≤ length parts →
    Ran play ahead (flat_map (λ part. part) parts) s t → IsPlayed play ahead t

-- What a core that fits its play shows, and what it shows where all stages have ended.
pub record AreShown (play : Script) (ahead : ℕ) (s : CoreState) : Type 0 where
  pub now : ShowsHistory play ahead s.pipe
  pub at_end : HaveAllEnded play s.pipe → ShowsAll play ahead s.pipe

abbrev pub ShownLaw : Type 0
ShownLaw = (play : Script) (ahead : ℕ) (s : CoreState) → CanRun play ahead → CoreFits play ahead s → AreShown play ahead s

-- a serial that a Sync of r replied stands in no frame after the first r ones, and the pictures of these were wholly
-- written
abbrev pub FreedInPipeLaw : Type 0
FreedInPipeLaw =
    (play : Script) (ahead : ℕ) (s : CoreState) → CoreFits play ahead s →
    (j seat r x : ℕ) (serials : List ℕ) → slice_get s.pipe.log j ≡ Some (seat, sync_entry r serials) →
    is_among x serials ≡ true → IsFreedWritten play s.pipe r x
