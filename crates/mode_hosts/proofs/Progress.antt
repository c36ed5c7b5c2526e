-- Where a poll of no stage would do anything, all stages have ended, or the play is stuck.
use Rattle.std.proofs.Common.{◌≡◌, ◌⊎◌, ℕ, zero, suc, ◌+◌, ◌^◌, ◌<◌, ◌≤◌, Bool, true, false, not, cond, ◌||◌, List, [], ◌∷◌, map, take, drop, length, is_some, slice_get, Option, Some, None, inl, inr, refl, sym, ap, ◌∙◌, subst, arith}
use Rattle.std.proofs.lemmas.Bool.{lt-leb, ltb-true, and_from}
use Rattle.std.proofs.lemmas.List.{drop_all, length-drop, take_all}
use Rattle.pf_model.specs.declared.lines.AppLine.{AppLine}
use Rattle.pf_model.specs.declared.lines.AppStep.{AppStep}
use Rattle.pf_model.specs.declared.lines.AppStep.TheVariants as app
use Rattle.pf_model.specs.declared.lines.BaseLine.{BaseLine}
use Rattle.pf_model.specs.declared.lines.BaseStep.{BaseStep}
use Rattle.pf_model.specs.declared.lines.BaseStep.TheVariants as base
use Rattle.pf_model.specs.Merges.{buffer_after}
use Rattle.pf_history.specs.declared.commands.Command.TheVariants as command
use Rattle.pf_history.specs.declared.commands.Merge.{Merge}
use Rattle.pf_history.specs.Asks.{asked_dbase, asked_base_from, merge_of}
use Rattle.pf_history.specs.Logs.{Log, state_of}
use Rattle.pf_history.proofs.Counting.{never_fall_law, counts_law}
use Rattle.play_format.specs.Plays.{Script, app_fits}
use Rattle.play_check.specs.Lines.{Waits as waits_for, app_marks, base_marks, passed, total, Stands}
use Rattle.play_check.specs.Stuck.{IsStuck}
use Rattle.pf_scene.specs.Scenes.{weight_of, weight_in}
use Rattle.pf_scene.specs.Acts.{MaySync}
use Rattle.stage_parts.specs.States.{PipeState, still_asked_dbase, in_buffer}
use Rattle.stage_parts.proofs.DbaseSteps.{lines_law}
use Rattle.frame_stages.specs.declared.in_hand.InHand.{InHand}
use Rattle.frame_stages.specs.declared.in_hand.InHand.TheVariants as hand
use Rattle.frame_stages.specs.Scripts.{next_step}
use Rattle.frame_stages.specs.AppWorks.{is_done, merges_in}
use Rattle.frame_stages.specs.AppAnswers.{SyncWaits, FrameWaits, CloseWaits, StepWaits}
use Rattle.frame_stages.specs.DbaseWorks.{StandsIn, HoldsBuffer, is_ended, has_ended, buffer_at}
use Rattle.frame_stages.specs.DbaseAnswers.{HasToWaitBefore, HasToWait}
use Rattle.frame_stages.proofs.Spares.{none_in_hand}
use Rattle.pipe_plays.specs.Plays.{CanRun, FitsItsPlay, setup_of}
use Rattle.pipe_plays.proofs.Ranges.{passes_at}
use Rattle.mode_hosts.specs.Gathering.{own_seats, IsPipeOf, pipe_of}
use Rattle.mode_hosts.specs.Waits.{Stage, App, Cull, Draw, Dbase, System, IsOfPlay, HasEnded, MustWait, WouldRest, app_ends}
use Rattle.mode_hosts.specs.Laws.{ProgressLaw}
use Rattle.mode_hosts.proofs.Weights.{asks_weight}
use Rattle.mode_hosts.proofs.Gathers.{gathers}
use Rattle.mode_hosts.proofs.Standing.{never_both, HasPassed, unheld, PassersWait, counted, closed_is_ended, cull_ends, draw_ends, passers_wait, all_written, heavy, bears_one, frames_of_passed, frames_of_all, merges_of_passed, stuck_at}

get_drop : {X : Type 0} (xs : List X) (i : ℕ) (x : X) (ys : List X) → drop i xs ≡ x ∷ ys → slice_get xs i ≡ Some x
get_drop [] zero x ys e = absurd (cc)
get_drop [] (suc i) x ys e = absurd (cc)
get_drop (z ∷ xs) zero x ys e = let head : z ≡ x = cc in ap Some head
get_drop (z ∷ xs) (suc i) x ys e = get_drop xs i x ys e

nothing_left : (rest : List BaseLine) → is_ended rest ≡ true → rest ≡ []
nothing_left [] is = refl
nothing_left (l ∷ ls) is = absurd (cc)

-- a line that waits for more stands
stands_at : (reached n : ℕ) → reached < n → passed reached (waits_for n) ≡ None
stands_at reached n more = ap (λ t. cond {A = Option ℕ} t (Some 0) None) (lt-leb n reached more)

-- The application stands at a line that is left, or behind the last one it waits for merges.
record AppStands (play : Script) (p : PipeState) : Type 0 where
  stands : Stands (state_of play.channels p.log).merges (app_marks (drop p.app.at play.app))
  some : (0 < length (drop p.app.at play.app)) ⊎ ((state_of play.channels p.log).merges < length (asked_dbase play.dbase))

-- The database process stands at a line that is left.
record BaseStands (play : Script) (p : PipeState) : Type 0 where
  stands : Stands (state_of play.channels p.log).frames (base_marks (drop p.dbase.at play.dbase))
  some : 0 < length (drop p.dbase.at play.dbase)

module _ (play : Script) (ahead : ℕ) (bytes : Option (List ℕ)) (s : System) (can : CanRun play ahead) (is_of : IsOfPlay play ahead bytes s) where
  pipe : IsPipeOf (setup_of play ahead) play.dbase s.sites s.scene.shared.log bytes s.sink.bytes
  pipe = gathers (setup_of play ahead) play.dbase is_of.lock s.sites s.scene.shared.log bytes s.sink.bytes refl is_of.together.desks is_of.seats is_of.scene

  abbrev p : PipeState
  p = pipe_of play.dbase s.sites s.scene.shared.log pipe.stream

  fits : FitsItsPlay play ahead own_seats p
  fits = pipe.fits

  -- the scene's state is that of the play
  merges_count : (state_of play.channels s.scene.shared.log).merges ≡ merges_in s.scene.shared.log
  merges_count = (counts_law play.channels s.scene.shared.log).merges

  -- the merges that the application waited for stand in the log
  enough_seen : s.sites.app.work.state.need ≤ merges_in s.scene.shared.log
  enough_seen =
      let found = is_of.scene.app in
      let seen = s.sites.app.place.seen in
      let later = (never_fall_law play.channels seen found.0).merges in
      let longer = ap (λ (log : Log). (state_of play.channels log).merges) found.1 in
      let counts = (counts_law play.channels seen).merges in
      let enough = is_of.waited in
      omega (arith, later, longer, counts, enough, merges_count)

  -- The database process

  may_bear : (l : BaseLine) (ls : List BaseLine) → drop s.sites.dbase.work.at play.dbase ≡ l ∷ ls → l.step ≡ base.Merge →
      weight_in s.scene.shared.log + weight_of (command.Merge (merge_of (buffer_at play.dbase s.sites.dbase.work.at))) < 2 ^ 31
  may_bear l ls left is =
      let d = p.dbase in
      let rest = drop (d.at + 1) (map (λ (x : BaseLine). x.step) play.dbase) in
      let next = (lines_law (setup_of play ahead) p.app play.dbase d).dbase l (get_drop play.dbase d.at l ls left) in
      let asks : still_asked_dbase play.dbase d
      ≡ record { need = d.need; merge = merge_of (buffer_after (in_buffer play.dbase d)) } ∷ asked_base_from d.need [] rest =
      next.asks ∙ ap (λ (step : BaseStep). asked_base_from d.need (in_buffer play.dbase d) (step ∷ rest)) is in
      let most = heavy play ahead own_seats p fits in
      let weight = ap asks_weight asks in
      omega (arith, most, weight, can.is_play.steps)

  -- while the stop mark is not set, it stands in its section
  base_in : s.scene.shared.stopped ≡ false → StandsIn play.dbase s.sites.dbase.work
  base_in unset = is_of.seats.dbase.holds.stands (runs s.sites.dbase.work.failed refl)
    where
      runs : (b : Bool) → s.sites.dbase.work.failed ≡ b → s.sites.dbase.work.failed ≡ false
      runs false is = is
      runs true is = absurd (never_both s.scene.shared.stopped (is_of.failed is) unset)

  base_stands : s.scene.shared.stopped ≡ false → MustWait ahead Dbase s → BaseStands play p
  base_stands unset waits = by s.sites.dbase.work.rest refl waits
    where
      stands : StandsIn play.dbase s.sites.dbase.work
      stands = base_in unset

      at_line : (l : BaseLine) (ls : List BaseLine) → drop s.sites.dbase.work.at play.dbase ≡ l ∷ ls → (step : BaseStep) → l.step ≡ step →
          (held : InHand) → HoldsBuffer held (buffer_at play.dbase s.sites.dbase.work.at) → HasToWaitBefore step held s.scene.shared.log →
          BaseStands play p
      at_line l ls left (base.Await n) is held buffer waits =
          let frames = (state_of play.channels s.scene.shared.log).frames in
          let stops : passed frames (waits_for n) ≡ None = stands_at frames n (waits play.channels) in
          record {
            stands =
                subst (λ (lines : List BaseLine). Stands frames (base_marks lines)) (sym left)
                (subst (λ (step : BaseStep). Stands frames (base_marks (record l { step = step } ∷ ls))) (sym is) stops);
            some = let long : length (drop s.sites.dbase.work.at play.dbase) ≡ suc (length ls) = ap length left in omega (arith, long);
          }
      at_line l ls left base.Merge is (hand.Merge m) buffer waits =
          let light = may_bear l ls left is in
          let same : weight_of (command.Merge m) ≡ weight_of (command.Merge (merge_of (buffer_at play.dbase s.sites.dbase.work.at))) =
          ap (λ (x : Merge). weight_of (command.Merge x)) buffer in
          absurd (omega (arith, waits, same, light))
      at_line l ls left _ is held buffer waits = absurd waits

      by : (rest : List BaseLine) → s.sites.dbase.work.rest ≡ rest → HasToWait rest s.sites.dbase.work.hand s.scene.shared.log → BaseStands play p
      by [] is waits = absurd waits
      by (l ∷ ls) is waits = at_line l ls (stands.rest ∙ is) l.step refl s.sites.dbase.work.hand stands.hand waits

  -- The application

  may_sync : MaySync s.scene.shared s.sites.app.work.state.written
  may_sync =
      let state = (counted play ahead own_seats p fits).state in
      let stream = fits.stream in
      record {
        back = subst (λ n. (state_of n s.scene.shared.log).retired ≤ s.sites.app.work.state.written) (sym is_of.channels)
            (omega (arith, state.retired, stream.retired));
        begun = subst (λ n. s.sites.app.work.state.written ≤ (state_of n s.scene.shared.log).frames) (sym is_of.channels)
            (omega (arith, state.frames, stream.all, stream.begun));
        light = bears_one play ahead own_seats p fits can;
      }

  whole : s.scene.shared.stopped ≡ false → p.app.fault ≡ None
  whole unset = by p.app.fault refl
    where
      by : (f : Option ℕ) → p.app.fault ≡ f → f ≡ None
      by None is = refl
      by (Some n) is = absurd (never_both s.scene.shared.stopped (is_of.faulted n is) unset)

  written : s.scene.shared.stopped ≡ false → PassersWait p → p.app.held ≡ None → p.c.sent ≡ p.c.taken → p.app.written ≡ p.app.frames
  written unset passers bare dry = all_written play ahead own_seats p fits (whole unset) passers bare dry

  sync_goes : s.scene.shared.stopped ≡ false → PassersWait p → p.app.held ≡ None →
      SyncWaits s.sites.app.work (Some s.scene) (app_ends ahead s) s.scene.shared.log → ⊥
  sync_goes unset passers bare (inl (dry, behind)) =
      let some = can.few_ahead.0 in
      let same = is_of.seats.app.given.ahead in
      let all = written unset passers bare (dry (omega (arith, behind, same, some))) in
      omega (arith, all, behind, same, some)
  sync_goes unset passers bare (inr barred) = barred may_sync

  frame_goes : s.scene.shared.stopped ≡ false → PassersWait p → p.app.held ≡ None → (synced : Bool) → s.sites.app.work.state.synced ≡ synced →
      FrameWaits synced s.sites.app.work (Some s.scene) (app_ends ahead s) s.scene.shared.log → ⊥
  frame_goes unset passers bare false is waits = sync_goes unset passers bare waits
  frame_goes unset passers bare true is (inr none) =
      let all = none_in_hand (setup_of play ahead) play.dbase own_seats p fits none in
      let free = (counted play ahead own_seats p fits).state.room is in
      omega (arith, all, free)
  frame_goes unset passers bare true is (inl waits) =
      let given = is_of.seats.app.given in
      let free = (counted play ahead own_seats p fits).state.room is in
      let there : (state_of s.scene.shared.channels s.scene.shared.log).frames < (state_of s.scene.shared.channels s.scene.shared.log).retired + ahead =
      subst (λ n. (state_of n s.scene.shared.log).frames < (state_of n s.scene.shared.log).retired + ahead) (sym is_of.channels) free in
      let same = given.ahead in
      waits
      (record {
        agreed = given.ahead ∙ sym is_of.in_flight;
        free = omega (arith, there, same);
        many = given.channels ∙ sym is_of.channels;
        light = bears_one play ahead own_seats p fits can;
      })

  app_stands : s.scene.shared.stopped ≡ false → PassersWait p → p.app.held ≡ None →
      StepWaits (next_step s.sites.app.work.rest) s.sites.app.work (Some s.scene) (app_ends ahead s) s.scene.shared.log → AppStands play p
  app_stands unset passers bare waits = by s.sites.app.work.rest (sym is_of.seats.app.given.rest) waits
    where
      reached : ℕ
      reached = (state_of play.channels s.scene.shared.log).merges

      at_line : (l : AppLine) (ls : List AppLine) → drop p.app.at play.app ≡ l ∷ ls → (step : AppStep) → l.step ≡ step →
          StepWaits (Some step) s.sites.app.work (Some s.scene) (app_ends ahead s) s.scene.shared.log → AppStands play p
      at_line l ls left step is waits = at step is waits
        where
          right : (step : AppStep) → l.step ≡ step → app_fits play.channels step ≡ true
          right step is =
              ap (app_fits play.channels) (sym is)
              ∙ passes_at (λ (x : AppLine). app_fits play.channels x.step) play.app p.app.at l can.is_play.app_steps (get_drop play.app p.app.at l ls left)

          at : (step : AppStep) → l.step ≡ step → StepWaits (Some step) s.sites.app.work (Some s.scene) (app_ends ahead s) s.scene.shared.log → AppStands play p
          at (app.Edit e) is waits =
              absurd (waits (record { fit = right (app.Edit e) is; light = bears_one play ahead own_seats p fits can }))
          at (app.View channel v) is waits =
              absurd
              (waits
              (record {
                there = subst (λ n. channel < n) (sym is_of.channels) (ltb-true channel play.channels (right (app.View channel v) is));
                light = bears_one play ahead own_seats p fits can;
              }))
          at app.Sync is waits = absurd (sync_goes unset passers bare waits)
          at app.Frame is waits = absurd (frame_goes unset passers bare s.sites.app.work.state.synced refl waits)
          at (app.Wait n) is waits =
              let made = (state_of play.channels s.scene.shared.log).merges in
              let count = merges_count in
              let stops : passed made (waits_for n) ≡ None = stands_at made n (omega (arith, waits, count)) in
              record {
                stands =
                    subst (λ (lines : List AppLine). Stands made (app_marks lines)) (sym left)
                    (subst (λ (step : AppStep). Stands made (app_marks (record l { step = step } ∷ ls))) (sym is) stops);
                some = let long : length (drop p.app.at play.app) ≡ suc (length ls) = ap length left in inl (omega (arith, long));
              }

      at_end : drop p.app.at play.app ≡ [] → CloseWaits s.sites.app.work (Some s.scene) (app_ends ahead s) s.scene.shared.log → AppStands play p
      at_end left (inl (dry, behind)) = let all = written unset passers bare dry in absurd (omega (arith, all, behind))
      at_end left (inr (inl few)) =
          let count = merges_count in
          let same = is_of.seats.app.given.merges in
          record {
            stands = subst (λ (lines : List AppLine). Stands (state_of play.channels s.scene.shared.log).merges (app_marks lines)) (sym left) tt;
            some = inr (omega (arith, few, count, same));
          }
      at_end left (inr (inr waits)) = absurd (sync_goes unset passers bare waits)

      by : (rest : List AppLine) → drop p.app.at play.app ≡ rest →
          StepWaits (next_step rest) s.sites.app.work (Some s.scene) (app_ends ahead s) s.scene.shared.log → AppStands play p
      by [] left waits = at_end left waits
      by (l ∷ ls) left waits = at_line l ls left l.step refl waits

  -- All four

  -- what a stage does that is idle while the stop mark is not set
  cull_passed : s.scene.shared.stopped ≡ false → WouldRest ahead Cull s → HasPassed ahead p.cull.ended p.cull.held p.a p.b
  cull_passed unset (inl waits) = inr waits.1
  cull_passed unset (inr (inl ended)) = inl ended
  cull_passed unset (inr (inr set)) = absurd (never_both s.scene.shared.stopped set unset)

  draw_passed : s.scene.shared.stopped ≡ false → WouldRest ahead Draw s → HasPassed ahead p.draw.ended p.draw.held p.b p.c
  draw_passed unset (inl waits) = inr waits.1
  draw_passed unset (inr (inl ended)) = inl ended
  draw_passed unset (inr (inr set)) = absurd (never_both s.scene.shared.stopped set unset)

  -- an application that is done has ended
  app_ended : s.scene.shared.stopped ≡ false → is_done s.sites.app.work.state ≡ true → p.app.ended ≡ true
  app_ended unset done = by p.app.ended refl
    where
      by : (b : Bool) → p.app.ended ≡ b → p.app.ended ≡ true
      by true is = is
      by false is =
          let none : is_some p.app.fault ≡ false = ap is_some (whole unset) in
          let clash : true ≡ false = sym done ∙ ap (λ b. b || is_some p.app.fault) is ∙ none in
          absurd (cc)

  base_ended : s.scene.shared.stopped ≡ false → is_ended s.sites.dbase.work.rest ≡ true → has_ended s.sites.dbase.work ≡ true
  base_ended unset ended = by s.sites.dbase.work.failed refl
    where
      by : (b : Bool) → s.sites.dbase.work.failed ≡ b → has_ended s.sites.dbase.work ≡ true
      by true is = absurd (never_both s.scene.shared.stopped (is_of.failed is) unset)
      by false is = and_from (is_ended s.sites.dbase.work.rest) (not s.sites.dbase.work.failed) ended (ap not is)

  -- DBASE has ended, and passed all its lines, or stands at a line
  base_idle : s.scene.shared.stopped ≡ false → WouldRest ahead Dbase s →
      ((has_ended s.sites.dbase.work ≡ true) × (length play.dbase ≤ p.dbase.at)) ⊎ BaseStands play p
  base_idle unset (inl waits) = inr (base_stands unset waits.1)
  base_idle unset (inr (inl ended)) = inl (base_ended unset ended, past)
    where
      past : length play.dbase ≤ p.dbase.at
      past =
          let none = (base_in unset).rest ∙ nothing_left s.sites.dbase.work.rest ended in
          let long = ap length none in
          let behind = length-drop p.dbase.at play.dbase in
          omega (arith, long, behind)
  base_idle unset (inr (inr set)) = absurd (never_both s.scene.shared.stopped set unset)

  -- where the application has ended
  ended_app : s.scene.shared.stopped ≡ false → p.app.ended ≡ true → ((stage : Stage) → WouldRest ahead stage s) →
      ((stage : Stage) → HasEnded stage s) ⊎ IsStuck play.app play.dbase
  ended_app unset ended idle = elim (base_idle unset (idle Dbase)) [
    | inl base ↦ inl (each base.0)
    | inr stands ↦ inr (stuck stands)
  ]
    where
      cull_over : p.cull.ended ≡ true
      cull_over = cull_ends play ahead own_seats p fits ended (cull_passed unset (idle Cull))

      each : has_ended s.sites.dbase.work ≡ true → (stage : Stage) → HasEnded stage s
      each base App = ended
      each base Cull = cull_over
      each base Draw = draw_ends play ahead own_seats p fits cull_over (draw_passed unset (idle Draw))
      each base Dbase = base

      stuck : BaseStands play p → IsStuck play.app play.dbase
      stuck stands =
          let long = length play.app in
          let frames : total (app_marks (take long play.app)) ≤ (state_of play.channels s.scene.shared.log).frames =
          subst (λ (lines : List AppLine). total (app_marks lines) ≤ (state_of play.channels s.scene.shared.log).frames)
          (sym (take_all long play.app (omega arith)))
          (frames_of_all play ahead own_seats p fits ((counted play ahead own_seats p fits).ends.app ended)) in
          let none : drop long play.app ≡ [] = drop_all long play.app (omega arith) in
          stuck_at play (state_of play.channels s.scene.shared.log).frames (state_of play.channels s.scene.shared.log).merges long p.dbase.at
          frames (merges_of_passed play ahead own_seats p fits).given
          (subst (λ (lines : List AppLine). Stands (state_of play.channels s.scene.shared.log).merges (app_marks lines)) (sym none) tt)
          stands.stands (omega (arith, stands.some))

  -- where it has not
  waiting_app : s.scene.shared.stopped ≡ false → p.app.ended ≡ false → ((stage : Stage) → WouldRest ahead stage s) → IsStuck play.app play.dbase
  waiting_app unset alive idle = at_app (idle App)
    where
      passers : PassersWait p
      passers = passers_wait play ahead own_seats p fits alive (cull_passed unset (idle Cull)) (draw_passed unset (idle Draw))

      stuck : AppStands play p → total (app_marks (take p.app.at play.app)) ≤ (state_of play.channels s.scene.shared.log).frames →
          ((has_ended s.sites.dbase.work ≡ true) × (length play.dbase ≤ p.dbase.at)) ⊎ BaseStands play p → IsStuck play.app play.dbase
      stuck stands frames (inl past) =
          let merges = merges_of_passed play ahead own_seats p fits in
          let all = merges.all past.1 in
          let none : drop p.dbase.at play.dbase ≡ [] = drop_all p.dbase.at play.dbase past.1 in
          let some : 0 < length (drop p.app.at play.app) = elim stands.some [ inl left ↦ left | inr few ↦ absurd (omega (arith, all, few)) ] in
          stuck_at play (state_of play.channels s.scene.shared.log).frames (state_of play.channels s.scene.shared.log).merges p.app.at p.dbase.at
          frames merges.given stands.stands
          (subst (λ (lines : List BaseLine). Stands (state_of play.channels s.scene.shared.log).frames (base_marks lines)) (sym none) tt)
          (omega (arith, some))
      stuck stands frames (inr base) =
          stuck_at play (state_of play.channels s.scene.shared.log).frames (state_of play.channels s.scene.shared.log).merges p.app.at p.dbase.at
          frames (merges_of_passed play ahead own_seats p fits).given stands.stands base.stands (omega (arith, base.some))

      step_waits : (merges_in s.scene.shared.log < s.sites.app.work.state.need)
          ⊎ StepWaits (next_step s.sites.app.work.rest) s.sites.app.work (Some s.scene) (app_ends ahead s) s.scene.shared.log →
          StepWaits (next_step s.sites.app.work.rest) s.sites.app.work (Some s.scene) (app_ends ahead s) s.scene.shared.log
      step_waits (inl few) = absurd (let enough = enough_seen in omega (arith, few, enough))
      step_waits (inr waits) = waits

      at_app : WouldRest ahead App s → IsStuck play.app play.dbase
      at_app (inr (inl done)) = absurd (never_both p.app.ended (app_ended unset done) alive)
      at_app (inr (inr set)) = absurd (never_both s.scene.shared.stopped set unset)
      at_app (inl waits) =
          let bare =
          unheld ahead p.app.held
          ((merges_in s.scene.shared.log < s.sites.app.work.state.need)
          ⊎ StepWaits (next_step s.sites.app.work.rest) s.sites.app.work (Some s.scene) (app_ends ahead s) s.scene.shared.log)
          p.a (counted play ahead own_seats p fits).room.a waits.1 in
          let running : p.app.closed ≡ false = sym (closed_is_ended play ahead own_seats p fits bare.0) ∙ alive in
          stuck (app_stands unset passers bare.0 (step_waits bare.1)) (frames_of_passed play ahead own_seats p fits running)
          (base_idle unset (idle Dbase))

  goes_on : s.scene.shared.stopped ≡ false → ((stage : Stage) → WouldRest ahead stage s) →
      ((stage : Stage) → HasEnded stage s) ⊎ IsStuck play.app play.dbase
  goes_on unset idle = by p.app.ended refl
    where
      by : (b : Bool) → p.app.ended ≡ b → ((stage : Stage) → HasEnded stage s) ⊎ IsStuck play.app play.dbase
      by true is = ended_app unset is idle
      by false is = inr (waiting_app unset is idle)

pub progress : ProgressLaw
progress play ahead bytes s can is_of unset idle = goes_on play ahead bytes s can is_of unset idle
