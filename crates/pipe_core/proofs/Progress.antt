-- The core makes progress.
use Rattle.std.proofs.Common.{◌≡◌, ◌⊎◌, ℕ, zero, suc, ◌+◌, ◌<◌, ◌≤◌, Bool, true, false, cond, List, [], ◌∷◌, ◌++◌, map, take, drop, length, slice_get, Option, Some, None, inl, inr, refl, sym, ap, ◌∙◌, subst, arith}
use Rattle.std.specs.Option.{option_map}
use Rattle.std.proofs.lemmas.Bool.{lt-leb, ltb-true}
use Rattle.std.proofs.lemmas.List.{drop_all, take-append-drop, take_all}
use Rattle.pf_model.specs.Fits.{fits}
use Rattle.pf_model.specs.declared.lines.AppLine.{AppLine}
use Rattle.pf_model.specs.declared.lines.AppStep.{AppStep}
use Rattle.pf_model.specs.declared.lines.AppStep.TheVariants as app
use Rattle.pf_model.specs.declared.lines.BaseLine.{BaseLine}
use Rattle.pf_model.specs.declared.lines.BaseStep.{BaseStep}
use Rattle.pf_model.specs.declared.lines.BaseStep.TheVariants as base
use Rattle.pf_model.specs.Merges.{buffer_after}
use Rattle.pf_history.specs.Asks.{asked_app, asked_dbase, asked_from, asked_base_from, merge_of}
use Rattle.pf_history.specs.Objects.{opening_state}
use Rattle.pf_history.specs.Logs.{state_of}
use Rattle.play_format.specs.Plays.{Script, app_fits}
use Rattle.play_check.specs.Lines.{Waits as waits_for, app_marks, base_marks, passed, total, Stands}
use Rattle.play_check.specs.Stuck.{IsStuck}
use Rattle.play_check.proofs.Ends.{waiting}
use Rattle.pf_scene.specs.Acts.{MayMerge}
use Rattle.stage_parts.specs.States.{still_asked, still_asked_dbase, in_buffer}
use Rattle.stage_parts.proofs.DbaseSteps.{drop_get, lines_law}
use Rattle.pipe_core.specs.declared.events.Event.{Event}
use Rattle.pipe_core.specs.declared.events.Event.TheVariants as event
use Rattle.pipe_plays.specs.Plays.{CanRun, setup_of}
use Rattle.pipe_core.specs.Cores.{CoreState, CoreFits, HasEnded, HaveAllEnded}
use Rattle.pipe_core.specs.Waits.{shared_of, FrameMustWait, CloseMustWait, StepMustWait, BaseStepMustWait, MustWait}
use Rattle.pipe_core.specs.Laws.{ProgressLaw}
use Rattle.pipe_core.proofs.Weights.{asks_weight}
use Rattle.pipe_plays.proofs.Counts.{AreMade, are_made, frames_asked, frames_given, merges_given, frames_left, merges_left, app_total, base_total}
use Rattle.pipe_plays.proofs.Ranges.{passes_at, merges_right, left_right, AreMergesRight}
use Rattle.pipe_core.proofs.Sides.{never_both, ended_or_waits, counted, unheld, closed_is_ended, cull_ends, draw_ends, PassersWait, passers_wait, heavy, bears_one, all_written, may_sync, sync_goes}

drop_none : {X : Type 0} (xs : List X) (i : ℕ) → slice_get xs i ≡ None → drop i xs ≡ []
drop_none [] zero past = refl
drop_none [] (suc i) past = refl
drop_none (y ∷ xs) zero past = absurd (cc)
drop_none (y ∷ xs) (suc i) past = drop_none xs i past

-- The counts

made : (play : Script) (ahead : ℕ) (s : CoreState) → CoreFits play ahead s →
    AreMade (opening_state play.channels) (state_of play.channels s.pipe.log) (asked_app play.app) (asked_dbase play.dbase)
    (still_asked (setup_of play ahead) s.pipe.app) (still_asked_dbase play.dbase s.pipe.dbase)
made play ahead s fits =
    let follows = fits.pipe.history.follows in
    are_made ahead _ s.pipe.log (opening_state play.channels) (asked_app play.app) (asked_dbase play.dbase) _ _
    follows.follows_app follows.follows_dbase

-- the frames of a core that has not closed are those that the lines passed give
pub frames_of_passed : (play : Script) (ahead : ℕ) (s : CoreState) → CoreFits play ahead s → s.pipe.app.closed ≡ false →
    total (app_marks (take s.pipe.app.at play.app)) ≤ (state_of play.channels s.pipe.log).frames
frames_of_passed play ahead s fits running =
    let a = s.pipe.app in
    let asks = asked_from a.need a.synced (drop a.at (map (λ (l : AppLine). l.step) play.app)) in
    let still : still_asked (setup_of play ahead) a ≡ asks = ap (λ t. cond t [] asks) running in
    let many = made play ahead s fits in
    let left : frames_asked (still_asked (setup_of play ahead) a) ≡ total (app_marks (drop a.at play.app)) =
    ap frames_asked still ∙ frames_left a.need a.synced a.at play.app in
    let all = frames_given 0 false play.app in
    let parts = app_total a.at play.app in
    omega (arith, many.frames, left, all, parts)

-- and those of one that has closed are those that all lines give
frames_of_all : (play : Script) (ahead : ℕ) (s : CoreState) → CoreFits play ahead s → s.pipe.app.closed ≡ true →
    total (app_marks play.app) ≤ (state_of play.channels s.pipe.log).frames
frames_of_all play ahead s fits closed =
    let a = s.pipe.app in
    let asks = asked_from a.need a.synced (drop a.at (map (λ (l : AppLine). l.step) play.app)) in
    let still : frames_asked (still_asked (setup_of play ahead) a) ≡ 0 = ap (λ t. frames_asked (cond t [] asks)) closed in
    let many = made play ahead s fits in
    let all = frames_given 0 false play.app in
    omega (arith, many.frames, still, all)

-- the merges are those that the lines passed give, of all that are asked for
pub record MergesOfPassed (play : Script) (s : CoreState) : Type 0 where
  pub given : total (base_marks (take s.pipe.dbase.at play.dbase)) ≤ (state_of play.channels s.pipe.log).merges
  pub all : length play.dbase ≤ s.pipe.dbase.at → (state_of play.channels s.pipe.log).merges ≡ length (asked_dbase play.dbase)

pub merges_of_passed : (play : Script) (ahead : ℕ) (s : CoreState) → CoreFits play ahead s → MergesOfPassed play s
merges_of_passed play ahead s fits =
    let d = s.pipe.dbase in
    let many = made play ahead s fits in
    let left = merges_left d.need (in_buffer play.dbase d) d.at play.dbase in
    let all = merges_given 0 [] play.dbase in
    let parts = base_total d.at play.dbase in
    record {
      given = omega (arith, many.merges, left, all, parts);
      all = λ past.
          let none : total (base_marks (drop d.at play.dbase)) ≡ 0 = ap (λ (ls : List BaseLine). total (base_marks ls)) (drop_all d.at play.dbase past) in
          omega (arith, many.merges, left, none);
    }

-- a line that waits for more stands
stands_at : (reached n : ℕ) → reached < n → passed reached (waits_for n) ≡ None
stands_at reached n more = ap (λ t. cond {A = Option ℕ} t (Some 0) None) (lt-leb n reached more)

-- The database process

-- It stands at a line that is left.
pub record BaseStands (play : Script) (s : CoreState) : Type 0 where
  pub stands : Stands (state_of play.channels s.pipe.log).frames (base_marks (drop s.pipe.dbase.at play.dbase))
  pub some : 0 < length (drop s.pipe.dbase.at play.dbase)

may_merge : (play : Script) (ahead : ℕ) (s : CoreState) → CanRun play ahead → CoreFits play ahead s → (l : BaseLine) →
    slice_get play.dbase s.pipe.dbase.at ≡ Some l → l.step ≡ base.Merge → MayMerge (shared_of play ahead s) (merge_of s.pipe.dbase.buffer)
may_merge play ahead s can fits l at is =
    let d = s.pipe.dbase in
    let rest = drop (d.at + 1) (map (λ (x : BaseLine). x.step) play.dbase) in
    let next = (lines_law (setup_of play ahead) s.pipe.app play.dbase d).dbase l at in
    let asks : still_asked_dbase play.dbase d
    ≡ record { need = d.need; merge = merge_of (buffer_after (in_buffer play.dbase d)) } ∷ asked_base_from d.need [] rest =
    next.asks ∙ ap (λ (step : BaseStep). asked_base_from d.need (in_buffer play.dbase d) (step ∷ rest)) is in
    let right = merges_right 0 [] play.dbase refl can.is_play.base_steps in
    let still = left_right (asked_dbase play.dbase) _ (still_asked_dbase play.dbase d) fits.pipe.history.follows.follows_dbase right in
    let first = subst AreMergesRight asks still in
    let most = heavy play ahead s can fits in
    let weight = ap asks_weight asks in
    subst (λ b. MayMerge (shared_of play ahead s) (merge_of b)) (sym fits.pipe.buffer.buffer)
    (record { fit = first.0; light = omega (arith, most, weight, can.is_play.steps) })

pub base_stands : (play : Script) (ahead : ℕ) (s : CoreState) → CanRun play ahead → CoreFits play ahead s → MustWait play ahead event.Dbase s → BaseStands play s
base_stands play ahead s can fits waits = by (slice_get play.dbase s.pipe.dbase.at) refl waits
  where
    at_line : (l : BaseLine) → slice_get play.dbase s.pipe.dbase.at ≡ Some l → (step : BaseStep) → l.step ≡ step →
        BaseStepMustWait (shared_of play ahead s) s.pipe (Some step) → BaseStands play s
    at_line l at (base.Await n) is waits =
        let frames = (state_of play.channels s.pipe.log).frames in
        let left = drop_get play.dbase s.pipe.dbase.at l at in
        let stops : passed frames (waits_for n) ≡ None = stands_at frames n waits in
        record {
          stands =
              subst (λ (ls : List BaseLine). Stands frames (base_marks ls)) (sym left)
              (subst (λ (step : BaseStep). Stands frames (base_marks (record l { step = step } ∷ drop (suc s.pipe.dbase.at) play.dbase))) (sym is) stops);
          some = let long : length (drop s.pipe.dbase.at play.dbase) ≡ suc (length (drop (suc s.pipe.dbase.at) play.dbase)) = ap length left in
              omega (arith, long);
        }
    at_line l at base.Merge is waits = absurd (waits (may_merge play ahead s can fits l at is))
    at_line l at _ is waits = absurd waits

    by : (o : Option BaseLine) → slice_get play.dbase s.pipe.dbase.at ≡ o →
        BaseStepMustWait (shared_of play ahead s) s.pipe (option_map (λ (l : BaseLine). l.step) o) → BaseStands play s
    by None at waits = absurd waits
    by (Some l) at waits = at_line l at l.step refl waits

-- The application

-- It stands at a line that is left, or behind the last one it waits for merges.
pub record AppStands (play : Script) (s : CoreState) : Type 0 where
  pub stands : Stands (state_of play.channels s.pipe.log).merges (app_marks (drop s.pipe.app.at play.app))
  pub some : (0 < length (drop s.pipe.app.at play.app)) ⊎ ((state_of play.channels s.pipe.log).merges < length (asked_dbase play.dbase))

frame_goes : (play : Script) (ahead : ℕ) (s : CoreState) → CanRun play ahead → CoreFits play ahead s → s.stopped ≡ false →
    PassersWait s.pipe → s.pipe.app.held ≡ None → (synced : Bool) → s.pipe.app.synced ≡ synced → FrameMustWait synced (shared_of play ahead s) s.pipe → ⊥
frame_goes play ahead s can fits unset passers bare false is waits = sync_goes play ahead s can fits unset passers bare waits
frame_goes play ahead s can fits unset passers bare true is waits =
    let free = (counted play ahead s fits).state.room is in
    waits (record { agreed = refl; free = free; many = refl; light = bears_one play ahead s can fits })

pub app_stands : (play : Script) (ahead : ℕ) (s : CoreState) → CanRun play ahead → CoreFits play ahead s → s.stopped ≡ false →
    PassersWait s.pipe → s.pipe.app.held ≡ None →
    StepMustWait (length (asked_dbase play.dbase)) (shared_of play ahead s) s.pipe (option_map (λ l. l.step) (slice_get play.app s.pipe.app.at)) →
    AppStands play s
app_stands play ahead s can fits unset passers bare waits = by (slice_get play.app s.pipe.app.at) refl waits
  where
    merges : ℕ
    merges = length (asked_dbase play.dbase)

    right : (l : AppLine) → slice_get play.app s.pipe.app.at ≡ Some l → (step : AppStep) → l.step ≡ step → app_fits play.channels step ≡ true
    right l at step is =
        ap (app_fits play.channels) (sym is)
        ∙ passes_at (λ (x : AppLine). app_fits play.channels x.step) play.app s.pipe.app.at l can.is_play.app_steps at

    at_line : (l : AppLine) → slice_get play.app s.pipe.app.at ≡ Some l → (step : AppStep) → l.step ≡ step →
        StepMustWait merges (shared_of play ahead s) s.pipe (Some step) → AppStands play s
    at_line l at (app.Edit e) is waits =
        absurd (waits (record { fit = right l at (app.Edit e) is; light = bears_one play ahead s can fits }))
    at_line l at (app.View channel v) is waits =
        absurd (waits (record { there = ltb-true channel play.channels (right l at (app.View channel v) is); light = bears_one play ahead s can fits }))
    at_line l at app.Sync is waits = absurd (sync_goes play ahead s can fits unset passers bare waits)
    at_line l at app.Frame is waits = absurd (frame_goes play ahead s can fits unset passers bare s.pipe.app.synced refl waits)
    at_line l at (app.Wait n) is waits =
        let made = (state_of play.channels s.pipe.log).merges in
        let left = drop_get play.app s.pipe.app.at l at in
        let stops : passed made (waits_for n) ≡ None = stands_at made n waits in
        record {
          stands =
              subst (λ (ls : List AppLine). Stands made (app_marks ls)) (sym left)
              (subst (λ (step : AppStep). Stands made (app_marks (record l { step = step } ∷ drop (suc s.pipe.app.at) play.app))) (sym is) stops);
          some = let long : length (drop s.pipe.app.at play.app) ≡ suc (length (drop (suc s.pipe.app.at) play.app)) = ap length left in
              inl (omega (arith, long));
        }

    at_end : slice_get play.app s.pipe.app.at ≡ None → CloseMustWait merges (shared_of play ahead s) s.pipe → AppStands play s
    at_end at (inl few) =
        record {
          stands = subst (λ (ls : List AppLine). Stands (state_of play.channels s.pipe.log).merges (app_marks ls)) (sym (drop_none play.app s.pipe.app.at at)) tt;
          some = inr few;
        }
    at_end at (inr (inl (dry, behind))) =
        let all = all_written play ahead s fits unset passers bare dry in
        absurd (omega (arith, all, behind))
    at_end at (inr (inr barred)) = absurd (barred (may_sync play ahead s can fits))

    by : (o : Option AppLine) → slice_get play.app s.pipe.app.at ≡ o →
        StepMustWait merges (shared_of play ahead s) s.pipe (option_map (λ (l : AppLine). l.step) o) → AppStands play s
    by None at waits = at_end at waits
    by (Some l) at waits = at_line l at l.step refl waits

-- The play is stuck

pub stuck_at : (play : Script) (s : CoreState) (n k : ℕ) →
    total (app_marks (take n play.app)) ≤ (state_of play.channels s.pipe.log).frames →
    total (base_marks (take k play.dbase)) ≤ (state_of play.channels s.pipe.log).merges →
    Stands (state_of play.channels s.pipe.log).merges (app_marks (drop n play.app)) →
    Stands (state_of play.channels s.pipe.log).frames (base_marks (drop k play.dbase)) →
    0 < length (drop n play.app) + length (drop k play.dbase) → IsStuck play.app play.dbase
stuck_at play s n k frames merges app_stands base_stands some =
    let stuck =
    waiting (take n play.app) (drop n play.app) (take k play.dbase) (drop k play.dbase)
    (state_of play.channels s.pipe.log).frames (state_of play.channels s.pipe.log).merges frames merges app_stands base_stands some in
    subst (λ (ls : List AppLine). IsStuck ls play.dbase) (take-append-drop n play.app)
    (subst (λ (ls : List BaseLine). IsStuck (take n play.app ++ drop n play.app) ls) (take-append-drop k play.dbase) stuck)

-- where the application has ended
ended_app : (play : Script) (ahead : ℕ) (s : CoreState) → CanRun play ahead → CoreFits play ahead s → s.pipe.app.ended ≡ true →
    HasEnded play event.Cull s.pipe ⊎ MustWait play ahead event.Cull s →
    HasEnded play event.Draw s.pipe ⊎ MustWait play ahead event.Draw s →
    HasEnded play event.Dbase s.pipe ⊎ MustWait play ahead event.Dbase s → HaveAllEnded play s.pipe ⊎ IsStuck play.app play.dbase
ended_app play ahead s can fits ended cull draw (inl dbase) =
    let cull_over = cull_ends play ahead s fits ended cull in
    let draw_over = draw_ends play ahead s fits cull_over draw in
    inl (each cull_over draw_over)
  where
    each : s.pipe.cull.ended ≡ true → s.pipe.draw.ended ≡ true → HaveAllEnded play s.pipe
    each cull_over draw_over event.App = ended
    each cull_over draw_over event.Cull = cull_over
    each cull_over draw_over event.Draw = draw_over
    each cull_over draw_over event.Dbase = dbase
ended_app play ahead s can fits ended cull draw (inr waits) =
    let stands = base_stands play ahead s can fits waits in
    let closed = (counted play ahead s fits).ends.app ended in
    let long = length play.app in
    let frames : total (app_marks (take long play.app)) ≤ (state_of play.channels s.pipe.log).frames =
    subst (λ (ls : List AppLine). total (app_marks ls) ≤ (state_of play.channels s.pipe.log).frames) (sym (take_all long play.app (omega arith)))
    (frames_of_all play ahead s fits closed) in
    let none : drop long play.app ≡ [] = drop_all long play.app (omega arith) in
    inr
    (stuck_at play s long s.pipe.dbase.at frames (merges_of_passed play ahead s fits).given
    (subst (λ (ls : List AppLine). Stands (state_of play.channels s.pipe.log).merges (app_marks ls)) (sym none) tt)
    stands.stands (omega (arith, stands.some)))

-- where it has not
waiting_app : (play : Script) (ahead : ℕ) (s : CoreState) → CanRun play ahead → CoreFits play ahead s → s.stopped ≡ false → s.pipe.app.ended ≡ false →
    HasEnded play event.App s.pipe ⊎ MustWait play ahead event.App s →
    HasEnded play event.Cull s.pipe ⊎ MustWait play ahead event.Cull s →
    HasEnded play event.Draw s.pipe ⊎ MustWait play ahead event.Draw s →
    HasEnded play event.Dbase s.pipe ⊎ MustWait play ahead event.Dbase s → IsStuck play.app play.dbase
waiting_app play ahead s can fits unset alive (inl ended) cull draw dbase = absurd (never_both s.pipe.app.ended ended alive)
waiting_app play ahead s can fits unset alive (inr waits) cull draw dbase =
    let passers = passers_wait play ahead s fits alive cull draw in
    let bare =
    unheld ahead s.pipe.app.held
    (StepMustWait (length (asked_dbase play.dbase)) (shared_of play ahead s) s.pipe (option_map (λ (l : AppLine). l.step) (slice_get play.app s.pipe.app.at)))
    s.pipe.a (counted play ahead s fits).room.a waits in
    let running : s.pipe.app.closed ≡ false = sym (closed_is_ended play ahead s fits bare.0) ∙ alive in
    by (app_stands play ahead s can fits unset passers bare.0 bare.1) (frames_of_passed play ahead s fits running) dbase
  where
    merges : MergesOfPassed play s
    merges = merges_of_passed play ahead s fits

    by : AppStands play s → total (app_marks (take s.pipe.app.at play.app)) ≤ (state_of play.channels s.pipe.log).frames →
        HasEnded play event.Dbase s.pipe ⊎ MustWait play ahead event.Dbase s → IsStuck play.app play.dbase
    by stands frames (inl past) =
        let all = merges.all past in
        let none : drop s.pipe.dbase.at play.dbase ≡ [] = drop_all s.pipe.dbase.at play.dbase past in
        let some : 0 < length (drop s.pipe.app.at play.app) = elim stands.some [ inl left ↦ left | inr few ↦ absurd (omega (arith, all, few)) ] in
        stuck_at play s s.pipe.app.at s.pipe.dbase.at frames merges.given stands.stands
        (subst (λ (ls : List BaseLine). Stands (state_of play.channels s.pipe.log).frames (base_marks ls)) (sym none) tt) (omega (arith, some))
    by stands frames (inr waits) =
        let base = base_stands play ahead s can fits waits in
        stuck_at play s s.pipe.app.at s.pipe.dbase.at frames merges.given stands.stands base.stands (omega (arith, base.some))

pub progress : ProgressLaw
progress play ahead s can fits unset idle = by s.pipe.app.ended refl
  where
    of : (e : Event) → HasEnded play e s.pipe ⊎ MustWait play ahead e s
    of e = ended_or_waits play ahead e s unset (idle e)

    by : (b : Bool) → s.pipe.app.ended ≡ b → HaveAllEnded play s.pipe ⊎ IsStuck play.app play.dbase
    by true is = ended_app play ahead s can fits is (of event.Cull) (of event.Draw) (of event.Dbase)
    by false is = inr (waiting_app play ahead s can fits unset is (of event.App) (of event.Cull) (of event.Draw) (of event.Dbase))
