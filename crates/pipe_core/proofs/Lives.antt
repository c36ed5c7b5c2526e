-- A core whose play may still grow, and of which nothing can go on, is settled.
use Rattle.std.proofs.Common.{◌≡◌, ◌⊎◌, ℕ, zero, suc, ◌<◌, ◌≤◌, Bool, true, false, nat_lt, List, [], ◌∷◌, drop, length, slice_get, Option, Some, None, inl, inr, refl, sym, ap, ◌∙◌, subst, arith}
use Rattle.std.specs.Option.{option_map}
use Rattle.std.proofs.lemmas.Bool.{ltb-true, ltb-false}
use Rattle.std.proofs.lemmas.List.{drop_all, take_all}
use Rattle.pf_model.specs.declared.lines.AppLine.{AppLine}
use Rattle.pf_model.specs.declared.lines.BaseLine.{BaseLine}
use Rattle.pf_history.specs.Asks.{asked_dbase}
use Rattle.pf_history.specs.Logs.{state_of}
use Rattle.play_format.specs.Plays.{Script}
use Rattle.play_check.specs.Lines.{app_marks, base_marks, Stands}
use Rattle.play_check.specs.Stuck.{IsStuck}
use Rattle.stage_parts.specs.Gathering.{IsDrained}
use Rattle.stage_parts.specs.States.{Line}
use Rattle.stage_parts.specs.Packets.{LinkPart}
use Rattle.stage_parts.proofs.Counting.{are_many, held_some}
use Rattle.stage_parts.proofs.DbaseSteps.{drop_get}
use Rattle.pipe_core.specs.declared.events.Event.TheVariants as event
use Rattle.pipe_plays.specs.Plays.{CanRun, setup_of}
use Rattle.pipe_core.specs.Cores.{CoreState, CoreFits, HasEnded, one_seat}
use Rattle.pipe_core.specs.Waits.{IsLineDry, StepMustWait, MustWait, shared_of}
use Rattle.pipe_core.specs.Lives.{NextMustWait, LiveLaw}
use Rattle.pipe_core.proofs.Sides.{never_both, counted, unheld, PassersWait, passers_wait, whole}
use Rattle.pipe_core.proofs.Progress.{base_stands, app_stands, frames_of_passed, MergesOfPassed, merges_of_passed, stuck_at}

-- a list has no element at a place only behind its end
none_past : {X : Type 0} (xs : List X) (i : ℕ) → slice_get xs i ≡ None → length xs ≤ i
none_past [] i none = omega arith
none_past (x ∷ xs) zero none = absurd (cc)
none_past (x ∷ xs) (suc i) none = let rest = none_past xs i none in omega (arith, rest)

-- an application that has not closed has not ended
pub not_ended : (ended closed : Bool) → (ended ≡ true → closed ≡ true) → closed ≡ false → ended ≡ false
not_ended false closed closes going = refl
not_ended true closed closes going = absurd (never_both closed (closes refl) going)

-- what was sent is received, where there is no more of it
all_received : (l : Line) → LinkPart l.sent l.taken → length l.sent ≤ length l.taken → l.taken ≡ l.sent
all_received l link few = link.front ∙ take_all (length l.taken) l.sent few

-- no picture is left in the link to the application: those that are due came back, and there are no others
pictures_back : (play : Script) (ahead : ℕ) (s : CoreState) → CoreFits play ahead s →
    (s.pipe.app.written < s.pipe.app.frames → IsLineDry s.pipe.c) → s.pipe.c.taken ≡ s.pipe.c.sent
pictures_back play ahead s fits back = by (nat_lt s.pipe.app.written s.pipe.app.frames) refl
  where
    by : (t : Bool) → nat_lt s.pipe.app.written s.pipe.app.frames ≡ t → s.pipe.c.taken ≡ s.pipe.c.sent
    by true is = sym (back (ltb-true s.pipe.app.written s.pipe.app.frames is))
    by false is =
        let late = ltb-false s.pipe.app.written s.pipe.app.frames is in
        let many = are_many (setup_of play ahead) play.dbase one_seat s.pipe fits.pipe in
        let some = held_some s.pipe.c.sent s.pipe.draw.held in
        all_received s.pipe.c fits.pipe.link_c (omega (arith, late, many.c, many.loads, some, fits.pipe.stream.all))

-- The lines

-- where DBASE stands: it has passed all its lines, or it stands at one that waits
dbase_done : (play : Script) (ahead : ℕ) (s : CoreState) → CanRun play ahead → CoreFits play ahead s → s.pipe.app.closed ≡ false →
    Stands (state_of play.channels s.pipe.log).merges (app_marks (drop s.pipe.app.at play.app)) →
    (length play.app ≤ s.pipe.app.at) ⊎ (0 < length (drop s.pipe.app.at play.app)) →
    HasEnded play event.Dbase s.pipe ⊎ MustWait play ahead event.Dbase s →
    ((length play.app ≤ s.pipe.app.at) × (length play.dbase ≤ s.pipe.dbase.at)) ⊎ IsStuck play.app play.dbase
dbase_done play ahead s can fits going stands app dbase = by app dbase
  where
    merges : MergesOfPassed play s
    merges = merges_of_passed play ahead s fits

    by : (length play.app ≤ s.pipe.app.at) ⊎ (0 < length (drop s.pipe.app.at play.app)) →
        HasEnded play event.Dbase s.pipe ⊎ MustWait play ahead event.Dbase s →
        ((length play.app ≤ s.pipe.app.at) × (length play.dbase ≤ s.pipe.dbase.at)) ⊎ IsStuck play.app play.dbase
    by (inl passed) (inl past) = inl (passed, past)
    by (inr some) (inl past) =
        let none : drop s.pipe.dbase.at play.dbase ≡ [] = drop_all s.pipe.dbase.at play.dbase past in
        inr
        (stuck_at play s s.pipe.app.at s.pipe.dbase.at (frames_of_passed play ahead s fits going) merges.given stands
        (subst (λ (ls : List BaseLine). Stands (state_of play.channels s.pipe.log).frames (base_marks ls)) (sym none) tt) (omega (arith, some)))
    by app (inr waits) =
        let base = base_stands play ahead s can fits waits in
        inr
        (stuck_at play s s.pipe.app.at s.pipe.dbase.at (frames_of_passed play ahead s fits going) merges.given stands base.stands
        (omega (arith, base.some)))

lines_done : (play : Script) (ahead : ℕ) (s : CoreState) → CanRun play ahead → CoreFits play ahead s → s.stopped ≡ false →
    s.pipe.app.closed ≡ false → PassersWait s.pipe → s.pipe.app.held ≡ None →
    NextMustWait (length (asked_dbase play.dbase)) (shared_of play ahead s) s.pipe (option_map (λ l. l.step) (slice_get play.app s.pipe.app.at)) →
    HasEnded play event.Dbase s.pipe ⊎ MustWait play ahead event.Dbase s →
    ((length play.app ≤ s.pipe.app.at) × (length play.dbase ≤ s.pipe.dbase.at)) ⊎ IsStuck play.app play.dbase
lines_done play ahead s can fits unset going passers bare waits dbase = by (slice_get play.app s.pipe.app.at) refl
  where
    merges : ℕ
    merges = length (asked_dbase play.dbase)

    by : (o : Option AppLine) → slice_get play.app s.pipe.app.at ≡ o →
        ((length play.app ≤ s.pipe.app.at) × (length play.dbase ≤ s.pipe.dbase.at)) ⊎ IsStuck play.app play.dbase
    by None at =
        let passed = none_past play.app s.pipe.app.at at in
        let none : drop s.pipe.app.at play.app ≡ [] = drop_all s.pipe.app.at play.app passed in
        dbase_done play ahead s can fits going
        (subst (λ (ls : List AppLine). Stands (state_of play.channels s.pipe.log).merges (app_marks ls)) (sym none) tt) (inl passed) dbase
    by (Some l) at =
        let left = ap length (drop_get play.app s.pipe.app.at l at) in
        let step =
        subst (λ (o : Option AppLine). NextMustWait merges (shared_of play ahead s) s.pipe (option_map (λ (x : AppLine). x.step) o)) at waits in
        let stands =
        app_stands play ahead s can fits unset passers bare
        (subst (λ (o : Option AppLine). StepMustWait merges (shared_of play ahead s) s.pipe (option_map (λ (x : AppLine). x.step) o)) (sym at) step) in
        dbase_done play ahead s can fits going stands.stands (inr (omega (arith, left))) dbase

pub live_law : LiveLaw
live_law play ahead s can fits unset idle =
    let count = counted play ahead s fits in
    let alive = not_ended s.pipe.app.ended s.pipe.app.closed count.ends.app idle.going in
    let passers = passers_wait play ahead s fits alive idle.cull idle.draw in
    let bare =
    unheld ahead s.pipe.app.held
    (NextMustWait (length (asked_dbase play.dbase)) (shared_of play ahead s) s.pipe (option_map (λ (l : AppLine). l.step) (slice_get play.app s.pipe.app.at)))
    s.pipe.a count.room.a idle.app in
    let drained : IsDrained s.pipe = record {
      app_held = bare.0;
      cull_held = passers.cull_held;
      draw_held = passers.draw_held;
      a = sym passers.a;
      b = sym passers.b;
      c = pictures_back play ahead s fits idle.back;
    } in
    record {
      drained = drained;
      written = (count.drained drained).written (whole play ahead s fits unset);
      done = lines_done play ahead s can fits unset idle.going passers bare.0 bare.1 idle.dbase;
    }
