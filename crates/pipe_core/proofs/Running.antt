-- Runs of events: each part that holds all four moves the core, until all stages have ended.
use Rattle.std.proofs.Common.{◌≡◌, ◌⊎◌, ℕ, ◌+◌, ◌*◌, ◌≤◌, Bool, true, false, cond, ◌||◌, List, [], ◌∷◌, length, inl, inr, refl, sym, ap, ◌∙◌, subst, arith}
use Rattle.std.specs.List.{AllByRecursion, flat_map}
use Rattle.play_format.specs.Plays.{Script}
use Rattle.play_check.specs.Stuck.{IsStuck}
use Rattle.stage_parts.specs.Moves.{moved}
use Rattle.stage_parts.proofs.Moves.{moves_law}
use Rattle.pipe_core.specs.declared.events.Event.{Event}
use Rattle.pipe_core.specs.declared.events.Event.TheVariants as event
use Rattle.pipe_plays.specs.Plays.{CanRun, setup_of}
use Rattle.pipe_core.specs.Cores.{CoreState, CoreFits, HaveAllEnded, one_seat}
use Rattle.pipe_core.specs.Waits.{IsIdleEvent}
use Rattle.pipe_core.specs.Runs.{HasMoved, Rests, Ran, is_event, holds, holds_all, rounds, rounds_from}
use Rattle.pipe_core.specs.Laws.{steps_in, RunLaw, BoundLaw}
use Rattle.pipe_core.proofs.Rounds.{each_held, cutting_law}
use Rattle.pipe_core.proofs.Progress.{progress}

pub bound : BoundLaw
bound play ahead s fits = moves_law (setup_of play ahead) play.dbase one_seat s.pipe fits.pipe fits.app_lines fits.dbase_lines

-- once all stages have ended, events change nothing
pub stay_ended : (play : Script) (ahead : ℕ) (events : List Event) (s t : CoreState) → HaveAllEnded play s.pipe → Ran play ahead events s t → HaveAllEnded play t.pipe
stay_ended play ahead [] s t all ran = subst (λ (u : CoreState). HaveAllEnded play u.pipe) (sym ran) all
stay_ended play ahead (e ∷ events) s t all ran = stay_ended play ahead events ran.0 t (by ran.1.step) ran.2
  where
    by : HasMoved play e s ran.0 ⊎ Rests play ahead e s ran.0 → HaveAllEnded play ran.0.pipe
    by (inl moves) = absurd (moves.alive (inl (all e)))
    by (inr rests) = subst (λ (u : CoreState). HaveAllEnded play u.pipe) (sym rests.same) all

-- every event of the part so far changes nothing
abbrev AreIdle : Script → ℕ → List Event → CoreState → Type 0
AreIdle play ahead part s = (k : Event) → holds part k ≡ true → IsIdleEvent play ahead k s

idle_too : (play : Script) (ahead : ℕ) (e : Event) (part : List Event) (s : CoreState) → IsIdleEvent play ahead e s → AreIdle play ahead part s → AreIdle play ahead (e ∷ part) s
idle_too play ahead e part s idle before k held = by k e idle held
  where
    by : (k e : Event) → IsIdleEvent play ahead e s → (is_event k e || holds part k) ≡ true → IsIdleEvent play ahead k s
    by event.App event.App idle held = idle
    by event.App event.Cull idle held = before event.App held
    by event.App event.Draw idle held = before event.App held
    by event.App event.Dbase idle held = before event.App held
    by event.Cull event.App idle held = before event.Cull held
    by event.Cull event.Cull idle held = idle
    by event.Cull event.Draw idle held = before event.Cull held
    by event.Cull event.Dbase idle held = before event.Cull held
    by event.Draw event.App idle held = before event.Draw held
    by event.Draw event.Cull idle held = before event.Draw held
    by event.Draw event.Draw idle held = idle
    by event.Draw event.Dbase idle held = before event.Draw held
    by event.Dbase event.App idle held = before event.Dbase held
    by event.Dbase event.Cull idle held = before event.Dbase held
    by event.Dbase event.Draw idle held = before event.Dbase held
    by event.Dbase event.Dbase idle held = idle

-- Since the open part began the core has moved, or each of its events changes nothing.
abbrev HasGone : Script → ℕ → List Event → ℕ → CoreState → Type 0
HasGone play ahead part n s = (n + 1 ≤ moved s.pipe) ⊎ AreIdle play ahead part s

-- all stages have ended, or each round has moved the core once
abbrev EndsOrMoves : Script → ℕ → CoreState → Type 0
EndsOrMoves play n t = HaveAllEnded play t.pipe ⊎ (n ≤ moved t.pipe)

runs : (play : Script) (ahead : ℕ) → CanRun play ahead → (IsStuck play.app play.dbase → ⊥) →
    (events part : List Event) (n : ℕ) (s t : CoreState) → CoreFits play ahead s → s.stopped ≡ false → n ≤ moved s.pipe →
    HasGone play ahead part n s → Ran play ahead events s t → EndsOrMoves play (rounds_from part events + n) t
runs play ahead can free [] part n s t fits unset least gone ran =
    inr (subst (λ (u : CoreState). 0 + n ≤ moved u.pipe) (sym ran) (omega (arith, least)))
runs play ahead can free (e ∷ events) part n s t fits unset least gone ran =
    by (holds_all (e ∷ part)) refl gone ran.1.step
    (λ q m least gone unset. runs play ahead can free events q m ran.0 t ran.1.fits unset least gone ran.2)
  where
    u : CoreState
    u = ran.0

    Later : Type 0
    Later = (q : List Event) (m : ℕ) → m ≤ moved u.pipe → HasGone play ahead q m u → u.stopped ≡ false → EndsOrMoves play (rounds_from q events + m) t

    Goal : Bool → Type 0
    Goal held = EndsOrMoves play (cond held (1 + rounds_from [] events) (rounds_from (e ∷ part) events) + n) t

    -- the core has moved since the part began
    after_move : (held : Bool) → n + 1 ≤ moved u.pipe → u.stopped ≡ false → Later → Goal held
    after_move true more unset later = shift (later [] (n + 1) more (inr (λ k none. absurd (cc))) unset)
      where
        shift : EndsOrMoves play (rounds_from [] events + (n + 1)) t → Goal true
        shift (inl all) = inl all
        shift (inr many) = inr (omega (arith, many))
    after_move false more unset later = later (e ∷ part) n (omega (arith, more)) (inl more) unset

    by : (held : Bool) → holds_all (e ∷ part) ≡ held → HasGone play ahead part n s → HasMoved play e s u ⊎ Rests play ahead e s u → Later → Goal held
    by held is gone (inl moves) later = after_move held (omega (arith, least, moves.moves)) (moves.mark ∙ unset) later
    by held is (inl more) (inr rests) later =
        after_move held (subst (λ (v : CoreState). n + 1 ≤ moved v.pipe) (sym rests.same) more)
        (ap (λ (v : CoreState). v.stopped) rests.same ∙ unset) later
    by true is (inr idle) (inr rests) later =
        let all = idle_too play ahead e part s rests.idle idle in
        ended (progress play ahead s can fits unset (λ k. all k (each_held (e ∷ part) is k)))
      where
        ended : HaveAllEnded play s.pipe ⊎ IsStuck play.app play.dbase → Goal true
        ended (inl all) =
            inl (stay_ended play ahead events u t (subst (λ (v : CoreState). HaveAllEnded play v.pipe) (sym rests.same) all) ran.2)
        ended (inr stuck) = absurd (free stuck)
    by false is (inr idle) (inr rests) later =
        let all = idle_too play ahead e part s rests.idle idle in
        later (e ∷ part) n (subst (λ (v : CoreState). n ≤ moved v.pipe) (sym rests.same) least)
        (inr (subst (AreIdle play ahead (e ∷ part)) (sym rests.same) all)) (ap (λ (v : CoreState). v.stopped) rests.same ∙ unset)

pub ran_fits : (play : Script) (ahead : ℕ) (events : List Event) (s t : CoreState) → CoreFits play ahead s → Ran play ahead events s t → CoreFits play ahead t
ran_fits play ahead [] s t fits ran = subst (CoreFits play ahead) (sym ran) fits
ran_fits play ahead (e ∷ events) s t fits ran = ran_fits play ahead events ran.0 t ran.1.fits ran.2

pub run_law : RunLaw
run_law play ahead events s t can free fits unset ran = record { each_part = each; enough = λ many. by many each }
  where
    each : HaveAllEnded play t.pipe ⊎ (rounds events + moved s.pipe ≤ moved t.pipe)
    each = runs play ahead can free events [] (moved s.pipe) s t fits unset (omega arith) (inr (λ k none. absurd (cc))) ran

    by : 16 * (steps_in play + 1) ≤ rounds events → HaveAllEnded play t.pipe ⊎ (rounds events + moved s.pipe ≤ moved t.pipe) → HaveAllEnded play t.pipe
    by many (inl all) = all
    by many (inr moves) =
        let most = bound play ahead t (ran_fits play ahead events s t fits ran) in
        absurd (omega (arith, many, moves, most))

-- events that can be cut into enough parts that hold all four end all stages
pub parts_end : (play : Script) (ahead : ℕ) (parts : List (List Event)) (s t : CoreState) → CanRun play ahead →
    (IsStuck play.app play.dbase → ⊥) → CoreFits play ahead s → s.stopped ≡ false →
    AllByRecursion (λ part. holds_all part ≡ true) parts → 16 * (steps_in play + 1) ≤ length parts →
    Ran play ahead (flat_map (λ part. part) parts) s t → HaveAllEnded play t.pipe
parts_end play ahead parts s t can free fits unset all many ran =
    let most = cutting_law parts all in
    (run_law play ahead (flat_map (λ part. part) parts) s t can free fits unset ran).enough (omega (arith, many, most))
