-- The callers of a history that fits a play are an order of it.
use Rattle.std.proofs.Common.{◌≡◌, ℕ, ◌+◌, cond, List, [], ◌∷◌, map, length, Some, option_and_then, refl, sym, ◌∙◌, ap, subst, arith}
use Rattle.std.specs.Option.{option_map}
use Rattle.pf_history.specs.declared.commands.Caller.{Caller}
use Rattle.pf_history.specs.declared.commands.Caller.TheVariants.{App, Dbase}
use Rattle.pf_history.specs.declared.commands.Command.{Command}
use Rattle.pf_history.specs.declared.commands.Command.TheVariants as command
use Rattle.pf_history.specs.declared.commands.Merge.{Merge}
use Rattle.pf_history.specs.Objects.{FrameState, opening_state, next_state}
use Rattle.pf_history.specs.Logs.{Log, is_by, is_caller, state_after}
use Rattle.pf_history.specs.Asks.{Ask, BaseAsk, Wanted, WantEdit, WantView, WantSync, WantFrame, WantClose, Turn, turns_from, Meets, Follows, FollowsBase, asked_app, asked_dbase}
use Rattle.pf_history.proofs.Fitting.{fit_law}
use Rattle.play_check.specs.Orders.{Due, Standing, frames_of, app_dues, base_dues, with_entry, after_order}
use Rattle.play_check.specs.Laws.{HistoryLaw}
use Rattle.play_check.proofs.Orders.{next_of}

-- what a command of the application adds
app_adds : (ahead merges : ℕ) (w : Wanted) (s : FrameState) (c : Command) → Meets ahead merges w s c → ((next_state s c).frames ≡ s.frames + frames_of w) × ((next_state s c).merges ≡ s.merges)
app_adds ahead merges (WantEdit e) s c h =
    subst (λ (x : Command). ((next_state s x).frames ≡ s.frames + 0) × ((next_state s x).merges ≡ s.merges)) (sym h) (omega arith, refl)
app_adds ahead merges (WantView channel v) s c h =
    subst (λ (x : Command). ((next_state s x).frames ≡ s.frames + 0) × ((next_state s x).merges ≡ s.merges)) (sym h) (omega arith, refl)
app_adds ahead merges WantSync s (command.Sync r) h = (omega arith, refl)
app_adds ahead merges WantSync s _ h = absurd h
app_adds ahead merges WantFrame s command.Frame h = (refl, refl)
app_adds ahead merges WantFrame s _ h = absurd h
app_adds ahead merges WantClose s (command.Sync r) h = (omega arith, refl)
app_adds ahead merges WantClose s _ h = absurd h

merge_adds : (s : FrameState) (c : Command) (m : Merge) → c ≡ command.Merge m → ((next_state s c).frames ≡ s.frames) × ((next_state s c).merges ≡ s.merges + 1)
merge_adds s c m h = subst (λ (x : Command). ((next_state s x).frames ≡ s.frames) × ((next_state s x).merges ≡ s.merges + 1)) (sym h) (refl, refl)

-- where a history stands: what is still asked, and the counts of its state
abbrev at_state : List Ask → List BaseAsk → FrameState → Standing
at_state asks base_asks s = record { app = app_dues asks; dbase = base_dues base_asks; frames = s.frames; merges = s.merges }

one_then : (caller : Caller) (order : List Caller) (s t u v : Standing) → with_entry caller s ≡ Some t → u ≡ t → after_order order u ≡ Some v → after_order (caller ∷ order) s ≡ Some v
one_then caller order s t u v step same rest =
    ap (option_and_then (after_order order)) step ∙ subst (λ (x : Standing). after_order order x ≡ Some v) same rest

history_order : (ahead merges : ℕ) (log : Log) (s : FrameState) (asks : List Ask) (base_asks : List BaseAsk) (left : List Ask) (base_left : List BaseAsk) →
    Follows ahead merges asks (turns_from (is_by App) s log) left → FollowsBase base_asks (turns_from (is_by Dbase) s log) base_left →
    after_order (map (λ e. e.1.caller) log) (at_state asks base_asks s) ≡ Some (at_state left base_left (state_after s log))
history_order ahead merges [] s asks base_asks left base_left h g = rw (h, g) refl
history_order ahead merges (e ∷ es) s asks base_asks left base_left h g =
    by (λ asks base_asks. history_order ahead merges es (next_state s e.1.command) asks base_asks left base_left) e.1.caller h g
  where
    next : FrameState
    next = next_state s e.1.command

    turn : Turn
    turn = record { found = s; made = e.1.command }

    More : Type 0
    More = (asks : List Ask) (base_asks : List BaseAsk) →
        Follows ahead merges asks (turns_from (is_by App) next es) left → FollowsBase base_asks (turns_from (is_by Dbase) next es) base_left →
        after_order (map (λ e. e.1.caller) es) (at_state asks base_asks next) ≡ Some (at_state left base_left (state_after next es))

    app_case : More → (asks : List Ask) → Follows ahead merges asks (turn ∷ turns_from (is_by App) next es) left → FollowsBase base_asks (turns_from (is_by Dbase) next es) base_left →
        after_order (App ∷ map (λ e. e.1.caller) es) (at_state asks base_asks s) ≡ Some (at_state left base_left (state_after next es))
    app_case more [] h g = absurd h
    app_case more (a ∷ rest) h g =
        let adds = app_adds ahead merges a.wanted s e.1.command h.0 in
        let due : Due = record { need = a.need; adds = frames_of a.wanted } in
        let made : Standing = record { app = app_dues rest; dbase = base_dues base_asks; frames = s.frames + frames_of a.wanted; merges = s.merges } in
        let step : with_entry App (at_state (a ∷ rest) base_asks s) ≡ Some made =
        ap (option_map (λ (p : ℕ × List Due). record (at_state (a ∷ rest) base_asks s) { app = p.1; frames = s.frames + p.0 })) (next_of s.merges due (app_dues rest) h.1) in
        let same : at_state rest base_asks next ≡ made = λ i. record { app = app_dues rest; dbase = base_dues base_asks; frames = adds.0 i; merges = adds.1 i } in
        one_then App (map (λ e. e.1.caller) es) (at_state (a ∷ rest) base_asks s) made (at_state rest base_asks next) (at_state left base_left (state_after next es)) step same
        (more rest base_asks h.2 g)

    base_case : More → (base_asks : List BaseAsk) → Follows ahead merges asks (turns_from (is_by App) next es) left → FollowsBase base_asks (turn ∷ turns_from (is_by Dbase) next es) base_left →
        after_order (Dbase ∷ map (λ e. e.1.caller) es) (at_state asks base_asks s) ≡ Some (at_state left base_left (state_after next es))
    base_case more [] h g = absurd g
    base_case more (b ∷ rest) h g =
        let adds = merge_adds s e.1.command b.merge g.0 in
        let due : Due = record { need = b.need; adds = 1 } in
        let made : Standing = record { app = app_dues asks; dbase = base_dues rest; frames = s.frames; merges = s.merges + 1 } in
        let step : with_entry Dbase (at_state asks (b ∷ rest) s) ≡ Some made =
        ap (option_map (λ (p : ℕ × List Due). record (at_state asks (b ∷ rest) s) { dbase = p.1; merges = s.merges + p.0 })) (next_of s.frames due (base_dues rest) g.1) in
        let same : at_state asks rest next ≡ made = λ i. record { app = app_dues asks; dbase = base_dues rest; frames = adds.0 i; merges = adds.1 i } in
        one_then Dbase (map (λ e. e.1.caller) es) (at_state asks (b ∷ rest) s) made (at_state asks rest next) (at_state left base_left (state_after next es)) step same
        (more asks rest h g.2)

    by : More → (k : Caller) → Follows ahead merges asks (cond (is_caller App k) (turn ∷ turns_from (is_by App) next es) (turns_from (is_by App) next es)) left →
        FollowsBase base_asks (cond (is_caller Dbase k) (turn ∷ turns_from (is_by Dbase) next es) (turns_from (is_by Dbase) next es)) base_left →
        after_order (k ∷ map (λ e. e.1.caller) es) (at_state asks base_asks s) ≡ Some (at_state left base_left (state_after next es))
    by more App h g = app_case more asks h g
    by more Dbase h g = base_case more base_asks h g

pub history : HistoryLaw
history channels ahead app dbase log fits =
    let f = (fit_law channels ahead app dbase log).follows fits in
    history_order ahead (length (asked_dbase dbase)) log (opening_state channels) (asked_app app) (asked_dbase dbase) _ _ f.follows_app f.follows_dbase
