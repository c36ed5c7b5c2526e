-- The closing Sync is the last entry of a whole history, and leaves no graves.
use Rattle.std.proofs.Common.{◌≡◌, ℕ, ◌+◌, ◌≤◌, Bool, true, false, cond, not, max, List, [], ◌∷◌, ◌++◌, map, length, refl, ap, ◌∙◌, subst, arith}
use Rattle.std.proofs.lemmas.Bool.{le-leb}
use Rattle.std.specs.List.{AllByRecursion}
use Rattle.pf_model.specs.declared.lines.AppStep.{AppStep}
use Rattle.pf_model.specs.declared.lines.AppStep.TheVariants as app
use Rattle.pf_model.specs.declared.lines.AppLine.{AppLine}
use Rattle.pf_model.specs.declared.lines.BaseLine.{BaseLine}
use Rattle.pf_model.specs.Copies.{GraveState, graves_kept}
use Rattle.pf_history.specs.declared.commands.Caller.{Caller}
use Rattle.pf_history.specs.declared.commands.Caller.TheVariants.{App, Dbase}
use Rattle.pf_history.specs.declared.commands.Command.{Command}
use Rattle.pf_history.specs.declared.commands.Command.TheVariants as command
use Rattle.pf_history.specs.declared.commands.Merge.{Merge}
use Rattle.pf_history.specs.declared.commands.Entry.{Entry}
use Rattle.pf_history.specs.Commands.{caller_of}
use Rattle.pf_history.specs.Objects.{FrameState, opening_state, next_state}
use Rattle.pf_history.specs.Logs.{Log, IsLegal, IsLegalFrom, is_by, is_caller, state_after, state_of}
use Rattle.pf_history.specs.Asks.{Ask, BaseAsk, Wanted, WantEdit, WantView, WantSync, WantFrame, WantClose, Turn, Meets, Follows, FollowsBase, turns_from, asked_from, asked_app, asked_dbase}
use Rattle.pf_history.specs.Fits.{FitsWholly}
use Rattle.pf_history.proofs.Fitting.{fit_law}
use Rattle.pf_history.proofs.Folds.{state_push, graves_law}

-- the last of what is asked is the closing Sync
abbrev EndsWithClose : List Ask → Type 0
EndsWithClose [] = ⊥
EndsWithClose (a ∷ []) = a.wanted ≡ WantClose
EndsWithClose (a ∷ b ∷ asks) = EndsWithClose (b ∷ asks)

more_before : (a : Ask) (asks : List Ask) → EndsWithClose asks → EndsWithClose (a ∷ asks)
more_before a [] h = absurd h
more_before a (b ∷ asks) h = h

asks_close : (need : ℕ) (synced : Bool) (steps : List AppStep) → EndsWithClose (asked_from need synced steps)
asks_close need synced [] = refl
asks_close need synced (app.Edit e ∷ steps) = more_before (record { need = need; wanted = WantEdit e }) (asked_from need synced steps) (asks_close need synced steps)
asks_close need synced (app.View channel v ∷ steps) = more_before (record { need = need; wanted = WantView channel v }) (asked_from need synced steps) (asks_close need synced steps)
asks_close need synced (app.Sync ∷ steps) = more_before (record { need = need; wanted = WantSync }) (asked_from need true steps) (asks_close need true steps)
asks_close need true (app.Frame ∷ steps) = more_before (record { need = need; wanted = WantFrame }) (asked_from need false steps) (asks_close need false steps)
asks_close need false (app.Frame ∷ steps) = more_before (record { need = need; wanted = WantFrame }) (asked_from need false steps) (asks_close need false steps)
asks_close need synced (app.Wait n ∷ steps) = asks_close (max need n) synced steps

-- A log ends with a Sync that retires all frames.
record EndsClosed (s : FrameState) (log : Log) : Type 0 where
  front : Log
  last : ℕ × Entry
  retired : ℕ
  whole : log ≡ front ++ last ∷ []
  is_sync : last.1.command ≡ command.Sync retired
  all : (state_after s front).frames ≤ retired

one_before : (s : FrameState) (e : ℕ × Entry) (log : Log) → EndsClosed (next_state s e.1.command) log → EndsClosed s (e ∷ log)
one_before s e log h = record { front = e ∷ h.front; last = h.last; retired = h.retired; whole = ap (λ es. e ∷ es) h.whole; is_sync = h.is_sync; all = h.all }

-- where nothing is asked any more, nothing more is made
none_more : (ahead merges : ℕ) (s : FrameState) (log : Log) → Follows ahead merges [] (turns_from (is_by App) s log) [] → FollowsBase [] (turns_from (is_by Dbase) s log) [] → log ≡ []
none_more ahead merges s [] h g = refl
none_more ahead merges s (e ∷ es) h g = by e.1.caller h g
  where
    turn : Turn
    turn = record { found = s; made = e.1.command }

    turns : Caller → List Turn
    turns caller = turns_from (is_by caller) (next_state s e.1.command) es

    by : (k : Caller) → Follows ahead merges [] (cond (is_caller App k) (turn ∷ turns App) (turns App)) [] → FollowsBase [] (cond (is_caller Dbase k) (turn ∷ turns Dbase) (turns Dbase)) [] → e ∷ es ≡ []
    by App h g = absurd h
    by Dbase h g = absurd g

closes : (ahead merges : ℕ) (s : FrameState) (log : Log) (asks : List Ask) (bases : List BaseAsk) → IsLegalFrom s log → Follows ahead merges asks (turns_from (is_by App) s log) [] → FollowsBase bases (turns_from (is_by Dbase) s log) [] → EndsWithClose asks → length bases + s.merges ≡ merges → EndsClosed s log
closes ahead merges s [] asks bases legal h g ends many = absurd (subst EndsWithClose h ends)
closes ahead merges s (e ∷ es) asks bases legal h g ends many =
    by e.1.command refl
    (λ asks' bases' h' g' ends' many'. one_before s e es (closes ahead merges (next_state s e.1.command) es asks' bases' legal.1 h' g' ends' many'))
    (subst (λ (k : Caller). Follows ahead merges asks (cond (is_caller App k) (turn e.1.command ∷ app_turns e.1.command) (app_turns e.1.command)) []) legal.0.caller h)
    (subst (λ (k : Caller). FollowsBase bases (cond (is_caller Dbase k) (turn e.1.command ∷ base_turns e.1.command) (base_turns e.1.command)) []) legal.0.caller g)
  where
    turn : Command → Turn
    turn c = record { found = s; made = c }

    app_turns : Command → List Turn
    app_turns c = turns_from (is_by App) (next_state s c) es

    base_turns : Command → List Turn
    base_turns c = turns_from (is_by Dbase) (next_state s c) es

    More : Command → Type 0
    More c = (asks' : List Ask) (bases' : List BaseAsk) → Follows ahead merges asks' (app_turns c) [] → FollowsBase bases' (base_turns c) [] → EndsWithClose asks' → length bases' + (next_state s c).merges ≡ merges → EndsClosed s (e ∷ es)

    no_bases : (bases : List BaseAsk) → length bases ≡ 0 → bases ≡ []
    no_bases [] none = refl
    no_bases (b ∷ bases) none = absurd (cc)

    -- the last command of the application
    last_case : (c : Command) → e.1.command ≡ c → Meets ahead merges WantClose s c → Follows ahead merges [] (app_turns c) [] → FollowsBase bases (base_turns c) [] → EndsClosed s (e ∷ es)
    last_case (command.Sync r) is meets h g =
        let none : bases ≡ [] = no_bases bases (omega (arith, many, meets.1)) in
        let rest : es ≡ [] = none_more ahead merges (next_state s (command.Sync r)) es h (subst (λ (bs : List BaseAsk). FollowsBase bs (base_turns (command.Sync r)) []) none g) in
        record { front = []; last = e; retired = r; whole = ap (λ es. e ∷ es) rest; is_sync = is; all = omega (arith, meets.0) }
    last_case c is meets h g = absurd meets

    app_case : (c : Command) → e.1.command ≡ c → (next_state s c).merges ≡ s.merges → More c → (asks : List Ask) → Follows ahead merges asks (turn c ∷ app_turns c) [] → FollowsBase bases (base_turns c) [] → EndsWithClose asks → EndsClosed s (e ∷ es)
    app_case c is stay more [] h g ends = absurd h
    app_case c is stay more (a ∷ []) h g ends = last_case c is (subst (λ (w : Wanted). Meets ahead merges w s c) ends h.0) h.2 g
    app_case c is stay more (a ∷ b ∷ asks) h g ends = more (b ∷ asks) bases h.2 g ends (omega (arith, many, stay))

    merge_case : (m : Merge) → More (command.Merge m) → (bases : List BaseAsk) → length bases + s.merges ≡ merges → Follows ahead merges asks (app_turns (command.Merge m)) [] → FollowsBase bases (turn (command.Merge m) ∷ base_turns (command.Merge m)) [] → EndsClosed s (e ∷ es)
    merge_case m more [] many h g = absurd g
    merge_case m more (b ∷ bases) many h g = more asks bases h g.2 ends (omega (arith, many))

    by : (c : Command) → e.1.command ≡ c → More c → Follows ahead merges asks (cond (is_caller App (caller_of c)) (turn c ∷ app_turns c) (app_turns c)) [] → FollowsBase bases (cond (is_caller Dbase (caller_of c)) (turn c ∷ base_turns c) (base_turns c)) [] → EndsClosed s (e ∷ es)
    by (command.Edit x) is more h g = app_case (command.Edit x) is refl more asks h g ends
    by (command.Merge m) is more h g = merge_case m more bases many h g
    by (command.View channel v) is more h g = app_case (command.View channel v) is refl more asks h g ends
    by (command.Sync r) is more h g = app_case (command.Sync r) is refl more asks h g ends
    by command.Frame is more h g = app_case command.Frame is refl more asks h g ends

none_kept : (r n : ℕ) (gs : List GraveState) → n ≤ r → AllByRecursion (λ g. g.last ≤ n) gs → graves_kept r gs ≡ []
none_kept r n [] l h = refl
none_kept r n (g ∷ gs) l h =
    let early : g.last ≤ n = h.0 in
    ap (λ b. cond (not b) (g ∷ graves_kept r gs) (graves_kept r gs)) (le-leb g.last r (omega (arith, early, l)))
    ∙ none_kept r n gs l h.1

-- a whole history leaves no graves
pub no_graves : (channels ahead : ℕ) (app : List AppLine) (dbase : List BaseLine) (log : Log) → IsLegal channels log → FitsWholly channels ahead app dbase log → (state_of channels log).graves ≡ []
no_graves channels ahead app dbase log legal wholly =
    let follows = (fit_law channels ahead app dbase log).follows_wholly wholly in
    let end = closes ahead (length (asked_dbase dbase)) (opening_state channels) log (asked_app app) (asked_dbase dbase) legal follows.follows_app follows.follows_dbase (asks_close 0 false (map (λ (l : AppLine). l.step) app)) (omega arith) in
    ap (λ es. (state_of channels es).graves) end.whole
    ∙ ap (λ (s : FrameState). s.graves) (state_push (opening_state channels) end.front end.last)
    ∙ ap (λ c. (next_state (state_of channels end.front) c).graves) end.is_sync
    ∙ none_kept end.retired (state_of channels end.front).frames (state_of channels end.front).graves end.all (graves_law channels end.front)
