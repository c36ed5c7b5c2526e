-- The edits of a history whose turns are the first of what a play asks are in range.
use Rattle.std.proofs.Common.{◌≡◌, ℕ, zero, suc, ◌+◌, max, Bool, true, false, cond, ◌&&◌, List, [], ◌∷◌, ◌++◌, map, is_some, slice_get, Some, refl, sym, ap, ◌∙◌, subst}
use Rattle.std.proofs.lemmas.Bool.{and_parts, and_from}
use Rattle.std.proofs.lemmas.Option.{same_Some}
use Rattle.std.proofs.lemmas.List.Folds.{list_all-append}
use Rattle.std.specs.List.{AllByRecursion, fold, list_all}
use Rattle.pf_model.specs.declared.edits.Edit.{Edit}
use Rattle.pf_model.specs.declared.edits.Edit.TheVariants as edit
use Rattle.pf_model.specs.declared.lines.AppLine.{AppLine}
use Rattle.pf_model.specs.declared.lines.AppStep.{AppStep}
use Rattle.pf_model.specs.declared.lines.AppStep.TheVariants as app
use Rattle.pf_model.specs.declared.lines.BaseLine.{BaseLine}
use Rattle.pf_model.specs.declared.lines.BaseStep.{BaseStep}
use Rattle.pf_model.specs.declared.lines.BaseStep.TheVariants as base
use Rattle.pf_model.specs.Edits.{fault_of, effect}
use Rattle.pf_model.specs.Fits.{fits}
use Rattle.pf_model.specs.Merges.{BufferState, empty_buffer, after_step}
use Rattle.pf_history.specs.declared.commands.Caller.{Caller}
use Rattle.pf_history.specs.declared.commands.Caller.TheVariants.{App, Dbase}
use Rattle.pf_history.specs.declared.commands.Command.{Command}
use Rattle.pf_history.specs.declared.commands.Command.TheVariants as command
use Rattle.pf_history.specs.declared.commands.Entry.{Entry}
use Rattle.pf_history.specs.Commands.{command_fits}
use Rattle.pf_history.specs.Objects.{FrameState, next_state}
use Rattle.pf_history.specs.Logs.{Log, is_caller, is_by}
use Rattle.pf_history.specs.Asks.{Wanted, WantEdit, WantView, WantSync, WantFrame, WantClose, Ask, BaseAsk, Turn, asked_from, asked_base_from, turns_from, Meets, Follows, FollowsBase}
use Rattle.play_format.specs.Plays.{app_fits, base_fits, is_link}

-- an element of a list all of whose elements pass a test
pub passes_at : {X : Type 0} (p : X → Bool) (xs : List X) (i : ℕ) (x : X) → list_all p xs ≡ true → slice_get xs i ≡ Some x → p x ≡ true
passes_at p [] i x all at = absurd (cc)
passes_at p (y ∷ xs) zero x all at = ap p (sym (same_Some y x at)) ∙ (and_parts (p y) (list_all p xs) all).0
passes_at p (y ∷ xs) (suc i) x all at = passes_at p xs i x (and_parts (p y) (list_all p xs) all).1 at

-- What the application is asked for

abbrev want_fits : Wanted → Bool
want_fits (WantEdit e) = fits e
want_fits _ = true

abbrev pub AreAskedRight : List Ask → Type 0
AreAskedRight asks = AllByRecursion (λ a. want_fits a.wanted ≡ true) asks

pub asked_right : (channels need : ℕ) (synced : Bool) (lines : List AppLine) → list_all (λ l. app_fits channels l.step) lines ≡ true →
    AreAskedRight (asked_from need synced (map (λ l. l.step) lines))
asked_right channels need synced [] all = (refl, tt)
asked_right channels need synced (l ∷ ls) all =
    let parts = and_parts (app_fits channels l.step) (list_all (λ (x : AppLine). app_fits channels x.step) ls) all in
    by l.step synced parts.0 (λ n b. asked_right channels n b ls parts.1)
  where
    rest : ℕ → Bool → List Ask
    rest n b = asked_from n b (map (λ l. l.step) ls)

    by : (s : AppStep) (b : Bool) → app_fits channels s ≡ true → ((n : ℕ) (b : Bool) → AreAskedRight (rest n b)) →
        AreAskedRight (asked_from need b (s ∷ map (λ l. l.step) ls))
    by (app.Edit e) b here more = (here, more need b)
    by (app.View channel v) b here more = (refl, more need b)
    by app.Sync b here more = (refl, more need true)
    by app.Frame true here more = (refl, more need false)
    by app.Frame false here more = (refl, (refl, more need false))
    by (app.Wait n) b here more = more (max need n) b

met_right : (ahead merges : ℕ) (w : Wanted) (s : FrameState) (c : Command) → Meets ahead merges w s c → want_fits w ≡ true → command_fits c ≡ true
met_right ahead merges (WantEdit e) s c h right = ap command_fits h ∙ right
met_right ahead merges (WantView channel v) s c h right = ap command_fits h
met_right ahead merges WantSync s (command.Sync r) h right = refl
met_right ahead merges WantSync s _ h right = absurd h
met_right ahead merges WantFrame s command.Frame h right = refl
met_right ahead merges WantFrame s _ h right = absurd h
met_right ahead merges WantClose s (command.Sync r) h right = refl
met_right ahead merges WantClose s _ h right = absurd h

-- What the database process is asked for

abbrev pub AreMergesRight : List BaseAsk → Type 0
AreMergesRight asks = AllByRecursion (λ a. list_all fits a.merge.edits ≡ true) asks

link_fits : (e : Edit) → is_link e ≡ true → fits e ≡ true
link_fits (edit.Add p c) h = refl
link_fits (edit.Remove p c) h = refl
link_fits _ h = absurd (cc)

recorded_right : (edits : List Edit) (e : Edit) → list_all fits edits ≡ true → fits e ≡ true → list_all fits (edits ++ e ∷ []) ≡ true
recorded_right edits e all here =
    list_all-append fits edits (e ∷ []) ∙ and_from (list_all fits edits) (fits e && true) all (and_from (fits e) true here refl)

step_right : (b : BufferState) (s : BaseStep) → list_all fits b.edits ≡ true → base_fits s ≡ true → list_all fits (after_step b s).edits ≡ true
step_right b (base.Edit e) all here = by (is_some (fault_of b.graph e))
  where
    by : (t : Bool) → list_all fits (cond {A = BufferState} t (record b { dropped = b.dropped + 1 }) (record b { graph = effect b.graph e; edits = b.edits ++ e ∷ [] })).edits ≡ true
    by true = all
    by false = recorded_right b.edits e all here
step_right b (base.Ask e) all here = recorded_right b.edits e all (link_fits e here)
step_right b base.Buffer all here = all
step_right b base.Merge all here = all
step_right b (base.Await n) all here = all

buffer_right : (b : BufferState) (steps : List BaseStep) → list_all fits b.edits ≡ true → list_all base_fits steps ≡ true →
    list_all fits (fold after_step b steps).edits ≡ true
buffer_right b [] all right = all
buffer_right b (s ∷ steps) all right =
    let parts = and_parts (base_fits s) (list_all base_fits steps) right in
    buffer_right (after_step b s) steps (step_right b s all parts.0) parts.1

pub merges_right : (need : ℕ) (since : List BaseStep) (lines : List BaseLine) → list_all base_fits since ≡ true →
    list_all (λ l. base_fits l.step) lines ≡ true → AreMergesRight (asked_base_from need since (map (λ l. l.step) lines))
merges_right need since [] before all = tt
merges_right need since (l ∷ ls) before all =
    let parts = and_parts (base_fits l.step) (list_all (λ (x : BaseLine). base_fits x.step) ls) all in
    by l.step parts.0 (λ n steps right. merges_right n steps ls right parts.1)
  where
    pushed : (s : BaseStep) → base_fits s ≡ true → list_all base_fits (since ++ s ∷ []) ≡ true
    pushed s here =
        list_all-append base_fits since (s ∷ []) ∙ and_from (list_all base_fits since) (base_fits s && true) before (and_from (base_fits s) true here refl)

    by : (s : BaseStep) → base_fits s ≡ true →
        ((n : ℕ) (steps : List BaseStep) → list_all base_fits steps ≡ true → AreMergesRight (asked_base_from n steps (map (λ l. l.step) ls))) →
        AreMergesRight (asked_base_from need since (s ∷ map (λ l. l.step) ls))
    by base.Buffer here more = more need [] refl
    by (base.Edit e) here more = more need (since ++ base.Edit e ∷ []) (pushed (base.Edit e) here)
    by (base.Ask e) here more = more need (since ++ base.Ask e ∷ []) (pushed (base.Ask e) here)
    by base.Merge here more = (buffer_right empty_buffer since refl before, more need [] refl)
    by (base.Await n) here more = more (max need n) since before

-- what is still asked is right too
pub left_right : (asks : List BaseAsk) (ts : List Turn) (left : List BaseAsk) → FollowsBase asks ts left → AreMergesRight asks → AreMergesRight left
left_right asks [] left h right = subst AreMergesRight h right
left_right [] (t ∷ ts) left h right = absurd h
left_right (a ∷ asks) (t ∷ ts) left h right = left_right asks ts left h.2 right.1

-- The log

pub log_right : (ahead merges : ℕ) (log : Log) (s : FrameState) (asks : List Ask) (base_asks : List BaseAsk) (left : List Ask) (base_left : List BaseAsk) →
    Follows ahead merges asks (turns_from (is_by App) s log) left → FollowsBase base_asks (turns_from (is_by Dbase) s log) base_left →
    AreAskedRight asks → AreMergesRight base_asks → AllByRecursion (λ e. command_fits e.1.command ≡ true) log
log_right ahead merges [] s asks base_asks left base_left h g right base_right = tt
log_right ahead merges (e ∷ es) s asks base_asks left base_left h g right base_right =
    by (λ asks base_asks. log_right ahead merges es (next_state s e.1.command) asks base_asks left base_left) e.1.caller h g
  where
    next : FrameState
    next = next_state s e.1.command

    turn : Turn
    turn = record { found = s; made = e.1.command }

    Right : Type 0
    Right = AllByRecursion (λ (x : ℕ × Entry). command_fits x.1.command ≡ true) (e ∷ es)

    More : Type 0
    More = (asks : List Ask) (base_asks : List BaseAsk) →
        Follows ahead merges asks (turns_from (is_by App) next es) left → FollowsBase base_asks (turns_from (is_by Dbase) next es) base_left →
        AreAskedRight asks → AreMergesRight base_asks → AllByRecursion (λ (x : ℕ × Entry). command_fits x.1.command ≡ true) es

    app_case : More → (asks : List Ask) → Follows ahead merges asks (turn ∷ turns_from (is_by App) next es) left →
        FollowsBase base_asks (turns_from (is_by Dbase) next es) base_left → AreAskedRight asks → Right
    app_case more [] h g right = absurd h
    app_case more (a ∷ rest) h g right =
        (met_right ahead merges a.wanted s e.1.command h.0 right.0, more rest base_asks h.2 g right.1 base_right)

    base_case : More → (base_asks : List BaseAsk) → Follows ahead merges asks (turns_from (is_by App) next es) left →
        FollowsBase base_asks (turn ∷ turns_from (is_by Dbase) next es) base_left → AreMergesRight base_asks → Right
    base_case more [] h g right_bases = absurd g
    base_case more (b ∷ rest) h g right_bases =
        (ap command_fits g.0 ∙ right_bases.0, more asks rest h g.2 right right_bases.1)

    by : More → (k : Caller) → Follows ahead merges asks (cond (is_caller App k) (turn ∷ turns_from (is_by App) next es) (turns_from (is_by App) next es)) left →
        FollowsBase base_asks (cond (is_caller Dbase k) (turn ∷ turns_from (is_by Dbase) next es) (turns_from (is_by Dbase) next es)) base_left → Right
    by more App h g = app_case more asks h g right
    by more Dbase h g = base_case more base_asks h g base_right
