-- How many frames and merges a history has whose turns are the first of what a play asks.
use Rattle.std.proofs.Common.{◌≡◌, ℕ, ◌+◌, max, Bool, true, false, cond, List, [], ◌∷◌, ◌++◌, map, take, drop, length, slice_get, Some, refl, sym, ap, ◌∙◌, subst, add-one, arith}
use Rattle.std.proofs.lemmas.List.{take-append-drop, map-append, drop-map}
use Rattle.pf_model.specs.declared.lines.AppLine.{AppLine}
use Rattle.pf_model.specs.declared.lines.AppStep.{AppStep}
use Rattle.pf_model.specs.declared.lines.AppStep.TheVariants as app
use Rattle.pf_model.specs.declared.lines.BaseLine.{BaseLine}
use Rattle.pf_model.specs.declared.lines.BaseStep.{BaseStep}
use Rattle.pf_model.specs.declared.lines.BaseStep.TheVariants as base
use Rattle.pf_history.specs.declared.commands.Caller.{Caller}
use Rattle.pf_history.specs.declared.commands.Caller.TheVariants.{App, Dbase}
use Rattle.pf_history.specs.declared.commands.Command.{Command}
use Rattle.pf_history.specs.declared.commands.Command.TheVariants as command
use Rattle.pf_history.specs.declared.commands.Merge.{Merge}
use Rattle.pf_history.specs.Objects.{FrameState, next_state}
use Rattle.pf_history.specs.Logs.{Log, state_after, is_caller, is_by}
use Rattle.pf_history.specs.Asks.{Wanted, WantEdit, WantView, WantSync, WantFrame, WantClose, Ask, BaseAsk, Turn, asked_from, asked_base_from, turns_from, Meets, Follows, FollowsBase}
use Rattle.play_check.specs.Lines.{Mark, app_marks, base_marks, base_given, given_by, total}
use Rattle.play_check.specs.Orders.{frames_of}
use Rattle.stage_parts.proofs.DbaseSteps.{take_get}

-- how many Frames are asked for
abbrev pub frames_asked : List Ask → ℕ
frames_asked [] = 0
frames_asked (a ∷ asks) = frames_of a.wanted + frames_asked asks

-- What a turn adds

app_adds : (ahead merges : ℕ) (w : Wanted) (s : FrameState) (c : Command) → Meets ahead merges w s c →
    ((next_state s c).frames ≡ s.frames + frames_of w) × ((next_state s c).merges ≡ s.merges)
app_adds ahead merges (WantEdit e) s c h =
    subst (λ (x : Command). ((next_state s x).frames ≡ s.frames + 0) × ((next_state s x).merges ≡ s.merges)) (sym h) (omega arith, refl)
app_adds ahead merges (WantView channel v) s c h =
    subst (λ (x : Command). ((next_state s x).frames ≡ s.frames + 0) × ((next_state s x).merges ≡ s.merges)) (sym h) (omega arith, refl)
app_adds ahead merges WantSync s (command.Sync r) h = (omega arith, refl)
app_adds ahead merges WantSync s _ h = absurd h
app_adds ahead merges WantFrame s command.Frame h = (refl, refl)
app_adds ahead merges WantFrame s _ h = absurd h
app_adds ahead merges WantClose s (command.Sync r) h = (omega arith, refl)
app_adds ahead merges WantClose s _ h = absurd h

merge_adds : (s : FrameState) (c : Command) (m : Merge) → c ≡ command.Merge m →
    ((next_state s c).frames ≡ s.frames) × ((next_state s c).merges ≡ s.merges + 1)
merge_adds s c m h =
    subst (λ (x : Command). ((next_state s x).frames ≡ s.frames) × ((next_state s x).merges ≡ s.merges + 1)) (sym h) (refl, refl)

-- The frames and the merges made are those asked for but the ones that are still asked.
pub record AreMade (s t : FrameState) (asks : List Ask) (base_asks : List BaseAsk) (left : List Ask) (base_left : List BaseAsk) : Type 0 where
  pub frames : t.frames + frames_asked left ≡ s.frames + frames_asked asks
  pub merges : t.merges + length base_left ≡ s.merges + length base_asks

pub are_made : (ahead merges : ℕ) (log : Log) (s : FrameState) (asks : List Ask) (base_asks : List BaseAsk) (left : List Ask) (base_left : List BaseAsk) →
    Follows ahead merges asks (turns_from (is_by App) s log) left → FollowsBase base_asks (turns_from (is_by Dbase) s log) base_left →
    AreMade s (state_after s log) asks base_asks left base_left
are_made ahead merges [] s asks base_asks left base_left h g =
    record {
      frames = ap (λ (x : List Ask). s.frames + frames_asked x) (sym h);
      merges = ap (λ (x : List BaseAsk). s.merges + length x) (sym g);
    }
are_made ahead merges (e ∷ es) s asks base_asks left base_left h g =
    by (λ asks base_asks. are_made ahead merges es (next_state s e.1.command) asks base_asks left base_left) e.1.caller h g
  where
    next : FrameState
    next = next_state s e.1.command

    turn : Turn
    turn = record { found = s; made = e.1.command }

    More : Type 0
    More = (asks : List Ask) (base_asks : List BaseAsk) →
        Follows ahead merges asks (turns_from (is_by App) next es) left → FollowsBase base_asks (turns_from (is_by Dbase) next es) base_left →
        AreMade next (state_after next es) asks base_asks left base_left

    app_case : More → (asks : List Ask) → Follows ahead merges asks (turn ∷ turns_from (is_by App) next es) left →
        FollowsBase base_asks (turns_from (is_by Dbase) next es) base_left →
        AreMade s (state_after next es) asks base_asks left base_left
    app_case more [] h g = absurd h
    app_case more (a ∷ rest) h g =
        let adds = app_adds ahead merges a.wanted s e.1.command h.0 in
        let m = more rest base_asks h.2 g in
        record { frames = omega (arith, adds.0, m.frames); merges = omega (arith, adds.1, m.merges) }

    base_case : More → (base_asks : List BaseAsk) → Follows ahead merges asks (turns_from (is_by App) next es) left →
        FollowsBase base_asks (turn ∷ turns_from (is_by Dbase) next es) base_left →
        AreMade s (state_after next es) asks base_asks left base_left
    base_case more [] h g = absurd g
    base_case more (b ∷ rest) h g =
        let adds = merge_adds s e.1.command b.merge g.0 in
        let m = more asks rest h g.2 in
        record { frames = omega (arith, adds.0, m.frames); merges = omega (arith, adds.1, m.merges) }

    by : More → (k : Caller) → Follows ahead merges asks (cond (is_caller App k) (turn ∷ turns_from (is_by App) next es) (turns_from (is_by App) next es)) left →
        FollowsBase base_asks (cond (is_caller Dbase k) (turn ∷ turns_from (is_by Dbase) next es) (turns_from (is_by Dbase) next es)) base_left →
        AreMade s (state_after next es) asks base_asks left base_left
    by more App h g = app_case more asks h g
    by more Dbase h g = base_case more base_asks h g

-- What lines give

pub frames_given : (need : ℕ) (synced : Bool) (lines : List AppLine) →
    frames_asked (asked_from need synced (map (λ l. l.step) lines)) ≡ total (app_marks lines)
frames_given need synced [] = refl
frames_given need synced (l ∷ ls) = by l.step synced (λ n b. frames_given n b ls)
  where
    rest : ℕ → Bool → List Ask
    rest n b = asked_from n b (map (λ l. l.step) ls)

    by : (s : AppStep) (b : Bool) → ((n : ℕ) (b : Bool) → frames_asked (rest n b) ≡ total (app_marks ls)) →
        frames_asked (asked_from need b (s ∷ map (λ l. l.step) ls)) ≡ total (app_marks (record l { step = s } ∷ ls))
    by (app.Edit e) b more = let m = more need b in omega (arith, m)
    by (app.View channel v) b more = let m = more need b in omega (arith, m)
    by app.Sync b more = let m = more need true in omega (arith, m)
    by app.Frame true more = let m = more need false in omega (arith, m)
    by app.Frame false more = let m = more need false in omega (arith, m)
    by (app.Wait n) b more = let m = more (max need n) b in omega (arith, m)

pub merges_given : (need : ℕ) (since : List BaseStep) (lines : List BaseLine) →
    length (asked_base_from need since (map (λ l. l.step) lines)) ≡ total (base_marks lines)
merges_given need since [] = refl
merges_given need since (l ∷ ls) = by l.step (λ n steps. merges_given n steps ls)
  where
    by : (s : BaseStep) → ((n : ℕ) (steps : List BaseStep) → length (asked_base_from n steps (map (λ l. l.step) ls)) ≡ total (base_marks ls)) →
        length (asked_base_from need since (s ∷ map (λ l. l.step) ls)) ≡ total (base_marks (record l { step = s } ∷ ls))
    by base.Buffer more = let m = more need [] in omega (arith, m)
    by (base.Edit e) more = let m = more need (since ++ base.Edit e ∷ []) in omega (arith, m)
    by (base.Ask e) more = let m = more need (since ++ base.Ask e ∷ []) in omega (arith, m)
    by base.Merge more = let m = more need [] in omega (arith, m)
    by (base.Await n) more = let m = more (max need n) since in omega (arith, m)

pub total_append : (xs ys : List Mark) → total (xs ++ ys) ≡ total xs + total ys
total_append [] ys = omega arith
total_append (m ∷ xs) ys = let rest = total_append xs ys in omega (arith, rest)

-- lines passed and lines left give what all give
pub app_total : (n : ℕ) (lines : List AppLine) → total (app_marks lines) ≡ total (app_marks (take n lines)) + total (app_marks (drop n lines))
app_total n lines =
    ap (λ (ls : List AppLine). total (app_marks ls)) (sym (take-append-drop n lines))
    ∙ ap total (map-append _ (take n lines) (drop n lines)) ∙ total_append (app_marks (take n lines)) (app_marks (drop n lines))

pub base_total : (n : ℕ) (lines : List BaseLine) → total (base_marks lines) ≡ total (base_marks (take n lines)) + total (base_marks (drop n lines))
base_total n lines =
    ap (λ (ls : List BaseLine). total (base_marks ls)) (sym (take-append-drop n lines))
    ∙ ap total (map-append _ (take n lines) (drop n lines)) ∙ total_append (base_marks (take n lines)) (base_marks (drop n lines))

-- one line more
pub total_more : (n : ℕ) (lines : List BaseLine) (l : BaseLine) → slice_get lines n ≡ Some l →
    total (base_marks (take (n + 1) lines)) ≡ total (base_marks (take n lines)) + given_by (base_given l.step)
total_more n lines l at =
    let grown = ap (λ (m : ℕ). total (base_marks (take m lines))) (add-one n)
    ∙ ap (λ (ls : List BaseLine). total (base_marks ls)) (take_get lines n l at)
    ∙ ap total (map-append _ (take n lines) (l ∷ [])) ∙ total_append (base_marks (take n lines)) (base_marks (l ∷ [])) in
    omega (arith, grown)

-- only a Merge gives one
pub no_merge : (s : BaseStep) → (s ≡ base.Merge → ⊥) → given_by (base_given s) ≡ 0
no_merge base.Buffer other = refl
no_merge (base.Edit e) other = refl
no_merge (base.Ask e) other = refl
no_merge base.Merge other = absurd (other refl)
no_merge (base.Await n) other = refl

-- what the lines left ask for
pub frames_left : (need : ℕ) (synced : Bool) (n : ℕ) (lines : List AppLine) →
    frames_asked (asked_from need synced (drop n (map (λ l. l.step) lines))) ≡ total (app_marks (drop n lines))
frames_left need synced n lines =
    ap (λ (steps : List AppStep). frames_asked (asked_from need synced steps)) (drop-map (λ (l : AppLine). l.step) n lines)
    ∙ frames_given need synced (drop n lines)

pub merges_left : (need : ℕ) (since : List BaseStep) (n : ℕ) (lines : List BaseLine) →
    length (asked_base_from need since (drop n (map (λ l. l.step) lines))) ≡ total (base_marks (drop n lines))
merges_left need since n lines =
    ap (λ (steps : List BaseStep). length (asked_base_from need since steps)) (drop-map (λ (l : BaseLine). l.step) n lines)
    ∙ merges_given need since (drop n lines)
