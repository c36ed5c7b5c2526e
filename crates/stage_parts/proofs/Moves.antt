-- A pipe that fits moves at most so often.
use Rattle.std.proofs.Common.{◌≡◌, ℕ, suc, ◌+◌, ◌*◌, ◌≤◌, Bool, true, false, cond, List, [], ◌∷◌, ◌++◌, map, max, length, refl, arith}
use Rattle.std.proofs.lemmas.List.{length-map}
use Rattle.pf_model.specs.declared.lines.AppLine.{AppLine}
use Rattle.pf_model.specs.declared.lines.AppStep.{AppStep}
use Rattle.pf_model.specs.declared.lines.AppStep.TheVariants as app
use Rattle.pf_model.specs.declared.lines.BaseLine.{BaseLine}
use Rattle.pf_model.specs.declared.lines.BaseStep.{BaseStep}
use Rattle.pf_model.specs.declared.lines.BaseStep.TheVariants as base
use Rattle.pf_history.specs.declared.commands.Caller.{Caller}
use Rattle.pf_history.specs.declared.commands.Caller.TheVariants.{App, Dbase}
use Rattle.pf_history.specs.Objects.{FrameState, opening_state, next_state}
use Rattle.pf_history.specs.Logs.{Log, is_caller, is_by}
use Rattle.pf_history.specs.Asks.{Ask, BaseAsk, Turn, asked_app, asked_dbase, asked_from, asked_base_from, turns_from, Follows, FollowsBase}
use Rattle.pf_history.specs.Fits.{turns_of}
use Rattle.stage_parts.specs.States.{still_asked, still_asked_dbase}
use Rattle.stage_parts.specs.Moves.{MovesLaw}
use Rattle.stage_parts.proofs.Counting.{are_many, held_some}

-- the edits, views, Syncs and Frames that a script asks for are at most two a line, and the last Sync
pub asked_length : (need : ℕ) (synced : Bool) (steps : List AppStep) → length (asked_from need synced steps) ≤ 2 * length steps + 1
asked_length need synced [] = omega arith
asked_length need synced (app.Edit e ∷ steps) = let rest = asked_length need synced steps in omega (arith, rest)
asked_length need synced (app.View channel v ∷ steps) = let rest = asked_length need synced steps in omega (arith, rest)
asked_length need synced (app.Sync ∷ steps) = let rest = asked_length need true steps in omega (arith, rest)
asked_length need true (app.Frame ∷ steps) = let rest = asked_length need false steps in omega (arith, rest)
asked_length need false (app.Frame ∷ steps) = let rest = asked_length need false steps in omega (arith, rest)
asked_length need synced (app.Wait n ∷ steps) = let rest = asked_length (max need n) synced steps in omega (arith, rest)

asked_base_length : (need : ℕ) (since steps : List BaseStep) → length (asked_base_from need since steps) ≤ length steps
asked_base_length need since [] = omega arith
asked_base_length need since (base.Buffer ∷ steps) = let rest = asked_base_length need [] steps in omega (arith, rest)
asked_base_length need since (base.Edit e ∷ steps) = let rest = asked_base_length need (since ++ base.Edit e ∷ []) steps in
    omega (arith, rest)
asked_base_length need since (base.Ask e ∷ steps) = let rest = asked_base_length need (since ++ base.Ask e ∷ []) steps in
    omega (arith, rest)
asked_base_length need since (base.Merge ∷ steps) = let rest = asked_base_length need [] steps in omega (arith, rest)
asked_base_length need since (base.Await n ∷ steps) = let rest = asked_base_length (max need n) since steps in omega (arith, rest)

follows_length : (ahead merges : ℕ) (asks : List Ask) (ts : List Turn) (left : List Ask) → Follows ahead merges asks ts left →
    length ts ≤ length asks
follows_length ahead merges asks [] left h = omega arith
follows_length ahead merges [] (t ∷ ts) left h = absurd h
follows_length ahead merges (a ∷ asks) (t ∷ ts) left h = let rest = follows_length ahead merges asks ts left h.2 in omega (arith, rest)

follows_base_length : (asks : List BaseAsk) (ts : List Turn) (left : List BaseAsk) → FollowsBase asks ts left → length ts ≤ length asks
follows_base_length asks [] left h = omega arith
follows_base_length [] (t ∷ ts) left h = absurd h
follows_base_length (a ∷ asks) (t ∷ ts) left h = let rest = follows_base_length asks ts left h.2 in omega (arith, rest)

-- each entry is one caller's turn
entries : (s : FrameState) (log : Log) → length log ≡ length (turns_from (is_by App) s log) + length (turns_from (is_by Dbase) s log)
entries s [] = refl
entries s (e ∷ es) = by e.1.caller (entries (next_state s e.1.command) es)
  where
    turn : Turn
    turn = record { found = s; made = e.1.command }

    rest : Caller → List Turn
    rest caller = turns_from (is_by caller) (next_state s e.1.command) es

    by : (c : Caller) → length es ≡ length (rest App) + length (rest Dbase) →
        suc (length es) ≡ length (cond (is_caller App c) (turn ∷ rest App) (rest App)) + length
        (cond (is_caller Dbase c) (turn ∷ rest Dbase) (rest Dbase))
    by App few = omega (arith, few)
    by Dbase few = omega (arith, few)

pub moves_law : MovesLaw
moves_law g dbase seats s fits within base_within =
    let many = are_many g dbase seats s fits in
    let all = entries (opening_state g.channels) s.log in
    let made =
    follows_length g.ahead (length (asked_dbase dbase)) (asked_app g.lines) (turns_of g.channels App s.log)
    (still_asked g s.app) fits.history.follows.follows_app in
    let merged =
    follows_base_length (asked_dbase dbase) (turns_of g.channels Dbase s.log)
    (still_asked_dbase dbase s.dbase) fits.history.follows.follows_dbase in
    let asked = asked_length 0 false (map (λ (x : AppLine). x.step) g.lines) in
    let asked_merges = asked_base_length 0 [] (map (λ (x : BaseLine). x.step) dbase) in
    let long = length-map g.lines (λ (x : AppLine). x.step) in
    let base_long = length-map dbase (λ (x : BaseLine). x.step) in
    let some_a = held_some s.a.sent s.app.held in
    let some_b = held_some s.b.sent s.cull.held in
    let some_c = held_some s.c.sent s.draw.held in
    omega (
      arith,
      all,
      made,
      merged,
      asked,
      asked_merges,
      long,
      base_long,
      some_a,
      some_b,
      some_c,
      many.a,
      many.a_taken,
      many.b,
      many.b_taken,
      many.c,
      many.c_taken,
      many.loads,
      fits.app.few,
      within,
      base_within,
    )
