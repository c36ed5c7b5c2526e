-- How heavy a log is whose turns are the first of what a play asks.
use Rattle.std.proofs.Common.{◌≡◌, ℕ, ◌+◌, ◌*◌, ◌≤◌, Bool, true, false, cond, List, [], ◌∷◌, ◌++◌, map, max, length, is_some, refl, ap, arith}
use Rattle.std.proofs.lemmas.List.{length-map, length_push}
use Rattle.std.proofs.lemmas.List.Sums.{sum_by-cons}
use Rattle.std.specs.List.{fold}
use Rattle.pf_model.specs.declared.lines.AppLine.{AppLine}
use Rattle.pf_model.specs.declared.lines.BaseLine.{BaseLine}
use Rattle.pf_model.specs.declared.lines.BaseStep.{BaseStep}
use Rattle.pf_model.specs.declared.lines.BaseStep.TheVariants as base
use Rattle.pf_model.specs.Edits.{fault_of, effect}
use Rattle.pf_model.specs.Merges.{BufferState, empty_buffer, after_step}
use Rattle.pf_history.specs.declared.commands.Caller.{Caller}
use Rattle.pf_history.specs.declared.commands.Caller.TheVariants.{App, Dbase}
use Rattle.pf_history.specs.declared.commands.Command.{Command}
use Rattle.pf_history.specs.declared.commands.Command.TheVariants as command
use Rattle.pf_history.specs.declared.commands.Entry.{Entry}
use Rattle.pf_history.specs.Objects.{FrameState, opening_state, next_state}
use Rattle.pf_history.specs.Logs.{Log, is_caller, is_by}
use Rattle.pf_history.specs.Asks.{Wanted, WantEdit, WantView, WantSync, WantFrame, WantClose, Ask, BaseAsk, Turn, asked_app, asked_dbase, asked_base_from, turns_from, Meets, Follows, FollowsBase}
use Rattle.pf_history.specs.Fits.{turns_of}
use Rattle.pf_scene.specs.Scenes.{weight_of, weight_in}
use Rattle.stage_parts.proofs.Moves.{asked_length}

abbrev turns_weight : List Turn → ℕ
turns_weight [] = 0
turns_weight (t ∷ ts) = weight_of t.made + turns_weight ts

-- the weight of the merges that are asked for
abbrev pub asks_weight : List BaseAsk → ℕ
asks_weight [] = 0
asks_weight (a ∷ asks) = 1 + length a.merge.edits + asks_weight asks

-- the weight of a log is that of its turns
parted : (s : FrameState) (log : Log) →
    weight_in log ≡ turns_weight (turns_from (is_by App) s log) + turns_weight (turns_from (is_by Dbase) s log)
parted s [] = refl
parted s (e ∷ es) =
    let first = sum_by-cons (λ (x : ℕ × Entry). weight_of x.1.command) e es in
    by e.1.caller first (parted (next_state s e.1.command) es)
  where
    turn : Turn
    turn = record { found = s; made = e.1.command }

    rest : Caller → List Turn
    rest caller = turns_from (is_by caller) (next_state s e.1.command) es

    by : (c : Caller) → weight_in (e ∷ es) ≡ weight_of e.1.command + weight_in es →
        weight_in es ≡ turns_weight (rest App) + turns_weight (rest Dbase) →
        weight_in (e ∷ es)
        ≡ turns_weight (cond (is_caller App c) (turn ∷ rest App) (rest App))
        + turns_weight (cond (is_caller Dbase c) (turn ∷ rest Dbase) (rest Dbase))
    by App first few = omega (arith, first, few)
    by Dbase first few = omega (arith, first, few)

-- The application's turns

light : (ahead merges : ℕ) (w : Wanted) (s : FrameState) (c : Command) → Meets ahead merges w s c → weight_of c ≡ 1
light ahead merges (WantEdit e) s c h = ap weight_of h
light ahead merges (WantView channel v) s c h = ap weight_of h
light ahead merges WantSync s (command.Sync r) h = refl
light ahead merges WantSync s _ h = absurd h
light ahead merges WantFrame s command.Frame h = refl
light ahead merges WantFrame s _ h = absurd h
light ahead merges WantClose s (command.Sync r) h = refl
light ahead merges WantClose s _ h = absurd h

app_weight : (ahead merges : ℕ) (asks : List Ask) (ts : List Turn) (left : List Ask) → Follows ahead merges asks ts left →
    turns_weight ts + length left ≡ length asks
app_weight ahead merges asks [] left h = let same : length asks ≡ length left = ap length h in omega (arith, same)
app_weight ahead merges [] (t ∷ ts) left h = absurd h
app_weight ahead merges (a ∷ asks) (t ∷ ts) left h =
    let one = light ahead merges a.wanted t.found t.made h.0 in
    let rest = app_weight ahead merges asks ts left h.2 in
    omega (arith, one, rest)

-- The merges

base_weight : (asks : List BaseAsk) (ts : List Turn) (left : List BaseAsk) → FollowsBase asks ts left →
    turns_weight ts + asks_weight left ≡ asks_weight asks
base_weight asks [] left h = let same : asks_weight asks ≡ asks_weight left = ap asks_weight h in omega (arith, same)
base_weight [] (t ∷ ts) left h = absurd h
base_weight (a ∷ asks) (t ∷ ts) left h =
    let one : weight_of t.made ≡ 1 + length a.merge.edits = ap weight_of h.0 in
    let rest = base_weight asks ts left h.2 in
    omega (arith, one, rest)

one_edit : (b : BufferState) (s : BaseStep) → length (after_step b s).edits ≤ length b.edits + 1
one_edit b (base.Edit e) = by (is_some (fault_of b.graph e))
  where
    by : (t : Bool) → length (cond {A = BufferState} t (record b { dropped = b.dropped + 1 }) (record b { graph = effect b.graph e; edits = b.edits ++ e ∷ [] })).edits ≤ length b.edits + 1
    by true = omega arith
    by false = let long = length_push b.edits e in omega (arith, long)
one_edit b (base.Ask e) = let long = length_push b.edits e in omega (arith, long)
one_edit b base.Buffer = omega arith
one_edit b base.Merge = omega arith
one_edit b (base.Await n) = omega arith

few_edits : (b : BufferState) (steps : List BaseStep) → length (fold after_step b steps).edits ≤ length b.edits + length steps
few_edits b [] = omega arith
few_edits b (s ∷ steps) = let one = one_edit b s in let rest = few_edits (after_step b s) steps in omega (arith, one, rest)

asked_weight : (need : ℕ) (since steps : List BaseStep) → asks_weight (asked_base_from need since steps) ≤ length since + length steps
asked_weight need since [] = omega arith
asked_weight need since (base.Buffer ∷ steps) = let rest = asked_weight need [] steps in omega (arith, rest)
asked_weight need since (base.Edit e ∷ steps) =
    let rest = asked_weight need (since ++ base.Edit e ∷ []) steps in
    let long = length_push since (base.Edit e) in
    omega (arith, rest, long)
asked_weight need since (base.Ask e ∷ steps) =
    let rest = asked_weight need (since ++ base.Ask e ∷ []) steps in
    let long = length_push since (base.Ask e) in
    omega (arith, rest, long)
asked_weight need since (base.Merge ∷ steps) =
    let rest = asked_weight need [] steps in
    let few = few_edits empty_buffer since in
    omega (arith, rest, few)
asked_weight need since (base.Await n ∷ steps) = let rest = asked_weight (max need n) since steps in omega (arith, rest)

-- The log and the merges that are still asked for are no heavier than the play.
pub weights : (channels ahead merges : ℕ) (lines : List AppLine) (dbase : List BaseLine) (log : Log) (left : List Ask) (base_left : List BaseAsk) →
    Follows ahead merges (asked_app lines) (turns_of channels App log) left → FollowsBase (asked_dbase dbase) (turns_of channels Dbase log) base_left →
    weight_in log + asks_weight base_left ≤ 2 * length lines + 1 + length dbase
weights channels ahead merges lines dbase log left base_left h g =
    let parts = parted (opening_state channels) log in
    let made = app_weight ahead merges (asked_app lines) (turns_of channels App log) left h in
    let merged = base_weight (asked_dbase dbase) (turns_of channels Dbase log) base_left g in
    let asked = asked_length 0 false (map (λ (x : AppLine). x.step) lines) in
    let asked_merges = asked_weight 0 [] (map (λ (x : BaseLine). x.step) dbase) in
    let long = length-map lines (λ (x : AppLine). x.step) in
    let base_long = length-map dbase (λ (x : BaseLine). x.step) in
    omega (arith, parts, made, merged, asked, asked_merges, long, base_long)
