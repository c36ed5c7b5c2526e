-- The state after a log, entry by entry.
use Rattle.std.proofs.Common.{◌≡◌, ℕ, zero, suc, ◌+◌, ◌≤◌, Bool, true, false, cond, not, nat_le, List, [], ◌∷◌, ◌++◌, map, take, is_some, slice_get, Some, refl, ◌∙◌, subst, arith}
use Rattle.std.proofs.lemmas.Option.{same_Some}
use Rattle.std.specs.List.{AllByRecursion, fold}
use Rattle.pf_model.specs.declared.edits.Edit.{Edit}
use Rattle.pf_model.specs.declared.edits.Edit.TheVariants as edit
use Rattle.pf_model.specs.declared.nodes.Gone.{Gone}
use Rattle.pf_model.specs.Graphs.{SceneGraph}
use Rattle.pf_model.specs.Edits.{fault_of, effect, after}
use Rattle.pf_model.specs.Merges.{merge_fault, after_all}
use Rattle.pf_model.specs.Copies.{GraveState, is_due, grave_of}
use Rattle.pf_model.proofs.Levels.{all_map}
use Rattle.pf_history.specs.declared.commands.Command.{Command}
use Rattle.pf_history.specs.declared.commands.Command.TheVariants as command
use Rattle.pf_history.specs.declared.commands.Entry.{Entry}
use Rattle.pf_history.specs.Objects.{FrameState, opening_state, next_state}
use Rattle.pf_history.specs.Logs.{Log, state_after, state_of, state_at, CanMake, IsLegalEntry, IsLegalFrom, entry_of}
use Rattle.pf_history.specs.Laws.{OwnEntryLaw, IsOwnThere, LegalEntryLaw, PreparationLaw, GravesLaw}
use Rattle.pf_history.proofs.Lists.{all_append, all_filter}

pub state_append : (s : FrameState) (xs ys : Log) → state_after s (xs ++ ys) ≡ state_after (state_after s xs) ys
state_append s [] ys = refl
state_append s (x ∷ xs) ys = state_append (next_state s x.1.command) xs ys

pub state_push : (s : FrameState) (xs : Log) (e : ℕ × Entry) → state_after s (xs ++ e ∷ []) ≡ next_state (state_after s xs) e.1.command
state_push s xs e = state_append s xs (e ∷ [])

pub legal_push : (s : FrameState) (xs : Log) (e : ℕ × Entry) → IsLegalFrom s xs → IsLegalEntry (state_after s xs) e.1 → IsLegalFrom s (xs ++ e ∷ [])
legal_push s [] e legal this = (this, tt)
legal_push s (x ∷ xs) e legal this = (legal.0, legal_push (next_state s x.1.command) xs e legal.1 this)

-- a front of a legal log is legal, and so is the rest from the state behind it
pub legal_front : (s : FrameState) (xs ys : Log) → IsLegalFrom s (xs ++ ys) → IsLegalFrom s xs
legal_front s [] ys legal = tt
legal_front s (x ∷ xs) ys legal = (legal.0, legal_front (next_state s x.1.command) xs ys legal.1)

pub legal_rest : (s : FrameState) (xs ys : Log) → IsLegalFrom s (xs ++ ys) → IsLegalFrom (state_after s xs) ys
legal_rest s [] ys legal = legal
legal_rest s (x ∷ xs) ys legal = legal_rest (next_state s x.1.command) xs ys legal.1

pub legal_at : (s : FrameState) (log : Log) (j : ℕ) (e : ℕ × Entry) → IsLegalFrom s log → slice_get log j ≡ Some e → IsLegalEntry (state_after s (take j log)) e.1
legal_at s [] j e legal at = absurd (cc)
legal_at s (d ∷ log) zero e legal at = subst (λ (x : ℕ × Entry). IsLegalEntry s x.1) (same_Some d e at) legal.0
legal_at s (d ∷ log) (suc j) e legal at = legal_at (next_state s d.1.command) log j e legal.1 at

own_there : (channels : ℕ) (log : Log) (j : ℕ) (e : Entry) → IsLegalEntry (state_at channels log j) e → IsOwnThere channels log j e
own_there channels log j e legal =
    record { own = λ i. record { caller = legal.caller i; command = e.command; reply = legal.reply i }; can = legal.sync }

pub legal_entry_law : LegalEntryLaw
legal_entry_law channels log j e legal at = own_there channels log j e.1 (legal_at (opening_state channels) log j e legal at)

pub own_entry_legal : (s : FrameState) (c : Command) → CanMake s c → IsLegalEntry s (entry_of s c)
own_entry_legal s c can = record { reply = refl; sync = can; caller = refl }

pub own_entry_law : OwnEntryLaw
own_entry_law channels log seat c legal can =
    record {
      legal = legal_push (opening_state channels) log (seat, entry_of (state_of channels log) c) legal (own_entry_legal (state_of channels log) c can);
      moved = state_push (opening_state channels) log (seat, entry_of (state_of channels log) c);
    }

-- A fact that each command keeps holds after every log

pub kept_after : (P : FrameState → Type 0) → ((s : FrameState) (c : Command) → P s → P (next_state s c)) → (s : FrameState) (log : Log) → P s → P (state_after s log)
kept_after P step s [] h = h
kept_after P step s (e ∷ es) h = kept_after P step (next_state s e.1.command) es (step s e.1.command h)

-- The number of the frame in preparation

pub effect_time : (g : SceneGraph) (e : Edit) → (effect g e).time ≡ g.time
effect_time g (edit.Make id kind) = refl
effect_time g (edit.Delete id) = refl
effect_time g e = refl

pub after_time : (g : SceneGraph) (e : Edit) → (after g e).time ≡ g.time
after_time g e = by (is_some (fault_of g e))
  where
    by : (t : Bool) → (cond t g (effect g e)).time ≡ g.time
    by true = refl
    by false = effect_time g e

pub effects_time : (g : SceneGraph) (es : List Edit) → (fold effect g es).time ≡ g.time
effects_time g [] = refl
effects_time g (e ∷ es) = effects_time (effect g e) es ∙ effect_time g e

pub after_all_time : (g : SceneGraph) (es : List Edit) → (after_all g es).time ≡ g.time
after_all_time g es = by (is_some (merge_fault g es))
  where
    by : (t : Bool) → (cond t g (fold effect g es)).time ≡ g.time
    by true = refl
    by false = effects_time g es

abbrev pub IsPreparing : FrameState → Type 0
IsPreparing s = s.graph.time ≡ s.frames + 1

pub preparing_next : (s : FrameState) (c : Command) → IsPreparing s → IsPreparing (next_state s c)
preparing_next s (command.Edit e) h = after_time s.graph e ∙ h
preparing_next s (command.Merge m) h = after_all_time s.graph m.edits ∙ h
preparing_next s (command.View channel v) h = h
preparing_next s (command.Sync r) h = h
preparing_next s command.Frame h = omega arith

pub preparation_law : PreparationLaw
preparation_law channels log = kept_after IsPreparing preparing_next (opening_state channels) log (omega arith)

-- Graves

grave_last : (frames : ℕ) (g : Gone) → (grave_of frames g).last ≤ frames
grave_last frames g = by (nat_le g.born frames)
  where
    by : (t : Bool) → cond t frames 0 ≤ frames
    by true = omega arith
    by false = omega arith

buried_last : (frames : ℕ) (gone : List Gone) → AllByRecursion (λ g. g.last ≤ frames) (map (grave_of frames) gone)
buried_last frames [] = tt
buried_last frames (g ∷ gs) = (grave_last frames g, buried_last frames gs)

abbrev AreLast : FrameState → Type 0
AreLast s = AllByRecursion (λ g. g.last ≤ s.frames) s.graves

last_next : (s : FrameState) (c : Command) → AreLast s → AreLast (next_state s c)
last_next s (command.Edit e) h =
    all_append (λ g. g.last ≤ s.frames) s.graves (map (grave_of s.frames) (after s.graph e).gone) h (buried_last s.frames (after s.graph e).gone)
last_next s (command.Merge m) h =
    all_append (λ g. g.last ≤ s.frames) s.graves (map (grave_of s.frames) (after_all s.graph m.edits).gone) h (buried_last s.frames (after_all s.graph m.edits).gone)
last_next s (command.View channel v) h = h
last_next s (command.Sync r) h = all_filter (λ g. g.last ≤ s.frames) (λ g. not (is_due r g)) s.graves h
last_next s command.Frame h = all_map (λ (g : GraveState). g.last ≤ s.frames) (λ g. g.last ≤ s.frames + 1) (λ g l. omega arith) s.graves h

pub graves_law : GravesLaw
graves_law channels log = kept_after AreLast last_next (opening_state channels) log tt
