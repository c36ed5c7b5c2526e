-- The serials that edits use, and the edits of a merge as they are made one after the other.
use Rattle.std.proofs.Common.{◌≡◌, ℕ, ◌+◌, ◌≤◌, Bool, true, false, cond, List, [], ◌∷◌, length, drop, is_some, arith}
use Rattle.std.specs.List.{fold, list_all}
use Rattle.pf_model.specs.declared.edits.Edit.{Edit}
use Rattle.pf_model.specs.declared.edits.Edit.TheVariants as edit
use Rattle.pf_model.specs.Graphs.{SceneGraph}
use Rattle.pf_model.specs.Edits.{fault_of, effect, after}
use Rattle.pf_model.specs.Merges.{fault_from, merge_fault, after_all}
use Rattle.pf_model.specs.Fits.{fits}

effect_serials : (g : SceneGraph) (e : Edit) → (effect g e).next_serial ≤ g.next_serial + 1
effect_serials g (edit.Make id kind) = omega arith
effect_serials g (edit.Delete id) = omega arith
effect_serials g e = omega arith

pub after_serials : (g : SceneGraph) (e : Edit) → (after g e).next_serial ≤ g.next_serial + 1
after_serials g e = by (is_some (fault_of g e))
  where
    by : (t : Bool) → (cond t g (effect g e)).next_serial ≤ g.next_serial + 1
    by true = omega arith
    by false = effect_serials g e

effects_serials : (g : SceneGraph) (es : List Edit) → (fold effect g es).next_serial ≤ g.next_serial + length es
effects_serials g [] = omega arith
effects_serials g (e ∷ es) =
    let one = effect_serials g e in
    let rest = effects_serials (effect g e) es in
    omega (arith, one, rest)

pub after_all_serials : (g : SceneGraph) (es : List Edit) → (after_all g es).next_serial ≤ g.next_serial + length es
after_all_serials g es = by (is_some (merge_fault g es))
  where
    by : (t : Bool) → (cond t g (fold effect g es)).next_serial ≤ g.next_serial + length es
    by true = omega arith
    by false = effects_serials g es

-- The first i edits of all were made without a fault: what is left gives from here what all give from the start.
pub record MadeSoFar (all : List Edit) (from : SceneGraph) (i : ℕ) (g : SceneGraph) : Type 0 where
  pub fault : fault_from (i + 1) g (drop i all) ≡ merge_fault from all
  pub graph : fold effect g (drop i all) ≡ fold effect from all
  pub serials : g.next_serial ≤ from.next_serial + i
  pub fits : list_all fits (drop i all) ≡ true
