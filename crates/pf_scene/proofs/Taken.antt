-- The geodes of a stocked graph can be cut.
use Rattle.std.proofs.Common.{◌≡◌, ℕ, ◌<◌, ◌≤◌, Bool, true, false, cond, ◌||◌, nat_eq, List, [], ◌∷◌, ◌++◌, Option, Some, None, refl, sym, ◌∙◌, ap, arith}
use Rattle.std.proofs.lemmas.Bool.Decides.{nat_tests}
use Rattle.std.specs.Option.{option_map_or}
use Rattle.std.proofs.lemmas.List.Elements.{All-from_get_or}
use Rattle.std.proofs.Common.{get_or}
use Rattle.pf_model.specs.declared.nodes.Node.{Node}
use Rattle.pf_model.specs.Kinds.{is_geode}
use Rattle.pf_model.specs.Graphs.{SceneGraph, node_at}
use Rattle.pf_model.specs.Limits.{IsRising, IsGraphWithinLimits}
use Rattle.pf_model.proofs.Keeping.{all_found_have}
use Rattle.cycle_buffer.specs.Cycles.{CycleState, CyclesState, cycle_at, written_at, free_at}
use Rattle.update_lists.specs.Marks.{among}
use Rattle.update_lists.specs.Taking.{CanTake, IsWritten, geode_serial, geode_serials}
use Rattle.pf_scene.specs.Stock.{Written, IsStocked}
use Rattle.pf_scene.proofs.Serials.{geodes_once}
use Rattle.pf_scene.proofs.Written.{no_cycle}

pub can_take : (w : Written) (g : SceneGraph) (ids : List ℕ) → IsGraphWithinLimits g → IsStocked w g → IsRising ids → CanTake w (node_at g.nodes) ids
can_take w g ids within stocked rising = record {
  differ = geodes_once g.nodes within.serials_differ ids rising;
  contents = All-from_get_or (λ id. IsWritten w (node_at g.nodes id)) ids 0 (λ i l. stocked.contents (get_or ids i 0));
}

-- no geode has a serial that is still to come
none_to_come : (g : SceneGraph) (s : ℕ) (ids : List ℕ) → IsGraphWithinLimits g → g.next_serial ≤ s → among s (geode_serials (node_at g.nodes) ids) ≡ false
none_to_come g s [] within l = refl
none_to_come g s (id ∷ ids) within l = by (node_at g.nodes id) refl (none_to_come g s ids within l)
  where
    differs : (a b : ℕ) → b < a → nat_eq a b ≡ false
    differs a b l = grind (arith, nat_tests)

    apart : (a b c : ℕ) → b < c → c ≤ a → nat_eq a b ≡ false
    apart a b c h k = differs a b (omega arith)

    both : (p q : Bool) → p ≡ false → q ≡ false → (p || q) ≡ false
    both p q hp hq = ap (λ t. t || q) hp ∙ hq

    or_not : (m : Node) (t : Bool) → nat_eq s m.serial ≡ false → among s (geode_serials (node_at g.nodes) ids) ≡ false → among s (cond t (m.serial ∷ []) [] ++ geode_serials (node_at g.nodes) ids) ≡ false
    or_not m true h rest = both (nat_eq s m.serial) (among s (geode_serials (node_at g.nodes) ids)) h rest
    or_not m false h rest = rest

    by : (o : Option Node) → node_at g.nodes id ≡ o → among s (geode_serials (node_at g.nodes) ids) ≡ false → among s (geode_serial o ++ geode_serials (node_at g.nodes) ids) ≡ false
    by None is rest = rest
    by (Some m) is rest = or_not m (is_geode m.kind) (apart s m.serial g.next_serial (all_found_have (λ (e : ℕ × Node). e.1.serial < g.next_serial) g.nodes within.serials_given id m is) l) rest

-- a new cycle still gets as many copies
pub begins_same : (c d : CyclesState) (g : SceneGraph) (ids : List ℕ) → IsGraphWithinLimits g → IsStocked (written_at c) g → ((s : ℕ) → written_at d s ≡ written_at c s)
    → ((s : ℕ) → among s (geode_serials (node_at g.nodes) ids) ≡ false → free_at d s ≡ free_at c s) → d.copies ≡ c.copies
begins_same c d g ids within stocked written others =
    sym (free_none d (no_cycle d s (written s ∙ none))) ∙ others s (none_to_come g s ids within (low s)) ∙ free_none c (no_cycle c s none)
  where
    s : ℕ
    s = g.next_serial

    low : (n : ℕ) → n ≤ n
    low n = omega arith

    none : written_at c s ≡ None
    none = stocked.fresh s (low s)

    free_none : (x : CyclesState) → cycle_at x s ≡ None → free_at x s ≡ x.copies
    free_none x h = ap (λ (o : Option CycleState). option_map_or (λ k. k.free) o x.copies) h
