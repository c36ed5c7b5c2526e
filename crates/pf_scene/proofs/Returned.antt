-- How many copies are out after a Sync.
use Rattle.std.proofs.Common.{◌≡◌, ◌⊎◌, inl, inr, ℕ, ◌+◌, ◌-◌, ◌<◌, ◌≤◌, true, List, Option, Some, None, get_or, is_some, refl, sym, ◌∙◌, ap, subst, arith}
use Rattle.std.proofs.lemmas.Bool.{cases_lt}
use Rattle.std.proofs.lemmas.List.FromFn.{get_or-map-range_with_len}
use Rattle.pf_model.specs.declared.geometry.Tri.{Tri}
use Rattle.pf_model.specs.declared.nodes.Node.{Node}
use Rattle.pf_model.specs.Kinds.{geom_of, is_geode}
use Rattle.pf_model.specs.Graphs.{SceneGraph, node_at}
use Rattle.pf_model.specs.Copies.{UpdateList}
use Rattle.cycle_buffer.specs.Cycles.{CyclesState, written_at, out_at}
use Rattle.update_lists.specs.Taking.{IsWritten}
use Rattle.pf_scene.specs.Stock.{Written, IsStocked}
use Rattle.pf_scene.specs.Counts.{outs, fitting_in_all}

out_there : (next s : ℕ) (c : CyclesState) → s < next → get_or (outs next c) s 0 ≡ out_at c s
out_there next s c l = get_or-map-range_with_len (out_at c) 0 next s s 0 l (omega arith)

-- a geode's serial was given
given : (w : Written) (g : SceneGraph) (id : ℕ) (n : Node) → IsStocked w g → node_at g.nodes id ≡ Some n → is_geode n.kind ≡ true → n.serial < g.next_serial
given w g id n stocked found geode = by (cases_lt n.serial g.next_serial)
  where
    written : w n.serial ≡ geom_of n.kind
    written = subst (λ (o : Option Node). IsWritten w o) found (stocked.contents id) geode

    none_is : (o : Option (List Tri)) → is_some o ≡ true → o ≡ None → ⊥
    none_is None h is = absurd (cc)
    none_is (Some ts) h is = absurd (cc)

    by : (n.serial < g.next_serial) ⊎ (g.next_serial ≤ n.serial) → n.serial < g.next_serial
    by (inl l) = l
    by (inr l) = absurd (none_is (geom_of n.kind) geode (sym written ∙ stocked.fresh n.serial l))

pub returned : (g : SceneGraph) (c d : CyclesState) (next : ℕ) (lists : List UpdateList) → IsStocked (written_at c) g → next ≡ g.next_serial
    → ((s : ℕ) → out_at d s ≡ out_at c s - fitting_in_all (written_at c s) s lists)
    → (id : ℕ) (n : Node) → node_at g.nodes id ≡ Some n → is_geode n.kind ≡ true
    → get_or (outs next d) n.serial 0 ≡ get_or (outs g.next_serial c) n.serial 0 - fitting_in_all (geom_of n.kind) n.serial lists
returned g c d next lists stocked same out id n found geode =
    ap (λ (m : ℕ). get_or (outs m d) n.serial 0) same
    ∙ out_there g.next_serial n.serial d low ∙ out n.serial
    ∙ ap (λ (ts : Option (List Tri)). out_at c n.serial - fitting_in_all ts n.serial lists) written
    ∙ ap (λ (k : ℕ). k - fitting_in_all (geom_of n.kind) n.serial lists) (sym (out_there g.next_serial n.serial c low))
  where
    written : written_at c n.serial ≡ geom_of n.kind
    written = subst (λ (o : Option Node). IsWritten (written_at c) o) found (stocked.contents id) geode

    low : n.serial < g.next_serial
    low = given (written_at c) g id n stocked found geode
