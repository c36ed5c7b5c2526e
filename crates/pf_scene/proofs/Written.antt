-- What is written under serials.
use Rattle.std.proofs.Common.{◌≡◌, ℕ, ◌≤◌, true, List, length, Option, Some, None, refl}
use Rattle.std.specs.Option.{option_map}
use Rattle.pf_model.specs.declared.geometry.Tri.{Tri}
use Rattle.pf_model.specs.declared.nodes.Kind.{Kind}
use Rattle.pf_model.specs.Kinds.{geom_of}
use Rattle.pf_model.specs.Fits.{kind_fits}
use Rattle.pf_model.proofs.Goods.{kind_light}
use Rattle.cycle_buffer.specs.Cycles.{CycleState, CyclesState, cycle_at, written_at}

-- a serial under which nothing is written has no cycle
pub no_cycle : (c : CyclesState) (s : ℕ) → written_at c s ≡ None → cycle_at c s ≡ None
no_cycle c s h = by (cycle_at c s) h
  where
    by : (o : Option CycleState) → option_map (λ (x : CycleState). x.written) o ≡ None → o ≡ None
    by None e = refl
    by (Some x) e = absurd (cc)

-- a geode that fits has few triangles
pub is_light : (k : Kind) (ts : List Tri) → kind_fits k ≡ true → geom_of k ≡ Some ts → length ts ≤ 4096
is_light k ts fit is = kind_light k fit ts is
