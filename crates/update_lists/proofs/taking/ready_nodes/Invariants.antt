use Rattle.std.proofs.Common.{◌≡◌, ℕ, ◌<◌, ◌≤◌, true, false, take}
use Rattle.update_lists.specs.Marks.{among}
use Rattle.update_lists.specs.Taking.{geode_serials}
use Rattle.update_lists.proofs.taking.ready_nodes.Given as goal

abbrev pub invariant-loop-id : goal.invariant-loop-id
invariant-loop-id g l = record {
  ready : (s : ℕ) → among s (geode_serials (g.V.NodeView.look l.scene) (take l.id-index l.ids)) ≡ true → 0 < g.A.Arrays.free l.arrays s;
  more : (s : ℕ) → g.A.Arrays.free l.initial.arrays s ≤ g.A.Arrays.free l.arrays s;
  others : (s : ℕ) → among s (geode_serials (g.V.NodeView.look l.scene) (take l.id-index l.ids)) ≡ false → g.A.Arrays.free l.arrays s ≡ g.A.Arrays.free l.initial.arrays s;
  written : (s : ℕ) → g.A.Arrays.written l.arrays s ≡ g.A.Arrays.written l.initial.arrays s;
  out : (s : ℕ) → g.A.Arrays.out l.arrays s ≡ g.A.Arrays.out l.initial.arrays s;
  most : (b : ℕ) → g.A.Arrays.most l.initial.arrays ≤ b → ((s : ℕ) → among s (geode_serials (g.V.NodeView.look l.scene) (take l.id-index l.ids)) ≡ true → g.A.Arrays.out l.initial.arrays s < b) → g.A.Arrays.most l.arrays ≤ b;
}
