use Rattle.std.proofs.Common.{◌≡◌, ℕ, ◌+◌, ◌≤◌, ◌++◌, take, drop}
use Rattle.std.specs.Vec.{vec_capacity}
use Rattle.pf_model.specs.Copies.{updates_of}
use Rattle.update_lists.specs.Taking.{geode_serials, times_in, bare_updates}
use Rattle.update_lists.proofs.taking.fill_nodes.Given as goal

abbrev pub invariant-loop-place : goal.invariant-loop-place
invariant-loop-place g l = record {
  filled : l.entries.items ≡ updates_of (g.V.NodeView.look l.scene) (take l.place l.ids) ++ bare_updates (g.V.NodeView.look l.scene) (drop l.place l.ids);
  room : (s : ℕ) → times_in s (geode_serials (g.V.NodeView.look l.scene) (drop l.place l.ids)) ≤ g.A.Arrays.free l.arrays s;
  taken : (s : ℕ) → g.A.Arrays.free l.arrays s + times_in s (geode_serials (g.V.NodeView.look l.scene) (take l.place l.ids)) ≡ g.A.Arrays.free l.initial.arrays s;
  written : (s : ℕ) → g.A.Arrays.written l.arrays s ≡ g.A.Arrays.written l.initial.arrays s;
  out : (s : ℕ) → g.A.Arrays.out l.arrays s ≡ g.A.Arrays.out l.initial.arrays s + times_in s (geode_serials (g.V.NodeView.look l.scene) (take l.place l.ids));
  capacity : vec_capacity l.entries ≡ vec_capacity l.initial.entries;
  most : g.A.Arrays.most l.arrays ≡ g.A.Arrays.most l.initial.arrays;
}
