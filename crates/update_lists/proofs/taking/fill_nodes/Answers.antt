use Rattle.std.proofs.Common.{◌≡◌, ℕ, ◌+◌, get_or, sym, ◌∙◌, ap, Option}
use Rattle.std.specs.Option.{option_map}
use Rattle.pf_model.specs.declared.nodes.Node.{Node}
use Rattle.update_lists.specs.Taking.{geode_serial, times_in, bare}
use Rattle.update_lists.proofs.Copying.{filled_at, filled_more, free_more, out_more, room_more}
use Rattle.update_lists.proofs.taking.fill_nodes.Goals as goal

pub loop-place-preserved : goal.loop-place-preserved
loop-place-preserved g c =
    let look : ℕ → Option Node = g.V.NodeView.look c.args.scene.now in
    let ids = c.args.ids.now in
    let i = c.loop-place.place in
    let l = c.loop-place-test.true in
    let x = get_or ids i 0 in
    let first : ℕ → ℕ = g.A.Arrays.free c.args.arrays.now in
    let before : ℕ → ℕ = g.A.Arrays.free c.loop-place.arrays in
    let after : ℕ → ℕ = g.A.Arrays.free c.fill_node.new.arrays in
    let entry : c.index_mut.result.now ≡ (x, option_map bare (look x)) =
    c.index_mut.ensures.value ∙ ap (λ es. get_or es i c.index_mut.result.now) c.loop-place.invariant.filled ∙ filled_at look ids i c.index_mut.result.now l in
    let id_is : c.index_mut.result.now.0 ≡ x = ap (λ e. e.0) entry in
    let node_is : c.fill_node.new.node ≡ look x = c.fill_node.ensures.node ∙ c.node.ensures in
    let takes : (s : ℕ) → after s + times_in s (geode_serial (look x)) ≡ before s =
    λ s. sym (ap (λ o. after s + times_in s (geode_serial o)) c.node.ensures) ∙ c.fill_node.ensures.free s in
    let gives : (s : ℕ) → g.A.Arrays.out c.fill_node.new.arrays s ≡ g.A.Arrays.out c.loop-place.arrays s + times_in s (geode_serial (look x)) =
    λ s. c.fill_node.ensures.out s ∙ ap (λ o. g.A.Arrays.out c.loop-place.arrays s + times_in s (geode_serial o)) c.node.ensures in
    record {
      filled = rw (c.loop-place.invariant.filled, id_is, node_is) (filled_more look ids i l);
      room = room_more look ids i before after l c.loop-place.invariant.room takes;
      taken = free_more look ids i first before after l c.loop-place.invariant.taken takes;
      written = λ s. c.fill_node.ensures.written s ∙ c.loop-place.invariant.written s;
      out = out_more look ids i (g.A.Arrays.out c.args.arrays.now) (g.A.Arrays.out c.loop-place.arrays) (g.A.Arrays.out c.fill_node.new.arrays)
          l c.loop-place.invariant.out gives;
      capacity = search;
      most = c.fill_node.ensures.most ∙ c.loop-place.invariant.most;
    }
