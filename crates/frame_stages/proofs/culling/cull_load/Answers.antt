use Rattle.std.proofs.Common.{rules, ◌≡◌, ℕ, Bool, true, length, drop, take_at, slice_get, ◌∙◌, ap, sym, subst}
use Rattle.pf_model.specs.Graphs.{node_at}
use Rattle.pf_model.specs.Copies.{UpdateList}
use Rattle.bound_cache.specs.Caches.{IsCalm}
use Rattle.multibuffer.specs.StageCopies.{boxes_of, is_named}
use Rattle.stage_parts.specs.Loads.{LoadState}
use Rattle.frame_stages.specs.CullBoxes.{IsWalk, sight_of}
use Rattle.frame_stages.proofs.culling.cull_load.Goals as goal

pub returns : goal.returns
returns c =
    let load = c.args.load.now in
    let after = c.take-stood.new.self in
    let frame_is : c.cut-cut.result.now.frame ≡ load.cut.frame = search rules in
    let views_is : c.cut-cut.result.now.views ≡ load.cut.views = search rules in
    let lists_are : c.as_mut_slice.result.now ≡ load.lists = search rules in
    let many : length c.cull_all-stats.new.lists ≡ c.swap_lists.new.lists.len = search rules in
    let new_are : c.set_stats.new.self.lists ≡ c.cull_all-stats.new.lists =
    ap (λ (l : LoadState). l.lists) c.set_stats.ensures ∙ ap (λ (l : LoadState). l.lists) c.swap_lists-2.ensures.load
    ∙ take_at c.cull_all-stats.new.lists (drop (length c.cull_all-stats.new.lists) c.swap_lists.new.lists.items) c.swap_lists.new.lists.len
    many in
    record {
      nodes = search rules;
      boxes = search rules;
      carries = search rules;
      culled = search rules;
      by_boxes = record {
        calm = subst
            (λ (us : UpdateList). (calm : ℕ → Bool) → IsCalm (node_at after.nodes) (λ id. is_named id us) calm → (id : ℕ) → calm id ≡ true →
            boxes_of after id ≡ boxes_of c.args.copy.now id)
            c.take_updates.ensures.taken c.take-stood.ensures.calm;
        walks = λ i v d e at_view at_first at_list.
            subst (λ (time : ℕ). IsWalk (sight_of after time c.args.lens.now) v d e) frame_is
            (c.cull_all-stats.ensures.walks i v d e (ap (λ vs. slice_get vs i) views_is ∙ at_view)
            (ap (λ ds. slice_get ds i) lists_are ∙ at_first) (ap (λ ds. slice_get ds i) (sym new_are) ∙ at_list));
      };
    }
