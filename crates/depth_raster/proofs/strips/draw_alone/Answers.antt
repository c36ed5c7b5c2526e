use Rattle.std.proofs.Common.{◌≡◌, ℕ, ◌<◌, List, length, get_or, ap, sym, ◌∙◌, subst}
use Rattle.std.proofs.lemmas.List.{with_items_is}
use Rattle.depth_raster.specs.Goes.{IsDrawnIn}
use Rattle.depth_raster.specs.Shares.{AreShared, HasSlotsFor}
use Rattle.depth_raster.specs.Strips.{IsStripOf, StripRelates}
use Rattle.depth_raster.specs.declared.strip.Strip.{Strip}
use Rattle.depth_raster.proofs.Shared.{shared_strips, shared_slots, shared_relate}
use Rattle.depth_raster.proofs.strips.draw_alone.Goals as goal

pub claim_strips-requires-after_bounds : goal.claim_strips-requires-after_bounds
claim_strips-requires-after_bounds g c κs within = λ i p below is.
    let a = c.args in
    let go = a.go.now in
    let shared = c.share_out.new.strips in
    let lent = c.as_mut_slice.ensures.value in
    let long : length shared ≡ a.strips.now.len = c.share_out.auto.strips ∙ c.as_mut_slice.ensures.len in
    let written = with_items_is a.strips.now shared long in
    let many : length shared ≡ length a.strips.now.items = c.share_out.auto.strips ∙ ap length lent in
    let are = subst (λ (ss : List Strip). AreShared go.slots.now ss shared) lent c.share_out.ensures in
    let there : i < length shared = subst (λ (ss : List Strip). i < length ss) written below in
    let here : get_or shared i p.now ≡ p.now = sym (is ∙ ap (λ (ss : List Strip). get_or ss i p.now) written) in (
      c.requires.go,
      subst (λ (s : Strip). IsStripOf go.lens.now s) here (shared_strips go.lens.now go.slots.now a.strips.now.items shared c.requires.strips many are i p.now there),
      subst (λ (s : Strip). HasSlotsFor go.lens.now go.pieces.now s) here
          (shared_slots go.lens.now go.pieces.now go.slots.now a.strips.now.items shared c.requires.go.pieces c.requires.go.slots c.requires.strips many are i p.now there),
    )

pub returns-clause-drawn : goal.returns-clause-drawn
returns-clause-drawn g c =
    let a = c.args in
    let go = a.go.now in
    let P = IsDrawnIn go in
    let shared = c.share_out.new.strips in
    let after = c.claim_strips.new.strips.items in
    let lent = c.as_mut_slice.ensures.value in
    let long : length shared ≡ a.strips.now.len = c.share_out.auto.strips ∙ c.as_mut_slice.ensures.len in
    let written = with_items_is a.strips.now shared long in
    let many : length shared ≡ length a.strips.now.items = c.share_out.auto.strips ∙ ap length lent in
    let are = subst (λ (ss : List Strip). AreShared go.slots.now ss shared) lent c.share_out.ensures in
    let each : (i : ℕ) (d : Strip) → i < length shared → StripRelates P (get_or shared i d) (get_or after i d) = λ i d below.
    let at = (c.claim_strips.ensures.each i d (subst (λ (ss : List Strip). i < length ss) (sym written) below)).1 in
    subst (λ (s : Strip). StripRelates P (get_or shared i d) s) at.left
    (subst (λ (s : Strip). StripRelates P s at.after_call.now) (at.argument_is ∙ ap (λ (ss : List Strip). get_or ss i d) written) at.call.0) in
    shared_relate P go.slots.now a.strips.now.items shared after many are each
