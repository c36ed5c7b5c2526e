use Rattle.std.proofs.Common.{◌≡◌, ◌-◌, ◌<◌, ◌+◌, ℕ, List, true, take, get_or, sym, ◌∙◌, subst}
use Rattle.pf_model.specs.Limits.{has_child}
use Rattle.pf_edits.specs.Extents.{look_of, extent_at}
use Rattle.pf_edits.proofs.Ups.{parent_higher, not_true}
use Rattle.pf_edits.proofs.Climbs.{HasClimbed, climbed_more, climbed_past}
use Rattle.pf_edits.proofs.climb.+climb.Goals as goal
use Rattle.pf_edits.proofs.climb.+climb.Goals.{then-not-contains+then-has_child, else-not-contains, else-not-contains-via-then-not-contains+else-has_child, else-not-contains-via-else-not-contains}

pub climb-requires : goal.climb-requires
climb-requires t c =
    let is : has_child (look_of c.args.records.now.slots) (get_or c.as_slice-parent-items.result.now c.loop-parent.parent-index 0) c.args.id ≡ true = sym c.has_child.ensures ∙ c.if-has_child.true in
    let fall : 33 - (extent_at c.args.records.now.slots (get_or c.as_slice-parent-items.result.now c.loop-parent.parent-index 0)).height < 33 - (extent_at c.args.records.now.slots c.args.id).height =
    parent_higher c.args.records.now.slots c.requires.sound c.requires.low _ c.args.id is in
    let at : 33 - (extent_at c.args.records.now.slots c.args.id).height ≡ t = c.decreases in (
      subst (λ (n : ℕ). 33 - (extent_at c.args.records.now.slots (get_or c.as_slice-parent-items.result.now c.loop-parent.parent-index 0)).height < n) at fall,
      (c.requires.sound, (c.requires.low, c.loop-parent.invariant.leads)),
    )

pub loop-parent-preserved : goal.loop-parent-preserved
loop-parent-preserved t c =
    elim c.if-not-contains.branch [
      | then-not-contains+then-has_child w ↦ subst (λ (way : List ℕ). HasClimbed (look_of c.args.records.now.slots) c.args.way.now c.args.id (take (c.loop-parent.parent-index + 1) c.as_slice-parent-items.result.now) way) (sym w.way'-is)
          (climbed_more (look_of c.args.records.now.slots) c.requires.low c.args.way.now c.args.id c.as_slice-parent-items.result.now c.loop-parent.parent-index c.loop-parent.way w.climb.new.way
          c.loop-parent-test.true c.loop-parent.invariant (sym w.has_child.ensures ∙ w.if-has_child.true) w.climb.ensures.leads w.climb.ensures.member w.climb.ensures.kept w.climb.ensures.above)
      | else-not-contains w ↦ subst (λ (way : List ℕ). HasClimbed (look_of c.args.records.now.slots) c.args.way.now c.args.id (take (c.loop-parent.parent-index + 1) c.as_slice-parent-items.result.now) way) (sym w.way'-is)
          (climbed_past (look_of c.args.records.now.slots) c.args.way.now c.args.id c.as_slice-parent-items.result.now c.loop-parent.parent-index c.loop-parent.way c.loop-parent-test.true c.loop-parent.invariant
          (λ is. elim w.else-not-contains.branch [
            | else-not-contains-via-then-not-contains+else-has_child v ↦ absurd (not_true is (sym v.has_child.ensures ∙ v.if-has_child.false))
            | else-not-contains-via-else-not-contains v ↦ sym c.contains.ensures ∙ v.if-not-contains.false
          ]))
    ]
