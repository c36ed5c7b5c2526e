use Rattle.std.proofs.Common.{◌≡◌, ◌+◌, ◌≤◌, sym, ◌∙◌, ap, subst, arith}
use Rattle.pf_edits.specs.declared.extents.Extent.{Extent}
use Rattle.pf_edits.specs.Extents.{extent_at, joined, reckoned}
use Rattle.pf_edits.proofs.Trials.{size_left, height_left, extent_left}
use Rattle.pf_edits.proofs.climb.shortened_extent.Goals as goal

-- the extent of before, as it was found
found : (b p r c d : Extent) → b ≡ p → p ≡ joined r c → d ≡ c → b ≡ joined r d
found b p r c d e f g = e ∙ f ∙ ap (joined r) (sym g)

pub height_within-height-requires : goal.height_within-height-requires
height_within-height-requires c =
    height_left c.extent_at-before.result (reckoned (extent_at c.args.records.now.slots) c.args.left.now) (extent_at c.args.records.now.slots c.args.child)
    (c.extent_at-before.ensures ∙ c.requires.before)

pub overflow_sub-size : goal.overflow_sub-size
overflow_sub-size c =
    let r = reckoned (extent_at c.args.records.now.slots) c.args.left.now in
    let s : c.extent_at-before.result.size ≡ r.size + c.extent_at.result.size =
    size_left c.extent_at-before.result r c.extent_at.result
    (found c.extent_at-before.result (extent_at c.args.records.now.slots c.args.parent) r (extent_at c.args.records.now.slots c.args.child) c.extent_at.result c.extent_at-before.ensures c.requires.before c.extent_at.ensures)
    (subst (λ (e : Extent). e.size ≤ 131072) (sym c.extent_at-before.ensures) c.requires.small) in
    omega (arith, s)

pub returns : goal.returns
returns c =
    let r = reckoned (extent_at c.args.records.now.slots) c.args.left.now in
    extent_left c.extent_at-before.result r c.extent_at.result c.height_within-height.result
    (found c.extent_at-before.result (extent_at c.args.records.now.slots c.args.parent) r (extent_at c.args.records.now.slots c.args.child) c.extent_at.result c.extent_at-before.ensures c.requires.before c.extent_at.ensures)
    (subst (λ (e : Extent). e.size ≤ 131072) (sym c.extent_at-before.ensures) c.requires.small)
    c.height_within-height.ensures
