use Rattle.std.proofs.Common.{◌≡◌, ◌+◌, take, drop, ◌∙◌, ap}
use Rattle.std.specs.List.{fold}
use Rattle.pf_edits.specs.declared.extents.Extent.{Extent}
use Rattle.pf_edits.specs.Extents.{extent_at, joined, reckoned}
use Rattle.pf_edits.proofs.Trials.{reckoned_set, rest_whole}
use Rattle.pf_edits.proofs.climb.over_swapped.Goals as goal

pub returns : goal.returns
returns c =
    let front : c.over_children-front.result ≡ reckoned (extent_at c.args.records.now.slots) (take c.args.place c.args.children.now) = c.over_children-front.ensures in
    let middle : c.over-middle.result ≡ joined (reckoned (extent_at c.args.records.now.slots) (take c.args.place c.args.children.now)) (extent_at c.args.records.now.slots c.args.by) =
    c.over-middle.ensures ∙ (λ i. joined (front i) (c.extent_at.ensures i)) in
    c.over_more.ensures
    ∙ ap (λ xs. fold (λ e d. joined e (extent_at c.args.records.now.slots d)) c.over-middle.result xs) (rest_whole (c.args.place + 1) c.args.children.now)
    ∙ ap (λ (x : Extent). fold (λ e d. joined e (extent_at c.args.records.now.slots d)) x (drop (c.args.place + 1) c.args.children.now)) middle
    ∙ reckoned_set (extent_at c.args.records.now.slots) c.args.children.now c.args.place c.args.by c.requires
