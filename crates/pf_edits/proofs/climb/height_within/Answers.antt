use Rattle.pf_edits.specs.Extents.{extent_at}
use Rattle.pf_edits.proofs.Trials.{met_next}
use Rattle.pf_edits.proofs.climb.height_within.Goals as goal

pub returns-then-extent-most : goal.returns-then-extent-most
returns-then-extent-most c =
    met_next (extent_at c.args.records.now.slots) c.args.children.now c.loop-child.child-index c.args.most
    c.loop-child.extent c.over-extent.result c.extent_at.result c.loop-child-test.true c.loop-child.invariant c.extent_at.ensures c.over-extent.ensures c.if-extent-most.true c.requires
