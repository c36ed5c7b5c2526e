use Rattle.std.proofs.Common.{◌∙◌}
use Rattle.pf_edits.specs.Ways.{is_in}
use Rattle.pf_edits.specs.Extents.{extent_at, before_at}
use Rattle.pf_edits.proofs.Growths.{loss_within, resized_is}
use Rattle.pf_edits.proofs.climb.changed_extent.Goals as goal

pub resized-requires-clause-loss : goal.resized-requires-clause-loss
resized-requires-clause-loss c =
    let s = c.args.records.now.slots in
    let way = c.args.way.now in
    let change = c.change_along-change in
    loss_within (before_at s) (extent_at s) (λ d. is_in d way) c.args.before c.args.children.now c.requires.before c.if-before-le131072.true
    change.result.gain change.result.loss change.ensures.gain change.ensures.loss

pub returns-then-before-le131072 : goal.returns-then-before-le131072
returns-then-before-le131072 c =
    let s = c.args.records.now.slots in
    let way = c.args.way.now in
    let change = c.change_along-change in
    c.resized.ensures
    ∙ resized_is (before_at s) (extent_at s) (λ d. is_in d way) c.args.before c.args.children.now c.requires.before c.if-before-le131072.true
    change.result.gain change.result.loss change.ensures.gain change.ensures.loss (change.ensures.level c.if-change.true)
