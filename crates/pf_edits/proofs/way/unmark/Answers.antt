use Rattle.std.proofs.Common.{◌<◌, length, ◌∙◌, ap, arith}
use Rattle.pf_edits.specs.Ways.{is_in}
use Rattle.pf_edits.proofs.Marks.{listed_in}
use Rattle.pf_edits.proofs.way.unmark.Goals as goal

pub bounds-marks-from : goal.bounds-marks-from
bounds-marks-from c =
    let has : c.from.result < length c.args.marks.now = c.requires c.from.result (ap (λ b. is_in b c.args.ids.now) c.from.ensures ∙ listed_in c.args.ids.now c.loop-id.id-index 0 c.loop-id-test.true) in
    omega (arith, has, c.loop-id.auto.marks)
