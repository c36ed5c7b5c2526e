use Rattle.std.proofs.Common.{sym, ◌∙◌, ap, arith}
use Rattle.std.specs.Vec.{vec_capacity}
use Rattle.update_lists.specs.Marks.{among}
use Rattle.update_lists.proofs.MarkTable.{all_written, marks_none}
use Rattle.update_lists.proofs.marks.clear.Goals as goal

pub unmark-requires : goal.unmark-requires
unmark-requires c =
    rw c.as_slice.ensures.value
    (all_written c.args.table.now.items (vec_capacity c.args.table.now) c.args.ids.now.items (vec_capacity c.args.ids.now) c.requires)

-- no mark is left
pub returns-clause-marks : goal.returns-clause-marks
returns-clause-marks c =
    rw c.clear.ensures.items (marks_none c.unmark.new.table.items (vec_capacity c.unmark.new.table) (vec_capacity c.clear.new.self)
    (omega (arith, c.unmark.ensures.len, c.requires.few))
    (c.unmark.ensures.capacity ∙ c.requires.reserved)
    (λ id l. c.unmark.ensures.marks id (λ out. c.requires.agree id l ∙ sym (ap (among id) c.as_slice.ensures.value) ∙ out))
    (c.clear.ensures.capacity ∙ c.requires.roomy))
