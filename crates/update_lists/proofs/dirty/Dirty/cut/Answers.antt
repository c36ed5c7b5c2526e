use Rattle.std.proofs.Common.{[], ◌∙◌, ap}
use Rattle.std.specs.Vec.{vec_capacity}
use Rattle.std.proofs.lemmas.Result.{err_from_is_err_and}
use Rattle.pf_model.specs.Copies.{put_all}
use Rattle.update_lists.proofs.Rising.{put_all_rising, put_rising}
use Rattle.update_lists.proofs.MarkTable.{marks_sorted}
use Rattle.update_lists.proofs.dirty.Dirty.cut.Goals as goal

pub take-requires-clause-rising : goal.take-requires-clause-rising
take-requires-clause-rising g c = rw (c.as_slice.ensures.value, c.sort.ensures.sorted) (put_all_rising c.self.inside.ids.items [] tt)

pub invariant_of-self : goal.invariant_of-self
invariant_of-self g c =
    rw (c.sort.ensures.sorted, c.sort.ensures.capacity) (marks_sorted c.self.inside.table.items (vec_capacity c.self.inside.table) c.self.inside.ids.items (vec_capacity c.self.inside.ids) c.self.invariant)

-- sorted ids are the same marks
pub returns-in_err-updates-clause-unchanged : goal.returns-in_err-updates-clause-unchanged
returns-in_err-updates-clause-unchanged g c =
    let ids = c.self.inside.ids.items in
    let same = ap (λ x. put_all x []) c.sort.ensures.sorted ∙ put_rising (put_all ids []) (put_all_rising ids [] tt) ∙ c.self.view_is in
    let p = err_from_is_err_and c.from_residual.result c.from_residual.ensures.1 in rw p.1 same

pub clear-requires : goal.clear-requires
clear-requires g c =
    rw (c.sort.ensures.sorted, c.sort.ensures.capacity)
    (marks_sorted c.self.inside.table.items (vec_capacity c.self.inside.table) c.self.inside.ids.items (vec_capacity c.self.inside.ids) c.self.invariant)
