use Rattle.std.proofs.Common.{◌<◌, false, [], sym, ◌∙◌, arith}
use Rattle.std.specs.Vec.{vec_capacity}
use Rattle.std.proofs.lemmas.List.{get_or_read}
use Rattle.pf_model.specs.Copies.{put_all}
use Rattle.pf_model.proofs.Written.{has_place, same_read}
use Rattle.update_lists.proofs.Rising.{put_in_again, put_all_push, put_all_rising, among_put}
use Rattle.update_lists.proofs.MarkTable.{room_left, marked_more, marks_longer}
use Rattle.update_lists.proofs.marks.mark.Goals as goal

-- the entry of the id is written
pub index-requires : goal.index-requires
index-requires c =
    let there = has_place false c.args.table.now.items c.write_to.new.entries.items c.args.id (c.write_to.ensures.items false (λ x off. off)) in
    omega (arith, there)

pub index_mut-requires : goal.index_mut-requires
index_mut-requires c =
    let there = has_place false c.args.table.now.items c.write_to.new.entries.items c.args.id (c.write_to.ensures.items false (λ x off. off)) in
    omega (arith, there)

-- an id that is marked leaves the marks
pub returns-then-index-clause-marks : goal.returns-then-index-clause-marks
returns-then-index-clause-marks c =
    let table = c.args.table.now in
    let longer = c.write_to.new.entries in
    let ids = c.args.ids.now in
    marks_longer table.items longer.items c.args.id (vec_capacity table) (vec_capacity longer) ids.items (vec_capacity ids) (c.write_to.ensures.items false (λ x off. off))
    (omega (arith, c.ranges.id)) c.write_to.ensures.capacity c.requires

-- a marked id is in the list
pub returns-then-index-clause-ids : goal.returns-then-index-clause-ids
returns-then-index-clause-ids c =
    let ids = c.args.ids.now.items in
    let id = c.args.id in
    let l : id < 65536 = omega (arith, c.ranges.id) in
    let written = c.write_to.ensures.items false (λ x off. off) in
    let there = has_place false c.args.table.now.items c.write_to.new.entries.items id written in
    let same = same_read false c.args.table.now.items c.write_to.new.entries.items id written id in
    let read = get_or_read c.write_to.new.entries.items id c.index.result.now there c.index.ensures false in
    sym (put_in_again id (put_all ids []) (put_all_rising ids [] tt) (among_put id ids ∙ sym (c.requires.agree id l) ∙ sym same ∙ sym read ∙ c.if-index.true))

-- the list has room for an id without a mark
pub push_reserved-requires : goal.push_reserved-requires
push_reserved-requires c =
    let l : c.args.id < 65536 = omega (arith, c.ranges.id) in
    let written = c.write_to.ensures.items false (λ x off. off) in
    let there = has_place false c.args.table.now.items c.write_to.new.entries.items c.args.id written in
    let same = same_read false c.args.table.now.items c.write_to.new.entries.items c.args.id written c.args.id in
    let read = get_or_read c.write_to.new.entries.items c.args.id c.index.result.now there c.index.ensures false in
    let room = room_left c.args.table.now.items (vec_capacity c.args.table.now) c.args.ids.now.items (vec_capacity c.args.ids.now) c.requires c.args.id l (sym same ∙ sym read ∙ c.if-index.false) in
    omega (arith, room, c.args.ids.now.ok.0)

pub returns-clause-marks : goal.returns-clause-marks
returns-clause-marks c =
    let l : c.args.id < 65536 = omega (arith, c.ranges.id) in
    let table = c.args.table.now in
    let longer = c.write_to.new.entries in
    let ids = c.args.ids.now in
    let written = c.write_to.ensures.items false (λ x off. off) in
    let kept = marks_longer table.items longer.items c.args.id (vec_capacity table) (vec_capacity longer) ids.items (vec_capacity ids) written l c.write_to.ensures.capacity c.requires in
    let there = has_place false table.items longer.items c.args.id written in
    let read = get_or_read longer.items c.args.id c.index.result.now there c.index.ensures false in
    let more = marked_more longer.items (vec_capacity longer) ids.items (vec_capacity ids) kept c.args.id l there (sym read ∙ c.if-index.false) in
    rw (c.push_reserved.ensures.items, c.push_reserved.ensures.capacity) more

pub returns-clause-ids : goal.returns-clause-ids
returns-clause-ids c = rw c.push_reserved.ensures.items (put_all_push c.args.ids.now.items [] c.args.id)
