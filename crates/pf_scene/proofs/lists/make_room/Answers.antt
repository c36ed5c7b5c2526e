-- A list that got room draws the same.
use Rattle.std.proofs.Common.{◌<◌, ◌∙◌, length, arith}
use Rattle.pf_scene.proofs.Rooms.{drawn_set, room_set}
use Rattle.pf_scene.proofs.lists.make_room.Goals as goal

pub returns-in_err-reserve-clause-same : goal.returns-in_err-reserve-clause-same
returns-in_err-reserve-clause-same c =
    drawn_set c.loop-i.lists c.loop-i.i c.index-lists-i.result c.reserve.new.list c.in_err-reserve.ensures.same
    ∙ c.loop-i.invariant.same

pub loop-i-preserved : goal.loop-i-preserved
loop-i-preserved c =
    let within : c.loop-i.i < length c.loop-i.lists = omega arith in
    record {
      room = room_set c.args.n c.args.t c.loop-i.lists c.loop-i.i c.reserve.new.list within c.in_ok-reserve.ensures.room c.loop-i.invariant.room;
      same = drawn_set c.loop-i.lists c.loop-i.i c.index-lists-i.result c.reserve.new.list c.in_ok-reserve.ensures.same ∙ c.loop-i.invariant.same;
    }
