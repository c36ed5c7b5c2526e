use Rattle.std.proofs.Common.{◌<◌, get_or, length, subst, arith}
use Rattle.std.proofs.lemmas.List.{get_or_default}
use Rattle.depth_raster.specs.Pieces.{IsPrepared}
use Rattle.depth_raster.specs.declared.waiting.Waiting.{Waiting}
use Rattle.depth_raster.proofs.Prepared.{no_waiting, prepared_more, prepared_all}
use Rattle.depth_raster.proofs.Slotted.{no_slot}
use Rattle.depth_raster.proofs.Sorting.{taken_more}
use Rattle.depth_raster.proofs.pieces.prepare_in_turn.Goals as goal

pub loop-i-preserved : goal.loop-i-preserved
loop-i-preserved c =
    let list = c.args.list.now in
    let lens = c.args.lens.now in
    let ws = c.args.waiting.now in
    let i = c.loop-i.i in
    let p = c.prepare.new.self in
    let below : i < length c.loop-i.pieces = omega (arith, c.loop-i-test.true, c.loop-i.auto.pieces, c.requires.count) in
    let waits : i < length c.loop-i.slots = omega (arith, c.loop-i-test.true, c.loop-i.auto.slots, c.requires.slots) in
    let old = get_or c.loop-i.slots i no_slot in
    record {
      carried = c.prepare.ensures.carried;
      prepared = prepared_more list lens ws c.loop-i.pieces i p below
          (λ v. subst (λ (u : Waiting). IsPrepared list lens u p) (get_or_default ws i no_waiting v c.loop-i-test.true) c.prepare.ensures.prepared)
          c.loop-i.invariant.prepared;
      taken = taken_more c.loop-i.pieces c.args.slots.now c.loop-i.slots i p old c.take.new.self c.loop-i.invariant.taken below waits c.loop-i.auto.slots
          (get_or_default c.loop-i.slots i no_slot old waits) c.take.ensures;
    }

pub returns-clause-pieces : goal.returns-clause-pieces
returns-clause-pieces c = prepared_all c.args.list.now c.args.lens.now c.args.waiting.now c.loop-i.pieces c.loop-i.i (omega arith) c.loop-i.invariant.prepared
