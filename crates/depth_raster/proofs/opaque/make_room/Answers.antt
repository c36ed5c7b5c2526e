use Rattle.std.proofs.Common.{Bool, ap, length, ◌∙◌, arith}
use Rattle.depth_raster.specs.Canvas.{drawn_with}
use Rattle.depth_raster.proofs.Flushed.{later_drawn}
use Rattle.depth_raster.proofs.Prepared.{none_gathered, none_ready, drawn_appended, appended_ready}
use Rattle.depth_raster.proofs.opaque.make_room.Goals as goal

pub flush-requires : goal.flush-requires
flush-requires g c =
    let a = c.args in
    let b = a.batch.now in (
      c.type_bounds.sync-R,
      (c.requires.sound, appended_ready a.list.now a.lens.now b.waiting.items b.pieces c.prepare.new.self.pieces c.prepare.ensures.pieces c.requires.gathered.ready),
    )

pub returns-then-is_full : goal.returns-then-is_full
returns-then-is_full g c =
    let lens = c.args.lens.now in
    let ready = c.prepare.new.self in
    let old = c.args.batch.now in
    let b = c.flush.new.batch in
    let before = c.args.strips.now.items in
    let strips = c.flush.new.strips.items in
    record {
      sound = c.flush.ensures.sound;
      gathered = none_gathered c.args.list.now lens b.pieces b.waiting.items (omega (arith, ap length c.flush.ensures.empty)) (none_ready lens b.pieces c.flush.ensures.empty) c.flush.ensures.none;
      room = omega (arith, ap length c.flush.ensures.empty, ap length c.flush.ensures.none);
      drawn = λ px py column row.
          later_drawn c.args.list.now lens b.is_first strips b.pieces b.waiting.items px py c.flush.ensures.later c.flush.ensures.empty c.flush.ensures.none
          ∙ c.flush.ensures.drawn px py column row
          ∙ ap (λ (first : Bool). drawn_with lens first before ready.pieces px py) c.prepare.ensures.first
          ∙ drawn_appended c.args.list.now lens old.is_first before old.waiting.items old.pieces ready.pieces px py c.prepare.ensures.pieces;
    }
