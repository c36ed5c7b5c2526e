use Rattle.depth_raster.specs.Goes.{IsDrawnIn}
use Rattle.depth_raster.specs.Shares.{meets}
use Rattle.depth_raster.specs.StripSlots.{in_strip}
use Rattle.std.specs.List.{filter}
use Rattle.std.specs.Prelude.{map}
use Rattle.depth_raster.proofs.Shared.{share_for, shared_strip, shared_before}
use Rattle.depth_raster.proofs.strips.draw_claimed.Goals as goal

pub draw_and_show-requires-clause-strip : goal.draw_and_show-requires-clause-strip
draw_and_show-requires-clause-strip c =
    let go = c.args.go.now in
    shared_strip go.lens.now go.slots.now c.args.strip.now c.take_share.new.strip c.requires.strip c.take_share.ensures

pub draw_and_show-requires-clause-slots : goal.draw_and_show-requires-clause-slots
draw_and_show-requires-clause-slots c =
    let go = c.args.go.now in
    share_for go.lens.now go.pieces.now go.slots.now c.args.strip.now c.take_share.new.strip c.requires.go.pieces c.requires.go.slots c.requires.strip c.take_share.ensures

pub returns-clause-drawn : goal.returns-clause-drawn
returns-clause-drawn c =
    let a = c.args in
    let go = a.go.now in
    shared_before (IsDrawnIn go) (map in_strip (filter (meets a.strip.now.band) go.slots.now)) a.strip.now c.take_share.new.strip c.draw_and_show.new.strip c.take_share.ensures c.draw_and_show.ensures.drawn
