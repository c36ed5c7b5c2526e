use Rattle.depth_raster.specs.Goes.{IsDrawnIn}
use Rattle.depth_raster.proofs.Handed.{same_strip, strip_then_same}
use Rattle.depth_raster.proofs.strips.draw_and_show.Goals as goal

pub returns-then-go-clause-drawn : goal.returns-then-go-clause-drawn
returns-then-go-clause-drawn c =
    let a = c.args in
    strip_then_same (IsDrawnIn a.go.now) a.strip.now c.draw_strip.new.strip c.show_strip.new.strip c.draw_strip.ensures (same_strip c.draw_strip.new.strip c.show_strip.new.strip c.show_strip.ensures.seen)
