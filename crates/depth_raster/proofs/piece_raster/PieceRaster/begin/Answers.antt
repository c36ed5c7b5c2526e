use Rattle.std.proofs.Common.{◌∙◌}
use Rattle.depth_raster.proofs.InPieces.{nothing_drawn}
use Rattle.depth_raster.proofs.Prepared.{none_ready}
use Rattle.depth_raster.proofs.piece_raster.PieceRaster.begin.Goals as goal

pub invariant_of-self : goal.invariant_of-self
invariant_of-self c =
    let s = c.self.inside in
    (c.self.invariant.0, λ ground. none_ready s.lens c.begin.new.self.pieces (c.begin.ensures.pieces ∙ c.clear.ensures.pieces))

pub returns-clause-drawn : goal.returns-clause-drawn
returns-clause-drawn c =
    let s = c.self.inside in
    nothing_drawn s.lens c.args.back c.begin.new.self.is_first s.strips.items c.begin.new.self.pieces c.begin.ensures.first
    (c.begin.ensures.pieces ∙ c.clear.ensures.pieces)
