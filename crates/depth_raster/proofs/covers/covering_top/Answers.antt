use Rattle.std.proofs.Common.{rules}
use Rattle.depth_raster.proofs.Covering.{covered_to}
use Rattle.depth_raster.proofs.covers.covering_top.Goals as goal

pub returns-then-top-lt-NOTHING : goal.returns-then-top-lt-NOTHING
returns-then-top-lt-NOTHING c = λ lens ready block.
    let a = c.args in
    let f = a.face.now in
    let b = a.block.now in
    let seen = c.in_ok-depth.ensures in
    covered_to lens a.piece.now f b c.in_ok-depth.depth c.saturating_sub-top.result ready c.requires.face block (c.has_block.ensures (search rules)) (c.is_inside.ensures (search rules))
    seen.0 seen.1 seen.2 c.saturating_sub-top.ensures c.if-top-lt-NOTHING.true
