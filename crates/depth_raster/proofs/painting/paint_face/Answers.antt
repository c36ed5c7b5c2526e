use Rattle.std.proofs.Common.{◌≡◌, ℕ, ◌+◌, List, Option, sym, subst}
use Rattle.std.specs.Option.{IfSome}
use Rattle.tri_cover.specs.Faces.{face_hit}
use Rattle.depth_raster.specs.Blocks.{colour_in}
use Rattle.depth_raster.specs.Means.{filled, shaded_within}
use Rattle.depth_raster.specs.Mixing.{IsFlat}
use Rattle.depth_raster.proofs.Flat.{flat_shade}
use Rattle.depth_raster.proofs.Following.{span_weaker}
use Rattle.depth_raster.proofs.painting.paint_face.Goals as goal

pub returns-in-Some : goal.returns-in-Some
returns-in-Some c =
    let a = c.args in
    let b = a.block.now in
    let f = a.face.now in
    let colour = c.in-Some.colour in
    let flat = subst (λ (o : Option (List ℕ)). IfSome o (IsFlat f.colours)) c.in-Some.is c.flat_colour.ensures in
    span_weaker b (colour_in b a.colours.now) (colour_in b c.fill_run.new.colours) (filled colour) (shaded_within f b) a.run.now.r a.run.now.start a.run.now.end c.fill_run.ensures
    (λ q lo hi column before after is.
    subst (λ (v : List ℕ). IfSome (face_hit f (b.left + q) (b.first + a.run.now.r)) (λ h. v ≡ h.colour)) (sym is) (flat_shade f (b.left + q) (b.first + a.run.now.r) colour flat))
