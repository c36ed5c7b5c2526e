use Rattle.std.proofs.Common.{◌≡◌, ℕ, ◌+◌, ◌-◌, List, ◌∙◌, sym, subst, arith, rules}
use Rattle.std.specs.Option.{IfSome}
use Rattle.tri_cover.specs.Faces.{face_hit}
use Rattle.depth_raster.specs.Blocks.{colour_in}
use Rattle.depth_raster.specs.Means.{AreMeansAt, AreEven, colour_by, filled, shaded_within}
use Rattle.depth_raster.proofs.Following.{span_weaker}
use Rattle.depth_raster.proofs.Mixed.{means_small, even_shade}
use Rattle.depth_raster.proofs.painting.paint_from.Goals as goal

pub settle-requires : goal.settle-requires
settle-requires c =
    let a = c.args in
    let b = a.block.now in
    means_small a.face.now (b.left + a.run.now.start) (b.first + a.run.now.r) a.first.now
    (omega (arith, c.requires.columns, c.requires.run.within, c.requires.run.some)) (omega (arith, c.requires.rows, c.requires.run.row)) c.requires.means

pub are_even-requires : goal.are_even-requires
are_even-requires c =
    let a = c.args in
    let b = a.block.now in
    means_small a.face.now (b.left + a.run.now.start) (b.first + a.run.now.r) c.settle.new.self
    (omega (arith, c.requires.columns, c.requires.run.within, c.requires.run.some)) (omega (arith, c.requires.rows, c.requires.run.row))
    (c.settle.ensures.kept a.face.now (b.left + a.run.now.start) (b.first + a.run.now.r) c.requires.means)

pub returns-then-are_even : goal.returns-then-are_even
returns-then-are_even c =
    let a = c.args in
    let b = a.block.now in
    let f = a.face.now in
    let x = b.left + a.run.now.start in
    let y = b.first + a.run.now.r in
    let m = c.settle.new.self in
    let at : AreMeansAt f x y m = c.settle.ensures.kept f x y c.requires.means in
    let even : AreEven m (a.run.now.end - a.run.now.start - 1) = c.are_even.ensures.0 (search rules) in
    span_weaker b (colour_in b a.colours.now) (colour_in b c.fill_run.new.colours) (filled c.colour.result) (shaded_within f b) a.run.now.r a.run.now.start a.run.now.end c.fill_run.ensures
    (λ q lo hi column before after is.
    let i = q - a.run.now.start in
    let j = a.run.now.end - 1 - q in
    let shade = even_shade f x y i j m at (subst (λ (n : ℕ). AreEven m n) (omega (arith, lo, hi)) even) in
    subst (λ (v : List ℕ). IfSome (face_hit f (b.left + q) y) (λ h. v ≡ h.colour)) (sym (is ∙ c.colour.ensures))
    (subst (λ (n : ℕ). IfSome (face_hit f n y) (λ h. colour_by m ≡ h.colour)) (omega (arith, lo)) shade))

pub paint_steps-requires-clause-means : goal.paint_steps-requires-clause-means
paint_steps-requires-clause-means c =
    let a = c.args in
    let b = a.block.now in
    c.settle.ensures.kept a.face.now (b.left + a.run.now.start) (b.first + a.run.now.r) c.requires.means
