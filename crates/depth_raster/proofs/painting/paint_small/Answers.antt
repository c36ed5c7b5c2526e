use Rattle.std.proofs.Common.{◌≡◌, ℕ, ◌+◌, ◌-◌, List, ◌∙◌, sym, subst, arith, rules}
use Rattle.std.specs.Option.{IfSome}
use Rattle.tri_cover.specs.Faces.{face_hit}
use Rattle.depth_raster.specs.Blocks.{colour_in}
use Rattle.depth_raster.specs.Means.{filled, shaded_within}
use Rattle.depth_raster.specs.Shading.{shade_colour}
use Rattle.depth_raster.proofs.Following.{span_weaker}
use Rattle.depth_raster.proofs.Shaded.{even_span}
use Rattle.depth_raster.proofs.painting.paint_small.Goals as goal

pub is_even-requires : goal.is_even-requires
is_even-requires c = omega (arith, c.requires.columns, c.requires.run.within, c.requires.run.some)

pub returns-then-is_even : goal.returns-then-is_even
returns-then-is_even c =
    let a = c.args in
    let b = a.block.now in
    let f = a.face.now in
    let x = b.left + a.run.now.start in
    let y = b.first + a.run.now.r in
    let s = c.span_at-span.result in
    let shade = c.shade-shade.result in
    let even = c.is_even.ensures.between (search rules) in
    span_weaker b (colour_in b a.colours.now) (colour_in b c.fill_run.new.colours) (filled c.colour_of.result) (shaded_within f b) a.run.now.r a.run.now.start a.run.now.end c.fill_run.ensures
    (λ q lo hi column before after is.
    let n = q - a.run.now.start in
    let here = even_span f x y n (a.run.now.end - a.run.now.start - 1) s shade c.span_at-span.ensures.span even (omega (arith, lo, hi)) in
    subst (λ (v : List ℕ). IfSome (face_hit f (b.left + q) y) (λ h. v ≡ h.colour)) (sym (is ∙ c.colour_of.ensures))
    (subst (λ (k : ℕ). IfSome (face_hit f k y) (λ h. shade_colour shade ≡ h.colour)) (omega (arith, lo)) here))
