-- Faces whose vertices have one colour: so has each pixel.
use Rattle.std.proofs.Common.{◌≡◌, ℕ, List, Option, Some, None, true, refl, ap, sym, ◌∙◌, arith}
use Rattle.std.specs.Prelude.{ℤ, pos, ◌+ℤ◌, ◌*ℤ◌, ◌≤ℤ◌}
use Rattle.std.specs.Option.{IfSome}
use Rattle.fx_math.proofs.Ring.{order, mul-add}
use Rattle.tri_cover.specs.Faces.{face_hit, is_covered}
use Rattle.tri_cover.specs.Hits.{channel}
use Rattle.tri_cover.specs.Linears.{value_at}
use Rattle.tri_cover.specs.declared.face.Face.{Face}
use Rattle.tri_cover.specs.declared.hit.Hit.{Hit}
use Rattle.tri_cover.proofs.EdgeLines.{total_value}
use Rattle.depth_raster.specs.Mixing.{number_at, IsOneChannel, IsFlat}
use Rattle.span_shading.specs.Mixing.{mix}
use Rattle.span_shading.specs.Quotients.{IsMean}
use Rattle.depth_raster.proofs.Looking.{hit_parts, covered_parts}
use Rattle.depth_raster.proofs.Mixed.{hit_shade}

one_mix : (x a b c : ℤ) → x *ℤ a +ℤ x *ℤ b +ℤ x *ℤ c ≡ x *ℤ (a +ℤ b +ℤ c)
one_mix x a b c = sym (mul-add x (a +ℤ b) c ∙ ap (λ (z : ℤ). z +ℤ x *ℤ c) (mul-add x a b))

-- one channel, however it is weighed
one_number : (f : Face) (px py i : ℕ) → IsOneChannel f.colours i → number_at f px py i ≡ pos (channel f.colours 0 i) *ℤ value_at f.edges.sum px py
one_number f px py i one =
    let g = f.edges in
    let x = channel f.colours 0 i in
    let a = value_at g.e0 px py in
    let b = value_at g.e1 px py in
    let c = value_at g.e2 px py in
    ap (λ (k : ℕ). mix x k (channel f.colours 2 i) a b c) one.second ∙ ap (λ (k : ℕ). mix x x k a b c) one.third
    ∙ one_mix (pos x) a b c ∙ ap (λ (z : ℤ). pos x *ℤ z) (sym (total_value g.e0 g.e1 g.e2 g.sum px py g.total))

whole_mean : (n w : ℤ) (m : ℕ) → n ≡ pos m *ℤ w → pos 1 ≤ℤ w → IsMean n w m
whole_mean n w m is some = record { least = omega (arith, order, is); most = omega (arith, order, is, some) }

pub flat_shade : (f : Face) (px py : ℕ) (colour : List ℕ) → IsFlat f.colours colour → IfSome (face_hit f px py) (λ h. colour ≡ h.colour)
flat_shade f px py colour flat = by (face_hit f px py) refl
  where
    mean : (i : ℕ) → IsOneChannel f.colours i → is_covered f px py ≡ true → IsMean (number_at f px py i) (value_at f.edges.sum px py) (channel f.colours 0 i)
    mean i one covered = whole_mean (number_at f px py i) (value_at f.edges.sum px py) (channel f.colours 0 i) (one_number f px py i one) (covered_parts f px py covered).sum

    by : (o : Option Hit) → face_hit f px py ≡ o → IfSome o (λ h. colour ≡ h.colour)
    by None e = tt
    by (Some h) e =
        let covered = (hit_parts f px py h e).covered in
        flat.colour_is ∙ hit_shade f px py h (channel f.colours 0 0) (channel f.colours 0 1) (channel f.colours 0 2) e (mean 0 flat.red covered) (mean 1 flat.green covered) (mean 2 flat.blue covered)
