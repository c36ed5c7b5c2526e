-- Edge values in 64 bits along a row.
use Rattle.std.proofs.Common.{◌≡◌, ℕ, ◌+◌, ◌*◌, ◌≤◌, ◌^◌, ap, sym, ◌∙◌, lit≤, subst, arith}
use Rattle.std.specs.Prelude.{ℤ, pos, ◌+ℤ◌, ◌*ℤ◌}
use Rattle.fx_math.specs.Limits.{size_limit}
use Rattle.fx_math.specs.Within.{IsWithin}
use Rattle.fx_math.proofs.Size.{within_add, within_mul, within_more}
use Rattle.tri_cover.specs.Linears.{value_at, step_of}
use Rattle.tri_cover.specs.declared.face.Face.{Face}
use Rattle.tri_cover.specs.declared.linear.Linear.{Linear}
use Rattle.depth_raster.specs.Narrow.{AreNarrowAt, AreNarrowSlopes, IsLineAt}
use Rattle.edge_values.specs.Narrow.{DoFit, IsSumOf}
use Rattle.edge_values.specs.declared.narrow.NarrowLine.{NarrowLine}
use Rattle.edge_values.specs.declared.narrow.NarrowValues.{NarrowValues}
use Rattle.depth_raster.proofs.Stepped.{value_ahead, value_after}

stepped : (g : Linear) (px py : ℕ) (e d : ℤ) → e ≡ value_at g px py → d ≡ step_of g → e +ℤ d ≡ value_at g (px + 1) py
stepped g px py e d is step = ap (λ (u : ℤ). u +ℤ d) is ∙ ap (λ (u : ℤ). value_at g px py +ℤ u) step ∙ sym (value_after g px py)

-- a small value n pixels further on in the row
value_stays_small : (g : Linear) (px py n : ℕ) (v s : ℤ) → n ≤ size_limit → v ≡ value_at g px py → s ≡ step_of g → IsWithin (3 * 2 ^ 50) v → IsWithin (2 ^ 40) s → IsWithin (2 ^ 52) (value_at g (px + n) py)
value_stays_small g px py n v s few value step small small_step =
    let count : IsWithin (2 ^ 10) (pos n) = record { size = few } in
    subst (λ (z : ℤ). IsWithin (2 ^ 52) z) (ap (λ (z : ℤ). z +ℤ s *ℤ pos n) value ∙ ap (λ (z : ℤ). value_at g px py +ℤ z *ℤ pos n) step ∙ sym (value_ahead g px py n))
    (within_more (2 ^ 52) (within_add small (within_mul small_step count)) (lit≤ tt))

-- the values after a step
pub narrow_next : (f : Face) (px py : ℕ) (v d t : NarrowValues) → AreNarrowAt f px py v → AreNarrowSlopes f d → IsSumOf v d t → AreNarrowAt f (px + 1) py t
narrow_next f px py v d t are steps is = record {
  first_is = is.first_is ∙ stepped f.edges.e0 px py v.first d.first are.first_is steps.first_is;
  second_is = is.second_is ∙ stepped f.edges.e1 px py v.second d.second are.second_is steps.second_is;
  third_is = is.third_is ∙ stepped f.edges.e2 px py v.third d.third are.third_is steps.third_is;
}

next_fits : (g : Linear) (px py n : ℕ) (v s a : ℤ) → n + 1 ≤ size_limit → v ≡ value_at g px py → s ≡ step_of g → IsWithin (3 * 2 ^ 50) v → IsWithin (2 ^ 40) s → a ≡ value_at g (px + n) py → IsWithin (2 ^ 52) (a +ℤ s)
next_fits g px py n v s a few value step small small_step here =
    subst (λ (z : ℤ). IsWithin (2 ^ 52) z) (sym (stepped g (px + n) py a s here step))
    (subst (λ (k : ℕ). IsWithin (2 ^ 52) (value_at g k py)) (omega arith) (value_stays_small g px py (n + 1) v s few value step small small_step))

-- the values n pixels from the start of a line
pub narrow_fits : (f : Face) (px end py n : ℕ) (v : NarrowValues) (l : NarrowLine) → n + 1 ≤ size_limit → IsLineAt f px end py l → AreNarrowAt f (px + n) py v → DoFit v l.steps
narrow_fits f px end py n v l few line are = record {
  first_within = next_fits f.edges.e0 px py n l.start.first l.steps.first v.first few line.start.first_is line.steps.first_is line.small.first_within line.small_steps.first_within are.first_is;
  second_within = next_fits f.edges.e1 px py n l.start.second l.steps.second v.second few line.start.second_is line.steps.second_is line.small.second_within line.small_steps.second_within are.second_is;
  third_within = next_fits f.edges.e2 px py n l.start.third l.steps.third v.third few line.start.third_is line.steps.third_is line.small.third_within line.small_steps.third_within are.third_is;
}
