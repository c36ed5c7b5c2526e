-- Edge values along a row: what a step makes of them, and what they tell of a pixel.
use Rattle.std.proofs.Common.{◌≡◌, ℕ, ◌+◌, ◌≤◌, ◌^◌, ap, sym, ◌∙◌, subst}
use Rattle.std.specs.Prelude.{ℤ, pos, ◌+ℤ◌, ◌&&◌, int_le, int_lt, unsigned_abs}
use Rattle.fx_math.specs.Limits.{size_limit}
use Rattle.fx_math.specs.Within.{IsWithin}
use Rattle.tri_cover.specs.Faces.{is_covered}
use Rattle.tri_cover.specs.Linears.{value_at, weight_at, step_of}
use Rattle.tri_cover.specs.declared.face.Face.{Face}
use Rattle.tri_cover.specs.declared.linear.Linear.{Linear}
use Rattle.depth_raster.specs.Edges.{AreValuesAt, AreSlopesOf}
use Rattle.edge_values.specs.Steps.{DoFit, IsSumOf}
use Rattle.edge_values.specs.Weights.{are_covering, IsWeightOf}
use Rattle.tri_cover.proofs.EdgeLines.{total_value}
use Rattle.edge_values.specs.declared.values.EdgeValues.{EdgeValues}
use Rattle.depth_raster.proofs.Stepped.{value_after, value_within}

pub stepped : (g : Linear) (px py : ℕ) (e d : ℤ) → e ≡ value_at g px py → d ≡ step_of g → e +ℤ d ≡ value_at g (px + 1) py
stepped g px py e d is step = ap (λ (u : ℤ). u +ℤ d) is ∙ ap (λ (u : ℤ). value_at g px py +ℤ u) step ∙ sym (value_after g px py)

pub values_next : (f : Face) (px py : ℕ) (e d t : EdgeValues) → AreValuesAt f px py e → AreSlopesOf f d → IsSumOf e d t → AreValuesAt f (px + 1) py t
values_next f px py e d t are steps is = record {
  first_is = is.first_is ∙ stepped f.edges.e0 px py e.first d.first are.first_is steps.first_is;
  second_is = is.second_is ∙ stepped f.edges.e1 px py e.second d.second are.second_is steps.second_is;
  third_is = is.third_is ∙ stepped f.edges.e2 px py e.third d.third are.third_is steps.third_is;
}

pub value_fits : (g : Linear) (px py : ℕ) (e d : ℤ) → e ≡ value_at g px py → d ≡ step_of g → px + 1 ≤ size_limit → py ≤ size_limit → IsWithin (2 ^ 82) (e +ℤ d)
value_fits g px py e d is step column row = subst (λ (z : ℤ). IsWithin (2 ^ 82) z) (sym (stepped g px py e d is step)) (value_within g (px + 1) py column row)

pub values_fit : (f : Face) (px py : ℕ) (e d : EdgeValues) → AreValuesAt f px py e → AreSlopesOf f d → px + 1 ≤ size_limit → py ≤ size_limit → DoFit e d
values_fit f px py e d are steps column row = record {
  first_within = value_fits f.edges.e0 px py e.first d.first are.first_is steps.first_is column row;
  second_within = value_fits f.edges.e1 px py e.second d.second are.second_is steps.second_is column row;
  third_within = value_fits f.edges.e2 px py e.third d.third are.third_is steps.third_is column row;
}

-- what the edge values tell of a pixel
pub covering : (f : Face) (px py : ℕ) (e : EdgeValues) → AreValuesAt f px py e → are_covering e.first e.second e.third ≡ is_covered f px py
covering f px py e are =
    ap (λ (z : ℤ). are_covering z e.second e.third) are.first_is
    ∙ ap (λ (z : ℤ). are_covering (value_at f.edges.e0 px py) z e.third) are.second_is
    ∙ ap (are_covering (value_at f.edges.e0 px py) (value_at f.edges.e1 px py)) are.third_is
    ∙ ap (λ (z : ℤ). int_le (pos 0) (value_at f.edges.e0 px py) && int_le (pos 0) (value_at f.edges.e1 px py) && int_le (pos 0) (value_at f.edges.e2 px py) && int_lt (pos 0) z)
    (sym (total_value f.edges.e0 f.edges.e1 f.edges.e2 f.edges.sum px py f.edges.total))

pub weight_is : (f : Face) (px py s : ℕ) (e : EdgeValues) → AreValuesAt f px py e → IsWeightOf e.first e.second e.third s → s ≡ weight_at f.edges.sum px py
weight_is f px py s e are weight =
    let sum : pos s ≡ value_at f.edges.sum px py =
    weight.is_sum
    ∙ ap (λ (z : ℤ). z +ℤ e.second +ℤ e.third) are.first_is
    ∙ ap (λ (z : ℤ). value_at f.edges.e0 px py +ℤ z +ℤ e.third) are.second_is
    ∙ ap (λ (z : ℤ). value_at f.edges.e0 px py +ℤ value_at f.edges.e1 px py +ℤ z) are.third_is
    ∙ sym (total_value f.edges.e0 f.edges.e1 f.edges.e2 f.edges.sum px py f.edges.total) in
    ap unsigned_abs sum
