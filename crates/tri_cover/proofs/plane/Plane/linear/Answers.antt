use Rattle.std.proofs.Common.{◌≡◌, ◌+ℤ◌, ◌*ℤ◌, pos, neg_ℤ, ℤ, w64, to_z, of_z, ap, ◌∙◌, lit<, subst, sym}
use mir.Syntax.{w128}
use Rattle.fx_math.specs.Within.{IsWithin}
use Rattle.fx_math.proofs.Size.{back}
use Rattle.tri_cover.specs.Planes.{normal_of}
use Rattle.tri_cover.proofs.EdgeLines.{ray_line}
use Rattle.tri_cover.proofs.plane.Plane.linear.Goals as goal

pub returns : goal.returns
returns c =
    let k = normal_of c.args.self.now in
    let a : to_z w64 (of_z w64 k.x) ≡ k.x = back w64 c.args.self.now.normal.x_within (lit< tt) in
    let b : to_z w64 (of_z w64 c.negated.result) ≡ neg_ℤ k.z =
    back w64 c.negated.ensures.bound (lit< tt) ∙ c.negated.ensures.value ∙ ap neg_ℤ (back w64 c.args.self.now.normal.z_within (lit< tt)) in
    let constant : to_z w128 (of_z w128 c.at_first.result) ≡ c.at_first.result = back w128 c.at_first.ensures.bound (lit< tt) in
    record {
      narrow = record {
        a_within = subst (λ (z : ℤ). IsWithin 2305843009213693952 z) (sym a) c.args.self.now.normal.x_within;
        b_within = subst (λ (z : ℤ). IsWithin 2305843009213693952 z) (sym (back w64 c.negated.ensures.bound (lit< tt))) c.negated.ensures.bound;
        c_within = subst (λ (z : ℤ). IsWithin 1208925819614629174706176 z) (sym constant) c.at_first.ensures.bound;
      };
      value = λ px py.
          ap (λ (z : ℤ). (pos 2 *ℤ z) *ℤ pos px +ℤ (pos 2 *ℤ to_z w64 (of_z w64 c.negated.result)) *ℤ pos py +ℤ to_z w128 (of_z w128 c.at_first.result)) a
          ∙ ap (λ (z : ℤ). (pos 2 *ℤ k.x) *ℤ pos px +ℤ (pos 2 *ℤ z) *ℤ pos py +ℤ to_z w128 (of_z w128 c.at_first.result)) b
          ∙ ap (λ (z : ℤ). (pos 2 *ℤ k.x) *ℤ pos px +ℤ (pos 2 *ℤ neg_ℤ k.z) *ℤ pos py +ℤ z) (constant ∙ c.at_first.ensures.value)
          ∙ ray_line c.args.lens.now k px py;
    }
