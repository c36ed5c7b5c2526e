use Rattle.std.proofs.Common.{◌≡◌, ℤ, to_z, of_z, subst, ap, ◌∙◌}
use mir.Syntax.{w128}
use Rattle.std.proofs.lemmas.Int.{to_z-of_z}
use Rattle.fx_math.specs.Plain.{Point}
use Rattle.tri_cover.specs.Planes.{normal_of, turned_point, IsLinearOf}
use Rattle.tri_cover.proofs.edge_functions.EdgeFunctions.new.Goals as goal

pub returns : goal.returns
returns c =
    let same : to_z w128 (of_z w128 c.args.volume) ≡ c.args.volume = to_z-of_z w128 c.args.volume c.ranges.volume in
    let turn : (k : Point) → turned_point (to_z w128 (of_z w128 c.args.volume)) k ≡ turned_point c.args.volume k = λ k. ap (λ (z : ℤ). turned_point z k) same in
    record {
      first_is = subst (λ (k : Point). IsLinearOf c.args.lens.now k c.linear-e0.result) (c.facing.ensures ∙ turn (normal_of c.args.first)) c.linear-e0.ensures;
      second_is = subst (λ (k : Point). IsLinearOf c.args.lens.now k c.linear-e1.result) (c.facing-2.ensures ∙ turn (normal_of c.args.second)) c.linear-e1.ensures;
      third_is = subst (λ (k : Point). IsLinearOf c.args.lens.now k c.linear-e2.result) (c.facing-3.ensures ∙ turn (normal_of c.args.third)) c.linear-e2.ensures;
    }
