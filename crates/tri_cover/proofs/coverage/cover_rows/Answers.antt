use Rattle.std.proofs.Common.{arith, ap, ◌∙◌}
use Rattle.std.proofs.lemmas.Int.{to_z-of_z}
use Rattle.fx_math.specs.Plain.{Point, vector}
use Rattle.fx_math.specs.Hit.{edges}
use Rattle.tri_cover.specs.Edges.{edges_of}
use Rattle.tri_cover.proofs.Judgement.{hit_of_is_judged}
use Rattle.tri_cover.proofs.Weights.{seen_pixel}
use Rattle.tri_cover.proofs.coverage.cover_rows.Goals as goal

pub judge-requires-clause-divides : goal.judge-requires-clause-divides
judge-requires-clause-divides c =
    seen_pixel c.args.lens.now c.args.px c.args.py (vector c.args.u) (vector c.args.v) (vector c.args.w) _ (edges_of c.new-edges.result)
    (grind (arith, to_z-of_z))
    (c.new-edges.ensures ∙ ap (λ (d : Point). edges d (vector c.args.u) (vector c.args.v) (vector c.args.w)) c.ray.ensures.value)

pub returns : goal.returns
returns c =
    c.judge.ensures ∙ hit_of_is_judged c.args.lens.now c.args.px c.args.py (vector c.args.u) (vector c.args.v) (vector c.args.w) c.args.colours _ (edges_of c.new-edges.result)
    (grind (arith, to_z-of_z))
    (c.new-edges.ensures ∙ ap (λ (d : Point). edges d (vector c.args.u) (vector c.args.v) (vector c.args.w)) c.ray.ensures.value)
