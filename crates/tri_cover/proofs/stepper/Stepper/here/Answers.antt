use Rattle.std.proofs.Common.{arith, ◌∙◌}
use Rattle.std.proofs.lemmas.Int.{to_z-of_z}
use Rattle.tri_cover.specs.Hits.{vertex}
use Rattle.tri_cover.specs.Edges.{edges_of}
use Rattle.tri_cover.proofs.Judgement.{hit_of_is_judged}
use Rattle.tri_cover.proofs.Weights.{seen_pixel}
use Rattle.tri_cover.proofs.stepper.Stepper.here.Goals as goal

pub judge-requires-clause-volume : goal.judge-requires-clause-volume
judge-requires-clause-volume c = let s = c.args.self.now in grind (arith, to_z-of_z, s.at_pixel.volume_small)

pub judge-requires-clause-divides : goal.judge-requires-clause-divides
judge-requires-clause-divides c =
    let s = c.args.self.now in
    seen_pixel s.lens s.px s.py (vertex s.tri 0) (vertex s.tri 1) (vertex s.tri 2) _ (edges_of s.here)
    (grind (arith, to_z-of_z, s.at_pixel.volume_is)) s.at_pixel.here_is

pub returns : goal.returns
returns c =
    let s = c.args.self.now in
    c.judge.ensures ∙ hit_of_is_judged s.lens s.px s.py (vertex s.tri 0) (vertex s.tri 1) (vertex s.tri 2) s.tri.c _ (edges_of s.here)
    (grind (arith, to_z-of_z, s.at_pixel.volume_is)) s.at_pixel.here_is
