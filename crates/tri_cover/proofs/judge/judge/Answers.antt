use Rattle.std.proofs.Common.{◌≡◌, true, false, arith, sym}
use Rattle.std.proofs.lemmas.Int.{ints, to_z-of_z}
use Rattle.fx_math.specs.Hit.{depth_of, is_in_depth, is_inside}
use Rattle.tri_cover.specs.Edges.{edges_of}
use Rattle.tri_cover.proofs.Judgement.{judged_too_deep, judged_seen, seen_depth, IsSeenDepth}
use Rattle.tri_cover.proofs.Weights.{inside_of_one_sign}
use Rattle.tri_cover.proofs.judge.judge.Goals as goal

pub returns-then-not-is_in_depth : goal.returns-then-not-is_in_depth
unfolding depth_of
returns-then-not-is_in_depth c =
    let inside : is_inside c.args.volume (edges_of c.args.edges.now) ≡ true = grind (arith, to_z-of_z) in
    let deep : is_in_depth c.args.lens.now (depth_of c.args.lens.now c.args.volume (edges_of c.args.edges.now)) ≡ false = grind (arith, to_z-of_z) in
    sym (judged_too_deep c.args.lens.now c.args.volume (edges_of c.args.edges.now) c.args.colours inside deep)

pub overflow_cast-result : goal.overflow_cast-result
overflow_cast-result c =
    let seen : is_in_depth c.args.lens.now c.depth-depth.result ≡ true = grind (arith, to_z-of_z) in
    let range : IsSeenDepth c.depth-depth.result = seen_depth c.args.lens.now c.depth-depth.result seen in
    omega (arith, ints)

pub colour-requires-clause-signs : goal.colour-requires-clause-signs
colour-requires-clause-signs c =
    let inside : is_inside c.args.volume (edges_of c.args.edges.now) ≡ true = grind (arith, to_z-of_z) in
    inside_of_one_sign c.args.volume (edges_of c.args.edges.now) inside

pub returns : goal.returns
unfolding depth_of
returns c =
    let inside : is_inside c.args.volume (edges_of c.args.edges.now) ≡ true = grind (arith, to_z-of_z) in
    let seen : is_in_depth c.args.lens.now (depth_of c.args.lens.now c.args.volume (edges_of c.args.edges.now)) ≡ true = grind (arith, to_z-of_z) in
    grind (arith, to_z-of_z, judged_seen c.args.lens.now c.args.volume (edges_of c.args.edges.now) c.args.colours inside seen)
