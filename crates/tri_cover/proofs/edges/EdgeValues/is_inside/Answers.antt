use Rattle.std.proofs.Common.{pos, ◌≤ℤ◌, ◌<ℤ◌, arith, sym, ◌∙◌}
use Rattle.std.proofs.lemmas.Int.{ints}
use Rattle.tri_cover.specs.Edges.{edges_of}
use Rattle.tri_cover.proofs.Signs.{inside_above, inside_below, inside_flat}
use Rattle.tri_cover.proofs.edges.EdgeValues.is_inside.Goals as goal

pub returns-then-volume-gt0 : goal.returns-then-volume-gt0
returns-then-volume-gt0 c =
    let above : pos 0 <ℤ c.args.volume = omega (arith, ints) in
    c.are_not_below_zero.ensures ∙ sym (inside_above c.args.volume (edges_of c.args.self.now) above)

pub returns-then-volume-lt0 : goal.returns-then-volume-lt0
returns-then-volume-lt0 c =
    let below : c.args.volume <ℤ pos 0 = omega (arith, ints) in
    c.are_not_above_zero.ensures ∙ sym (inside_below c.args.volume (edges_of c.args.self.now) below)

pub returns-else-volume-lt0 : goal.returns-else-volume-lt0
returns-else-volume-lt0 c =
    let low : c.args.volume ≤ℤ pos 0 = omega (arith, ints) in
    let high : pos 0 ≤ℤ c.args.volume = omega (arith, ints) in
    c.if-volume-lt0.false ∙ sym (inside_flat c.args.volume (edges_of c.args.self.now) low high)
