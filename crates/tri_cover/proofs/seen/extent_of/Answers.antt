use Rattle.std.proofs.Common.{◌∙◌, sym}
use Rattle.fx_math.specs.Views.{point_of}
use Rattle.tri_cover.proofs.Visible.{nearer_unseen, farther_unseen, whole_seen}
use Rattle.tri_cover.proofs.seen.extent_of.Goals as goal
use Rattle.tri_cover.proofs.seen.extent_of.Goals.{then-are_nearer, else-are_nearer}

pub returns-then-are_farther-clause-value : goal.returns-then-are_farther-clause-value
returns-then-are_farther-clause-value c =
    let lens = c.args.lens.now in
    let u = point_of c.args.u in
    let v = point_of c.args.v in
    let w = point_of c.args.w in
    elim c.if-are_nearer.branch [
      | then-are_nearer b ↦ nearer_unseen lens u v w (c.are_nearer.ensures.0 b.if-are_nearer.true)
      | else-are_nearer b ↦ farther_unseen lens u v w (b.are_farther.ensures.0 (sym b.value-is ∙ c.if-are_farther.true))
    ]

pub returns-else-are_farther-clause-value : goal.returns-else-are_farther-clause-value
returns-else-are_farther-clause-value c =
    whole_seen c.args.lens.now (point_of c.args.u) (point_of c.args.v) (point_of c.args.w) _ c.whole.ensures
