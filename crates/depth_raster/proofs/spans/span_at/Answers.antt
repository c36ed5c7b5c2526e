use Rattle.depth_raster.proofs.Shaded.{span_is}
use Rattle.depth_raster.proofs.spans.span_at.Goals as goal

pub returns-clause-span : goal.returns-clause-span
returns-clause-span c =
    let f = c.args.face.now in
    span_is f c.args.px c.args.py c.line_at-first.result c.line_at-second.result c.line_at-third.result c.mixed.result
    c.line_at-first.ensures c.line_at-second.ensures c.line_at-third.ensures c.mixed.ensures.span
