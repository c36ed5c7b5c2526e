use Rattle.std.proofs.Common.{◌&&◌}
use Rattle.std.proofs.lemmas.Bool.{and_parts, and_from}
use Rattle.span_shading.proofs.Words.{judged}
use Rattle.span_shading.proofs.spans.Span.fits.Goals as goal

pub returns : goal.returns
returns c = λ some.
    let s = c.args.self.now in
    let shade = c.args.shade.now in
    let red = judged s.red.here s.weight.here shade.red c.fits.result s.red.here_small s.weight.here_small c.fits.ensures some in
    let green = judged s.green.here s.weight.here shade.green c.fits-2.result s.green.here_small s.weight.here_small c.fits-2.ensures some in
    let blue = judged s.blue.here s.weight.here shade.blue c.fits-3.result s.blue.here_small s.weight.here_small c.fits-3.ensures some in (
      λ all.
          let parts = and_parts (c.fits.result && c.fits-2.result) c.fits-3.result all in
          let first = and_parts c.fits.result c.fits-2.result parts.0 in
          record { red = red.0 first.0; green = green.0 first.1; blue = blue.0 parts.1 },
      λ has. and_from (c.fits.result && c.fits-2.result) c.fits-3.result (and_from c.fits.result c.fits-2.result (red.1 has.red) (green.1 has.green)) (blue.1 has.blue),
    )
