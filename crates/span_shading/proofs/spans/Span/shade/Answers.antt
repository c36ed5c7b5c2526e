use Rattle.std.proofs.Common.{rules}
use Rattle.span_shading.proofs.Words.{told}
use Rattle.span_shading.proofs.spans.Span.shade.Goals as goal

pub returns-then-fits : goal.returns-then-fits
returns-then-fits c =
    record {
      red = λ channel. ((c.fits.ensures channel.some).0 (search rules)).red;
      green = λ channel. ((c.fits.ensures channel.some).0 (search rules)).green;
      blue = λ channel. ((c.fits.ensures channel.some).0 (search rules)).blue;
    }

pub returns-else-fits : goal.returns-else-fits
returns-else-fits c =
    let s = c.args.self.now in
    let shade = c.divided.result in
    record {
      red = told s.red.here s.weight.here shade.red s.red.here_small s.weight.here_small c.divided.ensures.red;
      green = told s.green.here s.weight.here shade.green s.green.here_small s.weight.here_small c.divided.ensures.green;
      blue = told s.blue.here s.weight.here shade.blue s.blue.here_small s.weight.here_small c.divided.ensures.blue;
    }
