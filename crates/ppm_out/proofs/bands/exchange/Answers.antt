use Rattle.std.proofs.Common.{ap, ◌∙◌, set}
use Rattle.std.proofs.lemmas.List.{map-set}
use Rattle.ppm_out.specs.Bands.{bytes_of_each}
use Rattle.ppm_out.proofs.bands.exchange.Goals as goal

pub returns-clause-bands : goal.returns-clause-bands
returns-clause-bands c =
    ap (λ band. bytes_of_each (set c.args.bands.now c.args.i band)) c.swap.ensures.x_after
    ∙ map-set (λ v. v.items) c.args.bands.now c.args.i c.args.rows.now
