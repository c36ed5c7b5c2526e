use Rattle.std.proofs.Common.{sym}
use Rattle.ppm_out.proofs.InBands.{pixel_of_band}
use Rattle.ppm_out.proofs.image.Image.get.Goals as goal

pub returns : goal.returns
returns c =
    rw (c.place-place.ensures.exact, c.band-band.ensures.exact)
    (sym (pixel_of_band c.args.self.now c.args.px c.args.py c.requires.column c.requires.row))
