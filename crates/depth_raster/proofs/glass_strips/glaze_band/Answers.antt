use Rattle.std.proofs.Common.{get_or}
use Rattle.depth_raster.proofs.Glazed.{unmet_glazed}
use Rattle.depth_raster.proofs.Tiling.{tile_within, unmet_above, unmet_below}
use Rattle.depth_raster.proofs.glass_strips.glaze_band.Goals.{then-extent-band-via-then-extent-band, then-extent-band-via-else-extent-band+then-band-extent}
use Rattle.depth_raster.proofs.glass_strips.glaze_band.Goals as goal

pub returns-then-extent-band : goal.returns-then-extent-band
returns-then-extent-band c = λ j d below.
    let a = c.args in
    let p = a.piece.now in
    let t = get_or a.tiles.now j d in
    let block = c.requires.tiles.blocks j d below in
    elim c.then-extent-band.branch [
      | then-extent-band-via-then-extent-band w ↦ unmet_glazed a.lens.now p.face t (unmet_below a.lens.now p a.band.now j t c.requires.ready block (tile_within a.lens.now a.band.now a.tiles.now j d c.requires.tiles c.requires.band below) w.if-extent-band.true)
      | then-extent-band-via-else-extent-band+then-band-extent w ↦ unmet_glazed a.lens.now p.face t (unmet_above a.lens.now p a.band.now j t c.requires.ready block (tile_within a.lens.now a.band.now a.tiles.now j d c.requires.tiles c.requires.band below) w.if-band-extent.true)
    ]
