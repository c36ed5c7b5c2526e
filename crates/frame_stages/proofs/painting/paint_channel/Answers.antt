use Rattle.std.proofs.Common.{◌∙◌, refl, ap, List, length, get_or}
use Rattle.std.proofs.lemmas.Option.{slice_get_read}
use Rattle.draw_list.specs.Lists.{Drawables}
use Rattle.stage_parts.specs.Loads.{LoadState}
use Rattle.frame_stages.proofs.Painted.{painted_channel, swapped_size}
use Rattle.frame_stages.proofs.painting.paint_channel.Goals as goal

pub returns-clause-size : goal.returns-clause-size
returns-clause-size g c =
    let a = c.args in
    swapped_size a.raster.now a.load.now.images a.channel c.draw.new.image c.swap_image.new.image c.swap_image.result
    (record { width = c.draw.ensures.width ∙ c.requires.size.width; height = c.draw.ensures.height ∙ c.requires.size.height })
    c.swap_image.ensures.exact c.swap_image.ensures.back

pub returns-clause-painted : goal.returns-clause-painted
returns-clause-painted g c =
    let a = c.args in
    let lists = a.load.now.lists in
    let d = c.index-lists-channel in
    painted_channel a.raster.now a.back lists a.channel a.load.now.images c.swap_image.new.self.images c.draw.new.image
    d.result c.swap_image.result
    (slice_get_read lists (length lists) a.channel d.result refl c.requires.channel
    (d.is ∙ ap (λ (ds : List Drawables). get_or ds a.channel d.result) c.lists.ensures))
    (record {
      size = record { width = c.draw.ensures.width ∙ c.requires.size.width; height = c.draw.ensures.height ∙ c.requires.size.height };
      pixels = c.draw.ensures.pixels;
    })
    c.swap_image.ensures.exact (ap (λ (l : LoadState). l.images) c.swap_image.ensures.load)
