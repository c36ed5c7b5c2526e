use Rattle.std.proofs.Common.{◌∙◌, refl}
use Rattle.stream_stages.proofs.Exchanged.{swapped_size, channel_ended}
use Rattle.stream_stages.proofs.drawing.end_channel.Goals as goal

pub returns-clause-size : goal.returns-clause-size
returns-clause-size g c =
    let a = c.args in
    swapped_size a.raster.now.lens a.frame.now.load.images a.frame.now.channel c.finish.new.image c.swap_image.new.image
    c.swap_image.result
    (record { width = c.finish.ensures.width ∙ c.requires.size.width; height = c.finish.ensures.height ∙ c.requires.size.height })
    c.swap_image.ensures.exact c.swap_image.ensures.back

pub returns-clause-ends : goal.returns-clause-ends
returns-clause-ends g c =
    let a = c.args in
    channel_ended a.raster.now.lens a.raster.now.back a.stats a.raster.now c.finish.new.self a.frame.now _ c.finish.new.image
    c.swap_image.result c.finish.ensures.drawn refl c.added-frame.ensures
    (record { width = c.finish.ensures.width ∙ c.requires.size.width; height = c.finish.ensures.height ∙ c.requires.size.height })
    c.finish.ensures.pieces c.swap_image.ensures.exact c.swap_image.ensures.load
