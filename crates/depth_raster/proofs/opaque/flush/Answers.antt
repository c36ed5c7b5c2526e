use Rattle.std.proofs.Common.{◌∙◌}
use Rattle.depth_raster.proofs.Flushed.{go_flushed}
use Rattle.depth_raster.proofs.opaque.flush.Goals as goal

pub returns-clause-sound : goal.returns-clause-sound
returns-clause-sound g c =
    let a = c.args in
    let begin = c.begin_go-processors.ensures in
    let go = c.go-go in
    (go_flushed go.result a.lens.now a.back a.batch.now.pieces a.batch.now.is_first a.strips.now.items c.draw_strips.new.strips.items go.ensures.lens go.ensures.back (go.ensures.pieces ∙ begin.pieces) (go.ensures.first ∙ begin.first)
    c.requires.sound c.draw_strips.ensures.many c.draw_strips.ensures.drawn).sound

pub returns-clause-drawn : goal.returns-clause-drawn
returns-clause-drawn g c =
    let a = c.args in
    let begin = c.begin_go-processors.ensures in
    let go = c.go-go in
    (go_flushed go.result a.lens.now a.back a.batch.now.pieces a.batch.now.is_first a.strips.now.items c.draw_strips.new.strips.items go.ensures.lens go.ensures.back (go.ensures.pieces ∙ begin.pieces) (go.ensures.first ∙ begin.first)
    c.requires.sound c.draw_strips.ensures.many c.draw_strips.ensures.drawn).seen

pub returns-clause-blank : goal.returns-clause-blank
returns-clause-blank g c =
    let a = c.args in
    let begin = c.begin_go-processors.ensures in
    let go = c.go-go in
    (go_flushed go.result a.lens.now a.back a.batch.now.pieces a.batch.now.is_first a.strips.now.items c.draw_strips.new.strips.items go.ensures.lens go.ensures.back (go.ensures.pieces ∙ begin.pieces) (go.ensures.first ∙ begin.first)
    c.requires.sound c.draw_strips.ensures.many c.draw_strips.ensures.drawn).blank
