use Rattle.std.proofs.Common.{◌∙◌}
use Rattle.depth_raster.specs.Goes.{IsDrawnIn}
use Rattle.depth_raster.proofs.Flushed.{go_flushed}
use Rattle.depth_raster.proofs.Handed.{strips_then_same}
use Rattle.depth_raster.proofs.opaque.finish.Goals as goal

pub hand_over-requires-clause-strips : goal.hand_over-requires-clause-strips
hand_over-requires-clause-strips g c =
    let a = c.args in
    let begin = c.begin_go-processors.ensures in
    let go = c.go-go in
    (go_flushed go.result a.lens.now a.back a.batch.now.pieces a.batch.now.is_first a.strips.now.items c.draw_strips.new.strips.items go.ensures.lens go.ensures.back (go.ensures.pieces ∙ begin.pieces) (go.ensures.first ∙ begin.first)
    c.requires.sound c.draw_strips.ensures.many c.draw_strips.ensures.drawn).sound

pub returns-clause-sound : goal.returns-clause-sound
returns-clause-sound g c =
    let a = c.args in
    let begin = c.begin_go-processors.ensures in
    let go = c.go-go in
    let draws = c.draw_strips in
    (go_flushed go.result a.lens.now a.back a.batch.now.pieces a.batch.now.is_first a.strips.now.items c.hand_over.new.strips.items go.ensures.lens go.ensures.back (go.ensures.pieces ∙ begin.pieces) (go.ensures.first ∙ begin.first)
    c.requires.sound (c.hand_over.ensures.many ∙ draws.ensures.many)
    (strips_then_same (IsDrawnIn go.result) a.strips.now.items draws.new.strips.items c.hand_over.new.strips.items draws.ensures.many draws.ensures.drawn c.hand_over.ensures.strips)).sound

pub returns-clause-drawn : goal.returns-clause-drawn
returns-clause-drawn g c =
    let a = c.args in
    let begin = c.begin_go-processors.ensures in
    let go = c.go-go in
    let draws = c.draw_strips in
    (go_flushed go.result a.lens.now a.back a.batch.now.pieces a.batch.now.is_first a.strips.now.items c.hand_over.new.strips.items go.ensures.lens go.ensures.back (go.ensures.pieces ∙ begin.pieces) (go.ensures.first ∙ begin.first)
    c.requires.sound (c.hand_over.ensures.many ∙ draws.ensures.many)
    (strips_then_same (IsDrawnIn go.result) a.strips.now.items draws.new.strips.items c.hand_over.new.strips.items draws.ensures.many draws.ensures.drawn c.hand_over.ensures.strips)).seen

pub returns-clause-blank : goal.returns-clause-blank
returns-clause-blank g c =
    let a = c.args in
    let begin = c.begin_go-processors.ensures in
    let go = c.go-go in
    let draws = c.draw_strips in
    (go_flushed go.result a.lens.now a.back a.batch.now.pieces a.batch.now.is_first a.strips.now.items c.hand_over.new.strips.items go.ensures.lens go.ensures.back (go.ensures.pieces ∙ begin.pieces) (go.ensures.first ∙ begin.first)
    c.requires.sound (c.hand_over.ensures.many ∙ draws.ensures.many)
    (strips_then_same (IsDrawnIn go.result) a.strips.now.items draws.new.strips.items c.hand_over.new.strips.items draws.ensures.many draws.ensures.drawn c.hand_over.ensures.strips)).blank
