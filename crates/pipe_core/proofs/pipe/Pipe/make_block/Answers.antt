use Rattle.std.proofs.Common.{inl, refl}
use Rattle.pipe_core.specs.Makes.{with_dbase}
use Rattle.pipe_plays.specs.Orders.{merges_behind}
use Rattle.pipe_core.proofs.Making.{made_more, failed_behind}
use Rattle.pipe_core.proofs.pipe.Pipe.make_block.Goals as goal

pub returns-in-Ok-clause-made : goal.returns-in-Ok-clause-made
returns-in-Ok-clause-made g c = λ play ahead can free ready.
    let p = c.args.self.now in
    let r = c.give_base.new.self in
    let block = c.args.block.items in
    let is = c.in-Ok.ensures.state in
    made_more c.a_pipe_catches_up.ensures play (with_dbase play block) ahead (merges_behind play.dbase block) c.settle.result p r c.settle.new.self
    (g.O.Sink.written c.args.frames.now) (g.O.Sink.written c.settle.new.frames) can free ready is.scene is.app is.back
    (c.settle.ensures.settles (with_dbase play block) ahead can (c.in-Ok.ensures.keeps play ahead can ready.keeps))
    (λ more made. (c.later_commands_come_later.ensures play.channels ahead play.app play.dbase p.scene.shared.log more ready.caught_up.made).block block made)

pub returns-in-Ok-clause-failed : goal.returns-in-Ok-clause-failed
returns-in-Ok-clause-failed g c = λ play ahead can keeps.
    let grown = with_dbase play c.args.block.items in
    failed_behind play grown ahead c.settle.result c.args.self.now c.give_base.new.self c.settle.new.self
    (g.O.Sink.written c.args.frames.now) (g.O.Sink.written c.settle.new.frames)
    c.in-Ok.ensures.state.app c.in-Ok.ensures.state.back
    (c.settle.ensures.settles grown ahead can (c.in-Ok.ensures.keeps play ahead can keeps))

pub returns-in-Err-clause-failed : goal.returns-in-Err-clause-failed
returns-in-Err-clause-failed g c = λ play ahead can keeps. inl (c.in-Err.ensures.unchanged, refl)
