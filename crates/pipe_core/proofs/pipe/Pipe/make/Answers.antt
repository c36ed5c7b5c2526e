use Rattle.std.proofs.Common.{[], ◌∷◌, ap, inl, refl}
use Rattle.pipe_core.specs.Makes.{with_app}
use Rattle.pipe_plays.specs.Orders.{line_commands}
use Rattle.pipe_core.specs.Pipes.{PipeWork}
use Rattle.pipe_core.proofs.Making.{made_more, failed_behind}
use Rattle.pipe_core.proofs.pipe.Pipe.make.Goals as goal

pub returns-in-Ok-clause-made : goal.returns-in-Ok-clause-made
returns-in-Ok-clause-made g c = λ play ahead can free ready.
    let p = c.args.self.now in
    let r = c.give.new.self in
    let line = c.args.line in
    let is = c.in-Ok.ensures.state in
    made_more c.a_pipe_catches_up.ensures play (with_app play (line ∷ [])) ahead (line_commands (line ∷ [])) c.settle.result p r c.settle.new.self
    (g.O.Sink.written c.args.frames.now) (g.O.Sink.written c.settle.new.frames) can free ready
    (ap (λ (x : PipeWork). x.scene) is) (ap (λ (x : PipeWork). x.app.state) is) (ap (λ (x : PipeWork). x.c) is)
    (c.settle.ensures.settles (with_app play (line ∷ [])) ahead can (c.in-Ok.ensures.keeps play ahead ready.keeps))
    (λ more made. (c.later_commands_come_later.ensures play.channels ahead play.app play.dbase p.scene.shared.log more ready.caught_up.made).lines (line ∷ []) made)

pub returns-in-Ok-clause-failed : goal.returns-in-Ok-clause-failed
returns-in-Ok-clause-failed g c = λ play ahead can keeps.
    let grown = with_app play (c.args.line ∷ []) in
    failed_behind play grown ahead c.settle.result c.args.self.now c.give.new.self c.settle.new.self
    (g.O.Sink.written c.args.frames.now) (g.O.Sink.written c.settle.new.frames)
    (ap (λ (x : PipeWork). x.app.state) c.in-Ok.ensures.state) (ap (λ (x : PipeWork). x.c) c.in-Ok.ensures.state)
    (c.settle.ensures.settles grown ahead can (c.in-Ok.ensures.keeps play ahead keeps))

pub returns-in-Err-clause-failed : goal.returns-in-Err-clause-failed
returns-in-Err-clause-failed g c = λ play ahead can keeps. inl (c.in-Err.ensures.unchanged, refl)
