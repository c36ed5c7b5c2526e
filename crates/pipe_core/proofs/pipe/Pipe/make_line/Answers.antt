use Rattle.std.proofs.Common.{refl, sym, ◌∙◌}
use Rattle.pipe_core.specs.declared.commands.PipeCommand.TheVariants.{Line}
use Rattle.pipe_core.proofs.LiveRuns.{line_given, line_runs, given_comes, given_blames}
use Rattle.pipe_core.proofs.pipe.Pipe.make_line.Goals as goal

pub make-requires-clause-room : goal.make-requires-clause-room
make-requires-clause-room g c κs within = (line_given c.args.self.now c.args.line.step (sym c.line_refusal.ensures ∙ c.in-None.is)).room

pub make-requires-clause-going : goal.make-requires-clause-going
make-requires-clause-going g c κs within = (line_given c.args.self.now c.args.line.step (sym c.line_refusal.ensures ∙ c.in-None.is)).going

pub returns-in-Some-clause-comes : goal.returns-in-Some-clause-comes
returns-in-Some-clause-comes g c = λ play ahead may ready. (sym c.line_refusal.ensures ∙ c.in-Some.is, refl, refl)

pub returns-in-None-clause-comes : goal.returns-in-None-clause-comes
returns-in-None-clause-comes g c = λ play ahead may ready.
    let given = line_given c.args.self.now c.args.line.step (sym c.line_refusal.ensures ∙ c.in-None.is) in
    let can = line_runs play ahead c.args.self.now c.args.line may ready given in
    rw c.answer_of.ensures
    (given_comes play ahead (Line c.args.line) c.make.result c.args.self.now c.make.new.self
    (g.O.Sink.written c.args.frames.now) (g.O.Sink.written c.make.new.frames) can
    (c.make.ensures.made play ahead can may.not_stuck ready) (c.make.ensures.failed play ahead can ready.keeps))

pub returns-in-None-clause-blames : goal.returns-in-None-clause-blames
returns-in-None-clause-blames g c = rw c.answer_of.ensures (given_blames c.make.result _ _ _ _ c.make.ensures.blames)
