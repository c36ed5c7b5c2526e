use Rattle.std.proofs.Common.{sym, subst}
use Rattle.live_run.specs.Driven.{Driven, IsDriven}
use Rattle.live_run.proofs.DrivenLemmas.{driven_on}
use Rattle.live_run.proofs.live.Live.settle.Goals as goal

pub returns-clause-driven : goal.returns-clause-driven
returns-clause-driven g c = λ play ahead asked bytes driven.
    let s = c.self.inside in
    let d : Driven g.row.R.Denot g.row.G.Denot = record { pipe = s.pipe; steps = s.steps; blocks = s.blocks; frames = s.frames } in
    let before = g.O.Sink.written c.args.frames.now in
    driven_on play ahead asked bytes before (g.O.Sink.written c.settle.new.frames) d c.settle.new.self
    (subst (λ (v : Driven g.row.R.Denot g.row.G.Denot). IsDriven play ahead asked bytes before v) (sym c.self.view_is) driven)
    (c.settle.ensures.keeps play ahead asked bytes) c.settle.ensures.told_numbers
