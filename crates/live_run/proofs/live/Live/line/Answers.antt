use Rattle.std.proofs.Common.{sym, subst}
use Rattle.live_run.specs.Driven.{Driven, IsDriven}
use Rattle.live_run.proofs.DrivenLemmas.{driven_line}
use Rattle.live_run.proofs.live.Live.line.Goals as goal

pub returns-clause-driven : goal.returns-clause-driven
returns-clause-driven g c = λ play ahead asked bytes now fits driven.
    let s = c.self.inside in
    let d : Driven g.row.R.Denot g.row.G.Denot = record { pipe = s.pipe; steps = s.steps; blocks = s.blocks; frames = s.frames } in
    driven_line play ahead asked bytes now c.args.line d c.give.new.self
    (subst (λ (v : Driven g.row.R.Denot g.row.G.Denot). IsDriven play ahead asked bytes now v) (sym c.self.view_is) driven) fits
    c.if-self-ge-MOST_STEPS.false (c.in_ok-give.ensures.keeps play ahead asked bytes now) c.in_ok-give.ensures.told_numbers
