use Rattle.std.proofs.Common.{◌≡◌, length, sym, ◌∙◌, subst}
use Rattle.live_run.specs.Driven.{Driven, IsDriven}
use Rattle.live_run.proofs.DrivenLemmas.{driven_block}
use Rattle.live_run.proofs.live.Live.give_base.Goals as goal

pub returns-clause-driven : goal.returns-clause-driven
returns-clause-driven g c = λ play ahead asked bytes now driven.
    let s = c.self.inside in
    let d : Driven g.row.R.Denot g.row.G.Denot = record { pipe = s.pipe; steps = s.steps; blocks = s.blocks; frames = s.frames } in
    let many : length c.args.block.items ≡ c.len-lines.result = sym c.args.block.ok.0 ∙ sym c.len-lines.ensures in
    driven_block play ahead asked bytes now c.args.block.items c.len-lines.result d c.give_block.new.self
    (subst (λ (v : Driven g.row.R.Denot g.row.G.Denot). IsDriven play ahead asked bytes now v) (sym c.self.view_is) driven) c.requires.fit
    c.requires.order many c.if-steps-gt-MOST_STEPS.false (c.in_ok-give_block.ensures.keeps play ahead asked bytes now)
    c.in_ok-give_block.ensures.told_numbers
