use Rattle.std.proofs.Common.{◌≡◌, ℕ, ◌+◌, [], ◌∷◌, inr, refl, sym, ap, ◌∙◌, subst, arith}
use Rattle.mode_hosts.specs.Lives.{with_app, with_dbase}
use Rattle.live_text.specs.LiveCommands.{wait_at, first_number}
use Rattle.live_run.specs.Driven.{Driven, IsDriven}
use Rattle.live_run.proofs.DrivenLemmas.{driven_waits}
use Rattle.live_run.proofs.TellLemmas.{on_err}
use Rattle.live_run.proofs.live.Live.give_block.Goals as goal

pub returns-in_err-line-clause-failed : goal.returns-in_err-line-clause-failed
returns-in_err-line-clause-failed g c =
    on_err c.from_residual-in_err-line.result _
    (λ play ahead asked bytes now driven.
    inr (subst (λ (v : Driven g.row.R.Denot g.row.G.Denot). IsDriven (with_dbase play c.args.block.items) ahead asked bytes now v)
    (sym c.in_err-line.ensures.unchanged) (c.in_ok-give_base.ensures.driven play ahead asked bytes now driven)))

pub invariant_of-self : goal.invariant_of-self
invariant_of-self g c =
    let one = ap (λ (v : Driven g.row.R.Denot g.row.G.Denot). v.blocks) c.self-2.view_is in
    let two = ap (λ (v : Driven g.row.R.Denot g.row.G.Denot). v.steps) c.self-2.view_is in
    let three = ap (λ (v : Driven g.row.R.Denot g.row.G.Denot). v.blocks) c.self.view_is in
    let four = ap (λ (v : Driven g.row.R.Denot g.row.G.Denot). v.steps) c.self.view_is in
    record {
      live = c.self-2.invariant.live;
      few_blocks = omega (arith, one, two, three, four, c.line.ensures.blocks, c.in_ok-line.ensures.steps, c.self.invariant.few_blocks);
      few_steps = c.self-2.invariant.few_steps;
      frames = c.self-2.invariant.frames;
    }

pub returns-clause-driven : goal.returns-clause-driven
returns-clause-driven g c = λ play ahead asked bytes now driven.
    let ls = c.args.block.items in
    let s = c.self-2.inside in
    let n = c.first_number-line.result in
    let k = c.self.inside.blocks + 1 in
    let d : Driven g.row.R.Denot g.row.G.Denot = record { pipe = s.pipe; steps = s.steps; blocks = s.blocks; frames = s.frames } in
    let one = ap (λ (v : Driven g.row.R.Denot g.row.G.Denot). v.blocks) c.self-2.view_is in
    let two = ap (λ (v : Driven g.row.R.Denot g.row.G.Denot). v.blocks) c.self.view_is in
    let same : s.blocks + 1 ≡ k = ap (λ (m : ℕ). m + 1) (one ∙ c.line.ensures.blocks ∙ sym two) in
    driven_waits play ahead asked bytes now ls n k (s.blocks + 1) d (c.first_number-line.ensures ∙ ap first_number c.deref.ensures.value) same
    (subst (λ (v : Driven g.row.R.Denot g.row.G.Denot). IsDriven (with_app (with_dbase play ls) (wait_at n k ∷ [])) ahead asked bytes now v)
    (sym c.self-2.view_is)
    (c.in_ok-line.ensures.driven (with_dbase play ls) ahead asked bytes now refl (c.in_ok-give_base.ensures.driven play ahead asked bytes now driven)))
