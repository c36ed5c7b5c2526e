use Rattle.std.proofs.Common.{ℕ, sym, ◌∙◌, subst}
use Rattle.stage_parts.specs.Parts.{AppKeeps}
use Rattle.mode_hosts.proofs.Given.{given_as}
use Rattle.mode_hosts.proofs.awaits.await_less.Goals as goal

pub returns-then-has_closed-clause-setup : goal.returns-then-has_closed-clause-setup
returns-then-has_closed-clause-setup c = λ g given. given_as g c.merges.result c.args.app.now c.merges.ensures given

pub returns-then-has_closed-clause-part : goal.returns-then-has_closed-clause-part
returns-then-has_closed-clause-part c = λ g seat log taken sent stream given keeps.
    subst (λ (n : ℕ). AppKeeps (record g { merges = n }) seat c.args.app.now.state log taken sent stream) (sym given.merges ∙ sym c.merges.ensures) keeps
