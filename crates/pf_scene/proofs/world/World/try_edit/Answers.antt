-- What follows an accepted edit.
use Rattle.std.proofs.Common.{ℕ, ◌∙◌, ap, subst}
use Rattle.cycle_buffer.specs.Cycles.{written_at}
use Rattle.pf_scene.specs.Worlds.{WorldState}
use Rattle.pf_scene.specs.Counts.{AreTrimmed}
use Rattle.pf_scene.proofs.Trimmed.{trimmed_then}
use Rattle.pf_scene.proofs.Opened.{opening_one}
use Rattle.pf_scene.proofs.world.World.try_edit.Goals as goal

pub follow-requires-clause-open : goal.follow-requires-clause-open
follow-requires-clause-open c =
    let i = c.self.inside in
    opening_one (written_at i.cycles) (written_at c.open.new.cycles) i.graph c.edit.new.self c.args.e.now c.next_serial-first.result _ c.from_ref-edits.ensures.value c.next_serial-first.ensures
    c.keeps_limits.ensures c.self.invariant (ap (λ (w : WorldState). w.graph.gone) c.self.view_is ∙ c.requires.empty) c.requires.fits
    c.in-Ok.ensures.done c.in-Ok.ensures.after c.open.ensures.below c.in_ok-open.ensures.made c.open.ensures.above

pub returns-in-Ok-clause-trimmed : goal.returns-in-Ok-clause-trimmed
returns-in-Ok-clause-trimmed c =
    let i = c.self.inside in
    let first = c.next_serial-first.result in
    subst (λ (w : WorldState). AreTrimmed w.graph.next_serial w.cycles c.follow.new.cycles) c.self.view_is
    (subst (λ (n : ℕ). AreTrimmed n i.cycles c.follow.new.cycles) c.next_serial-first.ensures
    (trimmed_then first i.cycles c.open.new.cycles c.follow.new.cycles c.open.ensures.trimmed (c.follow.ensures.trimmed first)))

pub returns-in-Err-Fault-clause-trimmed : goal.returns-in-Err-Fault-clause-trimmed
returns-in-Err-Fault-clause-trimmed c =
    let i = c.self.inside in
    let first = c.next_serial-first.result in
    subst (λ (w : WorldState). AreTrimmed w.graph.next_serial w.cycles c.withdraw.new.cycles) c.self.view_is
    (subst (λ (n : ℕ). AreTrimmed n i.cycles c.withdraw.new.cycles) c.next_serial-first.ensures
    (trimmed_then first i.cycles c.open.new.cycles c.withdraw.new.cycles c.open.ensures.trimmed (c.withdraw.ensures.trimmed first)))

pub returns-in-Err-NoMemory-clause-trimmed : goal.returns-in-Err-NoMemory-clause-trimmed
returns-in-Err-NoMemory-clause-trimmed c =
    let i = c.self.inside in
    let first = c.next_serial-first.result in
    subst (λ (w : WorldState). AreTrimmed w.graph.next_serial w.cycles c.withdraw-in-Err-NoMemory.new.cycles) c.self.view_is
    (subst (λ (n : ℕ). AreTrimmed n i.cycles c.withdraw-in-Err-NoMemory.new.cycles) c.next_serial-first.ensures
    (trimmed_then first i.cycles c.open.new.cycles c.withdraw-in-Err-NoMemory.new.cycles c.open.ensures.trimmed (c.withdraw-in-Err-NoMemory.ensures.trimmed first)))
