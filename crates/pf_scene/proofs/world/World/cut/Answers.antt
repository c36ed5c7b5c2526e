-- The marked geodes have cycles of their triangles, under serials that differ.
use Rattle.std.proofs.Common.{◌<◌, ◌≤◌, ◌∙◌, sym, ap, subst}
use Rattle.pf_model.specs.Limits.{IsRising}
use Rattle.cycle_buffer.specs.Cycles.{written_at, out_at, most_of}
use Rattle.pf_scene.specs.Worlds.{WorldState}
use Rattle.pf_scene.proofs.Taken.{can_take, begins_same}
use Rattle.pf_scene.proofs.world.World.cut.Goals as goal

pub cut-requires : goal.cut-requires
cut-requires c =
    can_take (written_at c.self.inside.cycles) c.self.inside.graph c.self.inside.dirty c.keeps_limits.ensures c.self.invariant
    (subst (λ (w : WorldState). IsRising w.marks) (sym c.self.view_is) c.requires)

pub returns-clause-most : goal.returns-clause-most
returns-clause-most c = λ b low below.
    c.cut.ensures.most b (subst (λ (w : WorldState). most_of w.cycles ≤ b) (sym c.self.view_is) low)
    (λ s h. subst (λ (w : WorldState). out_at w.cycles s < b) (sym c.self.view_is) (below s))

pub returns-clause-begins : goal.returns-clause-begins
returns-clause-begins c =
    let i = c.self.inside in
    begins_same i.cycles c.cut.new.arrays i.graph i.dirty c.keeps_limits.ensures c.self.invariant c.cut.ensures.written c.cut.ensures.others
    ∙ ap (λ (w : WorldState). w.cycles.copies) c.self.view_is
