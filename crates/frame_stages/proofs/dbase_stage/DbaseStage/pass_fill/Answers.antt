use Rattle.std.proofs.Common.{sym, subst, rules}
use Rattle.frame_stages.specs.declared.next_line.NextLine.TheVariants as next
use Rattle.frame_stages.specs.DbaseLines.{CanFill, Fills}
use Rattle.frame_stages.proofs.DbaseOrder.{kind_here, can_fill, filled_in_order, fill_passes}
use Rattle.frame_stages.proofs.dbase_stage.DbaseStage.pass_fill.Goals as goal

pub fill-requires : goal.fill-requires
fill-requires c =
    subst (CanFill c.in-Some.line.step) (sym c.replace-hand.ensures.value)
    (can_fill _ c.in-Some.line c.pop_front.new.self.items c.self.invariant c.in-Some.ensures.items
    (kind_here _ _ c.in-Some.line c.pop_front.new.self.items next.Fill c.self.view_is c.in-Some.ensures.items c.requires.next))

pub invariant_of-self : goal.invariant_of-self
invariant_of-self c =
    filled_in_order _ c.in-Some.line c.pop_front.new.self.items c.in-Ok.buffer c.hand_of.result c.self.invariant
    c.in-Some.ensures.items
    (kind_here _ _ c.in-Some.line c.pop_front.new.self.items next.Fill c.self.view_is c.in-Some.ensures.items c.requires.next)
    (subst (λ h. Fills c.in-Some.line.step h c.in-Ok.buffer) c.replace-hand.ensures.value c.in-Ok.ensures)
    (record {
      holds = c.hand_of.ensures.holds;
      opened = c.hand_of.ensures.open_after;
      whole = search rules;
      ranged = c.hand_of.ensures.ranged;
    })

pub returns-in-Ok-clause-passed : goal.returns-in-Ok-clause-passed
returns-in-Ok-clause-passed c =
    fill_passes _ _ c.in-Some.line c.pop_front.new.self.items c.in-Ok.buffer c.hand_of.result c.self.view_is c.self.invariant
    c.in-Some.ensures.items c.requires.next
    (subst (λ h. Fills c.in-Some.line.step h c.in-Ok.buffer) c.replace-hand.ensures.value c.in-Ok.ensures)
    c.hand_of.ensures.holds
