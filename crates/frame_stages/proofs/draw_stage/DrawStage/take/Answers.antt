use Rattle.std.proofs.Common.{List, sym, subst}
use Rattle.stage_parts.specs.declared.packets.Packet.{Packet}
use Rattle.stage_parts.specs.Parts.{DrawPart}
use Rattle.frame_stages.specs.Works.{DrawWork}
use Rattle.frame_stages.proofs.Drawn.{part_ended}
use Rattle.frame_stages.proofs.draw_stage.DrawStage.take.Goals as goal

pub returns-in-Some-End-clause-part : goal.returns-in-Some-End-clause-part
returns-in-Some-End-clause-part g c =
    λ sent part.
    let d = c.self.inside in
    let before = g.T.TakeEnd.taken c.args.from.now in
    part_ended d.lens d.back (record { ended = d.ended; held = d.held }) before (g.T.TakeEnd.taken c.pop.new.self) sent
    (rw c.in-Some-End.field-0-is at c.in-Some-End.ensures.some)
    (subst (λ (w : DrawWork). DrawPart w.lens w.back w.state before sent) (sym c.self.view_is) part)

pub returns-in-Some-Frame-clause-part : goal.returns-in-Some-Frame-clause-part
returns-in-Some-Frame-clause-part g c =
    λ sent part.
    let d = c.draw.new.self in
    subst (λ (ps : List Packet). DrawPart d.lens d.back d.state ps sent)
    (sym (rw c.in-Some-Frame.field-0-is at c.in-Some-Frame.ensures.some))
    (c.draw.ensures.part (g.T.TakeEnd.taken c.args.from.now) sent part)
