use Rattle.std.proofs.Common.{◌∙◌, sym, ap, subst}
use Rattle.stage_parts.specs.Parts.{DrawPart}
use Rattle.frame_stages.specs.Works.{DrawWork}
use Rattle.frame_stages.proofs.Drawn.{part_drawn}
use Rattle.frame_stages.proofs.draw_stage.DrawStage.draw.Goals as goal

pub returns-clause-part : goal.returns-clause-part
returns-clause-part g c =
    λ taken sent part.
    let d = c.self.inside in
    part_drawn d.lens d.raster d.back (record { ended = d.ended; held = d.held }) c.args.load c.paint.new.load taken sent
    c.self.invariant.renderer (ap (λ (w : DrawWork). w.state.held) c.self.view_is ∙ c.requires.bare) c.paint.ensures.draws
    (subst (λ (w : DrawWork). DrawPart w.lens w.back w.state taken sent) (sym c.self.view_is) part)
