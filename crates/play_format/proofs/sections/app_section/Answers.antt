use Rattle.play_format.specs.Rests.{stand}
use Rattle.play_format.proofs.SectionLemmas.{app_more}
use Rattle.play_format.proofs.sections.app_section.Goals as goal

pub steps-preserved : goal.steps-preserved
steps-preserved c =
    let e = rw c.in-Step.is at c.in_ok-line.ensures in
    rw c.in_ok-push-in-Step.ensures.items (app_more
    (stand c.args.reader.now.spot c.args.reader.now.line c.args.reader.now.rest.now)
    (stand c.steps.reader.spot c.steps.reader.line c.steps.reader.rest.now)
    (stand c.app_line.new.reader.spot c.app_line.new.reader.line c.app_line.new.reader.rest.now)
    c.steps.lines.items c.in-Step.line c.steps.invariant e)
