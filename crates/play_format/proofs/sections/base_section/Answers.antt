use Rattle.play_format.specs.Rests.{stand}
use Rattle.play_format.proofs.SectionLemmas.{base_more}
use Rattle.play_format.proofs.sections.base_section.Goals as goal

pub loop-lines-preserved : goal.loop-lines-preserved
loop-lines-preserved c =
    let e = rw c.in-Some.is at c.in_ok-line.ensures in
    rw c.in_ok-push.ensures.items (base_more
    (stand c.args.reader.now.spot c.args.reader.now.line c.args.reader.now.rest.now)
    (stand c.loop-lines.reader.spot c.loop-lines.reader.line c.loop-lines.reader.rest.now)
    (stand c.base_line.new.reader.spot c.base_line.new.reader.line c.base_line.new.reader.rest.now)
    c.loop-lines.lines.items c.in-Some.line c.loop-lines.invariant e)
