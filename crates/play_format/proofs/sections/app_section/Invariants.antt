use Rattle.std.proofs.Common.{length}
use Rattle.play_format.specs.Rests.{stand}
use Rattle.play_format.proofs.SectionLemmas.{AppSoFar}
use Rattle.play_format.proofs.sections.app_section.Given as goal

abbrev pub invariant-steps : goal.invariant-steps
invariant-steps l = AppSoFar (stand l.fn.reader.spot l.fn.reader.line l.fn.reader.rest.now) (stand l.reader.spot l.reader.line l.reader.rest.now) l.lines.items

abbrev pub decreases-steps : goal.decreases-steps
decreases-steps l = length l.reader.rest.now
