use Rattle.std.proofs.Common.{length}
use Rattle.play_format.specs.Rests.{stand}
use Rattle.play_format.proofs.SectionLemmas.{BaseSoFar}
use Rattle.play_format.proofs.sections.base_section.Given as goal

abbrev pub invariant-loop-lines : goal.invariant-loop-lines
invariant-loop-lines l = BaseSoFar (stand l.fn.reader.spot l.fn.reader.line l.fn.reader.rest.now) (stand l.reader.spot l.reader.line l.reader.rest.now) l.lines.items

abbrev pub decreases-loop-lines : goal.decreases-loop-lines
decreases-loop-lines l = length l.reader.rest.now
