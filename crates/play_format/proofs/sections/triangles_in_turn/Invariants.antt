use Rattle.std.proofs.Common.{length}
use Rattle.play_format.specs.Rests.{stand}
use Rattle.play_format.specs.Early.{TrianglesSoFar}
use Rattle.play_format.proofs.sections.triangles_in_turn.Given as goal

abbrev pub invariant-loop-reader : goal.invariant-loop-reader
invariant-loop-reader l = TrianglesSoFar (stand l.fn.reader.spot l.fn.reader.line l.fn.reader.rest.now) (stand l.reader.spot l.reader.line l.reader.rest.now) l.tris.items

abbrev pub decreases-loop-reader : goal.decreases-loop-reader
decreases-loop-reader l = length l.reader.rest.now
