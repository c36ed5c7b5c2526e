use Rattle.std.proofs.Common.{take}
use Rattle.std.specs.Prelude.{map}
use Rattle.fx_math.specs.Views.{matrix_of}
use Rattle.pf_picture.specs.Shapes.{AreCarried}
use Rattle.pf_picture.proofs.shapes.carried_all.Given as goal

abbrev pub invariant-loop-tri : goal.invariant-loop-tri
invariant-loop-tri l = AreCarried (map matrix_of l.x.steps.now) (take l.tri-index l.tri-items) l.tris.items
