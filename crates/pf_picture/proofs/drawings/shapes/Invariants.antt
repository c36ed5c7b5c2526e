use Rattle.std.proofs.Common.{take}
use Rattle.std.specs.Prelude.{map}
use Rattle.pf_picture.specs.Drawings.{AreShapes}
use Rattle.pf_picture.specs.Instances.{instance_of}
use Rattle.pf_picture.proofs.drawings.shapes.Given as goal

abbrev pub invariant-loop-instance : goal.invariant-loop-instance
invariant-loop-instance l = AreShapes (map instance_of (take l.instance-index l.instances)) l.shapes.items
