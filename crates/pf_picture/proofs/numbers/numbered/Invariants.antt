use Rattle.std.proofs.Common.{◌≡◌, take}
use Rattle.std.specs.Prelude.{map}
use Rattle.std.specs.List.{enumerate_from}
use Rattle.pf_picture.specs.Instances.{instance_of}
use Rattle.tri_cover.specs.Labels.{placed}
use Rattle.pf_picture.specs.Walking.{instance_of_leaf}
use Rattle.pf_picture.proofs.numbers.numbered.Given as goal

abbrev pub invariant-loop-place : goal.invariant-loop-place
invariant-loop-place l = map instance_of l.instances.items ≡ map placed (take l.place (enumerate_from 0 (map instance_of_leaf l.leaves)))
