use Rattle.std.proofs.Common.{◌≡◌, map, take}
use Rattle.pf_model.specs.Copies.{named_by, put_all}
use Rattle.pf_scene.proofs.burial.mark.Given as goal

abbrev pub invariant-loop-e : goal.invariant-loop-e
invariant-loop-e l = l.dirty ≡ put_all (map named_by (take l.e-index l.edits)) l.initial.dirty
