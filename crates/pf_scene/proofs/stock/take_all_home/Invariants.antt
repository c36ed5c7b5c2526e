use Rattle.std.proofs.Common.{◌≡◌}
use Rattle.std.specs.Vec.{vec_capacity}
use Rattle.pf_scene.proofs.Bringing.{IsBringingLists}
use Rattle.pf_scene.proofs.stock.take_all_home.Given as goal

abbrev pub invariant-loop-updates : goal.invariant-loop-updates
invariant-loop-updates l = record {
  bringing : IsBringingLists l.initial.cycles l.cycles l.initial.home.items l.home.items;
  room : vec_capacity l.home ≡ vec_capacity l.initial.home;
}

abbrev pub decreases-loop-updates : goal.decreases-loop-updates
decreases-loop-updates l = goal.left-loop-updates l
