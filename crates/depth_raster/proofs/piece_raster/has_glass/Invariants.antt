use Rattle.std.proofs.Common.{◌≡◌, false, take}
use Rattle.std.specs.List.{list_any}
use Rattle.tri_cover.specs.Glass.{is_glass}
use Rattle.draw_list.specs.Lists.{instances_in}
use Rattle.depth_raster.proofs.piece_raster.has_glass.Given as goal

abbrev pub invariant-loop-number : goal.invariant-loop-number
invariant-loop-number l = list_any is_glass (take l.number (instances_in l.list)) ≡ false
