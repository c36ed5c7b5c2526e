use Rattle.std.proofs.Common.{◌≡◌, take}
use Rattle.std.specs.Prelude.{fold, option_map, None}
use Rattle.pf_picture.specs.Fragments.{fragment_of}
use Rattle.pf_picture.specs.Shapes.{nearest_of}
use Rattle.pf_picture.proofs.drawings.Drawing.nearest.Given as goal

abbrev pub invariant-loop-shape : goal.invariant-loop-shape
invariant-loop-shape l = option_map fragment_of l.nearest ≡ fold (nearest_of l.lens l.px l.py) None (take l.shape-index l.shape-items)
