use Rattle.std.proofs.Common.{◌≡◌, take}
use Rattle.std.specs.Prelude.{fold, option_map}
use Rattle.tri_cover.specs.Picture.{colour_under}
use Rattle.pf_picture.specs.Fragments.{fragment_of}
use Rattle.pf_picture.specs.Shapes.{glazed_by}
use Rattle.pf_picture.proofs.drawings.Drawing.colour.Given as goal

abbrev pub invariant-loop-shape : goal.invariant-loop-shape
invariant-loop-shape l = l.colour ≡ fold (glazed_by l.lens l.px l.py (option_map fragment_of l.behind)) (colour_under l.fn.back (option_map fragment_of l.behind)) (take l.shape-index l.shape-items)
