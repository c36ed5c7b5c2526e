use Rattle.std.proofs.Common.{◌≡◌, take}
use Rattle.std.specs.Prelude.{fold, filter_map, option_map}
use Rattle.std.specs.List.{enumerate_from}
use Rattle.tri_cover.specs.Picture as pictures
use Rattle.pf_picture.specs.Fragments.{fragment_of}
use Rattle.pf_picture.specs.Shapes.{fragment_at}
use Rattle.pf_picture.proofs.shapes.Shape.nearest.Given as goal

abbrev pub invariant-loop-number : goal.invariant-loop-number
invariant-loop-number l = option_map fragment_of l.nearest ≡ fold pictures.nearer (option_map fragment_of l.fn.best) (filter_map (fragment_at l.lens l.px l.py l.self) (take l.number (enumerate_from 0 l.tri-items)))
