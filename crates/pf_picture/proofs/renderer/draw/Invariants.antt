use Rattle.std.proofs.Common.{◌≡◌}
use Rattle.pf_picture.specs.Rows.{ShowsRows, colour_in}
use Rattle.pf_picture.proofs.renderer.draw.Given as goal

abbrev pub invariant-loop-py : goal.invariant-loop-py
invariant-loop-py l = record {
  width : l.image.width ≡ l.fn.image.width;
  height : l.image.height ≡ l.fn.image.height;
  rows : ShowsRows l.image (colour_in l.lens l.back l.drawing) l.py;
}
