use Rattle.pf_picture.specs.Rows.{DrawsPixels, colour_in}
use Rattle.pf_picture.proofs.renderer.draw_row.Given as goal

abbrev pub invariant-loop-px : goal.invariant-loop-px
invariant-loop-px l = DrawsPixels l.initial.image l.image (colour_in l.lens l.back l.drawing) l.px l.py
