use Rattle.std.proofs.Common.{◌∙◌}
use Rattle.std.specs.Prelude.{map}
use Rattle.pf_picture.specs.Instances.{instance_of}
use Rattle.pf_picture.proofs.Drawn.{colour_in-drawing}
use Rattle.pf_picture.proofs.renderer.draw_instances.Goals as goal

pub returns-clause-pixels : goal.returns-clause-pixels
returns-clause-pixels c = λ px py in_row in_picture.
    c.draw.ensures.pixels px py in_row in_picture
    ∙ colour_in-drawing c.args.lens.now c.args.back (map instance_of c.args.instances.now) c.in_ok-drawing.drawing c.in_ok-drawing.ensures px py
