use Rattle.tri_cover.proofs.Stepped.{stepped, stepped_small}
use Rattle.tri_cover.proofs.stepper.Stepper.right.Goals as goal

pub plus-here-requires : goal.plus-here-requires
plus-here-requires c =
    let s = c.args.self.now in
    stepped_small s.lens s.tri s.px s.py s.volume s.here s.step s.at_pixel c.requires

pub invariant_of-self : goal.invariant_of-self
invariant_of-self c =
    let s = c.args.self.now in
    record { at_pixel = stepped s.lens s.tri s.px s.py s.volume s.here s.step c.plus-here.result s.at_pixel c.requires c.plus-here.ensures }
