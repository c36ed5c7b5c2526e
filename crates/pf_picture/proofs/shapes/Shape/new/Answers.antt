use Rattle.std.proofs.Common.{sym}
use Rattle.std.specs.Prelude.{map}
use Rattle.fx_math.specs.Views.{matrix_of}
use Rattle.tri_cover.specs.Picture as pictures
use Rattle.pf_picture.specs.Instances.{instance_of}
use Rattle.pf_picture.proofs.Seen.{carried_fragments}
use Rattle.pf_picture.proofs.shapes.Shape.new.Goals as goal

pub returns : goal.returns
returns c =
    let x = c.args.x.now in
    record {
      alpha = sym c.unwrap_or.ensures;
      seen = λ lens px py. carried_fragments (pictures.fragment_of (instance_of x)) lens px py (map matrix_of x.steps.now) 0 x.tris.now c.in_ok-tris.tris.items c.in_ok-tris.ensures;
    }
