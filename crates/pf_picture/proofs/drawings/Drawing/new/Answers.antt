use Rattle.std.proofs.Common.{List, ap, ◌∙◌, subst}
use Rattle.std.specs.Prelude.{map}
use Rattle.pf_model.specs.Walks as walks
use Rattle.tri_cover.specs.Glass.{is_opaque}
use Rattle.pf_picture.specs.Drawings.{AreShapes}
use Rattle.pf_picture.specs.Instances.{instance_of}
use Rattle.pf_picture.proofs.Ordered.{map-filter}
use Rattle.pf_picture.proofs.drawings.Drawing.new.Goals as goal

pub returns : goal.returns
returns c =
    let xs = c.args.instances.now in
    record {
      opaque = subst (λ (ys : List walks.Instance). AreShapes ys c.in_ok-opaque-2.opaque.items)
          (ap (map instance_of) (c.deref.ensures.value ∙ c.in_ok-opaque.ensures) ∙ map-filter instance_of is_opaque xs) c.in_ok-opaque-2.ensures;
      glass = subst (λ (ys : List walks.Instance). AreShapes ys c.in_ok-glass-2.glass.items)
          (ap (map instance_of) c.deref-2.ensures.value ∙ c.in_ok-glass.ensures) c.in_ok-glass-2.ensures;
    }
