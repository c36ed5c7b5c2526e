use Rattle.std.proofs.Common.{List, ap, ◌∙◌}
use Rattle.std.specs.Prelude.{map}
use Rattle.tri_cover.specs.Sorting.{sorted}
use Rattle.pf_picture.specs.Instances.{instance_of, is_before}
use Rattle.pf_picture.specs.declared.instances.Instance.{Instance}
use Rattle.pf_picture.proofs.Ordered.{glass_sorted}
use Rattle.pf_picture.proofs.panes.far_to_near.Goals as goal

pub returns : goal.returns
returns c =
    ap (map instance_of) (c.in_ok-sort.ensures ∙ ap (λ (xs : List Instance). sorted is_before xs) c.in_ok-glass.ensures)
    ∙ glass_sorted c.args.instances.now
