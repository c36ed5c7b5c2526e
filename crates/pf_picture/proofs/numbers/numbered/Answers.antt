use Rattle.std.proofs.Common.{List, ◌∷◌, [], ◌++◌, map, take, ap, sym, ◌∙◌, arith}
use Rattle.pf_model.specs.Walks as walks
use Rattle.std.specs.List.{enumerate_from}
use Rattle.tri_cover.specs.Labels.{placed}
use Rattle.pf_picture.specs.Walking.{instance_of_leaf}
use Rattle.pf_picture.specs.Instances.{instance_of}
use Rattle.pf_picture.proofs.Extent.{numbered_more, numbered_all}
use Rattle.std.proofs.lemmas.List.{map-append}
use Rattle.pf_picture.proofs.numbers.numbered.Goals as goal

pub loop-place-preserved : goal.loop-place-preserved
loop-place-preserved c =
    ap (map instance_of) c.in_ok-push.ensures.items
    ∙ map-append instance_of c.loop-place.instances.items (c.instance_at.result ∷ [])
    ∙ ap (λ (xs : List walks.Instance). xs ++ instance_of c.instance_at.result ∷ []) c.loop-place.invariant
    ∙ ap (λ (x : walks.Instance). map placed (take c.loop-place.place (enumerate_from 0 (map instance_of_leaf c.args.leaves.now))) ++ x ∷ []) c.instance_at.ensures
    ∙ sym (numbered_more c.args.leaves.now c.loop-place.place c.index-leaves-place.result (omega arith) c.index-leaves-place.is)

pub returns : goal.returns
returns c = c.loop-place.invariant ∙ numbered_all c.args.leaves.now c.loop-place.place (omega arith)
