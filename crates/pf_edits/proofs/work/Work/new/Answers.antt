use Rattle.std.proofs.Common.{◌≡◌, ℕ, List, [], ◌∷◌, sym, ◌∙◌, ap, subst}
use Rattle.pf_model.specs.declared.nodes.Kind.TheVariants.{Group}
use Rattle.pf_model.specs.declared.nodes.Node.{Node}
use Rattle.pf_model.specs.declared.nodes.Gone.{Gone}
use Rattle.pf_model.specs.Graphs.{Nodes, SceneGraph, put}
use Rattle.pf_model.specs.Limits.{IsGraphWithinLimits}
use Rattle.pf_model.proofs.Histories.{limits_empty}
use Rattle.pf_edits.proofs.Listed.{put_nodes}
use Rattle.pf_edits.proofs.Fresh.{empty_nodes}
use Rattle.pf_edits.proofs.Tights.{new_tight}
use Rattle.pf_edits.proofs.work.Work.new.Goals as goal

both : (ns ms : Nodes) (xs : List Gone) → ns ≡ ms → xs ≡ []
    → (let g : SceneGraph = record { nodes = ns; time = 1; next_serial = 1; gone = xs } in let h : SceneGraph = record { nodes = ms; time = 1; next_serial = 1; gone = [] } in g ≡ h)
both ns ms xs p q = λ i. record { nodes = p i; time = 1; next_serial = 1; gone = q i }

scene_with : List ℕ → Node
scene_with cs = record { serial = 0; born = 0; kind = Group; children = cs }

pub returns-clause-told : goal.returns-clause-told
unfolding scene_with
returns-clause-told c =
    both _ _ _
    (put_nodes c.in_ok-records.records.slots c.insert.new.records.slots 0 (scene_with c.new-2.result) c.insert.ensures.nodes
    ∙ ap (put 0 (scene_with c.new-2.result)) (empty_nodes c.in_ok-records.records.slots c.in_ok-records.ensures.none)
    ∙ ap (λ cs. (0, scene_with cs) ∷ []) c.new-2.ensures) c.new-5.ensures.items

pub returns-clause-working : goal.returns-clause-working
unfolding scene_with
returns-clause-working c = record {
  sound = c.insert.ensures.sound;
  free = c.in_ok-new.ensures;
  within = subst IsGraphWithinLimits (sym (both _ _ _
      (put_nodes c.in_ok-records.records.slots c.insert.new.records.slots 0 (scene_with c.new-2.result) c.insert.ensures.nodes
      ∙ ap (put 0 (scene_with c.new-2.result)) (empty_nodes c.in_ok-records.records.slots c.in_ok-records.ensures.none)
      ∙ ap (λ cs. (0, scene_with cs) ∷ []) c.new-2.ensures) c.new-5.ensures.items)) limits_empty;
}

pub returns-clause-tight : goal.returns-clause-tight
returns-clause-tight c = new_tight c.in_ok-records.records.slots c.insert.new.records.slots 0 c.new-3.result c.in_ok-records.ensures.none c.new-3.ensures c.insert.ensures.parents
