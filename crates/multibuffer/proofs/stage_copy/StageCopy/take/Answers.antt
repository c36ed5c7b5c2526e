use Rattle.std.proofs.Common.{ℕ, map, Option, sym, ◌∙◌, ap, subst}
use Rattle.pf_model.specs.declared.nodes.Node.{Node}
use Rattle.pf_model.specs.Graphs.{node_at}
use Rattle.pf_model.specs.Copies.{updated_by, updates_of}
use Rattle.bound_cache.specs.Caches.{touched_at, noted_at}
use Rattle.multibuffer.specs.StageCopies.{CopyState, boxes_of, HasRightBoxes}
use Rattle.multibuffer.proofs.Taking.{copy_more, changes_named, noted_still, boxes_after, calm_named}
use Rattle.multibuffer.proofs.stage_copy.StageCopy.take.Goals as goal

pub returns-clause-nodes : goal.returns-clause-nodes
returns-clause-nodes c = c.take_all.ensures.nodes ∙ ap (λ (s : CopyState). updated_by s.nodes c.args.updates) c.self.view_is

pub returns-clause-copy : goal.returns-clause-copy
returns-clause-copy c =
    λ lists before. copy_more lists c.args.updates c.args.self.now.nodes c.take_all.new.nodes (c.take_all.ensures.nodes ∙ ap (λ (s : CopyState). updated_by s.nodes c.args.updates) c.self.view_is) before

pub returns-clause-stood : goal.returns-clause-stood
returns-clause-stood c =
    c.take_all.ensures.updates ∙ ap (λ (s : CopyState). updates_of (node_at s.nodes) (map (λ (e : ℕ × Option Node). e.0) c.args.updates)) c.self.view_is

pub returns-clause-right : goal.returns-clause-right
returns-clause-right c =
    λ right limits. boxes_after c.self.inside.nodes c.take_all.new.nodes c.self.inside.cache c.take_all.new.cache c.refresh.new.cache
    (noted_still (node_at c.self.inside.nodes) (noted_at c.self.inside.cache) (noted_at c.take_all.new.cache) c.take_all.ensures.noted c.self.invariant.noted)
    (record { each = (subst HasRightBoxes (sym c.self.view_is) right).each }) c.take_all.ensures.boxes
    (changes_named c.args.updates c.self.inside.nodes c.take_all.new.nodes (touched_at c.take_all.new.cache) c.take_all.ensures.looks c.take_all.ensures.touched)
    (λ boxes told noted. c.refresh.ensures.right (node_at c.self.inside.nodes) boxes told noted limits)

pub invariant_of-self : goal.invariant_of-self
invariant_of-self c = record {
  untouched = c.refresh.ensures.untouched;
  noted = c.refresh.ensures.noted (node_at c.self.inside.nodes)
      (changes_named c.args.updates c.self.inside.nodes c.take_all.new.nodes (touched_at c.take_all.new.cache) c.take_all.ensures.looks c.take_all.ensures.touched)
      (noted_still (node_at c.self.inside.nodes) (noted_at c.self.inside.cache) (noted_at c.take_all.new.cache) c.take_all.ensures.noted c.self.invariant.noted);
}

pub returns-clause-calm : goal.returns-clause-calm
returns-clause-calm c = λ calm is id h.
    c.refresh.ensures.calm calm (calm_named (node_at c.take_all.new.nodes) c.args.updates (touched_at c.take_all.new.cache) calm c.take_all.ensures.touched is) id h
    ∙ c.take_all.ensures.boxes id
    ∙ ap (λ (s : CopyState). boxes_of s id) c.self.view_is

pub returns-clause-kept : goal.returns-clause-kept
returns-clause-kept c =
    λ id geode unnamed. c.refresh.ensures.kept id geode (c.take_all.ensures.touched id ∙ unnamed) ∙ c.take_all.ensures.boxes id ∙ ap (λ (s : CopyState). boxes_of s id) c.self.view_is
