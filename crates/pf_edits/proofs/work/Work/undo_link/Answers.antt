use Rattle.std.proofs.Common.{None, ℕ, List, sym, ◌∙◌, ap, subst}
use Rattle.pf_model.specs.Limits.{IsGraphWithinLimits}
use Rattle.pf_model.specs.NodeEdits.{with_children}
use Rattle.pf_edits.proofs.Listed.{changed_nodes}
use Rattle.pf_edits.proofs.Works.{low_of, told_nodes}
use Rattle.pf_edits.proofs.Rollbacks.{link_apart, there_look}
use Rattle.pf_edits.specs.Extents.{extent_at, reckoned}
use Rattle.pf_edits.proofs.Tights.{same_grows}
use Rattle.pf_edits.proofs.work.Work.undo_link.Goals as goal

pub relink_freely-requires-clause-low : goal.relink_freely-requires-clause-low
relink_freely-requires-clause-low c = low_of c.args.self.now c.requires.working

pub relink_freely-requires-clause-there : goal.relink_freely-requires-clause-there
relink_freely-requires-clause-there c = there_look c.args.self.now.records.slots c.args.id c.requires.can.0

pub relink_freely-requires-clause-apart : goal.relink_freely-requires-clause-apart
relink_freely-requires-clause-apart c = link_apart c.args.self.now.records.slots c.args.id c.args.children c.requires.can.0 c.requires.within.within.limits.low

pub returns-clause-told : goal.returns-clause-told
returns-clause-told c =
    let w = c.args.self.now in
    told_nodes w.time w.next_serial w.gone.items _ _ (changed_nodes w.records.slots c.relink_freely.new.records.slots c.args.id (with_children c.args.children) c.relink_freely.ensures.nodes)

pub returns-clause-working : goal.returns-clause-working
returns-clause-working c =
    let w = c.args.self.now in
    record {
      sound = c.relink_freely.ensures.sound;
      free = c.relink_freely.ensures.way;
      within = subst IsGraphWithinLimits (sym (told_nodes w.time w.next_serial w.gone.items _ _ (changed_nodes w.records.slots c.relink_freely.new.records.slots c.args.id (with_children c.args.children) c.relink_freely.ensures.nodes))) c.requires.within;
    }

pub returns-clause-entries : goal.returns-clause-entries
returns-clause-entries c = same_grows None c.args.self.now.records.slots c.relink_freely.new.records.slots c.relink_freely.ensures.parents

pub relink_freely-requires-clause-extent : goal.relink_freely-requires-clause-extent
relink_freely-requires-clause-extent c = c.over_children-extent.ensures ∙ ap (λ (cs : List ℕ). reckoned (extent_at c.args.self.now.records.slots) cs) c.as_slice.ensures.value
