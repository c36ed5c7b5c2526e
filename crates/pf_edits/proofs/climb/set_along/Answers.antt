use Rattle.std.proofs.Common.{refl, sym, ◌∙◌, subst}
use Rattle.pf_model.specs.Graphs.{Look}
use Rattle.pf_model.proofs.Places.{funext}
use Rattle.pf_edits.specs.Ways.{LeadUp}
use Rattle.pf_edits.specs.Extents.{look_of, with_extent}
use Rattle.pf_edits.proofs.Rewrites.{parents_kept}
use Rattle.pf_edits.proofs.Trials.{wrote_looks, wrote_here, wrote_off, wrote_meets}
use Rattle.pf_edits.proofs.climb.set_along.Goals as goal

pub update_others-requires-clause-leads : goal.update_others-requires-clause-leads
update_others-requires-clause-leads c =
    let s = c.args.records.now.slots in
    let m = c.set_extent.new.self.slots in
    let way = c.args.way.now in
    subst (λ (f : Look). LeadUp f way) (sym (funext (look_of m) (look_of s) (wrote_looks s m c.args.id c.args.extent way c.requires.there c.requires.meets c.requires.leads c.requires.member c.set_extent.ensures))) c.requires.leads

pub update_others-requires-clause-meets : goal.update_others-requires-clause-meets
update_others-requires-clause-meets c =
    wrote_meets c.args.records.now.slots c.set_extent.new.self.slots c.args.id c.args.extent c.args.way.now c.requires.there c.requires.meets c.requires.leads c.requires.member c.set_extent.ensures

pub returns-clause-extent : goal.returns-clause-extent
returns-clause-extent c =
    c.update_others.ensures.kept
    ∙ wrote_here c.args.records.now.slots c.set_extent.new.self.slots c.args.id c.args.extent c.args.way.now c.requires.there c.requires.meets c.requires.leads c.requires.member c.set_extent.ensures

pub returns-clause-nodes : goal.returns-clause-nodes
returns-clause-nodes c =
    λ b. c.update_others.ensures.nodes b
    ∙ wrote_looks c.args.records.now.slots c.set_extent.new.self.slots c.args.id c.args.extent c.args.way.now c.requires.there c.requires.meets c.requires.leads c.requires.member c.set_extent.ensures b

pub returns-clause-parents : goal.returns-clause-parents
returns-clause-parents c =
    λ b. c.update_others.ensures.parents b
    ∙ parents_kept c.args.records.now.slots c.set_extent.new.self.slots c.args.id (with_extent c.args.extent) c.set_extent.ensures (λ r. refl) b

pub returns-clause-others : goal.returns-clause-others
returns-clause-others c =
    λ b off. c.update_others.ensures.others b off
    ∙ wrote_off c.args.records.now.slots c.set_extent.new.self.slots c.args.id c.args.extent c.args.way.now c.requires.there c.requires.meets c.requires.leads c.requires.member c.set_extent.ensures b off
