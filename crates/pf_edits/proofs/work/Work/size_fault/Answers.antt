use Rattle.std.proofs.Common.{◌==◌, Option, is_some, refl, sym, ◌∙◌, ap}
use Rattle.std.proofs.lemmas.Bool.{eq-eqb}
use Rattle.pf_model.specs.declared.nodes.Node.{Node}
use Rattle.pf_model.specs.Graphs.{is_below}
use Rattle.pf_edits.specs.Extents.{look_of}
use Rattle.pf_edits.specs.Ways.{is_in}
use Rattle.pf_edits.proofs.Ups.{ahead}
use Rattle.pf_edits.proofs.Listed.{found, same_nodes}
use Rattle.pf_edits.proofs.Works.{low_in, small_in, told_nodes}
use Rattle.pf_edits.proofs.work.Work.size_fault.Goals as goal

pub fault_along-requires-clause-low : goal.fault_along-requires-clause-low
fault_along-requires-clause-low c = low_in c.args.self.now c.requires.within

pub fault_along-requires-clause-small : goal.fault_along-requires-clause-small
fault_along-requires-clause-small c = small_in c.args.self.now c.requires.within

pub fault_along-requires-clause-there : goal.fault_along-requires-clause-there
fault_along-requires-clause-there c = ap (λ (o : Option Node). is_some o) (sym (found c.args.self.now.records.slots c.args.parent)) ∙ c.requires.there

pub fault_along-requires-clause-member : goal.fault_along-requires-clause-member
fault_along-requires-clause-member c =
    let p = c.args.parent in
    c.requires.above p
    ∙ ahead (p == p) (is_below (look_of c.args.self.now.records.slots) p p) (eq-eqb p p refl)

pub fault_along-requires-clause-above : goal.fault_along-requires-clause-above
fault_along-requires-clause-above c = λ b h. sym (c.requires.above b) ∙ h

pub returns-clause-told : goal.returns-clause-told
returns-clause-told c =
    let w = c.args.self.now in
    told_nodes w.time w.next_serial w.gone.items _ _ (same_nodes w.records.slots c.fault_along.new.records.slots c.fault_along.ensures.nodes)

pub returns-clause-kept : goal.returns-clause-kept
returns-clause-kept c = λ b p h. ap (is_in p) (c.fault_along.ensures.parents b) ∙ h
