use Rattle.std.proofs.Common.{◌≡◌, ℕ, ◌+◌, ◌-◌, ◌*◌, ◌≤◌, max, Option, List, [], is_some, map, reverse, refl, sym, ◌∙◌, ap, subst}
use Rattle.pf_model.specs.declared.nodes.Node.{Node}
use Rattle.pf_model.specs.Graphs.{Look, children_of, greatest, change}
use Rattle.pf_model.specs.NodeEdits.{with_children}
use Rattle.pf_model.proofs.Places.{funext}
use Rattle.pf_edits.specs.declared.extents.Extent.{Extent}
use Rattle.pf_edits.specs.Ways.{is_in, LeadUp}
use Rattle.pf_edits.specs.Extents.{look_of, extent_at}
use Rattle.pf_edits.specs.Listed.{nodes_of}
use Rattle.pf_edits.proofs.Marks.{in_reverse}
use Rattle.pf_edits.proofs.Relinks.{apart_from, no_cycle}
use Rattle.pf_edits.proofs.Undoes.{changed_rising}
use Rattle.pf_edits.proofs.Trials.{trial_outside, trial_meets, trial_over, sound_again}
use Rattle.pf_edits.proofs.Spares.{spared}
use Rattle.pf_edits.proofs.links.fault_along.Goals as goal

pub set_along-requires-clause-meets : goal.set_along-requires-clause-meets
set_along-requires-clause-meets c = λ b off. c.requires.sound.meets b

pub set_along-requires-2-clause-there : goal.set_along-requires-2-clause-there
set_along-requires-2-clause-there c = ap (λ (o : Option Node). is_some o) (c.set_along.ensures.nodes c.args.id) ∙ c.requires.there

pub set_along-requires-2-clause-leads : goal.set_along-requires-2-clause-leads
set_along-requires-2-clause-leads c =
    let s = c.args.records.now.slots in
    let t = c.set_along.new.records.slots in
    subst (λ (f : Look). LeadUp f c.args.way.now) (sym (funext (look_of t) (look_of s) c.set_along.ensures.nodes)) c.requires.leads

pub returns-then-has_room-clause-fault : goal.returns-then-has_room-clause-fault
returns-then-has_room-clause-fault c =
    let s = c.args.records.now.slots in
    let ids : List ℕ = c.as_slice.result.now in
    let is : reverse ids ≡ c.args.way.now = c.as_slice.ensures.nodes in
    λ cs kids apart.
    sym (spared s c.args.id c.args.extent ids c.requires.there c.requires.sound.meets c.requires.low c.requires.small
    (subst (LeadUp (look_of s)) (sym is) c.requires.leads) (ap (is_in c.args.id) is ∙ c.requires.member)
    (subst (λ (x : Extent). greatest (map (λ b. (extent_at s b).height) ids) + (c.args.extent.height - x.height) ≤ 32) c.extent_at-before.ensures
    (c.has_room.ensures.low c.if-has_room.true))
    (subst (λ (x : Extent). greatest (map (λ b. (extent_at s b).size) ids) * max x.size c.args.extent.size ≤ 131072 * x.size) c.extent_at-before.ensures
    (c.has_room.ensures.small c.if-has_room.true))
    cs kids (λ x h. apart_from (look_of s) c.args.id cs [] c.args.way.now refl c.requires.above apart x (sym (ap (is_in x) is) ∙ h)))

pub returns-clause-nodes : goal.returns-clause-nodes
returns-clause-nodes c = λ b. c.set_along-2.ensures.nodes b ∙ c.set_along.ensures.nodes b

pub returns-clause-parents : goal.returns-clause-parents
returns-clause-parents c = λ b. c.set_along-2.ensures.parents b ∙ c.set_along.ensures.parents b

pub returns-clause-fault : goal.returns-clause-fault
returns-clause-fault c =
    let s = c.args.records.now.slots in
    let t = c.set_along.new.records.slots in
    let way = c.args.way.now in
    λ cs is apart.
    c.excess-fault.ensures (change c.args.id (with_children cs) (nodes_of s)) (changed_rising s c.args.id (with_children cs))
    (trial_meets s t c.args.id c.args.extent way c.requires.there c.set_along.ensures.extent c.set_along.ensures.nodes c.set_along.ensures.meets c.set_along.ensures.others cs is
    (apart_from (look_of s) c.args.id cs [] way refl c.requires.above apart))
    (λ b off. trial_outside s t c.args.id c.args.extent way c.requires.there c.set_along.ensures.extent c.set_along.ensures.nodes c.set_along.ensures.meets c.set_along.ensures.others
    c.requires.sound.meets c.requires.low c.requires.small b (sym (ap (is_in b) c.as_slice-2.ensures.nodes) ∙ in_reverse b c.as_slice-2.result.now ∙ off))

pub returns-clause-sound : goal.returns-clause-sound
returns-clause-sound c =
    let s = c.args.records.now.slots in
    let u = c.set_along-2.new.records.slots in
    let way = c.args.way.now in
    let nodes : (b : ℕ) → look_of u b ≡ look_of s b = λ b. c.set_along-2.ensures.nodes b ∙ c.set_along.ensures.nodes b in
    sound_again s u (funext (look_of u) (look_of s) nodes)
    (λ b. c.set_along-2.ensures.parents b ∙ c.set_along.ensures.parents b)
    (trial_over s u c.args.id way c.requires.sound.meets nodes (c.set_along-2.ensures.extent ∙ c.extent_at-before.ensures) c.set_along-2.ensures.meets
    (apart_from (look_of s) c.args.id (children_of (look_of s) c.args.id) [] way refl c.requires.above (λ x h. no_cycle (look_of s) c.requires.low c.args.id x h))
    (λ b off. c.set_along-2.ensures.others b off ∙ c.set_along.ensures.others b off))
    c.requires.sound
