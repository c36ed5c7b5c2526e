use Rattle.std.proofs.Common.{◌≡◌, ◌<◌, ◌≤◌, ℕ, List, false, true, length, set, ◌++◌, ◌∷◌, [], reverse, sym, ◌∙◌, ap, subst, arith, rules}
use Rattle.std.specs.Vec.{vec_capacity}
use Rattle.pf_model.proofs.Written.{has_place}
use Rattle.pf_edits.specs.Ways.{is_in, IsMarked}
use Rattle.pf_edits.proofs.Marks.{has_room, marked_longer, marked_more, listed_more}
use Rattle.pf_edits.proofs.way.Way.note.Goals as goal

pub index_mut-requires : goal.index_mut-requires
index_mut-requires c =
    let there = has_place false c.self.inside.marks.items c.write_to.new.entries.items c.from.result (c.write_to.ensures.items false (λ x off. off)) in
    omega (arith, there, c.from.ensures, c.from-2.ensures)

pub unreachable-requires : goal.unreachable-requires
unreachable-requires c =
    let marks = c.self.inside.marks in
    let ids = c.self.inside.ids in
    let longer = c.write_to.new.entries in
    let written = c.write_to.ensures.items false (λ x off. off) in
    let marked : IsMarked longer.items ids.items (vec_capacity longer) (vec_capacity ids) =
    marked_longer marks.items longer.items c.from.result written ids.items (vec_capacity marks) (vec_capacity longer) (vec_capacity ids) c.self.invariant
    (omega (arith, c.from.ensures, c.ranges.id)) (omega (arith, c.write_to.ensures.capacity, c.self.invariant.reserved)) in
    let inside : c.args.id < length longer.items = omega (arith, c.from.ensures, has_place false marks.items longer.items c.from.result written) in
    let free : is_in c.args.id (reverse ids.items) ≡ false = ap (is_in c.args.id) c.self.view_is ∙ c.requires in
    let room : length ids.items < vec_capacity ids = has_room longer.items ids.items (vec_capacity longer) (vec_capacity ids) c.args.id marked inside free in
    let full : vec_capacity ids ≤ length ids.items = search rules in
    absurd (omega (arith, room, full))

pub invariant_of-self : goal.invariant_of-self
invariant_of-self c =
    let marks = c.self.inside.marks in
    let ids = c.self.inside.ids in
    let longer = c.write_to.new.entries in
    let written = c.write_to.ensures.items false (λ x off. off) in
    let marked : IsMarked longer.items ids.items (vec_capacity longer) (vec_capacity ids) =
    marked_longer marks.items longer.items c.from.result written ids.items (vec_capacity marks) (vec_capacity longer) (vec_capacity ids) c.self.invariant
    (omega (arith, c.from.ensures, c.ranges.id)) (omega (arith, c.write_to.ensures.capacity, c.self.invariant.reserved)) in
    let inside : c.args.id < length longer.items = omega (arith, c.from.ensures, has_place false marks.items longer.items c.from.result written) in
    let free : is_in c.args.id (reverse ids.items) ≡ false = ap (is_in c.args.id) c.self.view_is ∙ c.requires in
    let more : vec_capacity ids ≤ vec_capacity c.push.new.self = c.in-Ok.ensures.capacity in
    subst (λ (is : List ℕ). IsMarked (set longer.items c.from-2.result true) is (vec_capacity longer) (vec_capacity c.push.new.self)) (sym c.in-Ok.ensures.items)
    (subst (λ (i : ℕ). IsMarked (set longer.items i true) (ids.items ++ c.args.id ∷ []) (vec_capacity longer) (vec_capacity c.push.new.self)) (sym c.from-2.ensures)
    (marked_more longer.items ids.items (vec_capacity longer) (vec_capacity ids) c.args.id marked inside free (vec_capacity c.push.new.self) (omega (arith, more, c.self.invariant.roomy))))

pub returns : goal.returns
returns c = ap reverse c.in-Ok.ensures.items ∙ listed_more c.self.inside.ids.items c.args.id ∙ ap (λ ids. c.args.id ∷ ids) c.self.view_is
