use Rattle.std.proofs.Common.{◌≡◌, ◌+◌, ◌-◌, ◌∙◌, length, get_or, true, false, Bool, List, rules, refl, sym, ap, arith}
use Rattle.std.specs.Vec.{vec_capacity}
use Rattle.std.proofs.lemmas.List.{get_or_read}
use Rattle.pf_model.proofs.Written.{read_longer, has_place}
use Rattle.draw_list.proofs.Listed.{IsWrittenTo, written_to, read_written, set_written, set_again, room_left, added, whole_read}
use Rattle.draw_list.proofs.states.States.add.Goals as goal

pub index-requires : goal.index-requires
index-requires c =
    let there = has_place false c.self.inside.marks.items c.write_to.new.entries.items c.args.state (c.write_to.ensures.items false (λ x off. off)) in
    omega (arith, there)

pub index_mut-requires : goal.index_mut-requires
index_mut-requires c =
    let there = has_place false c.self.inside.marks.items c.write_to.new.entries.items c.args.state (c.write_to.ensures.items false (λ x off. off)) in
    omega (arith, there)

-- the table once entries are written up to a state that has a mark
abbrev table_marked : goal.Then-index → Type 0
table_marked c =
    IsWrittenTo (λ m. m) false c.args.self.now c.write_to.new.entries.items c.args.state c.self.inside.width (vec_capacity c.write_to.new.entries) c.self.inside.marked.items (vec_capacity c.self.inside.marked)

marked : (c : goal.Then-index) → table_marked c
marked c =
    written_to (λ m. m) false c.args.self.now c.self.inside.marks.items c.write_to.new.entries.items c.args.state (c.args.state + 1 - length c.self.inside.marks.items) c.self.inside.width (vec_capacity c.self.inside.marks)
    (vec_capacity c.write_to.new.entries) c.self.inside.marked.items (vec_capacity c.self.inside.marked) refl c.self.view_is c.requires refl (c.write_to.ensures.items false (λ x off. off)) (omega (arith, c.write_to.ensures.capacity)) c.self.invariant

pub invariant_of-self : goal.invariant_of-self
invariant_of-self c = (marked c).table

pub returns-then-index : goal.returns-then-index
returns-then-index c =
    let longer = c.write_to.new.entries.items in
    let read = get_or_read longer c.args.state c.index.result.now (marked c).within c.index.ensures false in
    let whole = read_written (λ m. m) false c.args.self.now longer c.args.state c.self.inside.width (vec_capacity c.write_to.new.entries) c.self.inside.marked.items (vec_capacity c.self.inside.marked) c.args.state (marked c) in
    (marked c).same ∙ sym (set_again c.args.self.now c.args.state (sym whole ∙ sym read ∙ c.if-index.true))

pub push_reserved-requires : goal.push_reserved-requires
push_reserved-requires c =
    let none : get_or c.write_to.new.entries.items c.args.state false ≡ false = search rules in
    let unset : get_or c.args.self.now c.args.state false ≡ false =
    ap (λ (marks : List Bool). get_or marks c.args.state false) (sym c.self.view_is)
    ∙ whole_read false c.self.inside.marks.items c.self.inside.width c.args.state
    ∙ sym (read_longer false c.self.inside.marks.items (c.args.state + 1 - length c.self.inside.marks.items) c.args.state)
    ∙ ap (λ (marks : List Bool). get_or marks c.args.state false) (sym (c.write_to.ensures.items false (λ x off. off)))
    ∙ none in
    let room = room_left (λ m. m) false true c.args.self.now c.self.inside.marks.items c.self.inside.width (vec_capacity c.self.inside.marks) c.self.inside.marked.items c.args.state (vec_capacity c.self.inside.marked)
    refl refl c.self.view_is c.requires unset c.self.invariant in
    omega (arith, room)

-- the table once entries are written up to the state
abbrev table_written : goal.After-push_reserved → Type 0
table_written c =
    IsWrittenTo (λ m. m) false c.args.self.now c.write_to.new.entries.items c.args.state c.self.inside.width (vec_capacity c.write_to.new.entries) c.self.inside.marked.items (vec_capacity c.self.inside.marked)

written : (c : goal.After-push_reserved) → table_written c
written c =
    written_to (λ m. m) false c.args.self.now c.self.inside.marks.items c.write_to.new.entries.items c.args.state (c.args.state + 1 - length c.self.inside.marks.items) c.self.inside.width (vec_capacity c.self.inside.marks)
    (vec_capacity c.write_to.new.entries) c.self.inside.marked.items (vec_capacity c.self.inside.marked) refl c.self.view_is c.requires refl (c.write_to.ensures.items false (λ x off. off)) (omega (arith, c.write_to.ensures.capacity)) c.self.invariant

pub invariant_of-self-2 : goal.invariant_of-self-2
invariant_of-self-2 c =
    let none : get_or c.write_to.new.entries.items c.args.state false ≡ false = search rules in
    added (λ m. m) false true c.write_to.new.entries.items c.self.inside.width (vec_capacity c.write_to.new.entries) c.self.inside.marked.items c.push_reserved.new.self.items c.args.state
    (vec_capacity c.self.inside.marked) (vec_capacity c.push_reserved.new.self) (written c).within none refl c.push_reserved.ensures.items c.push_reserved.ensures.capacity (written c).table

pub returns : goal.returns
returns c =
    set_written (λ m. m) false true c.args.self.now c.write_to.new.entries.items c.args.state c.self.inside.width (vec_capacity c.write_to.new.entries) c.self.inside.marked.items (vec_capacity c.self.inside.marked) (written c)
