use Rattle.std.proofs.Common.{◌≡◌, ◌+◌, ◌-◌, length, get_or, Some, None, is_some, false, refl, ◌∙◌, ap, arith}
use Rattle.std.specs.Vec.{vec_capacity}
use Rattle.pf_model.proofs.Written.{has_place}
use Rattle.draw_list.proofs.Listed.{IsWrittenTo, written_to, read_written, set_written, room_left, added}
use Rattle.draw_list.proofs.spans.Spans.set.Goals as goal

pub index_mut-requires : goal.index_mut-requires
index_mut-requires c =
    let there = has_place None c.self.inside.spans.items c.write_to.new.entries.items c.args.id (c.write_to.ensures.items None (λ x none. none)) in
    omega (arith, there)

pub push_reserved-requires : goal.push_reserved-requires
push_reserved-requires c =
    let room = room_left is_some None (Some c.args.span) c.args.self.now c.self.inside.spans.items c.self.inside.width (vec_capacity c.self.inside.spans) c.self.inside.ids.items c.args.id (vec_capacity c.self.inside.ids)
    refl refl c.self.view_is c.requires.within (ap is_some c.requires.none) c.self.invariant in
    omega (arith, room)

-- the table once entries are written up to the id
abbrev table_written : goal.After-push_reserved → Type 0
table_written c =
    IsWrittenTo is_some None c.args.self.now c.write_to.new.entries.items c.args.id c.self.inside.width (vec_capacity c.write_to.new.entries) c.self.inside.ids.items (vec_capacity c.self.inside.ids)

written : (c : goal.After-push_reserved) → table_written c
written c =
    written_to is_some None c.args.self.now c.self.inside.spans.items c.write_to.new.entries.items c.args.id (c.args.id + 1 - length c.self.inside.spans.items) c.self.inside.width (vec_capacity c.self.inside.spans)
    (vec_capacity c.write_to.new.entries) c.self.inside.ids.items (vec_capacity c.self.inside.ids) refl c.self.view_is c.requires.within refl (c.write_to.ensures.items None (λ x none. none)) (omega (arith, c.write_to.ensures.capacity)) c.self.invariant

unset : (c : goal.After-push_reserved) → is_some (get_or c.write_to.new.entries.items c.args.id None) ≡ false
unset c =
    ap is_some
    (read_written is_some None c.args.self.now c.write_to.new.entries.items c.args.id c.self.inside.width (vec_capacity c.write_to.new.entries) c.self.inside.ids.items (vec_capacity c.self.inside.ids) c.args.id (written c)
    ∙ c.requires.none)

pub invariant_of-self : goal.invariant_of-self
invariant_of-self c =
    added is_some None (Some c.args.span) c.write_to.new.entries.items c.self.inside.width (vec_capacity c.write_to.new.entries) c.self.inside.ids.items c.push_reserved.new.self.items c.args.id
    (vec_capacity c.self.inside.ids) (vec_capacity c.push_reserved.new.self) (written c).within (unset c) refl c.push_reserved.ensures.items c.push_reserved.ensures.capacity (written c).table

pub returns : goal.returns
returns c =
    set_written is_some None (Some c.args.span) c.args.self.now c.write_to.new.entries.items c.args.id c.self.inside.width (vec_capacity c.write_to.new.entries) c.self.inside.ids.items (vec_capacity c.self.inside.ids) (written c)
