use Rattle.std.proofs.Common.{◌≡◌, ◌∙◌, length, false, Bool, List, subst, sym, ap, arith}
use Rattle.std.specs.Vec.{vec_len, vec_capacity}
use Rattle.draw_list.specs.Listed.{IsListedTable, whole_table}
use Rattle.draw_list.proofs.Listed.{cleared, all_unset, slice_back, whole_length, whole_read}
use Rattle.draw_list.proofs.states.States.clear.Goals as goal

pub invariant_of-self : goal.invariant_of-self
invariant_of-self c =
    let kept : length c.unmark.new.marks ≡ length c.self.inside.marks.items = omega (arith, c.unmark.ensures.len, c.as_mut_slice.ensures.len) in
    subst (λ (marks : List Bool). IsListedTable (λ m. m) false marks c.self.inside.width (vec_capacity c.self.inside.marks) c.clear.new.self.items (vec_capacity c.clear.new.self))
    (sym (slice_back c.self.inside.marks.items c.unmark.new.marks (vec_len c.self.inside.marks) (omega arith) kept))
    (cleared (λ m. m) false c.self.inside.marks.items c.unmark.new.marks c.self.inside.width (vec_capacity c.self.inside.marks) c.self.inside.marked.items c.clear.new.self.items
    (vec_capacity c.self.inside.marked) (vec_capacity c.clear.new.self) kept c.unmark.ensures.none c.clear.ensures.items (omega (arith, c.clear.ensures.capacity)) c.self.invariant)

pub returns : goal.returns
returns c =
    let kept : length c.unmark.new.marks ≡ length c.self.inside.marks.items = omega (arith, c.unmark.ensures.len, c.as_mut_slice.ensures.len) in
    ap (λ (marks : List Bool). whole_table false marks c.self.inside.width) (slice_back c.self.inside.marks.items c.unmark.new.marks (vec_len c.self.inside.marks) (omega arith) kept)
    ∙ all_unset (whole_table false c.unmark.new.marks c.self.inside.width) (length c.args.self.now)
    (whole_length false c.unmark.new.marks c.self.inside.width (omega (arith, kept, c.self.invariant.within)) ∙ sym (whole_length false c.self.inside.marks.items c.self.inside.width c.self.invariant.within) ∙ ap length c.self.view_is)
    (λ k. whole_read false c.unmark.new.marks c.self.inside.width k ∙ c.unmark.ensures.none k)
