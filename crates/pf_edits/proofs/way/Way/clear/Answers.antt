use Rattle.std.proofs.Common.{◌≡◌, ◌≤◌, ℕ, false, true, length, get_or, sym, ◌∙◌, ap, rules}
use Rattle.std.specs.Vec.{vec_capacity}
use Rattle.std.proofs.lemmas.List.{with_items_is}
use Rattle.pf_edits.specs.Ways.{is_in}
use Rattle.pf_edits.proofs.Marks.{has_mark, unmarked, in_reverse}
use Rattle.pf_edits.proofs.way.Way.clear.Goals as goal

pub unmark-requires : goal.unmark-requires
unmark-requires c b listed =
    rw c.as_mut_slice.ensures.value (has_mark c.self.inside.marks.items c.self.inside.ids.items (vec_capacity c.self.inside.marks) (vec_capacity c.self.inside.ids) b c.self.invariant
    (sym (ap (is_in b) c.as_slice.ensures.value) ∙ listed))

pub invariant_of-self : goal.invariant_of-self
invariant_of-self c =
    let len : length c.unmark.new.marks ≡ c.self.inside.marks.len = search rules in
    let few : length c.unmark.new.marks ≤ 65536 = search rules in
    let roomy : 65536 ≤ vec_capacity c.clear.new.self = search rules in
    let listed : (b : ℕ) → get_or c.self.inside.marks.items b false ≡ true → is_in b c.self.inside.ids.items ≡ true = λ b h. sym (in_reverse b c.self.inside.ids.items) ∙ sym (c.self.invariant.told b) ∙ h in
    let none : (b : ℕ) → get_or c.unmark.new.marks b false ≡ false = c.unmark.ensures (λ b h.
    ap (is_in b) c.as_slice.ensures.value ∙ listed b (sym (ap (λ ms. get_or ms b false) c.as_mut_slice.ensures.value) ∙ h)) in
    rw (with_items_is c.self.inside.marks c.unmark.new.marks len, c.clear.ensures.items)
    (unmarked c.unmark.new.marks (vec_capacity c.self.inside.marks) (vec_capacity c.clear.new.self) few none c.self.invariant.reserved roomy)
