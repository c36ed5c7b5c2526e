use Rattle.std.proofs.Common.{◌≡◌, length, None, is_some, List, Option, subst, sym, ap, arith}
use Rattle.std.specs.Vec.{vec_len, vec_capacity}
use Rattle.draw_list.specs.declared.items.Span.{Span}
use Rattle.draw_list.specs.Listed.{IsListedTable}
use Rattle.draw_list.proofs.Listed.{cleared, slice_back}
use Rattle.draw_list.proofs.spans.Spans.clear.Goals as goal

pub invariant_of-self : goal.invariant_of-self
invariant_of-self c =
    let kept : length c.take_back.new.spans ≡ length c.self.inside.spans.items = omega (arith, c.take_back.ensures.len, c.as_mut_slice.ensures.len) in
    subst (λ (spans : List (Option Span)). IsListedTable is_some None spans c.self.inside.width (vec_capacity c.self.inside.spans) c.clear.new.self.items (vec_capacity c.clear.new.self))
    (sym (slice_back c.self.inside.spans.items c.take_back.new.spans (vec_len c.self.inside.spans) (omega arith) kept))
    (cleared is_some None c.self.inside.spans.items c.take_back.new.spans c.self.inside.width (vec_capacity c.self.inside.spans) c.self.inside.ids.items c.clear.new.self.items
    (vec_capacity c.self.inside.ids) (vec_capacity c.clear.new.self) kept (λ k. ap is_some (c.take_back.ensures.none k)) c.clear.ensures.items (omega (arith, c.clear.ensures.capacity)) c.self.invariant)
