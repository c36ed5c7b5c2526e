use Rattle.std.proofs.Common.{List, [], ◌∷◌, length, length-append, take, refl, ap, sym, ◌∙◌, subst, arith}
use Rattle.std.proofs.lemmas.List.{length-take, take-append-le, take-take}
use Rattle.depth_raster.specs.Slots.{AreNumbered}
use Rattle.depth_raster.specs.declared.slots.Slot.{Slot}
use Rattle.depth_raster.proofs.Sorting.{numbered_first, numbered_more}
use Rattle.depth_raster.proofs.slots.wait.Goals as goal

pub loop-index-init : goal.loop-index-init
loop-index-init c =
    let ss = c.args.slots.now.items in
    let n = c.args.count in
    let kept = ap (λ (ts : List Slot). length ts) c.truncate.ensures.items ∙ length-take n ss in
    record {
      room = omega (arith, c.requires.room, c.truncate.ensures.capacity);
      count = omega (arith, c.len-index.ensures);
      few = omega (arith, kept);
      more = omega arith;
      numbered = subst (λ (ts : List Slot). AreNumbered ts) (sym c.truncate.ensures.items) (numbered_first ss n c.requires.numbered);
      first = λ k within. refl;
    }

pub loop-index-preserved : goal.loop-index-preserved
loop-index-preserved c =
    let ss = c.loop-index.slots.items in
    let s = c.waiting.result in
    let had = c.loop-index.invariant in
    record {
      room = omega (arith, c.push_reserved.ensures.capacity, had.room);
      count = omega (arith, ap length c.push_reserved.ensures.items, length-append ss (s ∷ []), had.count);
      few = omega (arith, ap length c.push_reserved.ensures.items, length-append ss (s ∷ []), had.count, c.loop-index-test.true);
      more = omega (arith, ap length c.push_reserved.ensures.items, length-append ss (s ∷ []), had.more);
      numbered = subst (λ (ts : List Slot). AreNumbered ts) (sym c.push_reserved.ensures.items)
          (numbered_more ss s had.numbered (c.waiting.ensures ∙ omega (arith, had.count)));
      first = λ n within. ap (take n) c.push_reserved.ensures.items ∙ take-append-le n ss (s ∷ []) (omega (arith, within, had.more)) ∙ had.first n within;
    }

pub returns-clause-first : goal.returns-clause-first
returns-clause-first c = λ k there within.
    let ss = c.args.slots.now.items in
    let n = c.args.count in
    let kept = ap (λ (ts : List Slot). length ts) c.truncate.ensures.items ∙ length-take n ss in
    c.loop-index.invariant.first k (omega (arith, kept, there, within))
    ∙ ap (take k) c.truncate.ensures.items
    ∙ take-take k n ss within
