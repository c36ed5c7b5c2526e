use Rattle.std.proofs.Common.{◌≡◌, ◌+◌, [], false, length, get_or, slice_get, set, ◌∷◌, ◌++◌, subst, refl, sym, ap, ◌∙◌, arith}
use Rattle.std.proofs.lemmas.List.{get_or-set_other, length-append}
use Rattle.std.proofs.lemmas.Option.{none-some}
use mathlib.Core.Option.{some, some-injective}
use mathlib.Core.Logic.{dite}
use native.Mathlib.Decide.{ℕ_discrete}
use lib.ListN.{get_elem?}
use Rattle.std.specs.Slots.{slots_items, slots_filled}
use Rattle.self_scheduling.proofs.Rules.{all_called}
use Rattle.self_scheduling.proofs.Seats.{emptied, gathered_more}
use Rattle.self_scheduling.proofs.calls.gather.Goals as goal

pub loop-k-init : goal.loop-k-init
loop-k-init g c =
    let closed = c.close_with-closed.ensures in
    let size = c.requires.table.2 in
    let count = c.requires.count in
    let many = closed.counts.1 in (
      omega (arith, many, size, count),
      refl,
      (λ k low high. closed.values.1 k low (omega (arith, high, many, size, count))),
      (λ j low. absurd (omega (arith, low))),
      ap length c.requires.empty,
      c.requires.room,
      λ j y is. absurd (none-some y (ap (λ l. slice_get l j) (sym c.requires.empty) ∙ is)),
    )

pub take-requires : goal.take-requires
take-requires g c =
    let i = c.loop-k.invariant in
    (omega (arith, c.loop-k-test.true, i.0), i.2 c.loop-k.k (omega arith) c.loop-k-test.true)

pub push_reserved-requires : goal.push_reserved-requires
push_reserved-requires g c =
    let i = c.loop-k.invariant in
    omega (arith, i.4, i.5, c.loop-k-test.true)

pub loop-k-preserved : goal.loop-k-preserved
loop-k-preserved g c =
    let i = c.loop-k.invariant in
    let k = c.loop-k.k in
    let taken = c.take.ensures.others in
    let before = slots_filled c.loop-k.closed.slots in
    let at = ap (λ xs. get_elem? xs k) (sym i.1) ∙ c.take.ensures.value in
    let longer = c.push_reserved.ensures.items in
    let one_more : length (c.loop-k.gathered.items ++ c.take.result ∷ []) ≡ length c.loop-k.gathered.items + 1
    = length-append c.loop-k.gathered.items (c.take.result ∷ []) in (
      taken.2 ∙ i.0,
      taken.0 ∙ i.1,
      (λ j low high. ap (λ fs. get_or fs j false) taken.1 ∙ get_or-set_other before k j false false (λ same. omega (arith, same, low))
          ∙ i.2 j (omega (arith, low)) high),
      (λ j low. dite (ℕ_discrete j k)
          (λ (same : j ≡ k). ap (λ fs. get_or fs j false) taken.1 ∙ ap (λ n. get_or (set before k false) n false) same ∙ emptied before k)
          (λ other. ap (λ fs. get_or fs j false) taken.1 ∙ get_or-set_other before k j false false other
          ∙ i.3 j (omega (arith, low, other)))),
      (ap length longer ∙ one_more ∙ ap (λ n. n + 1) i.4),
      (omega (arith, i.5, c.push_reserved.ensures.capacity)),
      λ j y is. gathered_more c.loop-k.gathered.items (slots_items c.close_with-closed.result.slots) k c.take.result i.4 at i.6 j y
          (ap (λ xs. slice_get xs j) (sym longer) ∙ is),
    )

pub free-requires : goal.free-requires
free-requires g c =
    let i = c.loop-k.invariant in
    λ k low. i.3 k (omega (arith, low, i.0, c.loop-k-test.false, c.loop-k.auto.k-end))

pub returns-clause-count : goal.returns-clause-count
returns-clause-count g c =
    let i = c.loop-k.invariant in
    omega (arith, i.4, c.loop-k-test.false, c.loop-k.auto.k-end)

pub returns-clause-items : goal.returns-clause-items
returns-clause-items g c =
    let i = c.loop-k.invariant in
    let final = c.close_with-closed.ensures.values.2 in
    let here = final.1.1 ∙ ap (λ m. some m.0) c.requires.done in
    λ k x y is got.
    let left = all_called g.B.Told.items g.B.Told.leaves c.args.table.shared.key c.args.seat.id c.args.count final.0 (sym c.requires.count)
    (final.1.0, here) k x is in
    let same : left.0 ≡ y = some-injective left.0 y (sym (final.4 k left.0 left.1) ∙ i.6 k y got) in
    subst (g.B.Told.leaves k x) same left.2
