use Rattle.std.proofs.Common.{◌≡◌, ℕ, ◌<◌, ◌≤◌, false, true, length, get_or, slice_get, Some}
use Rattle.std.specs.Vec.{vec_capacity}
use Rattle.std.specs.Slots.{slots_items, slots_filled, slots_len}
use mathlib.Core.Option.{some}
use lib.ListN.{get_elem?}
use Rattle.self_scheduling.proofs.calls.gather.Given as goal

-- the slots before this one were taken, and their items gathered in order
abbrev pub invariant-loop-k : goal.invariant-loop-k
invariant-loop-k g l =
    (slots_len l.closed.slots ≡ l.count)
    × (slots_items l.closed.slots ≡ slots_items l.initial.closed.slots)
    × ((j : ℕ) → l.k ≤ j → j < l.count → get_or (slots_filled l.closed.slots) j false ≡ true)
    × ((j : ℕ) → j < l.k → get_or (slots_filled l.closed.slots) j false ≡ false)
    × (length l.gathered.items ≡ l.k)
    × (l.count ≤ vec_capacity l.gathered)
    × ((j : ℕ) (y : g.row.T.Denot) → slice_get l.gathered.items j ≡ Some y → get_elem? (slots_items l.initial.closed.slots) j ≡ some y)
