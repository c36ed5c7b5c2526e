use Rattle.std.proofs.Common.{◌≡◌, ℕ, ◌<◌, ◌≤◌, length, get_or}
use Rattle.std.specs.Fork.{ChangesAt}
use Rattle.self_scheduling.proofs.calls.call_each.Given as goal

-- the places before this one were called, and the others are as they were
abbrev pub invariant-loop-k : goal.invariant-loop-k
invariant-loop-k g l =
    (length l.items ≡ length l.initial.items)
    × ((j : ℕ) (d : g.row.T.Denot) → l.k ≤ j → get_or l.items j d ≡ get_or l.initial.items j d)
    × ((j : ℕ) (d : g.row.T.Denot) → j < l.k → ChangesAt g.F.Fn l.f j (get_or l.initial.items j d) (get_or l.items j d))
