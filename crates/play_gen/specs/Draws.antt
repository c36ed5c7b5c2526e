-- The numbers that a generated play draws.
use Rattle.std.specs.Prelude.{ℕ, zero, suc, ◌+◌, ◌*◌, ◌/◌, ◌%◌}

-- the state behind another one
unfoldable pub next_state : ℕ → ℕ
next_state s = (s * 1103515245 + 12345) % 2147483648

-- the state k draws behind another one
unfoldable pub state_after : ℕ → ℕ → ℕ
state_after zero s = s
state_after (suc k) s = next_state (state_after k s)

-- draw number k behind a state, counted from 0: a number below m
abbrev pub draw : ℕ → ℕ → ℕ → ℕ
draw s k m = state_after (k + 1) s / 65536 % m
