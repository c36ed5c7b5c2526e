-- What the count of faults of a source or a sink says of an answer.
use Rattle.std.specs.Prelude.{◌≡◌, ℕ, ◌+◌, ◌-◌, ◌^◌, ◌≤◌, min, Result, OnOk, OnErr}

-- the last value of a count of faults
abbrev pub last_count : ℕ
last_count = 2 ^ 64 - 1

-- one fault more, where the count isn't at its last value yet
abbrev pub counted : ℕ → ℕ
counted n = min (n + 1) last_count

-- the count rose by one fault, or stands at its last value
abbrev pub Rose : ℕ → ℕ → Type 0
Rose before now = now ≡ counted before

-- the count stayed as it was
abbrev pub Calm : ℕ → ℕ → Type 0
Calm before now = now ≡ before

-- the count never falls, an `Ok` leaves it as it was, and an `Err` comes with one fault more
pub record HasCause {A E : Type 0} (before now : ℕ) (result : Result A E) : Type 0 where
  pub later : before ≤ now
  pub ok : OnOk result (Calm before now)
  pub failed : OnErr result (Rose before now)
