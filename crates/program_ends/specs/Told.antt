-- What a text may leave of the sink that it is told to.
use Rattle.std.specs.Prelude.{◌≡◌, ℕ, ◌≤◌, ◌⊎◌, List, length, take, Option}
use Rattle.std.specs.Io.KnownBytes.{append_known}
use Rattle.pf_io.specs.Causes.{Calm, Rose}

-- the bytes of a stream, where it tells them
abbrev pub Bytes : Type 0
Bytes = Option (List ℕ)

-- a text was added to a sink, all of it without a fault, or a front of it up to a fault
abbrev pub IsTold : (old new : Bytes) → (before now : ℕ) → List ℕ → Type 0
IsTold old new before now text =
    ((new ≡ append_known old text) × Calm before now)
    ⊎ ((k : ℕ) × (k ≤ length text) × (new ≡ append_known old (take k text)) × Rose before now)

-- a front of a text was added to a sink, or all of it
abbrev pub AddsSome : (old new : Bytes) → List ℕ → Type 0
AddsSome old new text = (k : ℕ) × (k ≤ length text) × (new ≡ append_known old (take k text))
