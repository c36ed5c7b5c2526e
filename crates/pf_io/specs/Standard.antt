-- A reader or a writer of the standard library as a source or a sink.
use Rattle.std.specs.Prelude.{ℕ, Bool}

-- the reader, how many faults it has reported, and how many reads found the end
pub record Reading (R : Type 0) : Type 0 where
  pub reader : R
  pub faults : ℕ
  pub ends : ℕ

-- the writer, how many faults it has reported, and whether its last call that succeeded was a flush
pub record Writing (W : Type 0) : Type 0 where
  pub writer : W
  pub faults : ℕ
  pub flushed : Bool
