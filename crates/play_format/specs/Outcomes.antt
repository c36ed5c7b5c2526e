-- What a function returned, beside what is read, unless memory ran out.
use Rattle.std.specs.Prelude.{◌≡◌, ℕ, List, Result, Ok, Err}
use Rattle.play_format.specs.declared.refusal.Why.{Why}
use Rattle.play_format.specs.declared.refusal.Refusal.{Refusal}
use Rattle.play_format.specs.declared.refusal.LineError.{LineError}
use Rattle.play_format.specs.declared.refusal.LineError.TheVariants as line_error
use Rattle.play_format.specs.declared.refusal.ParseError.{ParseError}
use Rattle.play_format.specs.declared.refusal.ParseError.TheVariants as parse_error
use Rattle.play_format.specs.Grammar.{reading}
use Rattle.play_format.specs.Plays.{Script}
use Rattle.play_format.specs.Reads.{Layout, IsLaidOut, entries_of}

-- the cause is that of the reading
abbrev pub Fails : {A : Type 0} → LineError → Result A Why → Type 0
Fails line_error.NoMemory read = Unit {0}
Fails (line_error.Wrong why) read = read ≡ Err why

-- the refusal is that of the reading
abbrev pub Refuses : {A : Type 0} → ParseError → Result A Refusal → Type 0
Refuses parse_error.NoMemory read = Unit {0}
Refuses (parse_error.Refused r) read = read ≡ Err r

-- an error of the line of a number
abbrev pub located : ℕ → LineError → ParseError
located n (line_error.Wrong why) = parse_error.Refused (record { line = n; why = why })
located n line_error.NoMemory = parse_error.NoMemory

-- the reading of the text is the lines of the play
pub record ReadAs (text : List ℕ) (p : Script) : Type 0 where
  pub layout : Layout
  pub laid_out : IsLaidOut layout p
  pub read : reading text ≡ Ok (layout.version, entries_of layout p)
