-- The arguments of the program, of which the first is its own name.
use Rattle.std.specs.Prelude.{ℕ, List, map, drop, Option, None, Result, Ok, Err, String}
use Rattle.std.specs.String.{string_bytes}
use Rattle.std.specs.Vec.Iter.{into_iter_items}
use Rattle.std.specs.declared.vec.IntoIter.{IntoIter}
use Rattle.std.specs.declared.io.Error.{Error}
use Rattle.mode_hosts.specs.declared.modes.Setup.{Setup}
use Rattle.live_run.specs.LiveWords.{live_meaning}

-- the words behind the program's name
abbrev pub words_behind : {A : Type 0} → IntoIter (String A) A → List (List ℕ)
words_behind arguments = map string_bytes (drop 1 (into_iter_items arguments))

-- what arguments mean: those that cannot be read mean nothing
abbrev pub meaning_of_arguments : {A : Type 0} → Result (IntoIter (String A) A) Error → Option Setup
meaning_of_arguments (Ok arguments) = live_meaning (words_behind arguments)
meaning_of_arguments (Err error) = None
