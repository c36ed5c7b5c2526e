-- What is shown of a refusal.
use Rattle.std.specs.Prelude.{ℕ, List, ◌++◌, codes, decimal}
use Rattle.play_format.specs.declared.refusal.Why.{Why}
use Rattle.play_format.specs.declared.refusal.Why.TheVariants as whys
use Rattle.play_format.specs.declared.refusal.Refusal.{Refusal}
use Rattle.play_format.specs.declared.refusal.ParseError.{ParseError}
use Rattle.play_format.specs.declared.refusal.ParseError.TheVariants as parse_error

-- the name of a cause
abbrev pub cause_text : Why → List ℕ
cause_text whys.Version = codes "Version"
cause_text whys.Command = codes "Command"
cause_text whys.Fields = codes "Fields"
cause_text whys.Number = codes "Number"
cause_text whys.Range = codes "Range"
cause_text whys.Count = codes "Count"
cause_text whys.Length = codes "Length"

-- a wrong line and its cause, as `line 6: Number`
abbrev pub refusal_text : Refusal → List ℕ
refusal_text r = codes "line " ++ (decimal r.line ++ (codes ": " ++ cause_text r.why))

abbrev pub parse_error_text : ParseError → List ℕ
parse_error_text (parse_error.Refused r) = refusal_text r
parse_error_text parse_error.NoMemory = codes "out of memory"
