-- What the errors say.
use Rattle.std.specs.Prelude.{ℕ, List, codes}
use Rattle.pf_io.specs.declared.source.ReadError.{ReadError}
use Rattle.pf_io.specs.declared.source.ReadError.TheVariants.{Failed, NoMemory}

-- what an error of `read_all` says
abbrev pub read_error_text : ReadError → List ℕ
read_error_text Failed = codes "the stream reported a fault"
read_error_text NoMemory = codes "out of memory"
