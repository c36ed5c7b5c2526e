-- Why a call ends, by the error of a part.
use Rattle.std.specs.declared.io.ErrorKind.{ErrorKind}
use Rattle.std.specs.declared.io.ErrorKind.TheVariants as kind
use Rattle.pf_io.specs.declared.source.ReadError.{ReadError}
use Rattle.pf_io.specs.declared.source.ReadError.TheVariants as read_error
use Rattle.play_format.specs.declared.refusal.ParseError.{ParseError}
use Rattle.play_format.specs.declared.refusal.ParseError.TheVariants as parse_error
use Rattle.program_words.specs.declared.words.WordsError.{WordsError}
use Rattle.program_words.specs.declared.words.WordsError.TheVariants as words_error
use Rattle.program_ends.specs.declared.stop.Stop.{Stop}
use Rattle.program_ends.specs.declared.stop.Stop.TheVariants as stop

abbrev pub stop_of_words : WordsError → Stop
stop_of_words words_error.Wrong = stop.Words
stop_of_words words_error.NoMemory = stop.NoMemory

abbrev pub stop_of_read : ReadError → Stop
stop_of_read read_error.Failed = stop.ReadFault
stop_of_read read_error.NoMemory = stop.NoMemory

abbrev pub stop_of_parse : ParseError → Stop
stop_of_parse (parse_error.Refused r) = stop.Refused r
stop_of_parse parse_error.NoMemory = stop.NoMemory

-- arguments that cannot be read, as where one is no text, are wrong words, unless memory ran out
abbrev pub stop_of_arguments : ErrorKind → Stop
stop_of_arguments kind.OutOfMemory = stop.NoMemory
stop_of_arguments _ = stop.Words
