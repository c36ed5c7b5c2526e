-- What the program says on its report sink where it doesn't come to an end.
use Rattle.std.specs.Prelude.{ℕ, List, ◌++◌, codes, decimal}
use Rattle.play_format.specs.Messages.{cause_text}
use Rattle.program_ends.specs.declared.stop.Stop.{Stop}
use Rattle.program_ends.specs.declared.stop.Stop.TheVariants as stop

-- `perfly: ` before a message, and a line feed behind it
abbrev pub line_of : List ℕ → List ℕ
line_of text = codes "perfly: " ++ text ++ codes "\n"

abbrev pub message_of : Stop → List ℕ
message_of stop.Words = line_of (codes "words")
message_of (stop.Refused r) = line_of (codes "line " ++ decimal r.line ++ codes ": " ++ cause_text r.why)
message_of (stop.Stuck app dbase) = line_of (codes "stuck app " ++ decimal app ++ codes " dbase " ++ decimal dbase)
message_of stop.ReadFault = line_of (codes "read fault")
message_of stop.FrameFault = line_of (codes "frame fault")
message_of stop.NoMemory = line_of (codes "no memory")
