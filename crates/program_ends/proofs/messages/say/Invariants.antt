use Rattle.std.proofs.Common.{◌≡◌, take}
use Rattle.std.specs.Io.KnownBytes.{append_known}
use Rattle.program_ends.proofs.Telling.{text_of}
use Rattle.program_ends.proofs.messages.say.Given as goal

abbrev pub invariant-loop-piece : goal.invariant-loop-piece
invariant-loop-piece g l =
    (g.R.Sink.written l.report ≡ append_known (g.R.Sink.written l.fn.report) (text_of (take l.piece-index l.pieces))) ×
    (g.R.Sink.faults l.report ≡ g.R.Sink.faults l.fn.report)
