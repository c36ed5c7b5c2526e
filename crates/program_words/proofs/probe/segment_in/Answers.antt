use Rattle.std.proofs.Common.{rules}
use Rattle.program_words.proofs.Pieces.{some_piece}
use Rattle.program_words.proofs.probe.segment_in.Goals as goal

pub returns-in-Some : goal.returns-in-Some
returns-in-Some c =
    let some = some_piece c.in-Some.field-0.now in
    let is = some.2 in
    search rules
