use Rattle.std.proofs.Common.{lit<}
use Rattle.std.proofs.lemmas.Str.Pattern.{split_once_first}
use Rattle.program_words.proofs.Pieces.{one_piece, first_piece}
use Rattle.program_words.proofs.probe.cut.Goals as goal

pub returns-in-None : goal.returns-in-None
returns-in-None c =
    let split = rw c.in-None.is at (split_once_first 44 c.args.text.now c.split_once.result c.split_once.ensures.cases (lit< tt)) in
    one_piece c.args.text.now split

pub returns-in-Some : goal.returns-in-Some
returns-in-Some c =
    let split = rw c.in-Some.is at (split_once_first 44 c.args.text.now c.split_once.result c.split_once.ensures.cases (lit< tt)) in
    first_piece c.args.text.now c.in-Some.piece.now c.in-Some.left.now split.0 split.1 split.2
