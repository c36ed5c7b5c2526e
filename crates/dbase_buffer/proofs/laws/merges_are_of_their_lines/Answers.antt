use Rattle.dbase_buffer.proofs.Lines.{merge_law}
use Rattle.dbase_buffer.proofs.laws.merges_are_of_their_lines.Goals as goal

pub returns : goal.returns
returns c = merge_law
