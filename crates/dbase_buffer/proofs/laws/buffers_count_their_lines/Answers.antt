use Rattle.dbase_buffer.proofs.Lines.{count_law}
use Rattle.dbase_buffer.proofs.laws.buffers_count_their_lines.Goals as goal

pub returns : goal.returns
returns c = count_law
