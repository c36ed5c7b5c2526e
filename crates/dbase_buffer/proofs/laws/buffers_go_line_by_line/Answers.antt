use Rattle.dbase_buffer.proofs.Lines.{line_law}
use Rattle.dbase_buffer.proofs.laws.buffers_go_line_by_line.Goals as goal

pub returns : goal.returns
returns c = line_law
