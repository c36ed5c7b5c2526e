use Rattle.pipe_core.specs.Cores.{one_seat}
use Rattle.pipe_core.proofs.laws.freed_serials_are_delivered.Goals as goal

pub returns : goal.returns
returns c = λ play ahead s fits. c.freed_serials_are_written.ensures play ahead one_seat s.pipe fits.pipe
