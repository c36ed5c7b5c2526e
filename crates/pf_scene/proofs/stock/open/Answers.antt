-- What a refusal leaves of the cycles.
use Rattle.cycle_buffer.specs.Cycles.{written_at}
use Rattle.pf_scene.proofs.Trimmed.{trimmed_then}
use Rattle.pf_scene.proofs.Counted.{none_opened}
use Rattle.pf_scene.proofs.stock.open.Goals as goal

pub returns-in-Err-clause-trimmed : goal.returns-in-Err-clause-trimmed
returns-in-Err-clause-trimmed c = trimmed_then c.args.first c.args.cycles.now c.prepare.new.cycles c.withdraw.new.cycles c.prepare.ensures.trimmed (c.withdraw.ensures.trimmed c.args.first)

pub returns-in-Ok-clause-none : goal.returns-in-Ok-clause-none
returns-in-Ok-clause-none c = none_opened (written_at c.prepare.new.cycles) c.args.first c.args.edits.now c.in-Ok.ensures.made c.prepare.ensures.above
