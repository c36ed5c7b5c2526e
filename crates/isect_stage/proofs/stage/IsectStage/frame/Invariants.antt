-- The counter's ledger is that of the blank.
use Rattle.isect_stage.proofs.stage.IsectStage.frame.Given as goal

abbrev pub ghosts-counted : goal.ghosts-counted
ghosts-counted a = record { name = a.blank.name; parts = a.blank.parts }
