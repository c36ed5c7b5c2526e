-- The counter's ledger is that of the blank.
use Rattle.scene_tests.proofs.sights.sent.Given as goal

abbrev pub ghosts-fill : goal.ghosts-fill
ghosts-fill a = record { name = a.blank.name; parts = a.blank.parts }
