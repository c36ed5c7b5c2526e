-- The counter's ledger is that of the blank.
use Rattle.scene_tests.proofs.sights.hits_at_three_lengths.Given as goal

abbrev pub ghosts-probed : goal.ghosts-probed
ghosts-probed g a = record { name = a.blank.name; parts = a.blank.parts }
