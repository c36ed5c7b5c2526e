-- The counter's ledger is that of the blank.
use Rattle.frame_stages.proofs.culling.cull_channel.Given as goal

abbrev pub ghosts-counted : goal.ghosts-counted
ghosts-counted a = record { name = a.blank.name; parts = a.blank.parts }
