-- The counter's ledger is that of the blank.
use Rattle.stream_stages.proofs.sending.fill_piece.Given as goal

abbrev pub ghosts-fill_counted : goal.ghosts-fill_counted
ghosts-fill_counted a = record { name = a.blank.name; parts = a.blank.parts }
