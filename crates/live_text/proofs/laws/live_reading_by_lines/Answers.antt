use Rattle.live_text.proofs.LawLemmas.{reads_by_lines}
use Rattle.live_text.proofs.laws.live_reading_by_lines.Goals as goal

pub returns : goal.returns
returns c = reads_by_lines
