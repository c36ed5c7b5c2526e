use Rattle.play_gen.proofs.ReadingLemmas.{has_reading}
use Rattle.play_gen.proofs.laws.each_text_has_a_reading.Goals as goal

pub returns : goal.returns
returns c = has_reading
