use Rattle.live_text.proofs.OneReading.{one_reading, only_adds}
use Rattle.live_text.proofs.laws.one_live_reading.Goals as goal

pub returns : goal.returns
returns c = record { one = one_reading; begins = only_adds }
