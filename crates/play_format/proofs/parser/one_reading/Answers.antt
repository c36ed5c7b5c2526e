use Rattle.play_format.proofs.OneLemmas.{one_play}
use Rattle.play_format.proofs.ParseLemmas.{none_wrong}
use Rattle.play_format.proofs.WholeLemmas.{some_play}
use Rattle.play_format.proofs.parser.one_reading.Goals as goal

pub returns-clause-one : goal.returns-clause-one
returns-clause-one c = one_play

pub returns-clause-none_wrong : goal.returns-clause-none_wrong
returns-clause-none_wrong c = none_wrong

pub returns-clause-some_play : goal.returns-clause-some_play
returns-clause-some_play c = some_play
