use Rattle.std.proofs.Common.{rules}
use Rattle.perfly_top.proofs.Setups.{same_words}
use Rattle.perfly_top.proofs.setup.AloneWords.of.Goals as goal

pub returns-then-is_on_one_thread-clause-same : goal.returns-then-is_on_one_thread-clause-same
returns-then-is_on_one_thread-clause-same c = same_words c.args.words (search rules)
