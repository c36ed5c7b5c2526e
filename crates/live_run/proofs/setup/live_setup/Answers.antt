use Rattle.std.proofs.Common.{map}
use Rattle.std.specs.String.{string_bytes}
use Rattle.live_run.proofs.WordRanges.{of_words}
use Rattle.live_run.proofs.setup.live_setup.Goals as goal

pub returns-clause-some : goal.returns-clause-some
returns-clause-some c = (of_words (map string_bytes c.args.words.now) c.in_ok-words.words c.in_ok-words.ensures.right).0

pub returns-clause-few : goal.returns-clause-few
returns-clause-few c = (of_words (map string_bytes c.args.words.now) c.in_ok-words.words c.in_ok-words.ensures.right).1
