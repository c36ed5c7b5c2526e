use Rattle.std.proofs.Common.{map}
use Rattle.std.specs.String.{string_bytes}
use Rattle.perfly_top.proofs.WordRanges.{some_ahead, few_ahead, low_make, high_make}
use Rattle.perfly_top.proofs.preparing.right_words.Goals as goal

pub returns-clause-some : goal.returns-clause-some
returns-clause-some c = some_ahead (map string_bytes c.args.words.now) c.in_ok-read_words.field-0 c.in_ok-read_words.ensures.right

pub returns-clause-few : goal.returns-clause-few
returns-clause-few c = few_ahead (map string_bytes c.args.words.now) c.in_ok-read_words.field-0 c.in_ok-read_words.ensures.right

pub returns-clause-low : goal.returns-clause-low
returns-clause-low c = low_make (map string_bytes c.args.words.now) c.in_ok-read_words.field-0 c.in_ok-read_words.ensures.right

pub returns-clause-high : goal.returns-clause-high
returns-clause-high c = high_make (map string_bytes c.args.words.now) c.in_ok-read_words.field-0 c.in_ok-read_words.ensures.right
