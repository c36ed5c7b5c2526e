use Rattle.std.proofs.Common.{◌≡◌, ◌+◌, drop, length}
use Rattle.play_format.specs.Rests.{left_words}
use Rattle.play_format.specs.Grammar.{numbers_at}
use Rattle.play_format.proofs.ReadingLemmas.{with_numbers}
use Rattle.play_format.proofs.reading.read_numbers.Given as goal

abbrev pub invariant-loop-limit : goal.invariant-loop-limit
invariant-loop-limit l = record {
  so_far : with_numbers l.numbers.items (numbers_at (drop l.limit-index l.limits) (left_words l.left)) ≡ numbers_at l.limits (left_words l.fn.rest);
  count : l.limit-index + length (left_words l.left) ≡ length (left_words l.fn.rest);
}
