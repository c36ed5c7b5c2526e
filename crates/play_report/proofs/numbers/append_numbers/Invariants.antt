use Rattle.std.proofs.Common.{◌≡◌, ◌++◌, drop}
use Rattle.play_format.specs.Texts.{numbers_text}
use Rattle.play_report.proofs.numbers.append_numbers.Given as goal

abbrev pub invariant-loop-n : goal.invariant-loop-n
invariant-loop-n l = l.out.items ++ numbers_text (drop l.n-index l.numbers) ≡ l.fn.out.items ++ numbers_text l.numbers
