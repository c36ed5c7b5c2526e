use Rattle.std.proofs.Common.{◌==◌, arith}
use Rattle.std.proofs.lemmas.List.Splits.{length-slice_split}
use Rattle.play_format.proofs.words.word_count.Goals as goal

pub returns : goal.returns
returns c = omega (arith, length-slice_split (λ b. b == 32) c.args.line.now, c.spaces.ensures.value)
