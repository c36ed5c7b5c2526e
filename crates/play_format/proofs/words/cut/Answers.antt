use Rattle.std.proofs.Common.{◌+◌, ◌==◌, sym, arith}
use Rattle.play_format.proofs.LineLemmas.{cut_none, cut_some, cut_inside, rest_is}
use Rattle.play_format.proofs.EarlyLemmas.{end_of}
use Rattle.play_format.proofs.words.cut.Goals as goal

pub returns-in-None-clause-parts : goal.returns-in-None-clause-parts
returns-in-None-clause-parts c = cut_none (λ b. b == c.args.byte) c.args.text.now (sym c.in-None.ensures)

pub returns-in-Some-clause-parts : goal.returns-in-Some-clause-parts
returns-in-Some-clause-parts c =
    rw (rest_is c.args.text.now (c.in-Some.end + 1)) (cut_some (λ b. b == c.args.byte) c.args.text.now c.in-Some.end (sym c.in-Some.ensures))

pub returns-in-Some-clause-end : goal.returns-in-Some-clause-end
returns-in-Some-clause-end c =
    rw (rest_is c.args.text.now (c.in-Some.end + 1)) (end_of c.args.text.now (c.in-Some.end + 1) (omega (arith, cut_inside (λ b. b == c.args.byte) c.args.text.now c.in-Some.end (sym c.in-Some.ensures))))
