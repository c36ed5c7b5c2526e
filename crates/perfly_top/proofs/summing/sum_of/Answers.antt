use Rattle.std.proofs.Common.{◌+◌, ◌%◌, ◌^◌, ◌∙◌, ap, take}
use Rattle.std.proofs.lemmas.List.{take_all}
use Rattle.perfly_top.specs.Sums.{sum_of_bytes}
use Rattle.perfly_top.proofs.ByteSums.{sum_more}
use Rattle.perfly_top.proofs.summing.sum_of.Goals as goal

pub loop-byte-preserved : goal.loop-byte-preserved
loop-byte-preserved c =
    let bytes = c.args.bytes.now in
    let i = c.loop-byte.byte-index in
    ap (λ n. (n + c.from-sum.result) % 2 ^ 64) c.loop-byte.invariant
    ∙ ap (λ n. (sum_of_bytes (take i bytes) + n) % 2 ^ 64) c.from-sum.ensures
    ∙ sum_more bytes i c.loop-byte-test.true

pub returns : goal.returns
returns c = c.loop-byte.invariant ∙ ap sum_of_bytes (take_all c.loop-byte.byte-index c.args.bytes.now c.loop-byte-test.false)
