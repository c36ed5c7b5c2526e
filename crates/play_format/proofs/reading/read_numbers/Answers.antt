use Rattle.std.proofs.Common.{rules, arith, ap, length, drop, ◌≡◌, ◌∷◌}
use Rattle.std.specs.Prelude.{FitsSigned}
use Rattle.std.specs.Int.{w32}
use Rattle.std.proofs.lemmas.Int.{to_z-of_z}
use Rattle.std.proofs.lemmas.Result.{err_from_is_err_and}
use Rattle.play_format.specs.Words.{words}
use Rattle.play_format.proofs.FrontLemmas.{some_front}
use Rattle.play_format.proofs.ReadingLemmas.{number_more, number_wrong, none_left, all_read}
use Rattle.play_format.proofs.reading.read_numbers.Goals as goal
use Rattle.play_format.specs.Rests.{left_words, front_word}

pub returns-in_default-clause-read : goal.returns-in_default-clause-read
returns-in_default-clause-read c =
    let i = rw c.in_default.is at c.loop-limit.invariant.so_far in
    none_left c.loop-limit.numbers.items c.args.limits.now c.loop-limit.limit-index _ c.loop-limit-test.true i

pub returns-in_err-value-clause-read : goal.returns-in_err-value-clause-read
returns-in_err-value-clause-read c =
    let i = rw c.in-Some.is at c.loop-limit.invariant.so_far in
    let p = err_from_is_err_and c.from_residual.result c.from_residual.ensures.1 in
    rw (p.1, p.2) (number_wrong c.loop-limit.numbers.items c.args.limits.now c.loop-limit.limit-index (words c.in-Some.line.now) (front_word c.in-Some.line.now) (drop 1 (words c.in-Some.line.now)) c.in_err-value.field-0.0 _ c.loop-limit-test.true (some_front c.in-Some.line.now) c.in_err-value.ensures i)

pub loop-limit-preserved : goal.loop-limit-preserved
loop-limit-preserved c =
    let i = rw c.in-Some.is at c.loop-limit.invariant.so_far in
    let k = rw c.in-Some.is at c.loop-limit.invariant.count in
    let behind : words c.in-Some.line.now ≡ front_word c.in-Some.line.now ∷ left_words c.in_ok-value.after = c.in_ok-value.ensures.1 in
    let fits : FitsSigned w32 c.in_ok-value.value = search rules in
    record {
      so_far = rw (c.in_ok-push.ensures.items, to_z-of_z w32 c.in_ok-value.value fits) (number_more c.loop-limit.numbers.items c.args.limits.now c.loop-limit.limit-index (words c.in-Some.line.now) (front_word c.in-Some.line.now) (left_words c.in_ok-value.after) c.in_ok-value.value _ c.loop-limit-test.true behind c.in_ok-value.ensures.0 i);
      count = omega (arith, k, ap length behind);
    }

pub returns-clause-read : goal.returns-clause-read
returns-clause-read c = all_read c.loop-limit.numbers.items c.args.limits.now c.loop-limit.limit-index (left_words c.loop-limit.left) _ c.loop-limit-test.false c.loop-limit.invariant.so_far
