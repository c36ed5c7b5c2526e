use Rattle.std.proofs.Common.{◌<◌, ap, sym, ◌∙◌, length, subst, Option, Ok, ℕ, List}
use Rattle.std.specs.Result.{result_err}
use Rattle.std.proofs.lemmas.Result.{err_from_is_err_and}
use Rattle.live_text.specs.declared.given.Given.{Given}
use Rattle.live_feed.specs.Feeds.{LineRead}
use Rattle.live_feed.proofs.Feeding.{some_read, none_read, read_fails, long_fails}
use Rattle.live_feed.proofs.feed.LiveFeed.next.Goals as goal

pub returns-in_err-given : goal.returns-in_err-given
returns-in_err-given c = λ text gs h.
    let p = err_from_is_err_and c.from_residual.result c.from_residual.ensures.1 in
    rw (p.1, p.2) (read_fails text gs c.loop-len.self c.read_line.new.self c.in-Some.len c.in_err-given.field-0.0 (c.loop-len.invariant text gs h) c.in-Some.ensures c.in_err-given.ensures)

pub returns-in-Some-2 : goal.returns-in-Some-2
returns-in-Some-2 c = λ text gs h.
    let read = subst (λ (o : Option Given). LineRead c.loop-len.self c.in-Some.len c.read_line.new.self (Ok o)) c.in-Some-2.is c.in_ok-given.ensures in
    some_read text gs c.loop-len.self c.read_line.new.self c.in-Some.len c.in-Some-2.given (c.loop-len.invariant text gs h) c.in-Some.ensures read

pub loop-len-preserved : goal.loop-len-preserved
loop-len-preserved c = λ text gs h.
    let read = subst (λ (o : Option Given). LineRead c.loop-len.self c.in-Some.len c.read_line.new.self (Ok o)) c.in_default-2.is c.in_ok-given.ensures in
    none_read text gs c.loop-len.self c.read_line.new.self c.in-Some.len (c.loop-len.invariant text gs h) c.in-Some.ensures read

pub returns-in_err-ending : goal.returns-in_err-ending
returns-in_err-ending c = λ text gs h.
    let p = err_from_is_err_and c.from_residual-in_err-ending.result c.from_residual-in_err-ending.ensures.1 in
    let long = subst (λ (xs : List ℕ). 1024 < length xs) c.rest.ensures c.if-rest-gt-MAX_LINE_LEN.true in
    let wrong = sym c.ending.ensures ∙ ap result_err c.in_err-ending.was in
    rw (p.1, p.2) (long_fails text gs c.loop-len.self c.in_err-ending.field-0.0 (c.loop-len.invariant text gs h) c.in_default.ensures long wrong)
