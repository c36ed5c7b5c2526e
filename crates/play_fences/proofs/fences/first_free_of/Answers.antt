use Rattle.std.proofs.Common.{◌≡◌, List, ◌∷◌, ◌+◌, drop, sym, ap, ◌∙◌, subst, arith}
use Rattle.std.proofs.lemmas.List.{drop_more}
use Rattle.pf_model.specs.declared.lines.BaseLine.{BaseLine}
use Rattle.play_fences.proofs.Walking.{IsPassed, passed_opening, greater, passed_await, passed_quiet, passed_merge}
use Rattle.play_fences.proofs.fences.first_free_of.Goals as goal
use Rattle.play_fences.proofs.fences.first_free_of.Goals.{in-Await, in-Merge+else-comes_before, in_default}

pub loop-line-init : goal.loop-line-init
loop-line-init c =
    record {
      passed = passed_opening c.args.app.now c.args.dbase.now c.at_next_own-rest.result.waited c.at_next_own-rest.result.lines.now c.at_next_own-rest.ensures.same c.at_next_own-rest.ensures.own;
      count = omega arith;
    }

pub loop-line-preserved : goal.loop-line-preserved
loop-line-preserved c =
    let split : drop c.loop-line.line-index c.args.dbase.now ≡ c.line-item.result ∷ left = drop_more c.args.dbase.now c.loop-line.line-index c.line-item.result c.loop-line-test.true ∙ ap (λ l. l ∷ left) (sym c.line-item.is) in
    let here = subst (λ (lines : List BaseLine). IsPassed c.args.app.now c.args.dbase.now lines c.loop-line.rest.waited c.loop-line.rest.lines.now c.loop-line.passed c.loop-line.awaited c.loop-line.merges) split c.loop-line.invariant.passed in
    elim c.match-line.branch [
      | in-Await w ↦
          rw (w.rest-is, w.passed-is, w.awaited-is, w.merges-is, w.max-awaited.ensures, greater)
          (record { passed = passed_await c.args.app.now c.args.dbase.now left c.line-item.result c.loop-line.rest.waited c.loop-line.rest.lines.now c.loop-line.passed c.loop-line.awaited c.loop-line.merges w.in-Await.frames w.in-Await.is here; count = omega arith })
      | in-Merge+else-comes_before w ↦
          let at = passed_merge c.args.app.now c.args.dbase.now left c.line-item.result c.loop-line.rest.waited w.behind_frames-rest.result.waited c.loop-line.rest.lines.now w.behind_frames-rest.result.lines.now c.loop-line.passed c.loop-line.awaited c.loop-line.merges w.in-Merge.is w.behind_frames-rest.ensures.same w.behind_frames-rest.ensures.own here in
          rw (w.rest-is, w.passed-is, w.awaited-is, w.merges-is)
          (record { passed = at.fenced (sym w.comes_before.ensures ∙ w.if-comes_before.false); count = omega arith })
      | in_default w ↦
          rw (w.rest-is, w.passed-is, w.awaited-is, w.merges-is)
          (record { passed = passed_quiet c.args.app.now c.args.dbase.now left c.line-item.result c.loop-line.rest.waited c.loop-line.rest.lines.now c.loop-line.passed c.loop-line.awaited c.loop-line.merges w.in_default.not-Merge w.in_default.not-Await here; count = omega arith })
    ]
  where
    left : List BaseLine
    left = drop (c.loop-line.line-index + 1) c.args.dbase.now
