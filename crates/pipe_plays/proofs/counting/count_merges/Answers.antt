use Rattle.std.proofs.Common.{length, refl, ap, sym, ◌∙◌, arith}
use Rattle.std.proofs.lemmas.List.{take_all}
use Rattle.std.proofs.lemmas.Option.{slice_get_read}
use Rattle.play_check.specs.Lines.{base_given, base_marks, given_by, total}
use Rattle.pipe_plays.proofs.Counts.{merges_given, no_merge, total_more}
use Rattle.pipe_plays.proofs.counting.count_merges.Goals as goal
use Rattle.pipe_plays.proofs.counting.count_merges.Goals.{in-Merge, in_default}

pub loop-line-preserved : goal.loop-line-preserved
loop-line-preserved c =
    let lines = c.args.dbase.now in
    let at = slice_get_read lines (length lines) c.loop-line.line-index c.line-item.result refl c.loop-line-test.true c.line-item.is in
    let more = total_more c.loop-line.line-index lines c.line-item.result at in
    elim c.match-line.branch [
      | in-Merge w ↦
          let one = ap (λ s. given_by (base_given s)) w.in-Merge.is in
          record {
            made = omega (arith, more, one, c.loop-line.invariant.made, w.merges-is);
            few = omega (arith, c.loop-line.invariant.few, w.merges-is);
          }
      | in_default w ↦
          let none = no_merge c.line-item.result.step w.in_default.not-Merge in
          record {
            made = omega (arith, more, none, c.loop-line.invariant.made, w.merges-is);
            few = omega (arith, c.loop-line.invariant.few, w.merges-is);
          }
    ]

pub returns : goal.returns
returns c =
    let lines = c.args.dbase.now in
    c.loop-line.invariant.made
    ∙ ap (λ ls. total (base_marks ls)) (take_all c.loop-line.line-index lines c.loop-line-test.false)
    ∙ sym (merges_given 0 _ lines)
