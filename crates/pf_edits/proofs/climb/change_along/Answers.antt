use Rattle.std.proofs.Common.{◌+◌, ◌*◌, ◌<◌, ◌≤◌, ℕ, cond, length, ◌∙◌, arith}
use Rattle.pf_edits.specs.Ways.{is_in}
use Rattle.pf_edits.specs.Extents.{extent_at, before_at, counted_at}
use Rattle.pf_edits.proofs.Growths.{sums_more, level_more}
use Rattle.pf_edits.proofs.climb.change_along.Goals as goal

next_bound : (n m i : ℕ) → n ≤ m + 4294967296 → m ≤ i * 4294967296 → n ≤ (i + 1) * 4294967296
next_bound n m i step h = omega (arith, step, h)

pub loop-child-preserved : goal.loop-child-preserved
loop-child-preserved c =
    let v = c.loop-child.invariant in
    let s = c.args.records.now.slots in
    let way = c.args.way.now in
    let cs = c.args.children.now in
    let i : ℕ = c.loop-child.child-index in
    let within : i < length c.args.children.now = c.loop-child-test.true in
    let change = c.changed_by-change.ensures in
    record {
      gain = change.gain ∙ sums_more (λ d. cond (is_in d way) (extent_at s d).size 0) cs i c.loop-child.change.gain within v.gain;
      loss = change.loss ∙ sums_more (λ d. cond (is_in d way) (before_at s d).size 0) cs i c.loop-child.change.loss within v.loss;
      level = λ h. level_more (counted_at s way) (extent_at s) cs i within (v.level (change.before h)) (change.level h);
      gain_bound = next_bound c.changed_by-change.result.gain c.loop-child.change.gain i change.gain_bound v.gain_bound;
      loss_bound = next_bound c.changed_by-change.result.loss c.loop-child.change.loss i change.loss_bound v.loss_bound;
    }
