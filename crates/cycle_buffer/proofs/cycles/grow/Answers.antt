use Rattle.std.proofs.Common.{sym, ◌∙◌}
use Rattle.std.specs.Ordering.{nat_cmp}
use Rattle.std.specs.BTreeMap.{is_at}
use Rattle.std.proofs.lemmas.Map.Steps.{set_value_same}
use Rattle.std.proofs.lemmas.Result.{err_from_is_err_and}
use Rattle.cycle_buffer.proofs.cycles.grow.Goals as goal

-- a cycle that could not grow goes back as it was
pub returns-in_err-grow-in-Some-clause-unchanged : goal.returns-in_err-grow-in-Some-clause-unchanged
returns-in_err-grow-in-Some-clause-unchanged c =
    let m = c.args.cycles.now in
    let cycle = c.in-Some.cycle.now in
    let back = set_value_same (is_at (nat_cmp c.args.serial)) m.entries cycle (sym c.in-Some.ensures.value) in
    let same = (c.get_mut.follows.holds c.grow.new.self).0 ∙ rw c.in_err-grow-in-Some.ensures.err back in
    let p = err_from_is_err_and c.from_residual.result c.from_residual.ensures.1 in rw p.1 same
