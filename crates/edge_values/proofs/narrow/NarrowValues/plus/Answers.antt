use Rattle.std.proofs.Common.{FitsSigned, rules}
use mir.Syntax.{w64}
use Rattle.edge_values.proofs.Passed.{narrow_sum}
use Rattle.edge_values.proofs.narrow.NarrowValues.plus.Goals as goal

pub returns : goal.returns
returns c =
    let v = c.args.self.now in
    let t = c.args.steps.now in
    let first : FitsSigned w64 v.first = search rules in
    let second : FitsSigned w64 v.second = search rules in
    let third : FitsSigned w64 v.third = search rules in
    let first_step : FitsSigned w64 t.first = search rules in
    let second_step : FitsSigned w64 t.second = search rules in
    let third_step : FitsSigned w64 t.third = search rules in
    record {
      first_is = narrow_sum v.first t.first first first_step c.requires.first_within;
      second_is = narrow_sum v.second t.second second second_step c.requires.second_within;
      third_is = narrow_sum v.third t.third third third_step c.requires.third_within;
    }
