use Rattle.std.proofs.Common.{FitsSigned, rules}
use mir.Syntax.{w128}
use Rattle.edge_values.proofs.Passed.{wide_sum}
use Rattle.edge_values.proofs.values.EdgeValues.plus.Goals as goal

pub returns : goal.returns
returns c =
    let e = c.args.self.now in
    let t = c.args.steps.now in
    let first : FitsSigned w128 e.first = search rules in
    let second : FitsSigned w128 e.second = search rules in
    let third : FitsSigned w128 e.third = search rules in
    let first_step : FitsSigned w128 t.first = search rules in
    let second_step : FitsSigned w128 t.second = search rules in
    let third_step : FitsSigned w128 t.third = search rules in
    record {
      first_is = wide_sum e.first t.first first first_step c.requires.first_within;
      second_is = wide_sum e.second t.second second second_step c.requires.second_within;
      third_is = wide_sum e.third t.third third third_step c.requires.third_within;
    }
