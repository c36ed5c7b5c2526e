use Rattle.fx_math.proofs.Cramer.{cramer, sum_parallel, inside_sum}
use Rattle.fx_math.proofs.laws.edge_values_weigh_vertices.Goals as goal

pub returns-clause-cramer : goal.returns-clause-cramer
returns-clause-cramer c = cramer

pub returns-clause-parallel : goal.returns-clause-parallel
returns-clause-parallel c = sum_parallel

pub returns-clause-inside : goal.returns-clause-inside
returns-clause-inside c = inside_sum
