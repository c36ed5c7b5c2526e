use Rattle.pf_model.proofs.Numbering.{places_counted, places_rise}
use Rattle.pf_model.proofs.laws.places_count_the_instances.Goals as goal

pub returns-clause-count : goal.returns-clause-count
returns-clause-count c = places_counted

pub returns-clause-rise : goal.returns-clause-rise
returns-clause-rise c = places_rise
