use Rattle.perfly_top.proofs.Pairs.{fenced_runs_law}
use Rattle.perfly_top.proofs.laws.runs_of_a_fenced_play_show_the_same.Goals as goal

pub returns : goal.returns
returns c = fenced_runs_law c.one_reading.ensures.one c.fenced_plays_determine_pictures.ensures
