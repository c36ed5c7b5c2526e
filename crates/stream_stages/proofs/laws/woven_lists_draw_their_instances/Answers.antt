use Rattle.stream_stages.proofs.Weaving.{woven_draws, shown_fars}
use Rattle.stream_stages.proofs.laws.woven_lists_draw_their_instances.Goals as goal

pub returns : goal.returns
returns c = record { instances = woven_draws; shown = shown_fars }
