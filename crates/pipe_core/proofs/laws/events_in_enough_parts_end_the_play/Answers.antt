use Rattle.pipe_core.specs.declared.events.Event.TheVariants as event
use Rattle.pipe_core.specs.Cores.{one_seat}
use Rattle.pipe_core.proofs.Running.{parts_end, ran_fits}
use Rattle.pipe_core.proofs.laws.events_in_enough_parts_end_the_play.Goals as goal

pub returns : goal.returns
returns c = λ play ahead parts s t can free fits unset all many ran.
    let ended = parts_end play ahead parts s t can free fits unset all many ran in
    let after = ran_fits play ahead _ s t fits ran in
    let shown = c.a_pipe_shows_its_history.ensures play ahead one_seat t.pipe can after.pipe in
    record { ended = ended; shown = shown.at_end (record { app = ended event.App; dbase = ended event.Dbase }) }
