use Rattle.pipe_core.specs.declared.events.Event.TheVariants as event
use Rattle.pipe_core.specs.Cores.{one_seat}
use Rattle.pipe_core.proofs.laws.the_stream_shows_the_history.Goals as goal

pub returns : goal.returns
returns c = λ play ahead s can fits.
    let shown = c.a_pipe_shows_its_history.ensures play ahead one_seat s.pipe can fits.pipe in
    record { now = shown.now; at_end = λ all. shown.at_end (record { app = all event.App; dbase = all event.Dbase }) }
