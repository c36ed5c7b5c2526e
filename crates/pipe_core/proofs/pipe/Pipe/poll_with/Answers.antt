use Rattle.pipe_plays.proofs.Ended.{stays_whole}
use Rattle.pipe_core.proofs.Openings.{nothing_written}
use Rattle.pipe_core.proofs.pipe.Pipe.poll_with.Goals as goal

pub returns-in-Cull-clause-wrote : goal.returns-in-Cull-clause-wrote
returns-in-Cull-clause-wrote g c = λ play ahead can keeps. nothing_written _ _ _ (c.cull_event.ensures.stream play)

pub returns-in-Cull-clause-fault : goal.returns-in-Cull-clause-fault
returns-in-Cull-clause-fault g c = λ is. absurd (c.cull_event.ensures.whole is)

pub returns-in-Draw-clause-wrote : goal.returns-in-Draw-clause-wrote
returns-in-Draw-clause-wrote g c = λ play ahead can keeps. nothing_written _ _ _ (c.draw_event.ensures.stream play)

pub returns-in-Draw-clause-fault : goal.returns-in-Draw-clause-fault
returns-in-Draw-clause-fault g c = λ is. absurd (c.draw_event.ensures.whole is)

pub returns-in-Dbase-clause-wrote : goal.returns-in-Dbase-clause-wrote
returns-in-Dbase-clause-wrote g c = λ play ahead can keeps. nothing_written _ _ _ (c.dbase_event.ensures.stream play)

pub returns-in-Dbase-clause-fault : goal.returns-in-Dbase-clause-fault
returns-in-Dbase-clause-fault g c = λ is. absurd (c.dbase_event.ensures.whole is)

pub returns-in-Cull-clause-last : goal.returns-in-Cull-clause-last
returns-in-Cull-clause-last g c = λ is. absurd (c.cull_event.ensures.whole is)

pub returns-in-Draw-clause-last : goal.returns-in-Draw-clause-last
returns-in-Draw-clause-last g c = λ is. absurd (c.draw_event.ensures.whole is)

pub returns-in-Dbase-clause-last : goal.returns-in-Dbase-clause-last
returns-in-Dbase-clause-last g c = λ is. absurd (c.dbase_event.ensures.whole is)

pub returns-in-Cull-clause-uncut : goal.returns-in-Cull-clause-uncut
returns-in-Cull-clause-uncut g c = stays_whole c.cull_event.result _ _ (λ other. c.cull_event.ensures.uncut)

pub returns-in-Draw-clause-uncut : goal.returns-in-Draw-clause-uncut
returns-in-Draw-clause-uncut g c = stays_whole c.draw_event.result _ _ (λ other. c.draw_event.ensures.uncut)

pub returns-in-Dbase-clause-uncut : goal.returns-in-Dbase-clause-uncut
returns-in-Dbase-clause-uncut g c = stays_whole c.dbase_event.result _ _ (λ other. c.dbase_event.ensures.uncut)

pub returns-in-App-clause-app : goal.returns-in-App-clause-app
returns-in-App-clause-app g c = λ other. absurd (other c.in-App.is)

pub returns-in-Cull-clause-app : goal.returns-in-Cull-clause-app
returns-in-Cull-clause-app g c = λ other. c.cull_event.ensures.app

pub returns-in-Draw-clause-app : goal.returns-in-Draw-clause-app
returns-in-Draw-clause-app g c = λ other. c.draw_event.ensures.app

pub returns-in-Dbase-clause-app : goal.returns-in-Dbase-clause-app
returns-in-Dbase-clause-app g c = λ other. c.dbase_event.ensures.app
