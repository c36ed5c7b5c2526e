use Rattle.frame_stages.proofs.looks.is_stopped.Goals as goal

pub returns-clause-saw : goal.returns-clause-saw
returns-clause-saw g c =
    let saw = c.sight.ensures.saw in
    (saw.0, saw.1, saw.2.stopped, saw.3, saw.4)
