use Rattle.isect_stage.proofs.stop_mark.is_stopped.Goals as goal

pub returns-clause-saw : goal.returns-clause-saw
returns-clause-saw g c =
    let looked = c.look.ensures.looked in
    (looked.0, looked.1, looked.2.stopped, looked.3, looked.4)

pub returns-clause-found : goal.returns-clause-found
returns-clause-found g c =
    let looked = c.look.ensures.looked in
    rw looked.3 looked.1
