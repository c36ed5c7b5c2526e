use Rattle.frame_stages.proofs.looks.sight.Goals as goal

pub returns-clause-found : goal.returns-clause-found
returns-clause-found g c =
    let looked = c.look.ensures.looked in
    rw looked.3 looked.1
