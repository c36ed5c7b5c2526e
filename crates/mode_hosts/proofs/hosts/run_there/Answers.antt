use Rattle.std.proofs.Common.{[], ◌∷◌, ◌++◌, ap, ◌∙◌}
use Rattle.mode_hosts.proofs.hosts.run_there.Goals as goal

pub returns-in-Ok : goal.returns-in-Ok
returns-in-Ok g c =
    let crew = c.in-Ok.crew in
    record {
      link = c.in-Ok.ensures.link ∙ c.loop.invariant.0;
      crew = crew;
      came = c.in-Ok.ensures.crew ∙ ap (λ taken. taken ++ crew ∷ []) c.loop.invariant.1;
      goes = c.run.ensures;
    }
