use Rattle.std.proofs.Common.{[], ◌∷◌, ◌++◌, ap, ◌∙◌}
use Rattle.mode_hosts.proofs.hosts.give.Goals as goal

pub returns : goal.returns
returns g c =
    record {
      sent = c.in-Ok.ensures.ok ∙ ap (λ sent. sent ++ c.args.crew ∷ []) c.requires.sent;
      taken = c.requires.taken;
    }
