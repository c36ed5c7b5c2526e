use Rattle.std.proofs.Common.{List, ℕ, []}
use Rattle.live_text.specs.declared.given.Given.{Given}
use Rattle.live_feed.specs.Feeds.{Fed}
use Rattle.std.proofs.Common.{◌∷◌, subst}
use Rattle.live_run.proofs.RunReads.{opens}
use Rattle.live_run.proofs.driving.open.Goals as goal

pub returns-clause-opened : goal.returns-clause-opened
returns-clause-opened g c = λ text f fed frames report faults.
    let fed' = subst (λ (x : Given). Fed text (x ∷ []) f) c.in-Header.is fed in
    opens text f c.args.setup.now frames report faults c.in-Header.lens c.in-Header.back c.in-Header.channels c.in_ok-open-in-Header.field-0 fed'
    (c.in_ok-open-in-Header.ensures.driven frames) c.in_ok-open-in-Header.ensures.blocks c.in_ok-open-in-Header.ensures.log c.in_ok-open-in-Header.ensures.frames
