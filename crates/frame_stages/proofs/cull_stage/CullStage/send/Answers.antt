use Rattle.std.proofs.Common.{◌∙◌, ap}
use Rattle.frame_stages.proofs.CullKept.{keeps_sent}
use Rattle.stage_parts.proofs.Full.{no_room}
use Rattle.frame_stages.proofs.cull_stage.CullStage.send.Goals as goal

pub returns-in-Ok-clause-keeps : goal.returns-in-Ok-clause-keeps
returns-in-Ok-clause-keeps g c = λ taken keeps.
    let is = c.self.view_is in
    keeps_sent c.args.self.now _ taken (g.S.SendEnd.sent c.args.to.now) (g.S.SendEnd.sent c.push.new.self) c.args.packet c.requires.going
    keeps c.in-Ok.ensures.ok
    (λ i. record {
      lens = ap (λ w. w.lens) is i;
      copy = ap (λ w. w.copy) is i;
      ended = c.is_end-ends.ensures i;
      held = (ap (λ w. w.held) is ∙ c.requires.bare) i;
    })

pub returns-in-Err-clause-full : goal.returns-in-Err-clause-full
returns-in-Err-clause-full g c = λ no.
    no_room (g.S.SendEnd.room c.args.to.now) (g.S.SendEnd.told_taken c.args.to.now) (g.S.SendEnd.sent c.args.to.now) c.in-Err.ensures.full c.in-Err.ensures.spare
