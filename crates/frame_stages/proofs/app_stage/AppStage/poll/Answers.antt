-- A poll is that of the parts.
use Rattle.std.proofs.Common.{◌≡◌, true, false, Ok, subst}
use Rattle.stage_parts.specs.declared.answers.Did.TheVariants as did
use Rattle.stage_parts.specs.Answers.{is_over}
use Rattle.frame_stages.specs.AppWorks.{AppWork, work_of, is_done}
use Rattle.frame_stages.specs.Looks.{FoundMark}
use Rattle.frame_stages.specs.AppAnswers.{Around, around, Polled}
use Rattle.frame_stages.proofs.app_stage.AppStage.poll.Goals as goal

pub returns-clause-polled : goal.returns-clause-polled
returns-clause-polled g c =
    let after : Around = around (g.D.Desk.seen c.poll.new.desk) (g.D.Desk.told c.poll.new.desk) (record { taken = g.T.TakeEnd.taken c.poll.new.from; sent = g.S.SendEnd.sent c.poll.new.to; told_sent = g.T.TakeEnd.told_sent c.args.from_draw.now; told_taken = g.S.SendEnd.told_taken c.args.to_cull.now; room = g.S.SendEnd.room c.args.to_cull.now; sink = record { bytes = g.O.Sink.written c.poll.new.frames; faults = g.O.Sink.faults c.poll.new.frames; at_fault = g.O.Sink.at_fault c.poll.new.frames } }) in
    subst (λ (w : AppWork). Polled (g.D.Desk.number c.args.desk.now) c.poll.result w (work_of c.poll.new.self) (around (g.D.Desk.seen c.args.desk.now) (g.D.Desk.told c.args.desk.now) (record { taken = g.T.TakeEnd.taken c.args.from_draw.now; sent = g.S.SendEnd.sent c.args.to_cull.now; told_sent = g.T.TakeEnd.told_sent c.args.from_draw.now; told_taken = g.S.SendEnd.told_taken c.args.to_cull.now; room = g.S.SendEnd.room c.args.to_cull.now; sink = record { bytes = g.O.Sink.written c.args.frames.now; faults = g.O.Sink.faults c.args.frames.now; at_fault = g.O.Sink.at_fault c.args.frames.now } })) after) c.self.view_is c.poll.ensures.polled

pub returns-clause-done : goal.returns-clause-done
returns-clause-done g c = subst (λ (w : AppWork). is_done w.state ≡ true → c.poll.result ≡ Ok did.Over) c.self.view_is c.poll.ensures.done

pub returns-clause-looked : goal.returns-clause-looked
returns-clause-looked g c =
    subst (λ (w : AppWork). is_done w.state ≡ false → FoundMark (g.D.Desk.number c.args.desk.now) (g.D.Desk.seen c.args.desk.now) (g.D.Desk.told c.args.desk.now) (is_over c.poll.result)) c.self.view_is c.poll.ensures.looked
