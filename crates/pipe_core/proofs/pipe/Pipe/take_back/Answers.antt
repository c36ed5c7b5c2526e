use Rattle.std.proofs.Common.{Bool, [], Some, None, Result, sym, ap, subst}
use Rattle.stage_parts.specs.declared.answers.StageError.{StageError}
use Rattle.frame_stages.specs.Flights.{SinkSide}
use Rattle.frame_stages.specs.AppAnswers.{Ends}
use Rattle.frame_stages.specs.Stays.{EndPlace}
use Rattle.pipe_plays.specs.Played.{Blames}
use Rattle.pipe_core.specs.Pipes.{PipeWork, PipeKeeps, link_work, core_of}
use Rattle.pipe_core.specs.Settling.{done_of, NoneIsBack, TurnsGo}
use Rattle.pipe_core.proofs.Polls.{in_order}
use Rattle.pipe_core.proofs.Backs.{backed, back_goes, back_blames}
use Rattle.pipe_core.proofs.Settling.{none_goes, none_back}
use Rattle.pipe_core.proofs.pipe.Pipe.take_back.Goals as goal

pub returns-then-not-can_take_back-clause-goes : goal.returns-then-not-can_take_back-clause-goes
returns-then-not-can_take_back-clause-goes g c = λ play ahead keeps.
    let d = c.self.inside in
    let p : PipeWork = record {
      app = d.app;
      cull = d.cull;
      draw = d.draw;
      dbase = d.dbase;
      scene = d.desk;
      a = link_work d.to_cull;
      b = link_work d.to_draw;
      c = link_work d.back;
    } in
    none_goes play ahead NoneIsBack c.args.self.now (g.O.Sink.written c.args.frames.now) keeps
    (subst (λ (x : PipeWork). NoneIsBack (core_of play x)) c.self.view_is
    (none_back play p (c.can_take_back.ensures.none c.if-not-can_take_back.true)))

pub returns-clause-goes : goal.returns-clause-goes
returns-clause-goes g c = λ play ahead keeps.
    let d = c.self.inside in
    let p : PipeWork = record {
      app = d.app;
      cull = d.cull;
      draw = d.draw;
      dbase = d.dbase;
      scene = d.desk;
      a = link_work d.to_cull;
      b = link_work d.to_draw;
      c = link_work d.back;
    } in
    let sink : SinkSide = record {
      bytes = g.O.Sink.written c.args.frames.now;
      faults = g.O.Sink.faults c.args.frames.now;
      at_fault = g.O.Sink.at_fault c.args.frames.now;
    } in
    let sink' : SinkSide = record {
      bytes = g.O.Sink.written c.take_back-came.new.frames;
      faults = g.O.Sink.faults c.take_back-came.new.frames;
      at_fault = g.O.Sink.at_fault c.take_back-came.new.frames;
    } in
    let ends : Ends = record {
      taken = p.c.line.taken;
      sent = p.a.line.sent;
      told_sent = Some p.c.line.sent;
      told_taken = Some p.a.line.taken;
      room = p.a.room;
      sink = sink;
    } in
    let back = c.take_back-came.ensures in
    let link = link_work c.take_back-came.new.from_draw in
    let q : PipeWork = backed p c.take_back-came.new.self c.take_back-came.new.desk link in
    subst (λ (r : Result Bool StageError). TurnsGo play ahead NoneIsBack r c.args.self.now q sink.bytes sink'.bytes) (sym c.has_done.ensures)
    (subst (λ (x : PipeWork). TurnsGo play ahead NoneIsBack (done_of c.take_back-came.result) x q sink.bytes sink'.bytes) c.self.view_is
    (back_goes play ahead p c.take_back-came.new.self c.take_back-came.new.desk link sink sink' c.take_back-came.result
    (in_order link.line.sent link.line.taken c.take_back-came.new.from_draw.items.items c.take_back-came.new.from_draw.in_order)
    (ap (λ (e : EndPlace). e.room) back.from_draw) (ap (λ (e : EndPlace). e.other_end) back.from_draw)
    (back.back ends) (subst (PipeKeeps play ahead) (sym c.self.view_is) keeps)))

pub returns-clause-blames : goal.returns-clause-blames
returns-clause-blames g c =
    let d = c.self.inside in
    let ends : Ends = record {
      taken = [];
      sent = [];
      told_sent = None;
      told_taken = None;
      room = 0;
      sink = record {
        bytes = g.O.Sink.written c.args.frames.now;
        faults = g.O.Sink.faults c.args.frames.now;
        at_fault = g.O.Sink.at_fault c.args.frames.now;
      };
    } in
    subst (λ (r : Result Bool StageError). Blames r (g.O.Sink.faults c.args.frames.now) (g.O.Sink.faults c.take_back-came.new.frames)
    (g.O.Sink.at_fault c.take_back-came.new.frames) (g.O.Sink.written c.take_back-came.new.frames)) (sym c.has_done.ensures)
    (back_blames c.take_back-came.result _ _ _ _ _ (c.take_back-came.ensures.back ends))
