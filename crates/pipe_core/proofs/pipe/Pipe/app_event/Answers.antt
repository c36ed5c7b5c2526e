use Rattle.std.proofs.Common.{◌≡◌, refl, sym, ap, subst}
use Rattle.std.proofs.lemmas.Option.{same_Some}
use Rattle.frame_stages.specs.Flights.{SinkSide}
use Rattle.frame_stages.specs.AppAnswers.{Polled}
use Rattle.pf_scene.specs.Scenes.{SceneState}
use Rattle.frame_stages.specs.Stays.{EndPlace}
use Rattle.pipe_plays.specs.Played.{StaysWhole}
use Rattle.pipe_core.specs.Pipes.{PipeWork, PipeKeeps, AppLifted, link_work}
use Rattle.pipe_core.proofs.Polls.{in_order}
use Rattle.pipe_core.proofs.AppLifts.{before_poll, after_poll}
use Rattle.pipe_core.proofs.Turns.{app_uncut, app_calm, app_last, app_rose, seen_legal, app_polls, IsSeenLegal}
use Rattle.pipe_core.proofs.pipe.Pipe.app_event.Goals as goal

pub returns-clause-lifted : goal.returns-clause-lifted
returns-clause-lifted g c =
    λ play ahead some keeps.
    let d = c.self.inside in
    let p : PipeWork = record {
      app = d.app;
      cull = d.cull;
      draw = d.draw;
      dbase = d.dbase;
      scene = d.desk;
      a = link_work d.to_cull;
      b = link_work d.to_draw;
      c = link_work d.back;
    } in
    let q : PipeWork = record {
      app = c.poll-result.new.self;
      cull = d.cull;
      draw = d.draw;
      dbase = d.dbase;
      scene = c.look.new.self;
      a = link_work c.poll-result.new.to_cull;
      b = link_work d.to_draw;
      c = link_work c.poll-result.new.from_draw;
    } in
    let sink : SinkSide = record {
      bytes = g.O.Sink.written c.args.frames.now;
      faults = g.O.Sink.faults c.args.frames.now;
      at_fault = g.O.Sink.at_fault c.args.frames.now;
    } in
    let sink' : SinkSide = record {
      bytes = g.O.Sink.written c.poll-result.new.frames;
      faults = g.O.Sink.faults c.poll-result.new.frames;
      at_fault = g.O.Sink.at_fault c.poll-result.new.frames;
    } in
    let poll = c.poll-result.ensures in
    let still : c.look.new.self ≡ c.poll-result.new.desk = same_Some _ _ c.look.ensures.told in
    let legal = seen_legal c.poll-result.new.desk.shared.log c.look.new.self.shared.log c.poll-result.new.desk c.look.result c.look.ensures.looked in
    subst (λ (x : PipeWork). AppLifted play ahead c.poll-result.result x q sink.bytes sink'.bytes) c.self.view_is
    (app_polls play ahead p q sink sink' c.poll-result.result
    (record {
      cull = refl;
      draw = refl;
      dbase = refl;
      middle = refl;
      link_a = in_order q.a.line.sent q.a.line.taken c.poll-result.new.to_cull.items.items c.poll-result.new.to_cull.in_order;
      link_c = in_order q.c.line.sent q.c.line.taken c.poll-result.new.from_draw.items.items c.poll-result.new.from_draw.in_order;
      send_room = ap (λ (e : EndPlace). e.room) poll.to_cull;
      told_taken = ap (λ (e : EndPlace). e.other_end) poll.to_cull;
      take_room = ap (λ (e : EndPlace). e.room) poll.from_draw;
      told_sent = ap (λ (e : EndPlace). e.other_end) poll.from_draw;
      legal = subst IsSeenLegal (sym still) legal;
      polled = subst (λ (scene : SceneState). Polled 0 c.poll-result.result d.app c.poll-result.new.self (before_poll p sink) (after_poll p scene q.a.line.sent q.c.line.taken sink')) (sym still) poll.polled;
      done = poll.done;
      looked = poll.looked;
    })
    some (subst (PipeKeeps play ahead) (sym c.self.view_is) keeps))

pub returns-clause-fault : goal.returns-clause-fault
returns-clause-fault g c = app_rose _ _ _ _ _ _ c.poll-result.ensures.polled.answer

pub returns-clause-last : goal.returns-clause-last
returns-clause-last g c = app_last _ _ _ _ _ _ c.poll-result.ensures.polled.answer

pub returns-clause-calm : goal.returns-clause-calm
returns-clause-calm g c = app_calm _ _ _ _ _ _ c.poll-result.ensures.polled.answer

pub returns-clause-uncut : goal.returns-clause-uncut
returns-clause-uncut g c =
    subst (λ (x : PipeWork). StaysWhole c.poll-result.result x.app.state.fault c.poll-result.new.self.state.fault) c.self.view_is
    (app_uncut c.poll-result.result _ _ c.poll-result.ensures.polled.whole)
