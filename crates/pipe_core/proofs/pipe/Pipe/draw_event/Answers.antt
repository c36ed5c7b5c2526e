use Rattle.std.proofs.Common.{List, map, refl, sym, ap, ◌∙◌, subst}
use Rattle.std.proofs.lemmas.Option.{same_Some}
use Rattle.stage_parts.specs.declared.packets.Packet.{Packet}
use Rattle.stage_parts.specs.Packets.{bytes_in}
use Rattle.stage_parts.specs.Pictures.{streamed}
use Rattle.frame_stages.specs.Stays.{EndPlace}
use Rattle.pipe_core.specs.Pipes.{PipeWork, core_of, PipeKeeps, Lifted, link_work}
use Rattle.pipe_core.specs.declared.events.Event.TheVariants as event
use Rattle.pipe_core.proofs.Polls.{in_order, draw_polls}
use Rattle.pipe_core.proofs.Lifting.{passes_whole}
use Rattle.pipe_core.proofs.pipe.Pipe.draw_event.Goals as goal

pub returns-clause-lifted : goal.returns-clause-lifted
returns-clause-lifted g c =
    λ play ahead keeps.
    let d = c.self.inside in
    let p : PipeWork = record {
      app = d.app;
      cull = d.cull;
      draw = d.draw;
      dbase = d.dbase;
      scene = d.desk;
      a = link_work d.to_cull;
      b = link_work d.to_draw;
      c = link_work d.back;
    } in
    let q : PipeWork = record {
      app = d.app;
      cull = d.cull;
      draw = c.poll.new.self;
      dbase = d.dbase;
      scene = c.poll.new.desk;
      a = link_work d.to_cull;
      b = link_work c.poll.new.from;
      c = link_work c.poll.new.to;
    } in
    let poll = c.poll.ensures in
    subst (λ (x : PipeWork). Lifted play ahead event.Draw c.poll.result x q) c.self.view_is
    (draw_polls play ahead p q c.poll.result
    (record {
      app = refl;
      cull = refl;
      dbase = refl;
      first = refl;
      link_b = in_order q.b.line.sent q.b.line.taken c.poll.new.from.items.items c.poll.new.from.in_order;
      link_c = in_order q.c.line.sent q.c.line.taken c.poll.new.to.items.items c.poll.new.to.in_order;
      told = poll.told;
      take_room = ap (λ (e : EndPlace). e.room) poll.from;
      told_sent = ap (λ (e : EndPlace). e.other_end) poll.from;
      send_room = ap (λ (e : EndPlace). e.room) poll.to;
      told_taken = ap (λ (e : EndPlace). e.other_end) poll.to;
      given = poll.given;
      part = poll.part;
      answer = poll.answer;
      ended = poll.ended;
      looked = poll.looked;
    })
    (subst (PipeKeeps play ahead) (sym c.self.view_is) keeps))

pub returns-clause-stream : goal.returns-clause-stream
returns-clause-stream g c =
    λ play.
    let state = c.self.inside.app.state in
    ap (λ (ps : List Packet). streamed state.written state.fault (map bytes_in ps)) (same_Some _ _ (ap (λ (e : EndPlace). e.other_end) c.poll.ensures.to))
    ∙ ap (λ (x : PipeWork). (core_of play x).pipe.stream) c.self.view_is

pub returns-clause-whole : goal.returns-clause-whole
returns-clause-whole g c = passes_whole _ _ _ _ c.poll.ensures.answer

pub returns-clause-uncut : goal.returns-clause-uncut
returns-clause-uncut g c = ap (λ (x : PipeWork). x.app.state.fault) c.self.view_is

pub returns-clause-app : goal.returns-clause-app
returns-clause-app g c = ap (λ (x : PipeWork). x.app) c.self.view_is
