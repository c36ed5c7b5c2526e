use Rattle.std.proofs.Common.{None}
use Rattle.frame_link.specs.Ends.{ring_send_room}
use Rattle.frame_stages.specs.Flights.{SinkSide}
use Rattle.mode_hosts.specs.Seats.{app_site}
use Rattle.mode_hosts.proofs.Polls.{app_goes, app_uncut, same_desk, same_link}
use Rattle.mode_hosts.proofs.seats.AppSeat.poll.Goals as goal

pub returns-clause-goes : goal.returns-clause-goes
returns-clause-goes g c =
    let seat = c.args.self.now in
    let poll = c.poll.ensures in
    let sink : SinkSide = record {
      bytes = g.O.Sink.written c.args.frames.now;
      faults = g.O.Sink.faults c.args.frames.now;
      at_fault = g.O.Sink.at_fault c.args.frames.now;
    } in
    let sink' : SinkSide = record {
      bytes = g.O.Sink.written c.poll.new.frames;
      faults = g.O.Sink.faults c.poll.new.frames;
      at_fault = g.O.Sink.at_fault c.poll.new.frames;
    } in
    app_goes c.poll.result (app_site seat)
    (app_site {R = g.row.R.Denot} (record {
      stage = c.poll.new.self;
      desk = c.poll.new.desk;
      from = c.poll.new.from_draw;
      to = c.poll.new.to_cull;
    }))
    None None None None (ring_send_room seat.to) sink sink' poll.polled (same_desk _ _ poll.desk)
    (record { take_at = same_link poll.from_draw; send_at = same_link poll.to_cull })

pub returns-clause-uncut : goal.returns-clause-uncut
returns-clause-uncut g c = app_uncut c.poll.result _ _ c.poll.ensures.polled.whole
