-- What contracts see of a stage at its desk between its links, and of a crew.
use Rattle.std.specs.Option.{option_map}
use Rattle.seat_lock.specs.declared.seat_desk.SeatDesk.{SeatDesk}
use Rattle.seat_lock.specs.SeatDesk.{desk_lock, desk_view}
use Rattle.seat_lock.specs.View.{stand_of}
use Rattle.frame_link.specs.Ends.{ring_sent, ring_send_at, ring_taken, ring_take_at}
use Rattle.pf_history.specs.declared.commands.Entry.{Entry}
use Rattle.frame_stages.specs.AppWorks.{AppWork}
use Rattle.mode_hosts.specs.declared.works.AnyCull.{AnyCull}
use Rattle.mode_hosts.specs.declared.works.AnyCull.TheVariants as culls
use Rattle.mode_hosts.specs.declared.works.AnyDraw.{AnyDraw}
use Rattle.mode_hosts.specs.declared.works.AnyDraw.TheVariants as draws
use Rattle.mode_hosts.specs.declared.works.StreamCull.{StreamCull}
use Rattle.mode_hosts.specs.declared.works.StreamDraw.{StreamDraw}
use Rattle.mode_hosts.specs.declared.seats.AppSeat.{AppSeat}
use Rattle.mode_hosts.specs.declared.seats.CullSeat.{CullSeat}
use Rattle.mode_hosts.specs.declared.seats.DrawSeat.{DrawSeat}
use Rattle.mode_hosts.specs.declared.seats.DbaseSeat.{DbaseSeat}
use Rattle.mode_hosts.specs.declared.seats.ProbeSeat.{ProbeSeat}
use Rattle.mode_hosts.specs.declared.seats.ProbeWay.{ProbeWay}
use Rattle.mode_hosts.specs.declared.crew.Crew.{Crew}
use Rattle.mode_hosts.specs.Works.{StreamCullSite, StreamDrawSite, AnyCullWork, WholeCull, PiecesCull, AnyDrawWork, WholeDraw, PiecesDraw}
use Rattle.mode_hosts.specs.Sites.{Place, Site, DbaseSite, WaySite, ProbeSite, CrewState}

module _ {T R : Type 0} {L : _} where
  -- where a desk stands
  abbrev pub place_of : SeatDesk T R Entry L → Place
  place_of desk =
      record {
        number = (desk_view desk).number;
        seen = (desk_view desk).seen;
        stand = stand_of (desk_lock desk) (desk_view desk);
      }

abbrev pub way_site : ProbeWay → WaySite
way_site way =
    record {
      work = way.stage;
      take_at = ring_take_at way.from;
      send_at = ring_send_at way.to;
      taken = ring_taken way.from;
      sent = ring_sent way.to;
    }

abbrev pub stream_cull : StreamCull → StreamCullSite
stream_cull c =
    record {
      work = c.stage;
      pieces_at = ring_send_at c.pieces;
      back_at = ring_take_at c.back;
      gone = ring_sent c.pieces;
    }

abbrev pub stream_draw : StreamDraw → StreamDrawSite
stream_draw d =
    record {
      work = d.stage;
      pieces_at = ring_take_at d.pieces;
      back_at = ring_send_at d.back;
      came = ring_taken d.pieces;
      given = ring_sent d.back;
    }

abbrev pub any_cull : AnyCull → AnyCullWork
any_cull (culls.Whole stage) = WholeCull stage
any_cull (culls.InPieces c) = PiecesCull (stream_cull c)

abbrev pub any_draw : AnyDraw → AnyDrawWork
any_draw (draws.Whole stage) = WholeDraw stage
any_draw (draws.InPieces d) = PiecesDraw (stream_draw d)

module _ {R : Type 0} where
  abbrev pub app_site : AppSeat R → Site AppWork
  app_site seat =
      record {
        work = seat.stage;
        place = place_of seat.desk;
        take_at = ring_take_at seat.from;
        send_at = ring_send_at seat.to;
        taken = ring_taken seat.from;
        sent = ring_sent seat.to;
      }

  abbrev pub cull_site : CullSeat R → Site AnyCullWork
  cull_site seat =
      record {
        work = any_cull seat.stage;
        place = place_of seat.desk;
        take_at = ring_take_at seat.from;
        send_at = ring_send_at seat.to;
        taken = ring_taken seat.from;
        sent = ring_sent seat.to;
      }

  abbrev pub draw_site : DrawSeat R → Site AnyDrawWork
  draw_site seat =
      record {
        work = any_draw seat.stage;
        place = place_of seat.desk;
        take_at = ring_take_at seat.from;
        send_at = ring_send_at seat.to;
        taken = ring_taken seat.from;
        sent = ring_sent seat.to;
      }

  abbrev pub dbase_site : DbaseSeat R → DbaseSite
  dbase_site seat = record { work = seat.stage; place = place_of seat.desk }

  abbrev pub probe_site : ProbeSeat R → ProbeSite
  probe_site seat = record { place = place_of seat.desk; way = option_map way_site seat.way }

  abbrev pub crew_state : Crew R → CrewState
  crew_state crew =
      record {
        cull = option_map cull_site crew.cull;
        draw = option_map draw_site crew.draw;
        dbase = option_map dbase_site crew.dbase;
        probe = option_map probe_site crew.probe;
      }
