-- What contracts see of the seats of a play together, and how its parts are put to them.
use Rattle.frame_stages.specs.AppWorks.{AppWork}
use Rattle.frame_stages.specs.DbaseWorks.{DbaseWork}
use Rattle.mode_hosts.specs.declared.beginning.Works.{Works}
use Rattle.mode_hosts.specs.declared.dealing.Desks.{Desks}
use Rattle.mode_hosts.specs.declared.opening.Links.{Links}
use Rattle.mode_hosts.specs.declared.parts.Parts.{Parts}
use Rattle.mode_hosts.specs.declared.seats.AppSeat.{AppSeat}
use Rattle.mode_hosts.specs.declared.seats.CullSeat.{CullSeat}
use Rattle.mode_hosts.specs.declared.seats.DrawSeat.{DrawSeat}
use Rattle.mode_hosts.specs.declared.seats.DbaseSeat.{DbaseSeat}
use Rattle.mode_hosts.specs.declared.seats.AllSeats.{AllSeats}
use Rattle.mode_hosts.specs.Seats.{app_site, cull_site, draw_site, dbase_site, probe_site}
use Rattle.mode_hosts.specs.AnySeats.{AnySites}
use Rattle.mode_hosts.specs.Probes.{AllSites}

module _ {R : Type 0} where
  abbrev pub sites_of : AppSeat R → CullSeat R → DrawSeat R → DbaseSeat R → AnySites
  sites_of app cull draw dbase =
      record { app = app_site app; cull = cull_site cull; draw = draw_site draw; dbase = dbase_site dbase }

  abbrev pub all_sites : AllSeats R → AllSites
  all_sites seats = record { four = sites_of seats.app seats.cull seats.draw seats.dbase; probe = probe_site seats.probe }

  -- each stage at its desk between its links
  abbrev pub seats_of : Parts AppWork Works DbaseWork (Desks R) Links → AllSeats R
  seats_of parts =
      record {
        app = record {
          stage = parts.app;
          desk = parts.desks.app;
          from = parts.links.back.take;
          to = parts.links.to_cull.send;
        };
        cull = record {
          stage = parts.works.cull;
          desk = parts.desks.cull;
          from = parts.links.to_cull.take;
          to = parts.links.to_draw.send;
        };
        draw = record {
          stage = parts.works.draw;
          desk = parts.desks.draw;
          from = parts.links.to_draw.take;
          to = parts.links.back.send;
        };
        dbase = record { stage = parts.dbase; desk = parts.desks.dbase };
        probe = record { desk = parts.desks.probe; way = parts.links.to_cull.probe };
      }
