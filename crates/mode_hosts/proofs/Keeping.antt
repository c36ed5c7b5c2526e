-- What the seats keep, they keep while their stages are polled.
use Rattle.std.proofs.Common.{◌≡◌, ℕ, List, [], ◌++◌, Option, None, Some, sym, ap, ◌∙◌, subst}
use Rattle.std.specs.Io.KnownBytes.{append_known}
use Rattle.atomic_table.specs.Seated.{TableId}
use mathlib.Core.List.{IsPrefix}
use Rattle.seat_lock.specs.Log.{of}
use Rattle.seat_lock.specs.Desk.{Stand}
use Rattle.seat_lock.proofs.Logs.{of_found}
use Rattle.pf_io.proofs.Known.{append_known-append}
use Rattle.pf_model.specs.declared.lines.BaseLine.{BaseLine}
use Rattle.pf_history.specs.declared.commands.Entry.{Entry}
use Rattle.pf_history.specs.Logs.{Log}
use Rattle.stage_parts.specs.Frames.{AreOwnFrames}
use Rattle.stage_parts.specs.States.{Setup}
use Rattle.stage_parts.proofs.Numbers.{own_front}
use Rattle.frame_stages.specs.AppWorks.{AppWork}
use Rattle.frame_stages.specs.CullWorks.{CullWork}
use Rattle.frame_stages.specs.Works.{DrawWork}
use Rattle.nearest_hit.specs.declared.segment.Segment.{Segment}
use Rattle.frame_link.specs.Link.{Link}
use Rattle.mode_hosts.specs.Works.{AnyCullWork, AnyDrawWork}
use Rattle.mode_hosts.specs.Sites.{Place, Site, DbaseSite, WaySite, ProbeSite, IsSameDesk, Rests, AppWrote, AppGoes, CullGoes, DrawGoes, AnyCullGoes, AnyDrawGoes, DbaseGoes, WayGoes, ProbeGoes, IfThere}
use Rattle.mode_hosts.specs.Gathering.{SitesOf, Sites, IsDesk, AreAtDesks, AreTogether, AppSeatKeeps, CullSeatKeeps, DrawSeatKeeps, DbaseSeatKeeps, SeatsKeep, SeatsGo}
use Rattle.mode_hosts.specs.AnySeats.{AnySites, AnyCullSeatKeeps, AnyDrawSeatKeeps, AnySeatsKeep, AnySeatsGo}
use Rattle.mode_hosts.specs.Probes.{AllSites, AreLinked, AreAllTogether, WayKeeps, ProbeSeatKeeps, AllKeep, AllGo}

-- Desks and links

same_desk : (lock : TableId) (k : ℕ) (old new : Place) → IsSameDesk old new → IsDesk lock k old → IsDesk lock k new
same_desk lock k old new same is =
    record { number = same.number ∙ is.number; lock = ap (λ (x : Stand Entry). x.lock) same.stand ∙ is.lock }

stay_at_desks : {X Y : Type 0} (lock : TableId) (old new : SitesOf X Y) → IsSameDesk old.app.place new.app.place →
    IsSameDesk old.cull.place new.cull.place → IsSameDesk old.draw.place new.draw.place → IsSameDesk old.dbase.place new.dbase.place →
    AreAtDesks lock old → AreAtDesks lock new
stay_at_desks lock old new app cull draw dbase is =
    record {
      app = same_desk lock 0 old.app.place new.app.place app is.app;
      cull = same_desk lock 1 old.cull.place new.cull.place cull is.cull;
      draw = same_desk lock 2 old.draw.place new.draw.place draw is.draw;
      dbase = same_desk lock 3 old.dbase.place new.dbase.place dbase is.dbase;
      seats = ap (λ (x : Stand Entry). x.seats) app.stand ∙ is.seats;
    }

pub stay_together : (lock : TableId) (old new : Sites) (bytes bytes' : Option (List ℕ)) → SeatsGo old new bytes bytes' → AreTogether lock old → AreTogether lock new
stay_together lock old new bytes bytes' go is =
    record {
      desks = stay_at_desks lock old new go.app.desk go.cull.rests.desk go.draw.rests.desk go.dbase.desk is.desks;
      a = go.cull.links.take_at ∙ (is.a ∙ sym go.app.links.send_at);
      b = go.draw.links.take_at ∙ (is.b ∙ sym go.cull.links.send_at);
      c = go.app.links.take_at ∙ (is.c ∙ sym go.draw.links.send_at);
    }

-- the way from the application to the cull, whose ends stay where they are
still_linked : (send_at take_at : Link) (old new : Option WaySite) → IfThere WayGoes old new → AreLinked send_at old take_at → AreLinked send_at new take_at
still_linked send_at take_at None None goes is = is
still_linked send_at take_at None (Some new) goes is = absurd goes
still_linked send_at take_at (Some old) None goes is = absurd goes
still_linked send_at take_at (Some old) (Some new) goes is = (goes.take_at ∙ is.0, is.1 ∙ sym goes.send_at)

pub all_stay_together : (lock : TableId) (old new : AllSites) (bytes bytes' : Option (List ℕ)) → AllGo old new bytes bytes' → AreAllTogether lock old →
    AreAllTogether lock new
all_stay_together lock old new bytes bytes' go is =
    let four = go.four in
    record {
      desks =
          stay_at_desks lock old.four new.four four.app.desk four.cull.rests.desk four.draw.rests.desk four.dbase.desk is.desks;
      probe = same_desk lock 4 old.probe.place new.probe.place go.probe.rests.desk is.probe;
      a =
          subst (λ (l : Link). AreLinked l new.probe.way new.four.cull.take_at) (sym four.app.links.send_at)
          (subst (λ (l : Link). AreLinked old.four.app.send_at new.probe.way l) (sym four.cull.links.take_at)
          (still_linked old.four.app.send_at old.four.cull.take_at old.probe.way new.probe.way go.probe.way is.a));
      b = four.draw.links.take_at ∙ (is.b ∙ sym four.cull.links.send_at);
      c = four.app.links.take_at ∙ (is.c ∙ sym four.draw.links.send_at);
      pieces = four.draw.piece_links ∙ (is.pieces ∙ sym four.cull.piece_links);
    }

-- Seats

-- a front of a log whose Frames are all the desk's
front_own : (k : ℕ) (xs ys : Log) → IsPrefix xs ys → AreOwnFrames k ys → AreOwnFrames k xs
front_own k xs ys (rest, is) own = own_front k xs rest (subst (AreOwnFrames k) (sym is) own)

wrote_on : (g : Setup) (old new : Site AppWork) (a b c : Option (List ℕ)) (before : AppWrote g old a b []) → AppWrote g new b c before.more →
    AppWrote g new a c []
wrote_on g old new a b c before after =
    record {
      more = before.more ++ after.more;
      wrote = after.wrote
          ∙ (ap (λ (known : Option (List ℕ)). append_known known after.more) before.wrote ∙ append_known-append a before.more after.more);
      keeps = after.keeps;
    }

app_keeps : (g : Setup) (old new : Site AppWork) (a b c : Option (List ℕ)) → AppGoes old new b c → AppSeatKeeps g old a b → AppSeatKeeps g new a c
app_keeps g old new a b c goes keeps =
    record {
      given = goes.given g keeps.given;
      part = λ frames.
          let frames_at = subst (λ (k : ℕ). AreOwnFrames k new.place.seen) goes.desk.number frames in
          let before = keeps.part (front_own old.place.number old.place.seen new.place.seen goes.front frames_at) in
          wrote_on g old new a b c before (goes.keeps g before.more keeps.given frames before.keeps);
      own = goes.own keeps.own;
    }

-- a desk that adds no entry still has none of its number
still_none : (old new : Place) → Rests old new → of old.number old.seen ≡ [] → of new.number new.seen ≡ []
still_none old new rests none =
    ap (λ (k : ℕ). of k new.seen) rests.desk.number ∙ (of_found old.number old.seen new.seen rests.found ∙ none)

cull_keeps : (g : Setup) (old new : Site CullWork) → CullGoes old new → CullSeatKeeps g old → CullSeatKeeps g new
cull_keeps g old new goes keeps =
    record {
      lens = goes.lens ∙ keeps.lens;
      keeps = goes.keeps keeps.keeps;
      own = still_none old.place new.place goes.rests keeps.own;
    }

draw_keeps : (g : Setup) (old new : Site DrawWork) → DrawGoes old new → DrawSeatKeeps g old → DrawSeatKeeps g new
draw_keeps g old new goes keeps =
    record {
      lens = goes.given.lens ∙ keeps.lens;
      back = goes.given.back ∙ keeps.back;
      part = goes.part keeps.part;
      own = still_none old.place new.place goes.rests keeps.own;
    }

dbase_keeps : (dbase : List BaseLine) (channels : ℕ) (old new : DbaseSite) → DbaseGoes old new → DbaseSeatKeeps dbase channels old →
    DbaseSeatKeeps dbase channels new
dbase_keeps dbase channels old new goes keeps =
    record { holds = goes.holds dbase channels keeps.holds; own = goes.own keeps.own }

pub seats_keep : (g : Setup) (dbase : List BaseLine) (old new : Sites) (a b c : Option (List ℕ)) → SeatsGo old new b c → SeatsKeep g dbase old a b →
    SeatsKeep g dbase new a c
seats_keep g dbase old new a b c go keeps =
    record {
      app = app_keeps g old.app new.app a b c go.app keeps.app;
      cull = cull_keeps g old.cull new.cull go.cull keeps.cull;
      draw = draw_keeps g old.draw new.draw go.draw keeps.draw;
      dbase = dbase_keeps dbase g.channels old.dbase new.dbase go.dbase keeps.dbase;
    }

-- the same where draw lists go whole or in pieces

any_cull_keeps : (g : Setup) (old new : Site AnyCullWork) → AnyCullGoes old new → AnyCullSeatKeeps g old → AnyCullSeatKeeps g new
any_cull_keeps g old new goes keeps =
    record {
      lens = goes.lens ∙ keeps.lens;
      keeps = goes.keeps keeps.keeps;
      own = still_none old.place new.place goes.rests keeps.own;
    }

any_draw_keeps : (g : Setup) (old new : Site AnyDrawWork) → AnyDrawGoes old new → AnyDrawSeatKeeps g old → AnyDrawSeatKeeps g new
any_draw_keeps g old new goes keeps =
    record {
      lens = goes.lens ∙ keeps.lens;
      back = goes.back ∙ keeps.back;
      keeps = goes.keeps keeps.keeps;
      own = still_none old.place new.place goes.rests keeps.own;
    }

any_seats_keep : (g : Setup) (dbase : List BaseLine) (old new : AnySites) (a b c : Option (List ℕ)) → AnySeatsGo old new b c →
    AnySeatsKeep g dbase old a b → AnySeatsKeep g dbase new a c
any_seats_keep g dbase old new a b c go keeps =
    record {
      app = app_keeps g old.app new.app a b c go.app keeps.app;
      cull = any_cull_keeps g old.cull new.cull go.cull keeps.cull;
      draw = any_draw_keeps g old.draw new.draw go.draw keeps.draw;
      dbase = dbase_keeps dbase g.channels old.dbase new.dbase go.dbase keeps.dbase;
    }

way_keeps : (probe : Option Segment) (old new : Option WaySite) → IfThere WayGoes old new → IfThere WayKeeps probe old → IfThere WayKeeps probe new
way_keeps None None None goes keeps = tt
way_keeps None None (Some new) goes keeps = absurd goes
way_keeps None (Some old) new goes keeps = absurd keeps
way_keeps (Some segment) None new goes keeps = absurd keeps
way_keeps (Some segment) (Some old) None goes keeps = absurd goes
way_keeps (Some segment) (Some old) (Some new) goes keeps =
    record { segment = goes.segment ∙ keeps.segment; keeps = goes.keeps keeps.keeps }

probe_keeps : (probe : Option Segment) (old new : ProbeSite) → ProbeGoes old new → ProbeSeatKeeps probe old → ProbeSeatKeeps probe new
probe_keeps probe old new goes keeps =
    record {
      way = way_keeps probe old.way new.way goes.way keeps.way;
      own = still_none old.place new.place goes.rests keeps.own;
    }

pub all_keep : (g : Setup) (dbase : List BaseLine) (probe : Option Segment) (old new : AllSites) (a b c : Option (List ℕ)) → AllGo old new b c →
    AllKeep g dbase probe old a b → AllKeep g dbase probe new a c
all_keep g dbase probe old new a b c go keeps =
    record {
      four = any_seats_keep g dbase old.four new.four a b c go.four keeps.four;
      probe = probe_keeps probe old.probe new.probe go.probe keeps.probe;
    }
