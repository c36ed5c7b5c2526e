-- Seats of which APP and DBASE are given more, and stand where they stood.
use Rattle.std.proofs.Common.{◌≡◌, ℕ, ◌≤◌, List, [], ◌∷◌, Option, refl, sym, arith}
use Rattle.atomic_table.specs.Seated.{TableId}
use Rattle.pf_model.specs.declared.lines.AppLine.{AppLine}
use Rattle.pf_model.specs.declared.lines.BaseLine.{BaseLine}
use Rattle.pf_history.specs.declared.commands.Command.{Command}
use Rattle.pf_history.specs.declared.commands.Command.TheVariants as command
use Rattle.pf_history.specs.Objects.{FrameState}
use Rattle.pf_history.specs.Logs.{Log}
use Rattle.pf_history.specs.Asks.{Wanted, WantEdit, WantView, WantSync, WantFrame, WantClose, Ask, Turn, Meets, Follows}
use Rattle.nearest_hit.specs.declared.segment.Segment.{Segment}
use Rattle.stage_parts.specs.declared.packets.Packet.{Packet}
use Rattle.stage_parts.specs.States.{Setup, AppState}
use Rattle.stage_parts.specs.Parts.{AppKeeps}
use Rattle.frame_stages.specs.AppWorks.{AppWork, IsGiven}
use Rattle.frame_stages.specs.DbaseWorks.{DbaseWork}
use Rattle.mode_hosts.specs.Sites.{Site, AppWrote}
use Rattle.mode_hosts.specs.Gathering.{AppSeatKeeps, DbaseSeatKeeps}
use Rattle.mode_hosts.specs.Probes.{AllSites, AreAllTogether, AllKeep, AllCameHome, with_merges}

-- these seats, of which APP and DBASE are so
abbrev pub given_seats : AppWork → DbaseWork → AllSites → AllSites
given_seats w d s =
    record s {
      four = record s.four {
        app = record s.four.app { work = w };
        dbase = record s.four.dbase { work = d };
      };
    }

-- desks and links stay
pub together_given : (w : AppWork) (d : DbaseWork) (lock : TableId) (s : AllSites) → AreAllTogether lock s → AreAllTogether lock (given_seats w d s)
together_given w d lock s is =
    record {
      desks = record {
        app = is.desks.app;
        cull = is.desks.cull;
        draw = is.desks.draw;
        dbase = is.desks.dbase;
        seats = is.desks.seats;
      };
      probe = is.probe;
      a = is.a;
      b = is.b;
      c = is.c;
      pieces = is.pieces;
    }

pub together_merges : (n : ℕ) (lock : TableId) (s : AllSites) → AreAllTogether lock s → AreAllTogether lock (with_merges n s)
together_merges n lock s is = together_given (record s.four.app.work { merges = n }) s.four.dbase.work lock s is

pub home_merges : (n : ℕ) (s : AllSites) (log : Log) → AllCameHome s log → AllCameHome (with_merges n s) log
home_merges n s log home =
    record {
      legal = home.legal;
      within = home.within;
      app = home.app;
      cull = home.cull;
      draw = home.draw;
      dbase = home.dbase;
      probe = home.probe;
      link_a = home.link_a;
      link_b = home.link_b;
      link_c = home.link_c;
      pieces = home.pieces;
    }

-- The application's seat

-- where it keeps its part of what it was given
pub app_seat_given : (g g' : Setup) (s : Site AppWork) (w : AppWork) (a b : Option (List ℕ)) → IsGiven g' w →
    ((seat : ℕ) (log : Log) (taken sent : List Packet) (stream : List ℕ) → AppKeeps g seat s.work.state log taken sent stream →
    AppKeeps g' seat w.state log taken sent stream) →
    AppSeatKeeps g s a b → AppSeatKeeps g' (record s { work = w }) a b
app_seat_given g g' s w a b given longer keeps =
    record {
      given = given;
      part = λ frames.
          let old : AppWrote g s a b [] = keeps.part frames in
          record {
            more = old.more;
            wrote = old.wrote;
            keeps = longer s.place.number s.place.seen s.taken s.sent old.more old.keeps;
          };
      own = keeps.own;
    }

-- what all seats keep, where those of APP and DBASE keep theirs of a longer play
pub all_given : (g : Setup) (ls : List AppLine) (n : ℕ) (lines lines' : List BaseLine) (asked : Option Segment) (s : AllSites) (w : AppWork)
    (d : DbaseWork) (a b : Option (List ℕ)) → AllKeep g lines asked s a b →
    AppSeatKeeps (record g { lines = ls; merges = n }) (record s.four.app { work = w }) a b →
    DbaseSeatKeeps lines' g.channels (record s.four.dbase { work = d }) →
    AllKeep (record g { lines = ls; merges = n }) lines' asked (given_seats w d s) a b
all_given g ls n lines lines' asked s w d a b keeps app dbase =
    let cull = keeps.four.cull in
    let draw = keeps.four.draw in
    record {
      four = record {
        app = app;
        cull = record { lens = cull.lens; keeps = cull.keeps; own = cull.own };
        draw = record { lens = draw.lens; back = draw.back; keeps = draw.keeps; own = draw.own };
        dbase = dbase;
      };
      probe = keeps.probe;
    }

-- Fewer merges

met : (ahead more less : ℕ) (w : Wanted) (s : FrameState) (c : Command) → less ≤ more → Meets ahead more w s c → Meets ahead less w s c
met ahead more less (WantEdit e) s c few h = h
met ahead more less (WantView channel v) s c few h = h
met ahead more less WantSync s (command.Sync r) few h = h
met ahead more less WantSync s (command.Edit e) few h = absurd h
met ahead more less WantSync s (command.Merge m) few h = absurd h
met ahead more less WantSync s (command.View channel v) few h = absurd h
met ahead more less WantSync s command.Frame few h = absurd h
met ahead more less WantFrame s command.Frame few h = h
met ahead more less WantFrame s (command.Sync r) few h = absurd h
met ahead more less WantFrame s (command.Edit e) few h = absurd h
met ahead more less WantFrame s (command.Merge m) few h = absurd h
met ahead more less WantFrame s (command.View channel v) few h = absurd h
met ahead more less WantClose s (command.Sync r) few h = let enough = h.1 in (h.0, omega (arith, few, enough))
met ahead more less WantClose s (command.Edit e) few h = absurd h
met ahead more less WantClose s (command.Merge m) few h = absurd h
met ahead more less WantClose s (command.View channel v) few h = absurd h
met ahead more less WantClose s command.Frame few h = absurd h

-- what follows the asks of a play follows them where it has fewer merges
follows_fewer : (ahead more less : ℕ) (asks : List Ask) (ts : List Turn) (left : List Ask) → less ≤ more → Follows ahead more asks ts left →
    Follows ahead less asks ts left
follows_fewer ahead more less asks [] left few h = h
follows_fewer ahead more less [] (t ∷ ts) left few h = absurd h
follows_fewer ahead more less (a ∷ asks) (t ∷ ts) left few h =
    (met ahead more less a.wanted t.found t.made few h.0, h.1, follows_fewer ahead more less asks ts left few h.2)

app_fewer : (g : Setup) (n seat : ℕ) (a : AppState) (log : Log) (taken sent : List Packet) (stream : List ℕ) → n ≤ g.merges →
    AppKeeps g seat a log taken sent stream → AppKeeps (record g { merges = n }) seat a log taken sent stream
app_fewer g n seat a log taken sent stream few keeps =
    let part = keeps.part in
    let streams = keeps.streams in
    record {
      follows = follows_fewer g.ahead g.merges n _ _ _ few keeps.follows;
      part = record {
        cuts = part.cuts;
        ends = part.ends;
        ready = part.ready;
        ended = part.ended;
        frames = part.frames;
        few = part.few;
        fresh = part.fresh;
        late = part.late;
      };
      streams = record {
        bytes = streams.bytes;
        all = streams.all;
        retired = streams.retired;
        begun = streams.begun;
        in_flight = streams.in_flight;
        numbers = streams.numbers;
      };
      loads = record { all = keeps.loads.all };
    }

given_fewer : (g : Setup) (n : ℕ) (w : AppWork) → IsGiven g w → IsGiven (record g { merges = n }) (record w { merges = n })
given_fewer g n w given =
    record {
      within = given.within;
      rest = given.rest;
      merges = refl;
      lens = given.lens;
      back = given.back;
      ahead = given.ahead;
      channels = given.channels;
      stands = given.stands;
    }

-- what all seats keep of an application that waits for more merges than the play has, they keep of one that waits for these
pub all_fewer : (g : Setup) (n : ℕ) (lines : List BaseLine) (asked : Option Segment) (s : AllSites) (a b : Option (List ℕ)) → n ≤ g.merges →
    AllKeep g lines asked s a b → AllKeep (record g { merges = n }) lines asked (with_merges n s) a b
all_fewer g n lines asked s a b few keeps =
    let app = keeps.four.app in
    all_given g g.lines n lines lines asked s (record s.four.app.work { merges = n }) s.four.dbase.work a b keeps
    (app_seat_given g (record g { merges = n }) s.four.app (record s.four.app.work { merges = n }) a b
    (given_fewer g n s.four.app.work app.given)
    (λ seat log taken sent stream. app_fewer g n seat s.four.app.work.state log taken sent stream few) app)
    keeps.four.dbase

-- what it was given is of a play of as many merges as it waits for
pub given_as : (g : Setup) (n : ℕ) (w : AppWork) → n ≡ w.merges → IsGiven g w → IsGiven (record g { merges = n }) w
given_as g n w is given =
    record {
      within = given.within;
      rest = given.rest;
      merges = sym is;
      lens = given.lens;
      back = given.back;
      ahead = given.ahead;
      channels = given.channels;
      stands = given.stands;
    }
