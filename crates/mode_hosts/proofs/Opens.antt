-- What the seats keep before the first step.
use Rattle.std.proofs.Common.{◌≡◌, ℕ, List, [], length, Option, Result, Ok, IfOk, refl, sym, subst, arith}
use Rattle.atomic_table.specs.Seated.{TableId}
use Rattle.pf_io.proofs.Known.{append_known-nil}
use Rattle.pf_model.specs.declared.lines.BaseLine.{BaseLine}
use Rattle.pf_history.specs.Asks.{asked_dbase}
use Rattle.fx_math.specs.declared.lenses.Lens.{Lens}
use Rattle.stage_parts.specs.declared.packets.Packet.{Packet}
use Rattle.stage_parts.specs.Loads.{LoadState}
use Rattle.stage_parts.specs.States.{Setup}
use Rattle.stage_parts.specs.Parts.{DrawPart}
use Rattle.stage_parts.specs.DbaseSteps.{opening_draw}
use Rattle.stage_parts.proofs.DbaseSteps.{opening_law}
use Rattle.frame_stages.specs.AppWorks as app
use Rattle.frame_stages.specs.AppWorks.{AppWork}
use Rattle.frame_stages.specs.DbaseWorks as base
use Rattle.frame_stages.specs.DbaseWorks.{DbaseHolds}
use Rattle.nearest_hit.specs.declared.segment.Segment.{Segment}
use Rattle.seat_lock.specs.Log.{of}
use Rattle.mode_hosts.specs.Sites.{Place, Site, DbaseSite, ProbeSite, IfThere}
use Rattle.mode_hosts.specs.Probes.{WayKeeps, ProbeSeatKeeps}
use Rattle.mode_hosts.specs.Works.{KeepsCull, KeepsDraw}
use Rattle.mode_hosts.specs.Deals.{app_view, cull_view, draw_view, dbase_view, probe_view, stands_at, AreNewWorks}
use Rattle.mode_hosts.specs.Gathering.{own_seats, AppSeatKeeps, DbaseSeatKeeps}
use Rattle.mode_hosts.specs.AnySeats.{AnySites, AnyCullSeatKeeps, AnyDrawSeatKeeps, AnySeatsKeep}

-- What the four seats are before the first step.
pub record AreNew (g : Setup) (lines : List BaseLine) (lock : TableId) (s : AnySites) : Type 0 where
  pub app_work : s.app.work ≡ app.opening_work g s.app.work.state.spare
  pub loads : length s.app.work.state.spare ≡ g.ahead
  pub limit : Option ℕ
  pub works : AreNewWorks g.lens g.back limit s.cull.work s.draw.work
  pub dbase_work : s.dbase.work ≡ base.opening_work lines
  pub holds : DbaseHolds lines g.channels 3 (base.opening_work lines) []
  pub app_place : s.app.place ≡ stands_at lock app_view
  pub cull_place : s.cull.place ≡ stands_at lock cull_view
  pub draw_place : s.draw.place ≡ stands_at lock draw_view
  pub dbase_place : s.dbase.place ≡ stands_at lock dbase_view
  pub app_sent : s.app.sent ≡ []
  pub app_taken : s.app.taken ≡ []
  pub cull_sent : s.cull.sent ≡ []
  pub cull_taken : s.cull.taken ≡ []
  pub draw_sent : s.draw.sent ≡ []
  pub draw_taken : s.draw.taken ≡ []

-- One seat

-- the application's seat before the first step, with these loads in hand
abbrev new_app : Setup → TableId → List LoadState → Site AppWork → Site AppWork
new_app g lock loads s =
    record {
      work = app.opening_work g loads;
      place = stands_at lock app_view;
      take_at = s.take_at;
      send_at = s.send_at;
      taken = [];
      sent = [];
    }

app_opens : (g : Setup) (dbase : List BaseLine) (lock : TableId) (loads : List LoadState) (s : Site AppWork) (bytes : Option (List ℕ)) →
    g.merges ≡ length (asked_dbase dbase) → length loads ≡ g.ahead → AppSeatKeeps g (new_app g lock loads s) bytes bytes
app_opens g dbase lock loads s bytes merges all =
    let old = opening_law g dbase own_seats loads merges all in
    record {
      given = record { rest = refl; within = omega arith; merges = refl; lens = refl; back = refl; ahead = refl; channels = refl; stands = refl };
      part = λ frames. record { more = []; wrote = sym (append_known-nil bytes); keeps = old.app };
      own = tt;
    }

app_new : (g : Setup) (dbase : List BaseLine) (lock : TableId) (s : AnySites) (bytes : Option (List ℕ)) → g.merges ≡ length (asked_dbase dbase) →
    AreNew g dbase lock s → AppSeatKeeps g s.app bytes bytes
app_new g dbase lock s bytes merges is =
    let path : new_app g lock s.app.work.state.spare s.app ≡ s.app =
    λ i.
    record {
      work = (sym is.app_work) i;
      place = (sym is.app_place) i;
      take_at = s.app.take_at;
      send_at = s.app.send_at;
      taken = (sym is.app_taken) i;
      sent = (sym is.app_sent) i;
    } in
    subst (λ (x : Site AppWork). AppSeatKeeps g x bytes bytes) path (app_opens g dbase lock s.app.work.state.spare s.app bytes merges is.loads)

-- a desk that has seen nothing has no entries
none_seen : (p q : Place) → p ≡ q → of q.number q.seen ≡ [] → of p.number p.seen ≡ []
none_seen p q is none = subst (λ (x : Place). of x.number x.seen ≡ []) (sym is) none

cull_new : (g : Setup) (dbase : List BaseLine) (lock : TableId) (s : AnySites) → AreNew g dbase lock s → AnyCullSeatKeeps g s.cull
cull_new g dbase lock s is =
    record {
      lens = is.works.cull_given;
      keeps = subst (λ (ps : List Packet). KeepsCull s.cull.work s.cull.taken ps) (sym is.cull_sent)
          (subst (λ (ps : List Packet). KeepsCull s.cull.work ps []) (sym is.cull_taken) is.works.cull_keeps);
      own = none_seen s.cull.place (stands_at lock cull_view) is.cull_place refl;
    }

draw_new : (g : Setup) (dbase : List BaseLine) (lock : TableId) (s : AnySites) → AreNew g dbase lock s → AnyDrawSeatKeeps g s.draw
draw_new g dbase lock s is =
    record {
      lens = is.works.draw_given;
      back = is.works.background;
      keeps = subst (λ (ps : List Packet). KeepsDraw s.draw.work s.draw.taken ps) (sym is.draw_sent)
          (subst (λ (ps : List Packet). KeepsDraw s.draw.work ps []) (sym is.draw_taken) is.works.draw_keeps);
      own = none_seen s.draw.place (stands_at lock draw_view) is.draw_place refl;
    }

abbrev new_dbase : List BaseLine → TableId → DbaseSite
new_dbase dbase lock = record { work = base.opening_work dbase; place = stands_at lock dbase_view }

dbase_new : (g : Setup) (dbase : List BaseLine) (lock : TableId) (s : AnySites) → AreNew g dbase lock s → DbaseSeatKeeps dbase g.channels s.dbase
dbase_new g dbase lock s is =
    let path : new_dbase dbase lock ≡ s.dbase = λ i. record { work = (sym is.dbase_work) i; place = (sym is.dbase_place) i } in
    subst (DbaseSeatKeeps dbase g.channels) path (record { holds = is.holds; own = tt })

pub new_keeps : (g : Setup) (dbase : List BaseLine) (lock : TableId) (s : AnySites) (bytes : Option (List ℕ)) →
    g.merges ≡ length (asked_dbase dbase) → AreNew g dbase lock s → AnySeatsKeep g dbase s bytes bytes
new_keeps g dbase lock s bytes merges is =
    record {
      app = app_new g dbase lock s bytes merges is;
      cull = cull_new g dbase lock s is;
      draw = draw_new g dbase lock s is;
      dbase = dbase_new g dbase lock s is;
    }

-- the probe's seat
pub probe_new : (probe : Option Segment) (lock : TableId) (s : ProbeSite) → IfThere WayKeeps probe s.way → s.place ≡ stands_at lock probe_view →
    ProbeSeatKeeps probe s
probe_new probe lock s keeps place =
    record { way = keeps; own = none_seen s.place (stands_at lock probe_view) place refl }

-- CULL and DRAW

-- DRAW of whole lists before the first step
pub whole_draw_new : (lens : Lens) (back : List ℕ) → DrawPart lens back opening_draw [] []
whole_draw_new lens back =
    (opening_law (record { lines = []; merges = 0; lens = lens; back = back; ahead = 0; channels = 0 }) [] own_seats [] refl refl).draw

-- What was made

-- a fact of what was made
pub of_ok : {A E : Type 0} (P : A → Type 0) {r : Result A E} {x : A} → r ≡ Ok x → IfOk r P → P x
of_ok P is holds = subst (λ s. IfOk s P) is holds

-- what was made is one thing
pub one_ok : {A E : Type 0} {r : Result A E} {x y : A} → r ≡ Ok x → r ≡ Ok y → x ≡ y
one_ok is was = cc (is, was)
