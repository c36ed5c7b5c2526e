-- Polls after polls.
use Rattle.std.proofs.Common.{ℕ, List, [], ◌++◌, Option, None, Some, refl, sym, ap, ◌∙◌, subst, append_assoc}
use Rattle.std.proofs.lemmas.List.{append-nil}
use Rattle.std.specs.Io.KnownBytes.{append_known}
use mathlib.Core.List.{IsPrefix}
use Rattle.seat_lock.specs.Log.{Found}
use Rattle.seat_lock.proofs.Logs.{found-self, found-trans, prefix_self, prefix_trans}
use Rattle.pf_io.proofs.Known.{append_known-nil, append_known-append}
use Rattle.pf_history.specs.Logs.{Log}
use Rattle.stage_parts.specs.Frames.{AreOwnFrames}
use Rattle.stage_parts.specs.States.{Setup}
use Rattle.stage_parts.specs.Parts.{AppKeeps}
use Rattle.stage_parts.proofs.Numbers.{own_front}
use Rattle.frame_stages.specs.AppWorks.{AppWork}
use Rattle.mode_hosts.specs.Works.{AnyCullWork, AnyDrawWork}
use Rattle.mode_hosts.specs.Sites.{Place, Site, DbaseSite, WaySite, ProbeSite, CrewState, IsSameDesk, AreSameLinks, Rests, AnyCullGoes, AnyDrawGoes, DbaseGoes, WayGoes, ProbeGoes, AppWrote, AppGoes, IfThere, CrewGoes}

-- Desks and links

desk_self : (p : Place) → IsSameDesk p p
desk_self p = record { number = refl; stand = refl }

desk_on : (p q r : Place) → IsSameDesk p q → IsSameDesk q r → IsSameDesk p r
desk_on p q r first second = record { number = second.number ∙ first.number; stand = second.stand ∙ first.stand }

links_self : {X : Type 0} (x : Site X) → AreSameLinks x x
links_self x = record { take_at = refl; send_at = refl }

links_on : {X : Type 0} (x y z : Site X) → AreSameLinks x y → AreSameLinks y z → AreSameLinks x z
links_on x y z first second = record { take_at = second.take_at ∙ first.take_at; send_at = second.send_at ∙ first.send_at }

rests_self : (p : Place) → Rests p p
rests_self p = record { desk = desk_self p; found = found-self p.number p.seen }

rests_on : (p q r : Place) → Rests p q → Rests q r → Rests p r
rests_on p q r first second =
    record {
      desk = desk_on p q r first.desk second.desk;
      found = found-trans p.number p.seen q.seen r.seen first.found
          (subst (λ (k : ℕ). Found k q.seen r.seen) first.desk.number second.found);
    }

-- The stages of a crew

cull_self : (x : Site AnyCullWork) → AnyCullGoes x x
cull_self x = record { rests = rests_self x.place; links = links_self x; piece_links = refl; lens = refl; keeps = λ k. k }

cull_on : (x y z : Site AnyCullWork) → AnyCullGoes x y → AnyCullGoes y z → AnyCullGoes x z
cull_on x y z first second =
    record {
      rests = rests_on x.place y.place z.place first.rests second.rests;
      links = links_on x y z first.links second.links;
      piece_links = second.piece_links ∙ first.piece_links;
      lens = second.lens ∙ first.lens;
      keeps = λ k. second.keeps (first.keeps k);
    }

draw_self : (x : Site AnyDrawWork) → AnyDrawGoes x x
draw_self x =
    record { rests = rests_self x.place; links = links_self x; piece_links = refl; lens = refl; back = refl; keeps = λ k. k }

draw_on : (x y z : Site AnyDrawWork) → AnyDrawGoes x y → AnyDrawGoes y z → AnyDrawGoes x z
draw_on x y z first second =
    record {
      rests = rests_on x.place y.place z.place first.rests second.rests;
      links = links_on x y z first.links second.links;
      piece_links = second.piece_links ∙ first.piece_links;
      lens = second.lens ∙ first.lens;
      back = second.back ∙ first.back;
      keeps = λ k. second.keeps (first.keeps k);
    }

pub dbase_self : (x : DbaseSite) → DbaseGoes x x
dbase_self x =
    record { desk = desk_self x.place; front = prefix_self x.place.seen; own = λ o. o; holds = λ lines channels h. h }

pub dbase_on : (x y z : DbaseSite) → DbaseGoes x y → DbaseGoes y z → DbaseGoes x z
dbase_on x y z first second =
    record {
      desk = desk_on x.place y.place z.place first.desk second.desk;
      front = prefix_trans x.place.seen y.place.seen z.place.seen first.front second.front;
      own = λ o. second.own (first.own o);
      holds = λ lines channels h. second.holds lines channels (first.holds lines channels h);
    }

there_self : {X : Type 0} (G : X → X → Type 0) (x : Option X) → ((a : X) → G a a) → IfThere G x x
there_self G None self = tt
there_self G (Some a) self = self a

there_on : {X : Type 0} (G : X → X → Type 0) (x y z : Option X) → ((a b c : X) → G a b → G b c → G a c) → IfThere G x y → IfThere G y z →
    IfThere G x z
there_on G None None None on first second = tt
there_on G None None (Some c) on first second = absurd second
there_on G None (Some b) z on first second = absurd first
there_on G (Some a) None z on first second = absurd first
there_on G (Some a) (Some b) None on first second = absurd second
there_on G (Some a) (Some b) (Some c) on first second = on a b c first second

way_self : (x : WaySite) → WayGoes x x
way_self x = record { take_at = refl; send_at = refl; segment = refl; keeps = λ k. k }

way_on : (x y z : WaySite) → WayGoes x y → WayGoes y z → WayGoes x z
way_on x y z first second =
    record {
      take_at = second.take_at ∙ first.take_at;
      send_at = second.send_at ∙ first.send_at;
      segment = second.segment ∙ first.segment;
      keeps = λ k. second.keeps (first.keeps k);
    }

probe_self : (x : ProbeSite) → ProbeGoes x x
probe_self x = record { rests = rests_self x.place; way = there_self WayGoes x.way way_self }

probe_on : (x y z : ProbeSite) → ProbeGoes x y → ProbeGoes y z → ProbeGoes x z
probe_on x y z first second =
    record {
      rests = rests_on x.place y.place z.place first.rests second.rests;
      way = there_on WayGoes x.way y.way z.way way_on first.way second.way;
    }

-- a crew before its first poll
pub crew_self : (x : CrewState) → CrewGoes x x
crew_self x =
    record {
      cull = there_self AnyCullGoes x.cull cull_self;
      draw = there_self AnyDrawGoes x.draw draw_self;
      dbase = there_self DbaseGoes x.dbase dbase_self;
      probe = there_self ProbeGoes x.probe probe_self;
    }

-- a crew after polls, and further polls
pub crew_on : (x y z : CrewState) → CrewGoes x y → CrewGoes y z → CrewGoes x z
crew_on x y z first second =
    record {
      cull = there_on AnyCullGoes x.cull y.cull z.cull cull_on first.cull second.cull;
      draw = there_on AnyDrawGoes x.draw y.draw z.draw draw_on first.draw second.draw;
      dbase = there_on DbaseGoes x.dbase y.dbase z.dbase dbase_on first.dbase second.dbase;
      probe = there_on ProbeGoes x.probe y.probe z.probe probe_on first.probe second.probe;
    }

-- The application

pub app_self : (x : Site AppWork) (bytes : Option (List ℕ)) → AppGoes x x bytes bytes
app_self x bytes =
    record {
      desk = desk_self x.place;
      front = prefix_self x.place.seen;
      links = links_self x;
      own = λ o. o;
      given = λ g given. given;
      told = refl;
      keeps = λ g stream given own keeps.
          record {
            more = [];
            wrote = sym (append_known-nil bytes);
            keeps = subst (λ (s : List ℕ). AppKeeps g x.place.number x.work.state x.place.seen x.taken x.sent s) (sym (append-nil stream)) keeps;
          };
    }

front_own : (k : ℕ) (xs ys : Log) → IsPrefix xs ys → AreOwnFrames k ys → AreOwnFrames k xs
front_own k xs ys (rest, is) own = own_front k xs rest (subst (AreOwnFrames k) (sym is) own)

wrote_on : (g : Setup) (y z : Site AppWork) (a b c : Option (List ℕ)) (stream : List ℕ) (first : AppWrote g y a b stream) →
    AppWrote g z b c (stream ++ first.more) → AppWrote g z a c stream
wrote_on g y z a b c stream first second =
    record {
      more = first.more ++ second.more;
      wrote = second.wrote
          ∙ (ap (λ (known : Option (List ℕ)). append_known known second.more) first.wrote ∙ append_known-append a first.more second.more);
      keeps = subst (λ (s : List ℕ). AppKeeps g z.place.number z.work.state z.place.seen z.taken z.sent s)
          (append_assoc stream first.more second.more) second.keeps;
    }

pub app_on : (x y z : Site AppWork) (a b c : Option (List ℕ)) → AppGoes x y a b → AppGoes y z b c → AppGoes x z a c
app_on x y z a b c first second =
    record {
      desk = desk_on x.place y.place z.place first.desk second.desk;
      front = prefix_trans x.place.seen y.place.seen z.place.seen first.front second.front;
      links = links_on x y z first.links second.links;
      own = λ o. second.own (first.own o);
      given = λ g given. second.given g (first.given g given);
      told = second.told ∙ first.told;
      keeps = λ g stream given own keeps.
          let frames : AreOwnFrames y.place.number z.place.seen =
          subst (λ (k : ℕ). AreOwnFrames k z.place.seen) second.desk.number own in
          let before : AppWrote g y a b stream =
          first.keeps g stream given (front_own y.place.number y.place.seen z.place.seen second.front frames) keeps in
          wrote_on g y z a b c stream before (second.keeps g (stream ++ before.more) (first.given g given) own before.keeps);
    }
