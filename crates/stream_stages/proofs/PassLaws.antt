-- What the code keeps while it passes instances into a list.
use Rattle.std.proofs.Common.{◌≡◌, ◌∙◌, ℕ, zero, suc, ◌+◌, ◌≤◌, ◌<◌, List, [], ◌∷◌, length, Bool, true, false, Some, None, ap, sym, refl, subst, arith, rules}
use Rattle.std.specs.Prelude.{slice_get, is_some}
use Rattle.std.specs.List.Sorted.{IsPermutation, IsSortedBy}
use Rattle.std.specs.Vec.{vec_len}
use Rattle.pf_model.specs.Graphs.{Look}
use Rattle.draw_list.specs.Lists.{Drawables}
use Rattle.cull_walk.specs.Working.{Scene}
use Rattle.stream_stages.specs.declared.routes.Route.{Route}
use Rattle.stream_stages.specs.declared.routes.Sight.{Sight}
use Rattle.stream_stages.specs.declared.sightings.Sighting.{Sighting}
use Rattle.stream_stages.specs.Routes.{Walking, glass_order, stops_ahead, to_come}
use Rattle.stream_stages.specs.Sending.{sent_to}
use Rattle.stream_stages.specs.Going.{Stepped, stepped}
use Rattle.stream_stages.specs.Underway.{IsRoute, walking_of}
use Rattle.stream_stages.specs.Filled.{HasSameRoom, CanPass, Passes, CountsTests, IsOver, IsFilled, sent_to_there}
use Rattle.stream_stages.specs.Fills.{glass_turn, GoesTo}
use Rattle.stream_stages.proofs.FillTurns.{glazing, goes_nowhere, glass_next}
use Rattle.stream_stages.proofs.Stepping.{IsRoutine, IsStepped, step_goes}
use Rattle.stream_stages.proofs.Passing.{passes_none, passes_both, passes_step, passes_held, held_full, orders, passes_glass, glass_full, glass_over}
use Rattle.stream_stages.proofs.Measure.{left_to_do, step_less}
use Rattle.stream_stages.proofs.Visits.{step_counts, counts_both}
use Rattle.stream_stages.proofs.Rooms.{TakesRoom, sent_room}

counted : (r : Route) → vec_len r.way ≡ length r.way.items
counted r = search rules

pub routine_of : (a : Sight) (r : Route) → IsRoute r → IsRoutine (walking_of a r)
routine_of a r sound = record {
  levels = sound.levels;
  first = sound.zero;
  deep = omega (arith, sound.deep, counted r);
  fresh = sound.fresh;
}

pub without_held : (r : Route) → IsRoute r → IsRoute (record r { held = None })
without_held r h = record {
  levels = h.levels;
  zero = h.zero;
  deep = h.deep;
  way = h.way;
  items = h.items;
  joints = h.joints;
  few = h.few;
  glass = h.glass;
  fresh = h.fresh;
  sent = h.sent;
}

same_room : (d : Drawables) → HasSameRoom d d
same_room d = record { items = refl; joints = refl; tris = refl }

pub room_both : (d e f : Drawables) → HasSameRoom d e → HasSameRoom e f → HasSameRoom d f
room_both d e f h k = record { items = k.items ∙ h.items; joints = k.joints ∙ h.joints; tris = k.tris ∙ h.tris }

-- ---- opaque instances
pub record IsPassing (s : Scene) (most : ℕ) (a : Sight) (r q : Route) (d e : Drawables) (m n : ℕ) : Type 0 where
  pub sound : IsRoute q
  pub joint : 0 < length e.joints.lists
  pub few : length e.items.items ≤ most
  pub room : HasSameRoom d e
  pub passes : CanPass s most (walking_of a r) d → r.sent ≡ None → Passes s most (walking_of a r) (walking_of a q) d e m n
  pub sent : CanPass s most (walking_of a r) d → r.sent ≡ None → q.sent ≡ None
  pub visits : CountsTests (walking_of a r) (walking_of a q) m n

pub passing_none : (s : Scene) (most : ℕ) (a : Sight) (r : Route) (d : Drawables) (m : ℕ) → IsRoute r → 0 < length d.joints.lists → length d.items.items ≤ most → IsPassing s most a r r d d m m
passing_none s most a r d m sound joint few = record {
  sound = sound;
  joint = joint;
  few = few;
  room = same_room d;
  passes = λ can none. passes_none s most (walking_of a r) d m can;
  sent = λ can none. none;
  visits = λ few. (few, refl);
}

pub passing_held : (s : Scene) (most : ℕ) (a : Sight) (r q : Route) (d e f : Drawables) (m n : ℕ) (x : Sighting) → IsPassing s most a r q d e m n → q.held ≡ Some x → length e.items.items < most →
    f ≡ (sent_to s.look x e).list → (sent_to s.look x e).done ≡ true → IsPassing s most a r (record q { held = None }) d f m n
passing_held s most a r q d e f m n x p held few same done =
    subst (λ (g : Drawables). IsPassing s most a r (record q { held = None }) d g m n) (sym same) (record {
      sound = without_held q p.sound;
      joint = takes.first;
      few = omega (arith, takes.more, few);
      room = room_both d e (sent_to s.look x e).list p.room takes.room;
      passes = λ can none. passes_both s most (walking_of a r) (walking_of a q) (walking_of a (record q { held = None })) d e (sent_to s.look x e).list m n n (p.passes can none)
          (passes_held s most (walking_of a q) e x n (p.passes can none).next held (p.sent can none) few done);
      sent = p.sent;
      visits = p.visits;
    })
  where
    takes : TakesRoom e (sent_to s.look x e).list
    takes = sent_room s.look x e p.joint

pub passing_step : (s : Scene) (most : ℕ) (a : Sight) (r q t : Route) (d e : Drawables) (m n k : ℕ) (going : Bool) → IsPassing s most a r q d e m n → q.held ≡ None → IsRoute t →
    ◌≡◌ {A = Stepped} (record { going = going; walk = walking_of a t; tests = k }) (stepped s (walking_of a q) n) → IsPassing s most a r t d e m k
passing_step s most a r q t d e m n k going p held sound is = record {
  sound = sound;
  joint = p.joint;
  few = p.few;
  room = p.room;
  passes = λ can none.
      let q_passes : Passes s most (walking_of a r) (walking_of a q) d e m n = p.passes can none in
      passes_both s most (walking_of a r) (walking_of a q) (walking_of a t) d e e m n k q_passes
      (passes_step s most (walking_of a q) e n (record { going = going; walk = walking_of a t; tests = k }) q_passes.next (step can none));
  sent = λ can none. (step can none).sent ∙ p.sent can none;
  visits = counts_both (walking_of a r) (walking_of a q) (walking_of a t) m n k p.visits
      (subst (λ (u : Stepped). CountsTests (walking_of a q) u.walk n u.tests) (sym is) (step_counts s (walking_of a q) n));
}
  where
    step : CanPass s most (walking_of a r) d → r.sent ≡ None → IsStepped s (walking_of a q) n (record { going = going; walk = walking_of a t; tests = k })
    step can none =
        subst (IsStepped s (walking_of a q) n) (sym is)
        (step_goes s (walking_of a q) n (p.passes can none).next.underway (routine_of a q p.sound) held (p.sent can none))

-- ---- where it ends
pub passing_over : (s : Scene) (most : ℕ) (a : Sight) (r q t : Route) (d e : Drawables) (m n k : ℕ) → IsPassing s most a r q d e m n → q.held ≡ None →
    ◌≡◌ {A = Stepped} (record { going = false; walk = walking_of a t; tests = k }) (stepped s (walking_of a q) n) → CanPass s most (walking_of a r) d → r.sent ≡ None → IsOver s (walking_of a t)
passing_over s most a r q t d e m n k p held is can none =
    let step : IsStepped s (walking_of a q) n (record { going = false; walk = walking_of a t; tests = k }) =
    subst (IsStepped s (walking_of a q) n) (sym is)
    (step_goes s (walking_of a q) n (p.passes can none).next.underway (routine_of a q p.sound) held (p.sent can none)) in
    let over : (walking_of a t ≡ walking_of a q) × (stops_ahead s (walking_of a q) ≡ []) = step.over refl in
    subst (IsOver s) (sym over.0) (record { held = held; ahead = over.1 })

pub passing_full : (s : Scene) (most : ℕ) (a : Sight) (r q : Route) (d e : Drawables) (m n : ℕ) (x : Sighting) → IsPassing s most a r q d e m n → q.held ≡ Some x → length e.items.items < most →
    (sent_to s.look x e).done ≡ false → CanPass s most (walking_of a r) d → r.sent ≡ None → ((sent_to s.look x e).list ≡ e) × IsFilled s.look most e (walking_of a q)
passing_full s most a r q d e m n x p held few done can none =
    held_full s most (walking_of a q) e x (p.passes can none).next held (p.sent can none) few done

-- the list is full: nothing was passed that is not done with
pub passing_left : (s : Scene) (most : ℕ) (a : Sight) (r q : Route) (d e f : Drawables) (m n : ℕ) (x : Sighting) → IsPassing s most a r q d e m n → q.held ≡ Some x → length e.items.items < most →
    f ≡ (sent_to s.look x e).list → (sent_to s.look x e).done ≡ false → CanPass s most (walking_of a r) d → r.sent ≡ None →
    Passes s most (walking_of a r) (walking_of a q) d f m n × IsFilled s.look most f (walking_of a q)
passing_left s most a r q d e f m n x p held few list done can none =
    let full : ((sent_to s.look x e).list ≡ e) × IsFilled s.look most e (walking_of a q) = passing_full s most a r q d e m n x p held few done can none in
    let same : e ≡ f = sym (list ∙ full.0) in
    (subst (λ (g : Drawables). Passes s most (walking_of a r) (walking_of a q) d g m n) same (p.passes can none), subst (λ (g : Drawables). IsFilled s.look most g (walking_of a q)) same full.1)

pub passing_room : (s : Scene) (most : ℕ) (a : Sight) (r q : Route) (d e f : Drawables) (m n : ℕ) (x : Sighting) → IsPassing s most a r q d e m n → f ≡ (sent_to s.look x e).list → HasSameRoom d f
passing_room s most a r q d e f m n x p list = subst (HasSameRoom d) (sym list) (room_both d e (sent_to s.look x e).list p.room (sent_room s.look x e p.joint).room)

pub passing_less : (s : Scene) (a : Sight) (q t : Route) (n k : ℕ) → IsRoute q → ◌≡◌ {A = Stepped} (record { going = true; walk = walking_of a t; tests = k }) (stepped s (walking_of a q) n) →
    left_to_do s (walking_of a t) < left_to_do s (walking_of a q)
passing_less s a q t n k sound is =
    subst (λ (r : Stepped). left_to_do s r.walk < left_to_do s (walking_of a q)) (sym is)
    (step_less s (walking_of a q) n (routine_of a q sound) (sym (ap (λ (r : Stepped). r.going) is)))

-- ---- both
pub pass_from : (s : Scene) (most : ℕ) (a : Sight) (r t : Route) (k : ℕ) (d e : Drawables) (m : ℕ) → r.sent ≡ Some k →
    (CanPass s most (sent_to_there (walking_of a r) k) d → Passes s most (sent_to_there (walking_of a r) k) (walking_of a t) d e m m) →
    CanPass s most (walking_of a r) d → Passes s most (walking_of a r) (walking_of a t) d e m m
pass_from s most a r t k d e m is passes can =
    let same : walking_of a r ≡ sent_to_there (walking_of a r) k = λ i. record (walking_of a r) { sent = is i } in
    subst (λ (w : Walking). Passes s most w (walking_of a t) d e m m) (sym same) (passes (subst (λ (w : Walking). CanPass s most w d) same can))

pub can_from : (s : Scene) (most : ℕ) (a : Sight) (r : Route) (k : ℕ) (d : Drawables) → r.sent ≡ Some k → CanPass s most (walking_of a r) d → CanPass s most (sent_to_there (walking_of a r) k) d
can_from s most a r k d is can =
    let same : walking_of a r ≡ sent_to_there (walking_of a r) k = λ i. record (walking_of a r) { sent = is i } in
    subst (λ (w : Walking). CanPass s most w d) same can

-- what is passed before the glass, once it is in order
pub pass_ordered : (s : Scene) (most : ℕ) (a : Sight) (r q t : Route) (d e : Drawables) (m n : ℕ) → Passes s most (walking_of a r) (walking_of a q) d e m n → q.sent ≡ None → IsOver s (walking_of a q) →
    walking_of a t ≡ record (walking_of a q) { glass = t.glass.items } → IsPermutation q.glass.items t.glass.items → IsSortedBy glass_order t.glass.items →
    Passes s most (walking_of a r) (sent_to_there (walking_of a t) 0) d e m n
pass_ordered s most a r q t d e m n p none over is perm sorted =
    let glass : Passes s most (walking_of a q) (sent_to_there (walking_of a t) 0) e e n n =
    subst (λ (w : Walking). Passes s most (walking_of a q) (sent_to_there w 0) e e n n) (sym is) (orders s most (walking_of a q) e n t.glass.items p.next none over perm sorted) in
    passes_both s most (walking_of a r) (walking_of a q) (sent_to_there (walking_of a t) 0) d e e m n n p glass

pub nothing_ahead : (s : Scene) (most : ℕ) (w : Walking) (d : Drawables) → CanPass s most w d → is_some w.sent ≡ true → stops_ahead s w ≡ []
nothing_ahead s most w d can some = (can.underway.over some).1

-- ---- glass
pub record IsGlazing (look : Look) (most from : ℕ) (r q : Route) (d e : Drawables) (k : ℕ) : Type 0 where
  pub sound : IsRoute q
  pub same : q ≡ record r { sent = Some k }
  pub joint : 0 < length e.joints.lists
  pub few : length e.items.items ≤ most
  pub room : HasSameRoom d e
  pub turns : (a : Sight) (t : ℕ) → GoesTo (glass_turn look most) (glazing a r from d t) (glazing a r k e t)
  pub passes : (s : Scene) (a : Sight) (t : ℕ) → s.look ≡ look → CanPass s most (sent_to_there (walking_of a r) from) d → Passes s most (sent_to_there (walking_of a r) from) (sent_to_there (walking_of a r) k) d e t t

sent_route : (r : Route) (k : ℕ) → IsRoute r → k ≤ vec_len r.glass → IsRoute (record r { sent = Some k })
sent_route r k h l = record {
  levels = h.levels;
  zero = h.zero;
  deep = h.deep;
  way = h.way;
  items = h.items;
  joints = h.joints;
  few = h.few;
  glass = h.glass;
  fresh = h.fresh;
  sent = l;
}

pub glazing_none : (look : Look) (most from : ℕ) (r : Route) (d : Drawables) → IsRoute r → from ≤ vec_len r.glass → 0 < length d.joints.lists → length d.items.items ≤ most → IsGlazing look most from r (record r { sent = Some from }) d d from
glazing_none look most from r d sound place joint few = record {
  sound = sent_route r from sound place;
  same = refl;
  joint = joint;
  few = few;
  room = same_room d;
  turns = λ a t. goes_nowhere (glass_turn look most) (glazing a r from d t);
  passes = λ s a t same can. passes_none s most (sent_to_there (walking_of a r) from) d t can;
}

pub glass_counted : (r : Route) → vec_len r.glass ≡ length r.glass.items
glass_counted r = search rules

pub got_below : (xs : List Sighting) (k : ℕ) (x : Sighting) → slice_get xs k ≡ Some x → k < length xs
got_below [] k x e = absurd (cc)
got_below (y ∷ ys) zero x e = omega arith
got_below (y ∷ ys) (suc k) x e = omega (arith, got_below ys k x e)

pub glazing_next : (look : Look) (most from : ℕ) (r q t : Route) (d e f : Drawables) (k : ℕ) (x : Sighting) → IsRoute r → IsGlazing look most from r q d e k → slice_get r.glass.items k ≡ Some x → length e.items.items < most →
    f ≡ (sent_to look x e).list → (sent_to look x e).done ≡ true → t ≡ record q { sent = Some (k + 1) } → IsGlazing look most from r t d f (k + 1)
glazing_next look most from r q t d e f k x route p at few list done next = record {
  sound = subst IsRoute (sym same) (sent_route r (k + 1) route (omega (arith, glass_counted r, got_below r.glass.items k x at)));
  same = same;
  joint = subst (λ (g : Drawables). 0 < length g.joints.lists) (sym list) takes.first;
  few = subst (λ (g : Drawables). length g.items.items ≤ most) (sym list) (omega (arith, takes.more, few));
  room = subst (HasSameRoom d) (sym list) (room_both d e (sent_to look x e).list p.room takes.room);
  turns = λ a t. glass_next look most a r from k d e f t x (p.turns a t) at few list done;
  passes = λ s a t one can.
      let before : Passes s most (sent_to_there (walking_of a r) from) (sent_to_there (walking_of a r) k) d e t t = p.passes s a t one can in
      subst (λ (g : Drawables). Passes s most (sent_to_there (walking_of a r) from) (sent_to_there (walking_of a r) (k + 1)) d g t t) (ap (λ (l : Look). (sent_to l x e).list) one ∙ sym list)
      (passes_both s most (sent_to_there (walking_of a r) from) (sent_to_there (walking_of a r) k) (sent_to_there (walking_of a r) (k + 1)) d e (sent_to s.look x e).list t t t before
      (passes_glass s most (walking_of a r) e k x t before.next at few (ap (λ (l : Look). (sent_to l x e).done) one ∙ done)));
}
  where
    same : t ≡ record r { sent = Some (k + 1) }
    same = next ∙ ap (λ (u : Route). record u { sent = Some (k + 1) }) p.same

    takes : TakesRoom e (sent_to look x e).list
    takes = sent_room look x e p.joint

-- the list after an instance that is not done with
pub glazing_after : (look : Look) (most from : ℕ) (r q : Route) (d e f : Drawables) (k : ℕ) (x : Sighting) → IsGlazing look most from r q d e k → length e.items.items < most → f ≡ (sent_to look x e).list →
    HasSameRoom d f × (length f.items.items ≤ most)
glazing_after look most from r q d e f k x p few list =
    let takes : TakesRoom e (sent_to look x e).list = sent_room look x e p.joint in (
      subst (HasSameRoom d) (sym list) (room_both d e (sent_to look x e).list p.room takes.room),
      subst (λ (g : Drawables). length g.items.items ≤ most) (sym list) (omega (arith, takes.more, few)),
    )

pub glazing_full : (look : Look) (most from : ℕ) (r q : Route) (d e f : Drawables) (k : ℕ) (x : Sighting) → IsGlazing look most from r q d e k → slice_get r.glass.items k ≡ Some x → length e.items.items < most →
    f ≡ (sent_to look x e).list → (sent_to look x e).done ≡ false → (s : Scene) (a : Sight) (t : ℕ) → s.look ≡ look → CanPass s most (sent_to_there (walking_of a r) from) d →
    Passes s most (sent_to_there (walking_of a r) from) (walking_of a q) d f t t × IsFilled look most f (walking_of a q)
glazing_full look most from r q d e f k x p at few list done s a t one can =
    let before : Passes s most (sent_to_there (walking_of a r) from) (sent_to_there (walking_of a r) k) d e t t = p.passes s a t one can in
    let full : ((sent_to s.look x e).list ≡ e) × IsFilled s.look most e (sent_to_there (walking_of a r) k) =
    glass_full s most (walking_of a r) e k x before.next at few (ap (λ (l : Look). (sent_to l x e).done) one ∙ done) in
    let same : e ≡ f = sym full.0 ∙ ap (λ (l : Look). (sent_to l x e).list) one ∙ sym list in
    let there : sent_to_there (walking_of a r) k ≡ walking_of a q = ap (walking_of a) (sym p.same) in (
      subst (λ (v : Walking). Passes s most (sent_to_there (walking_of a r) from) v d f t t) there (subst (λ (g : Drawables). Passes s most (sent_to_there (walking_of a r) from) (sent_to_there (walking_of a r) k) d g t t) same before),
      subst (λ (v : Walking). IsFilled look most f v) there (subst (λ (g : Drawables). IsFilled look most g (sent_to_there (walking_of a r) k)) same (subst (λ (l : Look). IsFilled l most e (sent_to_there (walking_of a r) k)) one full.1)),
    )

pub glazing_passes : (look : Look) (most from : ℕ) (r q : Route) (d e : Drawables) (k : ℕ) → IsGlazing look most from r q d e k → (s : Scene) (a : Sight) (t : ℕ) → s.look ≡ look → CanPass s most (sent_to_there (walking_of a r) from) d →
    Passes s most (sent_to_there (walking_of a r) from) (walking_of a q) d e t t
glazing_passes look most from r q d e k p s a t one can =
    subst (λ (v : Walking). Passes s most (sent_to_there (walking_of a r) from) v d e t t) (ap (walking_of a) (sym p.same)) (p.passes s a t one can)

pub glazing_over : (look : Look) (most from : ℕ) (r q : Route) (d e : Drawables) (k : ℕ) → IsGlazing look most from r q d e k → slice_get r.glass.items k ≡ None → (s : Scene) (a : Sight) → to_come s (walking_of a q) ≡ []
glazing_over look most from r q d e k p at s a = ap (λ (u : Route). to_come s (walking_of a u)) p.same ∙ glass_over s (walking_of a r) k at
