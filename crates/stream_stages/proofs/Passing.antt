-- What is sent is taken from what is to come.
use Rattle.std.proofs.Common.{◌≡◌, ◌∙◌, ℕ, zero, suc, ◌+◌, ◌<◌, List, [], ◌∷◌, ◌++◌, length, drop, true, false, not, Option, Some, None, ap, sym, refl, subst, arith, append_assoc, inr, ⊎_elim}
use Rattle.std.specs.Prelude.{map, filter, is_some, IfSome, slice_get}
use Rattle.std.specs.List.{AllByRecursion}
use Rattle.std.specs.List.Sorted.{IsPermutation, IsSortedBy}
use Rattle.std.specs.Option.{option_map_or, option_to_list}
use Rattle.std.proofs.lemmas.List.{append-nil}
use Rattle.std.proofs.lemmas.List.Elements.{recursion_from_All, All-from_recursion}
use Rattle.std.proofs.lemmas.List.Sorted.{All-permutation, length_permutation}
use Rattle.pf_model.specs.Graphs.{Look}
use Rattle.pf_model.specs.Walks.{Instance, steps_of_view}
use Rattle.draw_list.specs.Lists.{Drawables, instances_in}
use Rattle.draw_list.specs.Order.{is_opaque, in_draw_order, state_count}
use Rattle.cull_walk.specs.Working.{Scene}
use Rattle.stream_stages.specs.declared.sightings.Sighting.{Sighting}
use Rattle.stream_stages.specs.Stops.{Stop, found_from}
use Rattle.stream_stages.specs.Routes.{Walking, sighted, glass_order, stops_ahead, found_ahead, waiting, to_come}
use Rattle.stream_stages.specs.Sending.{Sent, sent_to}
use Rattle.stream_stages.specs.Going.{Stepped}
use Rattle.stream_stages.specs.Underway.{IsSighted, IsGlassSighted, IsUnderway, FindsNoRoom, next_waiting}
use Rattle.stream_stages.specs.Filled.{IsSound, CanPass, Passes, IsOver, IsFilled, sent_to_there}
use Rattle.stream_stages.proofs.Filling.{IsSent, SendsOrNot, sends}
use Rattle.stream_stages.proofs.Ordering.{ordered}
use Rattle.stream_stages.proofs.Stepping.{IsStepped}

pub passes_none : (s : Scene) (most : ℕ) (w : Walking) (d : Drawables) (t : ℕ) → CanPass s most w d → Passes s most w w d d t t
passes_none s most w d t can = record { sent = refl; next = can; numbers = refl; counted = refl }

pub passes_both : (s : Scene) (most : ℕ) (u v w : Walking) (d e f : Drawables) (k m n : ℕ) → Passes s most u v d e k m → Passes s most v w e f m n → Passes s most u w d f k n
passes_both s most u v w d e f k m n p q = record { sent = p.sent ∙ q.sent; next = q.next; numbers = q.numbers ∙ p.numbers; counted = q.counted ∙ p.counted }

-- ---- a step
pub passes_step : (s : Scene) (most : ℕ) (w : Walking) (d : Drawables) (t : ℕ) (r : Stepped) → CanPass s most w d → IsStepped s w t r → Passes s most w r.walk d d t r.tests
passes_step s most w d t r can step = record {
  sent = ap (λ (xs : List Instance). instances_in d ++ xs) (sym step.come);
  next = record {
    underway = step.underway;
    sound = subst (λ v. IsSound s.look (steps_of_view v) d) (sym step.view) can.sound;
    items = can.items;
    joints = can.joints;
  };
  numbers = step.numbers;
  counted = step.counted;
}

-- ---- an instance that waits
sends_waiting : (s : Scene) (most : ℕ) (w : Walking) (d : Drawables) (x : Sighting) → CanPass s most w d → IsSighted s.look x → length d.items.items < most →
    SendsOrNot s.look (steps_of_view w.view) d x (sent_to s.look x d)
sends_waiting s most w d x can there few =
    sends s.look (steps_of_view w.view) d x can.sound can.underway.scene there (omega (arith, can.items, few)) (omega (arith, can.joints, few))

-- the instance goes from what is to come into the list
takes : (s : Scene) (most : ℕ) (w v : Walking) (d : Drawables) (x : Sighting) (r : Sent) (t : ℕ) → CanPass s most w d → SendsOrNot s.look (steps_of_view w.view) d x r → r.done ≡ true →
    to_come s w ≡ sighted s.look (steps_of_view w.view) x ∷ to_come s v → IsUnderway s v → v.view ≡ w.view → v.seen ≡ w.seen → v.visited ≡ w.visited → stops_ahead s v ≡ stops_ahead s w →
    Passes s most w v d r.list t t
takes s most w v d x r t can sends done come under view seen visited same = ⊎_elim sent (λ n. absurd (let no : false ≡ true = sym n.0 ∙ done in cc)) sends
  where
    sent : (r.done ≡ true) × IsSent s.look (steps_of_view w.view) d x r.list → Passes s most w v d r.list t t
    sent (ok, is) = record {
      sent =
          ap (λ (xs : List Instance). instances_in d ++ xs) come
          ∙ sym (append_assoc (instances_in d) (sighted s.look (steps_of_view w.view) x ∷ []) (to_come s v))
          ∙ ap (λ (xs : List Instance). xs ++ to_come s v) (sym is.instances);
      next = record {
        underway = under;
        sound = subst (λ e. IsSound s.look (steps_of_view e) r.list) (sym view) is.sound;
        items = omega (arith, can.items, is.items);
        joints = omega (arith, can.joints, is.spent, is.more);
      };
      numbers = λ i. record {
        shown = length (seen i).items.items + length (found_from (length (seen i).items.items) s (same i));
        states = state_count (instances_in (seen i) ++ found_from (length (seen i).items.items) s (same i));
        visited = visited i + length (same i);
      };
      counted = ap (λ (os : List Stop). t + length os) same;
    }

held_there : (look : Look) (w : Walking) (x : Sighting) → IfSome w.held (λ y. IsSighted look y × (is_some y.tint ≡ false)) → w.held ≡ Some x → IsSighted look x
held_there look w x h e = let there : IfSome (Some x) (λ y. IsSighted look y × (is_some y.tint ≡ false)) = subst (λ (o : Option Sighting). IfSome o (λ y. IsSighted look y × (is_some y.tint ≡ false))) e h in there.0

abbrev without_held : Walking → Walking
without_held w = record w { held = None }

-- the opaque instance that waits
pub passes_held : (s : Scene) (most : ℕ) (w : Walking) (d : Drawables) (x : Sighting) (t : ℕ) → CanPass s most w d → w.held ≡ Some x → w.sent ≡ None → length d.items.items < most → (sent_to s.look x d).done ≡ true →
    Passes s most w (without_held w) d (sent_to s.look x d).list t t
passes_held s most w d x t can held none few done =
    takes s most w (without_held w) d x (sent_to s.look x d) t can (sends_waiting s most w d x can (held_there s.look w x can.underway.held held) few) done come under refl refl refl refl
  where
    abbrev_come : Option ℕ → Option Sighting → List Instance
    abbrev_come o h = option_map_or (λ k. waiting s.look w (drop k w.glass)) o
        (waiting s.look w (option_to_list h) ++ filter is_opaque (found_ahead s w) ++ in_draw_order (waiting s.look w w.glass ++ filter (λ y. not (is_opaque y)) (found_ahead s w)))

    come : to_come s w ≡ sighted s.look (steps_of_view w.view) x ∷ to_come s (without_held w)
    come = (λ i. abbrev_come (none i) (held i)) ∙ ap (λ (xs : List Instance). sighted s.look (steps_of_view w.view) x ∷ xs) (λ i. abbrev_come (sym none i) None)

    u : IsUnderway s w
    u = can.underway

    under : IsUnderway s (without_held w)
    under = record {
      scene = u.scene;
      time = u.time;
      lens = u.lens;
      zero = u.zero;
      way = u.way;
      items = u.items;
      joints = u.joints;
      room = u.room;
      held = tt;
      glass = u.glass;
      rising = u.rising;
      passed = u.passed;
      over = λ e. (refl, (u.over e).1);
    }

-- where it is not done with, the list is full
pub held_full : (s : Scene) (most : ℕ) (w : Walking) (d : Drawables) (x : Sighting) → CanPass s most w d → w.held ≡ Some x → w.sent ≡ None → length d.items.items < most → (sent_to s.look x d).done ≡ false →
    ((sent_to s.look x d).list ≡ d) × IsFilled s.look most d w
held_full s most w d x can held none few not_done =
    ⊎_elim (λ y. absurd (let no : false ≡ true = sym not_done ∙ y.0 in cc)) full (sends_waiting s most w d x can (held_there s.look w x can.underway.held held) few)
  where
    next : next_waiting w ≡ Some x
    next = (λ i. option_map_or (λ k. slice_get w.glass k) (none i) w.held) ∙ held

    full : ((sent_to s.look x d).done ≡ false) × ((sent_to s.look x d).list ≡ d) × (0 < length d.items.items) × FindsNoRoom s.look x d.kept → ((sent_to s.look x d).list ≡ d) × IsFilled s.look most d w
    full (left, same, some, crowded) = (same, inr (some, subst (λ (o : Option Sighting). IfSome o (λ y. FindsNoRoom s.look y d.kept)) (sym next) crowded, ap is_some next))

-- ---- the glass in order
abbrev pub in_order : Walking → List Sighting → ℕ → Walking
in_order w ys k = record w { glass = ys; sent = Some k }

pub orders : (s : Scene) (most : ℕ) (w : Walking) (d : Drawables) (t : ℕ) (ys : List Sighting) → CanPass s most w d → w.sent ≡ None → IsOver s w → IsPermutation w.glass ys → IsSortedBy glass_order ys →
    Passes s most w (in_order w ys 0) d d t t
orders s most w d t ys can none over perm sorted = record {
  sent = ap (λ (xs : List Instance). instances_in d ++ xs) come;
  next = record { underway = under; sound = can.sound; items = can.items; joints = can.joints };
  numbers = refl;
  counted = refl;
}
  where
    u : IsUnderway s w
    u = can.underway

    nothing : found_ahead s w ≡ []
    nothing = ap (found_from (length w.seen.items.items) s) over.ahead

    come : to_come s w ≡ map (sighted s.look (steps_of_view w.view)) ys
    come =
        (λ i. option_map_or (λ k. waiting s.look w (drop k w.glass)) (none i)
        (waiting s.look w (option_to_list (over.held i)) ++ filter is_opaque (nothing i) ++ in_draw_order (waiting s.look w w.glass ++ filter (λ y. not (is_opaque y)) (nothing i))))
        ∙ ap in_draw_order (append-nil (waiting s.look w w.glass))
        ∙ sym (ordered s.look (steps_of_view w.view) (length w.seen.items.items) w.glass ys u.glass (u.rising none) perm sorted)

    P : Sighting → Type 0
    P = IsGlassSighted s.look (length w.seen.items.items)

    under : IsUnderway s (in_order w ys 0)
    under = record {
      scene = u.scene;
      time = u.time;
      lens = u.lens;
      zero = u.zero;
      way = u.way;
      items = u.items;
      joints = u.joints;
      room = omega (arith, u.room, length_permutation w.glass ys perm);
      held = u.held;
      glass = recursion_from_All P ys (All-permutation P w.glass ys perm (All-from_recursion P w.glass u.glass));
      rising = λ e. absurd (let no : Some 0 ≡ None = e in cc);
      passed = u.passed;
      over = λ e. (over.held, over.ahead);
    }

dropped : (xs : List Sighting) (k : ℕ) (x : Sighting) → slice_get xs k ≡ Some x → drop k xs ≡ x ∷ drop (suc k) xs
dropped [] k x e = absurd (cc)
dropped (y ∷ ys) zero x e = let same : y ≡ x = ap (λ (o : Option Sighting). option_map_or (λ z. z) o y) e in ap (λ (z : Sighting). z ∷ ys) same
dropped (y ∷ ys) (suc k) x e = dropped ys k x e

dropped_all : (xs : List Sighting) (k : ℕ) → slice_get xs k ≡ None → drop k xs ≡ []
dropped_all [] zero e = refl
dropped_all [] (suc k) e = refl
dropped_all (y ∷ ys) zero e = absurd (cc)
dropped_all (y ∷ ys) (suc k) e = dropped_all ys k e

glass_there : (look : Look) (n : ℕ) (xs : List Sighting) (k : ℕ) (x : Sighting) → AllByRecursion (IsGlassSighted look n) xs → slice_get xs k ≡ Some x → IsSighted look x
glass_there look n [] k x h e = absurd (cc)
glass_there look n (y ∷ ys) zero x h e = let same : y ≡ x = ap (λ (o : Option Sighting). option_map_or (λ z. z) o y) e in subst (IsSighted look) same h.0.there
glass_there look n (y ∷ ys) (suc k) x h e = glass_there look n ys k x h.1 e

-- the next of the glass
pub passes_glass : (s : Scene) (most : ℕ) (w : Walking) (d : Drawables) (k : ℕ) (x : Sighting) (t : ℕ) → CanPass s most (sent_to_there w k) d → slice_get w.glass k ≡ Some x → length d.items.items < most → (sent_to s.look x d).done ≡ true →
    Passes s most (sent_to_there w k) (sent_to_there w (k + 1)) d (sent_to s.look x d).list t t
passes_glass s most w d k x t can at few done =
    takes s most (sent_to_there w k) (sent_to_there w (k + 1)) d x (sent_to s.look x d) t can
    (sends_waiting s most (sent_to_there w k) d x can (glass_there s.look (length w.seen.items.items) w.glass k x can.underway.glass at) few) done come under refl refl refl refl
  where
    u : IsUnderway s (sent_to_there w k)
    u = can.underway

    one : suc k ≡ k + 1
    one = omega arith

    come : to_come s (sent_to_there w k) ≡ sighted s.look (steps_of_view w.view) x ∷ to_come s (sent_to_there w (k + 1))
    come = ap (waiting s.look w) (dropped w.glass k x at) ∙ ap (λ (n : ℕ). sighted s.look (steps_of_view w.view) x ∷ waiting s.look w (drop n w.glass)) one

    under : IsUnderway s (sent_to_there w (k + 1))
    under = record {
      scene = u.scene;
      time = u.time;
      lens = u.lens;
      zero = u.zero;
      way = u.way;
      items = u.items;
      joints = u.joints;
      room = u.room;
      held = u.held;
      glass = u.glass;
      rising = λ e. absurd (let no : Some (k + 1) ≡ None = e in cc);
      passed = u.passed;
      over = λ e. u.over refl;
    }

pub glass_full : (s : Scene) (most : ℕ) (w : Walking) (d : Drawables) (k : ℕ) (x : Sighting) → CanPass s most (sent_to_there w k) d → slice_get w.glass k ≡ Some x → length d.items.items < most → (sent_to s.look x d).done ≡ false →
    ((sent_to s.look x d).list ≡ d) × IsFilled s.look most d (sent_to_there w k)
glass_full s most w d k x can at few not_done =
    ⊎_elim (λ y. absurd (let no : false ≡ true = sym not_done ∙ y.0 in cc)) full
    (sends_waiting s most (sent_to_there w k) d x can (glass_there s.look (length w.seen.items.items) w.glass k x can.underway.glass at) few)
  where
    full : ((sent_to s.look x d).done ≡ false) × ((sent_to s.look x d).list ≡ d) × (0 < length d.items.items) × FindsNoRoom s.look x d.kept → ((sent_to s.look x d).list ≡ d) × IsFilled s.look most d (sent_to_there w k)
    full (left, same, some, crowded) = (same, inr (some, subst (λ (o : Option Sighting). IfSome o (λ y. FindsNoRoom s.look y d.kept)) (sym at) crowded, ap is_some at))

pub glass_over : (s : Scene) (w : Walking) (k : ℕ) → slice_get w.glass k ≡ None → to_come s (sent_to_there w k) ≡ []
glass_over s w k e = ap (waiting s.look w) (dropped_all w.glass k e)
