-- A fill, one turn after the other.
use Rattle.std.proofs.Common.{◌≡◌, ◌∙◌, ℕ, zero, suc, ◌+◌, ◌≤◌, ◌<◌, List, [], ◌∷◌, length, Bool, true, false, Option, Some, None, inl, inr, ap, sym, refl, subst, arith}
use Rattle.std.specs.Prelude.{slice_get, nat_lt, if◌then◌else◌}
use Rattle.std.specs.Option.{option_map_or, option_and_then}
use Rattle.std.specs.List.Sorted.{IsPermutation, IsSortedBy}
use Rattle.std.proofs.lemmas.Bool.Decides.{nat_tests}
use Rattle.fx_math.specs.Plain.{Bounds}
use Rattle.pf_model.specs.Graphs.{Look}
use Rattle.draw_list.specs.Lists.{Drawables}
use Rattle.cull_walk.specs.Working.{Scene, emptied}
use Rattle.stream_stages.specs.declared.routes.Route.{Route}
use Rattle.stream_stages.specs.declared.routes.Sight.{Sight}
use Rattle.stream_stages.specs.declared.sightings.Sighting.{Sighting}
use Rattle.stream_stages.specs.Routes.{Walking, glass_order, scene_of}
use Rattle.stream_stages.specs.Sending.{Sent, sent_to}
use Rattle.stream_stages.specs.Going.{Stepped, stepped}
use Rattle.stream_stages.specs.Underway.{walking_of, sight_of}
use Rattle.stream_stages.specs.Filled.{sent_to_there}
use Rattle.stream_stages.specs.Fills.{Filling, Turned, after_sent, after_step, unless_full, walk_turn, glass_turn, gone_on, after_turns, GoesTo, EndsIn, IsInOrder, FillsWithGlass, FillsFrom, Fills, filling_anew}

-- what the code has in hand
abbrev pub in_hand : Sight → Route → Drawables → ℕ → Filling
in_hand a r d tests = record { walk = walking_of a r; list = d; tests = tests }

-- ---- turn after turn
pub goes_nowhere : (turn : Filling → Turned) (f : Filling) → GoesTo turn f f
goes_nowhere turn f = record { turns = 0; gone = refl }

pub goes_further : (turn : Filling → Turned) (f e d : Filling) → GoesTo turn f e → turn e ≡ record { ended = None; filling = d } → GoesTo turn f d
goes_further turn f e d g t = record {
  turns = suc g.turns;
  gone = ap (option_and_then (λ c. gone_on (turn c))) g.gone ∙ ap gone_on t;
}

-- ---- room for an item
less : (m n : ℕ) → m < n → nat_lt m n ≡ true
less m n h = grind (arith, nat_tests)

not_less : (m n : ℕ) → n ≤ m → nat_lt m n ≡ false
not_less m n h = grind (arith, nat_tests)

pub has_room : (most : ℕ) (f : Filling) (t : Turned) → length f.list.items.items < most → unless_full most f t ≡ t
has_room most f t few = ap (λ (b : Bool). if b then t else record { ended = Some false; filling = f }) (less (length f.list.items.items) most few)

pub is_full : (most : ℕ) (f : Filling) (t : Turned) → most ≤ length f.list.items.items → unless_full most f t ≡ record { ended = Some false; filling = f }
is_full most f t full = ap (λ (b : Bool). if b then t else record { ended = Some false; filling = f }) (not_less (length f.list.items.items) most full)

-- ---- an instance that waits
sent_on : (t : Sent) (next : Walking) (f : Filling) (d : Drawables) → d ≡ t.list → t.done ≡ true → after_sent t next f ≡ record { ended = None; filling = record { walk = next; list = d; tests = f.tests } }
sent_on t next f d list done =
    ap (λ (b : Bool). if b then after_sent (record t { done = true }) next f else after_sent (record t { done = false }) next f) done
    ∙ ap (λ (e : Drawables). record { ended = None; filling = record { walk = next; list = e; tests = f.tests } }) (sym list)

not_sent : (t : Sent) (next : Walking) (f : Filling) (d : Drawables) → d ≡ t.list → t.done ≡ false → after_sent t next f ≡ record { ended = Some false; filling = record { walk = f.walk; list = d; tests = f.tests } }
not_sent t next f d list done =
    ap (λ (b : Bool). if b then after_sent (record t { done = true }) next f else after_sent (record t { done = false }) next f) done
    ∙ ap (λ (e : Drawables). record { ended = Some false; filling = record { walk = f.walk; list = e; tests = f.tests } }) (sym list)

-- ---- while the scene is walked through
module _ (s : Scene) (most : ℕ) (a : Sight) where
  held_turn : (q : Route) (e : Drawables) (n : ℕ) (x : Sighting) → q.held ≡ Some x → length e.items.items < most →
      walk_turn s most (in_hand a q e n) ≡ after_sent (sent_to s.look x e) (walking_of a (record q { held = None })) (in_hand a q e n)
  held_turn q e n x held few =
      has_room most (in_hand a q e n) _ few
      ∙ ap (λ (o : Option Sighting). option_map_or (λ y. after_sent (sent_to s.look y e) (walking_of a (record q { held = None })) (in_hand a q e n)) o
      (after_step (stepped s (walking_of a q) n) (in_hand a q e n))) held

  pub walk_held : (r q : Route) (d e g : Drawables) (m n : ℕ) (x : Sighting) → GoesTo (walk_turn s most) (in_hand a r d m) (in_hand a q e n) → q.held ≡ Some x → length e.items.items < most →
      g ≡ (sent_to s.look x e).list → (sent_to s.look x e).done ≡ true → GoesTo (walk_turn s most) (in_hand a r d m) (in_hand a (record q { held = None }) g n)
  walk_held r q d e g m n x goes held few list done =
      goes_further (walk_turn s most) (in_hand a r d m) (in_hand a q e n) (in_hand a (record q { held = None }) g n) goes
      (held_turn q e n x held few ∙ sent_on (sent_to s.look x e) (walking_of a (record q { held = None })) (in_hand a q e n) g list done)

  pub walk_full : (r q : Route) (d e g : Drawables) (m n : ℕ) (x : Sighting) → GoesTo (walk_turn s most) (in_hand a r d m) (in_hand a q e n) → q.held ≡ Some x → length e.items.items < most →
      g ≡ (sent_to s.look x e).list → (sent_to s.look x e).done ≡ false → EndsIn (walk_turn s most) (in_hand a r d m) false (in_hand a q g n)
  walk_full r q d e g m n x goes held few list done = record {
    last = in_hand a q e n;
    goes = goes;
    ends = held_turn q e n x held few ∙ not_sent (sent_to s.look x e) (walking_of a (record q { held = None })) (in_hand a q e n) g list done;
  }

  step_turn : (q t : Route) (e : Drawables) (n k : ℕ) (going : Bool) → q.held ≡ None → length e.items.items < most → ◌≡◌ {A = Stepped} (record { going = going; walk = walking_of a t; tests = k }) (stepped s (walking_of a q) n) →
      walk_turn s most (in_hand a q e n) ≡ record { ended = if going then None else Some true; filling = in_hand a t e k }
  step_turn q t e n k going held few is =
      has_room most (in_hand a q e n) _ few
      ∙ ap (λ (o : Option Sighting). option_map_or (λ y. after_sent (sent_to s.look y e) (walking_of a (record q { held = None })) (in_hand a q e n)) o
      (after_step (stepped s (walking_of a q) n) (in_hand a q e n))) held
      ∙ ap (λ (u : Stepped). after_step u (in_hand a q e n)) (sym is)

  pub walk_step : (r q t : Route) (d e : Drawables) (m n k : ℕ) → GoesTo (walk_turn s most) (in_hand a r d m) (in_hand a q e n) → q.held ≡ None → length e.items.items < most →
      ◌≡◌ {A = Stepped} (record { going = true; walk = walking_of a t; tests = k }) (stepped s (walking_of a q) n) → GoesTo (walk_turn s most) (in_hand a r d m) (in_hand a t e k)
  walk_step r q t d e m n k goes held few is =
      goes_further (walk_turn s most) (in_hand a r d m) (in_hand a q e n) (in_hand a t e k) goes (step_turn q t e n k true held few is)

  pub walk_over : (r q t : Route) (d e : Drawables) (m n k : ℕ) → GoesTo (walk_turn s most) (in_hand a r d m) (in_hand a q e n) → q.held ≡ None → length e.items.items < most →
      ◌≡◌ {A = Stepped} (record { going = false; walk = walking_of a t; tests = k }) (stepped s (walking_of a q) n) → EndsIn (walk_turn s most) (in_hand a r d m) true (in_hand a t e k)
  walk_over r q t d e m n k goes held few is = record { last = in_hand a q e n; goes = goes; ends = step_turn q t e n k false held few is }

  pub walk_many : (r q : Route) (d e : Drawables) (m n : ℕ) → GoesTo (walk_turn s most) (in_hand a r d m) (in_hand a q e n) → most ≤ length e.items.items → EndsIn (walk_turn s most) (in_hand a r d m) false (in_hand a q e n)
  walk_many r q d e m n goes full = record { last = in_hand a q e n; goes = goes; ends = is_full most (in_hand a q e n) _ full }

-- ---- once the glass is in order
-- what the code has in hand once so much of the glass was sent
abbrev pub glazing : Sight → Route → ℕ → Drawables → ℕ → Filling
glazing a r k d tests = record { walk = sent_to_there (walking_of a r) k; list = d; tests = tests }

module _ (look : Look) (most : ℕ) (a : Sight) where
  waiting_turn : (r : Route) (k : ℕ) (e : Drawables) (n : ℕ) (o : Option Sighting) → slice_get r.glass.items k ≡ o → length e.items.items < most →
      glass_turn look most (glazing a r k e n) ≡ option_map_or (λ x. after_sent (sent_to look x e) (sent_to_there (walking_of a r) (k + 1)) (glazing a r k e n)) o (record { ended = Some true; filling = glazing a r k e n })
  waiting_turn r k e n o at few =
      has_room most (glazing a r k e n) _ few
      ∙ ap (λ (p : Option Sighting). option_map_or (λ x. after_sent (sent_to look x e) (sent_to_there (walking_of a r) (k + 1)) (glazing a r k e n)) p (record { ended = Some true; filling = glazing a r k e n })) at

  pub glass_next : (r : Route) (from k : ℕ) (d e g : Drawables) (n : ℕ) (x : Sighting) → GoesTo (glass_turn look most) (glazing a r from d n) (glazing a r k e n) → slice_get r.glass.items k ≡ Some x → length e.items.items < most →
      g ≡ (sent_to look x e).list → (sent_to look x e).done ≡ true → GoesTo (glass_turn look most) (glazing a r from d n) (glazing a r (k + 1) g n)
  glass_next r from k d e g n x goes at few list done =
      goes_further (glass_turn look most) (glazing a r from d n) (glazing a r k e n) (glazing a r (k + 1) g n) goes
      (waiting_turn r k e n (Some x) at few ∙ sent_on (sent_to look x e) (sent_to_there (walking_of a r) (k + 1)) (glazing a r k e n) g list done)

  pub glass_left : (r : Route) (from k : ℕ) (d e g : Drawables) (n : ℕ) (x : Sighting) → GoesTo (glass_turn look most) (glazing a r from d n) (glazing a r k e n) → slice_get r.glass.items k ≡ Some x → length e.items.items < most →
      g ≡ (sent_to look x e).list → (sent_to look x e).done ≡ false → EndsIn (glass_turn look most) (glazing a r from d n) false (glazing a r k g n)
  glass_left r from k d e g n x goes at few list done = record {
    last = glazing a r k e n;
    goes = goes;
    ends = waiting_turn r k e n (Some x) at few ∙ not_sent (sent_to look x e) (sent_to_there (walking_of a r) (k + 1)) (glazing a r k e n) g list done;
  }

  pub glass_none : (r : Route) (from k : ℕ) (d e : Drawables) (n : ℕ) → GoesTo (glass_turn look most) (glazing a r from d n) (glazing a r k e n) → slice_get r.glass.items k ≡ None → length e.items.items < most →
      EndsIn (glass_turn look most) (glazing a r from d n) true (glazing a r k e n)
  glass_none r from k d e n goes at few = record { last = glazing a r k e n; goes = goes; ends = waiting_turn r k e n None at few }

  pub glass_many : (r : Route) (from k : ℕ) (d e : Drawables) (n : ℕ) → GoesTo (glass_turn look most) (glazing a r from d n) (glazing a r k e n) → most ≤ length e.items.items → EndsIn (glass_turn look most) (glazing a r from d n) false (glazing a r k e n)
  glass_many r from k d e n goes full = record { last = glazing a r k e n; goes = goes; ends = is_full most (glazing a r k e n) _ full }

  -- as the route is
  pub of_route : (r q : Route) (k : ℕ) (f : Filling) (e : Drawables) (n : ℕ) (over : Bool) → q ≡ record r { sent = Some k } → EndsIn (glass_turn look most) f over (glazing a r k e n) → EndsIn (glass_turn look most) f over (in_hand a q e n)
  of_route r q k f e n over same ends = subst (λ (u : Route). EndsIn (glass_turn look most) f over (in_hand a u e n)) (sym same) ends

-- ---- a fill
module _ (s : Scene) (most : ℕ) (a : Sight) where
  pub fills_glass : (r : Route) (k : ℕ) (d : Drawables) (m : ℕ) (over : Bool) (f : Filling) → r.sent ≡ Some k → EndsIn (glass_turn s.look most) (glazing a r k d m) over f → Fills s most (in_hand a r d m) over f
  fills_glass r k d m over f is ends =
      let same : walking_of a r ≡ sent_to_there (walking_of a r) k = λ i. record (walking_of a r) { sent = is i } in
      subst (λ (o : Option ℕ). FillsFrom o s most (in_hand a r d m) over f) (sym is)
      (subst (λ (w : Walking). EndsIn (glass_turn s.look most) (record { walk = w; list = d; tests = m }) over f) (sym same) ends)

  pub fills_walk : (r : Route) (d : Drawables) (m : ℕ) (f : Filling) → r.sent ≡ None → EndsIn (walk_turn s most) (in_hand a r d m) false f → Fills s most (in_hand a r d m) false f
  fills_walk r d m f none ends = subst (λ (o : Option ℕ). FillsFrom o s most (in_hand a r d m) false f) (sym none) (inl (ends, refl))

  pub fills_both : (r q t : Route) (d e : Drawables) (m n : ℕ) (over : Bool) (f : Filling) → r.sent ≡ None → EndsIn (walk_turn s most) (in_hand a r d m) true (in_hand a q e n) →
      walking_of a t ≡ record (walking_of a q) { glass = t.glass.items } → IsPermutation q.glass.items t.glass.items → IsSortedBy glass_order t.glass.items →
      EndsIn (glass_turn s.look most) (glazing a t 0 e n) over f → Fills s most (in_hand a r d m) over f
  fills_both r q t d e m n over f none ends same perm sorted rest =
      subst (λ (o : Option ℕ). FillsFrom o s most (in_hand a r d m) over f) (sym none)
      (inr (record {
        found = in_hand a q e n;
        ordered = sent_to_there (walking_of a t) 0;
        walk = ends;
        order = record { glass = perm; sorted = sorted; walk = ap (λ (w : Walking). sent_to_there w 0) same };
        glass = rest;
      }))

-- seen through the values of the walk and of the piece
pub fills_seen : (look : Look) (boxes : ℕ → Option Bounds) (most : ℕ) (a : Sight) (r t : Route) (w : Walking) (d b e : Drawables) (m n : ℕ) (over : Bool) → walking_of a r ≡ w → b ≡ emptied a.view d →
    Fills (sight_of look boxes a) most (in_hand a r b m) over (in_hand a t e n) → Fills (scene_of look boxes w) most (filling_anew w d m) over (in_hand a t e n)
fills_seen look boxes most a r t w d b e m n over is anew fills =
    subst (λ (v : Walking). Fills (scene_of look boxes v) most (filling_anew v d m) over (in_hand a t e n)) is
    (subst (λ (c : Drawables). Fills (sight_of look boxes a) most (record { walk = walking_of a r; list = c; tests = m }) over (in_hand a t e n)) anew fills)
