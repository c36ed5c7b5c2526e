-- Parts that hold all four events.
use Rattle.std.proofs.Common.{◌≡◌, ℕ, ◌+◌, ◌≤◌, Bool, true, false, cond, ◌&&◌, ◌||◌, List, [], ◌∷◌, ◌++◌, length, refl, sym, ◌∙◌, arith}
use Rattle.std.specs.List.{AllByRecursion, flat_map}
use Rattle.std.proofs.lemmas.Bool.{and_parts, and_from, or_left}
use Rattle.pipe_core.specs.declared.events.Event.{Event}
use Rattle.pipe_core.specs.declared.events.Event.TheVariants as event
use Rattle.pipe_core.specs.Runs.{is_event, holds, holds_all, rounds_from}
use Rattle.pipe_core.specs.Laws.{CuttingLaw}

-- all four events are among these, each by itself

pub each_held : (es : List Event) → holds_all es ≡ true → (k : Event) → holds es k ≡ true
each_held es all event.App = (and_parts (holds es event.App) _ all).0
each_held es all event.Cull = (and_parts (holds es event.Cull) _ (and_parts (holds es event.App) _ all).1).0
each_held es all event.Draw =
    (and_parts (holds es event.Draw) _ (and_parts (holds es event.Cull) _ (and_parts (holds es event.App) _ all).1).1).0
each_held es all event.Dbase =
    (and_parts (holds es event.Draw) _ (and_parts (holds es event.Cull) _ (and_parts (holds es event.App) _ all).1).1).1

all_held : (es : List Event) → ((k : Event) → holds es k ≡ true) → holds_all es ≡ true
all_held es each =
    and_from (holds es event.App) (holds es event.Cull && (holds es event.Draw && holds es event.Dbase)) (each event.App)
    (and_from (holds es event.Cull) (holds es event.Draw && holds es event.Dbase) (each event.Cull)
    (and_from (holds es event.Draw) (holds es event.Dbase) (each event.Draw) (each event.Dbase)))

-- whatever part is open, the events have at least m rounds
abbrev AtLeast : ℕ → List Event → Type 0
AtLeast m rest = (part : List Event) → holds_all part ≡ false → m ≤ rounds_from part rest

still_at_least : (m : ℕ) (rest : List Event) → AtLeast m rest → (es part : List Event) → holds_all part ≡ false → m ≤ rounds_from part (es ++ rest)
still_at_least m rest h [] part lacks = h part lacks
still_at_least m rest h (e ∷ es) part lacks = by (holds_all (e ∷ part)) refl (λ q none. still_at_least m rest h es q none)
  where
    by : (t : Bool) → holds_all (e ∷ part) ≡ t →
        ((q : List Event) → holds_all q ≡ false → m ≤ rounds_from q (es ++ rest)) →
        m ≤ cond t (1 + rounds_from [] (es ++ rest)) (rounds_from (e ∷ part) (es ++ rest))
    by true is later = let more = later [] refl in omega (arith, more)
    by false is later = later (e ∷ part) is

-- each event is among these or in the open part
abbrev HoldTogether : List Event → List Event → Type 0
HoldTogether es part = (k : Event) → (holds es k || holds part k) ≡ true

moved_over : (a b c : Bool) → ((a || b) || c) ≡ true → (b || (a || c)) ≡ true
moved_over a true c h = refl
moved_over a false c h = by a h
  where
    by : (a : Bool) → ((a || false) || c) ≡ true → (false || (a || c)) ≡ true
    by true h = refl
    by false h = h

one_more : (m : ℕ) (rest : List Event) → AtLeast m rest → (es part : List Event) → holds_all part ≡ false → HoldTogether es part →
    1 + m ≤ rounds_from part (es ++ rest)
one_more m rest h [] part lacks together =
    absurd (let all : holds_all part ≡ true = all_held part together in let clash : true ≡ false = sym all ∙ lacks in cc)
one_more m rest h (e ∷ es) part lacks together =
    by (holds_all (e ∷ part)) refl
    (λ is. one_more m rest h es (e ∷ part) is (λ k. moved_over (is_event k e) (holds es k) (holds part k) (together k)))
  where
    by : (t : Bool) → holds_all (e ∷ part) ≡ t →
        (holds_all (e ∷ part) ≡ false → 1 + m ≤ rounds_from (e ∷ part) (es ++ rest)) →
        1 + m ≤ cond t (1 + rounds_from [] (es ++ rest)) (rounds_from (e ∷ part) (es ++ rest))
    by true is later = let more = still_at_least m rest h es [] refl in omega (arith, more)
    by false is later = later is

at_least : (parts : List (List Event)) → AllByRecursion (λ part. holds_all part ≡ true) parts → AtLeast (length parts) (flat_map (λ part. part) parts)
at_least [] all part lacks = omega arith
at_least (p ∷ parts) all part lacks =
    let more =
    one_more (length parts) (flat_map (λ (q : List Event). q) parts) (at_least parts all.1) p part lacks
    (λ k. or_left (holds p k) (holds part k) (each_held p all.0 k)) in
    omega (arith, more)

pub cutting_law : CuttingLaw
cutting_law parts all = at_least parts all [] refl
