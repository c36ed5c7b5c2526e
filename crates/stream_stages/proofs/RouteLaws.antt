-- What the code does to a walk at each exit is what the definitions say.
use Rattle.std.proofs.Common.{◌≡◌, ◌∙◌, ℕ, zero, suc, ◌+◌, ◌-◌, ◌≤◌, ◌<◌, List, [], ◌∷◌, ◌++◌, length, take, set, get_or, replicate, Bool, true, false, cond, Option, Some, None, ap, sym, refl, arith, add-one}
use Rattle.std.specs.Prelude.{map}
use Rattle.std.proofs.lemmas.List.{map-append, length-map}
use Rattle.std.specs.Option.{option_map_or}
use Rattle.fx_math.specs.Plain.{Bounds}
use Rattle.pf_model.specs.declared.nodes.Node.{Node}
use Rattle.pf_model.specs.Kinds.{surface_of}
use Rattle.cull_walk.specs.Working.{Scene, At, counted}
use Rattle.stream_stages.specs.declared.levels.Level.{Level}
use Rattle.stream_stages.specs.Routes.{Walking, next_child}
use Rattle.stream_stages.specs.Stops.{box_at}
use Rattle.stream_stages.specs.Going.{shown_in, seen_in, visited_in, entered_in, split_last, root_at, gone_on, on_way, stepped}
use Rattle.stream_stages.proofs.Visiting.{stop_of}

-- ---- a visit
pub entered_at : (s : Scene) (w : Walking) (a : At) (around : Bounds) (n : Node) → Some around ≡ box_at s (stop_of w a) → Some n ≡ s.look a.id → None ≡ surface_of n.kind →
    entered_in s (record w { visited = counted w.visited }) a n ≡ visited_in s w a
entered_at s w a around n box found none =
    ap (shown_in s u a around n) none
    ∙ ap (λ (m : Option Node). option_map_or (λ n. shown_in s u a around n (surface_of n.kind)) m u) found
    ∙ ap (seen_in s u a) box
  where
    u : Walking
    u = record w { visited = counted w.visited }

-- ---- the last level
pub split_back : (ls : List Level) (l : Level) → split_last (ls ++ l ∷ []) ≡ Some (ls, l)
split_back [] l = refl
split_back (k ∷ ls) l = ap (λ (o : Option (List Level × Level)). Some (option_map_or (λ (p : List Level × Level). (k ∷ p.0, p.1)) o ([], k))) (split_back ls l)

pub step_is : (s : Scene) (w : Walking) (tests : ℕ) (ls : List Level) (l : Level) (c : Option (ℕ × ℕ)) → false ≡ w.fresh → w.way ≡ ls ++ l ∷ [] → c ≡ next_child s.look l →
    gone_on s w tests ls l c ≡ stepped s w tests
step_is s w tests ls l c fresh way next =
    ap (gone_on s w tests ls l) next
    ∙ ap (on_way s w tests) (sym (ap split_last way ∙ split_back ls l))
    ∙ open_way
  where
    open_way : on_way s w tests (split_last w.way) ≡ stepped s w tests
    open_way =
        ap (λ (b : Bool). cond b (record { going = true; walk = visited_in s (record w { fresh = false }) root_at; tests = tests + 1 }) (on_way s w tests (split_last w.way))) fresh

-- ---- the ids of the way
taken_more : (ls : List Level) (k : ℕ) (d : Level) → k < length ls → take (suc k) ls ≡ take k ls ++ get_or ls k d ∷ []
taken_more [] k d l = absurd (omega (arith, l))
taken_more (x ∷ ls) zero d l = refl
taken_more (x ∷ ls) (suc k) d l = ap (λ (ys : List Level). x ∷ ys) (taken_more ls k d (omega (arith, l)))

set_next : (xs : List ℕ) (n y : ℕ) → set (xs ++ replicate (suc n) 0) (length xs) y ≡ (xs ++ y ∷ []) ++ replicate n 0
set_next [] n y = refl
set_next (x ∷ xs) n y = ap (λ (ys : List ℕ). x ∷ ys) (set_next xs n y)

length_taken : (k : ℕ) (ls : List Level) → k ≤ length ls → length (take k ls) ≡ k
length_taken zero ls l = refl
length_taken (suc k) [] l = absurd (omega (arith, l))
length_taken (suc k) (x ∷ ls) l = ap (λ (n : ℕ). suc n) (length_taken k ls (omega (arith, l)))

abbrev ids_taken : ℕ → List Level → List ℕ
ids_taken k ls = map (λ l. l.id) (take k ls)

pub ids_next : (ids : List ℕ) (ls : List Level) (k at : ℕ) (d : Level) → at ≡ k → k < length ls → length ls ≤ 32 → ids ≡ ids_taken k ls ++ replicate (32 - k) 0 →
    set ids at (get_or ls k d).id ≡ ids_taken (k + 1) ls ++ replicate (32 - (k + 1)) 0
ids_next ids ls k at d same below few are =
    (λ i. set (are i) (there i) y)
    ∙ ap (λ (n : ℕ). set (ids_taken k ls ++ replicate n 0) (length (ids_taken k ls)) y) more
    ∙ set_next (ids_taken k ls) (31 - k) y
    ∙ (λ i. taken i ++ replicate (less i) 0)
  where
    y : ℕ
    y = (get_or ls k d).id

    there : at ≡ length (ids_taken k ls)
    there = same ∙ sym (length-map (take k ls) (λ l. l.id) ∙ length_taken k ls (omega (arith, below)))

    more : 32 - k ≡ suc (31 - k)
    more = omega (arith, below, few)

    less : 31 - k ≡ 32 - (k + 1)
    less = omega arith

    taken : ids_taken k ls ++ y ∷ [] ≡ ids_taken (k + 1) ls
    taken = sym (ap (λ (n : ℕ). ids_taken n ls) (add-one k) ∙ ap (map (λ l. l.id)) (taken_more ls k d below) ∙ map-append (λ l. l.id) (take k ls) (get_or ls k d ∷ []))
