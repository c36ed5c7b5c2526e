-- The stops that are still to come, as levels are entered, gone through and left.
use Rattle.std.proofs.Common.{◌≡◌, ◌∙◌, ℕ, zero, suc, ◌+◌, ◌-◌, ◌≤◌, ◌<◌, List, [], ◌∷◌, ◌++◌, length, take, drop, Bool, true, false, cond, Option, Some, None, ap, sym, refl, arith, append_assoc, take_all}
use Rattle.std.specs.Prelude.{map, flat_map, slice_get, nat_lt}
use Rattle.std.specs.List.{enumerate_from}
use Rattle.std.specs.Option.{option_map, option_map_or, option_and_then, option_to_list}
use Rattle.std.proofs.lemmas.List.{append-nil}
use Rattle.std.proofs.lemmas.Bool.Decides.{nat_tests}
use Rattle.fx_math.specs.Plain.{Matrix}
use Rattle.pf_model.specs.declared.nodes.Chosen.{Chosen}
use Rattle.pf_model.specs.declared.nodes.Chosen.TheVariants as chosen
use Rattle.pf_model.specs.declared.nodes.Node.{Node}
use Rattle.pf_model.specs.Kinds.{own_steps}
use Rattle.pf_model.specs.Walks.{shown_children, chosen_in}
use Rattle.draw_list.specs.Joints.{steps_at}
use Rattle.cull_walk.specs.Working.{Scene, At}
use Rattle.stream_stages.specs.declared.levels.Level.{Level}
use Rattle.stream_stages.specs.Stops.{Stop, nearer, stop_below, stops_below, stops_in}
use Rattle.stream_stages.specs.Routes.{children_left, stop_at, stops_left, next_child, first_place, last_place, stops_of}
use Rattle.stream_stages.specs.Going.{level_of}
use Rattle.stream_stages.specs.Underway.{HaveLevels}

-- ---- the children of a level
dropped_next : (cs : List ℕ) (from c : ℕ) → slice_get cs from ≡ Some c → drop from cs ≡ c ∷ drop (suc from) cs
dropped_next [] from c e = absurd (cc)
dropped_next (d ∷ cs) zero c e = let same : d ≡ c = ap (λ (o : Option ℕ). option_map_or (λ n. n) o 0) e in ap (λ (k : ℕ). k ∷ cs) same
dropped_next (d ∷ cs) (suc from) c e = dropped_next cs from c e

dropped_none : (cs : List ℕ) (from : ℕ) → slice_get cs from ≡ None → drop from cs ≡ []
dropped_none [] zero e = refl
dropped_none [] (suc from) e = refl
dropped_none (d ∷ cs) zero e = absurd (cc)
dropped_none (d ∷ cs) (suc from) e = dropped_none cs from e

less : (m n : ℕ) → nat_lt m n ≡ true → m < n
less m n e = grind (arith, nat_tests)

not_less : (m n : ℕ) → nat_lt m n ≡ false → n ≤ m
not_less m n e = grind (arith, nat_tests)

abbrev ranged : (from to : ℕ) → List ℕ → List (ℕ × ℕ)
ranged from to cs = enumerate_from from (take (to - from) (drop from cs))

abbrev pair : ℕ → ℕ → ℕ × ℕ
pair a b = (a, b)

ranged_next : (cs : List ℕ) (from to c : ℕ) → from < to → slice_get cs from ≡ Some c → ranged from to cs ≡ pair from c ∷ ranged (from + 1) to cs
ranged_next cs from to c l e =
    ap (λ (ds : List ℕ). enumerate_from from (take (to - from) ds)) (dropped_next cs from c e)
    ∙ ap (λ (k : ℕ). enumerate_from from (take k (c ∷ drop (suc from) cs))) longer
    ∙ ap (λ (k : ℕ). pair from c ∷ enumerate_from (from + 1) (take (to - k) (drop k cs))) one
  where
    longer : to - from ≡ suc (to - suc from)
    longer = omega (arith, l)

    one : suc from ≡ from + 1
    one = omega arith

ranged_done : (cs : List ℕ) (from to : ℕ) → to ≤ from → ranged from to cs ≡ []
ranged_done cs from to l = ap (λ (k : ℕ). enumerate_from from (take k (drop from cs))) none
  where
    none : to - from ≡ 0
    none = omega (arith, l)

taken_nothing : (n : ℕ) → take {A = ℕ} n [] ≡ []
taken_nothing zero = refl
taken_nothing (suc n) = refl

ranged_end : (cs : List ℕ) (from to : ℕ) → slice_get cs from ≡ None → ranged from to cs ≡ []
ranged_end cs from to e = ap (λ (ds : List ℕ). enumerate_from from (take (to - from) ds)) (dropped_none cs from e) ∙ ap (enumerate_from from) (taken_nothing (to - from))

-- the range of the chosen children
one_ranged : (cs : List ℕ) (i : ℕ) → ranged i (i + 1) cs ≡ option_to_list (option_map (pair i) (slice_get cs i))
one_ranged cs i = by (slice_get cs i) refl
  where
    by : (o : Option ℕ) → slice_get cs i ≡ o → ranged i (i + 1) cs ≡ option_to_list (option_map (pair i) o)
    by None e = ranged_end cs i (i + 1) e
    by (Some c) e = ranged_next cs i (i + 1) c (omega arith) e ∙ ap (λ (ds : List (ℕ × ℕ)). pair i c ∷ ds) (ranged_done cs (i + 1) (i + 1) (omega arith))

chosen_range : (ch : Chosen) (cs : List ℕ) → ranged (first_place ch) (last_place ch (length cs)) cs ≡ shown_children ch cs
chosen_range chosen.All cs = ap (λ (n : ℕ). enumerate_from 0 (take n cs)) (none_less (length cs)) ∙ ap (enumerate_from 0) (take_all (length cs) cs (omega arith))
  where
    none_less : (n : ℕ) → n - 0 ≡ n
    none_less n = omega arith
chosen_range chosen.Nothing cs = refl
chosen_range (chosen.One i) cs = one_ranged cs i

-- ---- the stops of a level
abbrev next_stop : List (List Matrix) → Level → ℕ × ℕ → Stop
next_stop lists l c = record { id = c.0; steps = steps_at lists l.joint; shift = c.1 }

abbrev next_in : Level → Node → Bool → Option ℕ → Option (ℕ × ℕ)
next_in l n t o = cond t (option_map (λ c. pair c (nearer l.shift n.kind l.from)) o) None

pub left_next : (s : Scene) (lists : List (List Matrix)) (l : Level) (c : ℕ × ℕ) → next_child s.look l ≡ Some c →
    stops_left s lists l ≡ next_stop lists l c ∷ stops_left s lists (record l { from = l.from + 1 })
left_next s lists l c e = by (s.look l.id) refl
  where
    found : (n : Node) (t : Bool) (o : Option ℕ) → nat_lt l.from l.to ≡ t → slice_get n.children l.from ≡ o → next_in l n t o ≡ Some c →
        map (stop_at (steps_at lists l.joint) l n) (ranged l.from l.to n.children) ≡ next_stop lists l c ∷ map (stop_at (steps_at lists l.joint) l n) (ranged (l.from + 1) l.to n.children)
    found n false o e f g = absurd (cc)
    found n true None e f g = absurd (cc)
    found n true (Some d) e f g =
        let same : pair d (nearer l.shift n.kind l.from) ≡ c = ap (λ (o : Option (ℕ × ℕ)). option_map_or (λ p. p) o c) g in
        ap (map (stop_at (steps_at lists l.joint) l n)) (ranged_next n.children l.from l.to d (less l.from l.to e) f)
        ∙ ap (λ (p : ℕ × ℕ). next_stop lists l p ∷ map (stop_at (steps_at lists l.joint) l n) (ranged (l.from + 1) l.to n.children)) same

    by : (m : Option Node) → s.look l.id ≡ m → stops_left s lists l ≡ next_stop lists l c ∷ stops_left s lists (record l { from = l.from + 1 })
    by None f = let none : None ≡ Some c = sym (ap (option_and_then (λ n. next_in l n (nat_lt l.from l.to) (slice_get n.children l.from))) f) ∙ e in absurd (cc)
    by (Some n) f =
        ap (λ (m : Option Node). option_map_or (λ n. map (stop_at (steps_at lists l.joint) l n) (ranged l.from l.to n.children)) m []) f
        ∙ found n (nat_lt l.from l.to) (slice_get n.children l.from) refl refl (sym (ap (option_and_then (λ n. next_in l n (nat_lt l.from l.to) (slice_get n.children l.from))) f) ∙ e)
        ∙ ap (λ (m : Option Node). next_stop lists l c ∷ option_map_or (λ n. map (stop_at (steps_at lists l.joint) l n) (ranged (l.from + 1) l.to n.children)) m []) (sym f)

pub left_done : (s : Scene) (lists : List (List Matrix)) (l : Level) → next_child s.look l ≡ None → stops_left s lists l ≡ []
left_done s lists l e = by (s.look l.id) refl
  where
    found : (n : Node) (t : Bool) (o : Option ℕ) → nat_lt l.from l.to ≡ t → slice_get n.children l.from ≡ o → next_in l n t o ≡ None →
        map (stop_at (steps_at lists l.joint) l n) (ranged l.from l.to n.children) ≡ []
    found n false o e f g = ap (map (stop_at (steps_at lists l.joint) l n)) (ranged_done n.children l.from l.to (not_less l.from l.to e))
    found n true None e f g = ap (map (stop_at (steps_at lists l.joint) l n)) (ranged_end n.children l.from l.to f)
    found n true (Some d) e f g = absurd (cc)

    by : (m : Option Node) → s.look l.id ≡ m → stops_left s lists l ≡ []
    by None f = ap (λ (m : Option Node). option_map_or (λ n. map (stop_at (steps_at lists l.joint) l n) (ranged l.from l.to n.children)) m []) f
    by (Some n) f =
        ap (λ (m : Option Node). option_map_or (λ n. map (stop_at (steps_at lists l.joint) l n) (ranged l.from l.to n.children)) m []) f
        ∙ found n (nat_lt l.from l.to) (slice_get n.children l.from) refl refl (sym (ap (option_and_then (λ n. next_in l n (nat_lt l.from l.to) (slice_get n.children l.from))) f) ∙ e)

-- a level whose children are all to be visited
pub left_new : (s : Scene) (lists : List (List Matrix)) (a : At) (o : Stop) (n : Node) (joint : ℕ) → s.look o.id ≡ Some n → a.id ≡ o.id → a.shift ≡ o.shift → steps_at lists joint ≡ own_steps n.kind ++ o.steps →
    stops_left s lists (level_of a (chosen_in s.time n o.steps) (length n.children) joint) ≡ stops_below s o
left_new s lists a o n joint found id shift steps =
    ap (λ (m : Option Node). option_map_or (λ n. map (stop_at (steps_at lists joint) l n) (children_left n l)) m []) (ap s.look id ∙ found)
    ∙ ap (map (stop_at (steps_at lists joint) l n)) (chosen_range (chosen_in s.time n o.steps) n.children)
    ∙ (λ i. map (λ c. record { id = c.1; steps = steps i; shift = nearer (shift i) n.kind c.0 }) (shown_children (chosen_in s.time n o.steps) n.children))
    ∙ ap (λ (m : Option Node). option_map_or (λ n. map (stop_below n o) (shown_children (chosen_in s.time n o.steps) n.children)) m []) (sym found)
  where
    l : Level
    l = level_of a (chosen_in s.time n o.steps) (length n.children) joint

-- ---- all levels
flat_none : {X : Type 0} (f : X → List Stop) (xs : List X) → xs ≡ [] → flat_map f xs ≡ []
flat_none f xs e = ap (flat_map f) e

pub of_append : (n : ℕ) (s : Scene) (lists : List (List Matrix)) (ls : List Level) (l : Level) →
    stops_of n s lists (ls ++ l ∷ []) ≡ flat_map (stops_in (n - length ls) s) (stops_left s lists l) ++ stops_of n s lists ls
of_append n s lists [] l =
    sym (append-nil (flat_map (stops_in n s) (stops_left s lists l)))
    ∙ ap (λ (m : ℕ). flat_map (stops_in m s) (stops_left s lists l) ++ []) none_less
  where
    none_less : n ≡ n - 0
    none_less = omega arith
of_append n s lists (k ∷ ls) l =
    ap (λ (os : List Stop). os ++ flat_map (stops_in n s) (stops_left s lists k)) (of_append (n - 1) s lists ls l)
    ∙ append_assoc (flat_map (stops_in (n - 1 - length ls) s) (stops_left s lists l)) (stops_of (n - 1) s lists ls) (flat_map (stops_in n s) (stops_left s lists k))
    ∙ ap (λ (m : ℕ). flat_map (stops_in m s) (stops_left s lists l) ++ (stops_of (n - 1) s lists ls ++ flat_map (stops_in n s) (stops_left s lists k))) fewer
  where
    fewer : n - 1 - length ls ≡ n - suc (length ls)
    fewer = omega arith

-- further joints change nothing
pub of_lists : (n : ℕ) (s : Scene) (lists more : List (List Matrix)) → ((j : ℕ) → j < length lists → steps_at more j ≡ steps_at lists j) → (ls : List Level) → HaveLevels (length lists) ls →
    stops_of n s more ls ≡ stops_of n s lists ls
of_lists n s lists more same [] h = refl
of_lists n s lists more same (l ∷ ls) h = λ i. of_lists (n - 1) s lists more same ls h.1 i
    ++ flat_map (stops_in n s) (option_map_or (λ m. map (stop_at (same l.joint h.0 i) l m) (children_left m l)) (s.look l.id) [])
