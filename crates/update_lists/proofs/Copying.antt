-- The loops of a cut: growths first, then the arrays.
use Rattle.std.proofs.Common.{◌≡◌, ℕ, ◌+◌, ◌-◌, ◌<◌, ◌≤◌, Bool, true, false, cond, ◌||◌, nat_eq, List, [], ◌∷◌, ◌++◌, map, length, take, drop, get_or, set, slice_get, Option, Some, None, refl, sym, ◌∙◌, ap, subst, arith}
use Rattle.std.proofs.lemmas.Bool.{false≢true}
use Rattle.std.proofs.lemmas.Bool.Decides.{nat_tests}
use Rattle.std.proofs.lemmas.List.{append-nil, append_assoc, map-append, length-map, length-take-le, take-append-drop, take_more, drop_more, set-append_right, get_or-append_right, get_or-map, map-set, set-get_or}
use Rattle.std.proofs.lemmas.Option.{slice_get-get_or}
use Rattle.std.proofs.lemmas.List.Folds.{list_any-append}
use Rattle.std.proofs.lemmas.Map.Keys.{IsDistinct-head, IsDistinct-tail}
use Rattle.std.specs.Option.{option_map}
use Rattle.std.specs.List.{All, AllByRecursion, IsDistinct}
use Rattle.pf_model.specs.declared.geometry.Tri.{Tri}
use Rattle.pf_model.specs.declared.nodes.Kind.{Kind}
use Rattle.pf_model.specs.declared.nodes.Kind.TheVariants.{Geode, Glass}
use Rattle.pf_model.specs.declared.nodes.Node.{Node}
use Rattle.pf_model.specs.Kinds.{geom_of, is_geode}
use Rattle.pf_model.specs.Graphs.{Look}
use Rattle.pf_model.specs.Copies.{UpdateList, updates_of}
use Rattle.update_lists.specs.Marks.{among}
use Rattle.update_lists.specs.Taking.{CanTake, IsWritten, geode_serial, geode_serials, times_in, bare, bare_updates, kind_with, node_with}

-- Serials and how often they stand

serials_push : (look : Look) (ids : List ℕ) (id : ℕ) → geode_serials look (ids ++ id ∷ []) ≡ geode_serials look ids ++ geode_serial (look id)
serials_push look [] id = append-nil (geode_serial (look id))
serials_push look (x ∷ ids) id =
    ap (λ r. geode_serial (look x) ++ r) (serials_push look ids id) ∙ sym (append_assoc (geode_serial (look x)) (geode_serials look ids) (geode_serial (look id)))

pub serials_more : (look : Look) (ids : List ℕ) (i : ℕ) → i < length ids → geode_serials look (take (i + 1) ids) ≡ geode_serials look (take i ids) ++ geode_serial (look (get_or ids i 0))
serials_more look ids i l = ap (geode_serials look) (take_more ids i 0 l) ∙ serials_push look (take i ids) (get_or ids i 0)

pub serials_rest : (look : Look) (ids : List ℕ) (i : ℕ) → i < length ids → geode_serials look (drop i ids) ≡ geode_serial (look (get_or ids i 0)) ++ geode_serials look (drop (i + 1) ids)
serials_rest look ids i l = ap (geode_serials look) (drop_more ids i 0 l)

serials_append : (look : Look) (xs ys : List ℕ) → geode_serials look (xs ++ ys) ≡ geode_serials look xs ++ geode_serials look ys
serials_append look [] ys = refl
serials_append look (x ∷ xs) ys =
    ap (λ r. geode_serial (look x) ++ r) (serials_append look xs ys) ∙ sym (append_assoc (geode_serial (look x)) (geode_serials look xs) (geode_serials look ys))

-- a serial that stands nowhere does not stand in a front
pub front_without : (look : Look) (ids : List ℕ) (k s : ℕ) → among s (geode_serials look ids) ≡ false → among s (geode_serials look (take k ids)) ≡ false
front_without look ids k s h =
    let whole = ap (geode_serials look) (sym (take-append-drop k ids)) ∙ serials_append look (take k ids) (drop k ids) in
    by (among s (geode_serials look (take k ids)))
    (sym (list_any-append (nat_eq s) (geode_serials look (take k ids)) (geode_serials look (drop k ids))) ∙ sym (ap (among s) whole) ∙ h)
  where
    by : (a : Bool) → (a || among s (geode_serials look (drop k ids))) ≡ false → a ≡ false
    by true t = t
    by false t = refl

-- a serial that stands in a front stands in the whole list
pub front_with : (look : Look) (ids : List ℕ) (k s : ℕ) → among s (geode_serials look (take k ids)) ≡ true → among s (geode_serials look ids) ≡ true
front_with look ids k s h =
    let whole = ap (geode_serials look) (sym (take-append-drop k ids)) ∙ serials_append look (take k ids) (drop k ids) in
    ap (among s) whole ∙ list_any-append (nat_eq s) (geode_serials look (take k ids)) (geode_serials look (drop k ids))
    ∙ ap (λ a. a || among s (geode_serials look (drop k ids))) h

times_append : (s : ℕ) (xs ys : List ℕ) → times_in s (xs ++ ys) ≡ times_in s xs + times_in s ys
times_append s [] ys = omega arith
times_append s (x ∷ xs) ys = by (nat_eq s x) (times_append s xs ys)
  where
    by : (t : Bool) → times_in s (xs ++ ys) ≡ times_in s xs + times_in s ys →
        cond t (1 + times_in s (xs ++ ys)) (times_in s (xs ++ ys)) ≡ cond t (1 + times_in s xs) (times_in s xs) + times_in s ys
    by true h = omega (arith, h)
    by false h = h

pub times_none : (s : ℕ) (xs : List ℕ) → among s xs ≡ false → times_in s xs ≡ 0
times_none s [] h = refl
times_none s (x ∷ xs) h = by (nat_eq s x) (λ k. times_none s xs k) h
  where
    by : (t : Bool) → (among s xs ≡ false → times_in s xs ≡ 0) → (t || among s xs) ≡ false → cond t (1 + times_in s xs) (times_in s xs) ≡ 0
    by true rest k = absurd (false≢true (sym k))
    by false rest k = rest k

absent : (x : ℕ) (xs : List ℕ) → AllByRecursion (λ y. nat_eq x y ≡ false) xs → among x xs ≡ false
absent x [] h = refl
absent x (y ∷ ys) h = ap (λ b. b || among x ys) h.0 ∙ absent x ys h.1

pub times_once : (s : ℕ) (xs : List ℕ) → IsDistinct nat_eq xs → times_in s xs ≤ 1
times_once s [] once = omega arith
times_once s (x ∷ xs) once = by (nat_eq s x) refl (times_once s xs (IsDistinct-tail nat_eq x xs once))
  where
    by : (t : Bool) → nat_eq s x ≡ t → times_in s xs ≤ 1 → cond t (1 + times_in s xs) (times_in s xs) ≤ 1
    by true e rest =
        let same : s ≡ x = grind (arith, nat_tests) in
        let none : times_in s xs ≡ 0 = times_none s xs (ap (λ k. among k xs) same ∙ absent x xs (IsDistinct-head nat_eq x xs once)) in
        omega (arith, none)
    by false e rest = rest

-- serials that differ, each with a free copy, stand at most as often as copies are free
pub times_ready : (free : ℕ → ℕ) (xs : List ℕ) → IsDistinct nat_eq xs → ((s : ℕ) → among s xs ≡ true → 0 < free s) → (s : ℕ) → times_in s xs ≤ free s
times_ready free xs once ready s = by (among s xs) refl
  where
    by : (t : Bool) → among s xs ≡ t → times_in s xs ≤ free s
    by true e = omega (arith, times_once s xs once, ready s e)
    by false e = omega (arith, times_none s xs e)

-- What was written

pub written_same : (w v : ℕ → Option (List Tri)) (o : Option Node) → ((s : ℕ) → v s ≡ w s) → IsWritten w o → IsWritten v o
written_same w v None same h = tt
written_same w v (Some n) same h = λ e. same n.serial ∙ h e

pub written_all : (w v : ℕ → Option (List Tri)) (look : Look) (ids : List ℕ) → ((s : ℕ) → v s ≡ w s) →
    All (λ id. IsWritten w (look id)) ids → All (λ id. IsWritten v (look id)) ids
written_all w v look ids same h = λ k d l. written_same w v (look (get_or ids k d)) same (h k d l)

-- Triangles out and in

kind_back : (k : Kind) (ts : List Tri) → geom_of k ≡ Some ts → kind_with ts (kind_with [] k) ≡ k
kind_back (Geode s t) ts h = cc
kind_back (Glass s a t) ts h = cc
kind_back k ts h = cc

kind_stays : (k : Kind) → geom_of k ≡ None → kind_with [] k ≡ k
kind_stays (Geode s t) h = cc
kind_stays (Glass s a t) h = cc
kind_stays k h = refl

pub node_back : (n : Node) (ts : List Tri) → geom_of n.kind ≡ Some ts → node_with ts (bare n) ≡ n
node_back n ts h = ap (λ k. record n { kind = k }) (kind_back n.kind ts h)

pub node_stays : (n : Node) → geom_of n.kind ≡ None → bare n ≡ n
node_stays n h = ap (λ k. record n { kind = k }) (kind_stays n.kind h)

pub updates_ids : (look : Look) (ids : List ℕ) → map (λ e. e.0) (updates_of look ids) ≡ ids
updates_ids look [] = refl
updates_ids look (id ∷ ids) = ap (λ xs. id ∷ xs) (updates_ids look ids)

-- Entries filled one after the other

pub filled_start : (look : Look) (ids : List ℕ) → bare_updates look ids ≡ updates_of look (take 0 ids) ++ bare_updates look (drop 0 ids)
filled_start look ids = refl

filled_front : (look : Look) (ids : List ℕ) (i : ℕ) → i < length ids → length (updates_of look (take i ids)) ≡ i
filled_front look ids i l = length-map (take i ids) (λ id. (id, look id)) ∙ length-take-le i ids (omega (arith, l))

pub filled_at : (look : Look) (ids : List ℕ) (i : ℕ) (d : ℕ × Option Node) → i < length ids →
    get_or (updates_of look (take i ids) ++ bare_updates look (drop i ids)) i d ≡ (get_or ids i 0, option_map bare (look (get_or ids i 0)))
filled_at look ids i d l =
    let front = filled_front look ids i l in
    let rest : bare_updates look (drop i ids) ≡ (get_or ids i 0, option_map bare (look (get_or ids i 0))) ∷ bare_updates look (drop (i + 1) ids) =
    ap (bare_updates look) (drop_more ids i 0 l) in
    let zero : i - i ≡ 0 = omega arith in
    get_or-append_right (updates_of look (take i ids)) (bare_updates look (drop i ids)) i i d front (omega arith) ∙ rw (rest, zero) refl

pub filled_more : (look : Look) (ids : List ℕ) (i : ℕ) → i < length ids →
    set (updates_of look (take i ids) ++ bare_updates look (drop i ids)) i (get_or ids i 0, look (get_or ids i 0))
    ≡ updates_of look (take (i + 1) ids) ++ bare_updates look (drop (i + 1) ids)
filled_more look ids i l =
    let x = get_or ids i 0 in
    let front = filled_front look ids i l in
    let rest : bare_updates look (drop i ids) ≡ (x, option_map bare (look x)) ∷ bare_updates look (drop (i + 1) ids) =
    ap (bare_updates look) (drop_more ids i 0 l) in
    let zero : i - i ≡ 0 = omega arith in
    let more : updates_of look (take (i + 1) ids) ≡ updates_of look (take i ids) ++ (x, look x) ∷ [] =
    ap (updates_of look) (take_more ids i 0 l) ∙ map-append (λ id. (id, look id)) (take i ids) (x ∷ []) in
    set-append_right (updates_of look (take i ids)) (bare_updates look (drop i ids)) i i (x, look x) front (omega arith)
    ∙ rw (rest, zero, more) (sym (append_assoc (updates_of look (take i ids)) ((x, look x) ∷ []) (bare_updates look (drop (i + 1) ids))))

-- The arithmetic of free copies

pub free_more : (look : Look) (ids : List ℕ) (i : ℕ) (first before after : ℕ → ℕ) → i < length ids →
    ((s : ℕ) → before s + times_in s (geode_serials look (take i ids)) ≡ first s) →
    ((s : ℕ) → after s + times_in s (geode_serial (look (get_or ids i 0))) ≡ before s) →
    (s : ℕ) → after s + times_in s (geode_serials look (take (i + 1) ids)) ≡ first s
free_more look ids i first before after l h k s =
    let more = ap (times_in s) (serials_more look ids i l) ∙ times_append s (geode_serials look (take i ids)) (geode_serial (look (get_or ids i 0))) in
    omega (arith, more, h s, k s)

pub out_more : (look : Look) (ids : List ℕ) (i : ℕ) (first before after : ℕ → ℕ) → i < length ids →
    ((s : ℕ) → before s ≡ first s + times_in s (geode_serials look (take i ids))) →
    ((s : ℕ) → after s ≡ before s + times_in s (geode_serial (look (get_or ids i 0)))) →
    (s : ℕ) → after s ≡ first s + times_in s (geode_serials look (take (i + 1) ids))
out_more look ids i first before after l h k s =
    let more = ap (times_in s) (serials_more look ids i l) ∙ times_append s (geode_serials look (take i ids)) (geode_serial (look (get_or ids i 0))) in
    omega (arith, more, h s, k s)

pub room_now : (look : Look) (ids : List ℕ) (i : ℕ) (free : ℕ → ℕ) → i < length ids →
    ((s : ℕ) → times_in s (geode_serials look (drop i ids)) ≤ free s) → (s : ℕ) → times_in s (geode_serial (look (get_or ids i 0))) ≤ free s
room_now look ids i free l h s =
    let rest = ap (times_in s) (serials_rest look ids i l) ∙ times_append s (geode_serial (look (get_or ids i 0))) (geode_serials look (drop (i + 1) ids)) in
    omega (arith, rest, h s)

pub room_more : (look : Look) (ids : List ℕ) (i : ℕ) (before after : ℕ → ℕ) → i < length ids →
    ((s : ℕ) → times_in s (geode_serials look (drop i ids)) ≤ before s) →
    ((s : ℕ) → after s + times_in s (geode_serial (look (get_or ids i 0))) ≡ before s) →
    (s : ℕ) → times_in s (geode_serials look (drop (i + 1) ids)) ≤ after s
room_more look ids i before after l h k s =
    let rest = ap (times_in s) (serials_rest look ids i l) ∙ times_append s (geode_serial (look (get_or ids i 0))) (geode_serials look (drop (i + 1) ids)) in
    omega (arith, rest, h s, k s)

-- Readying one after the other

pub ready_more : (look : Look) (ids : List ℕ) (i : ℕ) (before after : ℕ → ℕ) → i < length ids →
    ((s : ℕ) → among s (geode_serials look (take i ids)) ≡ true → 0 < before s) →
    ((s : ℕ) → among s (geode_serial (look (get_or ids i 0))) ≡ true → 0 < after s) → ((s : ℕ) → before s ≤ after s) →
    (s : ℕ) → among s (geode_serials look (take (i + 1) ids)) ≡ true → 0 < after s
ready_more look ids i before after l h k more s e =
    let among_more = ap (among s) (serials_more look ids i l) ∙ list_any-append (nat_eq s) (geode_serials look (take i ids)) (geode_serial (look (get_or ids i 0))) in
    by (among s (geode_serials look (take i ids))) (among s (geode_serial (look (get_or ids i 0)))) refl refl (sym among_more ∙ e)
  where
    by : (a b : Bool) → among s (geode_serials look (take i ids)) ≡ a → among s (geode_serial (look (get_or ids i 0))) ≡ b → (a || b) ≡ true → 0 < after s
    by true b ea eb t = omega (arith, h s ea, more s)
    by false true ea eb t = k s eb
    by false false ea eb t = absurd (false≢true t)

pub others_more : (look : Look) (ids : List ℕ) (i : ℕ) (first before after : ℕ → ℕ) → i < length ids →
    ((s : ℕ) → among s (geode_serials look (take i ids)) ≡ false → before s ≡ first s) →
    ((s : ℕ) → among s (geode_serial (look (get_or ids i 0))) ≡ false → after s ≡ before s) →
    (s : ℕ) → among s (geode_serials look (take (i + 1) ids)) ≡ false → after s ≡ first s
others_more look ids i first before after l h k s e =
    let among_more = ap (among s) (serials_more look ids i l) ∙ list_any-append (nat_eq s) (geode_serials look (take i ids)) (geode_serial (look (get_or ids i 0))) in
    by (among s (geode_serials look (take i ids))) (among s (geode_serial (look (get_or ids i 0)))) refl refl (sym among_more ∙ e)
  where
    by : (a b : Bool) → among s (geode_serials look (take i ids)) ≡ a → among s (geode_serial (look (get_or ids i 0))) ≡ b → (a || b) ≡ false → after s ≡ first s
    by false false ea eb t = k s eb ∙ h s ea
    by true b ea eb t = absurd (false≢true (sym t))
    by false true ea eb t = absurd (false≢true (sym t))

or_right : (a b : Bool) → b ≡ true → (a || b) ≡ true
or_right true b h = refl
or_right false b h = h

-- the greatest number stays within each bound that is above what is out
pub most_more : (look : Look) (ids : List ℕ) (i : ℕ) (first before : ℕ → ℕ) (first_most before_most after_most : ℕ) → i < length ids →
    ((s : ℕ) → before s ≡ first s) →
    ((b : ℕ) → first_most ≤ b → ((s : ℕ) → among s (geode_serials look (take i ids)) ≡ true → first s < b) → before_most ≤ b) →
    ((b : ℕ) → before_most ≤ b → ((s : ℕ) → among s (geode_serial (look (get_or ids i 0))) ≡ true → before s < b) → after_most ≤ b) →
    (b : ℕ) → first_most ≤ b → ((s : ℕ) → among s (geode_serials look (take (i + 1) ids)) ≡ true → first s < b) → after_most ≤ b
most_more look ids i first before first_most before_most after_most l same h k b low below =
    let front : ℕ → Bool = λ s. among s (geode_serials look (take i ids)) in
    let last : ℕ → Bool = λ s. among s (geode_serial (look (get_or ids i 0))) in
    let among_more : (s : ℕ) → among s (geode_serials look (take (i + 1) ids)) ≡ (front s || last s) =
    λ s. ap (among s) (serials_more look ids i l) ∙ list_any-append (nat_eq s) (geode_serials look (take i ids)) (geode_serial (look (get_or ids i 0))) in
    k b (h b low (λ s e. below s (among_more s ∙ ap (λ a. a || last s) e)))
    (λ s e. omega (arith, same s, below s (among_more s ∙ or_right (front s) (last s) e)))

-- An entry's node exchanged

pub swapped_ids : (xs : UpdateList) (i : ℕ) (d : ℕ × Option Node) (n : Option Node) → i < length xs →
    map (λ e. e.0) (set xs i ((get_or xs i d).0, n)) ≡ map (λ e. e.0) xs
swapped_ids xs i d n l =
    let id : ℕ × Option Node → ℕ = λ e. e.0 in
    map-set id xs i ((get_or xs i d).0, n) ∙ ap (λ a. set (map id xs) i a) (sym (get_or-map id xs i d 0 l)) ∙ set-get_or (map id xs) i 0

pub swapped_nodes : (xs : UpdateList) (i a : ℕ) (n m : Option Node) → n ≡ m → map (λ e. e.1) (set xs i (a, n)) ≡ set (map (λ e. e.1) xs) i m
swapped_nodes xs i a n m e =
    let node : ℕ × Option Node → Option Node = λ e. e.1 in
    map-set node xs i (a, n) ∙ ap (λ k. set (map node xs) i k) e

pub swapped_out : (xs : UpdateList) (i : ℕ) (d : ℕ × Option Node) (n : Option Node) → i < length xs → n ≡ (get_or xs i d).1 →
    option_map (λ e. e.1) (slice_get xs i) ≡ Some n
swapped_out xs i d n l e =
    let node : ℕ × Option Node → Option Node = λ e. e.1 in
    ap (λ o. option_map node o) (slice_get-get_or xs i d l) ∙ ap (λ k. Some k) (sym e)

-- A scene without geodes

serials_none : (look : Look) (ids : List ℕ) → ((id : ℕ) → geode_serial (look id) ≡ []) → geode_serials look ids ≡ []
serials_none look [] none = refl
serials_none look (id ∷ ids) none = rw (none id) (serials_none look ids none)

once_none : IsDistinct nat_eq []
unfolding IsDistinct
once_none = tt

written_none : (w : ℕ → Option (List Tri)) (o : Option Node) → geode_serial o ≡ [] → IsWritten w o
written_none w None h = tt
written_none w (Some n) h = λ e. absurd (by (is_geode n.kind) e h)
  where
    by : (t : Bool) → t ≡ true → cond t (n.serial ∷ []) [] ≡ [] → ⊥
    by true e h = cc
    by false e h = false≢true e

pub no_geodes : (w : ℕ → Option (List Tri)) (look : Look) (ids : List ℕ) → ((id : ℕ) → geode_serial (look id) ≡ []) → CanTake w look ids
no_geodes w look ids none = record {
  differ = rw (serials_none look ids none) once_none;
  contents = λ k d l. written_none w (look (get_or ids k d)) (none (get_or ids k d));
}
