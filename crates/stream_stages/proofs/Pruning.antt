-- What is below a node that is outside is outside, and is not visited.
use Rattle.std.proofs.Common.{◌≡◌, ◌∙◌, ℕ, zero, suc, ◌+◌, List, [], ◌∷◌, ◌++◌, length, Bool, true, false, cond, not, ◌||◌, Option, Some, None, ap, sym, refl, subst, arith}
use Rattle.std.specs.Prelude.{map, filter, count_by, flat_map}
use Rattle.std.specs.List.{AllByRecursion, enumerate_from, list_any, slice_get}
use Rattle.std.specs.Option.{option_map, option_map_or, option_to_list}
use Rattle.std.proofs.lemmas.List.Sums.{sum_by-append, sum_by-cons}
use Rattle.fx_math.specs.Plain.{Matrix, Bounds}
use Rattle.fx_math.specs.Fixed.{carry_box}
use Rattle.fx_math.specs.declared.lenses.Lens.{Lens}
use Rattle.fx_math.proofs.Containment.{carry_box-IsBox, carry_box-append}
use Rattle.pf_bounds.proofs.Culling.{outside_parts}
use Rattle.pf_model.specs.declared.geometry.Tri.{Tri}
use Rattle.pf_model.specs.declared.nodes.Chosen.{Chosen}
use Rattle.pf_model.specs.declared.nodes.Chosen.TheVariants as chosen
use Rattle.pf_model.specs.declared.nodes.Kind.{Kind}
use Rattle.pf_model.specs.declared.nodes.Kind.TheVariants.{Group, Switch, Scs, Dcs, Lod, Seq, Layer, Geode, Glass}
use Rattle.pf_model.specs.declared.nodes.Node.{Node}
use Rattle.fx_math.specs.Plain.{Point}
use Rattle.pf_model.specs.Kinds.{geom_of, own_steps, chosen_of}
use Rattle.pf_model.specs.Graphs.{Look}
use Rattle.pf_model.specs.Boxes.{box_step, eye_box}
use Rattle.pf_model.specs.Laws.{Lies, IsBoxOrNone}
use Rattle.pf_model.specs.Walks.{Occurrence, shown_children, chosen_in, child_of, children_in, under, walk_in}
use Rattle.pf_model.proofs.Nesting.{lies_carried, children_lie}
use Rattle.draw_list.specs.Shown.{is_off, is_culled, is_in_sight, is_visited}

-- boxes that obey their recursion, and are boxes
pub record AreRight (look : Look) (boxes : ℕ → Option Bounds) : Type 0 where
  pub step : (id : ℕ) → boxes id ≡ box_step look boxes id
  pub are_boxes : (id : ℕ) → IsBoxOrNone (boxes id)

-- ---- shown children are children
all_enumerated : (P : ℕ → Type 0) (n : ℕ) (cs : List ℕ) → AllByRecursion P cs → AllByRecursion {X = ℕ × ℕ} (λ c. P c.1) (enumerate_from n cs)
all_enumerated P n [] h = tt
all_enumerated P n (c ∷ cs) h = (h.0, all_enumerated P (n + 1) cs h.1)

one_of : (P : ℕ → Type 0) (i place : ℕ) (cs : List ℕ) → AllByRecursion P cs → AllByRecursion {X = ℕ × ℕ} (λ c. P c.1) (option_to_list (option_map (λ c. (place, c)) (slice_get cs i)))
one_of P i place [] h = tt
one_of P zero place (c ∷ cs) h = (h.0, tt)
one_of P (suc i) place (c ∷ cs) h = one_of P i place cs h.1

pub all_shown : (P : ℕ → Type 0) (ch : Chosen) (cs : List ℕ) → AllByRecursion P cs → AllByRecursion {X = ℕ × ℕ} (λ c. P c.1) (shown_children ch cs)
all_shown P chosen.All cs h = all_enumerated P 0 cs h
all_shown P chosen.Nothing cs h = tt
all_shown P (chosen.One i) cs h = one_of P i i cs h

all_mapped : {X Y : Type 0} (P : Y → Type 0) (f : X → Y) (xs : List X) → AllByRecursion (λ x. P (f x)) xs → AllByRecursion P (map f xs)
all_mapped P f [] h = tt
all_mapped P f (x ∷ xs) h = (h.0, all_mapped P f xs h.1)

all_weaker : {X : Type 0} (P Q : X → Type 0) → ((x : X) → P x → Q x) → (xs : List X) → AllByRecursion P xs → AllByRecursion Q xs
all_weaker P Q w [] h = tt
all_weaker P Q w (x ∷ xs) h = (w x h.0, all_weaker P Q w xs h.1)

-- a geode shows no children
pub no_children : (k : Kind) (ts : List Tri) (centre : Point) (time n : ℕ) → geom_of k ≡ Some ts → chosen_of k centre time n ≡ chosen.Nothing
no_children (Geode s us) ts centre time n e = refl
no_children (Glass s a us) ts centre time n e = refl
no_children Group ts centre time n e = absurd (cc)
no_children (Switch p) ts centre time n e = absurd (cc)
no_children (Scs m) ts centre time n e = absurd (cc)
no_children (Dcs p) ts centre time n e = absurd (cc)
no_children (Lod c rs) ts centre time n e = absurd (cc)
no_children (Seq us r) ts centre time n e = absurd (cc)
no_children Layer ts centre time n e = absurd (cc)

-- ---- the eye box of a child lies in that of its parent
carried_box : (ms : List Matrix) (b : Option Bounds) → IsBoxOrNone b → IsBoxOrNone (option_map (carry_box ms) b)
carried_box ms None h = tt
carried_box ms (Some b) h = carry_box-IsBox ms b h

carried_on : (ms ns : List Matrix) (b : Option Bounds) → option_map (carry_box ns) (option_map (carry_box ms) b) ≡ option_map (carry_box (ms ++ ns)) b
carried_on ms ns None = refl
carried_on ms ns (Some b) = ap (λ (c : Bounds). Some c) (sym (carry_box-append ms ns b))

lies_off : (lens : Lens) (a b : Option Bounds) → Lies a b → is_off lens b ≡ true → is_off lens a ≡ true
lies_off lens None b h off = refl
lies_off lens (Some a) None h off = absurd h
lies_off lens (Some a) (Some b) h off = outside_parts lens b off a h

abbrev IsOff : Lens → (ℕ → Option Bounds) → Occurrence → Type 0
IsOff lens boxes o = is_culled lens boxes o.id o.steps ≡ true

children_off : (lens : Lens) (look : Look) (boxes : ℕ → Option Bounds) → AreRight look boxes → (time : ℕ) (o : Occurrence) (n : Node) → look o.id ≡ Some n → IsOff lens boxes o → AllByRecursion (IsOff lens boxes) (children_in time o n)
children_off lens look boxes right time o n found off = by (geom_of n.kind) refl
  where
    below : geom_of n.kind ≡ None → (c : ℕ) → Lies (option_map (carry_box (own_steps n.kind)) (boxes c)) (boxes o.id) → is_culled lens boxes c (own_steps n.kind ++ o.steps) ≡ true
    below none c h =
        lies_off lens (eye_box boxes c (own_steps n.kind ++ o.steps)) (eye_box boxes o.id o.steps)
        (subst (λ (b : Option Bounds). Lies b (eye_box boxes o.id o.steps)) (carried_on (own_steps n.kind) o.steps (boxes c))
        (lies_carried o.steps (option_map (carry_box (own_steps n.kind)) (boxes c)) (boxes o.id) (carried_box (own_steps n.kind) (boxes c) (right.are_boxes c)) h)) off

    by : (g : Option (List Tri)) → geom_of n.kind ≡ g → AllByRecursion (IsOff lens boxes) (children_in time o n)
    by None e =
        all_mapped (IsOff lens boxes) (child_of n o) (shown_children (chosen_in time n o.steps) n.children)
        (all_shown (λ c. is_culled lens boxes c (own_steps n.kind ++ o.steps) ≡ true) (chosen_in time n o.steps) n.children
        (all_weaker (λ c. Lies (option_map (carry_box (own_steps n.kind)) (boxes c)) (boxes o.id)) (λ c. is_culled lens boxes c (own_steps n.kind ++ o.steps) ≡ true) (below e) n.children
        (children_lie look boxes right.step right.are_boxes o.id n found e)))
    by (Some ts) e =
        subst (λ (ch : Chosen). AllByRecursion (IsOff lens boxes) (map (child_of n o) (shown_children ch n.children)))
        (sym (no_children n.kind ts _ time (length n.children) e)) tt

under_off : (lens : Lens) (look : Look) (boxes : ℕ → Option Bounds) → AreRight look boxes → (time : ℕ) (o : Occurrence) → IsOff lens boxes o → AllByRecursion (IsOff lens boxes) (under look time o)
under_off lens look boxes right time o off = by (look o.id) refl
  where
    by : (l : Option Node) → look o.id ≡ l → AllByRecursion (IsOff lens boxes) (option_map_or (children_in time o) l [])
    by None e = tt
    by (Some n) e = children_off lens look boxes right time o n e off

-- ---- nothing below is in sight
pub filter-append : {X : Type 0} (p : X → Bool) (xs ys : List X) → filter p (xs ++ ys) ≡ filter p xs ++ filter p ys
filter-append p [] ys = refl
filter-append {X} p (x ∷ xs) ys = by (p x) (filter-append p xs ys)
  where
    by : (t : Bool) → filter p (xs ++ ys) ≡ filter p xs ++ filter p ys → cond t (x ∷ filter p (xs ++ ys)) (filter p (xs ++ ys)) ≡ cond t (x ∷ filter p xs) (filter p xs) ++ filter p ys
    by true e = ap (λ (zs : List X). x ∷ zs) e
    by false e = e

all_out : (lens : Lens) (boxes : ℕ → Option Bounds) (f : Occurrence → List Occurrence) → ((o : Occurrence) → IsOff lens boxes o → filter (is_in_sight lens boxes) (f o) ≡ []) →
    (os : List Occurrence) → AllByRecursion (IsOff lens boxes) os → filter (is_in_sight lens boxes) (flat_map f os) ≡ []
all_out lens boxes f each [] h = refl
all_out lens boxes f each (o ∷ os) h =
    filter-append (is_in_sight lens boxes) (f o) (flat_map f os)
    ∙ ap (λ (xs : List Occurrence). xs ++ filter (is_in_sight lens boxes) (flat_map f os)) (each o h.0)
    ∙ all_out lens boxes f each os h.1

pub out_of_sight : (lens : Lens) (look : Look) (boxes : ℕ → Option Bounds) → AreRight look boxes → (time n : ℕ) (o : Occurrence) → IsOff lens boxes o → filter (is_in_sight lens boxes) (walk_in n look time o) ≡ []
unfolding walk_in
out_of_sight lens look boxes right time zero o off = refl
out_of_sight lens look boxes right time (suc n) o off =
    ap (λ (t : Bool). cond (not t) (o ∷ rest) rest) off
    ∙ all_out lens boxes (walk_in n look time) (λ p h. out_of_sight lens look boxes right time n p h) (under look time o) (under_off lens look boxes right time o off)
  where
    rest : List Occurrence
    rest = filter (is_in_sight lens boxes) (flat_map (walk_in n look time) (under look time o))

-- ---- nothing below is visited
abbrev pub has_off_above : Lens → (ℕ → Option Bounds) → Occurrence → Bool
has_off_above lens boxes o = list_any (λ p. is_culled lens boxes p.id p.steps) o.above

abbrev IsBelowOff : Lens → (ℕ → Option Bounds) → Occurrence → Type 0
IsBelowOff lens boxes o = has_off_above lens boxes o ≡ true

children_below : (lens : Lens) (boxes : ℕ → Option Bounds) (o : Occurrence) (n : Node) → (is_culled lens boxes o.id o.steps || has_off_above lens boxes o) ≡ true → (cs : List (ℕ × ℕ)) → AllByRecursion (IsBelowOff lens boxes) (map (child_of n o) cs)
children_below lens boxes o n h [] = tt
children_below lens boxes o n h (c ∷ cs) = (h, children_below lens boxes o n h cs)

under_below : (lens : Lens) (look : Look) (boxes : ℕ → Option Bounds) (time : ℕ) (o : Occurrence) → (is_culled lens boxes o.id o.steps || has_off_above lens boxes o) ≡ true → AllByRecursion (IsBelowOff lens boxes) (under look time o)
under_below lens look boxes time o h = by (look o.id)
  where
    by : (l : Option Node) → AllByRecursion (IsBelowOff lens boxes) (option_map_or (children_in time o) l [])
    by None = tt
    by (Some n) = children_below lens boxes o n h (shown_children (chosen_in time n o.steps) n.children)

none_counted : (lens : Lens) (boxes : ℕ → Option Bounds) (f : Occurrence → List Occurrence) → ((o : Occurrence) → IsBelowOff lens boxes o → count_by (is_visited lens boxes) (f o) ≡ 0) →
    (os : List Occurrence) → AllByRecursion (IsBelowOff lens boxes) os → count_by (is_visited lens boxes) (flat_map f os) ≡ 0
none_counted lens boxes f each [] h = refl
none_counted lens boxes f each (o ∷ os) h =
    omega (arith, sum_by-append (λ p. cond (is_visited lens boxes p) 1 0) (f o) (flat_map f os), each o h.0, none_counted lens boxes f each os h.1)

or_true : (t : Bool) → (t || true) ≡ true
or_true true = refl
or_true false = refl

abbrev one_or_none : Bool → ℕ
one_or_none t = cond t 1 0

-- the walk right below an occurrence that is outside or below one that is
pub none_visited : (lens : Lens) (look : Look) (boxes : ℕ → Option Bounds) (time n : ℕ) (o : Occurrence) → (is_culled lens boxes o.id o.steps || has_off_above lens boxes o) ≡ true →
    count_by (is_visited lens boxes) (flat_map (walk_in n look time) (under look time o)) ≡ 0
unfolding walk_in
none_visited lens look boxes time n o h = none_counted lens boxes (walk_in n look time) (walked n) (under look time o) (under_below lens look boxes time o h)
  where
    walked : (n : ℕ) (p : Occurrence) → IsBelowOff lens boxes p → count_by (is_visited lens boxes) (walk_in n look time p) ≡ 0
    walked zero p below = refl
    walked (suc n) p below =
        let out : one_or_none (not (has_off_above lens boxes p)) ≡ 0 = ap (λ (t : Bool). one_or_none (not t)) below in
        omega (
          arith,
          sum_by-cons (λ q. cond (is_visited lens boxes q) 1 0) p (flat_map (walk_in n look time) (under look time p)),
          out,
          none_counted lens boxes (walk_in n look time) (walked n) (under look time p)
              (under_below lens look boxes time p (ap (λ (t : Bool). is_culled lens boxes p.id p.steps || t) below ∙ or_true (is_culled lens boxes p.id p.steps))),
        )
