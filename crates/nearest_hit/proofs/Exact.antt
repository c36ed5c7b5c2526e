-- On graphs within the limits the probe finds the nearest hit, and tests the triangles of the instances near the segment.
use Rattle.std.proofs.Common.{◌≡◌, ◌∙◌, ℕ, zero, suc, ◌+◌, ◌≤◌, List, [], ◌∷◌, ◌++◌, length, Bool, true, false, cond, Option, Some, None, ap, sym, refl, subst, arith, length-append}
use Rattle.std.specs.Prelude.{map, fold, filter, flat_map, filter_map, sum}
use Rattle.std.specs.List.{AllByRecursion, cons_option, enumerate_from, slice_get}
use Rattle.std.specs.Option.{option_map, option_map_or, option_and_then, option_to_list}
use Rattle.std.proofs.lemmas.List.{append-nil}
use Rattle.std.proofs.lemmas.List.Sums.{fold-append, sum_by-cons}
use Rattle.fx_math.specs.Plain.{Matrix}
use Rattle.fx_math.specs.Fixed.{carry_box}
use Rattle.pf_model.specs.declared.nodes.Chosen.{Chosen}
use Rattle.pf_model.specs.declared.nodes.Chosen.TheVariants as chosen
use Rattle.pf_model.specs.declared.nodes.Node.{Node}
use Rattle.pf_model.specs.Angles.{Viewpoint}
use Rattle.pf_model.specs.Boxes.{box_of, carried_tris_box, eye_box}
use Rattle.pf_model.specs.Graphs.{Look, size_in, size_of}
use Rattle.pf_model.specs.Kinds.{Surface, surface_of, own_steps}
use Rattle.pf_model.specs.Laws.{HasNodeBox}
use Rattle.pf_model.specs.Walks.{Occurrence, Instance, instance_of, surface_in, shown_children, chosen_in, child_of, children_in, under, walk_in, walk, scene_at, steps_of_view, instances}
use Rattle.pf_model.proofs.Levels.{walk_step, size_at_limit}
use Rattle.pf_model.proofs.Numbering.{boxed_from_scratch}
use Rattle.nearest_hit.specs.declared.found.Near.{Near}
use Rattle.nearest_hit.specs.declared.segment.Segment.{Segment}
use Rattle.nearest_hit.specs.Nearest.{hits_of, closer, nearest, is_near, is_instance_near, triangles_near, CanBeProbed}
use Rattle.nearest_hit.specs.Working.{Sight, Findings, counted, bare, tested, with_surface, with_own, over, entered, probed, searched}
use Rattle.nearest_hit.proofs.Corners.{no_hits}

-- ---- by levels: the probe visits the occurrences of the walk
-- what the node of an id draws
abbrev pub drawn_by : Look → ℕ → Option Surface
drawn_by look id = option_and_then (λ n. surface_of n.kind) (look id)

abbrev pub visit : Sight → Findings → Occurrence → Findings
visit s f o = with_own s.segment (eye_box s.boxes o.id o.steps) o.id o.steps f (drawn_by s.look o.id)

probed_next : (n : ℕ) (s : Sight) (f : Findings) (id : ℕ) (steps : List Matrix) → probed (suc n) s f id steps ≡ option_map_or (entered (probed n s) s f id steps) (s.look id) f
unfolding probed
probed_next n s f id steps = refl

abbrev VisitsAll : ℕ → Sight → Type 0
VisitsAll n s = (f : Findings) (o : Occurrence) → probed n s f o.id o.steps ≡ fold (visit s) f (walk_in n s.look s.time o)

children_visited : (n : ℕ) (s : Sight) → VisitsAll n s → (m : Node) (o : Occurrence) (f : Findings) (cs : List (ℕ × ℕ)) →
    over (probed n s) (own_steps m.kind ++ o.steps) f cs ≡ fold (visit s) f (flat_map (walk_in n s.look s.time) (map (child_of m o) cs))
children_visited n s each m o f [] = refl
children_visited n s each m o f (c ∷ cs) =
    children_visited n s each m o (probed n s f c.1 (own_steps m.kind ++ o.steps)) cs
    ∙ ap (λ (g : Findings). fold (visit s) g (flat_map (walk_in n s.look s.time) (map (child_of m o) cs))) (each f (child_of m o c))
    ∙ sym (fold-append (visit s) f (walk_in n s.look s.time (child_of m o c)) (flat_map (walk_in n s.look s.time) (map (child_of m o) cs)))

none_visited : (s : Sight) → VisitsAll 0 s
unfolding probed walk_in
none_visited s f o = refl

pub all_visited : (n : ℕ) (s : Sight) → VisitsAll n s
all_visited zero s f o = none_visited s f o
all_visited (suc n) s f o =
    probed_next n s f o.id o.steps
    ∙ same (s.look o.id) (λ g p. all_visited n s g p)
    ∙ ap (fold (visit s) f) (sym (walk_step n s.look s.time o))
  where
    same : (l : Option Node) → VisitsAll n s →
        option_map_or (entered (probed n s) s f o.id o.steps) l f
        ≡ fold (visit s) (with_own s.segment (eye_box s.boxes o.id o.steps) o.id o.steps f (option_and_then (λ m. surface_of m.kind) l)) (flat_map (walk_in n s.look s.time) (option_map_or (children_in s.time o) l []))
    same None each = refl
    same (Some m) each =
        children_visited n s each m o (with_own s.segment (eye_box s.boxes o.id o.steps) o.id o.steps f (surface_of m.kind)) (shown_children (chosen_in s.time m o.steps) m.children)

-- ---- by occurrences: a visit adds the hits of the instance
abbrev pub greatest_number : ℕ
greatest_number = 4294967295

abbrev pub listed : Look → ℕ → List Occurrence → List Instance
listed look n os = map (λ e. instance_of e.1.0 e.1.1 e.0) (enumerate_from n (filter_map (surface_in look) os))

abbrev pair : Occurrence → Surface → Occurrence × Surface
pair o s = (o, s)

abbrev consed : Look → Occurrence → ℕ → List Occurrence → Option Surface → List Instance
consed look o n os s = map (λ e. instance_of e.1.0 e.1.1 e.0) (enumerate_from n (cons_option (option_map (pair o) s) (filter_map (surface_in look) os)))

abbrev pub near_triangles : Segment → List Instance → ℕ
near_triangles s xs = sum (map (λ x. length x.tris) (filter (is_instance_near s) xs))

-- what is found once these instances have been seen
abbrev pub after : Segment → Findings → List Instance → Findings
after s f xs =
    record {
      place = f.place + length xs;
      best = fold closer f.best (flat_map (hits_of s) xs);
      tests = f.tests + near_triangles s xs;
    }

plus_none : (n : ℕ) → n ≡ n + 0
plus_none n = omega arith

counted_more : (n : ℕ) → n + 1 ≤ greatest_number → counted n ≡ n + 1
counted_more n h = omega (arith, h)

sum_more : (x : ℕ) (xs : List ℕ) → sum (x ∷ xs) ≡ x + sum xs
sum_more x xs = sum_by-cons (λ (n : ℕ). n) x xs

-- the boxes are those of the definition
abbrev AreRight : Sight → Type 0
AreRight s = (id : ℕ) → s.boxes id ≡ box_of s.look id

-- the triangles of an occurrence have the box of its node
node_box : (s : Sight) → AreRight s → (o : Occurrence) (t : Surface) → drawn_by s.look o.id ≡ Some t → carried_tris_box o.steps t.tris ≡ eye_box s.boxes o.id o.steps
node_box s right o t e =
    (subst (λ (u : Option Surface). AllByRecursion (HasNodeBox (box_of s.look)) (consed s.look o 0 [] u)) e (boxed_from_scratch s.look (o ∷ []))).0
    ∙ ap (option_map (carry_box o.steps)) (sym (right o.id))

-- an instance near the segment is tested, another one has no hits
one_seen : (s : Sight) → AreRight s → (f : Findings) (o : Occurrence) (t : Surface) → drawn_by s.look o.id ≡ Some t → f.place + 1 ≤ greatest_number →
    with_surface s.segment (eye_box s.boxes o.id o.steps) o.id o.steps f t ≡ after s.segment f (instance_of o t f.place ∷ [])
one_seen s right f o t e room = by (is_near s.segment (eye_box s.boxes o.id o.steps)) refl
  where
    number : counted f.place ≡ f.place + 1
    number = counted_more f.place room

    near_is : is_instance_near s.segment (instance_of o t f.place) ≡ is_near s.segment (eye_box s.boxes o.id o.steps)
    near_is = ap (is_near s.segment) (node_box s right o t e)

    count_true : (b : Bool) → b ≡ true → sum (map (λ y. length y.tris) (cond b (instance_of o t f.place ∷ []) [])) ≡ length t.tris
    count_true b h = rw h (omega (arith, sum_more (length t.tris) []))

    count_false : (b : Bool) → b ≡ false → sum (map (λ y. length y.tris) (cond b (instance_of o t f.place ∷ []) [])) ≡ 0
    count_false b h = rw h refl

    by : (b : Bool) → is_near s.segment (eye_box s.boxes o.id o.steps) ≡ b →
        record (cond b (tested s.segment f (bare o.id o.steps f.place t)) f) { place = counted f.place } ≡ after s.segment f (instance_of o t f.place ∷ [])
    by true h = λ i. record {
      place = number i;
      best = ap (fold closer f.best) (sym (append-nil (hits_of s.segment (instance_of o t f.place)))) i;
      tests = ap (λ (k : ℕ). f.tests + k) (sym (count_true (is_instance_near s.segment (instance_of o t f.place)) (near_is ∙ h))) i;
    }
    by false h = λ i. record {
      place = number i;
      best = ap (λ (hs : List Near). fold closer f.best (hs ++ [])) (sym (no_hits s.segment (instance_of o t f.place) (near_is ∙ h))) i;
      tests = (plus_none f.tests ∙ ap (λ (k : ℕ). f.tests + k) (sym (count_false (is_instance_near s.segment (instance_of o t f.place)) (near_is ∙ h)))) i;
    }

near_more : (s : Segment) (x : Instance) (xs : List Instance) → near_triangles s (x ∷ xs) ≡ near_triangles s (x ∷ []) + near_triangles s xs
near_more s x xs = by (is_instance_near s x)
  where
    rest : List Instance
    rest = filter (is_instance_near s) xs

    by : (b : Bool) → sum (map (λ y. length y.tris) (cond b (x ∷ rest) rest)) ≡ sum (map (λ y. length y.tris) (cond b (x ∷ []) [])) + sum (map (λ y. length y.tris) rest)
    by true = omega (arith, sum_more (length x.tris) (map (λ y. length y.tris) rest), sum_more (length x.tris) [])
    by false = omega arith

after_more : (s : Segment) (f : Findings) (x : Instance) (xs : List Instance) → after s (after s f (x ∷ [])) xs ≡ after s f (x ∷ xs)
after_more s f x xs = λ i. record {
  place = place i;
  best = best i;
  tests = tests i;
}
  where
    place : f.place + length (x ∷ []) + length xs ≡ f.place + length (x ∷ xs)
    place = omega arith

    tests : f.tests + near_triangles s (x ∷ []) + near_triangles s xs ≡ f.tests + near_triangles s (x ∷ xs)
    tests = omega (arith, near_more s x xs)

    best : fold closer (fold closer f.best (hits_of s x ++ [])) (flat_map (hits_of s) xs) ≡ fold closer f.best (hits_of s x ++ flat_map (hits_of s) xs)
    best =
        ap (λ (ns : List Near). fold closer (fold closer f.best ns) (flat_map (hits_of s) xs)) (append-nil (hits_of s x))
        ∙ sym (fold-append closer f.best (hits_of s x) (flat_map (hits_of s) xs))

after_none : (s : Segment) (f : Findings) → f ≡ after s f []
after_none s f = λ i. record { place = plus_none f.place i; best = f.best; tests = plus_none f.tests i }

pub all_seen : (s : Sight) → AreRight s → (f : Findings) (os : List Occurrence) → f.place + length os ≤ greatest_number → fold (visit s) f os ≡ after s.segment f (listed s.look f.place os)
all_seen s right f [] room = after_none s.segment f
all_seen s right f (o ∷ os) room = by (drawn_by s.look o.id) refl (λ g more. all_seen s right g os more)
  where
    by : (t : Option Surface) → drawn_by s.look o.id ≡ t → ((g : Findings) → g.place + length os ≤ greatest_number → fold (visit s) g os ≡ after s.segment g (listed s.look g.place os)) →
        fold (visit s) (with_own s.segment (eye_box s.boxes o.id o.steps) o.id o.steps f (drawn_by s.look o.id)) os ≡ after s.segment f (consed s.look o f.place os (drawn_by s.look o.id))
    by None e later =
        ap (λ (t : Option Surface). fold (visit s) (with_own s.segment (eye_box s.boxes o.id o.steps) o.id o.steps f t) os) e
        ∙ later f (omega (arith, room))
        ∙ ap (λ (t : Option Surface). after s.segment f (consed s.look o f.place os t)) (sym e)
    by (Some t) e later =
        ap (λ (u : Option Surface). fold (visit s) (with_own s.segment (eye_box s.boxes o.id o.steps) o.id o.steps f u) os) e
        ∙ ap (λ (g : Findings). fold (visit s) g os) (one_seen s right f o t e (omega (arith, room)))
        ∙ later (after s.segment f (instance_of o t f.place ∷ [])) (omega (arith, room))
        ∙ after_more s.segment f (instance_of o t f.place) (listed s.look (f.place + 1) os)
        ∙ ap (λ (u : Option Surface). after s.segment f (consed s.look o f.place os u)) (sym e)

-- ---- a walk has no more occurrences than the size of the scene
abbrev pub sizes : ℕ → Look → List (ℕ × ℕ) → ℕ
sizes n look cs = sum (map (λ c. size_in n look c.1) cs)

sizes_all : (n : ℕ) (look : Look) (k : ℕ) (cs : List ℕ) → sizes n look (enumerate_from k cs) ≡ sum (map (size_in n look) cs)
sizes_all n look k [] = refl
sizes_all n look k (c ∷ cs) =
    sum_more (size_in n look c) (map (λ d. size_in n look d.1) (enumerate_from (k + 1) cs))
    ∙ ap (λ (m : ℕ). size_in n look c + m) (sizes_all n look (k + 1) cs)
    ∙ sym (sum_more (size_in n look c) (map (size_in n look) cs))

sizes_one : (n : ℕ) (look : Look) (i place : ℕ) (cs : List ℕ) → sizes n look (option_to_list (option_map (λ c. (place, c)) (slice_get cs i))) ≤ sum (map (size_in n look) cs)
sizes_one n look i place [] = omega arith
sizes_one n look zero place (c ∷ cs) =
    omega (arith, sum_more (size_in n look c) [], sum_more (size_in n look c) (map (size_in n look) cs))
sizes_one n look (suc i) place (c ∷ cs) =
    omega (arith, sizes_one n look i place cs, sum_more (size_in n look c) (map (size_in n look) cs))

sizes_shown : (n : ℕ) (look : Look) (ch : Chosen) (cs : List ℕ) → sizes n look (shown_children ch cs) ≤ sum (map (size_in n look) cs)
sizes_shown n look chosen.All cs = omega (arith, sizes_all n look 0 cs)
sizes_shown n look chosen.Nothing cs = omega arith
sizes_shown n look (chosen.One i) cs = sizes_one n look i i cs

size_more : (n : ℕ) (look : Look) (id : ℕ) (m : Node) → look id ≡ Some m → size_in (suc n) look id ≡ 1 + sum (map (size_in n look) m.children)
unfolding size_in
size_more n look id m found = ap (λ (l : Option Node). 1 + sum (map (size_in n look) (option_map_or (λ (p : Node). p.children) l []))) found

size_some : (n : ℕ) (look : Look) (id : ℕ) → 1 ≤ size_in (suc n) look id
unfolding size_in
size_some n look id = omega arith

within_below : (n : ℕ) (look : Look) (f : Occurrence → List Occurrence) → ((p : Occurrence) → length (f p) ≤ size_in n look p.id) → (m : Node) (o : Occurrence) (cs : List (ℕ × ℕ)) →
    length (flat_map f (map (child_of m o) cs)) ≤ sizes n look cs
within_below n look f each m o [] = omega arith
within_below n look f each m o (c ∷ cs) =
    omega (
      arith,
      length-append (f (child_of m o c)) (flat_map f (map (child_of m o) cs)),
      each (child_of m o c),
      within_below n look f each m o cs,
      sum_more (size_in n look c.1) (map (λ d. size_in n look d.1) cs),
    )

one_longer : (o : Occurrence) (os : List Occurrence) → length (o ∷ os) ≡ 1 + length os
one_longer o os = omega arith

none_within : (look : Look) (time : ℕ) (o : Occurrence) → length (walk_in 0 look time o) ≤ size_in 0 look o.id
unfolding walk_in size_in
none_within look time o = omega arith

walk_within : (n : ℕ) (look : Look) (time : ℕ) (o : Occurrence) → length (walk_in n look time o) ≤ size_in n look o.id
walk_within zero look time o = none_within look time o
walk_within (suc n) look time o = by (look o.id) refl (λ p. walk_within n look time p)
  where
    longer : length (walk_in (suc n) look time o) ≡ 1 + length (flat_map (walk_in n look time) (under look time o))
    longer = ap length (walk_step n look time o) ∙ one_longer o (flat_map (walk_in n look time) (under look time o))

    by : (l : Option Node) → look o.id ≡ l → ((p : Occurrence) → length (walk_in n look time p) ≤ size_in n look p.id) → length (walk_in (suc n) look time o) ≤ size_in (suc n) look o.id
    by None e each =
        let none : length (flat_map (walk_in n look time) (under look time o)) ≡ 0 = ap (λ (l : Option Node). length (flat_map (walk_in n look time) (option_map_or (children_in time o) l []))) e in
        omega (arith, longer, none, size_some n look o.id)
    by (Some m) e each =
        let some : length (flat_map (walk_in n look time) (under look time o)) ≡ length (flat_map (walk_in n look time) (children_in time o m)) =
        ap (λ (l : Option Node). length (flat_map (walk_in n look time) (option_map_or (children_in time o) l []))) e in
        omega (
          arith,
          longer,
          some,
          size_more n look o.id m e,
          within_below n look (walk_in n look time) each m o (shown_children (chosen_in time m o.steps) m.children),
          sizes_shown n look (chosen_in time m o.steps) m.children,
        )

-- ---- the whole scene
pub whole : (s : Sight) (v : Viewpoint) (tests : ℕ) → CanBeProbed s.look s.boxes s.time →
    searched s v tests ≡ after s.segment (record { place = 0; best = None; tests = tests }) (instances s.look s.time v)
whole s v tests can =
    all_visited 32 s (record { place = 0; best = None; tests = tests }) (scene_at (steps_of_view v))
    ∙ all_seen s can.boxes_are (record { place = 0; best = None; tests = tests }) (walk s.look s.time v) (omega (arith, within, size, can.limits.limits.small 0))
  where
    within : length (walk s.look s.time v) ≤ size_in 32 s.look 0
    within = walk_within 32 s.look s.time (scene_at (steps_of_view v))

    size : size_of s.look 0 ≡ size_in 32 s.look 0
    size = size_at_limit s.look 0 (can.limits.limits.low 0)

pub nearest_found : (s : Sight) (v : Viewpoint) (tests : ℕ) → CanBeProbed s.look s.boxes s.time → (searched s v tests).best ≡ nearest s.look s.time v s.segment
unfolding nearest
nearest_found s v tests can = ap (λ (f : Findings). f.best) (whole s v tests can)

pub near_tested : (s : Sight) (v : Viewpoint) (tests : ℕ) → CanBeProbed s.look s.boxes s.time → (searched s v tests).tests ≡ tests + triangles_near s.look s.time v s.segment
near_tested s v tests can = ap (λ (f : Findings). f.tests) (whole s v tests can)
