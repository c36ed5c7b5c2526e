-- All stops of a scene find what is shown, and are as many as the nodes that are visited.
use Rattle.std.proofs.Common.{◌≡◌, ◌∙◌, ℕ, zero, suc, ◌+◌, ◌*◌, ◌≤◌, ◌<◌, List, [], ◌∷◌, ◌++◌, length, Bool, true, false, cond, not, ◌||◌, Option, Some, None, ap, sym, refl, subst, arith, length-append}
use Rattle.std.specs.Prelude.{map, filter, count_by, flat_map, filter_map}
use Rattle.std.specs.List.{AllByRecursion, cons_option, enumerate_from, slice_get}
use Rattle.std.specs.Option.{option_map, option_map_or, option_and_then, option_to_list}
use Rattle.std.proofs.lemmas.List.{map-append}
use Rattle.std.proofs.lemmas.List.Elements.{filter-append, filter_map-append}
use Rattle.std.proofs.lemmas.List.Sums.{sum_by-append, sum_by-cons}
use Rattle.fx_math.specs.Plain.{Matrix, Bounds}
use Rattle.fx_math.specs.declared.lenses.Lens.{Lens}
use Rattle.pf_model.specs.declared.geometry.Tri.{Tri}
use Rattle.pf_model.specs.declared.nodes.Chosen.{Chosen}
use Rattle.pf_model.specs.declared.nodes.Chosen.TheVariants as chosen
use Rattle.pf_model.specs.declared.nodes.Kind.{Kind}
use Rattle.pf_model.specs.declared.nodes.Kind.TheVariants.{Group, Switch, Scs, Dcs, Lod, Seq, Layer, Geode, Glass}
use Rattle.pf_model.specs.declared.nodes.Node.{Node}
use Rattle.pf_model.specs.Graphs.{Look}
use Rattle.pf_model.specs.Kinds.{Surface, surface_of, own_steps, decal}
use Rattle.pf_model.specs.Boxes.{AreBoxes, squared_distance, carried_tris_box, eye_box}
use Rattle.pf_model.specs.Laws.{HasNodeBox}
use Rattle.pf_model.specs.Walks.{Occurrence, Instance, instance_of, surface_in, distance_of, shown_children, chosen_in, child_of, children_in, under, walk_in}
use Rattle.pf_model.proofs.Numbering.{boxed}
use Rattle.draw_list.specs.Shown.{is_off, is_culled, is_in_sight, is_visited}
use Rattle.cull_walk.specs.Working.{Scene, in_frustum}
use Rattle.stream_stages.specs.Stops.{Stop, nearer, box_at, stop_below, stops_below, stops_in, surface_at, instance_at, found_at}
use Rattle.stream_stages.proofs.Opened.{in_next, in_none}
use Rattle.stream_stages.proofs.Pruning.{AreRight, out_of_sight, none_visited, has_off_above}

-- a scene whose boxes are those of its nodes, with few children to a node
pub record IsTrue (s : Scene) : Type 0 where
  pub right : AreRight s.look s.boxes
  pub boxes : AreBoxes s.look s.boxes
  pub short : (id : ℕ) (n : Node) → s.look id ≡ Some n → length n.children ≤ 256

abbrev pub bare : Occurrence → Stop
bare o = record { id = o.id; steps = o.steps; shift = o.shift }

-- what occurrences draw, without ids and places
abbrev pub own : Occurrence × Surface → Instance
own e = record (instance_of e.0 e.1 0) { id = 0 }

abbrev pub drawn : Look → List Occurrence → List Instance
drawn look os = map own (filter_map (surface_in look) os)

abbrev shows : Scene → Occurrence → Bool
shows s o = is_in_sight s.lens s.boxes o

abbrev visits : Scene → Occurrence → Bool
visits s o = is_visited s.lens s.boxes o

-- the shift leaves room for so many levels
abbrev pub IsLow : ℕ → Occurrence → Type 0
IsLow n o = o.shift + 4096 * n ≤ 4294967295

-- ---- the box test
frustum_off : (lens : Lens) (b : Option Bounds) → is_off lens b ≡ true → in_frustum lens b ≡ None
frustum_off lens None off = refl
frustum_off lens (Some b) off = ap (λ (t : Bool). cond t None (Some b)) off

frustum_in : (lens : Lens) (b : Option Bounds) → is_off lens b ≡ false → (around : Bounds) × (in_frustum lens b ≡ Some around) × (b ≡ Some around)
frustum_in lens None off = absurd (cc)
frustum_in lens (Some b) off = (b, ap (λ (t : Bool). cond t None (Some b)) off, refl)

-- ---- children
children_numbered : (k : ℕ) (cs : List ℕ) → AllByRecursion {X = ℕ × ℕ} (λ c. c.0 < k + length cs) (enumerate_from k cs)
children_numbered k [] = tt
children_numbered k (c ∷ cs) = (omega arith, subst (λ (m : ℕ). AllByRecursion {X = ℕ × ℕ} (λ c. c.0 < m) (enumerate_from (k + 1) cs)) (more k (length cs)) (children_numbered (k + 1) cs))
  where
    more : (k n : ℕ) → k + 1 + n ≡ k + suc n
    more k n = omega arith

one_numbered : (place i : ℕ) (cs : List ℕ) (k : ℕ) → (i < length cs → place < k) → AllByRecursion {X = ℕ × ℕ} (λ c. c.0 < k) (option_to_list (option_map (λ c. (place, c)) (slice_get cs i)))
one_numbered place i [] k h = tt
one_numbered place zero (c ∷ cs) k h = (h (omega arith), tt)
one_numbered place (suc i) (c ∷ cs) k h = one_numbered place i cs k (λ l. h (omega (arith, l)))

all_numbered : (ch : Chosen) (cs : List ℕ) → AllByRecursion {X = ℕ × ℕ} (λ c. c.0 < length cs) (shown_children ch cs)
all_numbered chosen.All cs = subst (λ (m : ℕ). AllByRecursion {X = ℕ × ℕ} (λ c. c.0 < m) (enumerate_from 0 cs)) (none_more (length cs)) (children_numbered 0 cs)
  where
    none_more : (n : ℕ) → 0 + n ≡ n
    none_more n = omega arith
all_numbered chosen.Nothing cs = tt
all_numbered (chosen.One i) cs = one_numbered i i cs (length cs) (λ l. l)

decal_low : (k : Kind) (place : ℕ) → place < 256 → decal k * place ≤ 4096
decal_low Layer place l = omega (arith, l)
decal_low Group place l = omega arith
decal_low (Switch p) place l = omega arith
decal_low (Scs m) place l = omega arith
decal_low (Dcs p) place l = omega arith
decal_low (Lod c rs) place l = omega arith
decal_low (Seq ts r) place l = omega arith
decal_low (Geode s ts) place l = omega arith
decal_low (Glass s a ts) place l = omega arith

-- the stops below an occurrence are its children, whose shifts leave room for one level less
pub record AreChildren (n : ℕ) (s : Scene) (o : Occurrence) (ps : List Stop) (os : List Occurrence) : Type 0 where
  pub stops : ps ≡ map bare os
  pub low : AllByRecursion (IsLow n) os

each_child : (n : ℕ) (s : Scene) (o : Occurrence) (m : Node) (cs : List (ℕ × ℕ)) → IsLow (suc n) o → AllByRecursion (λ c. c.0 < 256) cs →
    AreChildren n s o (map (stop_below m (bare o)) cs) (map (child_of m o) cs)
each_child n s o m [] low few = record { stops = refl; low = tt }
each_child n s o m (c ∷ cs) low few =
    let step : decal m.kind * c.0 ≤ 4096 = decal_low m.kind c.0 few.0 in
    let same : nearer o.shift m.kind c.0 ≡ o.shift + decal m.kind * c.0 = omega (arith, step, low) in
    let rest : AreChildren n s o (map (stop_below m (bare o)) cs) (map (child_of m o) cs) = each_child n s o m cs low few.1 in
    record {
      stops = λ i. record { id = c.1; steps = own_steps m.kind ++ o.steps; shift = same i } ∷ rest.stops i;
      low = (omega (arith, step, low), rest.low);
    }

all_weaker : (P Q : ℕ × ℕ → Type 0) → ((c : ℕ × ℕ) → P c → Q c) → (cs : List (ℕ × ℕ)) → AllByRecursion P cs → AllByRecursion Q cs
all_weaker P Q w [] h = tt
all_weaker P Q w (c ∷ cs) h = (w c h.0, all_weaker P Q w cs h.1)

children_are : (n : ℕ) (s : Scene) (o : Occurrence) → IsTrue s → IsLow (suc n) o → AreChildren n s o (stops_below s (bare o)) (under s.look s.time o)
children_are n s o right low = by (s.look o.id) refl
  where
    by : (m : Option Node) → s.look o.id ≡ m →
        AreChildren n s o (option_map_or (λ m. map (stop_below m (bare o)) (shown_children (chosen_in s.time m o.steps) m.children)) m []) (option_map_or (children_in s.time o) m [])
    by None e = record { stops = refl; low = tt }
    by (Some m) e =
        each_child n s o m (shown_children (chosen_in s.time m o.steps) m.children) low
        (all_weaker (λ c. c.0 < length m.children) (λ c. c.0 < 256) (λ c l. omega (arith, l, right.short o.id m e)) (shown_children (chosen_in s.time m o.steps) m.children)
        (all_numbered (chosen_in s.time m o.steps) m.children))

-- ---- what is found
drawn-append : (look : Look) (os ps : List Occurrence) → drawn look (os ++ ps) ≡ drawn look os ++ drawn look ps
drawn-append look os ps = ap (map own) (filter_map-append (surface_in look) os ps) ∙ map-append own (filter_map (surface_in look) os) (filter_map (surface_in look) ps)

-- the triangles of an occurrence of a geode have the box of its node
abbrev pair : Occurrence → Surface → Occurrence × Surface
pair o t = (o, t)

node_box : (s : Scene) (o : Occurrence) (t : Surface) → AreBoxes s.look s.boxes → option_and_then (λ n. surface_of n.kind) (s.look o.id) ≡ Some t → carried_tris_box o.steps t.tris ≡ eye_box s.boxes o.id o.steps
node_box s o t meets draws =
    (subst (λ (u : Option Surface). AllByRecursion (HasNodeBox s.boxes) (map (λ e. instance_of e.1.0 e.1.1 e.0) (enumerate_from 0 (cons_option (option_map (pair o) u) []))))
    draws (boxed s.look s.boxes (o ∷ []) meets)).0

far_is : (t : Option ℕ) (steps : List Matrix) (tris : List Tri) (around : Bounds) → carried_tris_box steps tris ≡ Some around → option_map_or (λ _. squared_distance around) t 0 ≡ distance_of t steps tris
far_is None steps tris around e = refl
far_is (Some alpha) steps tris around e = ap (λ (b : Option Bounds). option_map_or squared_distance b 0) (sym e)

-- an occurrence in sight
found_own : (s : Scene) (o : Occurrence) (around : Bounds) → IsTrue s → in_frustum s.lens (eye_box s.boxes o.id o.steps) ≡ Some around → eye_box s.boxes o.id o.steps ≡ Some around → (os : List Occurrence) (xs : List Instance) →
    cons_option (found_at s (bare o)) xs ≡ map own (filter_map (surface_in s.look) (o ∷ [])) ++ xs
found_own s o around right seen box os xs =
    ap (λ (b : Option Bounds). cons_option (option_and_then (λ c. option_map (instance_at (bare o) c) (surface_at s o.id)) b) xs) seen
    ∙ by (surface_at s o.id) refl
  where
    by : (t : Option Surface) → surface_at s o.id ≡ t → cons_option (option_map (instance_at (bare o) around) t) xs ≡ map own (cons_option (option_map (pair o) t) []) ++ xs
    by None e = refl
    by (Some t) e = λ i. record (own (o, t)) { far = far_is t.tint o.steps t.tris around (node_box s o t right.boxes e ∙ box) i } ∷ xs

abbrev found : Scene → List Stop → List Instance
found s os = filter_map (found_at s) os

found_all : (s : Scene) (f : Stop → List Stop) (g : Occurrence → List Occurrence) (n : ℕ) → ((o : Occurrence) → IsLow n o → found s (f (bare o)) ≡ drawn s.look (filter (shows s) (g o))) →
    (os : List Occurrence) → AllByRecursion (IsLow n) os → found s (flat_map f (map bare os)) ≡ drawn s.look (filter (shows s) (flat_map g os))
found_all s f g n each [] low = refl
found_all s f g n each (o ∷ os) low =
    filter_map-append (found_at s) (f (bare o)) (flat_map f (map bare os))
    ∙ (λ i. each o low.0 i ++ found_all s f g n each os low.1 i)
    ∙ sym (drawn-append s.look (filter (shows s) (g o)) (filter (shows s) (flat_map g os)))
    ∙ ap (drawn s.look) (sym (filter-append (shows s) (g o) (flat_map g os)))

shown_next : (p : Occurrence → Bool) (n : ℕ) (look : Look) (time : ℕ) (o : Occurrence) →
    filter p (walk_in (suc n) look time o) ≡ cond (p o) (o ∷ filter p (flat_map (walk_in n look time) (under look time o))) (filter p (flat_map (walk_in n look time) (under look time o)))
unfolding walk_in
shown_next p n look time o = refl

none_shown : (p : Occurrence → Bool) (look : Look) (time : ℕ) (o : Occurrence) → [] ≡ filter p (walk_in 0 look time o)
unfolding walk_in
none_shown p look time o = refl

found_next : (n : ℕ) (s : Scene) → IsTrue s → (o : Occurrence) → IsLow (suc n) o → ((p : Occurrence) → IsLow n p → found s (stops_in n s (bare p)) ≡ drawn s.look (filter (shows s) (walk_in n s.look s.time p))) →
    found s (stops_in (suc n) s (bare o)) ≡ drawn s.look (filter (shows s) (walk_in (suc n) s.look s.time o))
found_next n s right o low each = ap (found s) (in_next n s (bare o)) ∙ by (is_culled s.lens s.boxes o.id o.steps) refl
  where
    stops : List Stop
    stops = flat_map (stops_in n s) (stops_below s (bare o))

    later : List Occurrence
    later = filter (shows s) (flat_map (walk_in n s.look s.time) (under s.look s.time o))

    below : found s stops ≡ drawn s.look later
    below =
        let kids : AreChildren n s o (stops_below s (bare o)) (under s.look s.time o) = children_are n s o right low in
        ap (λ (os : List Stop). found s (flat_map (stops_in n s) os)) kids.stops
        ∙ found_all s (stops_in n s) (walk_in n s.look s.time) n each (under s.look s.time o) kids.low

    by : (t : Bool) → is_culled s.lens s.boxes o.id o.steps ≡ t →
        found s (bare o ∷ option_map_or (λ _. stops) (box_at s (bare o)) []) ≡ drawn s.look (filter (shows s) (walk_in (suc n) s.look s.time o))
    by true e =
        ap (λ (b : Option Bounds). cons_option (option_and_then (λ c. option_map (instance_at (bare o) c) (surface_at s o.id)) b) (found s (option_map_or (λ _. stops) b []))) (frustum_off s.lens (eye_box s.boxes o.id o.steps) e)
        ∙ ap (drawn s.look) (sym (out_of_sight s.lens s.look s.boxes right.right s.time (suc n) o e))
    by false e =
        let (around, seen, box) = frustum_in s.lens (eye_box s.boxes o.id o.steps) e in
        ap (λ (b : Option Bounds). cons_option (found_at s (bare o)) (found s (option_map_or (λ _. stops) b []))) seen
        ∙ found_own s o around right seen box [] (found s stops)
        ∙ ap (λ (xs : List Instance). map own (filter_map (surface_in s.look) (o ∷ [])) ++ xs) below
        ∙ sym (drawn-append s.look (o ∷ []) later)
        ∙ ap (drawn s.look) (sym (shown_next (shows s) n s.look s.time o ∙ ap (λ (t : Bool). cond (not t) (o ∷ later) later) e))

pub found_are : (n : ℕ) (s : Scene) → IsTrue s → (o : Occurrence) → IsLow n o → found s (stops_in n s (bare o)) ≡ drawn s.look (filter (shows s) (walk_in n s.look s.time o))
found_are zero s right o low = ap (found s) (in_none s (bare o)) ∙ ap (drawn s.look) (none_shown (shows s) s.look s.time o)
found_are (suc n) s right o low = found_next n s right o low (λ p l. found_are n s right p l)

-- ---- how many there are
visits_next : (q : Occurrence → Bool) (n : ℕ) (look : Look) (time : ℕ) (o : Occurrence) →
    count_by q (walk_in (suc n) look time o) ≡ cond (q o) 1 0 + count_by q (flat_map (walk_in n look time) (under look time o))
unfolding walk_in
visits_next q n look time o = sum_by-cons (λ p. cond (q p) 1 0) o (flat_map (walk_in n look time) (under look time o))

no_visits : (q : Occurrence → Bool) (look : Look) (time : ℕ) (o : Occurrence) → count_by q (walk_in 0 look time o) ≡ 0
unfolding walk_in
no_visits q look time o = refl

abbrev one_or_none : Bool → ℕ
one_or_none t = cond t 1 0

abbrev IsClear : Scene → Occurrence → Type 0
IsClear s o = has_off_above s.lens s.boxes o ≡ false

count_all : (s : Scene) (f : Stop → List Stop) (g : Occurrence → List Occurrence) (n : ℕ) → ((o : Occurrence) → IsLow n o → IsClear s o → length (f (bare o)) ≡ count_by (visits s) (g o)) →
    (os : List Occurrence) → AllByRecursion (IsLow n) os → AllByRecursion (IsClear s) os → length (flat_map f (map bare os)) ≡ count_by (visits s) (flat_map g os)
count_all s f g n each [] low clear = refl
count_all s f g n each (o ∷ os) low clear =
    omega (
      arith,
      length-append (f (bare o)) (flat_map f (map bare os)),
      sum_by-append (λ p. cond (visits s p) 1 0) (g o) (flat_map g os),
      each o low.0 clear.0,
      count_all s f g n each os low.1 clear.1,
    )

children_clear : (s : Scene) (o : Occurrence) (m : Node) → (is_culled s.lens s.boxes o.id o.steps || has_off_above s.lens s.boxes o) ≡ false → (cs : List (ℕ × ℕ)) → AllByRecursion (IsClear s) (map (child_of m o) cs)
children_clear s o m h [] = tt
children_clear s o m h (c ∷ cs) = (h, children_clear s o m h cs)

under_clear : (s : Scene) (o : Occurrence) → (is_culled s.lens s.boxes o.id o.steps || has_off_above s.lens s.boxes o) ≡ false → AllByRecursion (IsClear s) (under s.look s.time o)
under_clear s o h = by (s.look o.id)
  where
    by : (l : Option Node) → AllByRecursion (IsClear s) (option_map_or (children_in s.time o) l [])
    by None = tt
    by (Some m) = children_clear s o m h (shown_children (chosen_in s.time m o.steps) m.children)

counts_next : (n : ℕ) (s : Scene) → IsTrue s → (o : Occurrence) → IsLow (suc n) o → IsClear s o → ((p : Occurrence) → IsLow n p → IsClear s p → length (stops_in n s (bare p)) ≡ count_by (visits s) (walk_in n s.look s.time p)) →
    length (stops_in (suc n) s (bare o)) ≡ count_by (visits s) (walk_in (suc n) s.look s.time o)
counts_next n s right o low clear each = ap length (in_next n s (bare o)) ∙ by (is_culled s.lens s.boxes o.id o.steps) refl
  where
    stops : List Stop
    stops = flat_map (stops_in n s) (stops_below s (bare o))

    self : one_or_none (visits s o) ≡ 1
    self = ap (λ (t : Bool). one_or_none (not t)) clear

    by : (t : Bool) → is_culled s.lens s.boxes o.id o.steps ≡ t →
        length (bare o ∷ option_map_or (λ _. stops) (box_at s (bare o)) []) ≡ count_by (visits s) (walk_in (suc n) s.look s.time o)
    by true e =
        ap (λ (b : Option Bounds). length (bare o ∷ option_map_or (λ _. stops) b [])) (frustum_off s.lens (eye_box s.boxes o.id o.steps) e)
        ∙ omega (
          arith,
          self,
          visits_next (visits s) n s.look s.time o,
          none_visited s.lens s.look s.boxes s.time n o (ap (λ (t : Bool). t || has_off_above s.lens s.boxes o) e),
        )
    by false e =
        let (around, seen, box) = frustum_in s.lens (eye_box s.boxes o.id o.steps) e in
        let kids : AreChildren n s o (stops_below s (bare o)) (under s.look s.time o) = children_are n s o right low in
        let below : length (flat_map (stops_in n s) (map bare (under s.look s.time o))) ≡ count_by (visits s) (flat_map (walk_in n s.look s.time) (under s.look s.time o)) =
        count_all s (stops_in n s) (walk_in n s.look s.time) n each (under s.look s.time o) kids.low
        (under_clear s o (ap (λ (t : Bool). t || has_off_above s.lens s.boxes o) e ∙ clear)) in
        ap (λ (b : Option Bounds). length (bare o ∷ option_map_or (λ _. stops) b [])) seen
        ∙ omega (
          arith,
          self,
          visits_next (visits s) n s.look s.time o,
          ap (λ (os : List Stop). length (flat_map (stops_in n s) os)) kids.stops,
          below,
        )

pub counts_are : (n : ℕ) (s : Scene) → IsTrue s → (o : Occurrence) → IsLow n o → IsClear s o → length (stops_in n s (bare o)) ≡ count_by (visits s) (walk_in n s.look s.time o)
counts_are zero s right o low clear = ap length (in_none s (bare o)) ∙ sym (no_visits (visits s) s.look s.time o)
counts_are (suc n) s right o low clear = counts_next n s right o low clear (λ p l c. counts_are n s right p l c)
