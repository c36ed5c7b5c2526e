-- What a node adds by itself: the item of a geode, the joint of a coordinate system.
use Rattle.std.proofs.Common.{◌≡◌, ◌∙◌, ℕ, zero, suc, ◌+◌, ◌-◌, ◌≤◌, ◌<◌, List, [], ◌∷◌, ◌++◌, length, take, drop, Bool, true, false, cond, ◌||◌, Option, Some, None, ap, sym, refl, subst, arith, set, length-append, length-set, get_or-set_same, get_or-set_other, take_all, eq-eqb, true≢false}
use Rattle.std.specs.Prelude.{is_some, ◌==◌, nat_lt, nat_le, option_map, ◌≢◌}
use Rattle.std.specs.Option.{option_map_or, option_to_list}
use Rattle.std.proofs.lemmas.Bool.{eqb-true}
use Rattle.std.proofs.lemmas.List.{append-nil}
use Rattle.std.proofs.lemmas.Bool.Decides.{nat_tests}
use Rattle.fx_math.specs.Plain.{Matrix, Bounds}
use Rattle.pf_model.specs.declared.geometry.Tri.{Tri}
use Rattle.pf_model.specs.declared.nodes.Kind.{Kind}
use Rattle.pf_model.specs.declared.nodes.Kind.TheVariants.{Group, Switch, Scs, Dcs, Lod, Seq, Layer, Geode, Glass}
use Rattle.pf_model.specs.declared.nodes.Node.{Node}
use Rattle.pf_model.specs.declared.poses.Pose.{Pose}
use Rattle.pf_model.specs.Graphs.{Look}
use Rattle.pf_model.specs.Kinds.{Surface, surface_of, geom_of, own_steps, pose_steps}
use Rattle.pf_model.specs.Boxes.{carried_tris_box, squared_distance}
use Rattle.pf_model.specs.Totals.{triangles_of}
use Rattle.pf_model.specs.Walks.{Occurrence, Instance, instance_of, distance_of}
use Rattle.draw_list.specs.declared.items.Span.{Span}
use Rattle.draw_list.specs.declared.items.Item.{Item}
use Rattle.draw_list.specs.Joints.{JointList, steps_at, joint_above}
use Rattle.draw_list.specs.Items.{ItemList, tris_at, instance_of_item, with_item}
use Rattle.draw_list.specs.Kept.{KeptTris, span_at, empty_span, next_span, kept_span, with_kept}
use Rattle.draw_list.specs.Lists.{Drawables}
use Rattle.cull_walk.specs.Working.{At, tint_at, item_at, with_surface, with_drawn, own_pose, joint_below, with_below}
use Rattle.cull_walk.proofs.Unkept.{unkept_at, kept_less, one_unkept}
use Rattle.cull_walk.proofs.Adding.{IsSpanOf, AreThere, IsSound, Extends, Adds, adds_none, there_both, extends_itself}

-- where an occurrence stands in a list
pub record IsAt (d : Drawables) (a : At) (o : Occurrence) : Type 0 where
  pub id : a.id ≡ o.id
  pub there : a.joint < length d.joints.lists
  pub steps : steps_at d.joints.lists a.joint ≡ o.steps
  pub shift : a.shift ≡ o.shift

-- the instance of an occurrence of a geode, without its id and its place
abbrev pub own : Occurrence → Surface → Instance
own o s = record (instance_of o s 0) { id = 0 }

abbrev pub own_list : Occurrence → Option Surface → List Instance
own_list o s = option_to_list (option_map (own o) s)

-- ---- spans
le_true : (m n : ℕ) → m ≤ n → nat_le m n ≡ true
le_true m n h = grind (arith, nat_tests)

tris_within : (tris : List Tri) (s : Span) → s.from + s.len ≤ length tris → tris_at tris s ≡ take s.len (drop s.from tris)
tris_within tris s h = ap (λ (t : Bool). cond t (take s.len (drop s.from tris)) []) (le_true (s.from + s.len) (length tris) h)

taken_front : (xs ys : List Tri) (from len : ℕ) → from + len ≤ length xs → take len (drop from (xs ++ ys)) ≡ take len (drop from xs)
taken_front [] ys zero zero h = refl
taken_front [] ys zero (suc len) h = absurd (omega (arith, h))
taken_front [] ys (suc from) len h = absurd (omega (arith, h))
taken_front (x ∷ xs) ys zero zero h = refl
taken_front (x ∷ xs) ys zero (suc len) h = ap (λ (zs : List Tri). x ∷ zs) (taken_front xs ys zero len (omega (arith, h)))
taken_front (x ∷ xs) ys (suc from) len h = taken_front xs ys from len (omega (arith, h))

dropped_front : (xs ys : List Tri) → drop (length xs) (xs ++ ys) ≡ ys
dropped_front [] ys = refl
dropped_front (x ∷ xs) ys = dropped_front xs ys

longer_tris : (tris ts : List Tri) (s : Span) → s.from + s.len ≤ length tris → tris_at (tris ++ ts) s ≡ tris_at tris s
longer_tris tris ts s h =
    tris_within (tris ++ ts) s (omega (arith, h, length-append tris ts))
    ∙ taken_front tris ts s.from s.len h
    ∙ sym (tris_within tris s h)

next_is : (k : KeptTris) (ts : List Tri) → IsSpanOf (k.tris ++ ts) (next_span ts k) ts
next_is k ts = record {
  within = omega (arith, length-append k.tris ts);
  are =
      tris_within (k.tris ++ ts) (next_span ts k) (omega (arith, length-append k.tris ts))
      ∙ ap (take (length ts)) (dropped_front k.tris ts)
      ∙ take_all (length ts) ts (omega arith);
}

empty_is : (tris ts : List Tri) → length ts ≡ 0 → IsSpanOf tris empty_span ts
empty_is tris [] e = record { within = omega arith; are = tris_within tris empty_span (omega arith) }
empty_is tris (t ∷ ts) e = absurd (omega (arith, e))

-- ---- an item
with_item_there : (i : Item) (d : ItemList) → 0 < d.spare → with_item i d ≡ record { items = d.items ++ i ∷ []; spare = d.spare - 1 }
with_item_there i d h = ap (λ (t : Bool). cond t d (record { items = d.items ++ i ∷ []; spare = d.spare - 1 })) (not_zero d.spare h)
  where
    not_zero : (n : ℕ) → 0 < n → (n == 0) ≡ false
    not_zero n l = grind (arith, nat_tests)

tint_is : (around : Bounds) (t : Option ℕ) → option_map (λ u. u.alpha) (option_map (tint_at around) t) ≡ t
tint_is around None = refl
tint_is around (Some alpha) = refl

far_is : (around : Bounds) (steps : List Matrix) (ts : List Tri) (t : Option ℕ) → carried_tris_box steps ts ≡ Some around → option_map_or (λ u. u.far) (option_map (tint_at around) t) 0 ≡ distance_of t steps ts
far_is around steps ts None e = refl
far_is around steps ts (Some alpha) e = ap (λ (b : Option Bounds). option_map_or squared_distance b 0) (sym e)

abbrev filled : Drawables → ItemList → KeptTris → Drawables
filled d items kept = record { joints = d.joints; items = items; kept = kept }

abbrev pushed_list : ItemList → Item → ItemList
pushed_list d i = record { items = d.items ++ i ∷ []; spare = d.spare - 1 }

abbrev new_item : Drawables → At → Bounds → Surface → Span → Item
new_item d a around s span = item_at a around (length d.items.items) s span

there_again : (d : Drawables) (k : KeptTris) (items : ItemList) (is : List Item) → AreThere (filled d d.items k) is → AreThere (filled d items k) is
there_again d k items [] h = tt
there_again d k items (j ∷ js) h = (record { joint = h.0.joint; geom = h.0.geom }, there_again d k items js h.1)

item_drawn : (d : Drawables) (a : At) (o : Occurrence) (s : Surface) (around : Bounds) (k : KeptTris) (span : Span) → IsAt d a o → carried_tris_box o.steps s.tris ≡ Some around → IsSpanOf k.tris span s.tris →
    instance_of_item d.joints.lists k.tris (new_item d a around s span) ≡ record (own o s) { place = length d.items.items }
item_drawn d a o s around k span at box is = λ i. record {
  place = length d.items.items;
  id = 0;
  state = s.state;
  tint = tint_is around s.tint i;
  shift = at.shift i;
  steps = at.steps i;
  tris = is.are i;
  far = far_is around o.steps s.tris s.tint box i;
}

item_pushed : (look : Look) (d : Drawables) (a : At) (o : Occurrence) (s : Surface) (around : Bounds) (k : KeptTris) (span : Span) →
    IsAt d a o → 0 < d.items.spare → carried_tris_box o.steps s.tris ≡ Some around → IsSpanOf k.tris span s.tris →
    Extends d (filled d d.items k) → IsSound look (filled d d.items k) →
    Adds look d (filled d (pushed_list d.items (new_item d a around s span)) k) (own o s ∷ []) 1 0
item_pushed look d a o s around k span at some box is extends kept = record {
  extends = record { lists = extends.lists; more_lists = extends.more_lists; tris = extends.tris; more_tris = extends.more_tris };
  sound = record {
    kept = kept.kept;
    items = there_both (filled d (pushed_list d.items (new_item d a around s span)) k) d.items.items (new_item d a around s span ∷ [])
        (there_again d k (pushed_list d.items (new_item d a around s span)) d.items.items kept.items) (record { joint = at.there; geom = is.within }, tt);
    wide = kept.wide;
    room = kept.room;
  };
  more = new_item d a around s span ∷ [];
  items_are = refl;
  drawn = λ i. item_drawn d a o s around k span at box is i ∷ [];
  item_room = omega (arith, some);
  joint_room = omega arith;
}

item_adds : (look : Look) (d : Drawables) (a : At) (o : Occurrence) (s : Surface) (around : Bounds) (k : KeptTris) (span : Span) →
    IsAt d a o → 0 < d.items.spare → carried_tris_box o.steps s.tris ≡ Some around → IsSpanOf k.tris span s.tris →
    Extends d (filled d d.items k) → IsSound look (filled d d.items k) →
    Adds look d (filled d (with_item (new_item d a around s span) d.items) k) (own o s ∷ []) 1 0
item_adds look d a o s around k span at some box is extends kept =
    subst (λ (items : ItemList). Adds look d (filled d items k) (own o s ∷ []) 1 0) (sym (with_item_there (new_item d a around s span) d.items some))
    (item_pushed look d a o s around k span at some box is extends kept)

-- ---- triangles that are kept for the first time
abbrev kept_more : KeptTris → ℕ → List Tri → KeptTris
kept_more k id ts = record { tris = k.tris ++ ts; spans = set k.spans id (Some (next_span ts k)); spare = k.spare - length ts }

kept_extends : (d : Drawables) (id : ℕ) (ts : List Tri) → Extends d (filled d d.items (kept_more d.kept id ts))
kept_extends d id ts = record {
  lists = λ j l. refl;
  more_lists = omega arith;
  tris = λ span l. longer_tris d.kept.tris ts span l;
  more_tris = omega (arith, length-append d.kept.tris ts);
}

same_surface : (look : Look) (id : ℕ) (n m : Node) (s t : Surface) → look id ≡ Some n → surface_of n.kind ≡ Some s → look id ≡ Some m → surface_of m.kind ≡ Some t → s.tris ≡ t.tris
same_surface look id n m s t found drawn again drawn_again =
    ap (λ (o : Option Surface). option_map_or (λ (u : Surface). u.tris) o [])
    (sym drawn ∙ ap (λ (o : Option Node). option_map_or (λ (p : Node). surface_of p.kind) o None) (sym found ∙ again) ∙ drawn_again)

same_span : (a b : Span) → Some a ≡ Some b → a ≡ b
same_span a b e = ap (λ (o : Option Span). option_map_or (λ (u : Span). u) o a) e

kept_sound : (look : Look) (d : Drawables) (id : ℕ) (n : Node) (s : Surface) → IsSound look d → look id ≡ Some n → surface_of n.kind ≡ Some s → id < 65536 →
    span_at d.kept id ≡ None → 0 < length s.tris → length s.tris ≤ d.kept.spare → unkept_at look d.kept id ≡ length s.tris → IsSound look (filled d d.items (kept_more d.kept id s.tris))
kept_sound look d id n s sound found drawn small free some fits left = record {
  kept = λ x m t span is shows at. by x m t span is shows (x == id) refl at;
  items = there (d.items.items) sound.items;
  wide = λ l. length-set d.kept.spans id (Some (next_span s.tris d.kept)) ∙ long;
  room = omega (arith, kept_less look d.kept (kept_more d.kept id s.tris) id small others there_now, left, sound.room, fits);
}
  where
    long : length d.kept.spans ≡ 65536
    long = sound.wide (omega (arith, some, fits))

    in_range : id < length d.kept.spans
    in_range = omega (arith, long, small)

    others : (x : ℕ) → (x == id) ≡ false → span_at (kept_more d.kept id s.tris) x ≡ span_at d.kept x
    others x e = get_or-set_other d.kept.spans id x (Some (next_span s.tris d.kept)) None (apart x e)
      where
        apart : (x : ℕ) → (x == id) ≡ false → x ≢ id
        apart x e = λ same. true≢false (sym (eq-eqb x id same) ∙ e)

    now : span_at (kept_more d.kept id s.tris) id ≡ Some (next_span s.tris d.kept)
    now = get_or-set_same d.kept.spans id (Some (next_span s.tris d.kept)) None in_range

    there_now : is_some (span_at (kept_more d.kept id s.tris) id) ≡ true
    there_now = ap (λ (o : Option Span). is_some o) now

    there : (is : List Item) → AreThere d is → AreThere (filled d d.items (kept_more d.kept id s.tris)) is
    there [] h = tt
    there (i ∷ is) h = (record { joint = h.0.joint; geom = omega (arith, h.0.geom, length-append d.kept.tris s.tris) }, there is h.1)

    by : (x : ℕ) (m : Node) (t : Surface) (span : Span) → look x ≡ Some m → surface_of m.kind ≡ Some t → (b : Bool) → (x == id) ≡ b → span_at (kept_more d.kept id s.tris) x ≡ Some span → IsSpanOf (d.kept.tris ++ s.tris) span t.tris
    by x m t span is shows true e at =
        let same : x ≡ id = eqb-true x id e in
        let one : next_span s.tris d.kept ≡ span = same_span (next_span s.tris d.kept) span (sym now ∙ ap (span_at (kept_more d.kept id s.tris)) (sym same) ∙ at) in
        let drawn_same : s.tris ≡ t.tris = same_surface look id n m s t found drawn (ap look (sym same) ∙ is) shows in
        subst (λ (u : Span). IsSpanOf (d.kept.tris ++ s.tris) u t.tris) one (subst (λ (us : List Tri). IsSpanOf (d.kept.tris ++ s.tris) (next_span s.tris d.kept) us) drawn_same (next_is d.kept s.tris))
    by x m t span is shows false e at =
        let old : IsSpanOf d.kept.tris span t.tris = sound.kept x m t span is shows (sym (others x e) ∙ at) in
        record { within = omega (arith, old.within, length-append d.kept.tris s.tris); are = longer_tris d.kept.tris s.tris span old.within ∙ old.are }

-- ---- what a geode adds
abbrev span_for : Option Span → Bool → Bool → List Tri → KeptTris → Option Span
span_for x z f ts k = cond (is_some x) x (cond z (Some empty_span) (cond f None (Some (next_span ts k))))

abbrev kept_for : Option Span → Bool → Bool → ℕ → List Tri → KeptTris → KeptTris
kept_for x z f id ts k = cond (is_some x || z || f) k (kept_more k id ts)

abbrev surface_added : At → Bounds → Surface → Drawables → KeptTris → Option Span → Drawables
surface_added a around s d k None = d
surface_added a around s d k (Some span) = filled d (with_item (new_item d a around s span) d.items) k

added_is : (a : At) (around : Bounds) (s : Surface) (d : Drawables) (o : Option Span) → surface_added a around s d (with_kept a.id s.tris d.kept) o ≡ with_surface a around s d o
added_is a around s d None = refl
added_is a around s d (Some span) = refl

geom_count : (look : Look) (id : ℕ) (n : Node) (s : Surface) → look id ≡ Some n → surface_of n.kind ≡ Some s → option_map_or (λ m. triangles_of m.kind) (look id) 0 ≡ length s.tris
geom_count look id n s found drawn =
    ap (λ (o : Option Node). option_map_or (λ (m : Node). triangles_of m.kind) o 0) found
    ∙ ap (λ (o : Option (List Tri)). option_map_or length o 0) (drawn_geom n.kind s drawn)
  where
    drawn_geom : (k : Kind) (s : Surface) → surface_of k ≡ Some s → geom_of k ≡ Some s.tris
    drawn_geom (Geode state ts) s e = let same : record { state = state; tint = None; tris = ts } ≡ s = cc in ap (λ (t : Surface). Some t.tris) same
    drawn_geom (Glass state a ts) s e = ap (λ (o : Option Surface). option_map (λ (t : Surface). t.tris) o) e
    drawn_geom Group s e = absurd (cc)
    drawn_geom (Switch p) s e = absurd (cc)
    drawn_geom (Scs m) s e = absurd (cc)
    drawn_geom (Dcs p) s e = absurd (cc)
    drawn_geom (Lod c rs) s e = absurd (cc)
    drawn_geom (Seq ts r) s e = absurd (cc)
    drawn_geom Layer s e = absurd (cc)

surface_adds : (look : Look) (d : Drawables) (a : At) (o : Occurrence) (n : Node) (s : Surface) (around : Bounds) → IsAt d a o → IsSound look d → look o.id ≡ Some n → surface_of n.kind ≡ Some s →
    o.id < 65536 → 0 < d.items.spare → carried_tris_box o.steps s.tris ≡ Some around →
    Adds look d (with_surface a around s d (kept_span a.id s.tris d.kept)) (own o s ∷ []) 1 0
surface_adds look d a o n s around at sound found drawn small some box =
    subst (λ (e : Drawables). Adds look d e (own o s ∷ []) 1 0) (added_is a around s d (kept_span a.id s.tris d.kept))
    (by (span_at d.kept a.id) (length s.tris == 0) (nat_lt d.kept.spare (length s.tris)) refl refl refl)
  where
    here : look a.id ≡ Some n
    here = ap look at.id ∙ found

    narrow : a.id < 65536
    narrow = omega (arith, small, at.id)

    item : (k : KeptTris) (span : Span) → IsSpanOf k.tris span s.tris → Extends d (filled d d.items k) → IsSound look (filled d d.items k) →
        Adds look d (filled d (with_item (new_item d a around s span) d.items) k) (own o s ∷ []) 1 0
    item k span is extends kept = item_adds look d a o s around k span at some box is extends kept

    zero_is : (m : ℕ) → (m == 0) ≡ true → m ≡ 0
    zero_is m e = grind (arith, nat_tests)

    some_is : (m : ℕ) → (m == 0) ≡ false → 0 < m
    some_is m e = grind (arith, nat_tests)

    fits_is : (m k : ℕ) → nat_lt m k ≡ false → k ≤ m
    fits_is m k e = grind (arith, nat_tests)

    not_fits : (m k : ℕ) → nat_lt m k ≡ true → m < k
    not_fits m k e = grind (arith, nat_tests)

    left : span_at d.kept a.id ≡ None → unkept_at look d.kept a.id ≡ length s.tris
    left free = ap (λ (x : Option Span). cond (is_some x) 0 (option_map_or (λ m. triangles_of m.kind) (look a.id) 0)) free ∙ geom_count look a.id n s here drawn

    by : (x : Option Span) (z f : Bool) → span_at d.kept a.id ≡ x → (length s.tris == 0) ≡ z → nat_lt d.kept.spare (length s.tris) ≡ f →
        Adds look d (surface_added a around s d (kept_for x z f a.id s.tris d.kept) (span_for x z f s.tris d.kept)) (own o s ∷ []) 1 0
    by (Some span) z f e g h = item d.kept span (sound.kept a.id n s span here drawn e) (extends_itself d) sound
    by None true f e g h = item d.kept empty_span (empty_is d.kept.tris s.tris (zero_is (length s.tris) g)) (extends_itself d) sound
    by None false true e g h =
        absurd (omega (arith, not_fits d.kept.spare (length s.tris) h, one_unkept look d.kept a.id narrow, left e, sound.room))
    by None false false e g h =
        item (kept_more d.kept a.id s.tris) (next_span s.tris d.kept) (next_is d.kept s.tris) (kept_extends d a.id s.tris)
        (kept_sound look d a.id n s sound here drawn narrow e (some_is (length s.tris) g) (fits_is d.kept.spare (length s.tris) h) (left e))

pub own_adds : (look : Look) (d : Drawables) (a : At) (o : Occurrence) (n : Node) (around : Bounds) → IsAt d a o → IsSound look d → look o.id ≡ Some n →
    o.id < 65536 → 0 < d.items.spare → ((s : Surface) → surface_of n.kind ≡ Some s → carried_tris_box o.steps s.tris ≡ Some around) →
    Adds look d (with_drawn a around d (surface_of n.kind)) (own_list o (surface_of n.kind)) 1 0
own_adds look d a o n around at sound found small some box = by (surface_of n.kind) refl
  where
    by : (s : Option Surface) → surface_of n.kind ≡ s → Adds look d (with_drawn a around d s) (own_list o s) 1 0
    by None e = adds_none look d 1 0 sound
    by (Some s) e = surface_adds look d a o n s around at sound found e small some (box s e)

-- ---- what a coordinate system adds
own_steps_are : (k : Kind) → own_steps k ≡ option_map_or pose_steps (own_pose k) []
own_steps_are Group = refl
own_steps_are (Switch p) = refl
own_steps_are (Scs m) = refl
own_steps_are (Dcs p) = refl
own_steps_are (Lod c rs) = refl
own_steps_are (Seq ts r) = refl
own_steps_are Layer = refl
own_steps_are (Geode s ts) = refl
own_steps_are (Glass s a ts) = refl

pub record IsLower (look : Look) (d e : Drawables) (answer : Option ℕ) (steps : List Matrix) : Type 0 where
  pub joint : ℕ
  pub answers : answer ≡ Some joint
  pub there : joint < length e.joints.lists
  pub steps_are : steps_at e.joints.lists joint ≡ steps
  pub adds : Adds look d e [] 0 1

front_lists : (ls ms : List (List Matrix)) (i : ℕ) → i < length ls → steps_at (ls ++ ms) i ≡ steps_at ls i
front_lists [] ms i h = absurd (omega (arith, h))
front_lists (l ∷ ls) ms zero h = refl
front_lists (l ∷ ls) ms (suc i) h = front_lists ls ms i (omega (arith, h))

last_list : (ls : List (List Matrix)) (m : List Matrix) → steps_at (ls ++ m ∷ []) (length ls) ≡ m
last_list [] m = refl
last_list (l ∷ ls) m = last_list ls m

not_zero : (n : ℕ) → 0 < n → (n == 0) ≡ false
not_zero n l = grind (arith, nat_tests)

abbrev jointed : Drawables → JointList → Drawables
jointed d joints = record { joints = joints; items = d.items; kept = d.kept }

abbrev pushed_joint : JointList → ℕ → List Matrix → JointList
pushed_joint d up steps = record { lists = joint_above d.lists up steps; spare = d.spare - 1 }

joint_adds : (look : Look) (d : Drawables) (up : ℕ) (steps : List Matrix) → IsSound look d → 0 < d.joints.spare → Adds look d (jointed d (pushed_joint d.joints up steps)) [] 0 1
joint_adds look d up steps sound some = record {
  extends = record {
    lists = λ j l. front_lists d.joints.lists ((steps ++ steps_at d.joints.lists up) ∷ []) j l;
    more_lists = omega (arith, length-append d.joints.lists ((steps ++ steps_at d.joints.lists up) ∷ []));
    tris = λ span l. refl;
    more_tris = omega arith;
  };
  sound = record { kept = sound.kept; items = there d.items.items sound.items; wide = sound.wide; room = sound.room };
  more = [];
  items_are = sym (append-nil d.items.items);
  drawn = refl;
  item_room = omega arith;
  joint_room = omega (arith, some);
}
  where
    there : (is : List Item) → AreThere d is → AreThere (jointed d (pushed_joint d.joints up steps)) is
    there [] h = tt
    there (i ∷ is) h =
        (record { joint = omega (arith, h.0.joint, length-append d.joints.lists ((steps ++ steps_at d.joints.lists up) ∷ [])); geom = h.0.geom }, there is h.1)

lower_pose : (look : Look) (d : Drawables) (a : At) (o : Occurrence) (p : Option Pose) → IsAt d a o → IsSound look d → 0 < d.joints.spare →
    IsLower look d (with_below a.joint d p) (joint_below a.joint d p) (option_map_or pose_steps p [] ++ o.steps)
lower_pose look d a o None at sound some = record {
  joint = a.joint;
  answers = refl;
  there = at.there;
  steps_are = at.steps;
  adds = adds_none look d 0 1 sound;
}
lower_pose look d a o (Some p) at sound some =
    subst (λ (t : Bool). IsLower look d (jointed d (cond t d.joints (pushed_joint d.joints a.joint (pose_steps p)))) (cond t None (Some (length d.joints.lists))) (pose_steps p ++ o.steps))
    (sym (not_zero d.joints.spare some)) (record {
      joint = length d.joints.lists;
      answers = refl;
      there = omega (arith, length-append d.joints.lists ((pose_steps p ++ steps_at d.joints.lists a.joint) ∷ []));
      steps_are = last_list d.joints.lists (pose_steps p ++ steps_at d.joints.lists a.joint) ∙ ap (λ (ms : List Matrix). pose_steps p ++ ms) at.steps;
      adds = joint_adds look d a.joint (pose_steps p) sound some;
    })

pub lowered : (look : Look) (d : Drawables) (a : At) (o : Occurrence) (n : Node) → IsAt d a o → IsSound look d → 0 < d.joints.spare →
    IsLower look d (with_below a.joint d (own_pose n.kind)) (joint_below a.joint d (own_pose n.kind)) (own_steps n.kind ++ o.steps)
lowered look d a o n at sound some =
    subst (λ (ms : List Matrix). IsLower look d (with_below a.joint d (own_pose n.kind)) (joint_below a.joint d (own_pose n.kind)) (ms ++ o.steps)) (sym (own_steps_are n.kind))
    (lower_pose look d a o (own_pose n.kind) at sound some)
