-- What an instance adds to the list of a piece.
use Rattle.std.proofs.Common.{◌≡◌, ◌∙◌, ℕ, zero, suc, ◌+◌, ◌-◌, ◌≤◌, ◌<◌, List, [], ◌∷◌, ◌++◌, length, take, drop, Bool, true, false, cond, ◌||◌, Option, Some, None, ap, sym, refl, subst, arith, set, length-append, length-set, get_or-set_same, get_or-set_other, take_all, eq-eqb, true≢false, inl, inr, ◌⊎◌, ⊎_elim}
use Rattle.std.specs.Prelude.{map, is_some, ◌==◌, nat_lt, nat_le, ◌≢◌}
use Rattle.std.specs.Option.{option_map_or, option_and_then}
use Rattle.std.proofs.lemmas.Bool.{eqb-true}
use Rattle.std.proofs.lemmas.Bool.Decides.{nat_tests}
use Rattle.std.proofs.lemmas.List.{map-append}
use Rattle.fx_math.specs.Plain.{Matrix}
use Rattle.pf_model.specs.declared.geometry.Tri.{Tri}
use Rattle.pf_model.specs.declared.nodes.Node.{Node}
use Rattle.pf_model.specs.Graphs.{Look}
use Rattle.pf_model.specs.Kinds.{Surface, surface_of}
use Rattle.pf_model.specs.Walks.{Instance}
use Rattle.draw_list.specs.declared.items.Span.{Span}
use Rattle.draw_list.specs.declared.items.Item.{Item}
use Rattle.draw_list.specs.Joints.{JointList, steps_at}
use Rattle.draw_list.specs.Items.{tris_at, instance_of_item, with_item}
use Rattle.draw_list.specs.Kept.{KeptTris, span_at, empty_span, next_span, kept_span, with_kept}
use Rattle.draw_list.specs.Lists.{Drawables, instances_in}
use Rattle.stream_stages.specs.declared.sightings.Sighting.{Sighting}
use Rattle.stream_stages.specs.Routes.{nodes_above, steps_along, sighted}
use Rattle.stream_stages.specs.Sending.{laid, Sent, item_of, with_sent, sent_span, sent_surface, sent_to}
use Rattle.stream_stages.specs.Filled.{IsSpanOf, AreThere, KeepsGeodes, IsSound}
use Rattle.stream_stages.specs.Underway.{IsSighted, IsLight, FindsNoRoom}
use Rattle.stream_stages.proofs.Geodes.{drawn_geom, geom_in}
use Rattle.stream_stages.proofs.Laying.{IsLaid, laid_is}

-- ---- spans
le_true : (m n : ℕ) → m ≤ n → nat_le m n ≡ true
le_true m n h = grind (arith, nat_tests)

tris_within : (tris : List Tri) (s : Span) → s.from + s.len ≤ length tris → tris_at tris s ≡ take s.len (drop s.from tris)
tris_within tris s h = ap (λ (t : Bool). cond t (take s.len (drop s.from tris)) []) (le_true (s.from + s.len) (length tris) h)

taken_front : (xs ys : List Tri) (from len : ℕ) → from + len ≤ length xs → take len (drop from (xs ++ ys)) ≡ take len (drop from xs)
taken_front [] ys zero zero h = refl
taken_front [] ys zero (suc len) h = absurd (omega (arith, h))
taken_front [] ys (suc from) len h = absurd (omega (arith, h))
taken_front (x ∷ xs) ys zero zero h = refl
taken_front (x ∷ xs) ys zero (suc len) h = ap (λ (zs : List Tri). x ∷ zs) (taken_front xs ys zero len (omega (arith, h)))
taken_front (x ∷ xs) ys (suc from) len h = taken_front xs ys from len (omega (arith, h))

dropped_front : (xs ys : List Tri) → drop (length xs) (xs ++ ys) ≡ ys
dropped_front [] ys = refl
dropped_front (x ∷ xs) ys = dropped_front xs ys

longer_tris : (tris ts : List Tri) (s : Span) → s.from + s.len ≤ length tris → tris_at (tris ++ ts) s ≡ tris_at tris s
longer_tris tris ts s h =
    tris_within (tris ++ ts) s (omega (arith, h, length-append tris ts))
    ∙ taken_front tris ts s.from s.len h
    ∙ sym (tris_within tris s h)

next_is : (k : KeptTris) (ts : List Tri) → IsSpanOf (k.tris ++ ts) (next_span ts k) ts
next_is k ts = record {
  within = omega (arith, length-append k.tris ts);
  are =
      tris_within (k.tris ++ ts) (next_span ts k) (omega (arith, length-append k.tris ts))
      ∙ ap (take (length ts)) (dropped_front k.tris ts)
      ∙ take_all (length ts) ts (omega arith);
}

empty_is : (tris ts : List Tri) → length ts ≡ 0 → IsSpanOf tris empty_span ts
empty_is tris [] e = record { within = omega arith; are = tris_within tris empty_span (omega arith) }
empty_is tris (t ∷ ts) e = absurd (omega (arith, e))

-- ---- what stays
pub record Extends (d e : Drawables) : Type 0 where
  pub lists : (j : ℕ) → j < length d.joints.lists → steps_at e.joints.lists j ≡ steps_at d.joints.lists j
  pub more_lists : length d.joints.lists ≤ length e.joints.lists
  pub tris : (span : Span) → span.from + span.len ≤ length d.kept.tris → tris_at e.kept.tris span ≡ tris_at d.kept.tris span
  pub more_tris : length d.kept.tris ≤ length e.kept.tris

still_there : (d e : Drawables) → Extends d e → (items : List Item) → AreThere d items → AreThere e items
still_there d e h [] a = tt
still_there d e h (i ∷ is) a =
    (record { joint = omega (arith, a.0.joint, h.more_lists); geom = omega (arith, a.0.geom, h.more_tris) }, still_there d e h is a.1)

abbrev drawn_in : Drawables → List Item → List Instance
drawn_in d items = map (instance_of_item d.joints.lists d.kept.tris) items

drawn_alike : (d e : Drawables) → Extends d e → (items : List Item) → AreThere d items → drawn_in e items ≡ drawn_in d items
drawn_alike d e h [] a = refl
drawn_alike d e h (i ∷ is) a = λ k. record (instance_of_item d.joints.lists d.kept.tris i) { steps = h.lists i.joint a.0.joint k; tris = h.tris i.geom a.0.geom k } ∷ drawn_alike d e h is a.1 k

there_both : (d : Drawables) (xs ys : List Item) → AreThere d xs → AreThere d ys → AreThere d (xs ++ ys)
there_both d [] ys a b = b
there_both d (x ∷ xs) ys a b = (a.0, there_both d xs ys a.1 b)

-- ---- triangles that are kept
pub record KeepsMore (look : Look) (k l : KeptTris) (span : Span) (ts : List Tri) : Type 0 where
  pub is : IsSpanOf l.tris span ts
  pub kept : KeepsGeodes look l
  pub wide : (0 < k.spare → length k.spans ≡ 65536) → 0 < l.spare → length l.spans ≡ 65536
  pub tris : (s : Span) → s.from + s.len ≤ length k.tris → tris_at l.tris s ≡ tris_at k.tris s
  pub longer : length k.tris ≤ length l.tris
  pub room : l.spare + length l.tris ≡ k.spare + length k.tris

same_kept : (look : Look) (k : KeptTris) (span : Span) (ts : List Tri) → KeepsGeodes look k → IsSpanOf k.tris span ts → KeepsMore look k k span ts
same_kept look k span ts kept is = record { is = is; kept = kept; wide = λ w l. w l; tris = λ s l. refl; longer = omega arith; room = refl }

abbrev kept_more : KeptTris → ℕ → List Tri → KeptTris
kept_more k id ts = record { tris = k.tris ++ ts; spans = set k.spans id (Some (next_span ts k)); spare = k.spare - length ts }

same_surface : (look : Look) (id : ℕ) (n m : Node) (s t : Surface) → look id ≡ Some n → surface_of n.kind ≡ Some s → look id ≡ Some m → surface_of m.kind ≡ Some t → s.tris ≡ t.tris
same_surface look id n m s t found drawn again drawn_again =
    ap (λ (o : Option Surface). option_map_or (λ (u : Surface). u.tris) o [])
    (sym drawn ∙ ap (λ (o : Option Node). option_map_or (λ (p : Node). surface_of p.kind) o None) (sym found ∙ again) ∙ drawn_again)

same_span : (a b : Span) → Some a ≡ Some b → a ≡ b
same_span a b e = ap (λ (o : Option Span). option_map_or (λ (u : Span). u) o a) e

new_kept : (look : Look) (k : KeptTris) (id : ℕ) (n : Node) (s : Surface) → KeepsGeodes look k → (0 < k.spare → length k.spans ≡ 65536) → look id ≡ Some n → surface_of n.kind ≡ Some s → id < 65536 →
    span_at k id ≡ None → 0 < length s.tris → length s.tris ≤ k.spare → KeepsMore look k (kept_more k id s.tris) (next_span s.tris k) s.tris
new_kept look k id n s kept wide found drawn small free some fits = record {
  is = next_is k s.tris;
  kept = λ x m t span is shows at. by x m t span is shows (x == id) refl at;
  wide = λ w l. length-set k.spans id (Some (next_span s.tris k)) ∙ long;
  tris = λ span l. longer_tris k.tris s.tris span l;
  longer = omega (arith, length-append k.tris s.tris);
  room = omega (arith, fits, length-append k.tris s.tris);
}
  where
    long : length k.spans ≡ 65536
    long = wide (omega (arith, some, fits))

    in_range : id < length k.spans
    in_range = omega (arith, long, small)

    others : (x : ℕ) → (x == id) ≡ false → span_at (kept_more k id s.tris) x ≡ span_at k x
    others x e = get_or-set_other k.spans id x (Some (next_span s.tris k)) None (apart x e)
      where
        apart : (x : ℕ) → (x == id) ≡ false → x ≢ id
        apart x e = λ same. true≢false (sym (eq-eqb x id same) ∙ e)

    now : span_at (kept_more k id s.tris) id ≡ Some (next_span s.tris k)
    now = get_or-set_same k.spans id (Some (next_span s.tris k)) None in_range

    by : (x : ℕ) (m : Node) (t : Surface) (span : Span) → look x ≡ Some m → surface_of m.kind ≡ Some t → (b : Bool) → (x == id) ≡ b → span_at (kept_more k id s.tris) x ≡ Some span → IsSpanOf (k.tris ++ s.tris) span t.tris
    by x m t span is shows true e at =
        let same : x ≡ id = eqb-true x id e in
        let one : next_span s.tris k ≡ span = same_span (next_span s.tris k) span (sym now ∙ ap (span_at (kept_more k id s.tris)) (sym same) ∙ at) in
        let drawn_same : s.tris ≡ t.tris = same_surface look id n m s t found drawn (ap look (sym same) ∙ is) shows in
        subst (λ (u : Span). IsSpanOf (k.tris ++ s.tris) u t.tris) one (subst (λ (us : List Tri). IsSpanOf (k.tris ++ s.tris) (next_span s.tris k) us) drawn_same (next_is k s.tris))
    by x m t span is shows false e at =
        let old : IsSpanOf k.tris span t.tris = kept x m t span is shows (sym (others x e) ∙ at) in
        record { within = omega (arith, old.within, length-append k.tris s.tris); are = longer_tris k.tris s.tris span old.within ∙ old.are }

abbrev span_for : Option Span → Bool → Bool → List Tri → KeptTris → Option Span
span_for x z f ts k = cond (is_some x) x (cond z (Some empty_span) (cond f None (Some (next_span ts k))))

abbrev kept_for : Option Span → Bool → Bool → ℕ → List Tri → KeptTris → KeptTris
kept_for x z f id ts k = cond (is_some x || z || f) k (kept_more k id ts)

-- the triangles of a geode are kept, or find no room, so that nothing is changed
abbrev pub KeepsOrNot : Look → KeptTris → List Tri → Option Span → KeptTris → Type 0
KeepsOrNot look k ts o l = ((span : Span) × (o ≡ Some span) × KeepsMore look k l span ts) ⊎ ((o ≡ None) × (l ≡ k) × (k.spare < length ts))

pub keeps : (look : Look) (k : KeptTris) (id : ℕ) (n : Node) (s : Surface) → KeepsGeodes look k → (0 < k.spare → length k.spans ≡ 65536) → look id ≡ Some n → surface_of n.kind ≡ Some s → id < 65536 →
    KeepsOrNot look k s.tris (kept_span id s.tris k) (with_kept id s.tris k)
keeps look k id n s kept wide found drawn small = by (span_at k id) (length s.tris == 0) (nat_lt k.spare (length s.tris)) refl refl refl
  where
    zero_is : (m : ℕ) → (m == 0) ≡ true → m ≡ 0
    zero_is m e = grind (arith, nat_tests)

    some_is : (m : ℕ) → (m == 0) ≡ false → 0 < m
    some_is m e = grind (arith, nat_tests)

    fits_is : (m j : ℕ) → nat_lt m j ≡ false → j ≤ m
    fits_is m j e = grind (arith, nat_tests)

    not_fits : (m j : ℕ) → nat_lt m j ≡ true → m < j
    not_fits m j e = grind (arith, nat_tests)

    by : (x : Option Span) (z f : Bool) → span_at k id ≡ x → (length s.tris == 0) ≡ z → nat_lt k.spare (length s.tris) ≡ f →
        KeepsOrNot look k s.tris (span_for x z f s.tris k) (kept_for x z f id s.tris k)
    by (Some span) z f e g h = inl (span, refl, same_kept look k span s.tris kept (kept id n s span found drawn e))
    by None true f e g h = inl (empty_span, refl, same_kept look k empty_span s.tris kept (empty_is k.tris s.tris (zero_is (length s.tris) g)))
    by None false true e g h = inr (refl, refl, not_fits k.spare (length s.tris) h)
    by None false false e g h =
        inl (next_span s.tris k, refl, new_kept look k id n s kept wide found drawn small e (some_is (length s.tris) g) (fits_is k.spare (length s.tris) h))

-- ---- an instance that is sent
pub record IsSent (look : Look) (view : List Matrix) (d : Drawables) (x : Sighting) (e : Drawables) : Type 0 where
  pub sound : IsSound look view e
  pub instances : instances_in e ≡ instances_in d ++ sighted look view x ∷ []
  pub more : length e.items.items ≡ length d.items.items + 1
  pub items : e.items.spare + length e.items.items ≡ d.items.spare + length d.items.items
  pub joints : e.joints.spare + length e.joints.lists ≡ d.joints.spare + length d.joints.lists
  pub spent : d.joints.spare ≤ e.joints.spare + 31
  pub tris : e.kept.spare + length e.kept.tris ≡ d.kept.spare + length d.kept.tris

-- the joints of a list and further ones, of which one has these steps
pub record HasJoint (d : Drawables) (joints : JointList) (joint : ℕ) (steps : List Matrix) : Type 0 where
  pub there : joint < length joints.lists
  pub steps_are : steps_at joints.lists joint ≡ steps
  pub lists : (j : ℕ) → j < length d.joints.lists → steps_at joints.lists j ≡ steps_at d.joints.lists j
  pub longer : length d.joints.lists ≤ length joints.lists
  pub room : joints.spare + length joints.lists ≡ d.joints.spare + length d.joints.lists
  pub spent : d.joints.spare ≤ joints.spare + 31

abbrev pushed : Drawables → JointList → KeptTris → Item → Drawables
pushed d joints kept i = record { joints = joints; items = record { items = d.items.items ++ i ∷ []; spare = d.items.spare - 1 }; kept = kept }

item_pushed : (look : Look) (view : List Matrix) (d : Drawables) (joints : JointList) (kept : KeptTris) (x : Sighting) (n : Node) (s : Surface) (span : Span) (joint : ℕ) → IsSound look view d → 0 < d.items.spare →
    look x.id ≡ Some n → surface_of n.kind ≡ Some s → KeepsMore look d.kept kept span s.tris → HasJoint d joints joint (steps_along look view (nodes_above x)) →
    IsSent look view d x (pushed d joints kept (item_of x span joint))
item_pushed look view d joints kept x n s span joint sound some found drawn more has = record {
  sound = record {
    kept = more.kept;
    items = there_both e d.items.items (item_of x span joint ∷ []) (still_there d e extends d.items.items sound.items) (record { joint = has.there; geom = more.is.within }, tt);
    wide = more.wide sound.wide;
    zero = omega (arith, sound.zero, has.longer);
    eye = has.lists 0 sound.zero ∙ sound.eye;
    empty = λ none. absurd (omega (arith, none, length-append d.items.items (item_of x span joint ∷ [])));
  };
  instances =
      map-append (instance_of_item joints.lists kept.tris) d.items.items (item_of x span joint ∷ [])
      ∙ (λ i. drawn_alike d e extends d.items.items sound.items i ++ one i ∷ []);
  more = length-append d.items.items (item_of x span joint ∷ []);
  items = omega (arith, some, length-append d.items.items (item_of x span joint ∷ []));
  joints = has.room;
  spent = has.spent;
  tris = more.room;
}
  where
    e : Drawables
    e = pushed d joints kept (item_of x span joint)

    extends : Extends d e
    extends = record { lists = has.lists; more_lists = has.longer; tris = more.tris; more_tris = more.longer }

    tris : tris_at kept.tris span ≡ geom_in (look x.id)
    tris = more.is.are ∙ sym (ap geom_in found ∙ ap (λ (o : Option (List Tri)). option_map_or (λ ts. ts) o []) (drawn_geom n.kind s drawn))

    one : instance_of_item joints.lists kept.tris (item_of x span joint) ≡ sighted look view x
    one = λ i. record (sighted look view x) { steps = has.steps_are i; tris = tris i }

some_spare : (n : ℕ) → 0 < n → (n == 0) ≡ false
some_spare n l = grind (arith, nat_tests)

-- done with and there, or not done with, where the list has items and no room for the triangles
abbrev pub SendsOrNot : Look → List Matrix → Drawables → Sighting → Sent → Type 0
SendsOrNot look view d x r =
    ((r.done ≡ true) × IsSent look view d x r.list)
    ⊎ ((r.done ≡ false) × (r.list ≡ d) × (0 < length d.items.items) × FindsNoRoom look x d.kept)

sends_surface : (look : Look) (view : List Matrix) (d : Drawables) (x : Sighting) (n : Node) (s : Surface) → IsSound look view d → IsLight look → IsSighted look x → 0 < d.items.spare → 31 ≤ d.joints.spare →
    look x.id ≡ Some n → surface_of n.kind ≡ Some s → SendsOrNot look view d x (sent_surface look x d s)
sends_surface look view d x n s sound light there some joints found drawn =
    ⊎_elim room none (keeps look d.kept x.id n s sound.kept sound.wide found drawn (small (nat_lt x.id 65536) refl))
  where
    small : (t : Bool) → nat_lt x.id 65536 ≡ t → x.id < 65536
    small true e = less x.id 65536 e
      where
        less : (m k : ℕ) → nat_lt m k ≡ true → m < k
        less m k e = grind (arith, nat_tests)
    small false e = absurd (let no : Some n ≡ None = sym found ∙ light.narrow x.id (not_less x.id 65536 e) in cc)
      where
        not_less : (m k : ℕ) → nat_lt m k ≡ false → k ≤ m
        not_less m k e = grind (arith, nat_tests)

    kept : KeptTris
    kept = with_kept x.id s.tris d.kept

    e : Drawables
    e = record { joints = d.joints; items = d.items; kept = kept }

    room : (span : Span) × (kept_span x.id s.tris d.kept ≡ Some span) × KeepsMore look d.kept kept span s.tris → SendsOrNot look view d x (sent_surface look x d s)
    room (span, is, more) =
        let l : IsLaid e (laid look (nodes_above x) 0 e) (steps_along look view (nodes_above x)) (length (nodes_above x)) =
        laid_is look (nodes_above x) e 0 view sound.zero sound.eye there.above (omega (arith, there.deep, joints)) in
        let sent : IsSent look view d x (pushed d (laid look (nodes_above x) 0 e).list.joints kept (item_of x span l.joint)) =
        item_pushed look view d (laid look (nodes_above x) 0 e).list.joints kept x n s span l.joint sound some found drawn more (record {
          there = l.there;
          steps_are = l.steps_are;
          lists = l.more.steps;
          longer = l.more.longer;
          room = l.more.room;
          spent = omega (arith, l.spent, there.deep);
        }) in
        let item : with_item (item_of x span l.joint) d.items ≡ record { items = d.items.items ++ item_of x span l.joint ∷ []; spare = d.items.spare - 1 } =
        ap (λ (t : Bool). cond t d.items (record { items = d.items.items ++ item_of x span l.joint ∷ []; spare = d.items.spare - 1 })) (some_spare d.items.spare some) in
        let list : with_sent x span (laid look (nodes_above x) 0 e) ≡ pushed d (laid look (nodes_above x) 0 e).list.joints kept (item_of x span l.joint) =
        ap (λ (o : Option ℕ). option_map_or (λ joint. record { joints = (laid look (nodes_above x) 0 e).list.joints; items = with_item (item_of x span joint) (laid look (nodes_above x) 0 e).list.items; kept = (laid look (nodes_above x) 0 e).list.kept }) o (laid look (nodes_above x) 0 e).list) l.answers
        ∙ (λ i. record { joints = (laid look (nodes_above x) 0 e).list.joints; items = with_item (item_of x span l.joint) (l.more.items i); kept = l.more.kept i })
        ∙ (λ i. record { joints = (laid look (nodes_above x) 0 e).list.joints; items = item i; kept = kept }) in
        subst (λ (o : Option Span). SendsOrNot look view d x (sent_span look x e s o)) (sym is)
        (inl (refl, subst (IsSent look view d x) (sym list) sent))

    none : (kept_span x.id s.tris d.kept ≡ None) × (kept ≡ d.kept) × (d.kept.spare < length s.tris) → SendsOrNot look view d x (sent_surface look x d s)
    none (is, same, many) =
        subst (λ (o : Option Span). SendsOrNot look view d x (sent_span look x e s o)) (sym is)
        (inr (some_spare (length d.items.items) filled, (λ i. record { joints = d.joints; items = d.items; kept = same i }), filled, crowded is))
      where
        filled : 0 < length d.items.items
        filled = by (length d.items.items) refl
          where
            by : (m : ℕ) → length d.items.items ≡ m → 0 < length d.items.items
            by zero f = absurd (omega (arith, sound.empty f, many, light.light x.id n s found drawn))
            by (suc m) f = omega (arith, f)

        crowded : kept_span x.id s.tris d.kept ≡ None → FindsNoRoom look x d.kept
        crowded is surface at =
            let same : s ≡ surface = ap (λ (o : Option Surface). option_map_or (λ t. t) o s) (sym (ap (option_and_then (λ m. surface_of m.kind)) found ∙ drawn) ∙ at) in
            ap (λ (t : Surface). kept_span x.id t.tris d.kept) (sym same) ∙ is

pub sends : (look : Look) (view : List Matrix) (d : Drawables) (x : Sighting) → IsSound look view d → IsLight look → IsSighted look x → 0 < d.items.spare → 31 ≤ d.joints.spare →
    SendsOrNot look view d x (sent_to look x d)
sends look view d x sound light there some joints = by (look x.id) refl
  where
    surface : (n : Node) → look x.id ≡ Some n → (t : Option Surface) → surface_of n.kind ≡ t → SendsOrNot look view d x (sent_to look x d)
    surface n found None e = absurd (let no : false ≡ true = sym (ap is_some (ap (option_and_then (λ m. surface_of m.kind)) found ∙ e)) ∙ there.drawn in cc)
    surface n found (Some s) e =
        subst (λ (o : Option Surface). SendsOrNot look view d x (option_map_or (sent_surface look x d) o (record { done = true; list = d })))
        (sym (ap (option_and_then (λ m. surface_of m.kind)) found ∙ e)) (sends_surface look view d x n s sound light there some joints found e)

    by : (m : Option Node) → look x.id ≡ m → SendsOrNot look view d x (sent_to look x d)
    by None e = absurd (let no : false ≡ true = sym (ap (λ (m : Option Node). is_some (option_and_then (λ n. surface_of n.kind) m)) e) ∙ there.drawn in cc)
    by (Some n) e = surface n e (surface_of n.kind) refl
