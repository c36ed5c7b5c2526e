-- The tables of a survey: a table of n levels tells the extents of n levels, and a table that repeats is the last.
use Rattle.std.proofs.Common.{◌≡◌, ℕ, zero, suc, ◌+◌, ◌<◌, ◌≤◌, min, max, Bool, true, false, ◌||◌, ◌==◌, List, [], ◌∷◌, map, length, get_or, Option, Some, None, refl, sym, ◌∙◌, ap, arith, sum, slice_index_or, zero-add, suc-add, add-one, ◌-◌, subst, take, nat_lt}
use Rattle.std.specs.List.{position, list_any, fold}
use Rattle.std.specs.Option.{option_map_or}
use Rattle.std.proofs.lemmas.Bool.Decides.{nat_tests}
use Rattle.std.proofs.lemmas.List.{get_or-map, take_more}
use Rattle.std.proofs.lemmas.List.Recursion.{max_push}
use Rattle.std.proofs.lemmas.List.Quantifiers.{position-Some}
use Rattle.std.proofs.lemmas.List.Sums.{sum_by-cons}
use Rattle.pf_model.specs.declared.nodes.Node.{Node}
use Rattle.plain_graph.specs.declared.survey.Extent.{Extent}
use Rattle.pf_model.specs.Graphs.{Look, Nodes, node_at, has_id, children_of, greatest, height_in, size_in, below_in, levels, height_of, size_of}
use Rattle.pf_model.specs.Edits.{greatest_height}
use Rattle.plain_graph.specs.Extents.{leaf, nothing, over, above, told, next_table, table_in, extent_in, extent_of, extents_of}
use Rattle.pf_model.specs.Limits.{IsRising}
use Rattle.pf_model.proofs.Places.{funext, any_entry, node_at_none, id_at_place, same_map, all_found, from_found}
use Rattle.pf_model.proofs.Levels.{levels_are, height_at_most}

-- a table tells each id's value
pub told_is : (base : Extent) (F : ℕ → Extent) (nodes : Nodes) → ((b : ℕ) → node_at nodes b ≡ None → F b ≡ base) → (id : ℕ) → told base nodes (map (λ e. F e.0) nodes) id ≡ F id
told_is base F nodes absent id = by (position (has_id id) nodes) refl
  where
    by : (q : Option ℕ) → position (has_id id) nodes ≡ q → option_map_or (λ p. slice_index_or (map (λ e. F e.0) nodes) p base) q base ≡ F id
    by None e = sym (absent id (node_at_none nodes id e))
    by (Some p) e = get_or-map (λ (f : ℕ × Node). F f.0) nodes p any_entry base ((position-Some (has_id id) nodes p any_entry e).0) ∙ ap F (id_at_place nodes id p e)

-- the extent of a height, a size and what is below, which are not bounded
capped : ℕ → ℕ → Bool → Extent
capped h s r = record { height = min 4097 h; size = min 131073 s; reaches = r }

capped_same : (a b s t : ℕ) (q r : Bool) → min 4097 a ≡ min 4097 b → min 131073 s ≡ min 131073 t → q ≡ r → capped a s q ≡ capped b t r
unfolding capped
capped_same a b s t q' r' p q r = λ i. record { height = p i; size = q i; reaches = r i }

over_capped : (target c a b h s : ℕ) (q r : Bool) → over target (capped (1 + a) (1 + b) q) (c, capped h s r) ≡ capped (1 + max a h) (1 + (b + s)) (q || (c == target || r))
unfolding capped
over_capped target c a b h s q r =
    let high : max (min 4097 (1 + a)) (min 4097 (min 4097 h + 1)) ≡ min 4097 (1 + max a h) = omega arith in
    let large : min 131073 (min 131073 (1 + b) + min 131073 s) ≡ min 131073 (1 + (b + s)) = omega arith in
    λ i. record { height = high i; size = large i; reaches = q || (c == target || r) }

or_false : (q : Bool) → q ≡ (q || false)
or_false true = refl
or_false false = refl

or_assoc : (q r s : Bool) → ((q || r) || s) ≡ (q || (r || s))
or_assoc true r s = refl
or_assoc false r s = refl

above_from : (target : ℕ) (G : ℕ → Extent) (h s : ℕ → ℕ) (r : ℕ → Bool) → ((c : ℕ) → G c ≡ capped (h c) (s c) (r c)) → (a b : ℕ) (q : Bool) (cs : List ℕ)
    → fold (λ e c. over target e (c, G c)) (capped (1 + a) (1 + b) q) cs ≡ capped (1 + max a (greatest (map h cs))) (1 + (b + sum (map s cs))) (q || list_any (λ c. c == target || r c) cs)
above_from target G h s r same a b q [] = capped_same (1 + a) (1 + max a 0) (1 + b) (1 + (b + 0)) q (q || false) (omega arith) (omega arith) (or_false q)
above_from target G h s r same a b q (c ∷ cs) =
    ap (λ x. fold (λ e d. over target e (d, G d)) x cs) (ap (λ g. over target (capped (1 + a) (1 + b) q) (c, g)) (same c) ∙ over_capped target c a b (h c) (s c) q (r c))
    ∙ above_from target G h s r same (max a (h c)) (b + s c) (q || (c == target || r c)) cs
    ∙ capped_same (1 + max (max a (h c)) (greatest (map h cs))) (1 + max a (max (h c) (greatest (map h cs)))) (1 + (b + s c + sum (map s cs))) (1 + (b + sum (s c ∷ map s cs)))
    ((q || (c == target || r c)) || list_any (λ d. d == target || r d) cs) (q || ((c == target || r c) || list_any (λ d. d == target || r d) cs))
    (omega arith) (omega (arith, sum_by-cons (λ (n : ℕ). n) (s c) (map s cs))) (or_assoc q (c == target || r c) (list_any (λ d. d == target || r d) cs))

-- one more level is one more step above the children
pub extent_up : (t n : ℕ) (look : Look) (id : ℕ) → extent_in t (suc n) look id ≡ above t (extent_in t n look) (children_of look id)
unfolding height_in size_in below_in capped
extent_up t n look id =
    let cs : List ℕ = children_of look id in
    let hs : ℕ = greatest (map (height_in n look) cs) in
    let ss : ℕ = sum (map (size_in n look) cs) in
    capped_same (1 + hs) (1 + max 0 hs) (1 + ss) (1 + (0 + ss)) (list_any (λ c. c == t || below_in n look c t) cs) (false || list_any (λ c. c == t || below_in n look c t) cs) (omega arith) (omega arith) refl
    ∙ sym (above_from t (extent_in t n look) (height_in n look) (size_in n look) (λ c. below_in n look c t) (λ c. refl) 0 0 false (children_of look id))

-- extents that one more level leaves as they are stay so
pub settled : (t n : ℕ) (look : Look) → ((id : ℕ) → extent_in t (suc n) look id ≡ extent_in t n look id) → (k id : ℕ) → extent_in t (k + n) look id ≡ extent_in t n look id
settled t n look same zero id = ap (λ m. extent_in t m look id) (zero-add n)
settled t n look same (suc k) id =
    ap (λ m. extent_in t m look id) (suc-add k n)
    ∙ extent_up t (k + n) look id
    ∙ ap (λ f. above t f (children_of look id)) (funext _ _ (settled t n look same k))
    ∙ sym (extent_up t n look id)
    ∙ same id

-- Tables of levels

extent_none : (t n : ℕ) (look : Look) (id : ℕ) → look id ≡ None → extent_in t (suc n) look id ≡ leaf
extent_none t n look id none = extent_up t n look id ∙ ap (λ o. above t (extent_in t n look) (option_map_or (λ (m : Node). m.children) o [])) none

extent_zero : (t : ℕ) (look : Look) (id : ℕ) → extent_in t 0 look id ≡ nothing
unfolding height_in size_in below_in
extent_zero t look id = refl

told_nothing : (nodes : Nodes) (id : ℕ) → told nothing nodes [] id ≡ nothing
told_nothing nodes id = by (position (has_id id) nodes)
  where
    by : (q : Option ℕ) → option_map_or (λ p. slice_index_or (let l : List Extent = [] in l) p nothing) q nothing ≡ nothing
    by None = refl
    by (Some p) = refl

-- a pass over a table that tells the extents of n levels makes the table of one more
next_is : (t n : ℕ) (base : Extent) (nodes : Nodes) (table : List Extent) → IsRising (map (λ e. e.0) nodes) → ((id : ℕ) → told base nodes table id ≡ extent_in t n (node_at nodes) id) → next_table t base nodes table ≡ table_in t (suc n) nodes
next_is t n base nodes table rising tells =
    same_map (λ e. above t (told base nodes table) e.1.children) (λ e. extent_in t (suc n) (node_at nodes) e.0) nodes
    (from_found _ nodes nodes (λ e found.
    ap (λ f. above t f e.1.children) (funext (told base nodes table) (extent_in t n (node_at nodes)) tells)
    ∙ ap (λ o. above t (extent_in t n (node_at nodes)) (option_map_or (λ (m : Node). m.children) o [])) (sym found)
    ∙ sym (extent_up t n (node_at nodes) e.0))
    (all_found nodes rising))

pub first_table : (t : ℕ) (nodes : Nodes) → IsRising (map (λ e. e.0) nodes) → next_table t nothing nodes [] ≡ table_in t 1 nodes
first_table t nodes rising = next_is t 0 nothing nodes [] rising (λ id. told_nothing nodes id ∙ sym (extent_zero t (node_at nodes) id))

pub table_next : (t n : ℕ) (nodes : Nodes) → IsRising (map (λ e. e.0) nodes) → next_table t leaf nodes (table_in t (suc n) nodes) ≡ table_in t (suc (suc n)) nodes
table_next t n nodes rising =
    next_is t (suc n) leaf nodes (table_in t (suc n) nodes) rising (told_is leaf (extent_in t (suc n) (node_at nodes)) nodes (extent_none t n (node_at nodes)))

-- tables that are equal tell the same of each id with a node
agree : (f g : ℕ → Extent) (nodes : Nodes) (id p : ℕ) → position (has_id id) nodes ≡ Some p → map (λ e. f e.0) nodes ≡ map (λ e. g e.0) nodes → f id ≡ g id
agree f g nodes id p at same =
    let l : p < length nodes = (position-Some (has_id id) nodes p any_entry at).0 in
    ap f (sym (id_at_place nodes id p at))
    ∙ sym (get_or-map (λ (e : ℕ × Node). f e.0) nodes p any_entry leaf l)
    ∙ ap (λ (es : List Extent). get_or es p leaf) same
    ∙ get_or-map (λ (e : ℕ × Node). g e.0) nodes p any_entry leaf l
    ∙ ap g (id_at_place nodes id p at)

repeated : (t n : ℕ) (nodes : Nodes) → table_in t (suc (suc n)) nodes ≡ table_in t (suc n) nodes → (id : ℕ) → extent_in t (suc (suc n)) (node_at nodes) id ≡ extent_in t (suc n) (node_at nodes) id
repeated t n nodes same id = by (position (has_id id) nodes) refl
  where
    by : (q : Option ℕ) → position (has_id id) nodes ≡ q → extent_in t (suc (suc n)) (node_at nodes) id ≡ extent_in t (suc n) (node_at nodes) id
    by None e = extent_none t (suc n) (node_at nodes) id (node_at_none nodes id e) ∙ sym (extent_none t n (node_at nodes) id (node_at_none nodes id e))
    by (Some p) e = agree (extent_in t (suc (suc n)) (node_at nodes)) (extent_in t (suc n) (node_at nodes)) nodes id p e same

pub table_stays : (t n k : ℕ) (nodes : Nodes) → table_in t (suc (suc n)) nodes ≡ table_in t (suc n) nodes → table_in t (k + suc n) nodes ≡ table_in t (suc n) nodes
table_stays t n k nodes same = ap (λ f. map (λ (e : ℕ × Node). f e.0) nodes) (funext _ _ (settled t (suc n) (node_at nodes) (repeated t n nodes same) k))

-- The last level

extent_last : (t n : ℕ) (look : Look) (id : ℕ) → levels ≡ n → n ≤ 4097 → extent_in t n look id ≡ extent_of t look id
extent_last t n look id e l = subst (λ (m : ℕ). extent_in t m look id ≡ extent_of t look id) e (last (sym_le e l))
  where
    sym_le : levels ≡ n → n ≤ 4097 → levels ≤ 4097
    sym_le e l = omega arith

    last : levels ≤ 4097 → extent_in t levels look id ≡ extent_of t look id
    last l = let bound : height_in levels look id ≤ levels = height_at_most levels look id in
        let same : min 4097 (height_in levels look id) ≡ height_in levels look id = omega arith in
        λ i. record { height = same i; size = min 131073 (size_in levels look id); reaches = below_in levels look id t }

pub last_table : (t n : ℕ) (nodes : Nodes) → n ≡ 4097 → table_in t n nodes ≡ extents_of t nodes
last_table t n nodes e = ap (λ f. map (λ (d : ℕ × Node). f d.0) nodes) (funext _ _ (λ id. extent_last t n (node_at nodes) id (levels_are ∙ sym e) (omega arith)))

-- For the loop over the levels

pub level_next : (t m : ℕ) (nodes : Nodes) → IsRising (map (λ e. e.0) nodes) → 1 ≤ m → next_table t leaf nodes (table_in t m nodes) ≡ table_in t (m + 1) nodes
level_next t zero nodes rising l = absurd (omega arith)
level_next t (suc n) nodes rising l = table_next t n nodes rising ∙ ap (λ k. table_in t k nodes) (sym (add-one (suc n)))

pub level_last : (t m : ℕ) (nodes : Nodes) → 1 ≤ m → m ≤ 4097 → table_in t (m + 1) nodes ≡ table_in t m nodes → table_in t m nodes ≡ extents_of t nodes
level_last t zero nodes l h same = absurd (omega arith)
level_last t (suc n) nodes l h same =
    sym (table_stays t n (4097 - suc n) nodes (ap (λ k. table_in t k nodes) (sym (add-one (suc n))) ∙ same))
    ∙ last_table t (4097 - suc n + suc n) nodes (omega arith)

-- What is read off a table

pub greatest_more : (es : List Extent) (i : ℕ) (d : Extent) → i < length es → greatest (map (λ e. e.height) (take (i + 1) es)) ≡ max (greatest (map (λ e. e.height) (take i es))) (get_or es i d).height
greatest_more es i d l =
    ap (λ xs. greatest (map (λ (e : Extent). e.height) xs)) (take_more es i d l)
    ∙ max_push (λ xs. greatest (map (λ (e : Extent). e.height) xs)) (λ e. e.height) refl (λ x xs. refl) (take i es) (get_or es i d)

-- a full table tells each id's extent
pub told_of : (t : ℕ) (nodes : Nodes) (id : ℕ) → told leaf nodes (extents_of t nodes) id ≡ extent_of t (node_at nodes) id
told_of t nodes id = told_is leaf (extent_of t (node_at nodes)) nodes (λ b none. sym (extent_last t 4097 (node_at nodes) b levels_are (omega arith)) ∙ extent_none t 4096 (node_at nodes) b none) id

pub heights_told : (t : ℕ) (nodes : Nodes) → greatest (map (λ e. e.height) (extents_of t nodes)) ≡ greatest_height nodes
heights_told t nodes = ap greatest (map_map nodes)
  where
    map_map : (es : Nodes) → map (λ (e : Extent). e.height) (map (λ (f : ℕ × Node). extent_of t (node_at nodes) f.0) es) ≡ map (λ f. height_of (node_at nodes) f.0) es
    map_map [] = refl
    map_map (e ∷ es) = ap (λ xs. height_of (node_at nodes) e.0 ∷ xs) (map_map es)

over_cap : (s : ℕ) → nat_lt 131072 (min 131073 s) ≡ nat_lt 131072 s
over_cap s = grind (arith, nat_tests)

pub sizes_told : (t : ℕ) (nodes : Nodes) → list_any (λ e. nat_lt 131072 e.size) (extents_of t nodes) ≡ list_any (λ f. nat_lt 131072 (size_of (node_at nodes) f.0)) nodes
sizes_told t nodes = by nodes
  where
    by : (es : Nodes) → list_any (λ (e : Extent). nat_lt 131072 e.size) (map (λ (f : ℕ × Node). extent_of t (node_at nodes) f.0) es) ≡ list_any (λ f. nat_lt 131072 (size_of (node_at nodes) f.0)) es
    by [] = refl
    by (e ∷ es) = λ i. over_cap (size_of (node_at nodes) e.0) i || by es i
