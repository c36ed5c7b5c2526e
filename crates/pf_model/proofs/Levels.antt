-- More levels change nothing where no chain is so long, and no node is then below itself.
use Rattle.std.proofs.Common.{◌≡◌, ℕ, zero, suc, ◌+◌, ◌<◌, ◌≤◌, Bool, true, false, ◌||◌, ◌==◌, List, [], ◌∷◌, ◌++◌, map, sum, Option, Some, None, refl, sym, ◌∙◌, ap, subst, arith, add-zero, suc-add, add-suc}
use Rattle.std.specs.List.{AllByRecursion, list_any, flat_map, enumerate_from, slice_get}
use Rattle.std.specs.Option.{option_map_or, option_map, option_to_list}
use Rattle.std.proofs.lemmas.Bool.{eqb-true}
use Rattle.pf_model.specs.declared.nodes.Node.{Node}
use Rattle.pf_model.specs.declared.nodes.Chosen.{Chosen}
use Rattle.pf_model.specs.declared.nodes.Chosen.TheVariants.{All, Nothing, One}
use Rattle.pf_model.specs.Kinds.{own_steps, geom_of}
use Rattle.pf_model.specs.Graphs.{Look, children_of, greatest, height_in, size_in, below_in, levels, height_of, size_of, is_below}
use Rattle.pf_model.specs.Walks.{Occurrence, shown_children, chosen_in, child_of, children_in, under, walk_in}
use Rattle.pf_model.specs.Boxes.{box_from, box_step, box_in, box_of_tris, hull_of_all}
use Rattle.fx_math.specs.Plain.{Bounds}
use Rattle.fx_math.specs.Fixed.{carry_box}

-- Levels

pub greatest_at_most : (f : ℕ → ℕ) (m : ℕ) → ((c : ℕ) → f c ≤ m) → (cs : List ℕ) → greatest (map f cs) ≤ m
greatest_at_most f m h [] = omega arith
greatest_at_most f m h (c ∷ cs) = let a : f c ≤ m = h c in let b : greatest (map f cs) ≤ m = greatest_at_most f m h cs in omega arith

pub height_at_most : (n : ℕ) (look : Look) (id : ℕ) → height_in n look id ≤ n
unfolding height_in
height_at_most zero look id = omega arith
height_at_most (suc n) look id = let a : greatest (map (height_in n look) (children_of look id)) ≤ n = greatest_at_most (height_in n look) n (height_at_most n look) (children_of look id) in omega arith

pub levels_are : levels ≡ 4097
unfolding levels
levels_are = refl

-- Facts on each element

pub all_map : {X : Type 0} (P Q : X → Type 0) → ((x : X) → P x → Q x) → (xs : List X) → AllByRecursion P xs → AllByRecursion Q xs
all_map P Q f [] h = tt
all_map P Q f (x ∷ xs) h = (f x h.0, all_map P Q f xs h.1)

pub map_agree : {X Y : Type 0} (f g : X → Y) (xs : List X) → AllByRecursion (λ x. f x ≡ g x) xs → map f xs ≡ map g xs
map_agree f g [] h = refl
map_agree f g (x ∷ xs) h = λ i. h.0 i ∷ map_agree f g xs h.1 i

pub flat_map_agree : {X Y : Type 0} (f g : X → List Y) (xs : List X) → AllByRecursion (λ x. f x ≡ g x) xs → flat_map f xs ≡ flat_map g xs
flat_map_agree f g [] h = refl
flat_map_agree f g (x ∷ xs) h = ap (λ ys. ys ++ flat_map f xs) h.0 ∙ ap (λ ys. g x ++ ys) (flat_map_agree f g xs h.1)

pub any_agree : (p q : ℕ → Bool) (xs : List ℕ) → AllByRecursion (λ x. p x ≡ q x) xs → list_any p xs ≡ list_any q xs
any_agree p q [] h = refl
any_agree p q (x ∷ xs) h = λ i. h.0 i || any_agree p q xs h.1 i

each_at_most : (f : ℕ → ℕ) (m : ℕ) (cs : List ℕ) → greatest (map f cs) ≤ m → AllByRecursion (λ c. f c ≤ m) cs
each_at_most f m [] l = tt
each_at_most f m (c ∷ cs) l = (omega arith, each_at_most f m cs (omega arith))

-- Heights step by step

pub height_step : (n : ℕ) (look : Look) (id : ℕ) → height_in (suc n) look id ≡ 1 + greatest (map (height_in n look) (children_of look id))
unfolding height_in
height_step n look id = refl

pub size_step : (n : ℕ) (look : Look) (id : ℕ) → size_in (suc n) look id ≡ 1 + sum (map (size_in n look) (children_of look id))
unfolding size_in
size_step n look id = refl

pub below_step : (n : ℕ) (look : Look) (a b : ℕ) → below_in (suc n) look a b ≡ list_any (λ c. c == b || below_in n look c b) (children_of look a)
unfolding below_in
below_step n look a b = refl

-- the children of a node of a height at most suc m have heights of at most m
pub children_low : (look : Look) (m id : ℕ) → height_in (suc (suc m)) look id ≤ suc m → AllByRecursion (λ c. height_in (suc m) look c ≤ m) (children_of look id)
children_low look m id l =
    let e : 1 + greatest (map (height_in (suc m) look) (children_of look id)) ≤ suc m = subst (λ (h : ℕ). h ≤ suc m) (height_step (suc m) look id) l in
    each_at_most (height_in (suc m) look) m (children_of look id) (omega arith)

pub no_height : (look : Look) (id : ℕ) → height_in 1 look id ≤ 0 → ⊥
no_height look id l =
    let e : 1 + greatest (map (height_in 0 look) (children_of look id)) ≤ 0 = subst (λ (h : ℕ). h ≤ 0) (height_step 0 look id) l in
    omega arith

-- what goes down the graph by levels settles where no chain is longer
pub settles : {X : Type 0} (look : Look) (F : ℕ → ℕ → X) (up : ℕ → (ℕ → X) → X)
    → ((n id : ℕ) → F (suc n) id ≡ up id (F n))
    → ((id : ℕ) (f g : ℕ → X) → AllByRecursion (λ c. f c ≡ g c) (children_of look id) → up id f ≡ up id g)
    → (n id k : ℕ) → height_in (suc n) look id ≤ n → F (n + k) id ≡ F n id
settles look F up step same zero id k l = absurd (no_height look id l)
settles look F up step same (suc m) id k l =
    ap (λ j. F j id) (suc-add m k)
    ∙ step (m + k) id
    ∙ same id (F (m + k)) (F m)
    (all_map (λ c. height_in (suc m) look c ≤ m) (λ c. F (m + k) c ≡ F m c) (λ c h. settles look F up step same m c k h) (children_of look id) (children_low look m id l))
    ∙ sym (step m id)

pub heights_settle : (look : Look) (n id k : ℕ) → height_in (suc n) look id ≤ n → height_in (n + k) look id ≡ height_in n look id
heights_settle look =
    settles look (λ n. height_in n look) (λ id f. 1 + greatest (map f (children_of look id))) (λ n id. height_step n look id)
    (λ id f g h. ap (λ xs. 1 + greatest xs) (map_agree f g (children_of look id) h))

pub sizes_settle : (look : Look) (n id k : ℕ) → height_in (suc n) look id ≤ n → size_in (n + k) look id ≡ size_in n look id
sizes_settle look =
    settles look (λ n. size_in n look) (λ id f. 1 + sum (map f (children_of look id))) (λ n id. size_step n look id)
    (λ id f g h. ap (λ xs. 1 + sum xs) (map_agree f g (children_of look id) h))

pub box_next : (n : ℕ) (look : Look) (id : ℕ) → box_in (suc n) look id ≡ box_step look (box_in n look) id
unfolding box_in
box_next n look id = refl

-- the box of a node looks at no other nodes than its children
pub boxes_agree : (o : Option Node) (f g : ℕ → Option Bounds) → AllByRecursion (λ c. f c ≡ g c) (option_map_or (λ n. n.children) o []) → option_map_or (box_from f) o None ≡ option_map_or (box_from g) o None
boxes_agree None f g h = refl
boxes_agree (Some n) f g h = ap (λ bs. option_map_or box_of_tris (geom_of n.kind) (option_map (carry_box (own_steps n.kind)) (hull_of_all bs))) (map_agree f g n.children h)

pub boxes_settle : (look : Look) (n id k : ℕ) → height_in (suc n) look id ≤ n → box_in (n + k) look id ≡ box_in n look id
boxes_settle look =
    settles look (λ n. box_in n look) (λ id f. box_step look f id) (λ n id. box_next n look id) (λ id f g h. boxes_agree (look id) f g h)

-- one more level of what is below looks at the children alone
pub below_agrees : (b : ℕ) (p q : ℕ → Bool) (cs : List ℕ) → AllByRecursion (λ c. p c ≡ q c) cs → list_any (λ c. c == b || p c) cs ≡ list_any (λ c. c == b || q c) cs
below_agrees b p q cs h =
    any_agree (λ c. c == b || p c) (λ c. c == b || q c) cs
    (all_map (λ c. p c ≡ q c) (λ c. (c == b || p c) ≡ (c == b || q c)) (λ c e. ap (λ t. c == b || t) e) cs h)

pub below_settles : (look : Look) (b n id k : ℕ) → height_in (suc n) look id ≤ n → below_in (n + k) look id b ≡ below_in n look id b
below_settles look b =
    settles look (λ n a. below_in n look a b) (λ a p. list_any (λ c. c == b || p c) (children_of look a)) (λ n a. below_step n look a b)
    (λ a p q h. below_agrees b p q (children_of look a) h)

-- Walks

all_enumerated : (P : ℕ → Type 0) (i : ℕ) (cs : List ℕ) → AllByRecursion P cs → AllByRecursion (λ p. P p.1) (enumerate_from i cs)
all_enumerated P i [] h = tt
all_enumerated P i (c ∷ cs) h = (h.0, all_enumerated P (i + 1) cs h.1)

all_at : (P : ℕ → Type 0) (i j : ℕ) (cs : List ℕ) → AllByRecursion P cs → AllByRecursion (λ (p : ℕ × ℕ). P p.1) (option_to_list (option_map (λ c. (i, c)) (slice_get cs j)))
all_at P i j [] h = tt
all_at P i zero (c ∷ cs) h = (h.0, tt)
all_at P i (suc j) (c ∷ cs) h = all_at P i j cs h.1

-- what holds of all children holds of those that are shown
pub shown_all : (P : ℕ → Type 0) (ch : Chosen) (cs : List ℕ) → AllByRecursion P cs → AllByRecursion (λ p. P p.1) (shown_children ch cs)
shown_all P All cs h = all_enumerated P 0 cs h
shown_all P Nothing cs h = tt
shown_all P (One i) cs h = all_at P i i cs h

all_mapped : {X Y : Type 0} (f : X → Y) (P : Y → Type 0) (xs : List X) → AllByRecursion (λ x. P (f x)) xs → AllByRecursion P (map f xs)
all_mapped f P [] h = tt
all_mapped f P (x ∷ xs) h = (h.0, all_mapped f P xs h.1)

pub under_all : (P : ℕ → Type 0) (look : Look) (time : ℕ) (o : Occurrence) → AllByRecursion P (children_of look o.id) → AllByRecursion (λ u. P u.id) (under look time o)
under_all P look time o h = by (look o.id) h
  where
    by : (m : Option Node) → AllByRecursion P (option_map_or (λ n. n.children) m []) → AllByRecursion (λ u. P u.id) (option_map_or (children_in time o) m [])
    by None h = tt
    by (Some n) h = all_mapped (child_of n o) (λ u. P u.id) (shown_children (chosen_in time n o.steps) n.children) (shown_all P (chosen_in time n o.steps) n.children h)

pub walk_step : (n : ℕ) (look : Look) (time : ℕ) (o : Occurrence) → walk_in (suc n) look time o ≡ o ∷ flat_map (walk_in n look time) (under look time o)
unfolding walk_in
walk_step n look time o = refl

pub walks_settle : (look : Look) (time n : ℕ) (o : Occurrence) (k : ℕ) → height_in (suc n) look o.id ≤ n → walk_in (n + k) look time o ≡ walk_in n look time o
walks_settle look time zero o k l = absurd (no_height look o.id l)
walks_settle look time (suc m) o k l =
    ap (λ j. walk_in j look time o) (suc-add m k)
    ∙ walk_step (m + k) look time o
    ∙ ap (λ os. o ∷ os) (flat_map_agree (walk_in (m + k) look time) (walk_in m look time) (under look time o)
    (all_map (λ u. height_in (suc m) look u.id ≤ m) (λ u. walk_in (m + k) look time u ≡ walk_in m look time u) (λ u h. walks_settle look time m u k h) (under look time o)
    (under_all (λ c. height_in (suc m) look c ≤ m) look time o (children_low look m o.id l))))
    ∙ sym (walk_step m look time o)

-- Fewer levels never make a height greater

greatest_mono : (f g : ℕ → ℕ) → ((c : ℕ) → f c ≤ g c) → (cs : List ℕ) → greatest (map f cs) ≤ greatest (map g cs)
greatest_mono f g h [] = omega arith
greatest_mono f g h (c ∷ cs) = let a : f c ≤ g c = h c in let b : greatest (map f cs) ≤ greatest (map g cs) = greatest_mono f g h cs in omega arith

height_more : (n : ℕ) (look : Look) (id : ℕ) → height_in n look id ≤ height_in (suc n) look id
height_more zero look id = let z : height_in 0 look id ≤ 0 = height_at_most 0 look id in omega arith
height_more (suc n) look id =
    let a : greatest (map (height_in n look) (children_of look id)) ≤ greatest (map (height_in (suc n) look) (children_of look id)) = greatest_mono (height_in n look) (height_in (suc n) look) (height_more n look) (children_of look id) in
    rw (height_step n look id, height_step (suc n) look id) (omega arith)

pub height_up : (n : ℕ) (look : Look) (id k : ℕ) → height_in n look id ≤ height_in (n + k) look id
height_up n look id zero = subst (λ (m : ℕ). height_in n look id ≤ height_in m look id) (sym (add-zero n)) (omega arith)
height_up n look id (suc k) =
    let a : height_in n look id ≤ height_in (n + k) look id = height_up n look id k in
    let b : height_in (n + k) look id ≤ height_in (suc (n + k)) look id = height_more (n + k) look id in
    subst (λ (m : ℕ). height_in n look id ≤ height_in m look id) (sym (add-suc n k)) (omega arith)

-- a height of at most 32 is known from 33 levels
pub low_at : (look : Look) (id : ℕ) → height_of look id ≤ 32 → height_in 33 look id ≤ 32
low_at look id l =
    let a : height_in 33 look id ≤ height_in (33 + 4064) look id = height_up 33 look id 4064 in
    let e : height_in (33 + 4064) look id ≡ height_of look id = ap (λ (n : ℕ). height_in n look id) (sym levels_are) in
    omega arith

-- Heights at the limit obey their recursion, and so no node is below itself

pub height_is : (look : Look) (id : ℕ) → height_of look id ≤ 32 → height_of look id ≡ 1 + greatest (map (height_of look) (children_of look id))
height_is look id l =
    ap (λ (n : ℕ). height_in n look id) levels_are
    ∙ heights_settle look 32 id 4065 (low_at look id l)
    ∙ sym (heights_settle look 32 id 4066 (low_at look id l))
    ∙ height_step 4097 look id
    ∙ ap (λ (n : ℕ). 1 + greatest (map (height_in n look) (children_of look id))) (sym levels_are)

below_child : (h : ℕ → ℕ) (p : ℕ → Bool) (b m : ℕ) (cs : List ℕ) → ((c : ℕ) → p c ≡ true → h b ≤ h c) → greatest (map h cs) < m → list_any p cs ≡ true → h b < m
below_child h p b m [] step l any = absurd (cc)
below_child h p b m (c ∷ cs) step l any = by (λ r. below_child h p b m cs step (omega arith) r) (p c) refl any
  where
    by : (list_any p cs ≡ true → h b < m) → (t : Bool) → p c ≡ t → (t || list_any p cs) ≡ true → h b < m
    by rest true e any = let s : h b ≤ h c = step c e in omega arith
    by rest false e any = rest any

pub below_zero : (look : Look) (a b : ℕ) → below_in 0 look a b ≡ false
unfolding below_in
below_zero look a b = refl

pub below_less : (look : Look) → ((id : ℕ) → height_of look id ≤ 32) → (n a b : ℕ) → below_in n look a b ≡ true → height_of look b < height_of look a
below_less look low zero a b below = absurd (none below)
  where
    none : below_in 0 look a b ≡ true → ⊥
    none e = let f : below_in 0 look a b ≡ false = below_zero look a b in cc
below_less look low (suc n) a b below =
    let e : height_of look a ≡ 1 + greatest (map (height_of look) (children_of look a)) = height_is look a (low a) in
    below_child (height_of look) (λ c. c == b || below_in n look c b) b (height_of look a) (children_of look a)
    (λ c h. step (λ d. below_less look low n d b) c (c == b) refl (below_in n look c b) refl h) (omega arith) (sym (below_step n look a b) ∙ below)
  where
    step : ((c : ℕ) → below_in n look c b ≡ true → height_of look b < height_of look c) → (c : ℕ) (s : Bool) → (c == b) ≡ s → (t : Bool) → below_in n look c b ≡ t → (s || t) ≡ true → height_of look b ≤ height_of look c
    step rec c true es t et h = let same : c ≡ b = eqb-true c b es in subst (λ (d : ℕ). height_of look b ≤ height_of look d) (sym same) (omega arith)
    step rec c false es true et h = let k : height_of look b < height_of look c = rec c et in omega arith
    step rec c false es false et h = absurd (cc)

pub none_below_itself : (look : Look) → ((id : ℕ) → height_of look id ≤ 32) → (id : ℕ) → is_below look id id ≡ false
none_below_itself look low id = by (is_below look id id) refl
  where
    by : (t : Bool) → is_below look id id ≡ t → t ≡ false
    by false e = refl
    by true e = absurd (let l : height_of look id < height_of look id = below_less look low levels id id e in omega arith)

-- At the limit of 32 levels

pub height_at_limit : (look : Look) (id : ℕ) → height_of look id ≤ 32 → height_of look id ≡ height_in 32 look id
height_at_limit look id l = ap (λ (n : ℕ). height_in n look id) levels_are ∙ heights_settle look 32 id 4065 (low_at look id l)

pub size_at_limit : (look : Look) (id : ℕ) → height_of look id ≤ 32 → size_of look id ≡ size_in 32 look id
size_at_limit look id l = ap (λ (n : ℕ). size_in n look id) levels_are ∙ sizes_settle look 32 id 4065 (low_at look id l)

pub box_is_step : (look : Look) (id : ℕ) → height_of look id ≤ 32 → box_in 32 look id ≡ box_step look (box_in 32 look) id
box_is_step look id l = sym (boxes_settle look 32 id 1 (low_at look id l)) ∙ box_next 32 look id

pub below_at_limit : (look : Look) (a b : ℕ) → height_of look a ≤ 32 → is_below look a b ≡ below_in 32 look a b
below_at_limit look a b l = ap (λ (n : ℕ). below_in n look a b) levels_are ∙ below_settles look b 32 a 4065 (low_at look a l)
