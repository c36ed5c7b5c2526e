-- The box of a node contains the carried boxes of its children.
use Rattle.std.proofs.Common.{◌≡◌, ℕ, zero, suc, List, [], ◌∷◌, map, Option, Some, None, sym, ◌∙◌, ap, subst, arith}
use Rattle.std.proofs.lemmas.Int.{ints}
use Rattle.std.specs.List.{AllByRecursion, fold, flat_map}
use Rattle.std.specs.Option.{option_map_or, option_map}
use Rattle.fx_math.specs.Plain.{Point, Matrix, Bounds, IsBox}
use Rattle.fx_math.specs.Fixed.{carry_box, box_at, hull, hull_of}
use Rattle.fx_math.proofs.Containment.{hull-IsBox, hull-first, hull-second, carry_box-IsBox, carry_box-inside, inside_same, inside_trans}
use Rattle.pf_model.specs.declared.geometry.Tri.{Tri}
use Rattle.pf_model.specs.declared.nodes.Node.{Node}
use Rattle.pf_model.specs.Kinds.{geom_of, own_steps}
use Rattle.pf_model.specs.Graphs.{Look}
use Rattle.pf_model.specs.Boxes.{joined, hull_of_all, corners, box_of_tris, box_from, box_step, box_in}
use Rattle.pf_model.specs.Laws.{Lies, IsBoxOrNone, ChildrenLie}
use Rattle.pf_model.proofs.Levels.{all_map}

pub lies_same : (b : Option Bounds) → Lies b b
lies_same None = tt
lies_same (Some b) = inside_same b

pub lies_trans : (a b c : Option Bounds) → Lies a b → Lies b c → Lies a c
lies_trans None b c h k = tt
lies_trans (Some a) None c h k = absurd h
lies_trans (Some a) (Some b) None h k = absurd k
lies_trans (Some a) (Some b) (Some c) h k = inside_trans a b c h k

lies_first : (a b : Option Bounds) → Lies a (joined a b)
lies_first None b = tt
lies_first (Some a) None = inside_same a
lies_first (Some a) (Some b) = hull-first a b

lies_second : (a b : Option Bounds) → Lies b (joined a b)
lies_second None None = tt
lies_second None (Some b) = inside_same b
lies_second (Some a) None = tt
lies_second (Some a) (Some b) = hull-second a b

-- what lies in the start lies in the hull
lies_fold : (a : Option Bounds) (bs : List (Option Bounds)) → Lies a (fold joined a bs)
lies_fold a [] = lies_same a
lies_fold a (b ∷ bs) = lies_trans a (joined a b) (fold joined (joined a b) bs) (lies_first a b) (lies_fold (joined a b) bs)

-- each box lies in the hull of all
pub lie_in_fold : (f : ℕ → Option Bounds) (a : Option Bounds) (cs : List ℕ) → AllByRecursion (λ c. Lies (f c) (fold joined a (map f cs))) cs
lie_in_fold f a [] = tt
lie_in_fold f a (c ∷ cs) =
    (lies_trans (f c) (joined a (f c)) (fold joined (joined a (f c)) (map f cs)) (lies_second a (f c)) (lies_fold (joined a (f c)) (map f cs)), lie_in_fold f (joined a (f c)) cs)

-- carrying keeps what lies in another
pub lies_carried : (ms : List Matrix) (a b : Option Bounds) → IsBoxOrNone a → Lies a b → Lies (option_map (carry_box ms) a) (option_map (carry_box ms) b)
lies_carried ms None b box h = tt
lies_carried ms (Some a) None box h = absurd h
lies_carried ms (Some a) (Some b) box h = carry_box-inside ms a b box h

-- boxes are boxes

joined_is_box : (a b : Option Bounds) → IsBoxOrNone a → IsBoxOrNone b → IsBoxOrNone (joined a b)
joined_is_box None b ha hb = hb
joined_is_box (Some a) None ha hb = ha
joined_is_box (Some a) (Some b) ha hb = hull-IsBox a b ha hb

fold_is_box : (a : Option Bounds) (bs : List (Option Bounds)) → IsBoxOrNone a → AllByRecursion IsBoxOrNone bs → IsBoxOrNone (fold joined a bs)
fold_is_box a [] ha hs = ha
fold_is_box a (b ∷ bs) ha hs = fold_is_box (joined a b) bs (joined_is_box a b ha hs.0) hs.1

carried_is_box : (ms : List Matrix) (a : Option Bounds) → IsBoxOrNone a → IsBoxOrNone (option_map (carry_box ms) a)
carried_is_box ms None h = tt
carried_is_box ms (Some a) h = carry_box-IsBox ms a h

all_boxes : {X : Type 0} (f : X → Option Bounds) → ((x : X) → IsBoxOrNone (f x)) → (xs : List X) → AllByRecursion IsBoxOrNone (map f xs)
all_boxes f h [] = tt
all_boxes f h (x ∷ xs) = (h x, all_boxes f h xs)

point_is_box : (p : Point) → IsBox (box_at p)
point_is_box p = record { x_ordered = omega (arith, ints); y_ordered = omega (arith, ints); z_ordered = omega (arith, ints) }

points_are_box : (b : Bounds) (ps : List Point) → IsBox b → IsBox (fold hull b (map box_at ps))
points_are_box b [] h = h
points_are_box b (p ∷ ps) h = points_are_box (hull b (box_at p)) ps (hull-IsBox b (box_at p) h (point_is_box p))

hull_is_box : (ps : List Point) → IsBoxOrNone (hull_of ps)
hull_is_box [] = tt
hull_is_box (p ∷ ps) = points_are_box (box_at p) ps (point_is_box p)

pub step_is_box : (look : Look) (boxes : ℕ → Option Bounds) → ((id : ℕ) → IsBoxOrNone (boxes id)) → (id : ℕ) → IsBoxOrNone (box_step look boxes id)
step_is_box look boxes h id = by (look id)
  where
    kind : (n : Node) (ts : Option (List Tri)) → IsBoxOrNone (option_map_or box_of_tris ts (option_map (carry_box (own_steps n.kind)) (hull_of_all (map boxes n.children))))
    kind n None = carried_is_box (own_steps n.kind) (hull_of_all (map boxes n.children)) (fold_is_box None (map boxes n.children) tt (all_boxes boxes h n.children))
    kind n (Some ts) = hull_is_box (flat_map corners ts)

    by : (o : Option Node) → IsBoxOrNone (option_map_or (box_from boxes) o None)
    by None = tt
    by (Some n) = kind n (geom_of n.kind)

pub box_is_box : (n : ℕ) (look : Look) (id : ℕ) → IsBoxOrNone (box_in n look id)
unfolding box_in
box_is_box zero look id = tt
box_is_box (suc n) look id = step_is_box look (box_in n look) (box_is_box n look) id

-- the boxes of the children of a node that is no geode, carried through its steps, lie in its own
pub children_lie : (look : Look) (boxes : ℕ → Option Bounds) → ((id : ℕ) → boxes id ≡ box_step look boxes id) → ((id : ℕ) → IsBoxOrNone (boxes id)) → (id : ℕ) (n : Node) → look id ≡ Some n → geom_of n.kind ≡ None → ChildrenLie boxes id n
children_lie look boxes step box id n found none =
    let own : boxes id ≡ option_map (carry_box (own_steps n.kind)) (hull_of_all (map boxes n.children)) =
    step id ∙ ap (λ o. option_map_or (box_from boxes) o None) found
    ∙ ap (λ g. option_map_or box_of_tris g (option_map (carry_box (own_steps n.kind)) (hull_of_all (map boxes n.children)))) none in
    all_map (λ c. Lies (boxes c) (hull_of_all (map boxes n.children))) (λ c. Lies (option_map (carry_box (own_steps n.kind)) (boxes c)) (boxes id))
    (λ c h. subst (λ (b : Option Bounds). Lies (option_map (carry_box (own_steps n.kind)) (boxes c)) b) (sym own) (lies_carried (own_steps n.kind) (boxes c) (hull_of_all (map boxes n.children)) (box c) h))
    n.children (lie_in_fold boxes None n.children)
