-- Where there is room, the cull adds what is shown, and tests each node that is visited once.
use Rattle.std.proofs.Common.{◌≡◌, ◌∙◌, ℕ, zero, suc, ◌+◌, ◌*◌, ◌≤◌, ◌<◌, List, [], ◌∷◌, ◌++◌, length, Bool, true, false, cond, not, ◌||◌, Option, Some, None, ap, sym, refl, subst, arith}
use Rattle.std.specs.Prelude.{map, filter, count_by, flat_map, filter_map, sum, option_map, nat_lt}
use Rattle.std.specs.List.{cons_option, enumerate_from, slice_get}
use Rattle.std.specs.Option.{option_map_or, option_and_then, option_to_list}
use Rattle.std.proofs.lemmas.List.{map-append}
use Rattle.std.proofs.lemmas.List.Elements.{filter_map-append}
use Rattle.std.proofs.lemmas.List.Sums.{sum_by-cons, sum_by-append}
use Rattle.std.proofs.lemmas.Bool.Decides.{nat_tests}
use Rattle.fx_math.specs.Plain.{Matrix, Bounds}
use Rattle.fx_math.specs.declared.lenses.Lens.{Lens}
use Rattle.pf_model.specs.declared.nodes.Chosen.{Chosen}
use Rattle.pf_model.specs.declared.nodes.Chosen.TheVariants as chosen
use Rattle.pf_model.specs.declared.nodes.Node.{Node}
use Rattle.pf_model.specs.Graphs.{Look, size_in}
use Rattle.pf_model.specs.Kinds.{Surface, surface_of, own_steps, decal}
use Rattle.pf_model.specs.Boxes.{AreBoxes, carried_tris_box, eye_box}
use Rattle.pf_model.specs.Laws.{HasNodeBox}
use Rattle.std.specs.List.{AllByRecursion}
use Rattle.pf_model.specs.Walks.{Occurrence, Instance, instance_of, surface_in, shown_children, chosen_in, child_of, children_in, under, walk_in}
use Rattle.pf_model.proofs.Numbering.{boxed}
use Rattle.draw_list.specs.Joints.{steps_at}
use Rattle.draw_list.specs.Shown.{is_off, is_culled, is_in_sight, is_visited}
use Rattle.draw_list.specs.Lists.{Drawables}
use Rattle.cull_walk.specs.Working.{Scene, Work, At, counted, tested, in_frustum, box_in_sight, own_pose, joint_below, with_drawn, with_below, child_at, over, below, entered, met, culled}
use Rattle.cull_walk.proofs.Pruning.{AreRight, filter-append, out_of_sight, none_visited, has_off_above}
use Rattle.cull_walk.proofs.Adding.{IsSound, Extends, Adds, adds_none, adds_trans, adds_wider}
use Rattle.cull_walk.proofs.Own.{IsAt, own, own_list, own_adds, IsLower, lowered}

-- what occurrences draw, without ids and places
abbrev pub unlabelled : Occurrence × Surface → Instance
unlabelled e = own e.0 e.1

abbrev pub drawn : Look → List Occurrence → List Instance
drawn look os = map unlabelled (filter_map (surface_in look) os)

drawn-append : (look : Look) (os ps : List Occurrence) → drawn look (os ++ ps) ≡ drawn look os ++ drawn look ps
drawn-append look os ps = ap (map unlabelled) (filter_map-append (surface_in look) os ps) ∙ map-append unlabelled (filter_map (surface_in look) os) (filter_map (surface_in look) ps)

abbrev pair : Occurrence → Surface → Occurrence × Surface
pair o s = (o, s)

drawn-one : (look : Look) (o : Occurrence) (n : Node) (os : List Occurrence) → look o.id ≡ Some n → drawn look (o ∷ os) ≡ own_list o (surface_of n.kind) ++ drawn look os
drawn-one look o n os found =
    ap (λ (l : Option Node). map unlabelled (cons_option (option_map (pair o) (option_and_then (λ m. surface_of m.kind) l)) (filter_map (surface_in look) os))) found
    ∙ by (surface_of n.kind)
  where
    by : (s : Option Surface) → map unlabelled (cons_option (option_map (pair o) s) (filter_map (surface_in look) os)) ≡ own_list o s ++ drawn look os
    by None = refl
    by (Some s) = refl

drawn-absent : (look : Look) (o : Occurrence) (os : List Occurrence) → look o.id ≡ None → drawn look (o ∷ os) ≡ drawn look os
drawn-absent look o os absent =
    ap (λ (l : Option Node). map unlabelled (cons_option (option_map (pair o) (option_and_then (λ m. surface_of m.kind) l)) (filter_map (surface_in look) os))) absent

-- ---- the numbers
abbrev greatest_number : ℕ
greatest_number = 4294967295

-- What the cull of a node does: what it adds, its tests, and its number of nodes where that has not come to its end.
pub record Does (look : Look) (w v : Work) (os : List Occurrence) (visits size : ℕ) : Type 0 where
  pub adds : Adds look w.list v.list (drawn look os) size size
  pub tests : v.tests ≡ w.tests + visits
  pub visited : w.visited + visits ≤ greatest_number → v.visited ≡ w.visited + visits

does_trans : (look : Look) (u w v : Work) (os ps : List Occurrence) (i j m n : ℕ) → Does look u w os i m → Does look w v ps j n → Does look u v (os ++ ps) (i + j) (m + n)
does_trans look u w v os ps i j m n a b = record {
  adds = subst (λ (xs : List Instance). Adds look u.list v.list xs (m + n) (m + n)) (sym (drawn-append look os ps)) (adds_trans look u.list w.list v.list (drawn look os) (drawn look ps) m m n n a.adds b.adds);
  tests = omega (arith, a.tests, b.tests);
  visited = λ h.
      let first : w.visited ≡ u.visited + i = a.visited (omega (arith, h)) in
      omega (arith, first, b.visited (omega (arith, h, first)));
}

does_same : (look : Look) (w v : Work) (os ps : List Occurrence) (i j m n : ℕ) → os ≡ ps → i ≡ j → m ≡ n → Does look w v os i m → Does look w v ps j n
does_same look w v os ps i j m n e f g h =
    subst (λ (xs : List Occurrence). Does look w v xs j n) e (subst (λ (k : ℕ). Does look w v os k n) f (subst (λ (k : ℕ). Does look w v os i k) g h))

counted_more : (n : ℕ) → n + 1 ≤ greatest_number → counted n ≡ n + 1
counted_more n h = omega (arith, h)

-- ---- sizes
sum_more : (x : ℕ) (xs : List ℕ) → sum (x ∷ xs) ≡ x + sum xs
sum_more x xs = sum_by-cons (λ (n : ℕ). n) x xs

abbrev pub sizes : ℕ → Look → List (ℕ × ℕ) → ℕ
sizes n look cs = sum (map (λ c. size_in n look c.1) cs)

sizes_all : (n : ℕ) (look : Look) (k : ℕ) (cs : List ℕ) → sizes n look (enumerate_from k cs) ≡ sum (map (size_in n look) cs)
sizes_all n look k [] = refl
sizes_all n look k (c ∷ cs) =
    sum_more (size_in n look c) (map (λ d. size_in n look d.1) (enumerate_from (k + 1) cs))
    ∙ ap (λ (m : ℕ). size_in n look c + m) (sizes_all n look (k + 1) cs)
    ∙ sym (sum_more (size_in n look c) (map (size_in n look) cs))

sizes_one : (n : ℕ) (look : Look) (i place : ℕ) (cs : List ℕ) → sizes n look (option_to_list (option_map (λ c. (place, c)) (slice_get cs i))) ≤ sum (map (size_in n look) cs)
sizes_one n look i place [] = omega arith
sizes_one n look zero place (c ∷ cs) =
    omega (arith, sum_more (size_in n look c) [], sum_more (size_in n look c) (map (size_in n look) cs))
sizes_one n look (suc i) place (c ∷ cs) =
    omega (arith, sizes_one n look i place cs, sum_more (size_in n look c) (map (size_in n look) cs))

pub sizes_shown : (n : ℕ) (look : Look) (ch : Chosen) (cs : List ℕ) → sizes n look (shown_children ch cs) ≤ sum (map (size_in n look) cs)
sizes_shown n look chosen.All cs = omega (arith, sizes_all n look 0 cs)
sizes_shown n look chosen.Nothing cs = omega arith
sizes_shown n look (chosen.One i) cs = sizes_one n look i i cs

pub size_more : (n : ℕ) (look : Look) (id : ℕ) (m : Node) → look id ≡ Some m → size_in (suc n) look id ≡ 1 + sum (map (size_in n look) m.children)
unfolding size_in
size_more n look id m found = ap (λ (l : Option Node). 1 + sum (map (size_in n look) (option_map_or (λ (p : Node). p.children) l []))) found

size_some : (n : ℕ) (look : Look) (id : ℕ) → 1 ≤ size_in (suc n) look id
unfolding size_in
size_some n look id = omega arith

-- ---- walks, one level opened
shown_next : (p : Occurrence → Bool) (n : ℕ) (look : Look) (time : ℕ) (o : Occurrence) →
    filter p (walk_in (suc n) look time o) ≡ cond (p o) (o ∷ filter p (flat_map (walk_in n look time) (under look time o))) (filter p (flat_map (walk_in n look time) (under look time o)))
unfolding walk_in
shown_next p n look time o = refl

pub visits_next : (q : Occurrence → Bool) (n : ℕ) (look : Look) (time : ℕ) (o : Occurrence) →
    count_by q (walk_in (suc n) look time o) ≡ cond (q o) 1 0 + count_by q (flat_map (walk_in n look time) (under look time o))
unfolding walk_in
visits_next q n look time o = sum_by-cons (λ p. cond (q p) 1 0) o (flat_map (walk_in n look time) (under look time o))

culled_next : (n : ℕ) (s : Scene) (w : Work) (a : At) → culled (suc n) s w a ≡ met (culled n s) s (tested w) a (box_in_sight s w.list a)
unfolding culled
culled_next n s w a = refl

-- ---- the box test
frustum_off : (lens : Lens) (b : Option Bounds) → is_off lens b ≡ true → in_frustum lens b ≡ None
frustum_off lens None off = refl
frustum_off lens (Some b) off = ap (λ (t : Bool). cond t None (Some b)) off

frustum_in : (lens : Lens) (b : Option Bounds) → is_off lens b ≡ false → (around : Bounds) × (in_frustum lens b ≡ Some around) × (b ≡ Some around)
frustum_in lens None off = absurd (cc)
frustum_in lens (Some b) off = (b, ap (λ (t : Bool). cond t None (Some b)) off, refl)

-- the triangles of an occurrence of a geode have the box of its node
node_box : (look : Look) (boxes : ℕ → Option Bounds) (o : Occurrence) (n : Node) (s : Surface) → AreBoxes look boxes → look o.id ≡ Some n → surface_of n.kind ≡ Some s → carried_tris_box o.steps s.tris ≡ eye_box boxes o.id o.steps
node_box look boxes o n s meets found shows =
    (subst (λ (t : Option Surface). AllByRecursion (HasNodeBox boxes) (map (λ e. instance_of e.1.0 e.1.1 e.0) (enumerate_from 0 (cons_option (option_map (pair o) t) []))))
    (ap (λ (l : Option Node). option_and_then (λ m. surface_of m.kind) l) found ∙ shows) (boxed look boxes (o ∷ []) meets)).0

-- ---- what a scene gives
pub record IsFit (s : Scene) : Type 0 where
  pub right : AreRight s.look s.boxes
  pub narrow : (id : ℕ) → 65536 ≤ id → s.look id ≡ None

abbrev pub shows : Scene → Occurrence → Bool
shows s o = is_in_sight s.lens s.boxes o

abbrev pub visits : Scene → Occurrence → Bool
visits s o = is_visited s.lens s.boxes o

-- the cull of one node does what it should
abbrev pub DoesOne : ℕ → Scene → Work → At → Occurrence → Type 0
DoesOne n s w a o =
    IsAt w.list a o → IsSound s.look w.list → size_in n s.look o.id ≤ w.list.items.spare → size_in n s.look o.id ≤ w.list.joints.spare → has_off_above s.lens s.boxes o ≡ false →
    Does s.look w (culled n s w a) (filter (shows s) (walk_in n s.look s.time o)) (count_by (visits s) (walk_in n s.look s.time o)) (size_in n s.look o.id)

still_at : (d e : Drawables) (a : At) (o : Occurrence) → Extends d e → IsAt d a o → IsAt e a o
still_at d e a o h at = record { id = at.id; there = omega (arith, at.there, h.more_lists); steps = h.lists a.joint at.there ∙ at.steps; shift = at.shift }

-- the children, one after the other
children_do : (n : ℕ) (s : Scene) → ((w : Work) (a : At) (o : Occurrence) → DoesOne n s w a o) → (a : At) (o : Occurrence) (m : Node) (joint : ℕ) →
    (is_culled s.lens s.boxes o.id o.steps || has_off_above s.lens s.boxes o) ≡ false → a.shift ≡ o.shift →
    (cs : List (ℕ × ℕ)) (w : Work) → joint < length w.list.joints.lists → steps_at w.list.joints.lists joint ≡ own_steps m.kind ++ o.steps → IsSound s.look w.list →
    sizes n s.look cs ≤ w.list.items.spare → sizes n s.look cs ≤ w.list.joints.spare →
    Does s.look w (over (culled n s) w a m joint cs) (filter (shows s) (flat_map (walk_in n s.look s.time) (map (child_of m o) cs)))
    (count_by (visits s) (flat_map (walk_in n s.look s.time) (map (child_of m o) cs))) (sizes n s.look cs)
children_do n s one a o m joint clear shift [] w there steps sound items joints = record {
  adds = adds_none s.look w.list 0 0 sound;
  tests = omega arith;
  visited = λ h. omega arith;
}
children_do n s one a o m joint clear shift (c ∷ cs) w there steps sound items joints =
    joined (children_do n s one a o m joint clear shift cs v
    (omega (arith, there, first.adds.extends.more_lists))
    (first.adds.extends.lists joint there ∙ steps) first.adds.sound
    (omega (arith, items, size, first.adds.item_room))
    (omega (arith, joints, size, first.adds.joint_room)))
  where
    size : sizes n s.look (c ∷ cs) ≡ size_in n s.look c.1 + sizes n s.look cs
    size = sum_more (size_in n s.look c.1) (map (λ d. size_in n s.look d.1) cs)

    v : Work
    v = culled n s w (child_at a m joint c)

    at : IsAt w.list (child_at a m joint c) (child_of m o c)
    at = record { id = refl; there = there; steps = steps; shift = ap (λ (k : ℕ). k + decal m.kind * c.0) shift }

    first : Does s.look w (culled n s w (child_at a m joint c)) (filter (shows s) (walk_in n s.look s.time (child_of m o c))) (count_by (visits s) (walk_in n s.look s.time (child_of m o c))) (size_in n s.look c.1)
    first = one w (child_at a m joint c) (child_of m o c) at sound (omega (arith, items, size)) (omega (arith, joints, size)) clear

    joined : Does s.look (culled n s w (child_at a m joint c)) (over (culled n s) (culled n s w (child_at a m joint c)) a m joint cs) (filter (shows s) (flat_map (walk_in n s.look s.time) (map (child_of m o) cs)))
        (count_by (visits s) (flat_map (walk_in n s.look s.time) (map (child_of m o) cs))) (sizes n s.look cs) →
        Does s.look w (over (culled n s) w a m joint (c ∷ cs)) (filter (shows s) (flat_map (walk_in n s.look s.time) (map (child_of m o) (c ∷ cs))))
        (count_by (visits s) (flat_map (walk_in n s.look s.time) (map (child_of m o) (c ∷ cs)))) (sizes n s.look (c ∷ cs))
    joined rest =
        does_same s.look w _ _ _ _ _ _ _
        (sym (filter-append (shows s) (walk_in n s.look s.time (child_of m o c)) (flat_map (walk_in n s.look s.time) (map (child_of m o) cs))))
        (sym (sum_by-append (λ p. cond (visits s p) 1 0) (walk_in n s.look s.time (child_of m o c)) (flat_map (walk_in n s.look s.time) (map (child_of m o) cs))))
        (sym size)
        (does_trans s.look w (culled n s w (child_at a m joint c)) _ _ _ _ _ _ _ first rest)

-- ---- one node, where its children do what they should
no_levels : (s : Scene) (w : Work) (a : At) (o : Occurrence) → DoesOne 0 s w a o
unfolding walk_in culled size_in
no_levels s w a o at sound items joints clear = record { adds = adds_none s.look w.list 0 0 sound; tests = omega arith; visited = λ h. omega arith }

tested_alone : (s : Scene) (w : Work) (os : List Occurrence) (size : ℕ) → IsSound s.look w.list → drawn s.look os ≡ [] → Does s.look w (tested w) os 1 size
tested_alone s w os size sound none = record {
  adds = subst (λ (xs : List Instance). Adds s.look w.list w.list xs size size) (sym none) (adds_none s.look w.list size size sound);
  tests = refl;
  visited = λ h. counted_more w.visited h;
}

narrow_id : (s : Scene) → IsFit s → (id : ℕ) (m : Node) → s.look id ≡ Some m → id < 65536
narrow_id s fit id m found = by (nat_lt id 65536) refl
  where
    below_is : (k : ℕ) → nat_lt id k ≡ true → id < k
    below_is k e = grind (arith, nat_tests)

    above_is : (k : ℕ) → nat_lt id k ≡ false → k ≤ id
    above_is k e = grind (arith, nat_tests)

    by : (t : Bool) → nat_lt id 65536 ≡ t → id < 65536
    by true e = below_is 65536 e
    by false e = let none : s.look id ≡ None = fit.narrow id (above_is 65536 e) in absurd (cc)

same_box : (s : Scene) (d : Drawables) (a : At) (o : Occurrence) → IsAt d a o → box_in_sight s d a ≡ in_frustum s.lens (eye_box s.boxes o.id o.steps)
same_box s d a o at =
    ap (λ (id : ℕ). in_frustum s.lens (eye_box s.boxes id (steps_at d.joints.lists a.joint))) at.id
    ∙ ap (λ (ms : List Matrix). in_frustum s.lens (eye_box s.boxes o.id ms)) at.steps

-- a node that is in sight
entered_does : (n : ℕ) (s : Scene) → IsFit s → ((w : Work) (a : At) (o : Occurrence) → DoesOne n s w a o) → (w : Work) (a : At) (o : Occurrence) (m : Node) (around : Bounds) →
    IsAt w.list a o → IsSound s.look w.list → size_in (suc n) s.look o.id ≤ w.list.items.spare → size_in (suc n) s.look o.id ≤ w.list.joints.spare →
    (is_culled s.lens s.boxes o.id o.steps || has_off_above s.lens s.boxes o) ≡ false → s.look o.id ≡ Some m → eye_box s.boxes o.id o.steps ≡ Some around →
    Does s.look w (entered (culled n s) s (tested w) a around m) (o ∷ filter (shows s) (flat_map (walk_in n s.look s.time) (children_in s.time o m)))
    (1 + count_by (visits s) (flat_map (walk_in n s.look s.time) (children_in s.time o m))) (size_in (suc n) s.look o.id)
entered_does n s fit one w a o m around at sound items joints clear found box =
    subst (λ (v : Work). Does s.look w v (o ∷ filter (shows s) (flat_map (walk_in n s.look s.time) (children_in s.time o m)))
    (1 + count_by (visits s) (flat_map (walk_in n s.look s.time) (children_in s.time o m))) (size_in (suc n) s.look o.id)) (sym work_is) (record {
      adds =
          subst (λ (xs : List Instance). Adds s.look w.list (over (culled n s) lower_work a m lower.joint cs).list xs (size_in (suc n) s.look o.id) (size_in (suc n) s.look o.id)) (sym (drawn-one s.look o m rest found))
          (adds_wider s.look w.list (over (culled n s) lower_work a m lower.joint cs).list (own_list o (surface_of m.kind) ++ ([] ++ drawn s.look rest))
          (1 + (0 + sizes n s.look cs)) (0 + (1 + sizes n s.look cs)) (size_in (suc n) s.look o.id) (size_in (suc n) s.look o.id)
          (omega (arith, size, fewer)) (omega (arith, size, fewer)) both);
      tests = omega (arith, kids.tests);
      visited = λ h.
          let first : counted w.visited ≡ w.visited + 1 = counted_more w.visited (omega (arith, h)) in
          omega (arith, first, kids.visited (omega (arith, h, first)));
    })
  where
    size : size_in (suc n) s.look o.id ≡ 1 + sum (map (size_in n s.look) m.children)
    size = size_more n s.look o.id m found

    cs : List (ℕ × ℕ)
    cs = shown_children (chosen_in s.time m o.steps) m.children

    fewer : sizes n s.look (shown_children (chosen_in s.time m o.steps) m.children) ≤ sum (map (size_in n s.look) m.children)
    fewer = sizes_shown n s.look (chosen_in s.time m o.steps) m.children

    rest : List Occurrence
    rest = filter (shows s) (flat_map (walk_in n s.look s.time) (children_in s.time o m))

    drawn_list : Drawables
    drawn_list = with_drawn a around w.list (surface_of m.kind)

    own_part : Adds s.look w.list (with_drawn a around w.list (surface_of m.kind)) (own_list o (surface_of m.kind)) 1 0
    own_part = own_adds s.look w.list a o m around at sound found (narrow_id s fit o.id m found) (omega (arith, size, items))
        (λ t shown. node_box s.look s.boxes o m t (record { step = fit.right.step }) found shown ∙ box)

    lower : IsLower s.look (with_drawn a around w.list (surface_of m.kind)) (with_below a.joint (with_drawn a around w.list (surface_of m.kind)) (own_pose m.kind)) (joint_below a.joint (with_drawn a around w.list (surface_of m.kind)) (own_pose m.kind)) (own_steps m.kind ++ o.steps)
    lower = lowered s.look (with_drawn a around w.list (surface_of m.kind)) a o m (still_at w.list (with_drawn a around w.list (surface_of m.kind)) a o own_part.extends at) own_part.sound
        (omega (arith, size, joints, own_part.joint_room))

    lower_list : Drawables
    lower_list = with_below a.joint (with_drawn a around w.list (surface_of m.kind)) (own_pose m.kind)

    lower_work : Work
    lower_work = record { list = with_below a.joint (with_drawn a around w.list (surface_of m.kind)) (own_pose m.kind); tests = w.tests + 1; visited = counted w.visited }

    kids : Does s.look lower_work (over (culled n s) lower_work a m lower.joint cs) (filter (shows s) (flat_map (walk_in n s.look s.time) (children_in s.time o m)))
        (count_by (visits s) (flat_map (walk_in n s.look s.time) (children_in s.time o m))) (sizes n s.look cs)
    kids = children_do n s one a o m lower.joint clear at.shift cs lower_work lower.there lower.steps_are lower.adds.sound
        (omega (arith, size, fewer, items, own_part.item_room, lower.adds.item_room))
        (omega (arith, size, fewer, joints, own_part.joint_room, lower.adds.joint_room))

    both : Adds s.look w.list (over (culled n s) lower_work a m lower.joint cs).list (own_list o (surface_of m.kind) ++ ([] ++ drawn s.look rest)) (1 + (0 + sizes n s.look cs)) (0 + (1 + sizes n s.look cs))
    both =
        adds_trans s.look w.list drawn_list (over (culled n s) lower_work a m lower.joint cs).list (own_list o (surface_of m.kind)) ([] ++ drawn s.look rest) 1 0 (0 + sizes n s.look cs) (1 + sizes n s.look cs) own_part
        (adds_trans s.look drawn_list lower_list (over (culled n s) lower_work a m lower.joint cs).list [] (drawn s.look rest) 0 1 (sizes n s.look cs) (sizes n s.look cs) lower.adds kids.adds)

    work_is : entered (culled n s) s (tested w) a around m ≡ over (culled n s) lower_work a m lower.joint cs
    work_is =
        ap (λ (ms : List Matrix). below (culled n s) lower_work a m (shown_children (chosen_in s.time m ms) m.children) (joint_below a.joint (with_drawn a around w.list (surface_of m.kind)) (own_pose m.kind))) at.steps
        ∙ ap (λ (j : Option ℕ). below (culled n s) lower_work a m cs j) lower.answers

either_false : (t u : Bool) → t ≡ false → u ≡ false → (t || u) ≡ false
either_false t u e f = rw (e, f) refl

either_true : (t u : Bool) → t ≡ true → (t || u) ≡ true
either_true t u e = rw e refl

step_does : (n : ℕ) (s : Scene) → IsFit s → ((w : Work) (a : At) (o : Occurrence) → DoesOne n s w a o) → (w : Work) (a : At) (o : Occurrence) → DoesOne (suc n) s w a o
step_does n s fit one w a o at sound items joints clear = by (is_culled s.lens s.boxes o.id o.steps) refl
  where
    visits_are : count_by (visits s) (walk_in (suc n) s.look s.time o) ≡ 1 + count_by (visits s) (flat_map (walk_in n s.look s.time) (under s.look s.time o))
    visits_are = visits_next (visits s) n s.look s.time o ∙ ap (λ (t : Bool). cond (not t) 1 0 + count_by (visits s) (flat_map (walk_in n s.look s.time) (under s.look s.time o))) clear

    work_is : culled (suc n) s w a ≡ met (culled n s) s (tested w) a (in_frustum s.lens (eye_box s.boxes o.id o.steps))
    work_is = culled_next n s w a ∙ ap (met (culled n s) s (tested w) a) (same_box s w.list a o at)

    off : is_culled s.lens s.boxes o.id o.steps ≡ true → Does s.look w (culled (suc n) s w a) (filter (shows s) (walk_in (suc n) s.look s.time o)) (count_by (visits s) (walk_in (suc n) s.look s.time o)) (size_in (suc n) s.look o.id)
    off e =
        subst (λ (v : Work). Does s.look w v (filter (shows s) (walk_in (suc n) s.look s.time o)) (count_by (visits s) (walk_in (suc n) s.look s.time o)) (size_in (suc n) s.look o.id))
        (sym (work_is ∙ ap (met (culled n s) s (tested w) a) (frustum_off s.lens (eye_box s.boxes o.id o.steps) e)))
        (does_same s.look w (tested w) [] _ 1 _ (size_in (suc n) s.look o.id) _
        (sym (out_of_sight s.lens s.look s.boxes fit.right s.time (suc n) o e))
        (sym (visits_are ∙ ap (λ (k : ℕ). 1 + k) (none_visited s.lens s.look s.boxes s.time n o (either_true (is_culled s.lens s.boxes o.id o.steps) (has_off_above s.lens s.boxes o) e))))
        refl (tested_alone s w [] (size_in (suc n) s.look o.id) sound refl))

    shown_is : is_culled s.lens s.boxes o.id o.steps ≡ false → filter (shows s) (walk_in (suc n) s.look s.time o) ≡ o ∷ filter (shows s) (flat_map (walk_in n s.look s.time) (under s.look s.time o))
    shown_is e =
        shown_next (shows s) n s.look s.time o
        ∙ ap (λ (t : Bool). cond (not t) (o ∷ filter (shows s) (flat_map (walk_in n s.look s.time) (under s.look s.time o))) (filter (shows s) (flat_map (walk_in n s.look s.time) (under s.look s.time o)))) e

    node : is_culled s.lens s.boxes o.id o.steps ≡ false → (around : Bounds) → eye_box s.boxes o.id o.steps ≡ Some around → (l : Option Node) → s.look o.id ≡ l →
        Does s.look w (option_map_or (entered (culled n s) s (tested w) a around) (s.look a.id) (tested w)) (o ∷ filter (shows s) (flat_map (walk_in n s.look s.time) (under s.look s.time o)))
        (1 + count_by (visits s) (flat_map (walk_in n s.look s.time) (under s.look s.time o))) (size_in (suc n) s.look o.id)
    node e around box None absent =
        subst (λ (l : Option Node). Does s.look w (option_map_or (entered (culled n s) s (tested w) a around) l (tested w)) (o ∷ filter (shows s) (flat_map (walk_in n s.look s.time) (under s.look s.time o)))
        (1 + count_by (visits s) (flat_map (walk_in n s.look s.time) (under s.look s.time o))) (size_in (suc n) s.look o.id)) (sym (ap s.look at.id ∙ absent))
        (subst (λ (l : Option Node). Does s.look w (tested w) (o ∷ filter (shows s) (flat_map (walk_in n s.look s.time) (option_map_or (children_in s.time o) l [])))
        (1 + count_by (visits s) (flat_map (walk_in n s.look s.time) (option_map_or (children_in s.time o) l []))) (size_in (suc n) s.look o.id)) (sym absent)
        (tested_alone s w (o ∷ []) (size_in (suc n) s.look o.id) sound (drawn-absent s.look o [] absent)))
    node e around box (Some m) found =
        subst (λ (l : Option Node). Does s.look w (option_map_or (entered (culled n s) s (tested w) a around) l (tested w)) (o ∷ filter (shows s) (flat_map (walk_in n s.look s.time) (under s.look s.time o)))
        (1 + count_by (visits s) (flat_map (walk_in n s.look s.time) (under s.look s.time o))) (size_in (suc n) s.look o.id)) (sym (ap s.look at.id ∙ found))
        (subst (λ (l : Option Node). Does s.look w (entered (culled n s) s (tested w) a around m) (o ∷ filter (shows s) (flat_map (walk_in n s.look s.time) (option_map_or (children_in s.time o) l [])))
        (1 + count_by (visits s) (flat_map (walk_in n s.look s.time) (option_map_or (children_in s.time o) l []))) (size_in (suc n) s.look o.id)) (sym found)
        (entered_does n s fit one w a o m around at sound items joints (either_false (is_culled s.lens s.boxes o.id o.steps) (has_off_above s.lens s.boxes o) e clear) found box))

    on : is_culled s.lens s.boxes o.id o.steps ≡ false → (around : Bounds) × (in_frustum s.lens (eye_box s.boxes o.id o.steps) ≡ Some around) × (eye_box s.boxes o.id o.steps ≡ Some around) →
        Does s.look w (culled (suc n) s w a) (filter (shows s) (walk_in (suc n) s.look s.time o)) (count_by (visits s) (walk_in (suc n) s.look s.time o)) (size_in (suc n) s.look o.id)
    on e (around, seen, box) =
        subst (λ (v : Work). Does s.look w v (filter (shows s) (walk_in (suc n) s.look s.time o)) (count_by (visits s) (walk_in (suc n) s.look s.time o)) (size_in (suc n) s.look o.id))
        (sym (work_is ∙ ap (met (culled n s) s (tested w) a) seen))
        (does_same s.look w _ _ _ _ _ (size_in (suc n) s.look o.id) _ (sym (shown_is e)) (sym visits_are) refl (node e around box (s.look o.id) refl))

    by : (t : Bool) → is_culled s.lens s.boxes o.id o.steps ≡ t → Does s.look w (culled (suc n) s w a) (filter (shows s) (walk_in (suc n) s.look s.time o)) (count_by (visits s) (walk_in (suc n) s.look s.time o)) (size_in (suc n) s.look o.id)
    by true e = off e
    by false e = on e (frustum_in s.lens (eye_box s.boxes o.id o.steps) e)

pub exact : (n : ℕ) (s : Scene) → IsFit s → (w : Work) (a : At) (o : Occurrence) → DoesOne n s w a o
exact zero s fit w a o = no_levels s w a o
exact (suc n) s fit w a o = step_does n s fit (λ v b p. exact n s fit v b p) w a o
