-- What is shown are the instances in sight, numbered anew.
use Rattle.std.proofs.Common.{◌≡◌, ◌∙◌, ℕ, ◌+◌, List, [], ◌∷◌, Bool, true, false, cond, not, Option, Some, None, ap, sym, refl, subst}
use Rattle.std.specs.Prelude.{map, filter}
use Rattle.std.specs.List.{AllByRecursion, enumerate_from, filter_map, cons_option}
use Rattle.std.specs.Option.{option_map, option_and_then}
use Rattle.fx_math.specs.Plain.{Bounds}
use Rattle.fx_math.specs.declared.lenses.Lens.{Lens}
use Rattle.pf_model.specs.Angles.{Viewpoint}
use Rattle.pf_model.specs.Graphs.{Look}
use Rattle.pf_model.specs.Kinds.{Surface, surface_of}
use Rattle.pf_model.specs.Boxes.{box_of, eye_box, carried_tris_box}
use Rattle.pf_model.specs.Laws.{HasNodeBox}
use Rattle.pf_model.specs.Walks.{Occurrence, Instance, instance_of, surface_in, instances, walk}
use Rattle.pf_model.proofs.Numbering.{boxed_from_scratch}
use Rattle.draw_list.specs.Shown.{is_off, is_in_sight, shown}
use Rattle.tri_cover.specs.Labels.{placed, renumbered}
use Rattle.cull_walk.specs.Culling.{is_instance_in_sight}

-- what a node draws
abbrev pub drawn_by : Look → ℕ → Option Surface
drawn_by look id = option_and_then (λ n. surface_of n.kind) (look id)

abbrev pub listed : Look → ℕ → List Occurrence → List Instance
listed look n os = map (λ e. instance_of e.1.0 e.1.1 e.0) (enumerate_from n (filter_map (surface_in look) os))

abbrev pair : Occurrence → Surface → Occurrence × Surface
pair o s = (o, s)

abbrev consed : Look → Occurrence → ℕ → List Occurrence → Option Surface → List Instance
consed look o n os s = map (λ e. instance_of e.1.0 e.1.1 e.0) (enumerate_from n (cons_option (option_map (pair o) s) (filter_map (surface_in look) os)))

-- the triangles of an occurrence have the box of its node
node_box : (look : Look) (o : Occurrence) (s : Surface) → drawn_by look o.id ≡ Some s → carried_tris_box o.steps s.tris ≡ eye_box (box_of look) o.id o.steps
node_box look o s e =
    (subst (λ (t : Option Surface). AllByRecursion (HasNodeBox (box_of look)) (consed look o 0 [] t)) e (boxed_from_scratch look (o ∷ []))).0

in_sight : (lens : Lens) (look : Look) (o : Occurrence) (s : Surface) (n : ℕ) → drawn_by look o.id ≡ Some s → is_in_sight lens (box_of look) o ≡ is_instance_in_sight lens (instance_of o s n)
in_sight lens look o s n e = ap (λ (b : Option Bounds). not (is_off lens b)) (sym (node_box look o s e))

pub seen : (lens : Lens) (look : Look) (n m : ℕ) (os : List Occurrence) →
    listed look m (filter (is_in_sight lens (box_of look)) os) ≡ map placed (enumerate_from m (filter (is_instance_in_sight lens) (listed look n os)))
seen lens look n m [] = refl
seen lens look n m (o ∷ os) = by (drawn_by look o.id) refl (λ k l. seen lens look k l os)
  where
    rest : List Occurrence
    rest = filter (is_in_sight lens (box_of look)) os

    unseen : (t : Bool) → listed look m (cond t (o ∷ rest) rest) ≡ cond t (consed look o m rest (drawn_by look o.id)) (listed look m rest)
    unseen true = refl
    unseen false = refl

    same : (t : Bool) (xs : List Instance) → cond t xs xs ≡ xs
    same true xs = refl
    same false xs = refl

    shown_one : (s : Surface) (t : Bool) → ((k l : ℕ) → listed look l rest ≡ map placed (enumerate_from l (filter (is_instance_in_sight lens) (listed look k os)))) →
        cond t (consed look o m rest (Some s)) (listed look m rest) ≡ map placed (enumerate_from m (cond t (instance_of o s n ∷ filter (is_instance_in_sight lens) (listed look (n + 1) os)) (filter (is_instance_in_sight lens) (listed look (n + 1) os))))
    shown_one s true later = ap (λ (xs : List Instance). instance_of o s m ∷ xs) (later (n + 1) (m + 1))
    shown_one s false later = later (n + 1) m

    by : (s : Option Surface) → drawn_by look o.id ≡ s → ((k l : ℕ) → listed look l rest ≡ map placed (enumerate_from l (filter (is_instance_in_sight lens) (listed look k os)))) →
        listed look m (cond (is_in_sight lens (box_of look) o) (o ∷ rest) rest) ≡ map placed (enumerate_from m (filter (is_instance_in_sight lens) (consed look o n os (drawn_by look o.id))))
    by None e later =
        unseen (is_in_sight lens (box_of look) o)
        ∙ ap (λ (s : Option Surface). cond (is_in_sight lens (box_of look) o) (consed look o m rest s) (listed look m rest)) e
        ∙ same (is_in_sight lens (box_of look) o) (listed look m rest)
        ∙ later n m
        ∙ ap (λ (s : Option Surface). map placed (enumerate_from m (filter (is_instance_in_sight lens) (consed look o n os s)))) (sym e)
    by (Some s) e later =
        unseen (is_in_sight lens (box_of look) o)
        ∙ ap (λ (t : Option Surface). cond (is_in_sight lens (box_of look) o) (consed look o m rest t) (listed look m rest)) e
        ∙ ap (λ (t : Bool). cond t (consed look o m rest (Some s)) (listed look m rest)) (in_sight lens look o s n e)
        ∙ shown_one s (is_instance_in_sight lens (instance_of o s n)) later
        ∙ ap (λ (t : Option Surface). map placed (enumerate_from m (filter (is_instance_in_sight lens) (consed look o n os t)))) (sym e)

pub shown_are : (look : Look) (time : ℕ) (v : Viewpoint) (lens : Lens) → shown look time v lens ≡ renumbered (filter (is_instance_in_sight lens) (instances look time v))
shown_are look time v lens = seen lens look 0 0 (walk look time v)
