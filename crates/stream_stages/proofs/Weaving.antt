-- A draw list that is made of instances draws them.
use Rattle.std.proofs.Common.{◌≡◌, ◌∙◌, ℕ, ◌+◌, ◌≤◌, List, [], ◌∷◌, ◌++◌, length, Bool, true, cond, Option, Some, None, ap, sym, refl, arith, append_assoc, length-append}
use Rattle.std.specs.Prelude.{map, flat_map, filter, filter_map, take, drop, nat_le, is_none}
use Rattle.std.specs.Option.{option_map, option_map_or}
use Rattle.std.proofs.Math.Seq.{take-append_seam, drop-append_seam, get_or-append_seam}
use Rattle.std.proofs.lemmas.Bool.Decides.{nat_tests}
use Rattle.std.specs.List.{AllByRecursion, enumerate_from}
use Rattle.fx_math.specs.Plain.{Matrix}
use Rattle.fx_math.specs.declared.lenses.Lens.{Lens}
use Rattle.pf_model.specs.declared.geometry.Tri.{Tri}
use Rattle.pf_model.specs.Kinds.{Surface}
use Rattle.pf_model.specs.Boxes.{box_of}
use Rattle.pf_model.specs.Angles.{Viewpoint}
use Rattle.pf_model.specs.Graphs.{Look}
use Rattle.pf_model.specs.Walks.{Occurrence, Instance, instance_of, distance_of, surface_in, walk}
use Rattle.draw_list.specs.Joints.{steps_at}
use Rattle.draw_list.specs.declared.items.Tint.{Tint}
use Rattle.draw_list.specs.Shown.{is_in_sight, shown}
use Rattle.draw_list.specs.Items.{instance_of_item, tris_at}
use Rattle.draw_list.specs.Lists.{instances_in}
use Rattle.cull_walk.specs.Premises.{unnamed}
use Rattle.stream_stages.specs.Woven.{woven_item, woven_items, woven, IsFarAsGlass}

abbrev all_tris : List Instance → List Tri
all_tris xs = flat_map (λ x. x.tris) xs

abbrev all_steps : List Instance → List (List Matrix)
all_steps xs = map (λ x. x.steps) xs

le_true : (m n : ℕ) → m ≤ n → nat_le m n ≡ true
le_true m n l = grind (arith, nat_tests)

-- the triangles that follow others
tris_there : (front ts rest : List Tri) → tris_at (front ++ (ts ++ rest)) (record { from = length front; len = length ts }) ≡ ts
tris_there front ts rest =
    ap (λ (t : Bool). cond t (take (length ts) (drop (length front) (front ++ (ts ++ rest)))) []) (le_true (length front + length ts) (length (front ++ (ts ++ rest))) (omega (arith, long)))
    ∙ ap (take (length ts)) (drop-append_seam front (ts ++ rest))
    ∙ take-append_seam ts rest
  where
    long : length (front ++ (ts ++ rest)) ≡ length front + (length ts + length rest)
    long = length-append front (ts ++ rest) ∙ ap (λ (k : ℕ). length front + k) (length-append ts rest)

abbrev tint_of : ℕ → ℕ → Tint
tint_of far alpha = record { alpha = alpha; far = far }

far_kept : (x : Instance) → IsFarAsGlass x → option_map_or (λ t. t.far) (option_map (tint_of x.far) x.tint) 0 ≡ x.far
far_kept x h = by x.tint h
  where
    by : (t : Option ℕ) → (is_none t ≡ true → x.far ≡ 0) → option_map_or (λ u. u.far) (option_map (tint_of x.far) t) 0 ≡ x.far
    by None h = sym (h refl)
    by (Some a) h = refl

tint_kept : (far : ℕ) (t : Option ℕ) → option_map (λ u. u.alpha) (option_map (tint_of far) t) ≡ t
tint_kept far None = refl
tint_kept far (Some a) = refl

one_drawn : (lists : List (List Matrix)) (tris : List Tri) (joint from : ℕ) (x : Instance) → IsFarAsGlass x → steps_at lists joint ≡ x.steps → tris_at tris (record { from = from; len = length x.tris }) ≡ x.tris →
    instance_of_item lists tris (woven_item joint from x) ≡ unnamed x
one_drawn lists tris joint from x far steps are = λ i. record {
  place = x.place;
  id = 0;
  state = x.state;
  tint = tint_kept x.far x.tint i;
  shift = x.shift;
  steps = steps i;
  tris = are i;
  far = far_kept x far i;
}

abbrev drawn_after : List (List Matrix) → List Tri → List Instance → List Instance
drawn_after lists tris xs = map (instance_of_item (lists ++ all_steps xs) (tris ++ all_tris xs)) (woven_items (length lists) (length tris) xs)

all_drawn : (lists : List (List Matrix)) (tris : List Tri) (xs : List Instance) → AllByRecursion IsFarAsGlass xs → drawn_after lists tris xs ≡ map unnamed xs
all_drawn lists tris [] h = refl
all_drawn lists tris (x ∷ xs) h = λ i. first i ∷ (later ∙ all_drawn (lists ++ x.steps ∷ []) (tris ++ x.tris) xs h.1) i
  where
    first : instance_of_item (lists ++ all_steps (x ∷ xs)) (tris ++ all_tris (x ∷ xs)) (woven_item (length lists) (length tris) x) ≡ unnamed x
    first =
        one_drawn (lists ++ all_steps (x ∷ xs)) (tris ++ all_tris (x ∷ xs)) (length lists) (length tris) x h.0
        (get_or-append_seam lists x.steps (all_steps xs) []) (tris_there tris x.tris (all_tris xs))

    more_lists : (lists ++ x.steps ∷ []) ++ all_steps xs ≡ lists ++ x.steps ∷ all_steps xs
    more_lists = append_assoc lists (x.steps ∷ []) (all_steps xs)

    more_tris : (tris ++ x.tris) ++ all_tris xs ≡ tris ++ (x.tris ++ all_tris xs)
    more_tris = append_assoc tris x.tris (all_tris xs)

    later : map (instance_of_item (lists ++ all_steps (x ∷ xs)) (tris ++ all_tris (x ∷ xs))) (woven_items (length lists + 1) (length tris + length x.tris) xs) ≡ drawn_after (lists ++ x.steps ∷ []) (tris ++ x.tris) xs
    later = λ i. map (instance_of_item (sym more_lists i) (sym more_tris i)) (woven_items (sym (length-append lists (x.steps ∷ [])) i) (sym (length-append tris x.tris) i) xs)

pub woven_draws : (xs : List Instance) → AllByRecursion IsFarAsGlass xs → instances_in (woven xs) ≡ map unnamed xs
woven_draws xs h = all_drawn [] [] xs h

-- ---- what is shown
shown_far : (o : Occurrence) (s : Surface) (place : ℕ) → IsFarAsGlass (instance_of o s place)
shown_far o s place = by s.tint
  where
    by : (t : Option ℕ) → is_none t ≡ true → distance_of t o.steps s.tris ≡ 0
    by None e = refl
    by (Some a) e = absurd (cc)

numbered_far : (n : ℕ) (es : List (Occurrence × Surface)) → AllByRecursion IsFarAsGlass (map (λ e. instance_of e.1.0 e.1.1 e.0) (enumerate_from n es))
numbered_far n [] = tt
numbered_far n (e ∷ es) = (shown_far e.0 e.1 n, numbered_far (n + 1) es)

pub shown_fars : (look : Look) (time : ℕ) (v : Viewpoint) (lens : Lens) → AllByRecursion IsFarAsGlass (shown look time v lens)
shown_fars look time v lens = numbered_far 0 (filter_map (surface_in look) (filter (is_in_sight lens (box_of look)) (walk look time v)))
