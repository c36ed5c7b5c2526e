-- At its start a walk has all that is shown to send.
use Rattle.std.proofs.Common.{◌≡◌, ◌∙◌, ℕ, ◌+◌, ◌≤◌, List, [], ◌∷◌, ◌++◌, length, Bool, true, false, cond, not, Option, ap, sym, refl, subst, arith}
use Rattle.std.specs.Prelude.{map, filter, filter_map}
use Rattle.std.specs.List.{enumerate_from}
use Rattle.std.specs.Option.{option_map_or}
use Rattle.std.proofs.lemmas.List.{map-append}
use Rattle.fx_math.specs.Plain.{Bounds}
use Rattle.fx_math.specs.declared.lenses.Lens.{Lens}
use Rattle.pf_model.specs.declared.nodes.Node.{Node}
use Rattle.pf_model.specs.Angles.{Viewpoint}
use Rattle.pf_model.specs.Graphs.{Look}
use Rattle.pf_model.specs.Kinds.{Surface}
use Rattle.pf_model.specs.Boxes.{box_of}
use Rattle.pf_model.specs.Limits.{KeepsLimits}
use Rattle.pf_model.specs.Walks.{Occurrence, Instance, instance_of, surface_in, scene_at, steps_of_view, walk}
use Rattle.pf_model.proofs.Levels.{size_at_limit}
use Rattle.pf_model.proofs.Solutions.{boxes_meet}
use Rattle.pf_model.proofs.Nesting.{box_is_box}
use Rattle.draw_list.specs.Order.{is_opaque, in_draw_order}
use Rattle.draw_list.specs.Shown.{is_in_sight, is_visited, shown, visited}
use Rattle.cull_walk.specs.Premises.{unnamed}
use Rattle.cull_walk.specs.Working.{Scene}
use Rattle.stream_stages.specs.Pieces.{in_sending_order}
use Rattle.stream_stages.specs.Stops.{found_from, all_stops}
use Rattle.stream_stages.proofs.Found.{numbered}
use Rattle.stream_stages.proofs.Unnaming.{ordered_unnamed}
use Rattle.stream_stages.proofs.WholeWalk.{IsTrue, own, found_are, counts_are}
use Rattle.stream_stages.proofs.Sizes.{visits_within}

-- ---- a graph within the limits
pub scene_true : (look : Look) (lens : Lens) (time : ℕ) → KeepsLimits look → IsTrue (record { look = look; boxes = box_of look; lens = lens; time = time })
scene_true look lens time limits = record {
  right = record { step = (boxes_meet look limits.low).step; are_boxes = λ id. box_is_box 32 look id };
  boxes = boxes_meet look limits.low;
  short = λ id n e. subst (λ (l : Option Node). length (option_map_or (λ (m : Node). m.children) l []) ≤ 256) e (limits.short id);
}

-- ---- what is found
numbered_are : (n : ℕ) (es : List (Occurrence × Surface)) → numbered n (map own es) ≡ map unnamed (map (λ e. instance_of e.1.0 e.1.1 e.0) (enumerate_from n es))
numbered_are n [] = refl
numbered_are n (e ∷ es) = ap (λ (xs : List Instance). unnamed (instance_of e.0 e.1 n) ∷ xs) (numbered_are (n + 1) es)

-- what a scene with these boxes, seen through the lens, is
abbrev pub scene_with : Look → (ℕ → Option Bounds) → Lens → ℕ → Scene
scene_with look boxes lens time = record { look = look; boxes = boxes; lens = lens; time = time }

found_scratch : (look : Look) (lens : Lens) (time : ℕ) (v : Viewpoint) → KeepsLimits look →
    found_from 0 (scene_with look (box_of look) lens time) (all_stops (scene_with look (box_of look) lens time) (steps_of_view v)) ≡ map unnamed (shown look time v lens)
found_scratch look lens time v limits =
    ap (numbered 0) (found_are 32 (scene_with look (box_of look) lens time) (scene_true look lens time limits) (scene_at (steps_of_view v)) (omega arith))
    ∙ numbered_are 0 (filter_map (surface_in look) (filter (is_in_sight lens (box_of look)) (walk look time v)))

pub all_found : (look : Look) (boxes : ℕ → Option Bounds) (lens : Lens) (time : ℕ) (v : Viewpoint) → KeepsLimits look → ((id : ℕ) → boxes id ≡ box_of look id) →
    found_from 0 (scene_with look boxes lens time) (all_stops (scene_with look boxes lens time) (steps_of_view v)) ≡ map unnamed (shown look time v lens)
all_found look boxes lens time v limits are =
    ap (λ (bs : ℕ → Option Bounds). found_from 0 (scene_with look bs lens time) (all_stops (scene_with look bs lens time) (steps_of_view v))) (λ i id. are id i)
    ∙ found_scratch look lens time v limits

counted_scratch : (look : Look) (lens : Lens) (time : ℕ) (v : Viewpoint) → KeepsLimits look →
    length (all_stops (scene_with look (box_of look) lens time) (steps_of_view v)) ≡ visited look time v lens
counted_scratch look lens time v limits =
    counts_are 32 (scene_with look (box_of look) lens time) (scene_true look lens time limits) (scene_at (steps_of_view v)) (omega arith) refl

pub all_counted : (look : Look) (boxes : ℕ → Option Bounds) (lens : Lens) (time : ℕ) (v : Viewpoint) → KeepsLimits look → ((id : ℕ) → boxes id ≡ box_of look id) →
    length (all_stops (scene_with look boxes lens time) (steps_of_view v)) ≡ visited look time v lens
all_counted look boxes lens time v limits are =
    ap (λ (bs : ℕ → Option Bounds). length (all_stops (scene_with look bs lens time) (steps_of_view v))) (λ i id. are id i)
    ∙ counted_scratch look lens time v limits

pub few_visited : (look : Look) (lens : Lens) (time : ℕ) (v : Viewpoint) → KeepsLimits look → visited look time v lens ≤ 131072
few_visited look lens time v limits =
    omega (
      arith,
      visits_within 32 (is_visited lens (box_of look)) look time (scene_at (steps_of_view v)),
      size_at_limit look 0 (limits.low 0),
      limits.small 0,
    )

-- ---- the order of sending
filter_unnamed : (p : Instance → Bool) → ((x : Instance) → p (unnamed x) ≡ p x) → (xs : List Instance) → filter p (map unnamed xs) ≡ map unnamed (filter p xs)
filter_unnamed p same [] = refl
filter_unnamed p same (x ∷ xs) =
    ap (λ (t : Bool). cond t (unnamed x ∷ filter p (map unnamed xs)) (filter p (map unnamed xs))) (same x)
    ∙ ap (λ (ys : List Instance). cond (p x) (unnamed x ∷ ys) ys) (filter_unnamed p same xs)
    ∙ by (p x)
  where
    by : (t : Bool) → cond t (unnamed x ∷ map unnamed (filter p xs)) (map unnamed (filter p xs)) ≡ map unnamed (cond t (x ∷ filter p xs) (filter p xs))
    by true = refl
    by false = refl

pub sending_unnamed : (xs : List Instance) → filter is_opaque (map unnamed xs) ++ in_draw_order (filter (λ x. not (is_opaque x)) (map unnamed xs)) ≡ map unnamed (in_sending_order xs)
sending_unnamed xs =
    (λ i. filter_unnamed is_opaque (λ x. refl) xs i ++ in_draw_order (filter_unnamed (λ x. not (is_opaque x)) (λ x. refl) xs i))
    ∙ ap (λ (ys : List Instance). map unnamed (filter is_opaque xs) ++ ys) (sym (ordered_unnamed (filter (λ x. not (is_opaque x)) xs)))
    ∙ sym (map-append unnamed (filter is_opaque xs) (in_draw_order (filter (λ x. not (is_opaque x)) xs)))
