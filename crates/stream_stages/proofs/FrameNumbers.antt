-- The numbers of a frame are the plain sums over its channels, where the scene is within the limits.
use Rattle.std.proofs.Common.{◌≡◌, ℕ, suc, ◌*◌, ◌≤◌, min, List, [], ◌∷◌, map, length, Option, Some, None, arith}
use Rattle.std.specs.Prelude.{filter, filter_map, sum_by}
use Rattle.std.specs.List.{cons_option, enumerate_from, list_any}
use Rattle.std.proofs.Math.Nat.{min-eq_left}
use Rattle.std.proofs.lemmas.List.{length-map}
use Rattle.std.proofs.lemmas.List.FromFn.{length-enumerate_from, length-range_with_len}
use Rattle.std.proofs.lemmas.List.Sums.{sum_by-cons, count_by-le-length, length-filter}
use Rattle.fx_math.specs.declared.lenses.Lens.{Lens}
use Rattle.pf_model.specs.Angles.{Viewpoint}
use Rattle.pf_model.specs.Graphs.{Look}
use Rattle.pf_model.specs.Boxes.{box_of}
use Rattle.pf_model.specs.Limits.{KeepsLimits}
use Rattle.pf_model.specs.Walks.{Instance, surface_in, instance_of, scene_at, steps_of_view, walk}
use Rattle.pf_model.proofs.Levels.{size_at_limit}
use Rattle.draw_list.specs.declared.stats.Stats.{Stats}
use Rattle.draw_list.specs.Order.{is_of_state, all_states, state_count}
use Rattle.draw_list.specs.Shown.{is_in_sight, shown, stats_of}
use Rattle.stage_parts.specs.Pictures.{sums}
use Rattle.stream_stages.specs.PieceFrames.{greatest, capped}
use Rattle.stream_stages.proofs.Sizes.{visits_within}
use Rattle.stream_stages.proofs.Starting.{few_visited}

-- each number of a channel is at most the scene's greatest size
record IsSmall (s : Stats) : Type 0 where
  shown : s.shown ≤ 131072
  states : s.states ≤ 131072
  visited : s.visited ≤ 131072

fewer : {X Y : Type 0} (f : X → Option Y) (xs : List X) → length (filter_map f xs) ≤ length xs
fewer f [] = omega arith
fewer {X} {Y} f (x ∷ xs) = by (f x) (fewer f xs)
  where
    by : (o : Option Y) → length (filter_map f xs) ≤ length xs →
        length (cons_option o (filter_map f xs)) ≤ suc (length xs)
    by None l = omega (arith, l)
    by (Some y) l = omega (arith, l)

states_length : length all_states ≡ 65536
unfolding all_states
states_length = length-range_with_len 0 65536

few_states : (xs : List Instance) → state_count xs ≤ 65536
few_states xs = omega (arith, count_by-le-length (λ state. list_any (is_of_state state) xs) all_states, states_length)

few_shown : (look : Look) (time : ℕ) (v : Viewpoint) (lens : Lens) → KeepsLimits look →
    length (shown look time v lens) ≤ 131072
few_shown look time v lens limits =
    let seen = is_in_sight lens (box_of look) in
    let os = filter seen (walk look time v) in
    let drawn = filter_map (surface_in look) os in
    omega (
      arith,
      length-map (enumerate_from 0 drawn) (λ e. instance_of e.1.0 e.1.1 e.0),
      length-enumerate_from 0 drawn,
      fewer (surface_in look) os,
      length-filter seen (walk look time v),
      visits_within 32 seen look time (scene_at (steps_of_view v)),
      size_at_limit look 0 (limits.low 0),
      limits.small 0,
    )

small_channel : (look : Look) (time : ℕ) (v : Viewpoint) (lens : Lens) → KeepsLimits look →
    IsSmall (stats_of look time v lens)
small_channel look time v lens limits = record {
  shown = few_shown look time v lens limits;
  states = omega (arith, few_states (shown look time v lens));
  visited = few_visited look lens time v limits;
}

sum_small : (f : Stats → ℕ) (g : Viewpoint → Stats) → ((v : Viewpoint) → f (g v) ≤ 131072) → (vs : List Viewpoint) →
    sum_by f (map g vs) ≤ length vs * 131072
sum_small f g each [] = omega arith
sum_small f g each (v ∷ vs) = omega (arith, each v, sum_small f g each vs, sum_by-cons f (g v) (map g vs))

sum_kept : (f : Stats → ℕ) (g : Viewpoint → Stats) → ((v : Viewpoint) → f (g v) ≤ 131072) → (vs : List Viewpoint) →
    length vs ≤ 4 →
    min (sum_by f (map g vs)) greatest ≡ sum_by f (map g vs)
sum_kept f g each vs few =
    let small : sum_by f (map g vs) ≤ greatest = omega (arith, sum_small f g each vs, few) in
    min-eq_left small

pub sums_kept : (look : Look) (time : ℕ) (lens : Lens) (vs : List Viewpoint) → KeepsLimits look → length vs ≤ 4 →
    capped (sums (map (λ v. stats_of look time v lens) vs)) ≡ sums (map (λ v. stats_of look time v lens) vs)
sums_kept look time lens vs limits few = λ i. record {
  shown = sum_kept (λ s. s.shown) of_view (λ v. (small v).shown) vs few i;
  states = sum_kept (λ s. s.states) of_view (λ v. (small v).states) vs few i;
  visited = sum_kept (λ s. s.visited) of_view (λ v. (small v).visited) vs few i;
}
  where
    of_view : Viewpoint → Stats
    of_view v = stats_of look time v lens

    small : (v : Viewpoint) → IsSmall (of_view v)
    small v = small_channel look time v lens limits
