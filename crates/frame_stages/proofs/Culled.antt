-- Loads that are culled channel by channel.
use Rattle.std.proofs.Common.{◌≡◌, ◌⊎◌, ℕ, zero, suc, ◌+◌, ◌*◌, ◌<◌, ◌≤◌, Bool, true, false, cond, List, [], ◌∷◌, ◌++◌, map, take, length, slice_get, get_or, Option, Some, None, refl, sym, ap, ◌∙◌, subst, arith, inl, inr}
use Rattle.std.proofs.lemmas.Option.{same_Some, slice_get_within, slice_get-get_or}
use Rattle.std.proofs.Math.Nat.{min-eq_left}
use Rattle.std.proofs.lemmas.List.{length-map, map-append, take_all, take_more, length-set, length-take-le}
use Rattle.std.proofs.lemmas.List.FromFn.{length-enumerate_from, length-range_with_len}
use Rattle.std.proofs.lemmas.List.Sums.{sum_by-append, sum_by-cons, count_by-le-length, length-filter}
use Rattle.std.specs.Prelude.{min, slice_set, sum_by, filter}
use Rattle.std.specs.List.{filter_map, cons_option, enumerate_from, list_any}
use Rattle.std.specs.List.Sorted.{IsPermutation, IsSortedBy}
use Rattle.fx_math.specs.declared.lenses.Lens.{Lens}
use Rattle.pf_model.specs.Angles.{Viewpoint, home_view}
use Rattle.pf_model.specs.Graphs.{Look, node_at}
use Rattle.pf_model.specs.Limits.{IsRising, KeepsLimits}
use Rattle.pf_model.specs.Boxes.{box_of}
use Rattle.pf_model.specs.Walks.{Instance, surface_in, instance_of, scene_at, steps_of_view, walk}
use Rattle.pf_model.proofs.Levels.{size_at_limit}
use Rattle.pf_model.proofs.Numbering.{places_rise}
use Rattle.draw_list.specs.declared.stats.Stats.{Stats}
use Rattle.draw_list.specs.Lists.{Drawables, instances_in}
use Rattle.draw_list.specs.Order.{draw_order, put_in, in_draw_order, is_of_state, all_states, state_count}
use Rattle.draw_list.specs.Shown.{is_in_sight, is_visited, shown, draw_list, stats_of}
use Rattle.tri_cover.specs.Labels.{PlacesRise}
use Rattle.cull_walk.specs.Premises.{CanBeExact, unnamed}
use Rattle.cull_walk.specs.Working.{Scene, Work, walked}
use Rattle.multibuffer.specs.StageCopies.{CopyState, boxes_of}
use Rattle.stage_parts.specs.Pictures.{sums}
use Rattle.stage_parts.specs.Parts.{nameless}
use Rattle.frame_stages.proofs.WalkSizes.{walk_length}
use Rattle.frame_stages.specs.CullBoxes.{IsWalk, sight_of}
use Rattle.frame_stages.specs.Culling.{greatest, added, IsChannel, CanCullAll, AreCulledTo, AreAllCulled}

-- Order

-- the names of instances do not move them
put_unnamed : (x : Instance) (ys : List Instance) → put_in (unnamed x) (map unnamed ys) ≡ map unnamed (put_in x ys)
put_unnamed x [] = refl
put_unnamed x (y ∷ ys) = by (draw_order y x) (put_unnamed x ys)
  where
    by : (t : Bool) → put_in (unnamed x) (map unnamed ys) ≡ map unnamed (put_in x ys) →
        cond t (unnamed y ∷ put_in (unnamed x) (map unnamed ys)) (unnamed x ∷ unnamed y ∷ map unnamed ys)
        ≡ map unnamed (cond t (y ∷ put_in x ys) (x ∷ y ∷ ys))
    by true rest = ap (λ (zs : List Instance). unnamed y ∷ zs) rest
    by false rest = refl

order_unnamed : (xs : List Instance) → in_draw_order (map unnamed xs) ≡ map unnamed (in_draw_order xs)
order_unnamed [] = refl
order_unnamed (x ∷ xs) = ap (put_in (unnamed x)) (order_unnamed xs) ∙ put_unnamed x (in_draw_order xs)

places_unnamed : (xs : List Instance) → map (λ x. x.place) (map unnamed xs) ≡ map (λ x. x.place) xs
places_unnamed [] = refl
places_unnamed (x ∷ xs) = ap (λ (ps : List ℕ). x.place ∷ ps) (places_unnamed xs)

shown_rise : (look : Look) (time : ℕ) (v : Viewpoint) (lens : Lens) → PlacesRise (map unnamed (shown look time v lens))
shown_rise look time v lens =
    subst IsRising (sym (places_unnamed (shown look time v lens)))
    (places_rise look (filter (is_in_sight lens (box_of look)) (walk look time v)))

-- a list whose places rise has one order
abbrev pub HasOneOrder : Type 0
HasOneOrder =
    (xs ys : List Instance) → PlacesRise xs → IsPermutation xs ys → IsSortedBy draw_order ys → ys ≡ in_draw_order xs

-- a culled list that is put in order is the draw list
pub ordered : HasOneOrder → (look : Look) (time : ℕ) (v : Viewpoint) (lens : Lens) (before after : List Instance) →
    before ≡ map unnamed (shown look time v lens) → IsPermutation before after → IsSortedBy draw_order after →
    after ≡ map nameless (draw_list look time v lens)
ordered law look time v lens before after is perm sorted =
    let xs = shown look time v lens in
    law (map unnamed xs) after (shown_rise look time v lens)
    (subst (λ (ys : List Instance). IsPermutation ys after) is perm) sorted
    ∙ order_unnamed xs

-- a walk whose list is put in order
pub walk_is : (s : Scene) (v : Viewpoint) (before out after : Drawables) (start steps visited : ℕ) →
    (let there : Work = record { list = out; tests = steps; visited = visited } in there ≡ walked s v before start) → start ≡ 0 →
    after.joints ≡ out.joints → after.kept ≡ out.kept → IsPermutation out.items.items after.items.items →
    IsSortedBy draw_order (instances_in after) → IsWalk s v before after
walk_is s v before out after start steps visited there none joints kept items sorted =
    record {
      joints = joints ∙ ap (λ (d : Drawables). d.joints) list;
      kept = kept ∙ ap (λ (d : Drawables). d.kept) list;
      items = subst (λ (d : Drawables). IsPermutation d.items.items after.items.items) list items;
      sorted = sorted;
    }
  where
    list : out ≡ (walked s v before 0).list
    list = ap (λ (w : Work). w.list) there ∙ ap (λ (n : ℕ). (walked s v before n).list) none

-- How large the numbers of a channel are

filtered : {X Y : Type 0} (f : X → Option Y) (xs : List X) → length (filter_map f xs) ≤ length xs
filtered f [] = omega arith
filtered {X} {Y} f (x ∷ xs) = by (f x) (filtered f xs)
  where
    by : (o : Option Y) → length (filter_map f xs) ≤ length xs → length (cons_option o (filter_map f xs)) ≤ suc (length xs)
    by None l = omega (arith, l)
    by (Some y) l = omega (arith, l)

-- each number of a channel is at most the scene's greatest size
pub record IsSmall (s : Stats) : Type 0 where
  pub shown : s.shown ≤ 131072
  pub states : s.states ≤ 131072
  pub visited : s.visited ≤ 131072

states_length : length all_states ≡ 65536
unfolding all_states
states_length = length-range_with_len 0 65536

states_small : (xs : List Instance) → state_count xs ≤ 65536
states_small xs = omega (arith, count_by-le-length (λ state. list_any (is_of_state state) xs) all_states, states_length)

small_channel : (look : Look) (time : ℕ) (v : Viewpoint) (lens : Lens) → KeepsLimits look → IsSmall (stats_of look time v lens)
small_channel look time v lens limits =
    let all = walk look time v in
    let many : length all ≤ 131072 =
    omega (arith, walk_length 32 look time (scene_at (steps_of_view v)), size_at_limit look 0 (limits.low 0), limits.small 0) in
    let os = filter (is_in_sight lens (box_of look)) all in
    let drawn = filter_map (surface_in look) os in
    let count : length (shown look time v lens) ≡ length drawn =
    length-map (enumerate_from 0 drawn) (λ e. instance_of e.1.0 e.1.1 e.0) ∙ length-enumerate_from 0 drawn in
    record {
      shown = omega (
        arith,
        count,
        filtered (surface_in look) os,
        length-filter (is_in_sight lens (box_of look)) all,
        count_by-le-length (is_in_sight lens (box_of look)) all,
        many,
      );
      states = omega (arith, states_small (shown look time v lens));
      visited = omega (arith, count_by-le-length (is_visited lens (box_of look)) all, many);
    }

-- The sums over the first channels

sum_small : (f : Stats → ℕ) (g : Viewpoint → Stats) → ((v : Viewpoint) → f (g v) ≤ 131072) → (vs : List Viewpoint) →
    sum_by f (map g vs) ≤ length vs * 131072
sum_small f g each [] = omega arith
sum_small f g each (v ∷ vs) = omega (arith, each v, sum_small f g each vs, sum_by-cons f (g v) (map g vs))

sum_more : (f : Stats → ℕ) (g : Viewpoint → Stats) → ((v : Viewpoint) → f (g v) ≤ 131072) → (vs : List Viewpoint) (v : Viewpoint) →
    length vs < 4 → min (sum_by f (map g vs) + f (g v)) greatest ≡ sum_by f (map g vs ++ g v ∷ [])
sum_more f g each vs v few =
    let small : sum_by f (map g vs) + f (g v) ≤ greatest = omega (arith, each v, sum_small f g each vs, few) in
    min-eq_left small ∙ omega (arith, sum_by-append f (map g vs) (g v ∷ []), sum_by-cons f (g v) [])

sums_more : (g : Viewpoint → Stats) → ((v : Viewpoint) → IsSmall (g v)) → (vs : List Viewpoint) (v : Viewpoint) → length vs < 4 →
    added (sums (map g vs)) (g v) ≡ sums (map g (vs ++ v ∷ []))
sums_more g small vs v few =
    (λ i. record {
      shown = sum_more (λ s. s.shown) g (λ w. (small w).shown) vs v few i;
      states = sum_more (λ s. s.states) g (λ w. (small w).states) vs v few i;
      visited = sum_more (λ s. s.visited) g (λ w. (small w).visited) vs v few i;
    })
    ∙ ap sums (sym (map-append g vs (v ∷ [])))

-- Lists, one of which is put at its place

get_here : (ds : List Drawables) (i : ℕ) (d e : Drawables) → i < length ds → slice_get (slice_set ds i d) i ≡ Some e → d ≡ e
get_here [] i d e within at = absurd (omega (arith, within))
get_here (x ∷ ds) zero d e within at = same_Some d e at
get_here (x ∷ ds) (suc i) d e within at = get_here ds i d e (omega (arith, within)) at

get_else : (ds : List Drawables) (i j : ℕ) (d : Drawables) → (j ≡ i → ⊥) → slice_get (slice_set ds i d) j ≡ slice_get ds j
get_else [] i j d other = refl
get_else (x ∷ ds) zero zero d other = absurd (other refl)
get_else (x ∷ ds) zero (suc j) d other = refl
get_else (x ∷ ds) (suc i) zero d other = refl
get_else (x ∷ ds) (suc i) (suc j) d other = get_else ds i j d (λ e. other (ap suc e))

-- a place before the next one is before this one, or is it
split : (i n : ℕ) → i < n + 1 → (i < n) ⊎ (i ≡ n)
split zero zero below = inr refl
split zero (suc n) below = inl (omega arith)
split (suc i) zero below = absurd (omega (arith, below))
split (suc i) (suc n) below = next (split i n (omega (arith, below)))
  where
    next : (i < n) ⊎ (i ≡ n) → (suc i < suc n) ⊎ (suc i ≡ suc n)
    next (inl l) = inl (omega (arith, l))
    next (inr e) = inr (ap suc e)

-- The channels

-- before the first channel nothing is culled
pub culled_none : (copy : CopyState) (time : ℕ) (views : List Viewpoint) (lens : Lens) (lists : List Drawables) →
    AreCulledTo copy time views lens 0 lists lists (record { shown = 0; states = 0; visited = 0 })
culled_none copy time views lens lists =
    record {
      many = refl;
      behind = λ i l. refl;
      walks = λ i v d e below at_view at_first at_list. absurd (omega (arith, below));
      lists = λ can i d v below at_list at_view. absurd (omega (arith, below));
      numbers = λ can. refl;
    }

-- where all lists can be culled exactly, the one of a channel can
channel_can : (copy : CopyState) (time : ℕ) (views : List Viewpoint) (lists : List Drawables) (n : ℕ) (d : Drawables) →
    CanCullAll copy time views lists → slice_get lists n ≡ Some d → CanBeExact (node_at copy.nodes) (boxes_of copy) time d
channel_can copy time views lists n d can at =
    let room = can.room n d at in
    record {
      limits = can.within;
      boxes_are = can.boxes.each;
      room = record { items = room.items; joints = room.joints; tris = room.triangles };
    }

-- one more channel is culled: its list is put at its place, and its numbers are added
pub culled_more : (copy : CopyState) (time : ℕ) (views : List Viewpoint) (lens : Lens) (n : ℕ) (first before : List Drawables)
    (was d : Drawables) (stats seen : Stats) → slice_get before n ≡ Some was → AreCulledTo copy time views lens n first before stats →
    ((v : Viewpoint) → slice_get views n ≡ Some v → IsWalk (sight_of copy time lens) v was d) →
    ((v : Viewpoint) → slice_get views n ≡ Some v → CanBeExact (node_at copy.nodes) (boxes_of copy) time was →
    IsChannel (node_at copy.nodes) time v lens d seen) →
    AreCulledTo copy time views lens (n + 1) first (slice_set before n d) (added stats seen)
culled_more copy time views lens n first before was d stats seen stood old walk one =
    record {
      many = length-set before n d ∙ old.many;
      behind = λ i l. get_else before n i d (λ same. omega (arith, l, same)) ∙ old.behind i (omega (arith, l));
      walks = λ i v x e below. walk_at i v x e (split i n below);
      lists = λ can i e v below. at_place can i e v (split i n below);
      numbers = numbers;
    }
  where
    within : n < length before
    within = slice_get_within before n was stood

    first_here : slice_get first n ≡ Some was
    first_here = sym (old.behind n (omega arith)) ∙ stood

    walk_at : (i : ℕ) (v : Viewpoint) (x e : Drawables) → (i < n) ⊎ (i ≡ n) → slice_get views i ≡ Some v → slice_get first i ≡ Some x →
        slice_get (slice_set before n d) i ≡ Some e → IsWalk (sight_of copy time lens) v x e
    walk_at i v x e (inl below) at_view at_first at_list =
        old.walks i v x e below at_view at_first (sym (get_else before n i d (λ same. omega (arith, below, same))) ∙ at_list)
    walk_at i v x e (inr same) at_view at_first at_list =
        let here_x : was ≡ x = same_Some was x (sym first_here ∙ ap (slice_get first) (sym same) ∙ at_first) in
        let here_e : d ≡ e = get_here before n d e within (ap (slice_get (slice_set before n d)) (sym same) ∙ at_list) in
        subst (λ (y : Drawables). IsWalk (sight_of copy time lens) v y e) here_x
        (subst (λ (y : Drawables). IsWalk (sight_of copy time lens) v was y) here_e (walk v (ap (slice_get views) (sym same) ∙ at_view)))

    here : CanCullAll copy time views first → (v : Viewpoint) → slice_get views n ≡ Some v →
        IsChannel (node_at copy.nodes) time v lens d seen
    here can v at_view = one v at_view (channel_can copy time views first n was can (sym (old.behind n (omega arith)) ∙ stood))

    at_place : CanCullAll copy time views first → (i : ℕ) (e : Drawables) (v : Viewpoint) → (i < n) ⊎ (i ≡ n) →
        slice_get (slice_set before n d) i ≡ Some e → slice_get views i ≡ Some v →
        instances_in e ≡ map nameless (draw_list (node_at copy.nodes) time v lens)
    at_place can i e v (inl below) at_list at_view =
        old.lists can i e v below (sym (get_else before n i d (λ same. omega (arith, below, same))) ∙ at_list) at_view
    at_place can i e v (inr same) at_list at_view =
        subst (λ (x : Drawables). instances_in x ≡ map nameless (draw_list (node_at copy.nodes) time v lens))
        (get_here before n d e within (ap (slice_get (slice_set before n d)) (sym same) ∙ at_list))
        (here can v (ap (slice_get views) (sym same) ∙ at_view)).list

    of_view : Viewpoint → Stats
    of_view v = stats_of (node_at copy.nodes) time v lens

    numbers : CanCullAll copy time views first → added stats seen ≡ sums (map of_view (take (n + 1) views))
    numbers can =
        let there : n < length views = omega (arith, within, old.many, can.many) in
        let v = get_or views n home_view in
        let channel = here can v (slice_get-get_or views n home_view there) in
        let few : length (take n views) < 4 = omega (arith, length-take-le n views (omega (arith, there)), there, can.few) in
        ap (λ (a : Stats). added a seen) (old.numbers can) ∙ ap (added (sums (map of_view (take n views)))) channel.numbers
        ∙ sums_more of_view (λ w. small_channel (node_at copy.nodes) time w lens can.within.limits) (take n views) v few
        ∙ ap (λ (vs : List Viewpoint). sums (map of_view vs)) (sym (take_more views n home_view there))

-- all lists, by the boxes of the copy
pub walks_all : (copy : CopyState) (time : ℕ) (views : List Viewpoint) (lens : Lens) (n : ℕ) (first after : List Drawables) (stats : Stats) →
    n ≡ length first → AreCulledTo copy time views lens n first after stats → (i : ℕ) (v : Viewpoint) (d e : Drawables) →
    slice_get views i ≡ Some v → slice_get first i ≡ Some d → slice_get after i ≡ Some e → IsWalk (sight_of copy time lens) v d e
walks_all copy time views lens n first after stats end culled i v d e at_view at_first =
    culled.walks i v d e (omega (arith, slice_get_within first i d at_first, end)) at_view at_first

lists_same : (f : Viewpoint → List Instance) (ds : List Drawables) (vs : List Viewpoint) → length ds ≡ length vs →
    ((i : ℕ) (d : Drawables) (v : Viewpoint) → slice_get ds i ≡ Some d → slice_get vs i ≡ Some v → instances_in d ≡ f v) →
    map instances_in ds ≡ map f vs
lists_same f [] [] e each = refl
lists_same f [] (v ∷ vs) e each = absurd (omega (arith, e))
lists_same f (d ∷ ds) [] e each = absurd (omega (arith, e))
lists_same f (d ∷ ds) (v ∷ vs) e each =
    ap (λ (xs : List Instance). xs ∷ map instances_in ds) (each 0 d v refl refl)
    ∙ ap (λ (rest : List (List Instance)). f v ∷ rest)
    (lists_same f ds vs (omega (arith, e)) (λ i x w at_list at_view. each (suc i) x w at_list at_view))

-- all lists, where each is that of its view
pub culled_all : (copy : CopyState) (time : ℕ) (views : List Viewpoint) (lens : Lens) (n : ℕ) (first after : List Drawables) (stats : Stats) →
    n ≡ length first → AreCulledTo copy time views lens n first after stats → CanCullAll copy time views first →
    AreAllCulled copy time views lens after stats
culled_all copy time views lens n first after stats end culled can =
    record {
      lists_are =
          lists_same (λ v. map nameless (draw_list (node_at copy.nodes) time v lens)) after views (culled.many ∙ can.many)
          (λ i d v at_list at_view.
          culled.lists can i d v (omega (arith, slice_get_within after i d at_list, culled.many, end)) at_list at_view);
      numbers =
          culled.numbers can
          ∙ ap (λ (vs : List Viewpoint). sums (map (λ v. stats_of (node_at copy.nodes) time v lens) vs))
          (take_all n views (omega (arith, end, can.many)));
    }
