-- A visit leaves the numbers of the whole walk as they are.
use Rattle.std.proofs.Common.{◌≡◌, ◌∙◌, ℕ, ◌+◌, ◌<◌, List, [], ◌∷◌, ◌++◌, length, Bool, true, false, cond, ◌||◌, Option, Some, None, ap, sym, refl, subst, arith, length-append}
use Rattle.std.specs.Prelude.{map, count_by, nat_lt, ◌==◌, is_some}
use Rattle.std.specs.List.{list_any}
use Rattle.std.specs.Option.{option_map, option_map_or, option_and_then}
use Rattle.std.proofs.lemmas.Bool.Decides.{nat_tests}
use Rattle.std.proofs.lemmas.List.{map-append}
use Rattle.fx_math.specs.Plain.{Matrix, Bounds}
use Rattle.pf_model.specs.declared.geometry.Tri.{Tri}
use Rattle.pf_model.specs.declared.nodes.Chosen.{Chosen}
use Rattle.pf_model.specs.declared.nodes.Node.{Node}
use Rattle.pf_model.specs.Kinds.{Surface, surface_of}
use Rattle.pf_model.specs.Walks.{Instance, chosen_in}
use Rattle.draw_list.specs.declared.items.Item.{Item}
use Rattle.draw_list.specs.declared.stats.Stats.{Stats}
use Rattle.draw_list.specs.Joints.{steps_at}
use Rattle.draw_list.specs.Items.{ItemList, instance_of_item}
use Rattle.draw_list.specs.Kept.{empty_span}
use Rattle.draw_list.specs.Lists.{Drawables, instances_in}
use Rattle.draw_list.specs.Order.{is_of_state, all_states, state_count}
use Rattle.tri_cover.specs.Labels.{placed}
use Rattle.cull_walk.specs.Working.{Scene, At, counted, item_at, own_pose, joint_below, with_below}
use Rattle.stream_stages.specs.Stops.{Stop, box_at, surface_at, instance_at, found_at, found_from}
use Rattle.stream_stages.specs.Routes.{Walking}
use Rattle.stream_stages.specs.Going.{spotted, with_glass, with_waiting, with_seen, found_in, with_level, lowered_in, entered_in, shown_in, seen_in, visited_in}
use Rattle.stream_stages.proofs.Found.{found_none, found_one}
use Rattle.stream_stages.proofs.Visiting.{stop_of}
use Rattle.stream_stages.proofs.Finding.{StaysFound, entered_stays, tint_is, one_item}

-- the numbers where these stops are still to come
abbrev pub counts : Scene → Walking → List Stop → Stats
counts s w os =
    record {
      shown = length w.seen.items.items + length (found_from (length w.seen.items.items) s os);
      states = state_count (instances_in w.seen ++ found_from (length w.seen.items.items) s os);
      visited = w.visited + length os;
    }

-- ---- states
any-append : (state : ℕ) (xs ys : List Instance) → list_any (is_of_state state) (xs ++ ys) ≡ (list_any (is_of_state state) xs || list_any (is_of_state state) ys)
any-append state [] ys = refl
any-append state (x ∷ xs) ys = by (is_of_state state x) (any-append state xs ys)
  where
    by : (t : Bool) → list_any (is_of_state state) (xs ++ ys) ≡ (list_any (is_of_state state) xs || list_any (is_of_state state) ys) →
        (t || list_any (is_of_state state) (xs ++ ys)) ≡ ((t || list_any (is_of_state state) xs) || list_any (is_of_state state) ys)
    by true h = refl
    by false h = h

-- the states of items depend on neither joints nor triangles
any_items : (state : ℕ) (lists more : List (List Matrix)) (ts us : List Tri) (is : List Item) →
    list_any (is_of_state state) (map (instance_of_item lists ts) is) ≡ list_any (is_of_state state) (map (instance_of_item more us) is)
any_items state lists more ts us [] = refl
any_items state lists more ts us (i ∷ is) = ap (λ (b : Bool). is_of_state state (instance_of_item lists ts i) || b) (any_items state lists more ts us is)

same_states : (xs ys : List Instance) → ((state : ℕ) → list_any (is_of_state state) xs ≡ list_any (is_of_state state) ys) → state_count xs ≡ state_count ys
same_states xs ys h = ap (λ (p : ℕ → Bool). count_by p all_states) (λ i state. h state i)

items_states : (d e : Drawables) (fs : List Instance) → e.items ≡ d.items → state_count (instances_in d ++ fs) ≡ state_count (instances_in e ++ fs)
items_states d e fs same = same_states (instances_in d ++ fs) (instances_in e ++ fs) (λ state.
    any-append state (instances_in d) fs
    ∙ ap (λ (b : Bool). b || list_any (is_of_state state) fs)
    (any_items state d.joints.lists e.joints.lists d.kept.tris e.kept.tris d.items.items
    ∙ ap (λ (is : ItemList). list_any (is_of_state state) (map (instance_of_item e.joints.lists e.kept.tris) is.items)) (sym same))
    ∙ sym (any-append state (instances_in e) fs))

-- ---- a visit that finds nothing
nothing_counts : (s : Scene) (w v : Walking) (o : Stop) (os : List Stop) → StaysFound w v → v.visited ≡ w.visited + 1 → found_at s o ≡ None → counts s w (o ∷ os) ≡ counts s v os
nothing_counts s w v o os h more e = λ i. record {
  shown = shown i;
  states = states i;
  visited = visited i;
}
  where
    n : ℕ
    n = length w.seen.items.items

    found : found_from n s (o ∷ os) ≡ found_from n s os
    found = found_none n s o os e

    shown : n + length (found_from n s (o ∷ os)) ≡ length v.seen.items.items + length (found_from (length v.seen.items.items) s os)
    shown = ap (λ (xs : List Instance). n + length xs) found ∙ (λ i. length (sym h.items i).items + length (found_from (length (sym h.items i).items) s os))

    states : state_count (instances_in w.seen ++ found_from n s (o ∷ os)) ≡ state_count (instances_in v.seen ++ found_from (length v.seen.items.items) s os)
    states =
        ap (λ (xs : List Instance). state_count (instances_in w.seen ++ xs)) found
        ∙ items_states w.seen v.seen (found_from n s os) h.items
        ∙ ap (λ (d : ItemList). state_count (instances_in v.seen ++ found_from (length d.items) s os)) (sym h.items)

    visited : w.visited + length (o ∷ os) ≡ v.visited + length os
    visited = omega (arith, more)

-- ---- a geode found
geode_counts : (s : Scene) (w v : Walking) (a : At) (around : Bounds) (t : Surface) (os : List Stop) → found_at s (stop_of w a) ≡ Some (instance_at (stop_of w a) around t) → v.visited ≡ w.visited + 1 →
    v.seen.items.items ≡ w.seen.items.items ++ item_at a around (length w.seen.items.items) t empty_span ∷ [] → counts s w (stop_of w a ∷ os) ≡ counts s v os
geode_counts s w v a around t os at more items = λ i. record {
  shown = shown i;
  states = states i;
  visited = visited i;
}
  where
    n : ℕ
    n = length w.seen.items.items

    i : Item
    i = item_at a around n t empty_span

    x : Instance
    x = instance_at (stop_of w a) around t

    found : found_from n s (stop_of w a ∷ os) ≡ placed (n, x) ∷ found_from (n + 1) s os
    found = found_one n s (stop_of w a) os x at

    long : length v.seen.items.items ≡ n + 1
    long = ap length items ∙ length-append w.seen.items.items (i ∷ [])

    shown : n + length (found_from n s (stop_of w a ∷ os)) ≡ length v.seen.items.items + length (found_from (length v.seen.items.items) s os)
    shown =
        omega (
          arith,
          ap length found,
          long,
          ap (λ (k : ℕ). length (found_from k s os)) long,
        )

    one : (state : ℕ) → is_of_state state (placed (n, x)) ≡ is_of_state state (instance_of_item v.seen.joints.lists v.seen.kept.tris i)
    one state = ap (λ (o : Option ℕ). is_of_state state (record x { tint = o })) (sym (tint_is around t.tint))

    states : state_count (instances_in w.seen ++ found_from n s (stop_of w a ∷ os)) ≡ state_count (instances_in v.seen ++ found_from (length v.seen.items.items) s os)
    states = same_states (instances_in w.seen ++ found_from n s (stop_of w a ∷ os)) (instances_in v.seen ++ found_from (length v.seen.items.items) s os) (λ state.
        any-append state (instances_in w.seen) (found_from n s (stop_of w a ∷ os))
        ∙ ap (λ (xs : List Instance). list_any (is_of_state state) (instances_in w.seen) || list_any (is_of_state state) xs) found
        ∙ (λ j. any_items state w.seen.joints.lists v.seen.joints.lists w.seen.kept.tris v.seen.kept.tris w.seen.items.items j || (one state j || list_any (is_of_state state) (found_from (sym long j) s os)))
        ∙ moved (list_any (is_of_state state) (map (instance_of_item v.seen.joints.lists v.seen.kept.tris) w.seen.items.items)) (is_of_state state (instance_of_item v.seen.joints.lists v.seen.kept.tris i))
        (list_any (is_of_state state) (found_from (length v.seen.items.items) s os))
        ∙ ap (λ (b : Bool). b || list_any (is_of_state state) (found_from (length v.seen.items.items) s os))
        (sym (any-append state (map (instance_of_item v.seen.joints.lists v.seen.kept.tris) w.seen.items.items) (instance_of_item v.seen.joints.lists v.seen.kept.tris i ∷ []))
        ∙ ap (list_any (is_of_state state)) (sym (map-append (instance_of_item v.seen.joints.lists v.seen.kept.tris) w.seen.items.items (i ∷ [])))
        ∙ ap (λ (is : List Item). list_any (is_of_state state) (map (instance_of_item v.seen.joints.lists v.seen.kept.tris) is)) (sym items))
        ∙ sym (any-append state (instances_in v.seen) (found_from (length v.seen.items.items) s os)))
      where
        moved : (p q r : Bool) → (p || (q || r)) ≡ ((p || (q || false)) || r)
        moved true q r = refl
        moved false true r = refl
        moved false false r = refl

    visited : w.visited + length (stop_of w a ∷ os) ≡ v.visited + length os
    visited = omega (arith, more)

-- ---- a visit
counted_more : (n : ℕ) → n < 4294967295 → counted n ≡ n + 1
counted_more n l = omega (arith, l)

some_spare : (n : ℕ) → 0 < n → (n == 0) ≡ false
some_spare n l = grind (arith, nat_tests)

-- what a geode leaves
found_leaves : (w : Walking) (a : At) (around : Bounds) (t : Surface) → 0 < w.seen.items.spare →
    ((found_in w a around t).visited ≡ w.visited) × ((found_in w a around t).seen.items.items ≡ w.seen.items.items ++ item_at a around (length w.seen.items.items) t empty_span ∷ [])
found_leaves w a around t some =
    let leaves : Walking → Type 0 = λ v. (v.visited ≡ w.visited) × (v.seen.items.items ≡ w.seen.items.items ++ item_at a around (length w.seen.items.items) t empty_span ∷ []) in
    subst (λ (b : Bool). leaves (cond b w (with_waiting (spotted w a around t) u))) (sym (some_spare w.seen.items.spare some)) (by (is_some (spotted w a around t).tint))
  where
    u : Walking
    u = record w { seen = with_seen a around t w.seen }

    by : (b : Bool) → ((cond b (record u { glass = with_glass (spotted w a around t) w.glass }) (record u { held = Some (spotted w a around t) })).visited ≡ w.visited)
        × ((cond b (record u { glass = with_glass (spotted w a around t) w.glass }) (record u { held = Some (spotted w a around t) })).seen.items.items ≡ w.seen.items.items ++ item_at a around (length w.seen.items.items) t empty_span ∷ [])
    by true = (refl, one_item (item_at a around (length w.seen.items.items) t empty_span) w.seen.items some)
    by false = (refl, one_item (item_at a around (length w.seen.items.items) t empty_span) w.seen.items some)

pub entered_visited : (s : Scene) (w : Walking) (a : At) (n : Node) → (entered_in s w a n).visited ≡ w.visited
entered_visited s w a n = by (nat_lt (length w.way) 31)
  where
    ch : Chosen
    ch = chosen_in s.time n (steps_at w.seen.joints.lists a.joint)

    level : (j : Option ℕ) → (with_level (record w { seen = with_below a.joint w.seen (own_pose n.kind) }) a ch (length n.children) j).visited ≡ w.visited
    level None = refl
    level (Some j) = refl

    by : (b : Bool) → (cond b (lowered_in w a n ch) w).visited ≡ w.visited
    by true = level (joint_below a.joint w.seen (own_pose n.kind))
    by false = refl

pub visited_counts : (s : Scene) (w : Walking) (a : At) (os : List Stop) → 0 < w.seen.items.spare → w.visited < 4294967295 → counts s w (stop_of w a ∷ os) ≡ counts s (visited_in s w a) os
visited_counts s w a os some few = by (box_at s o) refl
  where
    u : Walking
    u = record w { visited = counted w.visited }

    o : Stop
    o = stop_of w a

    more : u.visited ≡ w.visited + 1
    more = counted_more w.visited few

    surface : (around : Bounds) (n : Node) → box_at s o ≡ Some around → s.look a.id ≡ Some n → (t : Option Surface) → surface_of n.kind ≡ t → counts s w (o ∷ os) ≡ counts s (shown_in s u a around n t) os
    surface around n e f None g =
        nothing_counts s w (entered_in s u a n) o os
        (let h : StaysFound u (entered_in s u a n) = entered_stays s u a n in record { items = h.items; held = h.held; glass = h.glass; view = h.view })
        (entered_visited s u a n ∙ more)
        (ap (option_and_then (λ b. option_map (instance_at o b) (surface_at s a.id))) e
        ∙ ap (λ (m : Option Node). option_map (instance_at o around) (option_and_then (λ n. surface_of n.kind) m)) f
        ∙ ap (option_map (instance_at o around)) g)
    surface around n e f (Some t) g =
        let (visited, items) = found_leaves u a around t some in
        geode_counts s w (found_in u a around t) a around t os
        (ap (option_and_then (λ b. option_map (instance_at o b) (surface_at s a.id))) e
        ∙ ap (λ (m : Option Node). option_map (instance_at o around) (option_and_then (λ n. surface_of n.kind) m)) f
        ∙ ap (option_map (instance_at o around)) g)
        (visited ∙ more) items

    node : (around : Bounds) → box_at s o ≡ Some around → (m : Option Node) → s.look a.id ≡ m → counts s w (o ∷ os) ≡ counts s (option_map_or (λ n. shown_in s u a around n (surface_of n.kind)) m u) os
    node around e None f =
        nothing_counts s w u o os (record { items = refl; held = refl; glass = refl; view = refl }) more
        (ap (option_and_then (λ b. option_map (instance_at o b) (surface_at s a.id))) e
        ∙ ap (λ (m : Option Node). option_map (instance_at o around) (option_and_then (λ n. surface_of n.kind) m)) f)
    node around e (Some n) f = surface around n e f (surface_of n.kind) refl

    by : (b : Option Bounds) → box_at s o ≡ b → counts s w (o ∷ os) ≡ counts s (seen_in s u a b) os
    by None e =
        nothing_counts s w u o os (record { items = refl; held = refl; glass = refl; view = refl }) more
        (ap (option_and_then (λ b. option_map (instance_at o b) (surface_at s a.id))) e)
    by (Some around) e = node around e (s.look a.id) refl
