-- A piece that was filled is full before what is sent next.
use Rattle.std.proofs.Common.{◌≡◌, ◌∙◌, ℕ, zero, suc, ◌<◌, Bool, true, false, if◌then◌else◌, ◌==◌, List, [], ◌∷◌, ◌++◌, map, drop, length, slice_get, Option, Some, None, inl, inr, refl, sym, ap, subst, arith, append_assoc}
use Rattle.std.specs.Prelude.{filter, not, nat_lt, is_some, IfSome}
use Rattle.std.specs.List.{AllByRecursion}
use Rattle.std.specs.Option.{option_map_or, option_and_then, option_to_list}
use Rattle.std.proofs.Math.Seq.{drop-append_seam}
use Rattle.std.proofs.lemmas.Bool.Decides.{nat_tests}
use Rattle.std.proofs.lemmas.List.{length-map}
use Rattle.fx_math.specs.Plain.{Matrix}
use Rattle.pf_model.specs.declared.geometry.Tri.{Tri}
use Rattle.pf_model.specs.declared.nodes.Node.{Node}
use Rattle.pf_model.specs.Graphs.{Look, node_at}
use Rattle.pf_model.specs.Kinds.{Surface, surface_of}
use Rattle.pf_model.specs.Walks.{Instance, steps_of_view}
use Rattle.draw_list.specs.declared.items.Span.{Span}
use Rattle.draw_list.specs.Items.{instance_of_item}
use Rattle.draw_list.specs.Kept.{KeptTris, span_at, next_span, empty_span, new_span, kept_span}
use Rattle.draw_list.specs.Lists.{Drawables, instances_in}
use Rattle.draw_list.specs.Order.{is_opaque, in_draw_order}
use Rattle.cull_walk.specs.Working.{Scene}
use Rattle.multibuffer.specs.StageCopies.{CopyState}
use Rattle.stream_stages.specs.Cuts.{Cut, parts_of}
use Rattle.stream_stages.specs.Pieces.{joined, AreSentOf}
use Rattle.stream_stages.specs.declared.sightings.Sighting.{Sighting}
use Rattle.stream_stages.specs.Routes.{Walking, waiting, sighted, found_ahead, to_come}
use Rattle.stream_stages.specs.Underway.{IsSighted, IsGlassSighted, IsUnderway, FindsNoRoom, next_waiting}
use Rattle.stream_stages.specs.Filled.{IsFilled}
use Rattle.stream_stages.specs.CullParts.{HasNoRoomFor, IsFullBefore, AreFull, scene_at}
use Rattle.stream_stages.specs.CullSteps.{FillsOne}
use Rattle.stream_stages.proofs.Geodes.{drawn_geom, geom_in}

-- The triangles of what is sent next

-- where triangles get no span, too few find room
few_left : (id : ℕ) (ts : List Tri) (k : KeptTris) → kept_span id ts k ≡ None → k.spare < length ts
few_left id ts k none = by (span_at k id) none
  where
    fresh : (empty few : Bool) → nat_lt k.spare (length ts) ≡ few →
        (if empty then Some empty_span else (if few then None else Some (next_span ts k))) ≡ None → k.spare < length ts
    fresh true few is e = absurd (cc)
    fresh false true is e = grind (arith, nat_tests)
    fresh false false is e = absurd (cc)

    by : (o : Option Span) → (if is_some o then o else new_span ts k) ≡ None → k.spare < length ts
    by (Some s) e = absurd (cc)
    by None e = fresh (length ts == 0) (nat_lt k.spare (length ts)) refl e

crowded_node : (id : ℕ) (k : KeptTris) (m : Option Node) → is_some (option_and_then (λ n. surface_of n.kind) m) ≡ true →
    ((t : Surface) → option_and_then (λ n. surface_of n.kind) m ≡ Some t → kept_span id t.tris k ≡ None) →
    k.spare < length (geom_in m)
crowded_node id k None drawn crowded = absurd (cc)
crowded_node id k (Some n) drawn crowded = by (surface_of n.kind) refl
  where
    by : (o : Option Surface) → surface_of n.kind ≡ o → k.spare < length (geom_in (Some n))
    by None e = absurd (let clash : false ≡ true = sym (ap is_some e) ∙ drawn in cc)
    by (Some t) e =
        subst (λ (ts : List Tri). k.spare < length ts)
        (sym (ap (λ (g : Option (List Tri)). option_map_or (λ ts. ts) g []) (drawn_geom n.kind t e)))
        (few_left id t.tris k (crowded t e))

crowded_one : (look : Look) (view : List Matrix) (x : Sighting) (k : KeptTris) → IsSighted look x →
    FindsNoRoom look x k →
    k.spare < length (sighted look view x).tris
crowded_one look view x k there crowded = crowded_node x.id k (look x.id) there.drawn crowded

-- the opaque instance that waits, before others
crowded_held : (look : Look) (w : Walking) (p : Cut) (held : Option Sighting) (xs ys : List Instance) →
    IfSome held (λ x. IsSighted look x × (is_some x.tint ≡ false)) → IfSome held (λ x. FindsNoRoom look x p.list.kept) →
    is_some held ≡ true → HasNoRoomFor p (waiting look w (option_to_list held) ++ xs ++ ys)
crowded_held look w p None xs ys there crowded some = absurd (cc)
crowded_held look w p (Some x) xs ys there crowded some =
    crowded_one look (steps_of_view w.view) x p.list.kept there.0 crowded

-- the next of the glass that waits
crowded_glass : (look : Look) (before : ℕ) (w : Walking) (p : Cut) (xs : List Sighting) (k : ℕ) →
    AllByRecursion (IsGlassSighted look before) xs →
    IfSome (slice_get xs k) (λ x. FindsNoRoom look x p.list.kept) → is_some (slice_get xs k) ≡ true →
    HasNoRoomFor p (waiting look w (drop k xs))
crowded_glass look before w p [] k all crowded some = absurd (cc)
crowded_glass look before w p (x ∷ xs) zero all crowded some =
    crowded_one look (steps_of_view w.view) x p.list.kept all.0.there crowded
crowded_glass look before w p (x ∷ xs) (suc k) all crowded some = crowded_glass look before w p xs k all.1 crowded some

next_crowded : (s : Scene) (w : Walking) (p : Cut) → IsUnderway s w →
    IfSome (next_waiting w) (λ x. FindsNoRoom s.look x p.list.kept) →
    is_some (next_waiting w) ≡ true → HasNoRoomFor p (to_come s w)
next_crowded s w p underway crowded some = by w.sent crowded some
  where
    opaque : List Instance
    opaque = filter is_opaque (found_ahead s w)

    glass : List Instance
    glass = in_draw_order (waiting s.look w w.glass ++ filter (λ x. not (is_opaque x)) (found_ahead s w))

    by : (o : Option ℕ) →
        IfSome (option_map_or (λ k. slice_get w.glass k) o w.held) (λ x. FindsNoRoom s.look x p.list.kept) →
        is_some (option_map_or (λ k. slice_get w.glass k) o w.held) ≡ true →
        HasNoRoomFor p
        (option_map_or (λ k. waiting s.look w (drop k w.glass)) o
        (waiting s.look w (option_to_list w.held) ++ opaque ++ glass))
    by None h t = crowded_held s.look w p w.held opaque glass underway.held h t
    by (Some k) h t = crowded_glass s.look (length w.seen.items.items) w p w.glass k underway.glass h t

-- Pieces

-- as many instances as items
many_drawn : (d : Drawables) → length (instances_in d) ≡ length d.items.items
many_drawn d = length-map d.items.items (instance_of_item d.joints.lists d.kept.tris)

-- what follows a piece
after_piece : (p : Cut) (all rest : List Instance) → all ≡ instances_in p.list ++ rest →
    drop (length p.list.items.items) all ≡ rest
after_piece p all rest is =
    ap (drop (length p.list.items.items)) is
    ∙ ap (λ (k : ℕ). drop k (instances_in p.list ++ rest)) (sym (many_drawn p.list))
    ∙ drop-append_seam (instances_in p.list) rest

-- a piece that was filled is full, where it is not the last one
pub full_here : (limit : ℕ) (copy : CopyState) (before after : Walking) (old p : Cut) → old.limit ≡ limit →
    FillsOne copy before after old p →
    IsUnderway (scene_at copy before) before → p.last ≡ false →
    IsFullBefore limit p (drop (length p.list.items.items) (to_come (scene_at copy before) before))
full_here limit copy before after old p same fills underway mark = by ((fills.next underway).full mark)
  where
    s : Scene
    s = scene_at copy before

    left : drop (length p.list.items.items) (to_come s before) ≡ to_come s after
    left = after_piece p (to_come s before) (to_come s after) (fills.next underway).sent

    by : IsFilled (node_at copy.nodes) p.limit p.list after →
        IsFullBefore limit p (drop (length p.list.items.items) (to_come s before))
    by (inl all) more = absurd (omega (arith, more, all, fills.limit, same))
    by (inr waits) more =
        subst (HasNoRoomFor p) (sym left) (next_crowded s after p (fills.next underway).underway waits.1 waits.2)

-- one piece more
pub full_more : (limit : ℕ) (all rest : List Instance) (ps : List Cut) (p : Cut) →
    AreSentOf all (map parts_of ps) rest → AreFull limit all ps →
    (p.last ≡ false → IsFullBefore limit p (drop (length p.list.items.items) rest)) → AreFull limit all (ps ++ p ∷ [])
full_more limit all rest [] p sent full here = (
  λ mark.
      subst (λ (xs : List Instance). IsFullBefore limit p (drop (length p.list.items.items) xs)) (sym sent) (here mark),
  tt,
)
full_more limit all rest (q ∷ ps) p sent full here =
    let others = joined (map parts_of ps) in
    let next = after_piece q all (others ++ rest) (sent ∙ append_assoc (instances_in q.list) others rest) in
    (full.0, full_more limit (drop (length q.list.items.items) all) rest ps p next full.1 here)
