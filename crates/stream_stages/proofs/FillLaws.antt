-- A piece that is filled from an emptied list on.
use Rattle.std.proofs.Common.{◌≡◌, ◌∙◌, ℕ, ◌+◌, ◌≤◌, ◌<◌, List, [], ◌∷◌, ◌++◌, length, Bool, true, Option, Some, None, ap, sym, subst, arith}
use Rattle.std.specs.Prelude.{map}
use Rattle.std.proofs.lemmas.List.{append-nil}
use Rattle.fx_math.specs.Plain.{Matrix, Bounds}
use Rattle.pf_model.specs.Graphs.{Look}
use Rattle.pf_model.specs.Walks.{Instance, steps_of_view}
use Rattle.draw_list.specs.declared.items.Item.{Item}
use Rattle.draw_list.specs.declared.items.Span.{Span}
use Rattle.draw_list.specs.declared.stats.Stats.{Stats}
use Rattle.draw_list.specs.Items.{instance_of_item}
use Rattle.draw_list.specs.Joints.{steps_at}
use Rattle.draw_list.specs.Kept.{span_at}
use Rattle.draw_list.specs.Lists.{Drawables, instances_in}
use Rattle.draw_list.specs.Order.{state_count}
use Rattle.cull_walk.specs.Working.{Scene}
use Rattle.stream_stages.specs.declared.routes.Route.{Route}
use Rattle.stream_stages.specs.declared.routes.Sight.{Sight}
use Rattle.stream_stages.specs.Cuts.{IsPiece}
use Rattle.stream_stages.specs.Stops.{found_from}
use Rattle.stream_stages.specs.Routes.{Walking, stops_ahead, to_come, scene_of}
use Rattle.stream_stages.specs.Underway.{IsUnderway, numbers_of, walking_of, sight_of}
use Rattle.stream_stages.specs.Filled.{AreThere, HasSameRoom, CanPass, Passes}

-- a list that was emptied for a view
pub record IsEmptied (view : List Matrix) (d e : Drawables) : Type 0 where
  pub joints : e.joints.lists ≡ view ∷ []
  pub items : e.items.items ≡ []
  pub spans : (id : ℕ) → span_at e.kept id ≡ None
  pub places : 0 < e.kept.spare → length e.kept.spans ≡ 65536
  pub tris : e.kept.tris ≡ []
  pub joint_room : e.joints.spare + 1 ≡ d.joints.spare + length d.joints.lists
  pub item_room : e.items.spare ≡ d.items.spare + length d.items.items
  pub tri_room : e.kept.spare ≡ d.kept.spare + length d.kept.tris

pub emptied_room : (view : List Matrix) (d e : Drawables) → IsEmptied view d e → HasSameRoom d e
emptied_room view d e h = record {
  items = omega (arith, h.item_room, ap length h.items);
  joints = omega (arith, h.joint_room, ap length h.joints);
  tris = omega (arith, h.tri_room, ap length h.tris);
}

pub can_fill : (s : Scene) (most : ℕ) (w : Walking) (d e : Drawables) → IsUnderway s w → IsPiece most d → IsEmptied (steps_of_view w.view) d e → CanPass s most w e
can_fill s most w d e under piece h = record {
  underway = under;
  sound = record {
    kept = λ id n surface span is shows at. absurd (none (span_at e.kept id) span (h.spans id) at);
    items = subst (AreThere e) (sym h.items) tt;
    wide = h.places;
    zero = omega (arith, ap length h.joints);
    eye = ap (λ (ls : List (List Matrix)). steps_at ls 0) h.joints;
    empty = λ nothing. omega (arith, piece.tris, h.tri_room);
  };
  items = omega (arith, piece.items, h.item_room);
  joints = omega (arith, piece.joints, h.joint_room);
}
  where
    none : (o : Option Span) (span : Span) → o ≡ None → o ≡ Some span → ⊥
    none o span e f = let g : None ≡ Some span = sym e ∙ f in cc

-- what is passed into an emptied list
pub filled_sent : (s : Scene) (most : ℕ) (w v : Walking) (d e f : Drawables) (m n : ℕ) → IsEmptied (steps_of_view w.view) d e → Passes s most w v e f m n → to_come s w ≡ instances_in f ++ to_come s v
filled_sent s most w v d e f m n h p = ap (λ (is : List Item). map (instance_of_item e.joints.lists e.kept.tris) is ++ to_come s w) (sym h.items) ∙ p.sent

-- the piece keeps its room
pub filled_piece : (view : List Matrix) (most : ℕ) (d e f : Drawables) → IsPiece most d → IsEmptied view d e → HasSameRoom e f → length f.items.items ≤ most → IsPiece most f
filled_piece view most d e f piece h room few =
    let first : HasSameRoom d e = emptied_room view d e h in
    record {
      least = piece.least;
      most = piece.most;
      few = few;
      items = omega (arith, piece.items, first.items, room.items);
      joints = omega (arith, piece.joints, first.joints, room.joints);
      tris = omega (arith, piece.tris, first.tris, room.tris);
    }

-- the numbers once nothing is left to visit
pub numbers_over : (s : Scene) (w v : Walking) (stats : Stats) → numbers_of s v ≡ numbers_of s w → stops_ahead s v ≡ [] →
    stats.shown ≡ length v.seen.items.items → stats.states ≡ state_count (instances_in v.seen) → stats.visited ≡ v.visited → stats ≡ numbers_of s w
numbers_over s w v stats same over shown states visited =
    (λ i. record { shown = shown_is i; states = states_is i; visited = visited_is i })
    ∙ same
  where
    nothing : found_from (length v.seen.items.items) s (stops_ahead s v) ≡ []
    nothing = ap (found_from (length v.seen.items.items) s) over

    shown_is : stats.shown ≡ length v.seen.items.items + length (found_from (length v.seen.items.items) s (stops_ahead s v))
    shown_is = omega (arith, shown, ap length nothing)

    states_is : stats.states ≡ state_count (instances_in v.seen ++ found_from (length v.seen.items.items) s (stops_ahead s v))
    states_is = states ∙ ap state_count (sym (append-nil (instances_in v.seen)) ∙ ap (λ (xs : List Instance). instances_in v.seen ++ xs) (sym nothing))

    visited_is : stats.visited ≡ v.visited + length (stops_ahead s v)
    visited_is = omega (arith, visited, ap length over)

-- ---- seen through the value of the walk
pub seen_numbers : (look : Look) (boxes : ℕ → Option Bounds) (a : Sight) (r t : Route) (w : Walking) → walking_of a r ≡ w →
    (IsUnderway (sight_of look boxes a) (walking_of a r) → numbers_of (sight_of look boxes a) (walking_of a t) ≡ numbers_of (sight_of look boxes a) (walking_of a r)) →
    IsUnderway (scene_of look boxes w) w → numbers_of (scene_of look boxes w) (walking_of a t) ≡ numbers_of (scene_of look boxes w) w
seen_numbers look boxes a r t w is h =
    subst (λ (v : Walking). IsUnderway (scene_of look boxes v) v → numbers_of (scene_of look boxes v) (walking_of a t) ≡ numbers_of (scene_of look boxes v) v) is h

pub seen_stats : (look : Look) (boxes : ℕ → Option Bounds) (a : Sight) (r : Route) (w : Walking) (stats : Stats) (last : Bool) → walking_of a r ≡ w →
    (IsUnderway (sight_of look boxes a) (walking_of a r) → last ≡ true → stats ≡ numbers_of (sight_of look boxes a) (walking_of a r)) →
    IsUnderway (scene_of look boxes w) w → last ≡ true → stats ≡ numbers_of (scene_of look boxes w) w
seen_stats look boxes a r w stats last is h =
    subst (λ (v : Walking). IsUnderway (scene_of look boxes v) v → last ≡ true → stats ≡ numbers_of (scene_of look boxes v) v) is h
