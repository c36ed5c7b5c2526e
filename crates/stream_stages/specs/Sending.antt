-- How an instance that waits goes into a piece.
use Rattle.std.specs.Prelude.{ℕ, Bool, true, ◌==◌, List, [], ◌∷◌, length, Option, Some, None}
use Rattle.std.specs.Option.{option_map_or, option_and_then}
use Rattle.pf_model.specs.Graphs.{Look}
use Rattle.pf_model.specs.Kinds.{Surface, surface_of}
use Rattle.draw_list.specs.declared.items.Item.{Item}
use Rattle.draw_list.specs.declared.items.Span.{Span}
use Rattle.draw_list.specs.Items.{with_item}
use Rattle.draw_list.specs.Kept.{kept_span, with_kept}
use Rattle.draw_list.specs.Lists.{Drawables}
use Rattle.cull_walk.specs.Working.{own_pose, joint_below, with_below}
use Rattle.stream_stages.specs.declared.sightings.Sighting.{Sighting}
use Rattle.stream_stages.specs.Routes.{nodes_above}

-- A list, and the joint that was appended last, none where one found no room or a node is not there.
pub record Laid : Type 0 where
  pub joint : Option ℕ
  pub list : Drawables

-- the joints of the coordinate systems among nodes, the outermost first, above a joint
abbrev pub laid : Look → List ℕ → ℕ → Drawables → Laid
laid look [] joint d = record { joint = Some joint; list = d }
laid look (id ∷ ids) joint d =
    option_map_or (λ n.
    option_map_or (λ below. laid look ids below (with_below joint d (own_pose n.kind)))
    (joint_below joint d (own_pose n.kind)) (record { joint = None; list = with_below joint d (own_pose n.kind) }))
    (look id) (record { joint = None; list = d })

-- the item of an instance that waits
abbrev pub item_of : Sighting → Span → ℕ → Item
item_of x span joint = record { state = x.state; place = x.place; shift = x.shift; joint = joint; geom = span; tint = x.tint }

-- A list, and whether an instance is done with: it is there, or it is left out.
pub record Sent : Type 0 where
  pub done : Bool
  pub list : Drawables

abbrev pub with_sent : Sighting → Span → Laid → Drawables
with_sent x span l = option_map_or (λ joint. record l.list { items = with_item (item_of x span joint) l.list.items }) l.joint l.list

abbrev pub sent_span : Look → Sighting → Drawables → Surface → Option Span → Sent
sent_span look x d s None = record { done = length d.items.items == 0; list = d }
sent_span look x d s (Some span) = record { done = true; list = with_sent x span (laid look (nodes_above x) 0 d) }

abbrev pub sent_surface : Look → Sighting → Drawables → Surface → Sent
sent_surface look x d s = sent_span look x (record d { kept = with_kept x.id s.tris d.kept }) s (kept_span x.id s.tris d.kept)

-- The list with an instance that waits. It is not done with where the list has items and no room for its triangles.
abbrev pub sent_to : Look → Sighting → Drawables → Sent
sent_to look x d =
    option_map_or (sent_surface look x d) (option_and_then (λ n. surface_of n.kind) (look x.id)) (record { done = true; list = d })
