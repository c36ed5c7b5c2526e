-- The cull as a function of its list: what it does on every scene, also where room is missing.
use Rattle.std.specs.Prelude.{ℕ, zero, suc, ◌+◌, ◌-◌, ◌*◌, min, [], ◌∷◌, replicate, ◌==◌, if◌then◌else◌, List, fold, length, Option, Some, None, option_map}
use Rattle.std.specs.Option.{option_map_or}
use Rattle.fx_math.specs.Plain.{Bounds}
use Rattle.fx_math.specs.declared.lenses.Lens.{Lens}
use Rattle.pf_bounds.specs.Outside.{is_outside}
use Rattle.pf_model.specs.declared.nodes.Kind.{Kind}
use Rattle.pf_model.specs.declared.nodes.Kind.TheVariants.{Scs, Dcs}
use Rattle.pf_model.specs.declared.nodes.Node.{Node}
use Rattle.pf_model.specs.declared.poses.Pose.{Pose}
use Rattle.pf_model.specs.declared.poses.Pose.TheVariants as pose
use Rattle.pf_model.specs.Graphs.{Look}
use Rattle.pf_model.specs.Kinds.{Surface, surface_of, pose_steps, decal}
use Rattle.pf_model.specs.Boxes.{squared_distance, eye_box}
use Rattle.pf_model.specs.Angles.{Viewpoint}
use Rattle.pf_model.specs.Walks.{shown_children, chosen_in, steps_of_view}
use Rattle.draw_list.specs.declared.items.Item.{Item}
use Rattle.draw_list.specs.declared.items.Span.{Span}
use Rattle.draw_list.specs.declared.items.Tint.{Tint}
use Rattle.draw_list.specs.Joints.{steps_at, with_joint}
use Rattle.draw_list.specs.Items.{with_item}
use Rattle.draw_list.specs.Kept.{kept_span, with_kept}
use Rattle.draw_list.specs.Lists.{Drawables}

-- A scene with its boxes, seen through a lens at a time.
pub record Scene : Type 0 where
  pub look : Look
  pub boxes : ℕ → Option Bounds
  pub lens : Lens
  pub time : ℕ

-- The list, the steps counted, and the number of the nodes visited.
pub record Work : Type 0 where
  pub list : Drawables
  pub tests : ℕ
  pub visited : ℕ

-- A node on the way: its id, the joint of the coordinates above it, and how much nearer it is drawn.
pub record At : Type 0 where
  pub id : ℕ
  pub joint : ℕ
  pub shift : ℕ

-- the number after n, which stands still at its greatest value
abbrev pub counted : ℕ → ℕ
counted n = min (n + 1) 4294967295

abbrev pub tested : Work → Work
tested w = record { list = w.list; tests = w.tests + 1; visited = counted w.visited }

-- a box that is not outside
abbrev pub in_frustum : Lens → Option Bounds → Option Bounds
in_frustum lens None = None
in_frustum lens (Some b) = if is_outside lens b then None else Some b

abbrev pub box_in_sight : Scene → Drawables → At → Option Bounds
box_in_sight s d a = in_frustum s.lens (eye_box s.boxes a.id (steps_at d.joints.lists a.joint))

abbrev pub tint_at : Bounds → ℕ → Tint
tint_at around alpha = record { alpha = alpha; far = squared_distance around }

-- the item of a geode with this eye box
abbrev pub item_at : At → Bounds → ℕ → Surface → Span → Item
item_at a around place s span =
    record {
      state = s.state;
      place = place;
      shift = a.shift;
      joint = a.joint;
      geom = span;
      tint = option_map (tint_at around) s.tint;
    }

-- the list with a further item and its triangles, where they have room
abbrev pub with_surface : At → Bounds → Surface → Drawables → Option Span → Drawables
with_surface a around s d None = d
with_surface a around s d (Some span) =
    record d {
      items = with_item (item_at a around (length d.items.items) s span) d.items;
      kept = with_kept a.id s.tris d.kept;
    }

abbrev pub with_drawn : At → Bounds → Drawables → Option Surface → Drawables
with_drawn a around d None = d
with_drawn a around d (Some s) = with_surface a around s d (kept_span a.id s.tris d.kept)

-- the pose of a coordinate system
abbrev pub own_pose : Kind → Option Pose
own_pose (Scs m) = Some (pose.Matrix m)
own_pose (Dcs p) = Some p
own_pose _ = None

-- the joint of a node's children, none where it has no room
abbrev pub joint_below : ℕ → Drawables → Option Pose → Option ℕ
joint_below joint d None = Some joint
joint_below joint d (Some p) = if d.joints.spare == 0 then None else Some (length d.joints.lists)

abbrev pub with_below : ℕ → Drawables → Option Pose → Drawables
with_below joint d None = d
with_below joint d (Some p) = record d { joints = with_joint joint (pose_steps p) d.joints }

abbrev pub child_at : At → Node → ℕ → ℕ × ℕ → At
child_at a n joint c = record { id = c.1; joint = joint; shift = a.shift + decal n.kind * c.0 }

abbrev pub over : (Work → At → Work) → Work → At → Node → ℕ → List (ℕ × ℕ) → Work
over visit w a n joint cs = fold (λ v c. visit v (child_at a n joint c)) w cs

-- the children of a node, where their joint is there
abbrev pub below : (Work → At → Work) → Work → At → Node → List (ℕ × ℕ) → Option ℕ → Work
below visit w a n cs None = w
below visit w a n cs (Some joint) = over visit w a n joint cs

-- a node that is in sight: what it draws, and its chosen children
abbrev pub entered : (Work → At → Work) → Scene → Work → At → Bounds → Node → Work
entered visit s w a around n =
    let d = with_drawn a around w.list (surface_of n.kind) in
    below visit (record w { list = with_below a.joint d (own_pose n.kind) }) a n
    (shown_children (chosen_in s.time n (steps_at w.list.joints.lists a.joint)) n.children)
    (joint_below a.joint d (own_pose n.kind))

-- a node with its eye box, where it is in sight
abbrev pub met : (Work → At → Work) → Scene → Work → At → Option Bounds → Work
met visit s w a None = w
met visit s w a (Some around) = option_map_or (entered visit s w a around) (s.look a.id) w

-- the cull of a node and what is below it, with at most so many levels
unfoldable pub culled : ℕ → Scene → Work → At → Work
culled zero s w a = w
culled (suc n) s w a = met (culled n s) s (tested w) a (box_in_sight s w.list a)

-- the list with nothing in it but the view as its joint 0; all room is free
abbrev pub emptied : Viewpoint → Drawables → Drawables
emptied view d =
    record {
      joints = record { lists = steps_of_view view ∷ []; spare = d.joints.spare + length d.joints.lists - 1 };
      items = record { items = []; spare = d.items.spare + length d.items.items };
      kept = record { tris = []; spans = replicate (length d.kept.spans) None; spare = d.kept.spare + length d.kept.tris };
    }

-- the root of the scene, below the view
abbrev pub root : At
root = record { id = 0; joint = 0; shift = 0 }

-- the cull of a whole scene 32 nodes deep, from an emptied list on
abbrev pub walked : Scene → Viewpoint → Drawables → ℕ → Work
walked s view d tests = culled 32 s (record { list = emptied view d; tests = tests; visited = 0 }) root
