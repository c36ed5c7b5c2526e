-- What is sent takes its room, on every scene.
use Rattle.std.proofs.Common.{◌≡◌, ◌∙◌, ℕ, ◌+◌, ◌-◌, ◌≤◌, ◌<◌, List, [], ◌∷◌, ◌++◌, length, Bool, true, false, cond, ◌||◌, Option, Some, None, ap, sym, refl, arith, set, length-append}
use Rattle.std.specs.Prelude.{is_some, ◌==◌, nat_lt}
use Rattle.std.specs.Option.{option_map_or, option_and_then}
use Rattle.std.proofs.lemmas.Bool.Decides.{nat_tests}
use Rattle.pf_model.specs.declared.geometry.Tri.{Tri}
use Rattle.pf_model.specs.declared.nodes.Node.{Node}
use Rattle.pf_model.specs.Graphs.{Look}
use Rattle.pf_model.specs.Kinds.{Surface, surface_of}
use Rattle.draw_list.specs.declared.items.Span.{Span}
use Rattle.draw_list.specs.declared.items.Item.{Item}
use Rattle.draw_list.specs.Items.{ItemList, with_item}
use Rattle.draw_list.specs.Kept.{KeptTris, span_at, next_span, kept_span, with_kept}
use Rattle.draw_list.specs.Lists.{Drawables}
use Rattle.cull_walk.specs.Working.{own_pose, joint_below, with_below}
use Rattle.stream_stages.specs.declared.sightings.Sighting.{Sighting}
use Rattle.stream_stages.specs.Routes.{nodes_above}
use Rattle.stream_stages.specs.Sending.{Laid, laid, item_of, sent_span, sent_surface, sent_to}
use Rattle.stream_stages.specs.Filled.{HasSameRoom}
use Rattle.stream_stages.proofs.Lowering.{HasMoreJoints, more_itself, more_both, IsBelow, below_is}

-- the list with at most one item more, in the same room
pub record TakesRoom (d e : Drawables) : Type 0 where
  pub room : HasSameRoom d e
  pub first : 0 < length e.joints.lists
  pub more : length e.items.items ≤ length d.items.items + 1

some_left : (n : ℕ) → (n == 0) ≡ false → 0 < n
some_left n e = grind (arith, nat_tests)

fits : (m n : ℕ) → nat_lt m n ≡ false → n ≤ m
fits m n e = grind (arith, nat_tests)

item_room : (i : Item) (d : ItemList) → ((with_item i d).spare + length (with_item i d).items ≡ d.spare + length d.items) × (length (with_item i d).items ≤ length d.items + 1)
item_room i d = by (d.spare == 0) refl
  where
    more : ItemList
    more = record { items = d.items ++ i ∷ []; spare = d.spare - 1 }

    by : (b : Bool) → (d.spare == 0) ≡ b → ((cond b d more).spare + length (cond b d more).items ≡ d.spare + length d.items) × (length (cond b d more).items ≤ length d.items + 1)
    by true e = (refl, omega arith)
    by false e = let some : 0 < d.spare = some_left d.spare e in (omega (arith, some, length-append d.items (i ∷ [])), omega (arith, length-append d.items (i ∷ [])))

kept_room : (id : ℕ) (ts : List Tri) (d : KeptTris) → (with_kept id ts d).spare + length (with_kept id ts d).tris ≡ d.spare + length d.tris
kept_room id ts d = by (is_some (span_at d id)) (length ts == 0) (nat_lt d.spare (length ts)) refl
  where
    more : KeptTris
    more = record { tris = d.tris ++ ts; spans = set d.spans id (Some (next_span ts d)); spare = d.spare - length ts }

    by : (a b c : Bool) → nat_lt d.spare (length ts) ≡ c → (cond (a || b || c) d more).spare + length (cond (a || b || c) d more).tris ≡ d.spare + length d.tris
    by true b c e = refl
    by false true c e = refl
    by false false true e = refl
    by false false false e = let room : length ts ≤ d.spare = fits d.spare (length ts) e in omega (arith, room, length-append d.tris ts)

-- joints that are laid
abbrev laid_below : Look → List ℕ → Option ℕ → Drawables → Laid
laid_below look ids o d = option_map_or (λ below. laid look ids below d) o (record { joint = None; list = d })

abbrev LaysRoom : Look → List ℕ → Type 0
LaysRoom look ids = (joint : ℕ) (d : Drawables) → joint < length d.joints.lists → HasMoreJoints d (laid look ids joint d).list

lays_next : (look : Look) (id : ℕ) (ids : List ℕ) → LaysRoom look ids → LaysRoom look (id ∷ ids)
lays_next look id ids all joint d there = by (look id)
  where
    node : (n : Node) (o : Option ℕ) → joint_below joint d (own_pose n.kind) ≡ o → HasMoreJoints d (laid_below look ids o (with_below joint d (own_pose n.kind))).list
    node n None e = (below_is d joint (own_pose n.kind) there).more
    node n (Some j) e =
        let below : IsBelow d (with_below joint d (own_pose n.kind)) (joint_below joint d (own_pose n.kind)) = below_is d joint (own_pose n.kind) there in
        more_both d (with_below joint d (own_pose n.kind)) (laid look ids j (with_below joint d (own_pose n.kind))).list below.more
        (all j (with_below joint d (own_pose n.kind)) (below.there j (sym e)))

    by : (m : Option Node) → HasMoreJoints d (option_map_or (λ n. laid_below look ids (joint_below joint d (own_pose n.kind)) (with_below joint d (own_pose n.kind))) m (record { joint = None; list = d })).list
    by None = more_itself d
    by (Some n) = node n (joint_below joint d (own_pose n.kind)) refl

laid_room : (look : Look) (ids : List ℕ) → LaysRoom look ids
laid_room look [] joint d there = more_itself d
laid_room look (id ∷ ids) joint d there = lays_next look id ids (laid_room look ids) joint d there

-- ---- what is sent
itself : (d : Drawables) → 0 < length d.joints.lists → TakesRoom d d
itself d there = record { room = record { items = refl; joints = refl; tris = refl }; first = there; more = omega arith }

pub sent_room : (look : Look) (x : Sighting) (d : Drawables) → 0 < length d.joints.lists → TakesRoom d (sent_to look x d).list
sent_room look x d there = by (option_and_then (λ n. surface_of n.kind) (look x.id))
  where
    laid_one : (s : Surface) (span : Span) (l : Laid) → HasMoreJoints (record d { kept = with_kept x.id s.tris d.kept }) l.list → (o : Option ℕ) → l.joint ≡ o →
        TakesRoom d (option_map_or (λ joint. record { joints = l.list.joints; items = with_item (item_of x span joint) l.list.items; kept = l.list.kept }) o l.list)
    laid_one s span l more None e = record {
      room = record {
        items = ap (λ (i : ItemList). i.spare + length i.items) more.items;
        joints = more.room;
        tris = ap (λ (k : KeptTris). k.spare + length k.tris) more.kept ∙ kept_room x.id s.tris d.kept;
      };
      first = omega (arith, there, more.longer);
      more = omega (arith, ap (λ (i : ItemList). length i.items) more.items);
    }
    laid_one s span l more (Some joint) e = record {
      room = record {
        items = (item_room (item_of x span joint) l.list.items).0 ∙ ap (λ (i : ItemList). i.spare + length i.items) more.items;
        joints = more.room;
        tris = ap (λ (k : KeptTris). k.spare + length k.tris) more.kept ∙ kept_room x.id s.tris d.kept;
      };
      first = omega (arith, there, more.longer);
      more = omega (arith, (item_room (item_of x span joint) l.list.items).1, ap (λ (i : ItemList). length i.items) more.items);
    }

    span_room : (s : Surface) (o : Option Span) → TakesRoom d (sent_span look x (record d { kept = with_kept x.id s.tris d.kept }) s o).list
    span_room s None = record {
      room = record { items = refl; joints = refl; tris = kept_room x.id s.tris d.kept };
      first = there;
      more = omega arith;
    }
    span_room s (Some span) =
        laid_one s span (laid look (nodes_above x) 0 (record d { kept = with_kept x.id s.tris d.kept })) (laid_room look (nodes_above x) 0 (record d { kept = with_kept x.id s.tris d.kept }) there)
        (laid look (nodes_above x) 0 (record d { kept = with_kept x.id s.tris d.kept })).joint refl

    by : (o : Option Surface) → TakesRoom d (option_map_or (sent_surface look x d) o (record { done = true; list = d })).list
    by None = itself d there
    by (Some s) = span_room s (kept_span x.id s.tris d.kept)
