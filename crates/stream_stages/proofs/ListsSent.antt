-- The list of one channel, sent piece by piece.
use Rattle.std.proofs.Common.{◌≡◌, ℕ, ◌<◌, ◌≤◌, Bool, true, false, not, ◌&&◌, List, [], ◌∷◌, ◌++◌, map, length, Option, sym, ap, ◌∙◌, subst, append_assoc, arith, inl, inr}
use Rattle.std.proofs.lemmas.List.{append-nil, length-map, map-append}
use Rattle.std.proofs.lemmas.Grind.{flat_map-append}
use Rattle.std.specs.List.{AllByRecursion}
use Rattle.fx_math.specs.Plain.{Bounds}
use Rattle.fx_math.specs.declared.lenses.Lens.{Lens}
use Rattle.pf_model.specs.Angles.{Viewpoint}
use Rattle.pf_model.specs.Graphs.{Look, node_at}
use Rattle.pf_model.specs.Walks.{Instance}
use Rattle.draw_list.specs.Lists.{instances_in}
use Rattle.draw_list.specs.Items.{instance_of_item}
use Rattle.draw_list.specs.Shown.{shown, stats_of}
use Rattle.cull_walk.specs.Premises.{unnamed}
use Rattle.cull_walk.specs.Working.{Scene}
use Rattle.multibuffer.specs.StageCopies.{CopyState, boxes_of}
use Rattle.stream_stages.specs.Cuts.{Cut, parts_of}
use Rattle.stream_stages.specs.Pieces.{PieceParts, joined, is_ended, in_sending_order, AreSentOf}
use Rattle.stream_stages.specs.Routes.{Walking, to_come, scene_of}
use Rattle.stream_stages.specs.Underway.{IsStreamable, IsUnderway, numbers_of}
use Rattle.stream_stages.specs.Filled.{IsFilled, IsOneWalk}
use Rattle.stream_stages.specs.CullParts.{HaveItems, all_to_send, scene_at, IsSentTo, IsListOf}
use Rattle.stream_stages.specs.CullSteps.{FillsOne}
use Rattle.stream_stages.proofs.InTurn.{last_is}
use Rattle.stream_stages.proofs.FullPieces.{full_more, full_here}

all_push : {X : Type 0} (P : X → Type 0) (xs : List X) (x : X) → AllByRecursion P xs → P x → AllByRecursion P (xs ++ x ∷ [])
all_push P [] x all here = (here, tt)
all_push P (y ∷ xs) x all here = (all.0, all_push P xs x all.1 here)

-- the piece behind some without the mark ends them
ended_by : (ps : List Cut) (p : Cut) → AllByRecursion (λ (q : Cut). q.last ≡ false) ps → p.last ≡ true → is_ended (map parts_of (ps ++ p ∷ [])) ≡ true
ended_by [] p all mark = mark
ended_by (q ∷ []) p all mark = ap (λ (t : Bool). not t && p.last) all.0 ∙ mark
ended_by (q ∷ r ∷ ps) p all mark =
    ap (λ (t : Bool). not t && is_ended (map parts_of (r ∷ ps ++ p ∷ []))) all.0 ∙ ended_by (r ∷ ps) p all.1 mark

-- one piece more takes its items from the front of what is to come
one_more : (all rest more : List Instance) (ps : List Cut) (p : Cut) → AreSentOf all (map parts_of ps) rest →
    rest ≡ instances_in p.list ++ more → AreSentOf all (map parts_of (ps ++ p ∷ [])) more
one_more all rest more ps p sent next =
    let qs = map parts_of ps in
    let q = parts_of p in
    sent
    ∙ ap (λ (xs : List Instance). joined qs ++ xs) next
    ∙ sym (append_assoc (joined qs) q.items more)
    ∙ ap (λ (xs : List Instance). (joined qs ++ xs) ++ more) (sym (append-nil q.items))
    ∙ ap (λ (xs : List Instance). xs ++ more) (sym (flat_map-append (λ (o : PieceParts). o.items) qs (q ∷ [])))
    ∙ ap (λ (os : List PieceParts). joined os ++ more) (sym (map-append parts_of ps (p ∷ [])))

abbrev AreFew : (limit : ℕ) → List PieceParts → Type 0
AreFew limit qs = AllByRecursion (λ (q : PieceParts). length q.items ≤ limit) qs

few_more : (limit : ℕ) (ps : List Cut) (p : Cut) → AreFew limit (map parts_of ps) → length p.list.items.items ≤ limit →
    AreFew limit (map parts_of (ps ++ p ∷ []))
few_more limit ps p few here =
    subst (AreFew limit) (sym (map-append parts_of ps (p ∷ [])))
    (all_push (λ (q : PieceParts). length q.items ≤ limit) (map parts_of ps) (parts_of p) few
    (subst (λ (n : ℕ). n ≤ limit) (sym (length-map p.list.items.items (instance_of_item p.list.joints.lists p.list.kept.tris))) here))

some_here : (copy : CopyState) (before after : Walking) (old p : Cut) → FillsOne copy before after old p →
    IsUnderway (scene_at copy before) before → p.last ≡ false → 0 < length (instances_in p.list)
some_here copy before after old p fills underway mark =
    subst (λ (n : ℕ). 0 < n) (sym (length-map p.list.items.items (instance_of_item p.list.joints.lists p.list.kept.tris)))
    (by ((fills.next underway).full mark))
  where
    by : IsFilled (node_at copy.nodes) p.limit p.list after → 0 < length p.list.items.items
    by (inl all) = let least = fills.least in omega (arith, all, least)
    by (inr waits) = waits.0

some_more : (copy : CopyState) (before after : Walking) (ps : List Cut) (old p : Cut) → FillsOne copy before after old p →
    IsUnderway (scene_at copy before) before → HaveItems (map parts_of ps) → HaveItems (map parts_of (ps ++ p ∷ []))
some_more copy before after ps old p fills underway some =
    subst HaveItems (sym (map-append parts_of ps (p ∷ [])))
    (all_push (λ (q : PieceParts). q.last ≡ false → 0 < length q.items) (map parts_of ps) (parts_of p) some
    (some_here copy before after old p fills underway))

-- The walk is begun.

-- What a walk has of its start.
pub record StartsAt (time : ℕ) (v : Viewpoint) (lens : Lens) (w : Walking) : Type 0 where
  pub underway : (look : Look) (boxes : ℕ → Option Bounds) → IsStreamable look boxes time → IsUnderway (scene_of look boxes w) w
  pub whole : (look : Look) (boxes : ℕ → Option Bounds) → IsStreamable look boxes time →
      to_come (scene_of look boxes w) w ≡ map unnamed (in_sending_order (shown look time v lens))
  pub numbers : (look : Look) (boxes : ℕ → Option Bounds) → IsStreamable look boxes time →
      numbers_of (scene_of look boxes w) w ≡ stats_of look time v lens

pub none_sent : (lens : Lens) (limit : ℕ) (copy : CopyState) (time : ℕ) (v : Viewpoint) (w : Walking) → StartsAt time v lens w →
    IsStreamable (node_at copy.nodes) (boxes_of copy) time → IsSentTo lens limit copy time v w []
none_sent lens limit copy time v w starts can =
    record {
      underway = starts.underway (node_at copy.nodes) (boxes_of copy) can;
      few = tt;
      some = tt;
      full = tt;
      marks = tt;
      sent = sym (starts.whole (node_at copy.nodes) (boxes_of copy) can);
      numbers = starts.numbers (node_at copy.nodes) (boxes_of copy) can;
    }

-- A piece is filled.

same_scene : (copy : CopyState) (before after : Walking) → IsOneWalk before after → scene_at copy after ≡ scene_at copy before
same_scene copy before after one =
    λ i. record { look = node_at copy.nodes; boxes = boxes_of copy; lens = one.lens i; time = one.time i }

few_here : (limit : ℕ) (copy : CopyState) (before after : Walking) (old p : Cut) → old.limit ≡ limit → FillsOne copy before after old p →
    length p.list.items.items ≤ limit
few_here limit copy before after old p same fills =
    subst (λ (n : ℕ). length p.list.items.items ≤ n) (fills.limit ∙ same) fills.few

-- it is not the last one
pub one_sent : (lens : Lens) (limit : ℕ) (copy : CopyState) (time : ℕ) (v : Viewpoint) (before after : Walking) (ps : List Cut) (old p : Cut) →
    old.limit ≡ limit → FillsOne copy before after old p → p.last ≡ false → IsSentTo lens limit copy time v before ps →
    IsSentTo lens limit copy time v after (ps ++ p ∷ [])
one_sent lens limit copy time v before after ps old p same fills mark so_far =
    let next = fills.next so_far.underway in
    let scene = sym (same_scene copy before after fills.walk) in
    let all = all_to_send (node_at copy.nodes) time v lens in
    record {
      underway = subst (λ (s : Scene). IsUnderway s after) scene next.underway;
      few = few_more limit ps p so_far.few (few_here limit copy before after old p same fills);
      some = some_more copy before after ps old p fills so_far.underway so_far.some;
      full =
          full_more limit all (to_come (scene_at copy before) before) ps p so_far.sent so_far.full
          (full_here limit copy before after old p same fills so_far.underway);
      marks = all_push (λ (q : Cut). q.last ≡ false) ps p so_far.marks mark;
      sent =
          subst (λ (s : Scene). AreSentOf all (map parts_of (ps ++ p ∷ [])) (to_come s after)) scene
          (one_more all (to_come (scene_at copy before) before) (to_come (scene_at copy before) after)
          ps p so_far.sent next.sent);
      numbers = subst (λ (s : Scene). numbers_of s after ≡ stats_of (node_at copy.nodes) time v lens) scene (next.numbers ∙ so_far.numbers);
    }

-- it is the last one
pub list_sent : (lens : Lens) (limit : ℕ) (copy : CopyState) (time : ℕ) (v : Viewpoint) (before after : Walking) (ps : List Cut) (old p : Cut) →
    old.limit ≡ limit → FillsOne copy before after old p → p.last ≡ true → IsSentTo lens limit copy time v before ps →
    IsListOf lens limit (node_at copy.nodes) time v (ps ++ p ∷ [])
list_sent lens limit copy time v before after ps old p same fills mark so_far =
    let next = fills.next so_far.underway in
    let qs = map parts_of (ps ++ p ∷ []) in
    let all = all_to_send (node_at copy.nodes) time v lens in
    let sent : AreSentOf all qs [] =
    one_more all (to_come (scene_at copy before) before) [] ps p so_far.sent
    (next.sent ∙ ap (λ (xs : List Instance). instances_in p.list ++ xs) (next.last mark)) in
    record {
      pieces = record {
        few = few_more limit ps p so_far.few (few_here limit copy before after old p same fills);
        ended = ended_by ps p so_far.marks mark;
        items = sym (sent ∙ append-nil (joined qs));
      };
      some = some_more copy before after ps old p fills so_far.underway so_far.some;
      full =
          full_more limit all (to_come (scene_at copy before) before) ps p so_far.sent so_far.full
          (full_here limit copy before after old p same fills so_far.underway);
      numbers = last_is ps p ∙ next.stats mark ∙ so_far.numbers;
    }
