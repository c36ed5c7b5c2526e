-- What a list keeps while it is filled, and how parts of a filling go together.
use Rattle.std.proofs.Common.{◌≡◌, ◌∙◌, ℕ, suc, ◌+◌, ◌≤◌, ◌<◌, List, [], ◌∷◌, ◌++◌, length, Some, ap, sym, refl, subst, arith, append_assoc, length-append}
use Rattle.std.specs.Prelude.{map}
use Rattle.std.specs.List.{AllByRecursion, enumerate_from}
use Rattle.std.proofs.lemmas.List.{map-append, append-nil, length-map}
use Rattle.pf_model.specs.declared.geometry.Tri.{Tri}
use Rattle.pf_model.specs.declared.nodes.Node.{Node}
use Rattle.pf_model.specs.Graphs.{Look}
use Rattle.pf_model.specs.Kinds.{Surface, surface_of}
use Rattle.pf_model.specs.Walks.{Instance}
use Rattle.draw_list.specs.declared.items.Span.{Span}
use Rattle.draw_list.specs.declared.items.Item.{Item}
use Rattle.draw_list.specs.Joints.{steps_at}
use Rattle.draw_list.specs.Items.{tris_at, instance_of_item}
use Rattle.draw_list.specs.Kept.{span_at}
use Rattle.draw_list.specs.Lists.{Drawables}
use Rattle.tri_cover.specs.Labels.{placed}
use Rattle.cull_walk.proofs.Unkept.{unkept}

-- ---- what a list keeps
pub record IsSpanOf (tris : List Tri) (span : Span) (ts : List Tri) : Type 0 where
  pub within : span.from + span.len ≤ length tris
  pub are : tris_at tris span ≡ ts

pub record IsThere (d : Drawables) (i : Item) : Type 0 where
  pub joint : i.joint < length d.joints.lists
  pub geom : i.geom.from + i.geom.len ≤ length d.kept.tris

abbrev pub AreThere : Drawables → List Item → Type 0
AreThere d items = AllByRecursion (IsThere d) items

pub record IsSound (look : Look) (d : Drawables) : Type 0 where
  pub kept : (id : ℕ) (n : Node) (s : Surface) (span : Span) → look id ≡ Some n → surface_of n.kind ≡ Some s → span_at d.kept id ≡ Some span → IsSpanOf d.kept.tris span s.tris
  pub items : AreThere d d.items.items
  pub wide : 0 < d.kept.spare → length d.kept.spans ≡ 65536
  pub room : unkept look d.kept ≤ d.kept.spare

-- ---- what stays
pub record Extends (d e : Drawables) : Type 0 where
  pub lists : (j : ℕ) → j < length d.joints.lists → steps_at e.joints.lists j ≡ steps_at d.joints.lists j
  pub more_lists : length d.joints.lists ≤ length e.joints.lists
  pub tris : (span : Span) → span.from + span.len ≤ length d.kept.tris → tris_at e.kept.tris span ≡ tris_at d.kept.tris span
  pub more_tris : length d.kept.tris ≤ length e.kept.tris

pub extends_itself : (d : Drawables) → Extends d d
extends_itself d = record { lists = λ j l. refl; more_lists = omega arith; tris = λ span l. refl; more_tris = omega arith }

pub extends_trans : (d e f : Drawables) → Extends d e → Extends e f → Extends d f
extends_trans d e f h k = record {
  lists = λ j l. k.lists j (omega (arith, l, h.more_lists)) ∙ h.lists j l;
  more_lists = omega (arith, h.more_lists, k.more_lists);
  tris = λ span l. k.tris span (omega (arith, l, h.more_tris)) ∙ h.tris span l;
  more_tris = omega (arith, h.more_tris, k.more_tris);
}

pub still_there : (d e : Drawables) → Extends d e → (items : List Item) → AreThere d items → AreThere e items
still_there d e h [] a = tt
still_there d e h (i ∷ is) a =
    (record { joint = omega (arith, a.0.joint, h.more_lists); geom = omega (arith, a.0.geom, h.more_tris) }, still_there d e h is a.1)

abbrev pub drawn_in : Drawables → List Item → List Instance
drawn_in d items = map (instance_of_item d.joints.lists d.kept.tris) items

pub drawn_alike : (d e : Drawables) → Extends d e → (items : List Item) → AreThere d items → drawn_in e items ≡ drawn_in d items
drawn_alike d e h [] a = refl
drawn_alike d e h (i ∷ is) a = λ k. record (instance_of_item d.joints.lists d.kept.tris i) { steps = h.lists i.joint a.0.joint k; tris = h.tris i.geom a.0.geom k } ∷ drawn_alike d e h is a.1 k

pub there_both : (d : Drawables) (xs ys : List Item) → AreThere d xs → AreThere d ys → AreThere d (xs ++ ys)
there_both d [] ys a b = b
there_both d (x ∷ xs) ys a b = (a.0, there_both d xs ys a.1 b)

there_second : (d : Drawables) (xs ys : List Item) → AreThere d (xs ++ ys) → AreThere d ys
there_second d [] ys a = a
there_second d (x ∷ xs) ys a = there_second d xs ys a.1

-- ---- numbers
abbrev pub numbered : ℕ → List Instance → List Instance
numbered n xs = map placed (enumerate_from n xs)

numbered-append : (n : ℕ) (xs ys : List Instance) → numbered n (xs ++ ys) ≡ numbered n xs ++ numbered (n + length xs) ys
numbered-append n [] ys = ap (λ (k : ℕ). numbered k ys) (omega arith)
numbered-append n (x ∷ xs) ys =
    ap (λ (zs : List Instance). placed (n, x) ∷ zs)
    (numbered-append (n + 1) xs ys ∙ ap (λ (k : ℕ). numbered (n + 1) xs ++ numbered k ys) (omega arith))

length_numbered : (n : ℕ) (xs : List Instance) → length (numbered n xs) ≡ length xs
length_numbered n [] = refl
length_numbered n (x ∷ xs) = ap (λ (k : ℕ). suc k) (length_numbered (n + 1) xs)

-- ---- a filling: the instances that it adds, and how much room it takes at most, of items and of joints
pub record Adds (look : Look) (d e : Drawables) (xs : List Instance) (size deep : ℕ) : Type 0 where
  pub extends : Extends d e
  pub sound : IsSound look e
  pub more : List Item
  pub items_are : e.items.items ≡ d.items.items ++ more
  pub drawn : drawn_in e more ≡ numbered (length d.items.items) xs
  pub item_room : d.items.spare ≤ e.items.spare + size
  pub joint_room : d.joints.spare ≤ e.joints.spare + deep

pub adds_none : (look : Look) (d : Drawables) (size deep : ℕ) → IsSound look d → Adds look d d [] size deep
adds_none look d size deep sound = record {
  extends = extends_itself d;
  sound = sound;
  more = [];
  items_are = sym (append-nil d.items.items);
  drawn = refl;
  item_room = omega arith;
  joint_room = omega arith;
}

pub adds_trans : (look : Look) (d e f : Drawables) (xs ys : List Instance) (m i n j : ℕ) → Adds look d e xs m i → Adds look e f ys n j → Adds look d f (xs ++ ys) (m + n) (i + j)
adds_trans look d e f xs ys m i n j a b = record {
  extends = extends_trans d e f a.extends b.extends;
  sound = b.sound;
  more = a.more ++ b.more;
  items_are = b.items_are ∙ ap (λ (is : List Item). is ++ b.more) a.items_are ∙ append_assoc d.items.items a.more b.more;
  drawn =
      map-append (instance_of_item f.joints.lists f.kept.tris) a.more b.more
      ∙ ap (λ (zs : List Instance). zs ++ drawn_in f b.more) (drawn_alike e f b.extends a.more there ∙ a.drawn)
      ∙ ap (λ (zs : List Instance). numbered (length d.items.items) xs ++ zs) (b.drawn ∙ ap (λ (k : ℕ). numbered k ys) long)
      ∙ sym (numbered-append (length d.items.items) xs ys);
  item_room = omega (arith, a.item_room, b.item_room);
  joint_room = omega (arith, a.joint_room, b.joint_room);
}
  where
    there : AreThere e a.more
    there = there_second e d.items.items a.more (subst (AreThere e) a.items_are a.sound.items)

    counted : length a.more ≡ length xs
    counted = sym (length-map a.more (instance_of_item e.joints.lists e.kept.tris)) ∙ ap length a.drawn ∙ length_numbered (length d.items.items) xs

    long : length e.items.items ≡ length d.items.items + length xs
    long = ap length a.items_are ∙ length-append d.items.items a.more ∙ ap (λ (k : ℕ). length d.items.items + k) counted

pub adds_wider : (look : Look) (d e : Drawables) (xs : List Instance) (m i n j : ℕ) → m ≤ n → i ≤ j → Adds look d e xs m i → Adds look d e xs n j
adds_wider look d e xs m i n j l k a = record {
  extends = a.extends;
  sound = a.sound;
  more = a.more;
  items_are = a.items_are;
  drawn = a.drawn;
  item_room = omega (arith, a.item_room, l);
  joint_room = omega (arith, a.joint_room, k);
}
