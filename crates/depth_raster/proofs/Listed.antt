-- Items of a draw list, and their triangles.
use Rattle.std.proofs.Common.{◌≡◌, ℕ, zero, suc, ◌+◌, ◌≤◌, Bool, true, false, cond, List, [], ◌∷◌, length, take, drop, Option, Some, None, option_map, refl, ap, sym, ◌∙◌, arith}
use Rattle.std.specs.Prelude.{option_and_then, nat_le}
use Rattle.std.specs.List.{slice_get}
use Rattle.std.proofs.lemmas.Option.{slice_get-map}
use Rattle.pf_model.specs.declared.geometry.Tri.{Tri}
use Rattle.draw_list.specs.declared.items.Item.{Item}
use Rattle.draw_list.specs.declared.items.Span.{Span}
use Rattle.draw_list.specs.Items.{instance_of_item, label_of, tris_at}
use Rattle.draw_list.specs.Lists.{Drawables, instances_in}
use Rattle.depth_raster.specs.Panes.{pane_if_glass, pane_at}

pub past_end : {X : Type 0} (xs : List X) (i : ℕ) → slice_get xs i ≡ None → length xs ≤ i
past_end [] i h = omega arith
past_end (x ∷ xs) zero h = cc
past_end (x ∷ xs) (suc i) h = let rest : length xs ≤ i = past_end xs i h in omega arith

take_le : {X : Type 0} (n : ℕ) (xs : List X) → length (take n xs) ≤ n
take_le zero xs = omega arith
take_le (suc n) [] = omega arith
take_le (suc n) (x ∷ xs) = let rest : length (take n xs) ≤ n = take_le n xs in omega arith

-- a span has no more triangles than its length
pub few_tris : (tris : List Tri) (s : Span) → length (tris_at tris s) ≤ s.len
few_tris tris s = by (nat_le (s.from + s.len) (length tris))
  where
    by : (t : Bool) → length (cond t (take s.len (drop s.from tris)) []) ≤ s.len
    by true = take_le s.len (drop s.from tris)
    by false = omega arith

pub item_listed : (d : Drawables) (n : ℕ) (i : Item) → Some i ≡ slice_get d.items.items n → slice_get (instances_in d) n ≡ Some (instance_of_item d.joints.lists d.kept.tris i)
item_listed d n i is =
    slice_get-map (instance_of_item d.joints.lists d.kept.tris) d.items.items n
    ∙ ap (option_map (instance_of_item d.joints.lists d.kept.tris)) (sym is)

pub item_absent : (d : Drawables) (n : ℕ) → None ≡ slice_get d.items.items n → slice_get (instances_in d) n ≡ None
item_absent d n is =
    slice_get-map (instance_of_item d.joints.lists d.kept.tris) d.items.items n
    ∙ ap (option_map (instance_of_item d.joints.lists d.kept.tris)) (sym is)

pub pane_listed : (d : Drawables) (n : ℕ) (o : Option Item) → o ≡ slice_get d.items.items n → option_and_then (λ i. pane_if_glass n (label_of i)) o ≡ pane_at (instances_in d) n
unfolding pane_at
pane_listed d n o is =
    by o
    ∙ ap (λ p. option_and_then (pane_if_glass n) (option_map (instance_of_item d.joints.lists d.kept.tris) p)) is
    ∙ ap (option_and_then (pane_if_glass n)) (sym (slice_get-map (instance_of_item d.joints.lists d.kept.tris) d.items.items n))
  where
    by : (p : Option Item) → option_and_then (λ i. pane_if_glass n (label_of i)) p ≡ option_and_then (pane_if_glass n) (option_map (instance_of_item d.joints.lists d.kept.tris) p)
    by None = refl
    by (Some i) = refl

pub empty_from_length : {X : Type 0} (xs : List X) → length xs ≤ 0 → xs ≡ []
empty_from_length [] h = refl
empty_from_length (x ∷ xs) h = absurd (omega (arith, h))
