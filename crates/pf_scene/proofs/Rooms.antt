-- Room in draw lists.
use Rattle.std.proofs.Common.{◌≡◌, ◌≢◌, ℕ, ◌+◌, ◌<◌, Bool, true, false, List, map, length, get_or, refl, sym, subst, arith}
use Rattle.std.proofs.Math.Seq.{map-set_same}
use Rattle.std.proofs.lemmas.List.{get_or-set_same, get_or-set_other}
use Rattle.std.proofs.lemmas.Bool.Decides.{nat_tests}
use Rattle.std.proofs.Common.{slice_set, nat_eq}
use Rattle.std.specs.List.{All, AllWithin}
use Rattle.pf_model.specs.Graphs.{SceneGraph, node_at, size_of}
use Rattle.pf_model.specs.Totals.{triangle_count}
use Rattle.draw_list.specs.Lists.{Drawables}
use Rattle.pf_scene.specs.Frames.{HasRoom, AllHaveRoom, drawn}

-- a list in the place of one that draws the same
pub drawn_set : (xs : List Drawables) (i : ℕ) (x y : Drawables) → drawn y ≡ drawn (get_or xs i x) → map drawn (slice_set xs i y) ≡ map drawn xs
drawn_set xs i x y same = map-set_same drawn xs i y x same

pub room_set : (n t : ℕ) (xs : List Drawables) (i : ℕ) (y : Drawables) → i < length xs → HasRoom n t y → AllWithin (HasRoom n t) xs 0 i → AllWithin (HasRoom n t) (slice_set xs i y) 0 (i + 1)
room_set n t xs i y l room rest k d low high = by (nat_eq k i) refl
  where
    equal : nat_eq k i ≡ true → i ≡ k
    equal h = grind (arith, nat_tests)

    differ : nat_eq k i ≡ false → k ≢ i
    differ h e = grind (arith, nat_tests)

    before : nat_eq k i ≡ false → k < i
    before h = grind (arith, nat_tests)

    by : (b : Bool) → nat_eq k i ≡ b → HasRoom n t (get_or (slice_set xs i y) k d)
    by true h = subst (λ (j : ℕ). HasRoom n t (get_or (slice_set xs i y) j d)) (equal h) (subst (λ (z : Drawables). HasRoom n t z) (sym (get_or-set_same xs i y d l)) room)
    by false h = subst (λ (z : Drawables). HasRoom n t z) (sym (get_or-set_other xs i k y d (differ h))) (rest k d low (before h))

pub room_for : (g : SceneGraph) (n t : ℕ) (lists : List Drawables) → n ≡ size_of (node_at g.nodes) 0 → t ≡ triangle_count (node_at g.nodes) → All (HasRoom n t) lists → AllHaveRoom g lists
room_for g n t lists size tris h =
    subst (λ (m : ℕ). All (HasRoom m (triangle_count (node_at g.nodes))) lists) size
    (subst (λ (u : ℕ). All (HasRoom n u) lists) tris h)
