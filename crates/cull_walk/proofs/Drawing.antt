-- The picture of what is shown, in any order, is that of the whole walk.
use Rattle.std.proofs.Common.{◌≡◌, ℕ, ◌<◌, List, [], ◌∷◌, Bool, true, false, cond, not, sym, refl, subst}
use Rattle.std.specs.List.Sorted.{IsPermutation}
use Rattle.std.proofs.lemmas.List.Elements.{All-nil, All-cons}
use Rattle.std.proofs.lemmas.List.Sorted.{IsPermutation-refl, IsPermutation-sym, IsPermutation-cons, IsPermutation-trans, IsPermutation-middle}
use Rattle.fx_math.specs.declared.lenses.Lens.{Lens}
use Rattle.pf_model.specs.Angles.{Viewpoint}
use Rattle.pf_model.specs.Graphs.{Look}
use Rattle.pf_model.specs.Walks.{Instance, instance_box, instances, walk}
use Rattle.pf_model.proofs.Numbering.{places_rise}
use Rattle.draw_list.specs.Order.{draw_order, put_in, in_draw_order}
use Rattle.draw_list.specs.Shown.{is_off, shown, draw_list}
use Rattle.tri_cover.specs.LeftOut.{HasNoHit, LeavesOutNoHit}
use Rattle.tri_cover.proofs.Rising.{culled}
use Rattle.tri_cover.proofs.Unseen.{missed_by_all}
use Rattle.cull_walk.specs.Culling.{is_instance_in_sight, HaveOnePictureThrough}
use Rattle.cull_walk.proofs.Corners.{outside_missed}
use Rattle.cull_walk.proofs.Sight.{shown_are}

not_in_sight : (t : Bool) → not t ≡ false → t ≡ true
not_in_sight true e = refl
not_in_sight false e = sym e

all_left_out : (lens : Lens) (px py : ℕ) (xs : List Instance) → px < lens.w → py < lens.h → LeavesOutNoHit lens px py (is_instance_in_sight lens) xs
all_left_out lens px py [] column row = All-nil (λ x. is_instance_in_sight lens x ≡ false → HasNoHit lens px py x)
all_left_out lens px py (x ∷ xs) column row =
    All-cons (λ x. is_instance_in_sight lens x ≡ false → HasNoHit lens px py x) x xs
    (λ e. missed_by_all lens px py x (outside_missed lens x (not_in_sight (is_off lens (instance_box x)) e) px py column row))
    (all_left_out lens px py xs column row)

pub any_order : (look : Look) (time : ℕ) (v : Viewpoint) (lens : Lens) (ys : List Instance) → IsPermutation (shown look time v lens) ys → HaveOnePictureThrough lens (instances look time v) ys
any_order look time v lens ys perm px py column row =
    culled lens px py (is_instance_in_sight lens) (instances look time v) ys (places_rise look (walk look time v))
    (all_left_out lens px py (instances look time v) column row)
    (subst (λ (xs : List Instance). IsPermutation xs ys) (shown_are look time v lens) perm)

put_in-permutation : (x : Instance) (ys : List Instance) → IsPermutation (x ∷ ys) (put_in x ys)
put_in-permutation x [] = IsPermutation-refl (x ∷ [])
put_in-permutation x (y ∷ ys) = by (draw_order y x) (put_in-permutation x ys)
  where
    by : (t : Bool) → IsPermutation (x ∷ ys) (put_in x ys) → IsPermutation (x ∷ y ∷ ys) (cond t (y ∷ put_in x ys) (x ∷ y ∷ ys))
    by true later = IsPermutation-trans _ _ _ (IsPermutation-sym _ _ (IsPermutation-middle (y ∷ []) x ys)) (IsPermutation-cons y _ _ later)
    by false later = IsPermutation-refl (x ∷ y ∷ ys)

pub ordered-permutation : (xs : List Instance) → IsPermutation xs (in_draw_order xs)
ordered-permutation [] = IsPermutation-refl []
ordered-permutation (x ∷ xs) = IsPermutation-trans _ _ _ (IsPermutation-cons x _ _ (ordered-permutation xs)) (put_in-permutation x (in_draw_order xs))

pub drawn_list : (look : Look) (time : ℕ) (v : Viewpoint) (lens : Lens) → HaveOnePictureThrough lens (instances look time v) (draw_list look time v lens)
drawn_list look time v lens = any_order look time v lens (draw_list look time v lens) (ordered-permutation (shown look time v lens))
