-- Without their ids instances have the same picture and the same order.
use Rattle.std.proofs.Common.{◌≡◌, ◌∙◌, ℕ, List, [], ◌∷◌, length, suc, ap, refl}
use Rattle.std.specs.Prelude.{map, Bool, cond, true, false}
use Rattle.std.specs.List.{AllZip}
use Rattle.pf_model.specs.Walks.{Instance}
use Rattle.draw_list.specs.Order.{draw_order, put_in, in_draw_order}
use Rattle.tri_cover.specs.Labels.{IsRelabelled, AreInOneOrder, PlacesAgree}
use Rattle.tri_cover.specs.Orders.{HaveOnePicture}
use Rattle.tri_cover.proofs.Alike.{one_picture}
use Rattle.cull_walk.specs.Premises.{unnamed}

relabelled : (xs : List Instance) → AllZip IsRelabelled xs (map unnamed xs)
relabelled [] = tt
relabelled (x ∷ xs) = (record { tint = refl; shift = refl; steps = refl; tris = refl; far = refl }, relabelled xs)

in_order : (x : Instance) (xs : List Instance) →
    AllZip (λ v w. AreInOneOrder x.place (unnamed x).place v.place w.place) xs (map unnamed xs)
in_order x [] = tt
in_order x (y ∷ xs) = (record { below = refl; above = refl }, in_order x xs)

agree : (xs : List Instance) → PlacesAgree xs (map unnamed xs)
agree [] = tt
agree (x ∷ xs) = (in_order x xs, agree xs)

pub unnamed_picture : (xs : List Instance) → HaveOnePicture xs (map unnamed xs)
unnamed_picture xs = one_picture xs (map unnamed xs) (relabelled xs) (agree xs)

put_unnamed : (x : Instance) (ys : List Instance) → map unnamed (put_in x ys) ≡ put_in (unnamed x) (map unnamed ys)
put_unnamed x [] = refl
put_unnamed x (y ∷ ys) = by (draw_order y x) (put_unnamed x ys)
  where
    by : (t : Bool) → map unnamed (put_in x ys) ≡ put_in (unnamed x) (map unnamed ys) →
        map unnamed (cond t (y ∷ put_in x ys) (x ∷ y ∷ ys)) ≡ cond t (unnamed y ∷ put_in (unnamed x) (map unnamed ys)) (unnamed x ∷ unnamed y ∷ map unnamed ys)
    by true h = ap (λ (zs : List Instance). unnamed y ∷ zs) h
    by false h = refl

pub ordered_unnamed : (xs : List Instance) → map unnamed (in_draw_order xs) ≡ in_draw_order (map unnamed xs)
ordered_unnamed [] = refl
ordered_unnamed (x ∷ xs) = put_unnamed x (in_draw_order xs) ∙ ap (put_in (unnamed x)) (ordered_unnamed xs)

pub length_unnamed : (xs : List Instance) → length (map unnamed xs) ≡ length xs
length_unnamed [] = refl
length_unnamed (x ∷ xs) = ap (λ (k : ℕ). suc k) (length_unnamed xs)
