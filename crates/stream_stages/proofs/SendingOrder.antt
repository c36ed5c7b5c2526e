-- What is sent is what is shown in another order, and has its picture.
use Rattle.std.proofs.Common.{◌≡◌, ◌∙◌, ℕ, ◌≤◌, List, [], ◌∷◌, ◌++◌, length, Bool, true, false, cond, not, ap, sym, subst, append_assoc}
use Rattle.std.specs.Prelude.{map, filter}
use Rattle.std.specs.List.{AllByRecursion}
use Rattle.std.specs.List.Sorted.{IsPermutation, IsSortedBy}
use Rattle.std.proofs.lemmas.Grind.{flat_map-append}
use Rattle.std.proofs.lemmas.List.{append-nil}
use Rattle.std.proofs.lemmas.List.Sorted.{IsPermutation-refl, IsPermutation-sym, IsPermutation-cons, IsPermutation-trans, IsPermutation-middle, IsPermutation-append_right, length_permutation}
use Rattle.fx_math.specs.declared.lenses.Lens.{Lens}
use Rattle.pf_model.specs.Walks.{Instance}
use Rattle.draw_list.specs.Order.{is_opaque, draw_order, in_draw_order}
use Rattle.tri_cover.specs.Labels.{PlacesRise}
use Rattle.cull_walk.specs.Culling.{HaveOnePictureThrough}
use Rattle.cull_walk.specs.Premises.{unnamed}
use Rattle.stream_stages.specs.Pieces.{PieceParts, joined, is_ended, in_sending_order, ArePiecesOf, AreSentOf}
use Rattle.stream_stages.proofs.DrawOrder.{order_is_sorted, ordered-permutation}
use Rattle.stream_stages.proofs.Unnaming.{unnamed_picture, ordered_unnamed, length_unnamed}

parted : (xs : List Instance) → IsPermutation xs (filter is_opaque xs ++ filter (λ x. not (is_opaque x)) xs)
parted [] = IsPermutation-refl []
parted (x ∷ xs) = by (is_opaque x) (IsPermutation-cons x _ _ (parted xs))
  where
    opaque : List Instance
    opaque = filter is_opaque xs

    glass : List Instance
    glass = filter (λ y. not (is_opaque y)) xs

    by : (t : Bool) → IsPermutation (x ∷ xs) (x ∷ opaque ++ glass) → IsPermutation (x ∷ xs) (cond t (x ∷ opaque) opaque ++ cond (not t) (x ∷ glass) glass)
    by true h = h
    by false h = IsPermutation-trans _ _ _ h (IsPermutation-sym _ _ (IsPermutation-middle opaque x glass))

pub sending_permutation : (xs : List Instance) → IsPermutation xs (in_sending_order xs)
sending_permutation xs =
    IsPermutation-trans _ _ _ (parted xs)
    (IsPermutation-append_right (filter is_opaque xs) glass (in_draw_order glass) (ordered-permutation glass))
  where
    glass : List Instance
    glass = filter (λ x. not (is_opaque x)) xs

-- ---- pictures
pub picture_sent : (lens : Lens) (ws xs : List Instance) (ps : List PieceParts) → joined ps ≡ map unnamed (in_sending_order xs) →
    HaveOnePictureThrough lens ws (in_sending_order xs) → HaveOnePictureThrough lens ws (joined ps)
picture_sent lens ws xs ps e same =
    subst (HaveOnePictureThrough lens ws) (sym e)
    (λ px py across down back. unnamed_picture (in_sending_order xs) lens px py back ∙ same px py across down back)

pub picture_turned : (lens : Lens) (ws xs ys : List Instance) → HaveOnePictureThrough lens ws xs → HaveOnePictureThrough lens ws ys → HaveOnePictureThrough lens xs ys
picture_turned lens ws xs ys h k px py across down back = k px py across down back ∙ sym (h px py across down back)

-- ---- numbers and order
pub as_many : (xs : List Instance) (ps : List PieceParts) → joined ps ≡ map unnamed (in_sending_order xs) → length (joined ps) ≡ length xs
as_many xs ps e = ap length e ∙ length_unnamed (in_sending_order xs) ∙ length_permutation xs (in_sending_order xs) (sending_permutation xs)

pub drawn_sent : (xs : List Instance) (ps : List PieceParts) → joined ps ≡ map unnamed (in_sending_order xs) → PlacesRise xs →
    ((xs ys : List Instance) → PlacesRise xs → IsPermutation xs ys → IsSortedBy draw_order ys → ys ≡ in_draw_order xs) →
    in_draw_order (joined ps) ≡ map unnamed (in_draw_order xs)
drawn_sent xs ps e rise one =
    ap in_draw_order e
    ∙ sym (ordered_unnamed (in_sending_order xs))
    ∙ ap (map unnamed)
    (one xs (in_draw_order (in_sending_order xs)) rise
    (IsPermutation-trans _ _ _ (sending_permutation xs) (ordered-permutation (in_sending_order xs))) (order_is_sorted (in_sending_order xs)))

-- ---- one piece after the other
pub one_after_the_other : (all rest more : List Instance) (ps : List PieceParts) (p : PieceParts) → AreSentOf all ps rest → rest ≡ p.items ++ more → AreSentOf all (ps ++ p ∷ []) more
one_after_the_other all rest more ps p sent next =
    sent
    ∙ ap (λ (xs : List Instance). joined ps ++ xs) next
    ∙ sym (append_assoc (joined ps) p.items more)
    ∙ ap (λ (xs : List Instance). (joined ps ++ xs) ++ more) (sym (append-nil p.items))
    ∙ ap (λ (xs : List Instance). xs ++ more) (sym (flat_map-append (λ (q : PieceParts). q.items) ps (p ∷ [])))

pub all_sent : (n : ℕ) (xs : List Instance) (ps : List PieceParts) → AllByRecursion (λ p. length p.items ≤ n) ps → is_ended ps ≡ true → AreSentOf (map unnamed (in_sending_order xs)) ps [] → ArePiecesOf n xs ps
all_sent n xs ps few ended sent = record { few = few; ended = ended; items = sym (sent ∙ append-nil (joined ps)) }
