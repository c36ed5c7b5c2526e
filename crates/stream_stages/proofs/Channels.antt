-- The list of a channel that came in right pieces, as an ordinary draw list.
use Rattle.std.proofs.Common.{◌≡◌, ◌∙◌, ℕ, ◌<◌, List, [], ◌∷◌, ◌++◌, Bool, true, false, cond, not, ap, sym, refl, subst}
use Rattle.std.specs.Prelude.{map, filter}
use Rattle.std.specs.List.{AllByRecursion}
use Rattle.std.proofs.lemmas.List.{append-nil, map-append}
use Rattle.std.proofs.lemmas.List.Elements.{filter-append}
use Rattle.fx_math.specs.declared.lenses.Lens.{Lens}
use Rattle.ppm_out.proofs.Pictures.{picture_bytes_same}
use Rattle.pf_model.specs.Angles.{Viewpoint}
use Rattle.pf_model.specs.Graphs.{Look}
use Rattle.pf_model.specs.Walks.{Instance}
use Rattle.tri_cover.specs.Glass.{is_glass, is_drawn_before}
use Rattle.tri_cover.specs.Picture.{picture}
use Rattle.tri_cover.proofs.GlassOrder.{drawn_in_order}
use Rattle.tri_cover.proofs.Sorts.{Rises, rises_sorted}
use Rattle.draw_list.specs.Lists.{Drawables, instances_in}
use Rattle.draw_list.specs.Order.{is_opaque, draw_order, put_in, in_draw_order}
use Rattle.draw_list.specs.Shown.{shown, draw_list}
use Rattle.cull_walk.specs.Culling.{HaveOnePictureThrough}
use Rattle.cull_walk.specs.Premises.{unnamed}
use Rattle.stage_parts.specs.Parts.{nameless}
use Rattle.stage_parts.specs.Pictures.{picture_of_list}
use Rattle.stage_parts.proofs.Places.{flat_mapped}
use Rattle.stream_stages.specs.Cuts.{Cut, parts_of}
use Rattle.stream_stages.specs.Pieces.{PieceParts, joined, in_sending_order, ArePiecesOf}
use Rattle.stream_stages.specs.Woven.{woven, IsFarAsGlass}
use Rattle.stream_stages.specs.PieceFrames.{items_of, CanDrawInTurn}
use Rattle.stream_stages.proofs.Glass.{IsGlass, ordered_glass, glass_left, rising_is_sorted, glass_sent, sent_glass}
use Rattle.stream_stages.proofs.Unnaming.{unnamed_picture}
use Rattle.stream_stages.proofs.Weaving.{woven_draws, shown_fars}

-- What the law of right pieces says of their picture and of their order.
pub record RightPieces : Type 0 where
  pub list : (look : Look) (time : ℕ) (v : Viewpoint) (lens : Lens) (n : ℕ) (ps : List PieceParts) →
      ArePiecesOf n (shown look time v lens) ps →
      HaveOnePictureThrough lens (draw_list look time v lens) (joined ps)
  pub order : (look : Look) (time : ℕ) (v : Viewpoint) (lens : Lens) (n : ℕ) (ps : List PieceParts) →
      ArePiecesOf n (shown look time v lens) ps →
      in_draw_order (joined ps) ≡ map unnamed (draw_list look time v lens)

-- the pieces of a list as one ordinary draw list
abbrev pub whole_list : List Cut → Drawables
whole_list ps = woven (in_draw_order (items_of ps))

items_joined : (ps : List Cut) → items_of ps ≡ joined (map parts_of ps)
items_joined ps =
    flat_mapped (λ (p : Cut). instances_in p.list) (λ (xs : List Instance). xs) ps
    ∙ sym (flat_mapped parts_of (λ (p : PieceParts). p.items) ps)

-- What is drawn

put_each : (P : Instance → Type 0) (x : Instance) (ys : List Instance) → P x → AllByRecursion P ys →
    AllByRecursion P (put_in x ys)
put_each P x [] here all = (here, tt)
put_each P x (y ∷ ys) here all = by (draw_order y x) (put_each P x ys here all.1)
  where
    by : (t : Bool) → AllByRecursion P (put_in x ys) → AllByRecursion P (cond t (y ∷ put_in x ys) (x ∷ y ∷ ys))
    by true rest = (all.0, rest)
    by false rest = (here, (all.0, all.1))

ordered_each : (P : Instance → Type 0) (xs : List Instance) → AllByRecursion P xs → AllByRecursion P (in_draw_order xs)
ordered_each P [] all = tt
ordered_each P (x ∷ xs) all = put_each P x (in_draw_order xs) all.0 (ordered_each P xs all.1)

unnamed_fars : (xs : List Instance) → AllByRecursion IsFarAsGlass xs → AllByRecursion IsFarAsGlass (map unnamed xs)
unnamed_fars [] all = tt
unnamed_fars (x ∷ xs) all = (all.0, unnamed_fars xs all.1)

unnamed_again : (xs : List Instance) → map unnamed (map unnamed xs) ≡ map nameless xs
unnamed_again [] = refl
unnamed_again (x ∷ xs) = ap (λ (ys : List Instance). nameless x ∷ ys) (unnamed_again xs)

-- the whole list draws what is in the draw list, in its order
pub whole_draws : RightPieces → (look : Look) (time : ℕ) (v : Viewpoint) (lens : Lens) (n : ℕ) (ps : List Cut) →
    ArePiecesOf n (shown look time v lens) (map parts_of ps) →
    instances_in (whole_list ps) ≡ map nameless (draw_list look time v lens)
whole_draws law look time v lens n ps right =
    woven_draws (in_draw_order (items_of ps)) fars ∙ ap (map unnamed) order ∙ unnamed_again drawn
  where
    drawn : List Instance
    drawn = draw_list look time v lens

    order : in_draw_order (items_of ps) ≡ map unnamed drawn
    order = ap in_draw_order (items_joined ps) ∙ law.order look time v lens n (map parts_of ps) right

    fars : AllByRecursion IsFarAsGlass (in_draw_order (items_of ps))
    fars =
        subst (AllByRecursion IsFarAsGlass) (sym order)
        (unnamed_fars drawn (ordered_each IsFarAsGlass (shown look time v lens) (shown_fars look time v lens)))

-- Its picture

pub whole_picture : RightPieces →
    (look : Look) (time : ℕ) (v : Viewpoint) (lens : Lens) (back : List ℕ) (n : ℕ) (ps : List Cut) →
    ArePiecesOf n (shown look time v lens) (map parts_of ps) →
    picture_of_list lens back (items_of ps) ≡ picture_of_list lens back (instances_in (whole_list ps))
whole_picture law look time v lens back n ps right =
    ap (picture_of_list lens back) (items_joined ps)
    ∙ picture_bytes_same lens.w lens.h (picture lens back (joined (map parts_of ps)))
    (picture lens back (map nameless drawn)) pixels
    ∙ ap (picture_of_list lens back) (sym (whole_draws law look time v lens n ps right))
  where
    drawn : List Instance
    drawn = draw_list look time v lens

    pixels : (px py : ℕ) → px < lens.w → py < lens.h →
        picture lens back (joined (map parts_of ps)) px py ≡ picture lens back (map nameless drawn) px py
    pixels px py across down =
        law.list look time v lens n (map parts_of ps) right px py across down back
        ∙ sym (unnamed_picture drawn lens px py back)

-- It can be drawn as it comes

opaque_of_opaque : (xs : List Instance) →
    filter is_opaque (map unnamed (filter is_opaque xs)) ≡ map unnamed (filter is_opaque xs)
opaque_of_opaque [] = refl
opaque_of_opaque (x ∷ xs) = by (is_opaque x) refl (opaque_of_opaque xs)
  where
    kept : List Instance
    kept = filter is_opaque xs

    by : (t : Bool) → is_opaque x ≡ t → filter is_opaque (map unnamed kept) ≡ map unnamed kept →
        filter is_opaque (map unnamed (cond t (x ∷ kept) kept)) ≡ map unnamed (cond t (x ∷ kept) kept)
    by true e rest =
        ap (λ (b : Bool).
        cond b (unnamed x ∷ filter is_opaque (map unnamed kept)) (filter is_opaque (map unnamed kept))) e
        ∙ ap (λ (ys : List Instance). unnamed x ∷ ys) rest
    by false e rest = rest

opaque_of_glass : (xs : List Instance) → AllByRecursion IsGlass xs → filter is_opaque (map unnamed xs) ≡ []
opaque_of_glass [] all = refl
opaque_of_glass (x ∷ xs) all =
    ap (λ (b : Bool). cond b (unnamed x ∷ filter is_opaque (map unnamed xs)) (filter is_opaque (map unnamed xs))) all.0
    ∙ opaque_of_glass xs all.1

abbrev glass_among : List Instance → List Instance
glass_among xs = filter (λ x. not (is_opaque x)) xs

-- what is opaque of what is sent
opaque_sent : (xs : List Instance) →
    filter is_opaque (map unnamed (in_sending_order xs)) ≡ map unnamed (filter is_opaque xs)
opaque_sent xs =
    ap (filter is_opaque) (map-append unnamed (filter is_opaque xs) (in_draw_order (glass_among xs)))
    ∙ filter-append is_opaque (map unnamed (filter is_opaque xs)) (map unnamed (in_draw_order (glass_among xs)))
    ∙ ap (λ (ys : List Instance). filter is_opaque (map unnamed (filter is_opaque xs)) ++ ys)
    (opaque_of_glass (in_draw_order (glass_among xs)) (ordered_glass (glass_among xs) (glass_left xs)))
    ∙ append-nil (filter is_opaque (map unnamed (filter is_opaque xs)))
    ∙ opaque_of_opaque xs

sent_in_turn : (xs : List Instance) → CanDrawInTurn (map unnamed (in_sending_order xs))
sent_in_turn xs = record {
  last =
      map-append unnamed (filter is_opaque xs) (in_draw_order (glass_among xs))
      ∙ (λ i. sym (opaque_sent xs) i ++ sym (glass_sent xs) i);
  order =
      rising_is_sorted (filter is_glass (map unnamed (in_sending_order xs)))
      (subst (Rises is_drawn_before) (sym (sent_glass xs))
      (rises_sorted is_drawn_before drawn_in_order (map unnamed (glass_among xs))));
}

pub whole_in_turn : (n : ℕ) (xs : List Instance) (ps : List Cut) → ArePiecesOf n xs (map parts_of ps) →
    CanDrawInTurn (items_of ps)
whole_in_turn n xs ps right = subst CanDrawInTurn (sym (items_joined ps ∙ right.items)) (sent_in_turn xs)
