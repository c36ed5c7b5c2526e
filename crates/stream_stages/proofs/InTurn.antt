-- Lists of pieces with one piece more: what they draw, and their numbers.
use Rattle.std.proofs.Common.{◌≡◌, ℕ, ◌+◌, min, true, List, [], ◌∷◌, ◌++◌, map, filter, refl, sym, ap, ◌∙◌, subst, arith, append_assoc}
use Rattle.std.proofs.lemmas.List.{map-append}
use Rattle.std.proofs.lemmas.List.Elements.{filter-append}
use Rattle.std.proofs.lemmas.List.Sums.{sum_by-append, sum_by-cons}
use Rattle.std.specs.List.{sum_by}
use Rattle.pf_model.specs.Walks.{Instance}
use Rattle.tri_cover.specs.Glass.{is_opaque, is_glass, is_drawn_before}
use Rattle.tri_cover.specs.Sorting.{sorted}
use Rattle.draw_list.specs.declared.stats.Stats.{Stats}
use Rattle.draw_list.specs.Lists.{instances_in}
use Rattle.depth_raster.specs.InPieces.{PieceWork, HasDrawn, joined, glass_in_turn, IsGlassLast}
use Rattle.depth_raster.proofs.GlassInOrder.{joined_more, turn_more, glass_last}
use Rattle.stage_parts.specs.Pictures.{sums}
use Rattle.stream_stages.specs.Cuts.{Cut}
use Rattle.stream_stages.specs.PieceFrames.{pieces_of, items_of, last_numbers, capped, summed, greatest}
use Rattle.stream_stages.specs.Drawing.{added, DrawsMore}
use Rattle.stream_stages.specs.DrawParts.{HasBegun}

pub pieces_more : (ps : List Cut) (p : Cut) → pieces_of (ps ++ p ∷ []) ≡ pieces_of ps ++ instances_in p.list ∷ []
pieces_more ps p = map-append (λ (q : Cut). instances_in q.list) ps (p ∷ [])

pub items_more : (ps : List Cut) (p : Cut) → items_of (ps ++ p ∷ []) ≡ items_of ps ++ instances_in p.list
items_more ps p = ap joined (pieces_more ps p) ∙ joined_more (pieces_of ps) (instances_in p.list)

glass_more : (ps : List Cut) (p : Cut) →
    glass_in_turn (pieces_of (ps ++ p ∷ [])) ≡ glass_in_turn (pieces_of ps) ++ sorted is_drawn_before (filter is_glass (instances_in p.list))
glass_more ps p = ap glass_in_turn (pieces_more ps p) ∙ turn_more (pieces_of ps) (instances_in p.list)

none_left : {X : Type 0} (xs ys : List X) → xs ++ ys ≡ [] → xs ≡ []
none_left [] ys none = refl
none_left (x ∷ xs) ys none = absurd (cc)

-- one piece more was drawn
pub begun_more : (before after : PieceWork) (ps : List Cut) (p : Cut) → HasBegun before ps → DrawsMore before after (instances_in p.list) →
    HasBegun after (ps ++ p ∷ [])
begun_more before after ps p begun draws more last =
    let xs = items_of ps in
    let zs = instances_in p.list in
    let here : IsGlassLast (xs ++ (zs ++ more)) =
    subst IsGlassLast (ap (λ (ys : List Instance). ys ++ more) (items_more ps p) ∙ append_assoc xs zs more) last in
    let drawn = begun (zs ++ more) here in
    let only : before.glazing ≡ true → filter is_opaque zs ≡ [] =
    λ glazing.
    none_left (filter is_opaque zs) (filter is_opaque more)
    (sym (filter-append is_opaque zs more) ∙ glass_last xs (zs ++ more) here (sym drawn.glazing ∙ glazing)) in
    subst (λ (panes : List Instance). HasDrawn after (items_of (ps ++ p ∷ [])) panes) (sym (glass_more ps p))
    (subst (λ (ys : List Instance). HasDrawn after ys (glass_in_turn (pieces_of ps) ++ sorted is_drawn_before (filter is_glass zs)))
    (sym (items_more ps p)) (draws xs (glass_in_turn (pieces_of ps)) drawn only))

-- Numbers

pub last_is : (ps : List Cut) (p : Cut) → last_numbers (ps ++ p ∷ []) ≡ p.stats
last_is [] p = refl
last_is (q ∷ []) p = refl
last_is (q ∷ r ∷ ps) p = last_is (r ∷ ps) p

capped_added : (a b : ℕ) → min (a + b) greatest ≡ min (min a greatest + b) greatest
capped_added a b = omega arith

one_more : (f : Stats → ℕ) (ss : List Stats) (s : Stats) → min (sum_by f (ss ++ s ∷ [])) greatest ≡ min (min (sum_by f ss) greatest + f s) greatest
one_more f ss s =
    let all : sum_by f (ss ++ s ∷ []) ≡ sum_by f ss + f s = sum_by-append f ss (s ∷ []) ∙ omega (arith, sum_by-cons f s []) in
    ap (λ (n : ℕ). min n greatest) all ∙ capped_added (sum_by f ss) (f s)

pub summed_more : (lists : List (List Cut)) (ps : List Cut) → summed (lists ++ ps ∷ []) ≡ added (summed lists) (last_numbers ps)
summed_more lists ps =
    let ss = map last_numbers lists in
    ap (λ (xs : List Stats). capped (sums xs)) (map-append last_numbers lists (ps ∷ []))
    ∙ (λ i. record {
      shown = one_more (λ s. s.shown) ss (last_numbers ps) i;
      states = one_more (λ s. s.states) ss (last_numbers ps) i;
      visited = one_more (λ s. s.visited) ss (last_numbers ps) i;
    })
