-- Instances drawn after those of an earlier piece.
use Rattle.std.proofs.Common.{◌≡◌, ℕ, zero, suc, ◌+◌, ◌<◌, Bool, true, false, cond, ◌||◌, List, [], ◌∷◌, ◌++◌, take, Option, Some, None, option_map, refl, ap, sym, ◌∙◌, subst, add-one}
use Rattle.std.specs.Prelude.{fold, filter, flat_map, is_none, is_some}
use Rattle.std.specs.List.{list_any, slice_get}
use Rattle.std.specs.Option.{option_to_list}
use Rattle.std.proofs.lemmas.Bool.{false≢true}
use Rattle.std.proofs.lemmas.List.{append-nil}
use Rattle.std.proofs.lemmas.List.Elements.{filter-append}
use Rattle.std.proofs.lemmas.List.Folds.{list_any-append}
use Rattle.std.proofs.lemmas.List.Sums.{fold-append}
use Rattle.fx_math.specs.declared.lenses.Lens.{Lens}
use Rattle.pf_model.specs.Walks.{Instance}
use Rattle.tri_cover.specs.Glass.{is_opaque, is_glass, is_drawn_before}
use Rattle.tri_cover.specs.Sorting.{sorted}
use Rattle.tri_cover.specs.Picture.{Fragment, fragments, nearer, opaque_fragments, glazed_by, picture}
use Rattle.draw_list.specs.declared.items.Item.{Item}
use Rattle.draw_list.specs.declared.items.Tint.{Tint}
use Rattle.draw_list.specs.Lists.{Drawables, instances_in}
use Rattle.depth_raster.specs.Canvas.{seen_at, mark_at, colour_at, drawn_with, glazed_with, Draws, Glazes, glass_glazed}
use Rattle.depth_raster.specs.Drawing.{opaque_over, glass_glazes}
use Rattle.depth_raster.specs.InPieces.{GroundIn, GlassIn, HasDrawn, held}
use Rattle.depth_raster.specs.Marks.{seen_as, behind_as}
use Rattle.depth_raster.specs.Strips.{AreStrips}
use Rattle.depth_raster.specs.declared.pieces.Piece.{Piece}
use Rattle.depth_raster.specs.declared.strip.Strip.{Strip}
use Rattle.depth_raster.proofs.Finals.{seen_parts, picture_at}
use Rattle.depth_raster.proofs.Flushed.{first_seen}
use Rattle.depth_raster.proofs.Items.{take_suc, opaque_append, opaque_none}
use Rattle.depth_raster.proofs.Listed.{item_listed, item_absent}

-- ---- lists after one another
over_more : (lens : Lens) (xs zs : List Instance) (px py : ℕ) (drawn : Option Fragment) → opaque_over lens zs px py (opaque_over lens xs px py drawn) ≡ opaque_over lens (xs ++ zs) px py drawn
unfolding opaque_over
over_more lens xs zs px py drawn =
    sym (fold-append nearer drawn (opaque_fragments lens px py xs) (opaque_fragments lens px py zs))
    ∙ ap (fold nearer drawn) (sym (opaque_append lens px py xs zs))

-- glass leaves the ground as it is
over_glass : (lens : Lens) (xs zs : List Instance) (px py : ℕ) (drawn : Option Fragment) → filter is_opaque zs ≡ [] → opaque_over lens (xs ++ zs) px py drawn ≡ opaque_over lens xs px py drawn
unfolding opaque_over
over_glass lens xs zs px py drawn none =
    ap (λ (fs : List Instance). fold nearer drawn (flat_map (fragments lens px py) fs))
    (filter-append is_opaque xs zs ∙ ap (λ (ys : List Instance). filter is_opaque xs ++ ys) none ∙ append-nil (filter is_opaque xs))

glass_joined : (lens : Lens) (behind : Option Fragment) (ys zs : List Instance) (px py : ℕ) (under : List ℕ) → glass_glazes lens behind zs px py (glass_glazes lens behind ys px py under) ≡ glass_glazes lens behind (ys ++ zs) px py under
unfolding glass_glazes
glass_joined lens behind ys zs px py under = sym (fold-append (glazed_by lens px py behind) under ys zs)

-- ---- the glass of a list
pub item_glass : (d : Drawables) (n : ℕ) (i : Item) → Some i ≡ slice_get d.items.items n → is_some i.tint ≡ list_any is_glass (option_to_list (slice_get (instances_in d) n))
item_glass d n i is =
    by i.tint ∙ ap (λ (o : Option Instance). list_any is_glass (option_to_list o)) (sym (item_listed d n i is))
  where
    by : (o : Option Tint) → is_some o ≡ (is_some (option_map (λ t. t.alpha) o) || false)
    by None = refl
    by (Some t) = refl

pub item_lacks : (d : Drawables) (n : ℕ) → None ≡ slice_get d.items.items n → false ≡ list_any is_glass (option_to_list (slice_get (instances_in d) n))
item_lacks d n is = ap (λ (o : Option Instance). list_any is_glass (option_to_list o)) (sym (item_absent d n is))

-- whether there is glass among the first n + 1
pub glass_next : (xs : List Instance) (n : ℕ) → list_any is_glass (take (n + 1) xs) ≡ (list_any is_glass (take n xs) || list_any is_glass (option_to_list (slice_get xs n)))
glass_next xs n =
    ap (λ (m : ℕ). list_any is_glass (take m xs)) (add-one n)
    ∙ ap (list_any is_glass) (take_suc xs n)
    ∙ list_any-append is_glass (take n xs) (option_to_list (slice_get xs n))

pub glass_found : (xs : List Instance) (n : ℕ) → list_any is_glass (option_to_list (slice_get xs n)) ≡ true → list_any is_glass xs ≡ true
glass_found [] n h = absurd (false≢true h)
glass_found (x ∷ xs) zero h = by (is_glass x) h
  where
    by : (t : Bool) → (t || false) ≡ true → (t || list_any is_glass xs) ≡ true
    by true e = refl
    by false e = absurd (false≢true e)
glass_found (x ∷ xs) (suc n) h = by (is_glass x) (glass_found xs n h)
  where
    by : (t : Bool) → list_any is_glass xs ≡ true → (t || list_any is_glass xs) ≡ true
    by true e = refl
    by false e = e

no_glass : (zs : List Instance) → list_any is_glass zs ≡ false → filter is_glass zs ≡ []
no_glass [] none = refl
no_glass (z ∷ zs) none = by (is_glass z) none (no_glass zs)
  where
    by : (t : Bool) → (t || list_any is_glass zs) ≡ false → (list_any is_glass zs ≡ false → filter is_glass zs ≡ []) → cond t (z ∷ filter is_glass zs) (filter is_glass zs) ≡ []
    by true e rest = absurd (false≢true (sym e))
    by false e rest = rest e

pub only_glass : (zs : List Instance) → filter is_opaque (filter is_glass zs) ≡ []
only_glass [] = refl
only_glass (z ∷ zs) = by z.tint refl (only_glass zs)
  where
    by : (o : Option ℕ) → z.tint ≡ o → filter is_opaque (filter is_glass zs) ≡ [] → filter is_opaque (cond (is_some o) (z ∷ filter is_glass zs) (filter is_glass zs)) ≡ []
    by None e rest = rest
    by (Some alpha) e rest = ap (λ (p : Option ℕ). cond (is_none p) (z ∷ filter is_opaque (filter is_glass zs)) (filter is_opaque (filter is_glass zs))) e ∙ rest

-- ---- the ground
ground_more : (lens : Lens) (first first' : Bool) (strips strips' : List Strip) (ps ps' : List Piece) (xs zs : List Instance) → GroundIn lens first strips ps xs → Draws lens first strips ps first' strips' ps' (opaque_over lens zs) → GroundIn lens first' strips' ps' (xs ++ zs)
ground_more lens first first' strips strips' ps ps' xs zs ground draws px py column row =
    draws px py column row
    ∙ ap (opaque_over lens zs px py) (ground px py column row)
    ∙ over_more lens xs zs px py None

-- the last of the ground is drawn
pub record IsEnded (lens : Lens) (back : List ℕ) (first : Bool) (strips : List Strip) (ps : List Piece) (strips' : List Strip) (ps' : List Piece) : Type 0 where
  pub sound : AreStrips lens strips'
  pub empty : ps' ≡ []
  pub drawn : (px py : ℕ) → px < lens.w → py < lens.h → seen_at strips' px py ≡ drawn_with lens first strips ps px py
  pub blank : (px py : ℕ) → px < lens.w → py < lens.h → seen_at strips' px py ≡ None → colour_at strips' px py ≡ back

ground_ended : (lens : Lens) (back : List ℕ) (first : Bool) (strips strips' : List Strip) (ps ps' : List Piece) (xs : List Instance) → GroundIn lens first strips ps xs → IsEnded lens back first strips ps strips' ps' → GlassIn lens back strips' ps' xs []
unfolding glass_glazes
ground_ended lens back first strips strips' ps ps' xs ground is px py column row =
    let parts : seen_at strips' px py ≡ seen_as (mark_at strips' px py) (colour_at strips' px py) = seen_parts lens strips' is.sound px py column row in
    record {
      mark = mark_at strips' px py;
      colour = colour_at strips' px py;
      seen = sym parts ∙ is.drawn px py column row ∙ ground px py column row;
      blank = λ none. is.blank px py column row (parts ∙ none);
      behind = refl;
      glazed = ap (λ (qs : List Piece). glazed_with lens strips' qs px py) is.empty;
    }

-- ---- the glass
glass_more : (lens : Lens) (back : List ℕ) (strips strips' : List Strip) (ps ps' : List Piece) (xs ys zs : List Instance) → GlassIn lens back strips ps xs ys → Glazes lens strips ps strips' ps' (glass_glazed lens zs) → GlassIn lens back strips' ps' xs (ys ++ zs)
glass_more lens back strips strips' ps ps' xs ys zs glass glazes px py column row =
    let at = glass px py column row in
    record {
      mark = at.mark;
      colour = at.colour;
      seen = at.seen;
      blank = at.blank;
      behind = glazes.behind px py column row ∙ at.behind;
      glazed =
          glazes.colours px py column row
          ∙ ap (λ (b : Option Fragment). glass_glazes lens b zs px py (glazed_with lens strips ps px py)) at.behind
          ∙ ap (glass_glazes lens (behind_as at.mark) zs px py) at.glazed
          ∙ glass_joined lens (behind_as at.mark) ys zs px py at.colour;
    }

glass_over : (lens : Lens) (back : List ℕ) (strips : List Strip) (ps : List Piece) (xs ys zs : List Instance) → filter is_opaque zs ≡ [] → GlassIn lens back strips ps xs ys → GlassIn lens back strips ps (xs ++ zs) ys
glass_over lens back strips ps xs ys zs none glass px py column row =
    let at = glass px py column row in
    record {
      mark = at.mark;
      colour = at.colour;
      seen = at.seen ∙ sym (over_glass lens xs zs px py None none);
      blank = at.blank;
      behind = at.behind;
      glazed = at.glazed;
    }

-- ---- what is drawn
pub nothing_drawn : (lens : Lens) (back : List ℕ) (first : Bool) (strips : List Strip) (ps : List Piece) → first ≡ true → ps ≡ [] → HasDrawn (held lens back false first strips ps) [] []
nothing_drawn lens back first strips ps is empty = record {
  glazing = refl;
  none = λ no. refl;
  ground = λ no px py column row. first_seen lens first strips ps px py is empty ∙ opaque_none lens px py None;
  glass = λ yes. absurd (false≢true yes);
}

-- a piece without glass, before all glass
pub ground_added : (lens : Lens) (back : List ℕ) (first first' : Bool) (strips strips' : List Strip) (ps ps' : List Piece) (xs ys zs : List Instance) → list_any is_glass zs ≡ false → HasDrawn (held lens back false first strips ps) xs ys → Draws lens first strips ps first' strips' ps' (opaque_over lens zs) → HasDrawn (held lens back false first' strips' ps') (xs ++ zs) (ys ++ sorted is_drawn_before (filter is_glass zs))
ground_added lens back first first' strips strips' ps ps' xs ys zs none h draws = record {
  glazing = sym (list_any-append is_glass xs zs ∙ ap (λ (t : Bool). t || list_any is_glass zs) (sym h.glazing) ∙ none);
  none = λ no.
      ap (λ (ws : List Instance). ws ++ sorted is_drawn_before (filter is_glass zs)) (h.none refl)
      ∙ ap (sorted is_drawn_before) (no_glass zs none);
  ground = λ no. ground_more lens first first' strips strips' ps ps' xs zs (h.ground refl) draws;
  glass = λ yes. absurd (false≢true yes);
}

-- the first piece with glass
pub glass_begun : (lens : Lens) (back : List ℕ) (first first' first'' : Bool) (s s' s'' s''' : List Strip) (ps ps' ps'' ps''' : List Piece) (xs ys zs : List Instance) → list_any is_glass zs ≡ true → HasDrawn (held lens back false first s ps) xs ys → Draws lens first s ps first' s' ps' (opaque_over lens zs) → IsEnded lens back first' s' ps' s'' ps'' → Glazes lens s'' ps'' s''' ps''' (glass_glazed lens (sorted is_drawn_before (filter is_glass zs))) → HasDrawn (held lens back true first'' s''' ps''') (xs ++ zs) (ys ++ sorted is_drawn_before (filter is_glass zs))
glass_begun lens back first first' first'' s s' s'' s''' ps ps' ps'' ps''' xs ys zs some h draws ended glazes =
    let gs : List Instance = sorted is_drawn_before (filter is_glass zs) in
    record {
      glazing = sym (list_any-append is_glass xs zs ∙ ap (λ (t : Bool). t || list_any is_glass zs) (sym h.glazing) ∙ some);
      none = λ no. absurd (false≢true (sym no));
      ground = λ no. absurd (false≢true (sym no));
      glass = λ yes.
          subst (λ (ws : List Instance). GlassIn lens back s''' ps''' (xs ++ zs) (ws ++ gs)) (sym (h.none refl))
          (glass_more lens back s'' s''' ps'' ps''' (xs ++ zs) [] gs
          (ground_ended lens back first' s' s'' ps' ps'' (xs ++ zs) (ground_more lens first first' s s' ps ps' xs zs (h.ground refl) draws) ended) glazes);
    }

-- a piece after that: of zs only glass, drawn as gs
pub glass_added : (lens : Lens) (back : List ℕ) (first first' : Bool) (strips strips' : List Strip) (ps ps' : List Piece) (xs ys zs gs : List Instance) → filter is_opaque zs ≡ [] → HasDrawn (held lens back true first strips ps) xs ys → Glazes lens strips ps strips' ps' (glass_glazed lens gs) → HasDrawn (held lens back true first' strips' ps') (xs ++ zs) (ys ++ gs)
glass_added lens back first first' strips strips' ps ps' xs ys zs gs none h glazes = record {
  glazing = sym (list_any-append is_glass xs zs ∙ ap (λ (t : Bool). t || list_any is_glass zs) (sym h.glazing));
  none = λ no. absurd (false≢true (sym no));
  ground = λ no. absurd (false≢true (sym no));
  glass = λ yes. glass_over lens back strips' ps' xs (ys ++ gs) zs none (glass_more lens back strips strips' ps ps' xs ys gs (h.glass refl) glazes);
}

-- ---- the picture
glass_shown : (lens : Lens) (back : List ℕ) (strips : List Strip) (ps : List Piece) (xs : List Instance) → GlassIn lens back strips ps xs (sorted is_drawn_before (filter is_glass xs)) → (px py : ℕ) → px < lens.w → py < lens.h → glazed_with lens strips ps px py ≡ picture lens back xs px py
glass_shown lens back strips ps xs glass px py column row =
    let at = glass px py column row in
    at.glazed ∙ picture_at lens back xs px py at.mark at.colour at.seen at.blank

-- where no glass has come
pub ground_pictured : (lens : Lens) (back : List ℕ) (first : Bool) (strips strips' : List Strip) (ps ps' : List Piece) (xs : List Instance) → HasDrawn (held lens back false first strips ps) xs (sorted is_drawn_before (filter is_glass xs)) → IsEnded lens back first strips ps strips' ps' → (px py : ℕ) → px < lens.w → py < lens.h → colour_at strips' px py ≡ picture lens back xs px py
ground_pictured lens back first strips strips' ps ps' xs h ended px py column row =
    ap (λ (qs : List Piece). glazed_with lens strips' qs px py) (sym ended.empty)
    ∙ glass_shown lens back strips' ps' xs (subst (λ (ys : List Instance). GlassIn lens back strips' ps' xs ys) (sym (h.none refl)) (ground_ended lens back first strips strips' ps ps' xs (h.ground refl) ended)) px py column row

-- where glass has come
pub glass_pictured : (lens : Lens) (back : List ℕ) (first : Bool) (strips strips' : List Strip) (ps : List Piece) (xs : List Instance) → HasDrawn (held lens back true first strips ps) xs (sorted is_drawn_before (filter is_glass xs)) → Glazes lens strips ps strips' [] (λ behind px py under. under) → (px py : ℕ) → px < lens.w → py < lens.h → colour_at strips' px py ≡ picture lens back xs px py
glass_pictured lens back first strips strips' ps xs h glazes px py column row =
    glazes.colours px py column row ∙ glass_shown lens back strips ps xs (h.glass refl) px py column row
