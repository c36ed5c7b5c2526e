-- The picture at a pixel, from what is drawn there.
use Rattle.std.proofs.Common.{◌≡◌, ℕ, ◌%◌, ◌<◌, Bool, true, false, cond, List, [], ◌∷◌, Option, Some, None, refl, ap, sym, ◌∙◌}
use Rattle.std.specs.Prelude.{fold, filter, nat_lt}
use Rattle.fx_math.specs.declared.lenses.Lens.{Lens}
use Rattle.pf_model.specs.Walks.{Instance}
use Rattle.tri_cover.specs.Glass.{is_glass, is_drawn_before, alpha_of}
use Rattle.tri_cover.specs.Sorting.{sorted}
use Rattle.tri_cover.specs.Picture.{Fragment, fragments, glazed, glazed_by, nearest_opaque, colour_under, picture}
use Rattle.depth_raster.specs.Blocks.{colour_in}
use Rattle.depth_raster.specs.Canvas.{seen_at, mark_at, colour_at}
use Rattle.depth_raster.specs.Drawing.{opaque_over, glass_glazes}
use Rattle.depth_raster.specs.Marks.{seen_as, behind_as}
use Rattle.depth_raster.specs.Strips.{AreStrips}
use Rattle.depth_raster.specs.declared.marks.Mark.{Mark}
use Rattle.depth_raster.specs.declared.strip.Strip.{Strip}
use Rattle.depth_raster.specs.declared.tile.Tile.{Tile}
use Rattle.depth_raster.proofs.Depths.{glazed_colourless}
use Rattle.depth_raster.proofs.Flushed.{seen_is, mark_is, colour_is}
use Rattle.depth_raster.proofs.PixelTiles.{AreTilesAt, tiles_at}

-- ---- what is seen
-- of the mark and the colour
seen_of : (P : Tile → Tile → Type 0) (before after : List Strip) (px py : ℕ) → AreTilesAt P before after px py → seen_at after px py ≡ seen_as (mark_at after px py) (colour_at after px py)
seen_of P before after px py at =
    let t = at.new in
    seen_is after px py t at.is
    ∙ ap (λ (m : Mark). seen_as m (colour_in t.block t.colours.items (px % 16) (py % 16))) (sym (mark_is after px py t at.is))
    ∙ ap (seen_as (mark_at after px py)) (sym (colour_is after px py t at.is))

-- where strips stand, what is seen in them is of marks and colours
same_tiles : Tile → Tile → Type 0
same_tiles s t = s ≡ t

pub seen_parts : (lens : Lens) (strips : List Strip) → AreStrips lens strips → (px py : ℕ) → px < lens.w → py < lens.h → seen_at strips px py ≡ seen_as (mark_at strips px py) (colour_at strips px py)
unfolding same_tiles
seen_parts lens strips are px py column row =
    seen_of same_tiles strips strips px py (tiles_at same_tiles lens strips strips are refl (λ i d below. record { band = refl; count = refl; tiles = λ j e in_band. refl }) px py column row)

-- ---- glass behind which the colour does not count
fold_same : {A B : Type 0} (f g : B → A → B) → ((b : B) (x : A) → f b x ≡ g b x) → (b : B) (xs : List A) → fold f b xs ≡ fold g b xs
fold_same f g same b [] = refl
fold_same {A} f g same b (x ∷ xs) = ap (λ c. fold f c xs) (same b x) ∙ fold_same f g same (g b x) xs

glazed_by_colourless : (lens : Lens) (px py : ℕ) (m : Mark) (colour under : List ℕ) (x : Instance) → glazed_by lens px py (seen_as m colour) under x ≡ glazed_by lens px py (behind_as m) under x
unfolding glazed_by
glazed_by_colourless lens px py m colour under x =
    fold_same (glazed (seen_as m colour) (alpha_of x)) (glazed (behind_as m) (alpha_of x)) (λ u f. glazed_colourless m colour u (alpha_of x) f) under (fragments lens px py x)

glass_colourless : (lens : Lens) (px py : ℕ) (m : Mark) (colour under : List ℕ) (xs : List Instance) → fold (glazed_by lens px py (seen_as m colour)) under xs ≡ glass_glazes lens (behind_as m) xs px py under
unfolding glass_glazes
glass_colourless lens px py m colour under xs =
    fold_same (glazed_by lens px py (seen_as m colour)) (glazed_by lens px py (behind_as m)) (λ u x. glazed_by_colourless lens px py m colour u x) under xs

under_is : (back colour : List ℕ) (m : Mark) → (seen_as m colour ≡ None → colour ≡ back) → colour_under back (seen_as m colour) ≡ colour
under_is back colour m blank = by (nat_lt m.depth 2147483648) refl
  where
    by : (t : Bool) → t ≡ nat_lt m.depth 2147483648 → colour_under back (cond t (Some (record { key = record { depth = m.depth; place = m.place; number = m.number }; colour = colour })) None) ≡ colour
    by true e = refl
    by false e = sym (blank (ap (λ (t : Bool). cond t (Some (shown m colour)) None) (sym e)))
      where
        shown : Mark → List ℕ → Fragment
        shown m colour = record { key = record { depth = m.depth; place = m.place; number = m.number }; colour = colour }

-- ---- the picture
-- from the nearest opaque fragment, and the glass over the colour
pub picture_at : (lens : Lens) (back : List ℕ) (xs : List Instance) (px py : ℕ) (m : Mark) (colour : List ℕ) → seen_as m colour ≡ opaque_over lens xs px py None → (seen_as m colour ≡ None → colour ≡ back) → glass_glazes lens (behind_as m) (sorted is_drawn_before (filter is_glass xs)) px py colour ≡ picture lens back xs px py
unfolding opaque_over picture nearest_opaque
picture_at lens back xs px py m colour is blank =
    let ys : List Instance = sorted is_drawn_before (filter is_glass xs) in
    sym (glass_colourless lens px py m colour colour ys)
    ∙ ap (λ (c : List ℕ). fold (glazed_by lens px py (seen_as m colour)) c ys) (sym (under_is back colour m blank))
    ∙ ap (λ (o : Option Fragment). fold (glazed_by lens px py o) (colour_under back o) ys) is
