-- Glass drawn over tiles piece by piece.
use Rattle.std.proofs.Common.{◌≡◌, ℕ, ◌+◌, ◌%◌, ◌<◌, List, [], ◌∷◌, length, take, get_or, Option, refl, ap, sym, ◌∙◌, subst, arith}
use Rattle.std.specs.Prelude.{fold}
use Rattle.std.proofs.lemmas.List.{take_more}
use Rattle.std.proofs.lemmas.List.Sums.{fold-append}
use Rattle.fx_math.specs.declared.lenses.Lens.{Lens}
use Rattle.tri_cover.specs.Picture.{Fragment}
use Rattle.depth_raster.specs.Batches.{IsWithFace}
use Rattle.depth_raster.specs.Blocks.{colour_in}
use Rattle.depth_raster.specs.Canvas.{mark_at, colour_at, behind_at, glazed_with, Glazes, face_glazed}
use Rattle.depth_raster.specs.Faces.{fragment_by, glazed_by_face}
use Rattle.depth_raster.specs.Marks.{behind_as}
use Rattle.depth_raster.specs.Strips.{AreTilesOf, TilesRelate, StripsRelate, AreStrips}
use Rattle.depth_raster.specs.Tiles.{marks_of, mark_in, face_glazes, pieces_glazes, ColoursFollow}
use Rattle.depth_raster.specs.declared.blocks.Block.{Block}
use Rattle.depth_raster.specs.declared.faces.Face.{Face}
use Rattle.depth_raster.specs.declared.marks.Mark.{Mark}
use Rattle.depth_raster.specs.declared.pieces.Piece.{Piece}
use Rattle.depth_raster.specs.declared.strip.Strip.{Strip}
use Rattle.depth_raster.specs.declared.tile.Tile.{Tile}
use Rattle.depth_raster.proofs.Flushed.{mark_is, colour_is}
use Rattle.depth_raster.proofs.PixelTiles.{tiles_at, strips_kept}
use Rattle.depth_raster.proofs.Skipped.{glazed_missed}
use Rattle.depth_raster.proofs.Slotted.{tiles_kept}
use Rattle.depth_raster.proofs.Tiling.{IsUnmet}

coloured_as : (f g : ℕ → ℕ → Mark → List ℕ → List ℕ) → ((px py : ℕ) (m : Mark) (u : List ℕ) → f px py m u ≡ g px py m u) → (a b : Tile) → ColoursFollow f a b → ColoursFollow g a b
coloured_as f g same a b h = record {
  block = h.block;
  marks = h.marks;
  colours = λ q r column row. h.colours q r column row ∙ same (a.block.left + q) (a.block.first + r) (mark_in a.block (marks_of a) q r) (colour_in a.block a.colours.items q r);
}

coloured_then : (f g : ℕ → ℕ → Mark → List ℕ → List ℕ) (a b c : Tile) → ColoursFollow f a b → ColoursFollow g b c → ColoursFollow (λ px py m u. g px py m (f px py m u)) a c
coloured_then f g a b c h k = record {
  block = k.block ∙ h.block;
  marks = k.marks ∙ h.marks;
  colours = λ q r column row.
      ap (λ (d : Block). colour_in d c.colours.items q r) (sym h.block)
      ∙ k.colours q r (subst (λ (d : Block). q < d.width) (sym h.block) column) (subst (λ (d : Block). r < d.rows) (sym h.block) row)
      ∙ ap (λ (d : Block). g (d.left + q) (d.first + r) (mark_in d (marks_of b) q r) (colour_in d b.colours.items q r)) h.block
      ∙ ap (λ (ms : List Mark). g (a.block.left + q) (a.block.first + r) (mark_in a.block ms q r) (colour_in a.block b.colours.items q r)) h.marks
      ∙ ap (g (a.block.left + q) (a.block.first + r) (mark_in a.block (marks_of a) q r)) (h.colours q r column row);
}

-- a tile that the face misses
pub unmet_glazed : (lens : Lens) (f : Face) (t : Tile) → IsUnmet lens f t → ColoursFollow (face_glazes lens f) t t
unmet_glazed lens f t unmet = record {
  block = refl;
  marks = refl;
  colours = λ q r column row.
      sym (glazed_missed lens (t.block.left + q) (t.block.first + r) f (behind_as (mark_in t.block (marks_of t) q r)) (colour_in t.block t.colours.items q r) (unmet q r column row));
}

pub glazed_tiles_kept : (f : ℕ → ℕ → Mark → List ℕ → List ℕ) (band : Block) (before after : List Tile) → AreTilesOf band before → length after ≡ length before → TilesRelate (ColoursFollow f) before after → AreTilesOf band after
glazed_tiles_kept f band before after are long h = tiles_kept band before after are long (λ j d below. (h j d below).block)

pub panes_none : (lens : Lens) (tiles : List Tile) → TilesRelate (ColoursFollow (pieces_glazes lens [])) tiles tiles
panes_none lens tiles j d below = record { block = refl; marks = refl; colours = λ q r column row. refl }

panes_snoc : (lens : Lens) (ps : List Piece) (i : ℕ) (e : Piece) → i < length ps → (px py : ℕ) (m : Mark) (u : List ℕ) → face_glazes lens (get_or ps i e).face px py m (pieces_glazes lens (take i ps) px py m u) ≡ pieces_glazes lens (take (i + 1) ps) px py m u
panes_snoc lens ps i e below px py m u =
    let step : List ℕ → Piece → List ℕ = λ v p. glazed_by_face lens px py p.face (behind_as m) v in
    sym (ap (fold step u) (take_more ps i e below) ∙ fold-append step u (take i ps) (get_or ps i e ∷ []))

pub panes_more : (lens : Lens) (ps : List Piece) (i : ℕ) (p : Piece) (before now after : List Tile) → i < length ps → p ≡ get_or ps i p → length now ≡ length before → TilesRelate (ColoursFollow (pieces_glazes lens (take i ps))) before now → TilesRelate (ColoursFollow (face_glazes lens p.face)) now after → TilesRelate (ColoursFollow (pieces_glazes lens (take (i + 1) ps))) before after
panes_more lens ps i p before now after below is long so_far next j d in_list =
    let f = pieces_glazes lens (take i ps) in
    let g = face_glazes lens (get_or ps i p).face in
    coloured_as (λ px py m u. g px py m (f px py m u)) (pieces_glazes lens (take (i + 1) ps)) (panes_snoc lens ps i p below) (get_or before j d) (get_or after j d)
    (coloured_then f g (get_or before j d) (get_or now j d) (get_or after j d) (so_far j d in_list)
    (subst (λ (q : Piece). ColoursFollow (face_glazes lens q.face) (get_or now j d) (get_or after j d)) is (next j d (omega (arith, in_list, long)))))

-- ---- at the pixels of the picture
abbrev pub kept : Option Fragment → ℕ → ℕ → List ℕ → List ℕ
kept behind px py under = under

marks_stay : (lens : Lens) (ps : List Piece) (before after : List Strip) → AreStrips lens before → length after ≡ length before → StripsRelate (ColoursFollow (pieces_glazes lens ps)) before after → (px py : ℕ) → px < lens.w → py < lens.h → mark_at after px py ≡ mark_at before px py
marks_stay lens ps before after are long each px py column row =
    let at = tiles_at (ColoursFollow (pieces_glazes lens ps)) lens before after are long each px py column row in
    mark_is after px py at.new at.is
    ∙ ap (λ (d : Block). mark_in d (marks_of at.new) (px % 16) (py % 16)) at.related.block
    ∙ ap (λ (ms : List Mark). mark_in at.old.block ms (px % 16) (py % 16)) at.related.marks
    ∙ sym (mark_is before px py at.old at.stands.is)

pub flushed_glass : (lens : Lens) (ps : List Piece) (before after : List Strip) → AreStrips lens before → length after ≡ length before → StripsRelate (ColoursFollow (pieces_glazes lens ps)) before after → Glazes lens before ps after [] kept
flushed_glass lens ps before after are long each = record {
  behind = λ px py column row. ap behind_as (marks_stay lens ps before after are long each px py column row);
  colours = λ px py column row.
      let at = tiles_at (ColoursFollow (pieces_glazes lens ps)) lens before after are long each px py column row in
      let q = px % 16 in
      let r = py % 16 in
      colour_is after px py at.new at.is
      ∙ ap (λ (d : Block). colour_in d at.new.colours.items q r) at.related.block
      ∙ at.related.colours q r at.stands.at.column at.stands.at.row
      ∙ ap (λ (x : ℕ). pieces_glazes lens ps x (at.old.block.first + r) (mark_in at.old.block (marks_of at.old) q r) (colour_in at.old.block at.old.colours.items q r)) at.stands.left
      ∙ ap (λ (y : ℕ). pieces_glazes lens ps px y (mark_in at.old.block (marks_of at.old) q r) (colour_in at.old.block at.old.colours.items q r)) at.stands.first
      ∙ ap (λ (m : Mark). pieces_glazes lens ps px py m (colour_in at.old.block at.old.colours.items q r)) (sym (mark_is before px py at.old at.stands.is))
      ∙ ap (pieces_glazes lens ps px py (mark_at before px py)) (sym (colour_is before px py at.old at.stands.is));
}

pub flushed_glass_open : (lens : Lens) (ps : List Piece) (before after : List Strip) → AreStrips lens before → length after ≡ length before → StripsRelate (ColoursFollow (pieces_glazes lens ps)) before after → AreStrips lens after
flushed_glass_open lens ps before after are long each = strips_kept (ColoursFollow (pieces_glazes lens ps)) lens before after (λ s t h. h.block) are long each

pub nothing_glazed : (lens : Lens) (strips : List Strip) (ps : List Piece) → Glazes lens strips ps strips ps kept
nothing_glazed lens strips ps = record { behind = λ px py column row. refl; colours = λ px py column row. refl }

-- a face more
pub pane_more : (lens : Lens) (strips : List Strip) (f : Face) (before after : List Piece) → IsWithFace (record f { rank = length before + 1 }) before after → Glazes lens strips before strips after (face_glazed lens f)
unfolding glazed_by_face fragment_by
pane_more lens strips f before after is = record {
  behind = λ px py column row. refl;
  colours = λ px py column row.
      ap (λ (ps : List Piece). glazed_with lens strips ps px py) is.pieces
      ∙ fold-append (λ (u : List ℕ) (p : Piece). glazed_by_face lens px py p.face (behind_at strips px py) u) (colour_at strips px py) before (is.piece ∷ [])
      ∙ ap (λ (g : Face). glazed_by_face lens px py g (behind_at strips px py) (glazed_with lens strips before px py)) is.face;
}

pub glazed_then : (lens : Lens) (s₀ s₁ s₂ : List Strip) (p₀ p₁ p₂ : List Piece) (f g : Option Fragment → ℕ → ℕ → List ℕ → List ℕ) → Glazes lens s₀ p₀ s₁ p₁ f → Glazes lens s₁ p₁ s₂ p₂ g → Glazes lens s₀ p₀ s₂ p₂ (λ b px py u. g b px py (f b px py u))
glazed_then lens s₀ s₁ s₂ p₀ p₁ p₂ f g h k = record {
  behind = λ px py column row. k.behind px py column row ∙ h.behind px py column row;
  colours = λ px py column row.
      k.colours px py column row
      ∙ ap (λ (b : Option Fragment). g b px py (glazed_with lens s₁ p₁ px py)) (h.behind px py column row)
      ∙ ap (g (behind_at s₀ px py) px py) (h.colours px py column row);
}

pub glazed_alike : (lens : Lens) (s₀ s₁ : List Strip) (p₀ p₁ : List Piece) (f g : Option Fragment → ℕ → ℕ → List ℕ → List ℕ) → ((b : Option Fragment) (px py : ℕ) (u : List ℕ) → f b px py u ≡ g b px py u) → Glazes lens s₀ p₀ s₁ p₁ f → Glazes lens s₀ p₀ s₁ p₁ g
glazed_alike lens s₀ s₁ p₀ p₁ f g same h = record {
  behind = h.behind;
  colours = λ px py column row. h.colours px py column row ∙ same (behind_at s₀ px py) px py (glazed_with lens s₀ p₀ px py);
}
