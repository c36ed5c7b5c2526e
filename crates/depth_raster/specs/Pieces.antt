-- What pieces that are drawn together make of a pixel.
use Rattle.std.specs.Prelude.{◌≡◌, ℕ, ◌+◌, ◌-◌, ◌<◌, ◌≤◌, true, List, [], fold, filter_map, length, if◌then◌else◌, nat_lt, Option, Some, option_and_then, slice_get, slice_index_or, ◌++◌}
use Rattle.std.specs.List.{All}
use Rattle.std.specs.Option.{ForSome}
use Rattle.fx_math.specs.declared.lenses.Lens.{Lens}
use Rattle.pf_model.specs.declared.geometry.Tri.{Tri}
use Rattle.draw_list.specs.Items.{tris_at}
use Rattle.draw_list.specs.Joints.{steps_at}
use Rattle.draw_list.specs.Lists.{Drawables}
use Rattle.draw_list.specs.declared.items.Item.{Item}
use Rattle.tri_cover.specs.declared.face.Face as faces
use Rattle.depth_raster.specs.declared.faces.Face as labels
use Rattle.tri_cover.specs.declared.hit.Hit.{Hit}
use Rattle.tri_cover.specs.Hits.{hit, HitsAs}
use Rattle.tri_cover.specs.Picture.{Fragment}
use Rattle.depth_raster.specs.Faces.{fragment_by, fragment_after, face_of_item, glazed_by_face}
use Rattle.depth_raster.specs.Marks.{mark_over}
use Rattle.depth_raster.specs.Small.{IsSmallFace}
use Rattle.tri_cover.specs.Readiness.{IsReady}
use Rattle.depth_raster.specs.Around.{IsAround, IsBoxOf}
use Rattle.depth_raster.specs.declared.marks.Mark.{Mark}
use Rattle.depth_raster.specs.declared.pieces.Piece.{Piece}
use Rattle.depth_raster.specs.declared.waiting.Waiting.{Waiting}

-- no mark of a hit of the face has a depth below this one
abbrev pub IsLeast : labels.Face → (least : ℕ) → Type 0
IsLeast f least = (lens : Lens) (px py : ℕ) (h : Hit) → px < lens.w → py < lens.h → hit lens px py [] f.tri ≡ Some h
    → least ≤ h.depth - f.shift

-- what is reckoned of a piece is right for the lens
pub record IsPieceOf (lens : Lens) (p : Piece) : Type 0 where
  pub extent : IsAround lens p.face.tri p.extent
  pub box : IsBoxOf p.ready p.extent
  pub ready : IsReady lens p.face.tri p.ready
  pub least : IsLeast p.face p.least
  pub small : p.small ≡ true → ForSome p.ready IsSmallFace

-- the piece made ready for the lens: its face stays
pub record IsMadeReady (lens : Lens) (before after : Piece) : Type 0 where
  pub face : after.face ≡ before.face
  pub ready : IsPieceOf lens after

-- each of the pieces made ready
abbrev pub AreMadeReady : Lens → (before after : List Piece) → Type 0
AreMadeReady lens before after =
    (i : ℕ) (d : Piece) → i < length before → IsMadeReady lens (slice_index_or before i d) (slice_index_or after i d)

-- the triangle of a number in the item of a number is in the list
pub record IsThere (d : Drawables) (item number : ℕ) : Type 0 where
  pub its_item : Item
  pub its_tri : Tri
  pub item_is : slice_get d.items.items item ≡ Some its_item
  pub tri_is : slice_get (tris_at d.kept.tris its_item.geom) number ≡ Some its_tri

-- so are those that wait
abbrev pub AreThere : Drawables → List Waiting → Type 0
AreThere d ws = All (λ w. IsThere d w.item w.number) ws

-- the piece is that of the triangle which waits: it is at the eye, and is ready for the lens
pub record IsPrepared (d : Drawables) (lens : Lens) (w : Waiting) (p : Piece) : Type 0 where
  pub there : IsThere d w.item w.number
  pub hits : HitsAs there.its_tri (steps_at d.joints.lists there.its_item.joint) p.face.tri
  pub face : p.face ≡ record (face_of_item there.its_item w.number p.face.tri) { rank = w.rank }
  pub ready : IsPieceOf lens p

-- each of the pieces is that of its triangle
unfoldable pub ArePrepared : Drawables → Lens → List Waiting → List Piece → Type 0
ArePrepared d lens ws ps =
    (i : ℕ) (v : Waiting) (e : Piece) → i < length ws → IsPrepared d lens (slice_index_or ws i v) (slice_index_or ps i e)

-- the pieces of the triangles that waited have become the last ones
pub record AreAppended (d : Drawables) (lens : Lens) (ws : List Waiting) (before after : List Piece) : Type 0 where
  pub fresh : List Piece
  pub pieces : after ≡ before ++ fresh
  pub count : length fresh ≡ length ws
  pub prepared : ArePrepared d lens ws fresh

-- the pieces are ready, and the triangles that wait, which come after them, are there; they are not too many
pub record AreGathered (d : Drawables) (lens : Lens) (ps : List Piece) (ws : List Waiting) : Type 0 where
  pub few : length ps + length ws ≤ 16384
  pub ready : All (IsPieceOf lens) ps
  pub there : AreThere d ws
  pub ranks : (k : ℕ) (v : Waiting) → k < length ws → (slice_index_or ws k v).rank ≡ length ps + k + 1

-- the piece has this face
abbrev pub HasFace : Piece → faces.Face → Type 0
HasFace p f = p.ready ≡ Some f

-- the ranks of pieces are their places, from 1
abbrev pub AreRanked : List Piece → Type 0
AreRanked ps = (k : ℕ) (d : Piece) → k < length ps → (slice_index_or ps k d).face.rank ≡ k + 1

-- the piece has this rank among pieces
pub record IsRanked (ps : List Piece) (p : Piece) (rank : ℕ) : Type 0 where
  pub some : 0 < rank
  pub at : slice_get ps (rank - 1) ≡ Some p

-- the fragments of pieces at a pixel
abbrev pub fragments_by : Lens → (px py : ℕ) → List Piece → List Fragment
fragments_by lens px py ps = filter_map (λ p. fragment_by lens px py p.face) ps

-- the fragment of the triangle of a number in the item of a number, once it has come to the eye
unfoldable pub fragment_waiting : Drawables → Lens → (item number : ℕ) → (px py : ℕ) → Option Fragment
fragment_waiting d lens item number px py = option_and_then
    (λ i. option_and_then
    (λ t. fragment_after (steps_at d.joints.lists i.joint) lens px py (face_of_item i number t))
    (slice_get (tris_at d.kept.tris i.geom) number))
    (slice_get d.items.items item)

-- the fragments of triangles that wait
abbrev pub fragments_waiting : Drawables → Lens → (px py : ℕ) → List Waiting → List Fragment
fragments_waiting d lens px py ws = filter_map (λ w. fragment_waiting d lens w.item w.number px py) ws

-- what pieces make of a mark
abbrev pub pieces_over : Lens → List Piece → (px py : ℕ) → Mark → Mark
pieces_over lens ps px py m = fold (λ n p. mark_over lens px py p.face n) m ps

-- what pieces of glass leave of a colour, over what is drawn
abbrev pub pieces_glaze : Lens → List Piece → (behind : Option Fragment) → (px py : ℕ) → List ℕ → List ℕ
pieces_glaze lens ps behind px py under = fold (λ u p. glazed_by_face lens px py p.face behind u) under ps

-- the colour at a pixel of a mark where no piece is nearest: that before, or the background where nothing is drawn
abbrev pub kept_colour : (back : List ℕ) → Mark → (before : List ℕ) → List ℕ
kept_colour back m before = if nat_lt m.depth 2147483648 then before else back

-- The colour at a pixel of a mark, after pieces are drawn: that of the piece's hit; where none of them is nearest, the colour
-- before, or the background where nothing is drawn.
pub record IsColoured (lens : Lens) (px py : ℕ) (back : List ℕ) (ps : List Piece) (m : Mark) (before after : List ℕ) : Type 0 where
  pub old : m.rank ≡ 0 → after ≡ kept_colour back m before
  pub fresh : (k : ℕ) (p : Piece) (h : Hit) → m.rank ≡ k + 1 → slice_get ps k ≡ Some p
      → hit lens px py [] p.face.tri ≡ Some h → after ≡ h.colour

-- the mark without its rank
abbrev pub settled : Mark → Mark
settled m = record { depth = m.depth; place = m.place; number = m.number; rank = 0 }
