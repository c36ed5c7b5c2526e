-- What a drawing makes of what lies at each pixel.
use Rattle.std.specs.Prelude.{◌≡◌, ℕ, ◌<◌, ◌≤◌}
use Rattle.depth_raster.specs.Blocks.{place_in}
use Rattle.depth_raster.specs.declared.blocks.Block.{Block}

-- at each pixel, in column q of row r, lies what f makes of what lay there
abbrev pub Follows : {X : Type 0} → (width rows : ℕ) → (before after : ℕ → ℕ → X) → (f : ℕ → ℕ → X → X) → Type 0
Follows width rows before after f = (q r : ℕ) → q < width → r < rows → after q r ≡ f q r (before q r)

-- the same of the first n rows; the others are as they were
pub record RowsFollow {X : Type 0} (b : Block) (before after : ℕ → ℕ → X) (f : ℕ → ℕ → X → X) (n : ℕ) : Type 0 where
  pub drawn : (q r : ℕ) → q < b.width → r < b.rows → r < n → after q r ≡ f q r (before q r)
  pub ahead : (q r : ℕ) → q < b.width → n ≤ r → after q r ≡ before q r

-- the same of the first n pixels of row r; all others are as they were
pub record PixelsFollow {X : Type 0} (b : Block) (before after : ℕ → ℕ → X) (f : ℕ → ℕ → X → X) (r n : ℕ) : Type 0 where
  pub drawn : (q : ℕ) → q < n → q < b.width → after q r ≡ f q r (before q r)
  pub ahead : (q : ℕ) → n ≤ q → q < b.width → after q r ≡ before q r
  pub others : (q s : ℕ) → q < b.width → (s ≡ r → ⊥) → after q s ≡ before q s

-- a whole row
abbrev pub RowFollows : {X : Type 0} → Block → (before after : ℕ → ℕ → X) → (f : ℕ → ℕ → X → X) → ℕ → Type 0
RowFollows b before after f r = PixelsFollow b before after f r b.width

-- at each pixel whose place is before n, P holds of what lay there and what lies there; the others are as they were
pub record FirstRelate {X : Type 0} (b : Block) (before after : ℕ → ℕ → X) (P : ℕ → ℕ → X → X → Type 0) (n : ℕ) : Type 0 where
  pub done : (q r : ℕ) → q < b.width → r < b.rows → place_in b q r < n → P q r (before q r) (after q r)
  pub ahead : (q r : ℕ) → q < b.width → n ≤ place_in b q r → after q r ≡ before q r

-- at each pixel of the block P holds of what lay there and what lies there
abbrev pub Relates : {X : Type 0} → Block → (before after : ℕ → ℕ → X) → (P : ℕ → ℕ → X → X → Type 0) → Type 0
Relates b before after P = (q r : ℕ) → q < b.width → r < b.rows → P q r (before q r) (after q r)

-- at the pixels of row r from column start to before column end, P holds of what lay there and what lies there; all others are
-- as they were
pub record SpanRelates {X : Type 0} (b : Block) (before after : ℕ → ℕ → X) (P : ℕ → ℕ → X → X → Type 0) (r start end : ℕ) : Type 0 where
  pub done : (q : ℕ) → start ≤ q → q < end → q < b.width → P q r (before q r) (after q r)
  pub others : (q s : ℕ) → q < b.width → (s ≡ r → start ≤ q → q < end → ⊥) → after q s ≡ before q s
