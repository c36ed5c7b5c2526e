-- What is drawn in one go, and what it makes of tiles.
use Rattle.std.specs.Prelude.{◌≤◌, All, length}
use Rattle.depth_raster.specs.Pieces.{IsPieceOf, AreRanked}
use Rattle.depth_raster.specs.Slots.{AreSlotsOf}
use Rattle.depth_raster.specs.Tiles.{IsDrawnFrom}
use Rattle.depth_raster.specs.declared.goes.Go.{Go}
use Rattle.depth_raster.specs.declared.tile.Tile.{Tile}

-- the pieces are ready and stand by their ranks, and the slots are theirs
pub record IsReady (go : Go) : Type 0 where
  pub pieces : All (IsPieceOf go.lens.now) go.pieces.now
  pub ranks : AreRanked go.pieces.now
  pub few : length go.slots.now ≤ 16384
  pub slots : AreSlotsOf go.lens.now go.pieces.now go.slots.now

-- a tile before and after a go
abbrev pub IsDrawnIn : Go → (before after : Tile) → Type 0
IsDrawnIn go = IsDrawnFrom go.lens.now go.back go.pieces.now go.is_first
