-- Runs of pixels.
use Rattle.std.specs.Prelude.{◌<◌, ◌≤◌}
use Rattle.depth_raster.specs.declared.blocks.Block.{Block}
use Rattle.depth_raster.specs.declared.runs.Run.{Run}

-- the run has some pixels, all of them in the block
pub record IsRunOf (b : Block) (run : Run) : Type 0 where
  pub row : run.r < b.rows
  pub some : run.start < run.end
  pub within : run.end ≤ b.width
