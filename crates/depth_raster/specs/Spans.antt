-- Runs of pixels that are drawn.
use Rattle.std.specs.Prelude.{◌≡◌, ℕ, ◌+◌, ◌<◌, ◌≤◌}
use Rattle.depth_raster.specs.declared.blocks.Block.{Block}
use Rattle.depth_raster.specs.declared.extents.Extent.{Extent}
use Rattle.depth_raster.specs.declared.runs.Run.{Run}

-- the run's pixels lie in the columns and rows
pub record LiesIn (e : Extent) (b : Block) (run : Run) : Type 0 where
  pub left : e.left ≤ b.left + run.start
  pub right : b.left + run.end ≤ e.right
  pub top : e.top ≤ b.first + run.r
  pub bottom : b.first + run.r < e.bottom

-- what lies at a pixel is what f makes of what lay there
abbrev pub becomes : {X : Type 0} → (f : ℕ → ℕ → X → X) → (q r : ℕ) → (before after : X) → Type 0
becomes f q r before after = after ≡ f q r before
