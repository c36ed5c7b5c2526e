-- What contracts see of the stages.
use Rattle.std.specs.Prelude.{◌≡◌, ℕ, List}
use Rattle.fx_math.specs.declared.lenses.Lens.{Lens}
use Rattle.ppm_out.specs.Pixmap.{Pixmap}
use Rattle.stage_parts.specs.Loads.{IsOfSize}
use Rattle.stage_parts.specs.States.{DrawState}

-- The draw: the lens and the background that it is given, and its state.
pub record DrawWork : Type 0 where
  pub lens : Lens
  pub back : List ℕ
  pub state : DrawState

-- what the draw is given stays
pub record IsGivenAsBefore (old new : DrawWork) : Type 0 where
  pub lens : new.lens ≡ old.lens
  pub back : new.back ≡ old.back

-- The draw's renderer is for its lens, and its own image has the lens's size.
pub record CanDraw (lens raster : Lens) (image : Pixmap) : Type 0 where
  pub renderer : raster ≡ lens
  pub size : IsOfSize lens image
