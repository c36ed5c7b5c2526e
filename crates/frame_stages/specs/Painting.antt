-- The pictures of a load, channel by channel.
use Rattle.std.specs.Prelude.{◌≡◌, ℕ, ◌<◌, ◌≤◌, List, length, slice_get, Some}
use Rattle.fx_math.specs.declared.lenses.Lens.{Lens}
use Rattle.ppm_out.specs.Pixmap.{Pixmap}
use Rattle.draw_list.specs.Lists.{Drawables}
use Rattle.stage_parts.specs.Loads.{IsOfSize, AreImages}
use Rattle.stage_parts.specs.Laws.{IsShown}

-- Of images, the one of a channel was drawn: it shows the picture of the channel's list, where it had the lens's size.
pub record IsPainted (lens : Lens) (back : List ℕ) (lists : List Drawables) (channel : ℕ) (before after : List Pixmap) : Type 0 where
  pub many : length after ≡ length before
  pub others : (i : ℕ) → (i ≡ channel → ⊥) → slice_get after i ≡ slice_get before i
  pub shown : (old new : Pixmap) (d : Drawables) → slice_get before channel ≡ Some old → IsOfSize lens old →
      slice_get after channel ≡ Some new → slice_get lists channel ≡ Some d → IsShown lens back new d

-- Of images, those of the first channels were drawn, where all had the lens's size.
pub record ArePaintedTo (lens : Lens) (back : List ℕ) (lists : List Drawables) (n : ℕ) (before after : List Pixmap) : Type 0 where
  pub many : length after ≡ length before
  pub behind : (i : ℕ) → n ≤ i → slice_get after i ≡ slice_get before i
  pub shown : AreImages lens (length lists) before → (i : ℕ) (image : Pixmap) (d : Drawables) → i < n →
      slice_get after i ≡ Some image → slice_get lists i ≡ Some d → IsShown lens back image d
