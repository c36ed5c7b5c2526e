-- What clauses see of a load.
use Rattle.std.specs.Prelude.{◌≡◌, ℕ, ◌+◌, ◌≤◌, ◌==◌, ◌&&◌, Bool, false, List, [], ◌∷◌, length, slice_get, Some}
use Rattle.std.specs.List.{list_all}
use Rattle.std.specs.Option.{option_map_or}
use Rattle.fx_math.specs.declared.lenses.Lens.{Lens}
use Rattle.ppm_out.specs.Pixmap.{Pixmap}
use Rattle.ppm_out.specs.Ppm.{ppm_size}
use Rattle.update_lists.specs.declared.cuts.Cut.{Cut}
use Rattle.draw_list.specs.declared.stats.Stats.{Stats}
use Rattle.draw_list.specs.Lists.{Drawables}

-- A load: the cut of a frame, a draw list and an image for each channel, the bytes of the images, and the numbers of the
-- frame, which are sums over the channels.
pub record LoadState : Type 0 where
  pub cut : Cut
  pub lists : List Drawables
  pub images : List Pixmap
  pub bytes : List ℕ
  pub stats : Stats

-- each element is as P says
abbrev pub Each : {X : Type 0} → (X → Type 0) → List X → Type 0
Each {X} P xs = (i : ℕ) (x : X) → slice_get xs i ≡ Some x → P x

-- how many bytes the pictures of these images have
abbrev pub bytes_of_all : List Pixmap → ℕ
bytes_of_all [] = 0
bytes_of_all (i ∷ images) = ppm_size i.width i.height + bytes_of_all images

pub record IsOfSize (lens : Lens) (image : Pixmap) : Type 0 where
  pub width : image.width ≡ lens.w
  pub height : image.height ≡ lens.h

abbrev pub is_of_size : Lens → Pixmap → Bool
is_of_size lens image = image.width == lens.w && image.height == lens.h

abbrev pub have_one_size : Pixmap → Pixmap → Bool
have_one_size a b = a.width == b.width && a.height == b.height

-- there is an image at a place, and it has the size of another
abbrev pub can_swap : List Pixmap → ℕ → Pixmap → Bool
can_swap images i image = option_map_or (have_one_size image) (slice_get images i) false

-- so many images of the lens's size
pub record AreImages (lens : Lens) (n : ℕ) (images : List Pixmap) : Type 0 where
  pub many : length images ≡ n
  pub sized : Each (IsOfSize lens) images

-- the load has so many draw lists, and so many images of the lens's size
abbrev pub is_for : Lens → ℕ → LoadState → Bool
is_for lens n l = length l.lists == n && (length l.images == n && list_all (is_of_size lens) l.images)

-- once it is cleared, a draw list has room for a scene of this unfolded size, with so many triangles
pub record HasRoomFor (size tris : ℕ) (d : Drawables) : Type 0 where
  pub items : size ≤ d.items.spare + length d.items.items
  pub joints : size + 1 ≤ d.joints.spare + length d.joints.lists
  pub triangles : tris ≤ d.kept.spare + length d.kept.tris

-- The load has for each view of its cut a draw list with room for the cut's size and triangles, and an image of the
-- lens's size.
pub record IsReady (lens : Lens) (l : LoadState) : Type 0 where
  pub many : length l.lists ≡ length l.cut.views
  pub room : Each (HasRoomFor l.cut.size l.cut.tris) l.lists
  pub images : AreImages lens (length l.cut.views) l.images
