use Rattle.std.proofs.Common.{◌≡◌, ℕ, ◌+◌, ◌<◌, ◌≤◌, length, None}
use Rattle.draw_list.specs.Lists.{instances_in}
use Rattle.depth_raster.specs.Canvas.{behind_at, glazed_with}
use Rattle.depth_raster.specs.Drawing.{glass_glazes}
use Rattle.depth_raster.specs.Panes.{IsPaneIn, panes_left}
use Rattle.depth_raster.specs.Strips.{AreStrips}
use Rattle.depth_raster.proofs.PanesLeft.{instances_of}
use Rattle.depth_raster.proofs.glass.draw_glass.Given as goal

abbrev pub invariant-loop-count : goal.invariant-loop-count
invariant-loop-count g l = record {
  sound : AreStrips l.lens l.strips.items;
  stands : IsPaneIn (instances_in l.list) l.last;
  left : length (panes_left (instances_in l.list) l.last) + l.count ≤ length l.list.items.items;
  behind : (px py : ℕ) → px < l.lens.w → py < l.lens.h → behind_at l.strips.items px py ≡ behind_at l.initial.strips.items px py;
  drawn : (px py : ℕ) → px < l.lens.w → py < l.lens.h
      → glass_glazes l.lens (behind_at l.initial.strips.items px py) (instances_of (panes_left (instances_in l.list) l.last)) px py (glazed_with l.lens l.strips.items l.batch.pieces px py)
      ≡ glass_glazes l.lens (behind_at l.initial.strips.items px py) (instances_of (panes_left (instances_in l.list) None)) px py (glazed_with l.lens l.initial.strips.items l.initial.batch.pieces px py);
}
