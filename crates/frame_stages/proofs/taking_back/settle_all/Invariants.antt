-- The first lists have a joint each.
use Rattle.std.proofs.Common.{◌≡◌, ℕ, ◌<◌, length, Some}
use Rattle.std.specs.Prelude.{slice_get}
use Rattle.draw_list.specs.Lists.{Drawables}
use Rattle.frame_stages.proofs.taking_back.settle_all.Given as goal

abbrev pub invariant-loop-i : goal.invariant-loop-i
invariant-loop-i l = record {
  many : length l.lists ≡ length l.fn.lists;
  first : (k : ℕ) (d : Drawables) → k < l.i → slice_get l.lists k ≡ Some d → 0 < length d.joints.lists;
}
