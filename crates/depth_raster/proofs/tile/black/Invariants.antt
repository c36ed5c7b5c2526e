use Rattle.std.proofs.Common.{◌≡◌, [], ◌∷◌, length}
use Rattle.std.specs.List.{All}
use Rattle.depth_raster.proofs.tile.black.Given as goal

abbrev pub invariant-loop-i : goal.invariant-loop-i
invariant-loop-i l = record {
  count : length l.colours.items ≡ l.i;
  each : All (λ c. c ≡ 0 ∷ 0 ∷ 0 ∷ []) l.colours.items;
}
