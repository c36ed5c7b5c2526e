use Rattle.std.proofs.Common.{ℕ, ◌<◌, get_or}
use Rattle.depth_raster.specs.Pieces.{IsPrepared}
use Rattle.depth_raster.specs.Recent.{AreCarried}
use Rattle.depth_raster.specs.declared.waiting.Waiting.{Waiting}
use Rattle.depth_raster.specs.declared.pieces.Piece.{Piece}
use Rattle.depth_raster.proofs.Sorting.{TakenSoFar}
use Rattle.depth_raster.proofs.pieces.prepare_in_turn.Given as goal

abbrev pub invariant-loop-i : goal.invariant-loop-i
invariant-loop-i l = record {
  carried : AreCarried l.list.joints.lists l.recent;
  prepared : (k : ℕ) (v : Waiting) (e : Piece) → k < l.i → IsPrepared l.list l.lens (get_or l.waiting k v) (get_or l.pieces k e);
  taken : TakenSoFar l.pieces l.initial.slots l.slots l.i;
}
