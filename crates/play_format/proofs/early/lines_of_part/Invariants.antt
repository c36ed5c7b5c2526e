use Rattle.std.proofs.Common.{length}
use Rattle.std.specs.List.{All}
use Rattle.play_format.specs.Early.{IsEarly, IsEnd}
use Rattle.play_format.proofs.early.lines_of_part.Given as goal

abbrev pub invariant-loop-rest : goal.invariant-loop-rest
invariant-loop-rest l = record {
  end : IsEnd l.text l.rest;
  read : All (IsEarly l.text) l.all.items;
}

abbrev pub decreases-loop-rest : goal.decreases-loop-rest
decreases-loop-rest l = length l.rest
