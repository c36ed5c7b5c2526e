-- So many loads are made.
use Rattle.std.proofs.Common.{◌≡◌, ◌≤◌, length}
use Rattle.std.specs.Vec.{vec_capacity}
use Rattle.stage_parts.specs.Loads.{LoadState, Each}
use Rattle.frame_stages.specs.Flights.{HaveFirst, IsFitFor}
use Rattle.frame_stages.proofs.taking_back.new_loads.Given as goal

abbrev pub invariant-loop-i : goal.invariant-loop-i
invariant-loop-i l = record {
  many : length l.loads.items ≡ l.i;
  room : l.ahead ≤ vec_capacity l.loads;
  first : Each (λ (v : LoadState). HaveFirst v.lists) l.loads.items;
  fit : Each (IsFitFor l.lens l.channels) l.loads.items;
}
