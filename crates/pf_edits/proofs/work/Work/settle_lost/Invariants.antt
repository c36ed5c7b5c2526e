use Rattle.std.proofs.Common.{◌≡◌, take}
use Rattle.pf_edits.specs.Working.{told, IsWorking}
use Rattle.pf_edits.specs.Undoing.{KeepsParents}
use Rattle.pf_edits.specs.Settling.{any_takes, AreSettled}
use Rattle.pf_edits.proofs.work.Work.settle_lost.Given as goal

abbrev pub invariant-loop-e : goal.invariant-loop-e
invariant-loop-e l = record {
  working : IsWorking l.self;
  same : told l.self ≡ told l.initial.self;
  fewer : KeepsParents l.self l.initial.self;
  settled : AreSettled l.self.records.slots (any_takes (take l.e-index l.es));
}
