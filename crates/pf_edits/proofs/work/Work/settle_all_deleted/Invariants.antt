use Rattle.std.proofs.Common.{◌≡◌, take}
use Rattle.pf_edits.specs.Working.{told, IsWorking}
use Rattle.pf_edits.specs.Undoing.{KeepsParents}
use Rattle.pf_edits.specs.Settling.{any_frees, AreSettled}
use Rattle.pf_edits.proofs.work.Work.settle_all_deleted.Given as goal

abbrev pub invariant-loop-undo : goal.invariant-loop-undo
invariant-loop-undo l = record {
  working : IsWorking l.self;
  same : told l.self ≡ told l.initial.self;
  fewer : KeepsParents l.self l.initial.self;
  settled : AreSettled l.self.records.slots (any_frees (take l.undo-index l.done));
}
