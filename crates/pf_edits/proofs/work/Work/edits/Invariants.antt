use Rattle.std.proofs.Common.{◌≡◌, ◌+◌, ◌<◌, ◌≤◌, reverse, drop}
use Rattle.std.specs.List.{fold}
use Rattle.pf_model.specs.Edits.{effect}
use Rattle.pf_model.specs.Merges.{fault_from}
use Rattle.pf_edits.specs.Extents.{parents_of}
use Rattle.pf_edits.specs.Working.{told, IsWorking}
use Rattle.pf_edits.specs.Undoing.{AllUndoable, before_all}
use Rattle.pf_edits.specs.Settling.{IsTightBut, ComeFrom, any_loses}
use Rattle.pf_edits.specs.Refusals.{BeginsWell}
use Rattle.pf_edits.proofs.work.Work.edits.Given as goal

abbrev pub invariant-loop-e : goal.invariant-loop-e
invariant-loop-e l = record {
  working : IsWorking l.self;
  place : l.place ≡ l.e-index;
  serial : l.self.next_serial ≤ l.initial.self.next_serial + l.e-index;
  undoable : AllUndoable (told l.self) (parents_of l.self.records.slots) (reverse l.done.items);
  before : before_all (told l.self) (reverse l.done.items) ≡ told l.initial.self;
  faults : fault_from 1 (told l.initial.self) l.es ≡ fault_from (l.e-index + 1) (told l.self) (drop l.e-index l.es);
  effects : fold effect (told l.initial.self) l.es ≡ fold effect (told l.self) (drop l.e-index l.es);
  start : l.e-index ≡ 0 → told l.self ≡ told l.initial.self;
  lost : IsTightBut l.self.records.slots (any_loses l.es l.done.items);
  asked : ComeFrom (told l.initial.self) l.es l.self.records.slots (reverse l.done.items);
  begun : 0 < l.e-index → BeginsWell (told l.initial.self) l.es;
}
