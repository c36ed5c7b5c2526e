use Rattle.std.proofs.Common.{◌≡◌, ◌||◌, ℕ, true, reverse, vec_len}
use Rattle.pf_edits.specs.Ways.{is_in}
use Rattle.pf_edits.specs.Extents.{parents_of}
use Rattle.pf_edits.specs.Working.{told, IsWorking}
use Rattle.pf_edits.specs.Undoing.{AllUndoable, before_all}
use Rattle.pf_edits.specs.Settling.{any_brings}
use Rattle.pf_edits.proofs.work.Work.roll_back.Given as goal

abbrev pub invariant-loop-undo : goal.invariant-loop-undo
invariant-loop-undo l = record {
  working : IsWorking l.self;
  undoable : AllUndoable (told l.self) (parents_of l.self.records.slots) (reverse l.done.items);
  same : before_all (told l.self) (reverse l.done.items) ≡ before_all (told l.initial.self) (reverse l.initial.done.items);
  brought : (y x : ℕ) → (is_in y (parents_of l.self.records.slots x) || any_brings (reverse l.done.items) y x) ≡ true
      → (is_in y (parents_of l.initial.self.records.slots x) || any_brings (reverse l.initial.done.items) y x) ≡ true;
}

abbrev pub decreases-loop-undo : goal.decreases-loop-undo
decreases-loop-undo l = vec_len l.done
