use Rattle.std.proofs.Common.{◌≡◌, ◌==◌, ◌&&◌, ℕ, true, take}
use Rattle.pf_edits.specs.Ways.{is_in}
use Rattle.pf_edits.specs.Extents.{look_of, parents_of, IsSound}
use Rattle.pf_edits.specs.Settling.{AreSettled}
use Rattle.pf_edits.proofs.settle.settle_links.Given as goal

abbrev pub invariant-loop-child : goal.invariant-loop-child
invariant-loop-child l = record {
  nodes : (b : ℕ) → look_of l.records.slots b ≡ look_of l.initial.records.slots b;
  sound : IsSound l.records.slots;
  fewer : (b p : ℕ) → is_in p (parents_of l.records.slots b) ≡ true → is_in p (parents_of l.initial.records.slots b) ≡ true;
  settled : AreSettled l.records.slots (λ y x. l.parent == y && is_in x (take l.child-index l.children));
}
