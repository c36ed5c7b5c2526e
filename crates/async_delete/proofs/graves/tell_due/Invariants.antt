use Rattle.std.proofs.Common.{◌≡◌, ◌+◌, ◌≤◌, ◌++◌, length, take, drop}
use Rattle.pf_model.specs.Copies.{freed_by}
use Rattle.async_delete.proofs.graves.tell_due.Given as goal

abbrev pub invariant-loop-grave : goal.invariant-loop-grave
invariant-loop-grave l = record {
  serials : l.out.items ≡ l.initial.out.items ++ freed_by l.retired (take l.grave-index l.graves);
  spare : l.out.spare + length (freed_by l.retired (take l.grave-index l.graves)) ≡ l.initial.out.spare;
  room : length (freed_by l.retired (drop l.grave-index l.graves)) ≤ l.out.spare;
}
