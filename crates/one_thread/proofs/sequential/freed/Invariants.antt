use Rattle.std.proofs.Common.{◌≡◌, take, drop}
use Rattle.std.specs.List.{count_by}
use Rattle.pf_model.specs.Copies.{is_due, freed_by}
use Rattle.one_thread.proofs.sequential.freed.Given as goal

abbrev pub invariant-loop-grave : goal.invariant-loop-grave
invariant-loop-grave l = record {
  items : l.serials.items ≡ freed_by l.retired (take l.grave-index l.graves);
  room : l.serials.spare ≡ count_by (is_due l.retired) (drop l.grave-index l.graves);
}
