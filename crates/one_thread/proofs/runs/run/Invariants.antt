use Rattle.std.proofs.Common.{◌≡◌, length}
use Rattle.std.specs.List.{sum_by}
use Rattle.pf_history.specs.Objects.{opening_state}
use Rattle.pf_history.specs.Commands.{edit_count}
use Rattle.one_thread.specs.Runs.{state_behind, entries_from}
use Rattle.one_thread.proofs.Running.{Counts}
use Rattle.one_thread.proofs.runs.run.Given as goal

abbrev pub invariant-loop-command : goal.invariant-loop-command
invariant-loop-command l = record {
  state : l.object ≡ state_behind (opening_state l.fn.channels) l.yielded;
  entries : l.history.entries ≡ entries_from (opening_state l.fn.channels) l.yielded;
  counts : Counts l.object (sum_by edit_count l.yielded) (length l.yielded);
}
