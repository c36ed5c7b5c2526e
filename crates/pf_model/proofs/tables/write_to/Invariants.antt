use Rattle.std.proofs.Common.{◌≡◌, ◌+◌, ◌-◌, ◌≤◌, ◌++◌, replicate, length}
use Rattle.std.specs.Vec.{vec_len, vec_capacity}
use Rattle.pf_model.proofs.tables.write_to.Given as goal

abbrev pub invariant-loop-next : goal.invariant-loop-next
invariant-loop-next g l = record {
  length_is : length l.entries.items ≡ l.next;
  more : vec_len l.initial.entries ≤ l.next;
  idle : l.place + 1 ≤ vec_len l.initial.entries → l.next ≡ vec_len l.initial.entries;
  capacity_is : vec_capacity l.entries ≡ vec_capacity l.initial.entries;
  written : (unset : g.row.T.Denot) → ((x : g.row.T.Denot) → g.T.Default.is_default x → x ≡ unset)
      → l.entries.items ≡ l.initial.entries.items ++ replicate (l.next - length l.initial.entries.items) unset;
}
