use Rattle.std.proofs.Common.{◌≡◌, ◌+◌, ◌++◌, drop}
use Rattle.play_report.specs.Probes.{probe_lines}
use Rattle.play_report.proofs.probes.append_lines.Given as goal

abbrev pub invariant-loop-i : goal.invariant-loop-i
invariant-loop-i l = l.out.items ++ probe_lines (l.i + 1) (drop l.i l.probes) ≡ l.fn.out.items ++ probe_lines 1 l.probes
