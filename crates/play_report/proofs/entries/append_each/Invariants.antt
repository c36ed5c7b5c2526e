use Rattle.std.proofs.Common.{◌≡◌, ◌++◌, drop}
use Rattle.play_report.specs.Entries.{entry_texts}
use Rattle.play_report.proofs.entries.append_each.Given as goal

abbrev pub invariant-loop-numbered : goal.invariant-loop-numbered
invariant-loop-numbered l =
    l.out.items ++ entry_texts (drop l.numbered-index l.entries) ≡ l.fn.out.items ++ entry_texts l.entries
