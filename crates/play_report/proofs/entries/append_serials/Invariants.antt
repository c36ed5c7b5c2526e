use Rattle.std.proofs.Common.{◌≡◌, ◌++◌, drop}
use Rattle.play_report.specs.Entries.{serials_text}
use Rattle.play_report.proofs.entries.append_serials.Given as goal

abbrev pub invariant-loop-serial : goal.invariant-loop-serial
invariant-loop-serial l =
    l.out.items ++ serials_text (drop l.serial-index l.serials) ≡ l.fn.out.items ++ serials_text l.serials
