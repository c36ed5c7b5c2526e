use Rattle.std.proofs.Common.{◌∙◌, ap, sym, Some}
use Rattle.perfly_top.proofs.Tellings.{same_numbers, account_report, account_summary, appended}
use Rattle.perfly_top.proofs.playing.append_account.Goals as goal

pub returns-in-Some : goal.returns-in-Some
returns-in-Some c = λ play words make numbers.
    let log = c.args.run.now.played.history.entries in
    let stats = c.as_slice-stats.ensures.value ∙ numbers ∙ same_numbers play.lens play.channels log in
    let all = account_summary words play log c.from.result c.args.run.now.sum (make ∙ c.in-Some.is ∙ ap Some (sym c.from.ensures)) in
    appended c.append_summary.result c.args.text.now.items c.append_summary.new.out.items _ _ all (c.append_summary.ensures.summary play.lens play.channels stats)

pub returns-in-None : goal.returns-in-None
returns-in-None c = λ play words make numbers.
    let log = c.args.run.now.played.history.entries in
    let stats = c.as_slice-stats.ensures.value ∙ numbers ∙ same_numbers play.lens play.channels log in
    let all = account_report words play log c.args.run.now.sum (make ∙ c.in-None.is) in
    appended c.append_report.result c.args.text.now.items c.append_report.new.out.items _ _ all (c.append_report.ensures.report play.lens play.channels stats)
