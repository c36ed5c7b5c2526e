use Rattle.play_format.proofs.EarlyLemmas.{early_of, end_of_end}
use Rattle.play_format.proofs.early.pass.Goals as goal

pub returns-in-Ok-clause-kept : goal.returns-in-Ok-clause-kept
returns-in-Ok-clause-kept c = λ text end all.
    let next = c.in-Some.next.now in
    let row = c.lines_in_a_row-behind.ensures in
    c.keep.ensures text (rw c.deref.ensures.value (early_of text next c.lines_in_a_row-behind.result.now c.lines_in_a_row-behind.new.tris.items (end_of_end text c.args.rest.now next end c.in-Some.ensures.end) row.end row.lines)) all

pub returns-in-Err-clause-kept : goal.returns-in-Err-clause-kept
returns-in-Err-clause-kept c = λ text end all.
    let next = c.in-Some.next.now in
    let row = c.lines_in_a_row-behind.ensures in
    c.keep.ensures text (rw c.deref.ensures.value (early_of text next c.lines_in_a_row-behind.result.now c.lines_in_a_row-behind.new.tris.items (end_of_end text c.args.rest.now next end c.in-Some.ensures.end) row.end row.lines)) all
