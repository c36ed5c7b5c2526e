use Rattle.std.proofs.Common.{◌≡◌, ◌⊎◌, ◌∙◌, ℕ, Option, map, ap, sym, subst}
use Rattle.std.specs.String.{string_bytes}
use Rattle.std.specs.Process.{exit_status}
use Rattle.pipe_plays.specs.declared.played.PlayEnd.TheVariants as end
use Rattle.program_words.specs.declared.words.Words.{Words}
use Rattle.program_words.specs.Meaning.{meaning_of_words}
use Rattle.perfly_top.specs.Arguments.{meaning_of_arguments}
use Rattle.perfly_top.specs.Endings.{FindsEnd}
use Rattle.perfly_top.proofs.Arguments.{part_by}
use Rattle.perfly_top.proofs.Ends.{unread_ends}
use Rattle.perfly_top.proofs.exit.run.Goals as goal

pub returns-in-Ok-clause-unread : goal.returns-in-Ok-clause-unread
returns-in-Ok-clause-unread g c = λ words n meaning make.
    let same = ap (λ xs. meaning_of_words (map string_bytes xs)) c.as_slice.ensures.value ∙ c.in-Ok.ensures.meaning in
    c.perfly-ended.ensures.unread words n (same ∙ meaning) make

pub returns-in-Ok-clause-made : goal.returns-in-Ok-clause-made
returns-in-Ok-clause-made g c = λ words n meaning make.
    let same = ap (λ xs. meaning_of_words (map string_bytes xs)) c.as_slice.ensures.value ∙ c.in-Ok.ensures.meaning in
    subst (λ (s : ℕ). (s ≡ 0) ⊎ (s ≡ 5) ⊎ (s ≡ 6) ⊎ (s ≡ 7)) (sym c.from-in-Ok.ensures)
    (c.perfly-ended.ensures.made words n (same ∙ meaning) make)

pub returns-in-Ok-clause-part : goal.returns-in-Ok-clause-part
returns-in-Ok-clause-part g c = λ e.
    let same = ap (λ xs. meaning_of_words (map string_bytes xs)) c.as_slice.ensures.value ∙ c.in-Ok.ensures.meaning in
    part_by (meaning_of_arguments c.args.arguments) (meaning_of_words (map string_bytes c.as_slice.result.now)) (g.I.Source.left c.args.input.now)
    (g.I.Source.left c.perfly-ended.new.input) end.NoMemory c.perfly-ended.result.history.entries (g.O.Sink.written c.args.frames.now)
    (g.O.Sink.written c.perfly-ended.new.frames) same (c.perfly-ended.ensures.part (sym c.from-in-Ok.ensures ∙ e))

pub returns-in-Err-clause-ends : goal.returns-in-Err-clause-ends
returns-in-Err-clause-ends g c =
    let meant = meaning_of_arguments c.args.arguments in
    let left = g.I.Source.left c.args.input.now in
    let ends = g.I.Source.ends c.args.input.now in
    subst (λ (s : ℕ). FindsEnd meant left left ends ends s) (sym (c.from.ensures ∙ c.stopped.ensures.status))
    (unread_ends meant left ends c.in-Err.stop c.in-Err.ensures.why)

pub returns-in-Ok-clause-ends : goal.returns-in-Ok-clause-ends
returns-in-Ok-clause-ends g c =
    let same = ap (λ xs. meaning_of_words (map string_bytes xs)) c.as_slice.ensures.value ∙ c.in-Ok.ensures.meaning in
    let left = g.I.Source.left c.args.input.now in
    let left' = g.I.Source.left c.perfly-ended.new.input in
    let ends = g.I.Source.ends c.args.input.now in
    let ends' = g.I.Source.ends c.perfly-ended.new.input in
    subst (λ (m : Option Words). FindsEnd m left left' ends ends' (exit_status c.from-in-Ok.result)) same
    (subst (λ (s : ℕ). FindsEnd (meaning_of_words (map string_bytes c.as_slice.result.now)) left left' ends ends' s) (sym c.from-in-Ok.ensures)
    c.perfly-ended.ensures.ends)
