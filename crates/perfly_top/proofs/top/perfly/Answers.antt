use Rattle.std.proofs.Common.{◌≡◌, ◌∙◌, ℕ, Some, map, sym, ap, subst, inr}
use Rattle.std.specs.String.{string_bytes}
use Rattle.program_words.specs.Meaning.{meaning_of_words}
use Rattle.program_ends.specs.Statuses.{status_of}
use Rattle.perfly_top.specs.Endings.{FindsEnd, IsDue}
use Rattle.perfly_top.specs.Setups.{words_alone}
use Rattle.perfly_top.proofs.Whys.{why_front, unread_why}
use Rattle.perfly_top.proofs.Dues.{stopped_due, made_why}
use Rattle.perfly_top.proofs.Ends.{unread_ends, unasked_of}
use Rattle.perfly_top.proofs.top.perfly.Goals as goal

pub returns-in-Err-clause-part_read : goal.returns-in-Err-clause-part_read
returns-in-Err-clause-part_read g c =
    let meant = meaning_of_words (map string_bytes c.args.words.now) in
    let left = g.I.Source.left c.args.input.now in
    why_front meant left left c.in-Err.stop (unread_why meant left c.in-Err.stop c.in-Err.ensures.wrong)

pub returns-in-Err-clause-due : goal.returns-in-Err-clause-due
returns-in-Err-clause-due g c =
    let meant = meaning_of_words (map string_bytes c.args.words.now) in
    let left = g.I.Source.left c.args.input.now in
    subst (λ (n : ℕ). IsDue meant left n) (sym c.stopped.ensures.status)
    (stopped_due meant left left c.in-Err.stop (unread_why meant left c.in-Err.stop c.in-Err.ensures.wrong))

pub returns-in-Err-clause-made : goal.returns-in-Err-clause-made
returns-in-Err-clause-made g c = λ words n meaning make.
    let meant = meaning_of_words (map string_bytes c.args.words.now) in
    let left = g.I.Source.left c.args.input.now in
    let memory = made_why meant left left c.in-Err.stop (unread_why meant left c.in-Err.stop c.in-Err.ensures.wrong) words n meaning make in
    inr (inr (inr (c.stopped.ensures.status ∙ ap status_of memory)))

pub returns-in-Err-clause-ends : goal.returns-in-Err-clause-ends
returns-in-Err-clause-ends g c =
    let meant = meaning_of_words (map string_bytes c.args.words.now) in
    let left = g.I.Source.left c.args.input.now in
    let ends = g.I.Source.ends c.args.input.now in
    subst (λ (n : ℕ). FindsEnd meant left left ends ends n) (sym c.stopped.ensures.status)
    (unread_ends meant left ends c.in-Err.stop c.in-Err.ensures.wrong)

pub returns-in-Some-clause-done : goal.returns-in-Some-clause-done
returns-in-Some-clause-done g c =
    let meant = c.in-Ok.ensures.meaning ∙ sym (ap Some c.in-Some.ensures.same) in
    rw meant c.perfly_alone.ensures.done

pub returns-in-Some-clause-wrong_words : goal.returns-in-Some-clause-wrong_words
returns-in-Some-clause-wrong_words g c = λ e. absurd (c.perfly_alone.ensures.right_words e)

pub returns-in-Some-clause-refused : goal.returns-in-Some-clause-refused
returns-in-Some-clause-refused g c =
    let meant = c.in-Ok.ensures.meaning ∙ sym (ap Some c.in-Some.ensures.same) in
    rw meant c.perfly_alone.ensures.refused

pub returns-in-Some-clause-stuck : goal.returns-in-Some-clause-stuck
returns-in-Some-clause-stuck g c =
    let meant = c.in-Ok.ensures.meaning ∙ sym (ap Some c.in-Some.ensures.same) in
    rw meant c.perfly_alone.ensures.stuck

pub returns-in-Some-clause-untold : goal.returns-in-Some-clause-untold
returns-in-Some-clause-untold g c =
    let meant = c.in-Ok.ensures.meaning ∙ sym (ap Some c.in-Some.ensures.same) in
    rw meant c.perfly_alone.ensures.untold

pub returns-in-Some-clause-begun : goal.returns-in-Some-clause-begun
returns-in-Some-clause-begun g c =
    let meant = c.in-Ok.ensures.meaning ∙ sym (ap Some c.in-Some.ensures.same) in
    rw meant c.perfly_alone.ensures.begun

pub returns-in-Some-clause-part : goal.returns-in-Some-clause-part
returns-in-Some-clause-part g c =
    let meant = c.in-Ok.ensures.meaning ∙ sym (ap Some c.in-Some.ensures.same) in
    rw meant c.perfly_alone.ensures.part

pub returns-in-Some-clause-ends : goal.returns-in-Some-clause-ends
returns-in-Some-clause-ends g c =
    let meant = c.in-Ok.ensures.meaning ∙ sym (ap Some c.in-Some.ensures.same) in
    rw meant c.perfly_alone.ensures.ends

pub returns-in-Some-clause-due : goal.returns-in-Some-clause-due
returns-in-Some-clause-due g c =
    let meant = c.in-Ok.ensures.meaning ∙ sym (ap Some c.in-Some.ensures.same) in
    rw meant c.perfly_alone.ensures.due

pub returns-in-Some-clause-made : goal.returns-in-Some-clause-made
returns-in-Some-clause-made g c =
    let meant = c.in-Ok.ensures.meaning ∙ sym (ap Some c.in-Some.ensures.same) in
    rw meant c.perfly_alone.ensures.made

pub returns-in-Some-clause-unread : goal.returns-in-Some-clause-unread
returns-in-Some-clause-unread g c =
    let meant = c.in-Ok.ensures.meaning ∙ sym (ap Some c.in-Some.ensures.same) in
    unasked_of (g.I.Source.left c.perfly_alone.new.input ≡ g.I.Source.left c.args.input.now) (meaning_of_words (map string_bytes c.args.words.now)) (words_alone c.in-Some.alone) meant c.perfly_alone.ensures.unread

pub returns-in-None-clause-done : goal.returns-in-None-clause-done
returns-in-None-clause-done g c =
    let meant = c.in-Ok.ensures.meaning in
    rw meant c.perfly_hosted.ensures.done

pub returns-in-None-clause-wrong_words : goal.returns-in-None-clause-wrong_words
returns-in-None-clause-wrong_words g c = λ e. absurd (c.perfly_hosted.ensures.right_words e)

pub returns-in-None-clause-refused : goal.returns-in-None-clause-refused
returns-in-None-clause-refused g c =
    let meant = c.in-Ok.ensures.meaning in
    rw meant c.perfly_hosted.ensures.refused

pub returns-in-None-clause-stuck : goal.returns-in-None-clause-stuck
returns-in-None-clause-stuck g c =
    let meant = c.in-Ok.ensures.meaning in
    rw meant c.perfly_hosted.ensures.stuck

pub returns-in-None-clause-untold : goal.returns-in-None-clause-untold
returns-in-None-clause-untold g c =
    let meant = c.in-Ok.ensures.meaning in
    rw meant c.perfly_hosted.ensures.untold

pub returns-in-None-clause-begun : goal.returns-in-None-clause-begun
returns-in-None-clause-begun g c =
    let meant = c.in-Ok.ensures.meaning in
    rw meant c.perfly_hosted.ensures.begun

pub returns-in-None-clause-part : goal.returns-in-None-clause-part
returns-in-None-clause-part g c =
    let meant = c.in-Ok.ensures.meaning in
    rw meant c.perfly_hosted.ensures.part

pub returns-in-None-clause-ends : goal.returns-in-None-clause-ends
returns-in-None-clause-ends g c =
    let meant = c.in-Ok.ensures.meaning in
    rw meant c.perfly_hosted.ensures.ends

pub returns-in-None-clause-due : goal.returns-in-None-clause-due
returns-in-None-clause-due g c =
    let meant = c.in-Ok.ensures.meaning in
    rw meant c.perfly_hosted.ensures.due

pub returns-in-None-clause-made : goal.returns-in-None-clause-made
returns-in-None-clause-made g c =
    let meant = c.in-Ok.ensures.meaning in
    rw meant c.perfly_hosted.ensures.made

pub returns-in-None-clause-unread : goal.returns-in-None-clause-unread
returns-in-None-clause-unread g c =
    let meant = c.in-Ok.ensures.meaning in
    unasked_of (g.I.Source.left c.perfly_hosted.new.input ≡ g.I.Source.left c.args.input.now) (meaning_of_words (map string_bytes c.args.words.now)) c.in-Ok.words meant c.perfly_hosted.ensures.unread
