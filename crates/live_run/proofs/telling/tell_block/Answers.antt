use Rattle.std.proofs.Common.{◌≡◌, ◌++◌, ap, ◌∙◌}
use Rattle.pf_history.specs.Logs.{Log}
use Rattle.play_report.specs.Entries.{entry_texts}
use Rattle.live_run.proofs.TellLemmas.{on_err, tells_same, tells_whole, entries_told, entries_lost, same_stats}
use Rattle.live_run.proofs.telling.tell_block.Goals as goal

pub returns-in_err-with_capacity-clause-front : goal.returns-in_err-with_capacity-clause-front
returns-in_err-with_capacity-clause-front g c =
    let p = c.args.pipe.now in
    let t = c.args.text.now.items in
    on_err c.from_residual.result _ (λ n. tells_whole n n p p t t (tells_same n p t))

pub returns-in_err-append_entries-clause-front : goal.returns-in_err-append_entries-clause-front
returns-in_err-append_entries-clause-front g c =
    let p = c.args.pipe.now in
    let q = c.tell_entries-block.new.self in
    let tells = c.tell_entries-block.ensures.tells c.requires in
    on_err c.from_residual-in_err-append_entries.result _
    (λ n. entries_lost n p q tells.more c.args.text.now.items c.append_entries.new.out.items tells.first
    (same_stats p q c.tell_entries-block.ensures.app) c.in_err-append_entries.ensures.kept)

pub returns-clause-told : goal.returns-clause-told
returns-clause-told g c = λ n.
    let p = c.args.pipe.now in
    let q = c.tell_entries-block.new.self in
    let t = c.args.text.now.items in
    let tells = c.tell_entries-block.ensures.tells c.requires in
    let same : c.as_slice.result.now ≡ tells.more =
    c.as_slice.ensures.value ∙ tells.entries ∙ ap (λ (es : Log). es ++ tells.more) c.in_ok-with_capacity.ensures.items in
    entries_told n p q tells.more t c.append_entries.new.out.items tells.first (same_stats p q c.tell_entries-block.ensures.app)
    (c.in_ok-append_entries.ensures.text ∙ ap (λ (es : Log). t ++ entry_texts es) same)
