use Rattle.std.proofs.Common.{◌≡◌, ℕ, ◌+◌, List, ◌++◌, drop, sym, ap, ◌∙◌}
use Rattle.draw_list.specs.declared.stats.Stats.{Stats}
use Rattle.play_report.specs.Entries.{entry_texts}
use Rattle.play_report.specs.Frames.{frame_texts}
use Rattle.live_run.proofs.TellLemmas.{rest_lists}
use Rattle.live_run.proofs.telling.Closed.append_rest.Goals as goal

pub returns-clause-rest : goal.returns-clause-rest
returns-clause-rest c =
    let closed = c.args.self.now in
    let log = closed.played.history.entries in
    let t = c.args.text.now.items in
    let a = c.append_untold.new.text.items in
    let same : closed.played.history.told ≡ closed.told = sym c.told.ensures.value ∙ c.if-told-self.false in
    rest_lists closed.frames (drop closed.told log) closed.played.stats.items t a c.append_frames.new.text.items c.extend_from_slice.new.self.items
    (c.in_ok-append_untold.ensures ∙ ap (λ (x : List ℕ). x ++ entry_texts (drop closed.played.history.told log)) c.new-rest.ensures.items
    ∙ ap (λ (k : ℕ). entry_texts (drop k log)) same)
    (c.in_ok-append_frames.ensures ∙ ap (λ (ss : List Stats). a ++ frame_texts (closed.frames + 1) ss) c.as_slice.ensures.value)
    (c.in_ok-extend_from_slice.ensures.items ∙ ap (λ (x : List ℕ). t ++ x) c.as_slice-2.ensures.value)
