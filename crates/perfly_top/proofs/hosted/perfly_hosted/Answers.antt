use Rattle.std.proofs.Common.{◌≡◌, ◌∙◌, ℕ, Some, refl, sym, ap, subst, inl, inr}
use Rattle.program_ends.specs.Statuses.{status_of}
use Rattle.perfly_top.specs.Endings.{FindsEnd, IsDue}
use Rattle.perfly_top.proofs.Whys.{why_front, read_front, right_status}
use Rattle.perfly_top.proofs.Dues.{stopped_due, played_is_due, made_why}
use Rattle.perfly_top.proofs.Ends.{stopped_ends, played_ends, unasked_of}
use Rattle.perfly_top.proofs.hosted.perfly_hosted.Goals as goal

pub returns-in-Err-clause-right_words : goal.returns-in-Err-clause-right_words
returns-in-Err-clause-right_words g c = λ e.
    right_status c.args.words (g.I.Source.left c.args.input.now) (g.I.Source.left c.prepared.new.input) c.in-Err.stop c.in-Err.ensures.why
    (sym c.stopped.ensures.status ∙ e)

pub returns-in-Err-clause-part_read : goal.returns-in-Err-clause-part_read
returns-in-Err-clause-part_read g c =
    why_front (Some c.args.words) (g.I.Source.left c.args.input.now) (g.I.Source.left c.prepared.new.input) c.in-Err.stop c.in-Err.ensures.why

pub returns-in-Err-clause-due : goal.returns-in-Err-clause-due
returns-in-Err-clause-due g c =
    let meant = Some c.args.words in
    let left = g.I.Source.left c.args.input.now in
    subst (λ (n : ℕ). IsDue meant left n) (sym c.stopped.ensures.status)
    (stopped_due meant left (g.I.Source.left c.prepared.new.input) c.in-Err.stop c.in-Err.ensures.why)

pub returns-in-Ok-clause-done : goal.returns-in-Ok-clause-done
returns-in-Ok-clause-done g c = λ e.
    record {
      words = c.args.words;
      play = c.in-Ok.play;
      given = c.in-Ok.ensures.given;
      played = c.played.ensures.played (inl e);
      sum = (c.played.ensures.whole e).0;
      summed = (c.played.ensures.whole e).1;
      told = (c.played.ensures.whole e).2;
    }

pub returns-in-Ok-clause-untold : goal.returns-in-Ok-clause-untold
returns-in-Ok-clause-untold g c = λ e.
    record {
      words = c.args.words;
      play = c.in-Ok.play;
      given = c.in-Ok.ensures.given;
      played = c.played.ensures.played (inr e);
      sum = (c.played.ensures.some_told e).0;
      summed = (c.played.ensures.some_told e).1;
      told = (c.played.ensures.some_told e).2;
    }

pub returns-in-Ok-clause-begun : goal.returns-in-Ok-clause-begun
returns-in-Ok-clause-begun g c = λ e.
    record {
      words = c.args.words;
      play = c.in-Ok.play;
      given = c.in-Ok.ensures.given;
      can_end = c.in-Ok.ensures.can_end;
      part = c.played.ensures.begun e;
    }

pub returns-in-Ok-clause-part : goal.returns-in-Ok-clause-part
returns-in-Ok-clause-part g c = λ e.
    inr (record {
      words = c.args.words;
      play = c.in-Ok.play;
      given = c.in-Ok.ensures.given;
      can_end = c.in-Ok.ensures.can_end;
      part = c.played.ensures.part e;
    })

pub returns-in-Ok-clause-part_read : goal.returns-in-Ok-clause-part_read
returns-in-Ok-clause-part_read g c =
    let given = c.in-Ok.ensures.given in
    read_front c.args.words.make (g.I.Source.left c.args.input.now) (g.I.Source.left c.prepared.new.input) given.read

pub returns-in-Ok-clause-due : goal.returns-in-Ok-clause-due
returns-in-Ok-clause-due g c =
    played_is_due (Some c.args.words) (g.I.Source.left c.args.input.now) (g.I.Source.left c.prepared.new.input) c.args.words c.in-Ok.play
    c.played.result.status c.in-Ok.ensures.given c.in-Ok.ensures.can_end c.played.ensures.one_of

pub returns-in-Err-clause-made : goal.returns-in-Err-clause-made
returns-in-Err-clause-made g c = λ words n meaning make.
    let memory = made_why (Some c.args.words) (g.I.Source.left c.args.input.now) (g.I.Source.left c.prepared.new.input) c.in-Err.stop
    c.in-Err.ensures.why words n meaning make in
    inr (inr (inr (c.stopped.ensures.status ∙ ap status_of memory)))

pub returns-in-Ok-clause-made : goal.returns-in-Ok-clause-made
returns-in-Ok-clause-made g c = λ words n meaning make. c.played.ensures.one_of

pub returns-in-Err-clause-ends : goal.returns-in-Err-clause-ends
returns-in-Err-clause-ends g c =
    let meant = Some c.args.words in
    let left = g.I.Source.left c.args.input.now in
    let left' = g.I.Source.left c.prepared.new.input in
    let ends = g.I.Source.ends c.args.input.now in
    let ends' = g.I.Source.ends c.prepared.new.input in
    subst (λ (n : ℕ). FindsEnd meant left left' ends ends' n) (sym c.stopped.ensures.status)
    (stopped_ends meant left left' ends ends' c.in-Err.stop c.in-Err.ensures.ends
    (unasked_of (ends' ≡ ends) (Some c.args.words) c.args.words refl c.prepared.ensures.no_end))

pub returns-in-Ok-clause-ends : goal.returns-in-Ok-clause-ends
returns-in-Ok-clause-ends g c =
    played_ends (Some c.args.words) (g.I.Source.left c.args.input.now)
    (g.I.Source.left c.prepared.new.input) (g.I.Source.ends c.args.input.now) (g.I.Source.ends c.prepared.new.input)
    c.args.words c.played.result.status refl c.in-Ok.ensures.one_end c.played.ensures.one_of
