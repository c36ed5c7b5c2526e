use Rattle.std.proofs.Common.{sym, ap, ◌∙◌, List, Result, Err}
use Rattle.play_format.specs.declared.refusal.Why.{Why}
use Rattle.play_format.specs.declared.refusal.Refusal.{Refusal}
use Rattle.play_format.specs.declared.places.Version.{Version}
use Rattle.play_format.specs.Commands.{Entry}
use Rattle.play_format.proofs.HeaderLemmas.{too_long, one_piece, first_read}
use Rattle.play_format.proofs.header.version.Goals as goal

abbrev refusal : Why → Result (Version × List Entry) Refusal
refusal why = Err (record { line = 1; why = why })

pub returns-then-text-gt-MAX_PLAY_BYTES : goal.returns-then-text-gt-MAX_PLAY_BYTES
returns-then-text-gt-MAX_PLAY_BYTES c = too_long c.args.text.now c.if-text-gt-MAX_PLAY_BYTES.true

pub returns-in_default : goal.returns-in_default
returns-in_default c = one_piece c.args.text.now c.if-text-gt-MAX_PLAY_BYTES.false c.in_default.ensures.parts ∙ ap (λ (why : Why). refusal why) (sym c.unended.ensures)

pub returns-in-Ok : goal.returns-in-Ok
returns-in-Ok c = (first_read c.args.text.now c.in-Some.line.now c.in-Some.rest.now _ c.if-text-gt-MAX_PLAY_BYTES.false c.in-Some.ensures.parts (sym c.in-Ok.ensures), c.in-Some.ensures.end)

pub returns-in-Err : goal.returns-in-Err
returns-in-Err c = first_read c.args.text.now c.in-Some.line.now c.in-Some.rest.now _ c.if-text-gt-MAX_PLAY_BYTES.false c.in-Some.ensures.parts (sym c.in-Err.ensures)
