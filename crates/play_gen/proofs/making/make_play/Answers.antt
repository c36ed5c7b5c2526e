use Rattle.std.proofs.Common.{◌≡◌, ◌∙◌, sym, subst}
use Rattle.play_format.specs.declared.refusal.ParseError.TheVariants as parse_error
use Rattle.play_format.specs.Reads.{HasReading, IsRefusal}
use Rattle.play_gen.specs.Lines.{generated_text}
use Rattle.play_gen.proofs.ReadingLemmas.{has_reading}
use Rattle.play_gen.proofs.making.make_play.Goals as goal

pub unreachable-requires : goal.unreachable-requires
unreachable-requires c =
    let text : c.as_slice.result.now ≡ generated_text c.args.n = c.as_slice.ensures.value ∙ c.in_ok-text.ensures in
    let refused : IsRefusal (parse_error.Refused c.in-Err-Refused.field-0-0) c.as_slice.result.now = rw
    (c.in-Err-Refused.is, c.in-Err-Refused.field-0-is) at c.parse.ensures.refused in
    refused.1 (subst HasReading (sym text) (has_reading c.args.n c.requires.most))
