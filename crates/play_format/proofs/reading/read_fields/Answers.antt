use Rattle.std.proofs.Common.{◌∙◌, sym}
use Rattle.play_format.specs.Rests.{left_words}
use Rattle.play_format.proofs.ReadingLemmas.{fields_read}
use Rattle.play_format.proofs.reading.read_fields.Goals as goal

pub returns-then-left_count-tail_len : goal.returns-then-left_count-tail_len
returns-then-left_count-tail_len c =
    fields_read c.args.spot c.args.command c.args.line.now (left_words c.in-Ok.left) c.read_numbers.new.numbers.items
    (rw (← c.limits.ensures, c.requires.rest) c.in-Ok.ensures.read)
    (rw (← c.limits.ensures, c.requires.rest) c.in-Ok.ensures.left)
    (sym c.left_count.ensures ∙ c.if-left_count-tail_len.true ∙ c.tail_len.ensures)
