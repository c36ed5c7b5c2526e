use Rattle.std.proofs.Common.{refl}
use Rattle.play_format.specs.Rests.{stand}
use Rattle.play_format.proofs.HeaderLemmas.{back_read}
use Rattle.play_format.proofs.header.back.Goals as goal

pub returns : goal.returns
returns c =
    let a = stand c.args.reader.now.spot c.args.reader.now.line c.args.reader.now.rest.now in
    let b = stand c.line.new.reader.spot c.line.new.reader.line c.line.new.reader.rest.now in
    let h = back_read a b c.in_ok-line.field-0 c.line.new.numbers.items c.requires c.in_ok-line.ensures in
    rw (c.u8_at.ensures, c.u8_at-2.ensures, c.u8_at-3.ensures, c.deref.ensures.value, c.deref-2.ensures.value, c.deref-3.ensures.value) (h.0, h.1, refl)
