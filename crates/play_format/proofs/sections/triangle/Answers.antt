use Rattle.play_format.specs.Sections.{stand_of, LineRead}
use Rattle.play_format.proofs.SectionLemmas.{triangle_read}
use Rattle.play_format.proofs.sections.triangle.Goals as goal

pub returns : goal.returns
returns c =
    let a = stand_of c.args.reader.now in
    let d = stand_of c.next.new.self in
    let zs = c.next.new.numbers.items in
    let e = rw c.in-Some.is at c.in_ok-next.ensures in
    let line : LineRead a d c.in-Some.field-0 zs = record { told = e.read; fits = e.fits; spot = e.spot; line = e.line; shorter = e.shorter } in
    rw (c.tri_of.ensures, c.deref.ensures.value) (triangle_read a d c.in-Some.field-0 zs c.requires line)
