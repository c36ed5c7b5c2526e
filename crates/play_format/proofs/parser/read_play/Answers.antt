use Rattle.std.proofs.Common.{sym, true, false}
use Rattle.play_format.specs.Places.{start}
use Rattle.play_format.specs.Sections.{HeaderRead, AppSection}
use Rattle.play_format.proofs.PlayLemmas.{play_of_app, play_of_both, read_app, read_both, header_line}
use Rattle.play_format.proofs.parser.read_play.Goals as goal
use Rattle.play_format.specs.Rests.{stand}

pub new-requires-then-not-more : goal.new-requires-then-not-more
new-requires-then-not-more c =
    let b = stand c.header.new.reader.spot c.header.new.reader.line c.header.new.reader.rest.now in
    let d = stand c.app_section.new.reader.spot c.app_section.new.reader.line c.app_section.new.reader.rest.now in
    let head : HeaderRead (stand (start c.in_ok-version.version) 2 c.in_ok-version.rest.now) b c.in_ok-lens.lens c.in_ok-lens.back = rw (← c.start.ensures) c.in_ok-lens.ensures in
    let section : AppSection b d c.in_ok-app.app.items false = rw c.if-not-more.true at c.in_ok-app.ensures in
    rw c.new.ensures.items (play_of_app head.says b d c.in_ok-lens.lens c.in_ok-lens.back c.in_ok-app.app.items c.header.new.reader.sound (sym (header_line head.says b.line head.line)) c.app_section.new.reader.few section)

pub returns-then-not-more : goal.returns-then-not-more
returns-then-not-more c =
    let b = stand c.header.new.reader.spot c.header.new.reader.line c.header.new.reader.rest.now in
    let d = stand c.app_section.new.reader.spot c.app_section.new.reader.line c.app_section.new.reader.rest.now in
    let head : HeaderRead (stand (start c.in_ok-version.version) 2 c.in_ok-version.rest.now) b c.in_ok-lens.lens c.in_ok-lens.back = rw (← c.start.ensures) c.in_ok-lens.ensures in
    let section : AppSection b d c.in_ok-app.app.items false = rw c.if-not-more.true at c.in_ok-app.ensures in
    rw (c.new-then-not-more.ensures, c.new.ensures.items) (read_app c.args.bytes.now c.in_ok-version.rest.now c.in_ok-version.version b d c.in_ok-lens.lens c.in_ok-lens.back c.in_ok-app.app.items c.in_ok-version.ensures.0 head section)

pub new-requires-2 : goal.new-requires-2
new-requires-2 c =
    let b = stand c.header.new.reader.spot c.header.new.reader.line c.header.new.reader.rest.now in
    let d = stand c.app_section.new.reader.spot c.app_section.new.reader.line c.app_section.new.reader.rest.now in
    let head : HeaderRead (stand (start c.in_ok-version.version) 2 c.in_ok-version.rest.now) b c.in_ok-lens.lens c.in_ok-lens.back = rw (← c.start.ensures) c.in_ok-lens.ensures in
    let e = stand c.base_section.new.reader.spot c.base_section.new.reader.line c.base_section.new.reader.rest.now in
    let section : AppSection b d c.in_ok-app.app.items true = rw c.if-not-more.false at c.in_ok-app.ensures in
    play_of_both head.says b d e c.in_ok-lens.lens c.in_ok-lens.back c.in_ok-app.app.items c.in_ok-dbase.dbase.items c.header.new.reader.sound (sym (header_line head.says b.line head.line)) c.base_section.new.reader.few section c.in_ok-dbase.ensures

pub returns : goal.returns
returns c =
    let b = stand c.header.new.reader.spot c.header.new.reader.line c.header.new.reader.rest.now in
    let d = stand c.app_section.new.reader.spot c.app_section.new.reader.line c.app_section.new.reader.rest.now in
    let head : HeaderRead (stand (start c.in_ok-version.version) 2 c.in_ok-version.rest.now) b c.in_ok-lens.lens c.in_ok-lens.back = rw (← c.start.ensures) c.in_ok-lens.ensures in
    let e = stand c.base_section.new.reader.spot c.base_section.new.reader.line c.base_section.new.reader.rest.now in
    let section : AppSection b d c.in_ok-app.app.items true = rw c.if-not-more.false at c.in_ok-app.ensures in
    rw c.new-2.ensures (read_both c.args.bytes.now c.in_ok-version.rest.now c.in_ok-version.version b d e c.in_ok-lens.lens c.in_ok-lens.back c.in_ok-app.app.items c.in_ok-dbase.dbase.items c.in_ok-version.ensures.0 head section c.in_ok-dbase.ensures)
