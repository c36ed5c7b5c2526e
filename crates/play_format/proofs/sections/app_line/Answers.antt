use Rattle.std.proofs.Common.{◌≡◌, ◌≤◌, sym, ap, ◌∙◌, Some, None, length, List, ℤ, rules}
use Rattle.pf_model.specs.declared.geometry.Tri.{Tri}
use Rattle.play_format.specs.Making.{app_step_of}
use Rattle.play_format.specs.Sections.{LineRead}
use Rattle.play_format.proofs.SectionLemmas.{few_in_app, app_step_read, app_section_read}
use Rattle.play_format.proofs.sections.app_line.Goals as goal
use Rattle.play_format.specs.Rests.{stand}

pub returns-in_default : goal.returns-in_default
returns-in_default c = let e = rw c.in_default.is at c.in_ok-command.ensures in (e.read, e.stays)

pub new-requires : goal.new-requires
new-requires c =
    let a = stand c.args.reader.now.spot c.args.reader.now.line c.args.reader.now.rest.now in
    let b = stand c.next.new.self.spot c.next.new.self.line c.next.new.self.rest.now in
    let d = stand c.triangles.new.reader.spot c.triangles.new.reader.line c.triangles.new.reader.rest.now in
    let e = rw c.in-Some.is at c.in_ok-command.ensures in
    let read : LineRead a b c.in-Some.command c.next.new.numbers.items = record { told = e.read; fits = e.fits; spot = e.spot; line = e.line; shorter = e.shorter } in
    let few : length c.in_ok-tris.tris.items ≤ 4096 = few_in_app a b d c.in-Some.command c.next.new.numbers.items c.in_ok-tris.tris.items c.requires read c.in_ok-tris.ensures in
    search rules

pub returns-in-Some-app_step_of : goal.returns-in-Some-app_step_of
returns-in-Some-app_step_of c =
    let a = stand c.args.reader.now.spot c.args.reader.now.line c.args.reader.now.rest.now in
    let b = stand c.next.new.self.spot c.next.new.self.line c.next.new.self.rest.now in
    let d = stand c.triangles.new.reader.spot c.triangles.new.reader.line c.triangles.new.reader.rest.now in
    let e = rw c.in-Some.is at c.in_ok-command.ensures in
    let read : LineRead a b c.in-Some.command c.next.new.numbers.items = record { told = e.read; fits = e.fits; spot = e.spot; line = e.line; shorter = e.shorter } in
    let same : app_step_of c.in-Some.command c.next.new.numbers.items c.in_ok-tris.tris.items ≡ Some c.in-Some-app_step_of.step =
    ap (λ (zs : List ℤ). app_step_of c.in-Some.command zs c.in_ok-tris.tris.items) (sym c.deref.ensures.value)
    ∙ ap (λ (ts : List Tri). app_step_of c.in-Some.command c.deref.result.now ts) (sym c.in_ok-geom.ensures.tris)
    ∙ sym c.in-Some-app_step_of.ensures in
    app_step_read a b d c.in-Some.command c.next.new.numbers.items c.in_ok-tris.tris.items c.in-Some-app_step_of.step c.requires c.args.reader.now.sound.some_channel c.args.reader.now.sound.channels read c.in_ok-tris.ensures same

pub returns-in-None : goal.returns-in-None
returns-in-None c =
    let a = stand c.args.reader.now.spot c.args.reader.now.line c.args.reader.now.rest.now in
    let b = stand c.next.new.self.spot c.next.new.self.line c.next.new.self.rest.now in
    let d = stand c.triangles.new.reader.spot c.triangles.new.reader.line c.triangles.new.reader.rest.now in
    let e = rw c.in-Some.is at c.in_ok-command.ensures in
    let read : LineRead a b c.in-Some.command c.next.new.numbers.items = record { told = e.read; fits = e.fits; spot = e.spot; line = e.line; shorter = e.shorter } in
    let same : app_step_of c.in-Some.command c.next.new.numbers.items c.in_ok-tris.tris.items ≡ None =
    ap (λ (zs : List ℤ). app_step_of c.in-Some.command zs c.in_ok-tris.tris.items) (sym c.deref.ensures.value)
    ∙ ap (λ (ts : List Tri). app_step_of c.in-Some.command c.deref.result.now ts) (sym c.in_ok-geom.ensures.tris)
    ∙ sym c.in-None.ensures in
    app_section_read a b d c.in-Some.command c.next.new.numbers.items c.in_ok-tris.tris.items c.requires read c.in_ok-tris.ensures same
