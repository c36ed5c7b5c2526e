use Rattle.std.proofs.Common.{◌≡◌, ap, ◌∙◌, List, ℤ, rules}
use Rattle.std.specs.Prelude.{FitsSigned}
use Rattle.std.specs.Int.{w32}
use Rattle.std.proofs.lemmas.Int.{to_z-of_z}
use Rattle.play_format.specs.Places.{number}
use Rattle.play_format.specs.Making.{u16_at}
use Rattle.play_format.specs.Rests.{stand}
use Rattle.play_format.proofs.HeaderLemmas.{lens_read}
use Rattle.play_format.proofs.header.lens.Goals as goal

pub returns : goal.returns
returns c =
    let a = stand c.args.reader.now.spot c.args.reader.now.line c.args.reader.now.rest.now in
    let b = stand c.line.new.reader.spot c.line.new.reader.line c.line.new.reader.rest.now in
    let h = lens_read a b c.in_ok-line.field-0 c.line.new.numbers.items c.args.w c.args.h c.requires.place c.requires.size c.in_ok-line.ensures in
    let near_fits : FitsSigned w32 c.number-near.result = search rules in
    let far_fits : FitsSigned w32 c.number-far.result = search rules in
    let f : c.in-Some.lens.f ≡ u16_at c.line.new.numbers.items 0 = c.in-Some.ensures.f ∙ c.u16_at.ensures ∙ ap (λ (zs : List ℤ). u16_at zs 0) c.deref-3.ensures.value in
    let near : c.in-Some.lens.near ≡ number c.line.new.numbers.items 1 =
    c.in-Some.ensures.near ∙ to_z-of_z w32 c.number-near.result near_fits ∙ c.number-near.ensures ∙ ap (λ (zs : List ℤ). number zs 1) c.deref.ensures.value in
    let far : c.in-Some.lens.far ≡ number c.line.new.numbers.items 2 =
    c.in-Some.ensures.far ∙ to_z-of_z w32 c.number-far.result far_fits ∙ c.number-far.ensures ∙ ap (λ (zs : List ℤ). number zs 2) c.deref-2.ensures.value in
    rw (f, near, far) (h.0, h.1, c.in-Some.ensures.w, c.in-Some.ensures.h)
