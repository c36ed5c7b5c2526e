use Rattle.std.proofs.Common.{◌≡◌, ◌<◌, [], ◌∷◌, sym, ap, ◌∙◌, subst, arith}
use mathlib.Core.Option.{none}
use Rattle.atomic_table.specs.Table.{step, Allows, rest}
use Rattle.self_scheduling.specs.Claims.{AreClaimed}
use Rattle.self_scheduling.specs.Steps.{Claims, GivesBack}
use Rattle.self_scheduling.proofs.Rules.{claims, gives_back}
use Rattle.self_scheduling.proofs.Seats.{same_value, get_read}
use Rattle.self_scheduling.proofs.calls.claim.Goals as goal

pub swap-requires : goal.swap-requires
swap-requires g c =
    let items = g.B.Told.items in
    let me = c.args.seat.now.me in
    let size = c.requires.table.1 in
    let inside : c.args.k < c.args.table.now.table_id.words = omega (arith, size, c.requires.place) in (
      c.requires.table.0,
      inside,
      subst (λ held. Allows (AreClaimed items g.B.Told.leaves c.args.table.now.key) c.args.table.now.table_id.slots c.args.seat.now.id (me.0, held)
          c.args.k (λ _. 1) (Claims items (step c.args.table.now.table_id.slots c.args.k 1 0 none) (me.0, held)))
          (sym c.requires.free.0)
          (claims items g.B.Told.leaves c.args.table.now.key c.args.table.now.table_id.slots c.args.seat.now.id c.args.k me.0
          c.requires.place c.requires.free.1 c.requires.free.2 c.requires.free.3),
    )

pub call_at-requires : goal.call_at-requires
call_at-requires g c =
    let got = c.swap.ensures.2.0 c.if-swap-ne0.false in
    let same = same_value c.args.k got.0 c.slot_mut.result.now c.swap.new.seat.me.1 (rest c.swap.new.seat.me.1) (ap (λ m. m.1) got.2)
    c.slot_mut.ensures.value in
    λ p is. c.requires.accepts c.args.k p c.requires.place
    (is ∙ sym same ∙ sym (get_read g.B.Told.items c.args.k got.0 p.now got.1))

pub load-requires : goal.load-requires
load-requires g c =
    let items = g.B.Told.items in
    let seat = c.swap.new.seat in
    let got = c.swap.ensures.2.0 c.if-swap-ne0.false in
    let same = same_value c.args.k got.0 c.slot_mut.result.now seat.me.1 (rest seat.me.1) (ap (λ m. m.1) got.2) c.slot_mut.ensures.value in
    let nothing : rest seat.me.1 ≡ [] = ap (λ m. rest m.1) got.2 in
    let y = c.call_at.new.item in
    let left : g.B.Told.leaves c.args.k got.0 y = subst (λ x. g.B.Told.leaves c.args.k x y) (sym same)
    (c.requires.leaves c.args.k c.slot_mut.result.now y c.call_at.ensures) in
    let size = c.requires.table.1 in
    let inside : c.args.k < c.args.table.now.table_id.words = omega (arith, size, c.requires.place) in
    let answers : seat.me.0.threads ≡ c.args.seat.now.me.0.threads = ap (λ m. m.0.threads) got.2 in
    let some_thread : 0 < seat.me.0.threads = omega (arith, answers, c.requires.free.3) in (
      c.swap.ensures.0 ∙ c.requires.table.0,
      inside,
      subst (λ others. Allows (AreClaimed items g.B.Told.leaves c.args.table.now.key) c.args.table.now.table_id.slots seat.id
          (seat.me.0, (c.args.k, y) ∷ others) c.args.k (λ n. n)
          (GivesBack (step c.args.table.now.table_id.slots c.args.k 0 0 none) (seat.me.0, (c.args.k, y) ∷ others)))
          (sym nothing)
          (gives_back items g.B.Told.leaves c.args.table.now.key c.args.table.now.table_id.slots seat.id c.args.k seat.me.0 got.0 y
          got.1 left (ap (λ m. m.0.held) got.2) some_thread),
    )
