use Rattle.std.proofs.Common.{ℕ, [], ◌∷◌, Option, Some, rules, sym, ap, ◌∙◌, subst}
use Rattle.geo_lease.specs.Plans.{HasPlace}
use Rattle.geo_lease.specs.Steps.{Sat}
use Rattle.geo_lease.specs.Views.{left_at, returning}
use Rattle.geo_lease.proofs.Rules.{takes_leased, lays_back}
use Rattle.geo_lease.proofs.Swaps.{in_hand, after_swap, gone_if_out}
use Rattle.atomic_table.specs.Table.{rest}
use Rattle.geo_lease.proofs.leases.Leases.swap_in.Goals as goal

pub load-requires : goal.load-requires
load-requires g c =
    let seat = c.args.seat.now in
    let l = c.requires.leased.0 in (
      search rules,
      search rules,
      takes_leased _ _ _ seat.id _ seat.me l c.args.content c.requires.rests.0 c.requires.rests.1 c.requires.next c.requires.leased.1
          (subst (λ (k : ℕ). HasPlace l k c.args.content) (sym c.requires.picked) c.requires.leased.2),
    )

pub put-requires-clause-empty : goal.put-requires-clause-empty
put-requires-clause-empty g c =
    let seat = c.args.seat.now in
    let l = c.requires.leased.0 in
    let k = g.N.Slotted.slot in
    let told = c.load.ensures.2 l c.args.content c.requires.leased.1 (subst (λ (z : ℕ). HasPlace l z c.args.content) (sym c.requires.picked) c.requires.leased.2) in
    let y : Option g.row.T.Denot = left_at seat.me.0.out k (Some c.args.content) in
    in_hand seat.me c.load.new.seat.me k c.args.slot y told c.requires.picked
    ∙ ap (λ (d : Option g.row.T.Denot). (c.args.slot, d) ∷ rest c.load.new.seat.me.1) (gone_if_out seat.me.0.out k c.args.slot (Some c.args.content) c.requires.picked c.requires.fetched)

pub load-requires-2 : goal.load-requires-2
load-requires-2 g c =
    let seat = c.args.seat.now in
    let l = c.requires.leased.0 in
    let k = g.N.Slotted.slot in
    let told = c.load.ensures.2 l c.args.content c.requires.leased.1 (subst (λ (z : ℕ). HasPlace l z c.args.content) (sym c.requires.picked) c.requires.leased.2) in
    let after = after_swap seat.me c.load.new.seat.me c.put.new.seat.me k c.args.slot (left_at seat.me.0.out k (Some c.args.content)) (Some c.args.content) c.requires.rests.2 c.requires.picked told c.put.ensures.put in (
      search rules,
      search rules,
      lays_back _ _ _ c.put.new.seat.id c.args.slot c.put.new.seat.me l c.args.content
          (ap (λ m. m.0.role) after ∙ c.requires.rests.0) (ap (λ m. m.0.held) after)
          (ap (λ m. m.0.number) after ∙ (c.requires.next ∙ sym (ap (λ m. m.0.next) after)))
          (ap (λ m. m.0.plan) after ∙ c.requires.leased.1) c.requires.leased.2 (ap (λ m. m.1) after),
    )

pub returns-clause-returned : goal.returns-clause-returned
returns-clause-returned g c =
    let seat = c.args.seat.now in
    let l = c.requires.leased.0 in
    let k = g.N.Slotted.slot in
    let told = c.load.ensures.2 l c.args.content c.requires.leased.1 (subst (λ (z : ℕ). HasPlace l z c.args.content) (sym c.requires.picked) c.requires.leased.2) in
    let after = after_swap seat.me c.load.new.seat.me c.put.new.seat.me k c.args.slot (left_at seat.me.0.out k (Some c.args.content)) (Some c.args.content) c.requires.rests.2 c.requires.picked told c.put.ensures.put in
    c.load-2.ensures.2 c.args.slot c.args.content (ap (λ m. m.1) after) ∙ ap (λ (m : Sat g.row.T.Denot). (returning m.0 c.args.slot, [])) after
