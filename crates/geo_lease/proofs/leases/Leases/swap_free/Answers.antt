use Rattle.std.proofs.Common.{◌<◌, rules, sym, ap, ◌∙◌, subst, length}
use Rattle.geo_lease.specs.Plans.{IsFree}
use Rattle.geo_lease.proofs.Rules.{takes_slot, lays}
use Rattle.geo_lease.proofs.Swaps.{after_swap}
use Rattle.std.proofs.Common.{ℕ}
use Rattle.geo_lease.proofs.leases.Leases.swap_free.Goals as goal

pub load-requires : goal.load-requires
load-requires g c =
    let seat = c.args.seat.now in
    let v = seat.me.0 in (
      search rules,
      search rules,
      takes_slot _ _ _ seat.id _ seat.me c.requires.rests.0 c.requires.rests.1
          (subst (λ (k : ℕ). k < length v.contents) (sym c.requires.picked) c.requires.inside)
          (subst (λ (k : ℕ). IsFree v.leases v.seen k) (sym c.requires.picked) c.requires.free),
    )

pub load-requires-2 : goal.load-requires-2
load-requires-2 g c =
    let seat = c.args.seat.now in
    let told = c.load.ensures.2 in
    let after = after_swap seat.me c.load.new.seat.me c.exchange-found.new.seat.me g.N.Slotted.slot c.args.slot told.0 c.args.content c.requires.rests.2 c.requires.picked told.2 c.exchange-found.ensures.3 in (
      search rules,
      search rules,
      lays _ _ _ c.exchange-found.new.seat.id c.args.slot c.exchange-found.new.seat.me c.args.content
          (ap (λ m. m.0.role) after ∙ c.requires.rests.0) (ap (λ m. m.0.held) after) (ap (λ m. m.1) after),
    )
