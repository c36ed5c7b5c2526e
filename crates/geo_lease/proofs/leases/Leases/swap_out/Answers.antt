use Rattle.std.proofs.Common.{◌≡◌, ℕ, [], Option, Some, None, rules, sym, ap, ◌∙◌, subst}
use Rattle.std.specs.Prelude.{is_some}
use Rattle.std.proofs.lemmas.Option.{same_Some}
use Rattle.geo_lease.specs.Plans.{HasPlace}
use Rattle.geo_lease.specs.Steps.{Sat}
use Rattle.geo_lease.specs.Views.{left_at, fetching}
use Rattle.geo_lease.proofs.Rules.{takes_leased, lays_out}
use Rattle.geo_lease.proofs.Swaps.{in_hand, found_there, after_swap, there_if_home}
use Rattle.geo_lease.proofs.leases.Leases.swap_out.Goals as goal

pub load-requires : goal.load-requires
load-requires g c =
    let seat = c.args.seat.now in
    let l = c.requires.leased.0 in
    let x = c.requires.leased.1 in (
      search rules,
      search rules,
      takes_leased _ _ _ seat.id _ seat.me l x c.requires.rests.0 c.requires.rests.1 c.requires.next c.requires.leased.2
          (subst (λ (k : ℕ). HasPlace l k x) (sym c.requires.picked) c.requires.leased.3),
    )

pub exchange-requires : goal.exchange-requires
exchange-requires g c =
    let seat = c.args.seat.now in
    let l = c.requires.leased.0 in
    let x = c.requires.leased.1 in
    let k = g.N.Slotted.slot in
    let told = c.load.ensures.2 l x c.requires.leased.2 (subst (λ (z : ℕ). HasPlace l z x) (sym c.requires.picked) c.requires.leased.3) in
    (search rules, (left_at seat.me.0.out k (Some x), in_hand seat.me c.load.new.seat.me k c.args.slot (left_at seat.me.0.out k (Some x)) told c.requires.picked))

pub unwrap-content-requires : goal.unwrap-content-requires
unwrap-content-requires g c =
    let seat = c.args.seat.now in
    let l = c.requires.leased.0 in
    let x = c.requires.leased.1 in
    let k = g.N.Slotted.slot in
    let told = c.load.ensures.2 l x c.requires.leased.2 (subst (λ (z : ℕ). HasPlace l z x) (sym c.requires.picked) c.requires.leased.3) in
    let found : c.exchange.result ≡ Some x =
    found_there seat.me c.load.new.seat.me k c.args.slot (left_at seat.me.0.out k (Some x)) c.exchange.result told c.exchange.ensures.2
    ∙ there_if_home seat.me.0.out k c.args.slot (Some x) c.requires.picked c.requires.unfetched in
    ap (λ (o : Option g.row.T.Denot). is_some o) found

pub load-requires-2 : goal.load-requires-2
load-requires-2 g c =
    let seat = c.args.seat.now in
    let l = c.requires.leased.0 in
    let x = c.requires.leased.1 in
    let k = g.N.Slotted.slot in
    let told = c.load.ensures.2 l x c.requires.leased.2 (subst (λ (z : ℕ). HasPlace l z x) (sym c.requires.picked) c.requires.leased.3) in
    let after = after_swap seat.me c.load.new.seat.me c.exchange.new.seat.me k c.args.slot (left_at seat.me.0.out k (Some x)) None c.requires.rests.2 c.requires.picked told c.exchange.ensures.3 in (
      search rules,
      search rules,
      lays_out _ _ _ c.exchange.new.seat.id c.args.slot c.exchange.new.seat.me
          (ap (λ m. m.0.role) after ∙ c.requires.rests.0) (ap (λ m. m.0.held) after) (ap (λ m. m.1) after),
    )

pub returns-clause-fetched : goal.returns-clause-fetched
returns-clause-fetched g c =
    let seat = c.args.seat.now in
    let l = c.requires.leased.0 in
    let x = c.requires.leased.1 in
    let k = g.N.Slotted.slot in
    let told = c.load.ensures.2 l x c.requires.leased.2 (subst (λ (z : ℕ). HasPlace l z x) (sym c.requires.picked) c.requires.leased.3) in
    let after = after_swap seat.me c.load.new.seat.me c.exchange.new.seat.me k c.args.slot (left_at seat.me.0.out k (Some x)) None c.requires.rests.2 c.requires.picked told c.exchange.ensures.3 in
    c.load-2.ensures.2 c.args.slot (ap (λ m. m.1) after) ∙ ap (λ (m : Sat g.row.T.Denot). (fetching m.0 c.args.slot, [])) after

pub returns-clause-content : goal.returns-clause-content
returns-clause-content g c l x plan place =
    let seat = c.args.seat.now in
    let k = g.N.Slotted.slot in
    let told = c.load.ensures.2 l x plan (subst (λ (z : ℕ). HasPlace l z x) (sym c.requires.picked) place) in
    let found : c.exchange.result ≡ Some x =
    found_there seat.me c.load.new.seat.me k c.args.slot (left_at seat.me.0.out k (Some x)) c.exchange.result told c.exchange.ensures.2
    ∙ there_if_home seat.me.0.out k c.args.slot (Some x) c.requires.picked c.requires.unfetched in
    same_Some c.unwrap-content.result x (sym c.unwrap-content.ensures ∙ found)
