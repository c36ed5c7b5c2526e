use Rattle.std.proofs.Common.{◌≡◌, ℕ, List, [], ◌∷◌, Option, Some, sym, subst, rules}
use Rattle.atomic_table.specs.Table.{opening}
use Rattle.seat_lock.specs.View.{opener}
use Rattle.seat_lock.specs.LockRule.{LockRule}
use Rattle.seat_lock.proofs.Sharing.{opens}
use Rattle.seat_lock.proofs.lock.SeatLock.new.Goals as goal

pub new-requires : goal.new-requires
new-requires g c =
    let items : c.push_reserved.new.self.items ≡ Some c.args.value ∷ [] = search rules in
    let first : c.from.result ≡ c.args.seats = search rules in
    let second : c.from-2.result ≡ c.args.seats = search rules in
    subst (λ (z : ℕ × ℕ × List (Option g.row.T.Denot)). LockRule g.T.Logged.log (opening (0 ∷ 0 ∷ 0 ∷ z.0 ∷ []) z.2 (opener z.1)))
    (λ i. (sym first i, sym second i, sym items i))
    (opens g.T.Logged.log c.args.value c.args.seats c.requires.empty c.requires.some c.requires.few)
