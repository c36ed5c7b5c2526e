use Rattle.std.proofs.Common.{◌≡◌, ◌+◌, ◌<◌, ap, ◌∙◌, arith}
use Rattle.self_scheduling.proofs.Rules.{hires, returns}
use Rattle.self_scheduling.proofs.calls.+others.Goals as goal

pub split_seat-other-requires : goal.split_seat-other-requires
split_seat-other-requires g t c =
    let seat = c.args.seat in
    let answers : seat.me.0.threads ≡ c.args.others + 1 = ap (λ m. m.0.threads) c.requires.seat in
    let more : 1 < seat.me.0.threads = omega (arith, answers, c.if-others-eq0.false) in
    let size = c.requires.table.1 in (
      c.requires.table.0,
      omega (arith, size, c.requires.count, c.requires.some),
      hires g.B.Told.items g.B.Told.leaves c.args.table.now.key seat.id seat.me.0 (ap (λ m. m.0.held) c.requires.seat) more,
    )

pub join_seat-requires : goal.join_seat-requires
join_seat-requires g t c =
    let theirs = c.join-theirs.result.0 in
    let ours = c.join-theirs.result.1 in
    let first = c.join-theirs.ensures.first in
    let second = c.join-theirs.ensures.second in
    let size = c.requires.table.1 in (
      second.0.0 ∙ c.split_seat-other.ensures.0 ∙ c.requires.table.0,
      first.0.0 ∙ c.split_seat-other.ensures.3 ∙ c.requires.table.0,
      ap (λ m. m.1) first.1,
      omega (arith, size, c.requires.count, c.requires.some),
      returns g.B.Told.items g.B.Told.leaves c.args.table.now.key ours.id theirs.id ours.me.0 theirs.me.0 (ap (λ m. m.0.held) second.1)
          (ap (λ m. m.0.held) first.1),
    )
