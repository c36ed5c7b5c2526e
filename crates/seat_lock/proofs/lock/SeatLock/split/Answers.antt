use Rattle.std.proofs.Common.{rules, ◌<◌, length, ap, ◌∙◌, sym, subst}
use Rattle.seat_lock.specs.declared.view.View.{View}
use Rattle.seat_lock.proofs.Sharing.{splits}
use Rattle.seat_lock.proofs.lock.SeatLock.split.Goals as goal

pub split_seat-seat-requires : goal.split_seat-seat-requires
split_seat-seat-requires g c =
    let same = sym (ap (λ m. m.0) c.recall.ensures.same) in (
      search rules,
      search rules,
      splits g.T.Logged.log c.recall.new.seat.id c.recall.new.seat.me.0
          (subst (λ (v : View g.row.T-Entry.Denot). v.next < v.end) same c.requires.spare)
          (sym (ap (λ v. v.phase) same) ∙ c.args.pass.now.rests.0)
          (subst (λ (v : View g.row.T-Entry.Denot). 0 < length v.answers) same c.args.pass.now.awake),
    )
