use Rattle.std.proofs.Common.{◌+◌, ◌<◌, ◌≤◌, length, refl, sym, ◌∙◌, arith, rules}
use Rattle.play_check.proofs.Walks.{walked_opening, app_goes_on, base_goes_on}
use Rattle.play_check.specs.Lines.{app_marks, base_marks}
use Rattle.play_check.proofs.Dues.{app_ones, base_ones, goes_room}
use Rattle.play_check.proofs.Ends.{ended, app_length, base_length, positive}
use Rattle.play_check.proofs.greedy.stuck_lines_of.Goals as goal
use Rattle.play_check.proofs.greedy.stuck_lines_of.Goals.{else-is_empty-via-then-is_empty+else-is_empty-2, else-is_empty-via-else-is_empty}

pub loop-begun-init : goal.loop-begun-init
loop-begun-init c =
    record { walked = walked_opening c.args.app.now c.args.dbase.now; frames_room = omega arith; merges_room = omega arith }

pub loop-begun-preserved-in-Some : goal.loop-begun-preserved-in-Some
loop-begun-preserved-in-Some c =
    let goes = c.in-Some.ensures in
    record {
      walked = app_goes_on c.args.app.now c.args.dbase.now (app_marks c.loop-begun.app_left.now) (base_marks c.loop-begun.dbase_left.now) c.loop-begun.frames c.loop-begun.merges c.in-Some.begun (app_marks c.in-Some.rest.now) c.loop-begun.invariant.walked goes;
      frames_room =
          omega (
            arith,
            c.loop-begun.invariant.frames_room,
            app_length c.loop-begun.app_left.now,
            app_length c.in-Some.rest.now,
            goes_room c.loop-begun.merges c.in-Some.begun (app_marks c.loop-begun.app_left.now) (app_marks c.in-Some.rest.now) (app_ones c.loop-begun.app_left.now) goes,
          );
      merges_room = c.loop-begun.invariant.merges_room;
    }

pub loop-begun-preserved : goal.loop-begun-preserved
loop-begun-preserved c =
    let goes = c.in-Some-next_dbase.ensures in
    record {
      walked = base_goes_on c.args.app.now c.args.dbase.now (app_marks c.loop-begun.app_left.now) (base_marks c.loop-begun.dbase_left.now) c.loop-begun.frames c.loop-begun.merges c.in-Some-next_dbase.made (base_marks c.in-Some-next_dbase.rest.now) c.loop-begun.invariant.walked goes;
      frames_room = c.loop-begun.invariant.frames_room;
      merges_room =
          omega (
            arith,
            c.loop-begun.invariant.merges_room,
            base_length c.loop-begun.dbase_left.now,
            base_length c.in-Some-next_dbase.rest.now,
            goes_room c.loop-begun.frames c.in-Some-next_dbase.made (base_marks c.loop-begun.dbase_left.now) (base_marks c.in-Some-next_dbase.rest.now) (base_ones c.loop-begun.dbase_left.now) goes,
          );
    }

pub returns-clause-stuck : goal.returns-clause-stuck
returns-clause-stuck c =
    let h = ended c.args.app.now c.args.dbase.now (app_marks c.loop-begun.app_left.now) (base_marks c.loop-begun.dbase_left.now) c.loop-begun.frames c.loop-begun.merges c.loop-begun.invariant.walked c.in_default.ensures c.in_default-next_dbase.ensures in
    let some : 0 < length c.loop-begun.app_left.now + length c.loop-begun.dbase_left.now =
    elim c.else-is_empty.branch [
      | else-is_empty-via-then-is_empty+else-is_empty-2 w ↦
          omega (arith, positive (length c.loop-begun.dbase_left.now) (sym w.is_empty-then-is_empty.ensures ∙ w.if-is_empty-2.false))
      | else-is_empty-via-else-is_empty w ↦
          omega (arith, positive (length c.loop-begun.app_left.now) (sym c.is_empty.ensures ∙ w.if-is_empty.false))
    ]
    in
    let marked : 0 < length (app_marks c.loop-begun.app_left.now) + length (base_marks c.loop-begun.dbase_left.now) =
    omega (arith, app_length c.loop-begun.app_left.now, base_length c.loop-begun.dbase_left.now, some) in
    (λ yes. h.stuck marked, λ stuck. refl)

pub returns-clause-lines : goal.returns-clause-lines
returns-clause-lines c =
    let h = ended c.args.app.now c.args.dbase.now (app_marks c.loop-begun.app_left.now) (base_marks c.loop-begun.dbase_left.now) c.loop-begun.frames c.loop-begun.merges c.loop-begun.invariant.walked c.in_default.ensures c.in_default-next_dbase.ensures in
    rw (c.line_at.ensures, c.base_line_at.ensures) h.lines

pub overflow_add-frames : goal.overflow_add-frames
overflow_add-frames c =
    let room = goes_room c.loop-begun.merges c.in-Some.begun (app_marks c.loop-begun.app_left.now) (app_marks c.in-Some.rest.now) (app_ones c.loop-begun.app_left.now) c.in-Some.ensures in
    let most : c.loop-begun.frames + c.in-Some.begun ≤ length c.args.app.now = omega (arith, c.loop-begun.invariant.frames_room, app_length c.loop-begun.app_left.now, room) in
    search rules

pub overflow_add-merges : goal.overflow_add-merges
overflow_add-merges c =
    let room = goes_room c.loop-begun.frames c.in-Some-next_dbase.made (base_marks c.loop-begun.dbase_left.now) (base_marks c.in-Some-next_dbase.rest.now) (base_ones c.loop-begun.dbase_left.now) c.in-Some-next_dbase.ensures in
    let most : c.loop-begun.merges + c.in-Some-next_dbase.made ≤ length c.args.dbase.now = omega (arith, c.loop-begun.invariant.merges_room, base_length c.loop-begun.dbase_left.now, room) in
    search rules
