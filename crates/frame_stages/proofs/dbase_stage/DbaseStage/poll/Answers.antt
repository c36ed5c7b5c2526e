use Rattle.std.proofs.Common.{true, false, sym, ap, ◌∙◌, subst, Ok, Err}
use Rattle.seat_lock.specs.Log.{Found}
use Rattle.seat_lock.proofs.Logs.{found-self}
use Rattle.frame_stages.specs.Copies.{HoldsCopies}
use Rattle.frame_stages.specs.DbaseAnswers.{Known, Tries, IsDbaseAnswer}
use Rattle.stage_parts.specs.declared.answers.StageError.TheVariants as error
use Rattle.stage_parts.specs.Answers.{is_over}
use Rattle.frame_stages.specs.Stays.{DeskPlace}
use Rattle.frame_stages.proofs.AppLooks.{mark_seen}
use Rattle.frame_stages.proofs.DbaseTurns.{saw_frames, tried, wanted, none_added, answer_added, not_over}
use Rattle.frame_stages.proofs.DbaseSection.{holds_found, answer_holds}
use Rattle.frame_stages.proofs.dbase_stage.DbaseStage.poll.Goals as goal

pub returns-then-sight-clause-part : goal.returns-then-sight-clause-part
returns-then-sight-clause-part g c lines channels holds =
    holds_found lines channels (g.D.Desk.number c.args.desk.now) c.args.self.now (g.D.Desk.seen c.args.desk.now)
    (g.D.Desk.seen c.sight-sight.new.desk) holds c.sight-sight.ensures.found

pub go-requires-clause-frames : goal.go-requires-clause-frames
go-requires-clause-frames g c κs within =
    saw_frames (g.D.Desk.number c.args.desk.now) (g.D.Desk.seen c.args.desk.now) (g.D.Desk.told c.args.desk.now)
    c.sight-sight.result (g.D.Desk.seen c.sight-sight.new.desk) c.sight-sight.ensures.saw

pub returns-in-Ok-clause-answer : goal.returns-in-Ok-clause-answer
returns-in-Ok-clause-answer g c =
    let number = g.D.Desk.number c.args.desk.now in
    let first : Known = record { seen = g.D.Desk.seen c.args.desk.now; told = g.D.Desk.told c.args.desk.now } in
    let looked : Known = record { seen = g.D.Desk.seen c.sight-sight.new.desk; told = g.D.Desk.told c.sight-sight.new.desk } in
    let last : Known = record { seen = g.D.Desk.seen c.go.new.desk; told = g.D.Desk.told c.go.new.desk } in
    subst (λ d. IsDbaseAnswer number (Ok d) c.args.self.now c.go.new.self first last) (sym c.of.ensures)
    (tried number c.in-Ok.moved c.args.self.now c.go.new.self first looked last
    (record { found = c.sight-sight.ensures.found; told = c.sight-sight.ensures.told })
    (subst (λ n. Tries n (Ok c.in-Ok.moved) c.args.self.now c.go.new.self looked last)
    c.sight-sight.ensures.number c.in-Ok.ensures.tries))

pub returns-in-Ok-clause-part : goal.returns-in-Ok-clause-part
returns-in-Ok-clause-part g c lines channels holds =
    let number = g.D.Desk.number c.args.desk.now in
    answer_holds lines channels number (Ok c.of.result) c.args.self.now c.go.new.self
    (record { seen = g.D.Desk.seen c.args.desk.now; told = g.D.Desk.told c.args.desk.now })
    (record { seen = g.D.Desk.seen c.go.new.desk; told = g.D.Desk.told c.go.new.desk })
    (returns-in-Ok-clause-answer g c) holds

pub returns-in-Err-clause-answer : goal.returns-in-Err-clause-answer
returns-in-Err-clause-answer g c =
    let number = g.D.Desk.number c.args.desk.now in
    let first : Known = record { seen = g.D.Desk.seen c.args.desk.now; told = g.D.Desk.told c.args.desk.now } in
    let looked : Known = record { seen = g.D.Desk.seen c.sight-sight.new.desk; told = g.D.Desk.told c.sight-sight.new.desk } in
    let gone : Known = record { seen = g.D.Desk.seen c.go.new.desk; told = g.D.Desk.told c.go.new.desk } in
    let last : Known = record { seen = g.D.Desk.seen c.set_mark.new.desk; told = g.D.Desk.told c.set_mark.new.desk } in
    let one = c.sight-sight.ensures.number in
    wanted number c.in-Err.field-0 c.args.self.now c.go.new.self first looked gone last
    (record { found = c.sight-sight.ensures.found; told = c.sight-sight.ensures.told })
    (subst (λ n. Tries n (Err c.in-Err.field-0) c.args.self.now c.go.new.self looked gone) one c.in-Err.ensures.tries)
    (subst (λ n. Found n gone.seen last.seen) (ap (λ (d : DeskPlace). d.number) c.go.ensures.desk ∙ one) c.set_mark.ensures.found)
    c.set_mark.ensures.marks

pub returns-in-Err-clause-part : goal.returns-in-Err-clause-part
returns-in-Err-clause-part g c lines channels holds =
    let number = g.D.Desk.number c.args.desk.now in
    answer_holds lines channels number (Err error.NoMemory) c.args.self.now c.go.new.self
    (record { seen = g.D.Desk.seen c.args.desk.now; told = g.D.Desk.told c.args.desk.now })
    (record { seen = g.D.Desk.seen c.set_mark.new.desk; told = g.D.Desk.told c.set_mark.new.desk })
    (returns-in-Err-clause-answer g c) holds

pub returns-then-sight-clause-counted : goal.returns-then-sight-clause-counted
returns-then-sight-clause-counted g c holds = subst HoldsCopies (sym c.sight-sight.ensures.told) holds

pub returns-in-Ok-clause-counted : goal.returns-in-Ok-clause-counted
returns-in-Ok-clause-counted g c holds = c.go.ensures.counted (subst HoldsCopies (sym c.sight-sight.ensures.told) holds)

pub returns-in-Err-clause-counted : goal.returns-in-Err-clause-counted
returns-in-Err-clause-counted g c holds =
    c.set_mark.ensures.counted (c.go.ensures.counted (subst HoldsCopies (sym c.sight-sight.ensures.told) holds))

pub returns-then-is_ended-clause-looked : goal.returns-then-is_ended-clause-looked
returns-then-is_ended-clause-looked g c = λ going. absurd (let ended = c.if-is_ended.true in let is = c.is_ended.ensures in cc)

pub returns-then-sight-clause-looked : goal.returns-then-sight-clause-looked
returns-then-sight-clause-looked g c = λ going. (
  g.D.Desk.seen c.sight-sight.new.desk,
  mark_seen (g.D.Desk.number c.args.desk.now) (g.D.Desk.seen c.args.desk.now) (g.D.Desk.seen c.sight-sight.new.desk)
      (g.D.Desk.told c.args.desk.now) c.sight-sight.result true c.sight-sight.ensures.saw (sym c.if-sight.true),
)

pub returns-in-Ok-clause-looked : goal.returns-in-Ok-clause-looked
returns-in-Ok-clause-looked g c = λ going. (
  g.D.Desk.seen c.sight-sight.new.desk,
  mark_seen (g.D.Desk.number c.args.desk.now) (g.D.Desk.seen c.args.desk.now) (g.D.Desk.seen c.sight-sight.new.desk)
      (g.D.Desk.told c.args.desk.now) c.sight-sight.result (is_over (Ok c.of.result)) c.sight-sight.ensures.saw
      (ap (λ d. is_over (Ok d)) c.of.ensures ∙ not_over c.in-Ok.moved ∙ sym c.if-sight.false),
)

pub returns-in-Err-clause-looked : goal.returns-in-Err-clause-looked
returns-in-Err-clause-looked g c = λ going. (
  g.D.Desk.seen c.sight-sight.new.desk,
  mark_seen (g.D.Desk.number c.args.desk.now) (g.D.Desk.seen c.args.desk.now) (g.D.Desk.seen c.sight-sight.new.desk)
      (g.D.Desk.told c.args.desk.now) c.sight-sight.result false c.sight-sight.ensures.saw (sym c.if-sight.false),
)

pub returns-then-is_ended-clause-adds : goal.returns-then-is_ended-clause-adds
returns-then-is_ended-clause-adds g c =
    none_added (g.D.Desk.number c.args.desk.now) (g.D.Desk.seen c.args.desk.now) (g.D.Desk.seen c.args.desk.now)
    (found-self (g.D.Desk.number c.args.desk.now) (g.D.Desk.seen c.args.desk.now))

pub returns-then-sight-clause-adds : goal.returns-then-sight-clause-adds
returns-then-sight-clause-adds g c =
    none_added (g.D.Desk.number c.args.desk.now) (g.D.Desk.seen c.args.desk.now) (g.D.Desk.seen c.sight-sight.new.desk)
    c.sight-sight.ensures.found

pub returns-in-Ok-clause-adds : goal.returns-in-Ok-clause-adds
returns-in-Ok-clause-adds g c =
    answer_added (g.D.Desk.number c.args.desk.now) (Ok c.of.result) c.args.self.now c.go.new.self
    (record { seen = g.D.Desk.seen c.args.desk.now; told = g.D.Desk.told c.args.desk.now })
    (record { seen = g.D.Desk.seen c.go.new.desk; told = g.D.Desk.told c.go.new.desk })
    (returns-in-Ok-clause-answer g c)

pub returns-in-Err-clause-adds : goal.returns-in-Err-clause-adds
returns-in-Err-clause-adds g c =
    answer_added (g.D.Desk.number c.args.desk.now) (Err error.NoMemory) c.args.self.now c.go.new.self
    (record { seen = g.D.Desk.seen c.args.desk.now; told = g.D.Desk.told c.args.desk.now })
    (record { seen = g.D.Desk.seen c.set_mark.new.desk; told = g.D.Desk.told c.set_mark.new.desk })
    (returns-in-Err-clause-answer g c)
