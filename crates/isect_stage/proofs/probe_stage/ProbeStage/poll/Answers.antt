use Rattle.std.proofs.Common.{◌∙◌, ℕ, Bool, Ok, sym, ap, subst}
use Rattle.seat_lock.specs.Log.{Found}
use Rattle.seat_lock.proofs.Logs.{found-trans}
use Rattle.stage_parts.specs.declared.answers.Did.{Did}
use Rattle.stage_parts.specs.Answers.{is_over}
use Rattle.isect_stage.specs.Marks.{SawMark}
use Rattle.isect_stage.proofs.Marking.{not_over}
use Rattle.isect_stage.proofs.probe_stage.ProbeStage.poll.Goals as goal

pub returns-in-Ok-clause-looked : goal.returns-in-Ok-clause-looked
returns-in-Ok-clause-looked g c = λ going.
    let number = g.D.Desk.number c.args.desk.now in
    let seen = g.D.Desk.seen c.args.desk.now in
    let told = g.D.Desk.told c.args.desk.now in
    let seen' = g.D.Desk.seen c.is_stopped.new.desk in
    let goes_on = ap (λ (d : Did). is_over (Ok d)) c.of.ensures ∙ not_over c.in-Ok.moved in
    (seen', subst (λ (over : Bool). SawMark number seen told over seen') (c.if-is_stopped.false ∙ sym goes_on) c.is_stopped.ensures.saw)

pub returns-in-Err-clause-found : goal.returns-in-Err-clause-found
returns-in-Err-clause-found g c =
    let seen = g.D.Desk.seen c.args.desk.now in
    let looked = g.D.Desk.seen c.is_stopped.new.desk in
    let last = g.D.Desk.seen c.set_mark.new.desk in
    found-trans (g.D.Desk.number c.args.desk.now) seen looked last c.is_stopped.ensures.found
    (subst (λ (n : ℕ). Found n looked last) c.is_stopped.ensures.number c.set_mark.ensures.found)
