use Rattle.std.proofs.Common.{◌∙◌, List, [], ◌∷◌, ◌++◌, Some, ap, sym, subst}
use Rattle.stage_parts.specs.declared.packets.Packet.{Packet}
use Rattle.stage_parts.specs.declared.packets.Packet.TheVariants.{End}
use Rattle.isect_stage.specs.Probing.{ProbeWork, ProbeKeeps}
use Rattle.isect_stage.proofs.ProbeKept.{keeps_ends}
use Rattle.isect_stage.proofs.probe_stage.ProbeStage.take.Goals as goal

pub returns-in-Some-End-clause-keeps : goal.returns-in-Some-End-clause-keeps
returns-in-Some-End-clause-keeps g c = λ sent keeps.
    let is = c.self.view_is in
    let inside = c.self.inside in
    let w : ProbeWork = record { isect = inside.stage; ended = inside.ended; failed = inside.failed; held = inside.held } in
    let taken = g.T.TakeEnd.taken c.args.from.now in
    let more = c.in-Some-End.ensures.some ∙ ap (λ (p : Packet). taken ++ p ∷ []) c.in-Some-End.field-0-is in
    subst (λ (ps : List Packet). ProbeKeeps (record w { held = Some End }) ps sent) (sym more)
    (keeps_ends w taken sent (subst (λ (v : ProbeWork). ProbeKeeps v taken sent) (sym is) keeps)
    (ap (λ (v : ProbeWork). v.held) is ∙ c.requires.bare))

pub returns-in_ok-accept-in-Some-Frame-clause-keeps : goal.returns-in_ok-accept-in-Some-Frame-clause-keeps
returns-in_ok-accept-in-Some-Frame-clause-keeps g c = λ sent keeps.
    let taken = g.T.TakeEnd.taken c.args.from.now in
    let more = c.in-Some-Frame.ensures.some ∙ ap (λ (p : Packet). taken ++ p ∷ []) c.in-Some-Frame.field-0-is in
    subst (λ (ps : List Packet). ProbeKeeps c.accept.new.self ps sent) (sym more) (c.accept.ensures.keeps taken sent keeps)
