use Rattle.std.proofs.Common.{◌∙◌, List, [], ◌∷◌, ◌++◌, Some, ap, sym, subst, refl}
use Rattle.stage_parts.specs.declared.packets.Packet.{Packet}
use Rattle.stage_parts.specs.declared.packets.Packet.TheVariants.{End}
use Rattle.frame_stages.specs.CullWorks.{CullWork, CullKeeps}
use Rattle.frame_stages.proofs.CullKept.{keeps_ends, came_none, came_end, came_load}
use Rattle.frame_stages.proofs.cull_stage.CullStage.take.Goals as goal

pub returns-in-Some-End-clause-keeps : goal.returns-in-Some-End-clause-keeps
returns-in-Some-End-clause-keeps g c = λ sent keeps.
    let is = c.self.view_is in
    let inside = c.self.inside in
    let w : CullWork = record { lens = inside.lens; copy = inside.copy; ended = inside.ended; held = inside.held } in
    let taken = g.T.TakeEnd.taken c.args.from.now in
    let more = c.in-Some-End.ensures.some ∙ ap (λ (p : Packet). taken ++ p ∷ []) c.in-Some-End.field-0-is in
    subst (λ (ps : List Packet). CullKeeps (record w { held = Some End }) ps sent) (sym more)
    (keeps_ends w taken sent (subst (λ (v : CullWork). CullKeeps v taken sent) (sym is) keeps) (ap (λ w. w.held) is ∙ c.requires.bare))

pub returns-in-Some-Frame-clause-keeps : goal.returns-in-Some-Frame-clause-keeps
returns-in-Some-Frame-clause-keeps g c = λ sent keeps.
    let taken = g.T.TakeEnd.taken c.args.from.now in
    let more = c.in-Some-Frame.ensures.some ∙ ap (λ (p : Packet). taken ++ p ∷ []) c.in-Some-Frame.field-0-is in
    subst (λ (ps : List Packet). CullKeeps c.cull.new.self ps sent) (sym more) (c.cull.ensures.keeps taken sent keeps)

pub returns-in-Some-End-clause-boxes : goal.returns-in-Some-End-clause-boxes
returns-in-Some-End-clause-boxes g c =
    let taken = g.T.TakeEnd.taken c.args.from.now in
    let more = c.in-Some-End.ensures.some ∙ ap (λ (p : Packet). taken ++ p ∷ []) c.in-Some-End.field-0-is in
    came_end c.args.self.now.lens c.args.self.now.copy c.self.inside.copy (Some End) taken (g.T.TakeEnd.taken c.pop.new.self) more
    (ap (λ (w : CullWork). w.copy) c.self.view_is)

pub returns-in-Some-Frame-clause-boxes : goal.returns-in-Some-Frame-clause-boxes
returns-in-Some-Frame-clause-boxes g c =
    let taken = g.T.TakeEnd.taken c.args.from.now in
    let more = c.in-Some-Frame.ensures.some ∙ ap (λ (p : Packet). taken ++ p ∷ []) c.in-Some-Frame.field-0-is in
    came_load c.args.self.now.lens c.args.self.now.copy c.cull.new.self.copy c.cull.new.self.held taken (g.T.TakeEnd.taken c.pop.new.self)
    c.in-Some-Frame.load more c.cull.ensures.boxes

pub returns-in-None-clause-boxes : goal.returns-in-None-clause-boxes
returns-in-None-clause-boxes g c =
    let s = c.args.self.now in
    came_none s.lens s.copy s.copy s.held (g.T.TakeEnd.taken c.args.from.now) (g.T.TakeEnd.taken c.pop.new.self) c.in-None.ensures.none refl
