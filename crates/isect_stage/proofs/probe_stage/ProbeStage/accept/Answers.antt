use Rattle.std.proofs.Common.{◌∙◌, [], ◌∷◌, ◌++◌, sym, ap, subst}
use Rattle.update_lists.specs.declared.cuts.Cut.{Cut}
use Rattle.isect_stage.specs.Asking.{IsectKeeps}
use Rattle.isect_stage.specs.Probing.{ProbeWork, question_in, ProbeKeeps}
use Rattle.isect_stage.proofs.ProbeKept.{keeps_asks}
use Rattle.isect_stage.proofs.probe_stage.ProbeStage.accept.Goals as goal

pub returns-in-Ok-clause-keeps : goal.returns-in-Ok-clause-keeps
returns-in-Ok-clause-keeps c = λ taken sent keeps.
    let is = c.self.view_is in
    let inside = c.self.inside in
    let w : ProbeWork = record { isect = inside.stage; ended = inside.ended; failed = inside.failed; held = inside.held } in
    let after = c.ask-asked.new.stage in
    keeps_asks w after taken sent c.args.load (subst (λ (v : ProbeWork). ProbeKeeps v taken sent) (sym is) keeps)
    (ap (λ (v : ProbeWork). v.held) is ∙ c.requires.bare)
    (λ asked before.
    subst (λ (cut : Cut). IsectKeeps after (asked ++ question_in cut ∷ [])) c.cut.ensures (c.in-Ok.ensures.keeps asked before))
