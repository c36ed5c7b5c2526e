use Rattle.std.proofs.Common.{◌≡◌, ◌∙◌, List, [], ◌∷◌, ◌++◌, Option, ap, sym, subst}
use Rattle.std.specs.Vec.{vec_capacity}
use Rattle.pf_model.specs.Copies.{UpdateList, updated_by}
use Rattle.nearest_hit.specs.declared.found.Near.{Near}
use Rattle.isect_stage.specs.Asking.{IsectWork, hit_in, Question, IsectKeeps}
use Rattle.isect_stage.proofs.Keeping.{Answers, keeps_more}
use Rattle.isect_stage.proofs.stage.IsectStage.frame.Goals as goal

pub returns-clause-keeps : goal.returns-clause-keeps
returns-clause-keeps c = λ asked keeps.
    let w : IsectWork = record { segment = c.self.inside.segment; copy = c.self.inside.copy; answers = c.self.inside.answers.items; room = vec_capacity c.self.inside.answers } in
    let q : Question = record { frame = c.args.frame; view = c.args.view.now; updates = c.args.updates.now } in
    let kept : IsectKeeps w asked = subst (λ (x : IsectWork). IsectKeeps x asked) (sym c.self.view_is) keeps in
    let made : Answers w q c.take.new.self c.counted-answer.result = record {
      nodes = c.take.ensures.nodes ∙ ap (λ (us : UpdateList). updated_by c.self.inside.copy.nodes us) c.in_ok-updates.ensures.copy;
      right = c.take.ensures.right;
      is = c.counted-answer.ensures.nearest;
    } in
    let items : c.push.new.self.items ≡ c.self.inside.answers.items ++ c.counted-answer.result ∷ [] =
    c.in-Ok.ensures.items ∙ ap (λ (hs : List (Option Near)). hs ++ c.counted-answer.result ∷ []) c.in_ok-reserve.ensures.items in
    subst (λ (hs : List (Option Near)). IsectKeeps (record { segment = c.self.inside.segment; copy = c.take.new.self; answers = hs; room = vec_capacity c.push.new.self }) (asked ++ q ∷ [])) (sym items)
    (keeps_more w asked q c.take.new.self c.counted-answer.result (vec_capacity c.push.new.self) kept made)

pub returns-clause-copy : goal.returns-clause-copy
returns-clause-copy c =
    c.take.ensures.nodes ∙ ap (λ (us : UpdateList). updated_by c.self.inside.copy.nodes us) c.in_ok-updates.ensures.copy
    ∙ ap (λ (w : IsectWork). updated_by w.copy.nodes c.args.updates.now) c.self.view_is

pub returns-clause-adds : goal.returns-clause-adds
returns-clause-adds c =
    c.in-Ok.ensures.items ∙ ap (λ (hs : List (Option Near)). hs ++ c.counted-answer.result ∷ []) c.in_ok-reserve.ensures.items
    ∙ ap (λ (o : Option Near). c.self.inside.answers.items ++ o ∷ []) c.counted-answer.ensures.best
    ∙ ap (λ (w : IsectWork). w.answers ++ hit_in c.take.new.self c.args.frame c.args.view.now c.self.inside.segment ∷ []) c.self.view_is
