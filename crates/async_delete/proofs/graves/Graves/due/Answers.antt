use Rattle.std.proofs.Common.{◌∙◌, List, length, ap}
use Rattle.pf_model.specs.Copies.{GraveState, freed_by}
use Rattle.async_delete.specs.Burials.{GravesSoFar}
use Rattle.async_delete.proofs.Counts.{due_freed}
use Rattle.async_delete.proofs.graves.Graves.due.Goals as goal

pub returns : goal.returns
returns c =
    c.count_due.ensures ∙ due_freed c.args.retired c.as_slice.result.now
    ∙ ap (λ (gs : List GraveState). length (freed_by c.args.retired gs)) (c.as_slice.ensures.value ∙ ap (λ (v : GravesSoFar). v.graves) c.self.view_is)
