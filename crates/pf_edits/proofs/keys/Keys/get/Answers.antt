use Rattle.std.proofs.Common.{List, Option, ℕ, None, get_or, ◌∙◌, ap}
use Rattle.pf_edits.specs.Tables.{key_in}
use Rattle.pf_edits.proofs.Cells.{read_at}
use Rattle.pf_edits.proofs.keys.Keys.get.Goals as goal

pub returns : goal.returns
returns c =
    c.key_in.ensures
    ∙ ap key_in (c.cell_at.ensures
    ∙ ap (λ (i : ℕ). get_or c.as_slice.result.now i 0) c.from.ensures
    ∙ ap (λ (cs : List ℕ). get_or cs c.args.id 0) c.as_slice.ensures.value)
    ∙ read_at c.self.inside.cells.items c.args.id
    ∙ ap (λ (ks : List (Option ℕ)). get_or ks c.args.id None) c.self.view_is
