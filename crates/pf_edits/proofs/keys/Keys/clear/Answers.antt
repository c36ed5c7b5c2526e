use Rattle.std.proofs.Common.{List, Option, ℕ, None, map, set, refl, sym, ◌∙◌, ap, arith}
use Rattle.pf_edits.specs.Tables.{key_in, cells_of_all}
use Rattle.pf_edits.proofs.Cells.{cell_set, cell_unwritten}
use Rattle.pf_edits.proofs.keys.Keys.clear.Goals as goal

pub returns-then-from-len : goal.returns-then-from-len
returns-then-from-len c =
    ap (λ (i : ℕ). map key_in (cells_of_all (set c.self.inside.cells.items i 0))) c.from-then-from-len.ensures
    ∙ cell_set c.self.inside.cells.items c.args.id 0 None (omega (arith, c.if-from-len.true, c.from.ensures, c.len.ensures)) refl
    ∙ ap (λ (ks : List (Option ℕ)). set ks c.args.id None) c.self.view_is

pub returns-else-from-len : goal.returns-else-from-len
returns-else-from-len c =
    sym c.self.view_is
    ∙ cell_unwritten c.self.inside.cells.items c.args.id (omega (arith, c.if-from-len.false, c.from.ensures, c.len.ensures))
    ∙ ap (λ (ks : List (Option ℕ)). set ks c.args.id None) c.self.view_is
