use Rattle.std.proofs.Common.{◌∙◌, ap, sym, length}
use Rattle.pf_edits.specs.Tables.{Table, triangles_in}
use Rattle.pf_edits.proofs.Counts.{slots_wide}
use Rattle.pf_edits.proofs.records.Records.tris.Goals as goal

pub returns-clause-value : goal.returns-clause-value
returns-clause-value c = c.self.invariant.counted.total ∙ ap (λ (t : Table). triangles_in t.slots) c.self.view_is

pub returns-clause-wide : goal.returns-clause-wide
returns-clause-wide c =
    sym (ap (λ (t : Table). length t.slots) c.self.view_is) ∙ slots_wide c.self.inside.slab c.self.inside.keys c.self.invariant.indexed.wide
