use Rattle.pf_model.proofs.attributes.kind_after.Goals as goal

pub returns-in-Mat : goal.returns-in-Mat
returns-in-Mat c = rw c.in-Mat.is c.with_matrix.ensures
