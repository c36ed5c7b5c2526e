use Rattle.std.proofs.Common.{refl, sym, ◌∙◌}
use Rattle.fx_math.specs.Constants.{origin_vector, identity_step}
use Rattle.play_format.proofs.SameLemmas.{same_point, same_affine, affine_none, affine_is}
use Rattle.play_format.proofs.making.affine.Goals as goal

pub returns-then-not-are_entries : goal.returns-then-not-are_entries
returns-then-not-are_entries c =
    same_affine _ identity_step refl (same_point _ origin_vector refl refl refl)
    ∙ affine_none c.args.a c.args.t (sym c.are_entries.ensures ∙ c.if-not-are_entries.true)

pub returns : goal.returns
returns c = affine_is _
