-- Edits that fit, and one more.
use Rattle.std.proofs.Common.{◌≡◌, true, List, [], ◌∷◌, ◌++◌}
use Rattle.std.proofs.lemmas.List.Folds.{list_all-append}
use Rattle.std.specs.List.{list_all}
use Rattle.pf_model.specs.declared.edits.Edit.{Edit}
use Rattle.pf_model.specs.Fits.{fits}

pub one_more_fits : (es : List Edit) (e : Edit) → list_all fits es ≡ true → fits e ≡ true
    → list_all fits (es ++ e ∷ []) ≡ true
one_more_fits es e all this = rw (list_all-append fits es (e ∷ []), all, this)
