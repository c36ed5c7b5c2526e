use Rattle.std.proofs.Common.{◌<◌, ◌≤◌, ℕ, Some, sym, ◌∙◌, ap, subst}
use Rattle.pf_model.specs.declared.edits.Fault.TheVariants as fault
use Rattle.pf_edits.specs.Extents.{extent_at}
use Rattle.pf_edits.proofs.Sizes.{is_deep, is_large, is_fine}
use Rattle.pf_edits.proofs.faults.excess.Goals as goal

pub returns-then-greatest-gt32 : goal.returns-then-greatest-gt32
returns-then-greatest-gt32 c = λ nodes up meets outside.
    ap (λ n. Some (fault.Deep n)) c.greatest_along-greatest.ensures.height
    ∙ sym (is_deep nodes up (extent_at c.args.records.now.slots) c.args.way.now meets outside (subst (λ (n : ℕ). 32 < n) c.greatest_along-greatest.ensures.height c.if-greatest-gt32.true))

pub returns-then-greatest-gt131072 : goal.returns-then-greatest-gt131072
returns-then-greatest-gt131072 c = λ nodes up meets outside.
    sym (is_large nodes up (extent_at c.args.records.now.slots) c.args.way.now meets outside (subst (λ (n : ℕ). n ≤ 32) c.greatest_along-greatest.ensures.height c.if-greatest-gt32.false)
    (subst (λ (n : ℕ). 131072 < n) c.greatest_along-greatest.ensures.size c.if-greatest-gt131072.true))

pub returns : goal.returns
returns c = λ nodes up meets outside.
    sym (is_fine nodes up (extent_at c.args.records.now.slots) c.args.way.now meets outside (subst (λ (n : ℕ). n ≤ 32) c.greatest_along-greatest.ensures.height c.if-greatest-gt32.false)
    (subst (λ (n : ℕ). n ≤ 131072) c.greatest_along-greatest.ensures.size c.if-greatest-gt131072.false))
