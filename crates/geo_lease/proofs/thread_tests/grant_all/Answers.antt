use Rattle.std.proofs.Common.{◌≡◌, ℕ, ◌+◌, ◌<◌, length, Some, true, ◌∙◌}
use Rattle.std.specs.Prelude.{is_some, Contains}
use Rattle.std.proofs.lemmas.Result.{IfOk-weaker}
use Rattle.geo_lease.specs.declared.lease.Lease.{Lease}
use Rattle.geo_lease.specs.Plans.{slot_at}
use Rattle.geo_lease.specs.Tokens.{content_of, lease_slots, content_under}
use Rattle.geo_lease.proofs.Rows.{named_in}
use Rattle.geo_lease.proofs.thread_tests.grant_all.Goals as goal

pub returns-clause-named : goal.returns-clause-named
returns-clause-named c =
    let names = c.args.names.now in
    IfOk-weaker c.grant.result
    (λ (lease : Lease ℕ). (h : ℕ) → Contains names h → is_some (slot_at h (lease_slots lease)) ≡ true)
    (λ (lease : Lease ℕ). (h : ℕ) → h < length names → is_some (slot_at h (lease_slots lease)) ≡ true)
    (λ lease all h lt. all h (named_in names c.requires.names h lt))
    c.grant.ensures.named

pub returns-clause-promised : goal.returns-clause-promised
returns-clause-promised c =
    let names = c.args.names.now in
    IfOk-weaker c.grant.result
    (λ (lease : Lease ℕ). (h : ℕ) → Contains names h → content_under lease h ≡ content_of c.args.keeper.now h)
    (λ (lease : Lease ℕ). (h : ℕ) → h < length names → content_under lease h ≡ Some (c.args.first + h))
    (λ lease all h lt. all h (named_in names c.requires.names h lt) ∙ c.requires.contents h lt)
    c.grant.ensures.recorded
