use Rattle.std.proofs.Common.{◌≡◌, ◌≤◌, refl, rules}
use Rattle.slab.specs.Slab.{slab_len}
use Rattle.pf_edits.specs.Tables.{slots_of}
use Rattle.pf_edits.proofs.Slots.{empty_indexed, no_slot, no_count}
use Rattle.pf_edits.proofs.Counts.{none_counted}
use Rattle.pf_edits.proofs.records.Records.new.Goals as goal

pub invariant_of-result : goal.invariant_of-result
invariant_of-result c =
    let none : slab_len c.in_ok-slab.slab ≡ 0 = rw c.in_ok-slab.ensures.empty refl in
    let narrow : c.in_ok-slab.slab.capacity ≤ 65535 = search rules in
    record {
      indexed = empty_indexed c.in_ok-slab.slab c.in_ok-new.field-0 c.in_ok-new.ensures.length c.in_ok-new.ensures.none none c.in_ok-slab.ensures.capacity narrow;
      counted = none_counted (slots_of c.in_ok-slab.slab c.in_ok-new.field-0) (no_slot c.in_ok-slab.slab c.in_ok-new.field-0 c.in_ok-new.ensures.none);
    }

pub returns-clause-none : goal.returns-clause-none
returns-clause-none c = no_slot c.in_ok-slab.slab c.in_ok-new.field-0 c.in_ok-new.ensures.none

pub returns-clause-empty : goal.returns-clause-empty
returns-clause-empty c = no_count (slots_of c.in_ok-slab.slab c.in_ok-new.field-0) (no_slot c.in_ok-slab.slab c.in_ok-new.field-0 c.in_ok-new.ensures.none)
