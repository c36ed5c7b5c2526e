use Rattle.std.proofs.Common.{◌≡◌, ◌<◌, ◌-◌, ◌==◌, cond, ℕ, List, Option, Some, None, get_or, length, sym, ◌∙◌, ap, subst, arith}
use Rattle.pf_edits.specs.Tables.{IsKept, AreCounted, Table, record_at, slots_of}
use Rattle.pf_edits.proofs.Slots.{take_indexed, take_at, taken_at, take_slots, no_record, none_stays}
use Rattle.pf_edits.proofs.Counts.{taken_few, take_counted, slots_wide}
use Rattle.pf_edits.proofs.records.Records.take.Goals as goal

pub overflow_sub-self : goal.overflow_sub-self
overflow_sub-self c =
    let within : c.args.id < 65536 = omega arith in
    let slab = c.self.inside.slab in
    let keys = c.self.inside.keys in
    let at : get_or c.self.inside.keys c.args.id None ≡ Some c.in-Some.key =
    sym c.get.ensures ∙ c.in-Some.is in
    let wide : length (slots_of c.self.inside.slab c.self.inside.keys) ≡ 65536 = slots_wide slab keys c.self.invariant.indexed.wide in
    taken_few (slots_of slab keys) c.args.id c.self.inside.tris c.triangles.result c.remove-record.result (omega (arith, within, wide)) c.self.invariant.counted
    (taken_at slab c.remove-record.new.self keys c.args.id c.in-Some.key c.self.invariant.indexed within at c.remove-record.ensures.updates ∙ c.remove-record.ensures.value) c.triangles.ensures.value

pub invariant_of-self : goal.invariant_of-self
invariant_of-self c =
    let within : c.args.id < 65536 = omega arith in
    let slab = c.self.inside.slab in
    let keys = c.self.inside.keys in
    let at : get_or c.self.inside.keys c.args.id None ≡ Some c.in-Some.key =
    sym c.get.ensures ∙ c.in-Some.is in
    let wide : length (slots_of c.self.inside.slab c.self.inside.keys) ≡ 65536 = slots_wide slab keys c.self.invariant.indexed.wide in
    subst (λ (ks : List (Option ℕ)). IsKept ks c.remove-record.new.self (c.self.inside.tris - c.triangles.result)) (sym c.clear.ensures)
    (record {
      indexed = take_indexed slab c.remove-record.new.self keys c.args.id c.in-Some.key c.self.invariant.indexed within at c.remove-record.ensures.updates
          c.remove-record.ensures.len c.remove-record.ensures.capacity;
      counted = subst (λ slots. AreCounted slots (c.self.inside.tris - c.triangles.result))
          (sym (take_slots slab c.remove-record.new.self keys c.args.id c.in-Some.key c.self.invariant.indexed within at c.remove-record.ensures.updates))
          (take_counted (slots_of slab keys) c.args.id c.self.inside.tris c.triangles.result c.remove-record.result (omega (arith, within, wide)) c.self.invariant.counted
          (taken_at slab c.remove-record.new.self keys c.args.id c.in-Some.key c.self.invariant.indexed within at c.remove-record.ensures.updates ∙ c.remove-record.ensures.value) c.triangles.ensures.value);
    })

pub returns-in-Some-clause-after : goal.returns-in-Some-clause-after
returns-in-Some-clause-after c =
    let within : c.args.id < 65536 = omega arith in
    let at : get_or c.self.inside.keys c.args.id None ≡ Some c.in-Some.key =
    sym c.get.ensures ∙ c.in-Some.is in
    λ b. subst (λ (ks : List (Option ℕ)). record_at (slots_of c.remove-record.new.self ks) b ≡ cond (b == c.args.id) None (record_at c.args.self.now.slots b)) (sym c.clear.ensures)
    (take_at c.self.inside.slab c.remove-record.new.self c.self.inside.keys c.args.id c.in-Some.key c.self.invariant.indexed within at c.remove-record.ensures.updates b
    ∙ ap (λ (t : Table). cond (b == c.args.id) None (record_at t.slots b)) c.self.view_is)

pub returns-in-None-clause-after : goal.returns-in-None-clause-after
returns-in-None-clause-after c =
    let within : c.args.id < 65536 = omega arith in
    let at : get_or c.self.inside.keys c.args.id None ≡ None =
    sym c.get.ensures ∙ c.in-None.is in
    none_stays c.args.self.now.slots c.args.id (sym (ap (λ (t : Table). record_at t.slots c.args.id) c.self.view_is) ∙ no_record c.self.inside.slab c.self.inside.keys c.args.id at)
