use Rattle.std.proofs.Common.{◌≡◌, ◌<◌, ◌≤◌, ◌+◌, ◌==◌, cond, ℕ, List, Option, Some, length, sym, ◌∙◌, ap, subst, arith}
use Rattle.pf_edits.specs.Tables.{IsKept, AreCounted, Table, record_at, slots_of}
use Rattle.pf_edits.proofs.Slots.{put_indexed, put_at, put_slots}
use Rattle.pf_edits.proofs.Counts.{put_counted, total_small, slots_wide}
use Rattle.pf_edits.proofs.records.Records.put.Goals as goal

pub overflow_add-self : goal.overflow_add-self
overflow_add-self c =
    let l : c.self.inside.tris ≤ 268435456 =
    total_small (slots_of c.self.inside.slab c.self.inside.keys) c.self.inside.tris c.self.invariant.counted (slots_wide c.self.inside.slab c.self.inside.keys c.self.invariant.indexed.wide) in
    let m : c.triangles-more.result ≤ 4096 = c.triangles-more.ensures.bound in
    omega (arith, l, m)

pub invariant_of-self : goal.invariant_of-self
invariant_of-self c =
    let within : c.args.id < 65536 = omega arith in
    let absent = ap (λ (t : Table). record_at t.slots c.args.id) c.self.view_is ∙ c.requires.absent in
    let wide : length (slots_of c.self.inside.slab c.self.inside.keys) ≡ 65536 = slots_wide c.self.inside.slab c.self.inside.keys c.self.invariant.indexed.wide in
    subst (λ (ks : List (Option ℕ)). IsKept ks c.insert_reserved-key.new.self (c.self.inside.tris + c.triangles-more.result)) (sym c.set.ensures)
    (record {
      indexed = put_indexed c.self.inside.slab c.insert_reserved-key.new.self c.self.inside.keys c.args.id c.insert_reserved-key.result c.self.invariant.indexed within c.args.entry
          c.insert_reserved-key.ensures.was_vacant c.insert_reserved-key.ensures.updates absent c.insert_reserved-key.ensures.len c.insert_reserved-key.ensures.capacity;
      counted = subst (λ slots. AreCounted slots (c.self.inside.tris + c.triangles-more.result))
          (sym (put_slots c.self.inside.slab c.insert_reserved-key.new.self c.self.inside.keys c.args.id c.insert_reserved-key.result c.self.invariant.indexed within c.args.entry
          c.insert_reserved-key.ensures.was_vacant c.insert_reserved-key.ensures.updates))
          (put_counted (slots_of c.self.inside.slab c.self.inside.keys) c.args.id c.self.inside.tris c.triangles-more.result c.args.entry (omega (arith, within, wide)) c.self.invariant.counted absent
          c.triangles-more.ensures.value c.triangles-more.ensures.bound);
    })

pub returns : goal.returns
returns c =
    let within : c.args.id < 65536 = omega arith in
    λ b. subst (λ (ks : List (Option ℕ)). record_at (slots_of c.insert_reserved-key.new.self ks) b ≡ cond (b == c.args.id) (Some c.args.entry) (record_at c.args.self.now.slots b)) (sym c.set.ensures)
    (put_at c.self.inside.slab c.insert_reserved-key.new.self c.self.inside.keys c.args.id c.insert_reserved-key.result c.self.invariant.indexed within c.args.entry
    c.insert_reserved-key.ensures.was_vacant c.insert_reserved-key.ensures.updates b
    ∙ ap (λ (t : Table). cond (b == c.args.id) (Some c.args.entry) (record_at t.slots b)) c.self.view_is)

pub set-requires : goal.set-requires
set-requires c =
    let narrow : c.self.inside.slab.capacity ≤ 65535 = c.self.invariant.indexed.narrow in
    let below : c.insert_reserved-key.result < c.insert_reserved-key.new.self.capacity = c.insert_reserved-key.ensures.key_in_range in
    let same : c.insert_reserved-key.new.self.capacity ≡ c.self.inside.slab.capacity = c.insert_reserved-key.ensures.capacity in
    omega (arith, narrow, below, same)
