use Rattle.std.proofs.Common.{◌≡◌, ◌<◌, ◌≤◌, ◌+◌, ◌-◌, ◌==◌, cond, Some, None, get_or, length, sym, ◌∙◌, ap, subst, arith}
use Rattle.std.specs.Option.{option_map}
use Rattle.slab.specs.Slab.{get}
use Rattle.pf_edits.specs.Tables.{AreCounted, Table, record_at, slots_of}
use Rattle.pf_edits.specs.Extents.{kind_in, with_other_kind}
use Rattle.pf_edits.proofs.Slots.{changed_indexed, changed_at, changed_slots, found_at}
use Rattle.pf_edits.proofs.Counts.{kind_counts, counted_few, swapped_counted, total_small, slots_wide}
use Rattle.pf_edits.proofs.records.Records.swap_kind.Goals as goal

pub write_kind-older-requires : goal.write_kind-older-requires
write_kind-older-requires c = c.self.invariant.indexed.there c.args.id c.in-Some.key (sym c.get.ensures ∙ c.in-Some.is)

pub overflow_sub-self : goal.overflow_sub-self
overflow_sub-self c =
    let within : c.args.id < 65536 = omega arith in
    let slab = c.self.inside.slab in
    let keys = c.self.inside.keys in
    let at : get_or c.self.inside.keys c.args.id None ≡ Some c.in-Some.key =
    sym c.get.ensures ∙ c.in-Some.is in
    let wide : length (slots_of c.self.inside.slab c.self.inside.keys) ≡ 65536 = slots_wide slab keys c.self.invariant.indexed.wide in
    counted_few (slots_of slab keys) c.args.id c.self.inside.tris c.triangles.result (get slab c.in-Some.key) (omega (arith, within, wide)) c.self.invariant.counted
    (found_at slab c.write_kind-older.new.slab keys c.args.id c.in-Some.key c.self.invariant.indexed within (with_other_kind c.args.kind) at c.write_kind-older.ensures.updates)
    (c.triangles.ensures.value ∙ sym (kind_counts (get slab c.in-Some.key) c.write_kind-older.result c.write_kind-older.ensures.back))

pub overflow_add-self : goal.overflow_add-self
overflow_add-self c =
    let l : c.self.inside.tris ≤ 268435456 =
    total_small (slots_of c.self.inside.slab c.self.inside.keys) c.self.inside.tris c.self.invariant.counted (slots_wide c.self.inside.slab c.self.inside.keys c.self.invariant.indexed.wide) in
    let m : c.triangles-more.result ≤ 4096 = c.triangles-more.ensures.bound in
    omega (arith, l, m)

pub invariant_of-self : goal.invariant_of-self
invariant_of-self c =
    let within : c.args.id < 65536 = omega arith in
    let slab = c.self.inside.slab in
    let keys = c.self.inside.keys in
    let at : get_or c.self.inside.keys c.args.id None ≡ Some c.in-Some.key =
    sym c.get.ensures ∙ c.in-Some.is in
    let wide : length (slots_of c.self.inside.slab c.self.inside.keys) ≡ 65536 = slots_wide slab keys c.self.invariant.indexed.wide in
    record {
      indexed = changed_indexed slab c.write_kind-older.new.slab keys c.args.id c.in-Some.key c.self.invariant.indexed within (with_other_kind c.args.kind) at c.write_kind-older.ensures.updates
          c.write_kind-older.ensures.len c.write_kind-older.ensures.capacity;
      counted = subst (λ slots. AreCounted slots (c.self.inside.tris - c.triangles.result + c.triangles-more.result))
          (sym (changed_slots slab c.write_kind-older.new.slab keys c.args.id c.in-Some.key c.self.invariant.indexed within (with_other_kind c.args.kind) at c.write_kind-older.ensures.updates))
          (swapped_counted (slots_of slab keys) c.args.id c.self.inside.tris c.triangles.result c.triangles-more.result c.args.kind (get slab c.in-Some.key) (omega (arith, within, wide)) c.self.invariant.counted
          (found_at slab c.write_kind-older.new.slab keys c.args.id c.in-Some.key c.self.invariant.indexed within (with_other_kind c.args.kind) at c.write_kind-older.ensures.updates)
          (c.self.invariant.indexed.there c.args.id c.in-Some.key at)
          (c.triangles.ensures.value ∙ sym (kind_counts (get slab c.in-Some.key) c.write_kind-older.result c.write_kind-older.ensures.back))
          c.triangles-more.ensures.value c.triangles-more.ensures.bound);
    }

pub returns-in-Some-clause-back : goal.returns-in-Some-clause-back
returns-in-Some-clause-back c =
    let within : c.args.id < 65536 = omega arith in
    let at : get_or c.self.inside.keys c.args.id None ≡ Some c.in-Some.key =
    sym c.get.ensures ∙ c.in-Some.is in
    sym c.write_kind-older.ensures.back
    ∙ ap (option_map kind_in) (sym (found_at c.self.inside.slab c.write_kind-older.new.slab c.self.inside.keys c.args.id c.in-Some.key c.self.invariant.indexed within (with_other_kind c.args.kind) at c.write_kind-older.ensures.updates))
    ∙ ap (λ (t : Table). option_map kind_in (record_at t.slots c.args.id)) c.self.view_is

pub returns-in-Some-clause-after : goal.returns-in-Some-clause-after
returns-in-Some-clause-after c =
    let within : c.args.id < 65536 = omega arith in
    let at : get_or c.self.inside.keys c.args.id None ≡ Some c.in-Some.key =
    sym c.get.ensures ∙ c.in-Some.is in
    λ b. changed_at c.self.inside.slab c.write_kind-older.new.slab c.self.inside.keys c.args.id c.in-Some.key c.self.invariant.indexed within (with_other_kind c.args.kind) at c.write_kind-older.ensures.updates b
    ∙ ap (λ (t : Table). cond (b == c.args.id) (option_map (with_other_kind c.args.kind) (record_at t.slots b)) (record_at t.slots b)) c.self.view_is
