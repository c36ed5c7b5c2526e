use Rattle.std.proofs.Common.{◌≡◌, ◌<◌, ◌==◌, cond, Some, None, get_or, length, refl, sym, ◌∙◌, ap, subst, arith}
use Rattle.std.specs.Option.{option_map}
use Rattle.pf_edits.specs.Tables.{AreCounted, Table, record_at, slots_of}
use Rattle.pf_edits.specs.Extents.{with_extent}
use Rattle.pf_edits.proofs.Slots.{changed_indexed, changed_at, changed_slots, found_at}
use Rattle.pf_edits.proofs.Counts.{changed_counted, slots_wide}
use Rattle.pf_edits.proofs.records.Records.set_extent.Goals as goal

pub invariant_of-self : goal.invariant_of-self
invariant_of-self c =
    let within : c.args.id < 65536 = omega arith in
    let slab = c.self.inside.slab in
    let keys = c.self.inside.keys in
    let at : get_or c.self.inside.keys c.args.id None ≡ Some c.in-Some.key =
    sym c.get.ensures ∙ c.in-Some.is in
    let wide : length (slots_of c.self.inside.slab c.self.inside.keys) ≡ 65536 = slots_wide slab keys c.self.invariant.indexed.wide in
    record {
      indexed = changed_indexed slab c.write_extent.new.slab keys c.args.id c.in-Some.key c.self.invariant.indexed within (with_extent c.args.extent) at c.write_extent.ensures.updates
          c.write_extent.ensures.len c.write_extent.ensures.capacity;
      counted = subst (λ slots. AreCounted slots c.self.inside.tris)
          (sym (changed_slots slab c.write_extent.new.slab keys c.args.id c.in-Some.key c.self.invariant.indexed within (with_extent c.args.extent) at c.write_extent.ensures.updates))
          (changed_counted (slots_of slab keys) c.args.id c.self.inside.tris (with_extent c.args.extent) (λ r. refl) (omega (arith, within, wide)) c.self.invariant.counted _
          (found_at slab c.write_extent.new.slab keys c.args.id c.in-Some.key c.self.invariant.indexed within (with_extent c.args.extent) at c.write_extent.ensures.updates));
    }

pub returns-in-Some : goal.returns-in-Some
returns-in-Some c =
    let within : c.args.id < 65536 = omega arith in
    let at : get_or c.self.inside.keys c.args.id None ≡ Some c.in-Some.key =
    sym c.get.ensures ∙ c.in-Some.is in
    λ b. changed_at c.self.inside.slab c.write_extent.new.slab c.self.inside.keys c.args.id c.in-Some.key c.self.invariant.indexed within (with_extent c.args.extent) at c.write_extent.ensures.updates b
    ∙ ap (λ (t : Table). cond (b == c.args.id) (option_map (with_extent c.args.extent) (record_at t.slots b)) (record_at t.slots b)) c.self.view_is
