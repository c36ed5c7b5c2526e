use Rattle.std.proofs.Common.{◌≡◌, ◌<◌, ◌==◌, cond, Some, None, get_or, length, refl, sym, ◌∙◌, ap, subst, arith}
use Rattle.std.specs.Option.{option_map}
use Rattle.pf_edits.specs.Tables.{AreCounted, Table, record_at, slots_of}
use Rattle.pf_edits.specs.Extents.{children_in, with_child_list}
use Rattle.pf_edits.proofs.Slots.{changed_indexed, changed_at, changed_slots, found_at}
use Rattle.pf_edits.proofs.Counts.{changed_counted, slots_wide}
use Rattle.pf_edits.proofs.records.Records.swap_children.Goals as goal

pub invariant_of-self : goal.invariant_of-self
invariant_of-self c =
    let within : c.args.id < 65536 = omega arith in
    let slab = c.self.inside.slab in
    let keys = c.self.inside.keys in
    let at : get_or c.self.inside.keys c.args.id None ≡ Some c.in-Some.key =
    sym c.get.ensures ∙ c.in-Some.is in
    let wide : length (slots_of c.self.inside.slab c.self.inside.keys) ≡ 65536 = slots_wide slab keys c.self.invariant.indexed.wide in
    record {
      indexed = changed_indexed slab c.write_children.new.slab keys c.args.id c.in-Some.key c.self.invariant.indexed within (with_child_list c.args.children) at c.write_children.ensures.updates
          c.write_children.ensures.len c.write_children.ensures.capacity;
      counted = subst (λ slots. AreCounted slots c.self.inside.tris)
          (sym (changed_slots slab c.write_children.new.slab keys c.args.id c.in-Some.key c.self.invariant.indexed within (with_child_list c.args.children) at c.write_children.ensures.updates))
          (changed_counted (slots_of slab keys) c.args.id c.self.inside.tris (with_child_list c.args.children) (λ r. refl) (omega (arith, within, wide)) c.self.invariant.counted _
          (found_at slab c.write_children.new.slab keys c.args.id c.in-Some.key c.self.invariant.indexed within (with_child_list c.args.children) at c.write_children.ensures.updates));
    }

pub returns-in-Some-clause-back : goal.returns-in-Some-clause-back
returns-in-Some-clause-back c =
    let within : c.args.id < 65536 = omega arith in
    let at : get_or c.self.inside.keys c.args.id None ≡ Some c.in-Some.key =
    sym c.get.ensures ∙ c.in-Some.is in
    c.write_children.ensures.back
    ∙ ap (option_map children_in) (sym (found_at c.self.inside.slab c.write_children.new.slab c.self.inside.keys c.args.id c.in-Some.key c.self.invariant.indexed within (with_child_list c.args.children) at c.write_children.ensures.updates))
    ∙ ap (λ (t : Table). option_map children_in (record_at t.slots c.args.id)) c.self.view_is

pub returns-in-Some-clause-after : goal.returns-in-Some-clause-after
returns-in-Some-clause-after c =
    let within : c.args.id < 65536 = omega arith in
    let at : get_or c.self.inside.keys c.args.id None ≡ Some c.in-Some.key =
    sym c.get.ensures ∙ c.in-Some.is in
    λ b. changed_at c.self.inside.slab c.write_children.new.slab c.self.inside.keys c.args.id c.in-Some.key c.self.invariant.indexed within (with_child_list c.args.children) at c.write_children.ensures.updates b
    ∙ ap (λ (t : Table). cond (b == c.args.id) (option_map (with_child_list c.args.children) (record_at t.slots b)) (record_at t.slots b)) c.self.view_is
