use Rattle.std.proofs.Common.{◌+◌, ◌<◌, ◌≤◌, List, Option, ℕ, Some, map, length, length-set, set, ◌∙◌, ap, arith}
use Rattle.pf_model.proofs.Written.{has_place}
use Rattle.pf_edits.specs.Tables.{key_in, cells_of_all}
use Rattle.pf_edits.proofs.Cells.{cell_set, cell_of, few_longer, cells_longer}
use Rattle.pf_edits.proofs.keys.Keys.set.Goals as goal

pub index_mut-requires : goal.index_mut-requires
index_mut-requires c =
    let there = has_place 0 c.self.inside.cells.items c.write_to.new.entries.items c.from.result (c.write_to.ensures.items 0 (λ x none. none)) in
    omega (arith, there, c.from.ensures, c.from-2.ensures)

pub invariant_of-self : goal.invariant_of-self
invariant_of-self c =
    let longer = c.write_to.new.entries.items in
    let few : length longer ≤ 65536 = few_longer c.self.inside.cells.items longer c.from.result (c.write_to.ensures.items 0 (λ x none. none)) (omega (arith, c.from.ensures, c.ranges.id)) c.self.invariant.few in
    record {
      few = omega (arith, few, length-set longer c.from-2.result (c.args.key + 1));
      reserved = omega (arith, c.write_to.ensures.capacity, c.self.invariant.reserved);
    }

pub returns : goal.returns
returns c =
    let cells = c.self.inside.cells.items in
    let longer = c.write_to.new.entries.items in
    let written = c.write_to.ensures.items 0 (λ x none. none) in
    let within : c.from.result < 65536 = omega (arith, c.from.ensures, c.ranges.id) in
    ap (λ (i : ℕ). map key_in (cells_of_all (set longer i (c.args.key + 1)))) c.from-2.ensures
    ∙ cell_set longer c.args.id (c.args.key + 1) (Some c.args.key) (omega (arith, has_place 0 cells longer c.from.result written, c.from.ensures)) (cell_of c.args.key)
    ∙ ap (λ (ks : List (Option ℕ)). set ks c.args.id (Some c.args.key)) (ap (map key_in) (cells_longer cells longer c.from.result written within c.self.invariant.few) ∙ c.self.view_is)
