use Rattle.std.proofs.Common.{◌≡◌, Option, [], sym, ◌∙◌, ap}
use Rattle.std.specs.Option.{option_map, option_map_or}
use Rattle.pf_model.specs.declared.nodes.Node.{Node}
use Rattle.pf_model.specs.Graphs.{children_of}
use Rattle.pf_edits.specs.declared.records.Record.{Record}
use Rattle.pf_edits.specs.Extents.{look_of, leaf, extent_at, counted_at, reckoned}
use Rattle.pf_edits.proofs.climb.extent_along.Goals as goal

pub changed_extent-requires-clause-before : goal.changed_extent-requires-clause-before
changed_extent-requires-clause-before c =
    let s = c.args.records.now.slots in
    let kids : c.as_slice.result.now ≡ children_of (look_of c.args.records.now.slots) c.args.id =
    c.as_slice.ensures.value ∙ ap (λ (o : Option Record). option_map_or (λ (n : Node). n.children) (option_map (λ r. r.node) o) []) c.in-Some.ensures in
    ap (λ (o : Option Record). option_map_or (λ r. r.extent) o leaf) c.in-Some.ensures ∙ c.requires ∙ ap (reckoned (counted_at s c.args.way.now)) (sym kids)

pub returns-in-Some : goal.returns-in-Some
returns-in-Some c =
    let s = c.args.records.now.slots in
    let kids : c.as_slice.result.now ≡ children_of (look_of c.args.records.now.slots) c.args.id =
    c.as_slice.ensures.value ∙ ap (λ (o : Option Record). option_map_or (λ (n : Node). n.children) (option_map (λ r. r.node) o) []) c.in-Some.ensures in
    c.changed_extent.ensures ∙ ap (reckoned (extent_at s)) kids
