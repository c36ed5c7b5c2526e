use Rattle.std.proofs.Common.{◌≡◌, Option, None, [], true, is_some, ◌∙◌, ap}
use Rattle.std.specs.List.{list_any}
use Rattle.std.specs.Option.{option_map, option_map_or}
use Rattle.pf_model.specs.Limits.{has_child}
use Rattle.pf_edits.specs.declared.records.Record.{Record}
use Rattle.pf_edits.specs.Extents.{look_of}
use Rattle.pf_edits.proofs.Uses.{used_is}
use Rattle.pf_edits.proofs.faults.is_used.Goals as goal

pub returns : goal.returns
returns c =
    c.is_child_of_one.ensures
    ∙ ap (list_any (λ p. has_child (look_of c.args.records.now.slots) p c.args.id)) (c.as_slice.ensures ∙ ap (λ (o : Option Record). option_map_or (λ r. r.parents) o []) c.in-Some.ensures)
    ∙ used_is c.args.records.now.slots c.requires.sound c.args.id

pub unreachable-requires : goal.unreachable-requires
unreachable-requires c = let e : is_some {T = Record} None ≡ true = ap (λ (o : Option Record). is_some (option_map (λ r. r.node) o)) c.in-None.ensures ∙ c.requires.there in cc
