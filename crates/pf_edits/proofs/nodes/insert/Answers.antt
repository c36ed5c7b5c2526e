use Rattle.std.proofs.Common.{Option, Some, [], refl, ◌∙◌, ap}
use Rattle.std.specs.Option.{option_map_or}
use Rattle.pf_edits.specs.declared.records.Record.{Record}
use Rattle.pf_edits.specs.Extents.{leaf}
use Rattle.pf_edits.proofs.Rewrites.{put_look, other_record}
use Rattle.pf_edits.proofs.Sounds.{put_sound}
use Rattle.pf_edits.proofs.nodes.insert.Goals as goal

pub returns-clause-sound : goal.returns-clause-sound
returns-clause-sound c =
    put_sound c.args.records.now.slots c.put.new.self.slots c.args.id (Some c.args.node) c.requires.sound c.requires.unused
    (put_look c.args.records.now.slots c.put.new.self.slots c.args.id _ c.put.ensures) c.args.node refl c.reckon.new.records.slots c.requires.apart
    (λ b e. ap (λ (o : Option Record). option_map_or (λ r. r.extent) o leaf) (other_record c.args.records.now.slots c.put.new.self.slots c.args.id _ c.put.ensures b e))
    c.reckon.ensures.nodes c.reckon.ensures.extents c.requires.noted
    (λ b e. c.reckon.ensures.parents b ∙ ap (λ (o : Option Record). option_map_or (λ r. r.parents) o []) (other_record c.args.records.now.slots c.put.new.self.slots c.args.id _ c.put.ensures b e))
