use Rattle.std.proofs.Common.{Option, None, [], refl, ap}
use Rattle.std.specs.Option.{option_map_or}
use Rattle.pf_edits.specs.declared.records.Record.{Record}
use Rattle.pf_edits.specs.Extents.{leaf}
use Rattle.pf_edits.proofs.Rewrites.{take_look, other_record, this_record}
use Rattle.pf_edits.proofs.Sounds.{taken_sound}
use Rattle.pf_edits.proofs.nodes.remove.Goals as goal

pub returns-clause-sound : goal.returns-clause-sound
returns-clause-sound c =
    taken_sound c.args.records.now.slots c.take.new.self.slots c.args.id None c.requires.sound c.requires.unused
    (take_look c.args.records.now.slots c.take.new.self.slots c.args.id c.take.ensures.after) refl
    (λ b e. ap (λ (o : Option Record). option_map_or (λ r. r.extent) o leaf) (other_record c.args.records.now.slots c.take.new.self.slots c.args.id None c.take.ensures.after b e))
    (ap (λ (o : Option Record). option_map_or (λ r. r.extent) o leaf) (this_record c.args.records.now.slots c.take.new.self.slots c.args.id None c.take.ensures.after))
    (λ b e. ap (λ (o : Option Record). option_map_or (λ r. r.parents) o []) (other_record c.args.records.now.slots c.take.new.self.slots c.args.id None c.take.ensures.after b e))
