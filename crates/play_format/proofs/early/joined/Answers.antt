use Rattle.std.specs.Prelude.{is_ok}
use Rattle.std.specs.List.{All}
use Rattle.std.proofs.lemmas.List.Elements.{All-pop}
use Rattle.play_format.specs.declared.early.Part.{Part}
use Rattle.play_format.specs.Early.{IsEarly}
use Rattle.play_format.proofs.EarlyLemmas.{all_of_both}
use Rattle.play_format.proofs.early.joined.Goals as goal

pub loop-part-preserved : goal.loop-part-preserved
loop-part-preserved c = λ text all.
    let Are = λ (part : Part). All (IsEarly text) part.lines.items in
    let before = c.loop-part.invariant text all in
    let popped = All-pop Are c.loop-part.parts.items c.pop.new.self.items c.pop.result c.pop.ensures.items before.0 in
    (popped.0, rw c.append.ensures.items (all_of_both (IsEarly text) (is_ok c.append.result) c.loop-part.all.items c.in-Some.part.lines.items before.1 (rw c.in-Some.is at popped.1)))
