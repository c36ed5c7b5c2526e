use Rattle.std.proofs.Common.{ℕ, ◌<◌, subst}
use Rattle.std.specs.List.{All}
use Rattle.play_format.specs.declared.early.Part.{Part}
use Rattle.play_format.specs.Early.{IsEarly}
use Rattle.play_format.proofs.early.early_lines.Goals as goal

pub returns : goal.returns
returns g c =
    let text = c.args.text.now in
    let Are = λ (part : Part). All (IsEarly text) part.lines.items in
    c.joined.ensures text
    (λ i d below.
    let at = (c.for_each-read.ensures.each i d (subst (λ (n : ℕ). i < n) c.for_each-read.ensures.many below)).1 in
    subst Are at.left at.call)
