use Rattle.std.proofs.Common.{List, ℕ, length}
use Rattle.std.specs.List.{All}
use Rattle.play_format.specs.Early.{IsEarly}
use Rattle.play_format.proofs.early.joined.Given as goal

abbrev pub invariant-loop-part : goal.invariant-loop-part
invariant-loop-part l = (text : List ℕ) → All (λ part. All (IsEarly text) part.lines.items) l.fn.parts.items
    → All (λ part. All (IsEarly text) part.lines.items) l.parts.items × All (IsEarly text) l.all.items

abbrev pub decreases-loop-part : goal.decreases-loop-part
decreases-loop-part l = length l.parts.items
