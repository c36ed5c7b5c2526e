use Rattle.std.proofs.Common.{◌≡◌, ◌++◌, drop, map, pos}
use Rattle.play_format.specs.Texts.{numbers_text}
use Rattle.play_format.proofs.spelling.push_ids.Given as goal

abbrev pub invariant-loop-id : goal.invariant-loop-id
invariant-loop-id l = l.out.items ++ numbers_text (map pos (drop l.id-index l.ids)) ≡ l.fn.out.items ++ numbers_text (map pos l.ids)
