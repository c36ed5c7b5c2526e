use Rattle.std.proofs.Common.{◌≡◌, ◌++◌, drop}
use Rattle.std.specs.List.{flat_map}
use Rattle.play_format.specs.Texts.{numbers_text}
use Rattle.play_format.proofs.spelling.push_matrix.Given as goal

abbrev pub invariant-loop-row : goal.invariant-loop-row
invariant-loop-row l =
    l.out.items ++ flat_map numbers_text (drop l.row-index l.m.a) ≡ l.fn.out.items ++ flat_map numbers_text l.m.a
