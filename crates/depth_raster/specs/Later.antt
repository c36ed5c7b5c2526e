-- Marks that come after others.
use Rattle.std.specs.Prelude.{◌≡◌, ℕ, false, List}
use Rattle.std.specs.List.{All}
use Rattle.depth_raster.specs.Marks.{goes_before}
use Rattle.depth_raster.specs.declared.faces.Face.{Face}
use Rattle.depth_raster.specs.declared.marks.Mark.{Mark}

-- the mark comes before none of these
abbrev pub ComesLast : Mark → List Mark → Type 0
ComesLast l ms = All (λ m. goes_before l m ≡ false) ms

-- the mark of a face at a depth
abbrev pub mark_at : Face → (depth : ℕ) → Mark
mark_at f depth = record { depth = depth; place = f.place; number = f.number; rank = f.rank }
