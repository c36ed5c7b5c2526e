-- What is nearest so far at a pixel.
use Rattle.std.specs.Prelude.{ℕ, ◌-◌, Bool, nat_lt, ◌==◌, ◌&&◌, ◌||◌, if◌then◌else◌, List, [], Option, Some, None}
use Rattle.std.specs.Option.{option_map, option_map_or}
use Rattle.fx_math.specs.declared.lenses.Lens.{Lens}
use Rattle.tri_cover.specs.declared.hit.Hit.{Hit}
use Rattle.tri_cover.specs.Hits.{hit}
use Rattle.tri_cover.specs.Picture.{Fragment}
use Rattle.depth_raster.specs.declared.faces.Face.{Face}
use Rattle.depth_raster.specs.declared.marks.Mark.{Mark}

-- the first mark is nearer: by depth, place, number, and then by rank
abbrev pub goes_before : Mark → Mark → Bool
goes_before a b =
    nat_lt a.depth b.depth
    || (a.depth == b.depth && (nat_lt a.place b.place
    || (a.place == b.place && (nat_lt a.number b.number
    || (a.number == b.number && nat_lt a.rank b.rank)))))

abbrev pub lesser : Mark → Mark → Mark
lesser m n = if goes_before n m then n else m

-- the same, where there is a second one
abbrev pub mark_with : Mark → Option Mark → Mark
mark_with m o = option_map_or (lesser m) o m

-- where nothing is drawn
abbrev pub nothing : Mark
nothing = record { depth = 2147483648; place = 0; number = 0; rank = 0 }

-- a mark of zeros, in place of one that a list lacks
abbrev pub no_mark : Mark
no_mark = record { depth = 0; place = 0; number = 0; rank = 0 }

-- the mark of a hit of a face
abbrev pub mark_of : Face → Hit → Mark
mark_of f h = record { depth = h.depth - f.shift; place = f.place; number = f.number; rank = f.rank }

-- the mark of a face at a pixel, where it hits
abbrev pub mark_by : Lens → (px py : ℕ) → Face → Option Mark
mark_by lens px py f = option_map (mark_of f) (hit lens px py [] f.tri)

-- the nearer of a mark and a face at a pixel
unfoldable pub mark_over : Lens → (px py : ℕ) → Face → Mark → Mark
mark_over lens px py f m = mark_with m (mark_by lens px py f)

-- what is seen at a pixel of a mark, where it has this colour
abbrev pub seen_as : Mark → List ℕ → Option Fragment
seen_as m colour =
    if nat_lt m.depth 2147483648
    then Some (record { key = record { depth = m.depth; place = m.place; number = m.number }; colour = colour })
    else None

-- the same, whatever its colour
abbrev pub behind_as : Mark → Option Fragment
behind_as m = seen_as m []
