-- Edits whose numbers are in the ranges of a play. Types keep all other ranges, of ids, coordinates, entries and pose
-- angles.
use Rattle.std.specs.Prelude.{ℕ, Bool, true, ◌&&◌, nat_lt, nat_le, ◌==◌, ℤ, unsigned_abs, List, length}
use Rattle.std.specs.List.{list_all}
use Rattle.pf_model.specs.declared.nodes.Kind.{Kind}
use Rattle.pf_model.specs.declared.nodes.Kind.TheVariants.{Switch, Lod, Seq, Geode, Glass}
use Rattle.pf_model.specs.declared.geometry.Tri.{Tri}
use Rattle.pf_model.specs.declared.nodes.Pick.{Pick}
use Rattle.pf_model.specs.declared.nodes.Pick.TheVariants.{One}
use Rattle.pf_model.specs.declared.nodes.Run.{Run}
use Rattle.pf_model.specs.declared.nodes.Run.TheVariants.{Since, Held}
use Rattle.pf_model.specs.declared.edits.Edit.{Edit}
use Rattle.pf_model.specs.declared.edits.Edit.TheVariants as edit

abbrev pub is_at_most : ℕ → ℤ → Bool
is_at_most m z = nat_le (unsigned_abs z) m

abbrev pub pick_fits : Pick → Bool
pick_fits (One i) = nat_le i 255
pick_fits _ = true

-- a range is below 2 ^ 31
abbrev pub range_fits : ℕ → Bool
range_fits n = nat_le n 2147483647

-- a time is at least one frame
abbrev pub time_fits : ℕ → Bool
time_fits n = nat_lt 0 n

abbrev pub run_fits : Run → Bool
run_fits (Since s) = s == 0
run_fits (Held i) = nat_le i 255

abbrev pub geom_fits : List Tri → Bool
geom_fits ts = nat_le (length ts) 4096

-- the numbers of a kind, and the lengths of its lists
abbrev pub kind_fits : Kind → Bool
kind_fits (Switch p) = pick_fits p
kind_fits (Lod c rs) = nat_le (length rs) 257 && list_all range_fits rs
kind_fits (Seq ts r) = nat_le (length ts) 256 && (list_all time_fits ts && run_fits r)
kind_fits (Geode s ts) = geom_fits ts
kind_fits (Glass s a ts) = geom_fits ts
kind_fits _ = true

abbrev pub fits : Edit → Bool
fits (edit.Make id kind) = nat_lt id 65536 && kind_fits kind
fits (edit.Add parent child) = true
fits (edit.Insert parent place child) = nat_le place 255
fits (edit.Replace parent child by) = true
fits (edit.Remove parent child) = true
fits (edit.Delete id) = true
fits (edit.Pick id p) = pick_fits p
fits (edit.Mat id mat) = true
fits (edit.Trans id t) = true
fits (edit.Rot id h p r) = is_at_most 3600 h && (is_at_most 3600 p && is_at_most 3600 r)
fits (edit.Scale id s) = is_at_most 1048576 s
fits (edit.Range id place value) = nat_le place 256 && range_fits value
fits (edit.Centre id at) = true
fits (edit.Times id place frames) = nat_le place 255 && time_fits frames
fits (edit.Run id) = true
fits (edit.Stop id) = true
fits (edit.Verts id geom) = geom_fits geom
