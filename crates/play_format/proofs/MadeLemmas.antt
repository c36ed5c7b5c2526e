-- The steps that lines make are as the type of a play keeps them, and as lines can make them.
use Rattle.std.proofs.Common.{◌≡◌, ◌&&◌, ℕ, zero, suc, ◌-◌, ◌<◌, ◌≤◌, arith, refl, sym, ap, ◌∙◌, true, false, cond, Bool, List, [], ◌∷◌, length, map, ℤ, pos, negsuc, ltb, leb, Some, None, subst}
use Rattle.std.specs.Prelude.{◌≤ℤ◌, unsigned_abs, IfSome}
use Rattle.std.proofs.lemmas.Int.{ints}
use Rattle.std.proofs.lemmas.Bool.{lt-ltb, le-leb}
use Rattle.pf_model.specs.Fits.{fits}
use Rattle.pf_model.specs.declared.geometry.Tri.{Tri}
use Rattle.pf_model.specs.declared.lines.AppStep.{AppStep}
use Rattle.pf_model.specs.declared.lines.BaseStep.{BaseStep}
use Rattle.play_format.specs.declared.commands.Form.{Form}
use Rattle.play_format.specs.declared.commands.Form.TheVariants as form
use Rattle.play_format.specs.declared.commands.Command.{Command}
use Rattle.play_format.specs.declared.commands.Command.TheVariants as command
use Rattle.play_format.specs.declared.places.Version.{Version}
use Rattle.play_format.specs.declared.places.Place.TheVariants as place
use Rattle.play_format.specs.Commands.{between, form_limits, limits_of, id, count, view_limits, channel_view_limits}
use Rattle.play_format.specs.Places.{number, IsWithin, AreWithin, announced_by, announced, stands_in_app, stands_in_dbase, stands_in_buffer, place_after, channels_after, due_after}
use Rattle.play_format.specs.Making.{below, u8_at, u16_at, u32_at, vector, view_at, edit_of, app_step_of, base_step_of}
use Rattle.play_format.specs.Spelling.{edit_entry, edit_triangles, tri_entry, view_numbers, view_entry, app_lines, base_lines}
use Rattle.play_format.specs.Written.{AreTriangles, IsSquare, IsWritten, IsAppStep, IsBaseStep}
use Rattle.play_format.specs.Plays.{app_fits, base_fits, opened}
use Rattle.play_format.specs.Sections.{place_of}
use Rattle.play_format.proofs.BackLemmas.{id_back, count_back, edit_back, form_back, triangles_back, view_back, affine_back}

-- a number that is at most a bound is at most it where it is held below another
at_most : (m bound : ℕ) (z : ℤ) → unsigned_abs z ≤ m → leb (below bound z) m ≡ true
at_most m bound (pos n) h = at_most_of m bound n (ltb n bound) h
  where
    at_most_of : (m bound n : ℕ) (b : Bool) → n ≤ m → leb (cond b n 0) m ≡ true
    at_most_of m bound n true h = le-leb n m h
    at_most_of m bound n false h = le-leb 0 m (omega arith)
at_most m bound (negsuc n) h = le-leb 0 m (omega arith)

small : (lo hi m : ℕ) (z : ℤ) → IsWithin (between (pos lo) (pos hi)) z → hi ≤ m → unsigned_abs z ≤ m
small lo hi m z w h = omega (arith, ints, w.low, w.high)

some_below : (bound : ℕ) (z : ℤ) → pos 1 ≤ℤ z → unsigned_abs z < bound → ltb 0 (below bound z) ≡ true
some_below bound (pos n) low high = rw (lt-ltb n bound high) (lt-ltb 0 n (omega (arith, ints)))
some_below bound (negsuc n) low high = absurd (omega (arith, ints))

magnitude : (m : ℕ) (z : ℤ) → IsWithin (between (negsuc m) (pos (suc m))) z → leb (unsigned_abs z) (suc m) ≡ true
magnitude m z w = le-leb (unsigned_abs z) (suc m) (omega (arith, ints, w.low, w.high))

-- an id of a line is below 65,536
kept_id : (z : ℤ) → ltb (below 65536 z) 65536 ≡ true
kept_id (pos n) = kept_of n (ltb n 65536) refl
  where
    kept_of : (n : ℕ) (b : Bool) → ltb n 65536 ≡ b → ltb (cond b n 0) 65536 ≡ true
    kept_of n true e = e
    kept_of n false e = refl
kept_id (negsuc n) = refl

-- a new node of a line fits where its kind does
new_fits : (zs : List ℤ) (b : Bool) → b ≡ true → (ltb (u16_at zs 0) 65536 && b) ≡ true
new_fits zs b e = let P : Bool → Type 0 = λ a. (a && b) ≡ true in subst P (sym (kept_id (number zs 0))) e

-- an edit that a line makes is in its ranges
pub edit_fits : (f : Form) (zs : List ℤ) (ts : List Tri) → AreWithin (form_limits f) zs → length ts ≤ 4096 → fits (edit_of f zs ts) ≡ true
edit_fits form.Group zs ts w few = new_fits zs true refl
edit_fits form.Switch zs ts w few = new_fits zs true refl
edit_fits form.Dcs zs ts w few = new_fits zs true refl
edit_fits form.Lod zs ts w few = new_fits zs true refl
edit_fits form.Seq zs ts w few = new_fits zs true refl
edit_fits form.Layer zs ts w few = new_fits zs true refl
edit_fits form.Scs zs ts w few = new_fits zs true refl
edit_fits form.Geode zs ts w few = new_fits zs (leb (length ts) 4096) (le-leb (length ts) 4096 few)
edit_fits form.Glass zs ts w few = new_fits zs (leb (length ts) 4096) (le-leb (length ts) 4096 few)
edit_fits form.Verts zs ts w few = le-leb (length ts) 4096 few
edit_fits form.Add zs ts w few = refl
edit_fits form.Remove zs ts w few = refl
edit_fits form.Insert (z0 ∷ z1 ∷ z2 ∷ []) ts w few = at_most 255 65536 z1 (small 0 255 255 z1 w.1.0 (omega arith))
edit_fits form.Insert ([]) ts w few = absurd w
edit_fits form.Insert (z0 ∷ []) ts w few = absurd w.1
edit_fits form.Insert (z0 ∷ z1 ∷ []) ts w few = absurd w.1.1
edit_fits form.Insert (z0 ∷ z1 ∷ z2 ∷ z ∷ zs) ts w few = absurd w.1.1.1
edit_fits form.Replace zs ts w few = refl
edit_fits form.Delete zs ts w few = refl
edit_fits form.Run zs ts w few = refl
edit_fits form.Stop zs ts w few = refl
edit_fits form.SwitchTo (z0 ∷ z1 ∷ []) ts w few = at_most 255 65536 z1 (small 0 255 255 z1 w.1.0 (omega arith))
edit_fits form.SwitchTo ([]) ts w few = absurd w
edit_fits form.SwitchTo (z0 ∷ []) ts w few = absurd w.1
edit_fits form.SwitchTo (z0 ∷ z1 ∷ z ∷ zs) ts w few = absurd w.1.1
edit_fits form.SwitchOn zs ts w few = refl
edit_fits form.SwitchOff zs ts w few = refl
edit_fits form.Mat zs ts w few = refl
edit_fits form.Trans zs ts w few = refl
edit_fits form.Centre zs ts w few = refl
edit_fits form.Rot (z0 ∷ z1 ∷ z2 ∷ z3 ∷ []) ts w few = rw (magnitude 3599 z1 w.1.0, magnitude 3599 z2 w.1.1.0, magnitude 3599 z3 w.1.1.1.0) refl
edit_fits form.Rot ([]) ts w few = absurd w
edit_fits form.Rot (z0 ∷ []) ts w few = absurd w.1
edit_fits form.Rot (z0 ∷ z1 ∷ []) ts w few = absurd w.1.1
edit_fits form.Rot (z0 ∷ z1 ∷ z2 ∷ []) ts w few = absurd w.1.1.1
edit_fits form.Rot (z0 ∷ z1 ∷ z2 ∷ z3 ∷ z ∷ zs) ts w few = absurd w.1.1.1.1
edit_fits form.Scale (z0 ∷ z1 ∷ []) ts w few = magnitude 1048575 z1 w.1.0
edit_fits form.Scale ([]) ts w few = absurd w
edit_fits form.Scale (z0 ∷ []) ts w few = absurd w.1
edit_fits form.Scale (z0 ∷ z1 ∷ z ∷ zs) ts w few = absurd w.1.1
edit_fits form.Range (z0 ∷ z1 ∷ z2 ∷ []) ts w few = rw (at_most 256 65536 z1 (small 0 256 256 z1 w.1.0 (omega arith)), at_most 2147483647 4294967296 z2 (small 0 2147483647 2147483647 z2 w.1.1.0 (omega arith))) refl
edit_fits form.Range ([]) ts w few = absurd w
edit_fits form.Range (z0 ∷ []) ts w few = absurd w.1
edit_fits form.Range (z0 ∷ z1 ∷ []) ts w few = absurd w.1.1
edit_fits form.Range (z0 ∷ z1 ∷ z2 ∷ z ∷ zs) ts w few = absurd w.1.1.1
edit_fits form.Times (z0 ∷ z1 ∷ z2 ∷ []) ts w few = rw (at_most 255 65536 z1 (small 0 255 255 z1 w.1.0 (omega arith)), some_below 65536 z2 w.1.1.0.low (omega (arith, ints, w.1.1.0.low, w.1.1.0.high))) refl
edit_fits form.Times ([]) ts w few = absurd w
edit_fits form.Times (z0 ∷ []) ts w few = absurd w.1
edit_fits form.Times (z0 ∷ z1 ∷ []) ts w few = absurd w.1.1
edit_fits form.Times (z0 ∷ z1 ∷ z2 ∷ z ∷ zs) ts w few = absurd w.1.1.1

-- and one that a line can make
pub edit_written : (f : Form) (zs : List ℤ) (ts : List Tri) → AreWithin (form_limits f) zs → AreTriangles ts → IsWritten (edit_of f zs ts)
edit_written form.Group zs ts w k = tt
edit_written form.Switch zs ts w k = refl
edit_written form.Dcs zs ts w k = refl
edit_written form.Lod zs ts w k = (refl, refl)
edit_written form.Seq zs ts w k = (refl, refl)
edit_written form.Layer zs ts w k = tt
edit_written form.Scs (z0 ∷ z1 ∷ z2 ∷ z3 ∷ z4 ∷ z5 ∷ z6 ∷ z7 ∷ z8 ∷ z9 ∷ z10 ∷ z11 ∷ z12 ∷ []) ts w k = let m = affine_back z1 z2 z3 z4 z5 z6 z7 z8 z9 (vector z10 z11 z12) w.1.0 w.1.1.0 w.1.1.1.0 w.1.1.1.1.0 w.1.1.1.1.1.0 w.1.1.1.1.1.1.0 w.1.1.1.1.1.1.1.0 w.1.1.1.1.1.1.1.1.0 w.1.1.1.1.1.1.1.1.1.0 in let P : List (List ℤ) → Type 0 = λ a. IsSquare a in subst P (sym m.0) (record { rows = refl })
edit_written form.Scs ([]) ts w k = absurd w
edit_written form.Scs (z0 ∷ []) ts w k = absurd w.1
edit_written form.Scs (z0 ∷ z1 ∷ []) ts w k = absurd w.1.1
edit_written form.Scs (z0 ∷ z1 ∷ z2 ∷ []) ts w k = absurd w.1.1.1
edit_written form.Scs (z0 ∷ z1 ∷ z2 ∷ z3 ∷ []) ts w k = absurd w.1.1.1.1
edit_written form.Scs (z0 ∷ z1 ∷ z2 ∷ z3 ∷ z4 ∷ []) ts w k = absurd w.1.1.1.1.1
edit_written form.Scs (z0 ∷ z1 ∷ z2 ∷ z3 ∷ z4 ∷ z5 ∷ []) ts w k = absurd w.1.1.1.1.1.1
edit_written form.Scs (z0 ∷ z1 ∷ z2 ∷ z3 ∷ z4 ∷ z5 ∷ z6 ∷ []) ts w k = absurd w.1.1.1.1.1.1.1
edit_written form.Scs (z0 ∷ z1 ∷ z2 ∷ z3 ∷ z4 ∷ z5 ∷ z6 ∷ z7 ∷ []) ts w k = absurd w.1.1.1.1.1.1.1.1
edit_written form.Scs (z0 ∷ z1 ∷ z2 ∷ z3 ∷ z4 ∷ z5 ∷ z6 ∷ z7 ∷ z8 ∷ []) ts w k = absurd w.1.1.1.1.1.1.1.1.1
edit_written form.Scs (z0 ∷ z1 ∷ z2 ∷ z3 ∷ z4 ∷ z5 ∷ z6 ∷ z7 ∷ z8 ∷ z9 ∷ []) ts w k = absurd w.1.1.1.1.1.1.1.1.1.1
edit_written form.Scs (z0 ∷ z1 ∷ z2 ∷ z3 ∷ z4 ∷ z5 ∷ z6 ∷ z7 ∷ z8 ∷ z9 ∷ z10 ∷ []) ts w k = absurd w.1.1.1.1.1.1.1.1.1.1.1
edit_written form.Scs (z0 ∷ z1 ∷ z2 ∷ z3 ∷ z4 ∷ z5 ∷ z6 ∷ z7 ∷ z8 ∷ z9 ∷ z10 ∷ z11 ∷ []) ts w k = absurd w.1.1.1.1.1.1.1.1.1.1.1.1
edit_written form.Scs (z0 ∷ z1 ∷ z2 ∷ z3 ∷ z4 ∷ z5 ∷ z6 ∷ z7 ∷ z8 ∷ z9 ∷ z10 ∷ z11 ∷ z12 ∷ z ∷ zs) ts w k = absurd w.1.1.1.1.1.1.1.1.1.1.1.1.1
edit_written form.Geode zs ts w k = k
edit_written form.Glass zs ts w k = k
edit_written form.Verts zs ts w k = k
edit_written form.Add zs ts w k = tt
edit_written form.Remove zs ts w k = tt
edit_written form.Insert zs ts w k = tt
edit_written form.Replace zs ts w k = tt
edit_written form.Delete zs ts w k = tt
edit_written form.Run zs ts w k = tt
edit_written form.Stop zs ts w k = tt
edit_written form.SwitchTo zs ts w k = tt
edit_written form.SwitchOn zs ts w k = tt
edit_written form.SwitchOff zs ts w k = tt
edit_written form.Mat (z0 ∷ z1 ∷ z2 ∷ z3 ∷ z4 ∷ z5 ∷ z6 ∷ z7 ∷ z8 ∷ z9 ∷ z10 ∷ z11 ∷ z12 ∷ []) ts w k = let m = affine_back z1 z2 z3 z4 z5 z6 z7 z8 z9 (vector z10 z11 z12) w.1.0 w.1.1.0 w.1.1.1.0 w.1.1.1.1.0 w.1.1.1.1.1.0 w.1.1.1.1.1.1.0 w.1.1.1.1.1.1.1.0 w.1.1.1.1.1.1.1.1.0 w.1.1.1.1.1.1.1.1.1.0 in let P : List (List ℤ) → Type 0 = λ a. IsSquare a in subst P (sym m.0) (record { rows = refl })
edit_written form.Mat ([]) ts w k = absurd w
edit_written form.Mat (z0 ∷ []) ts w k = absurd w.1
edit_written form.Mat (z0 ∷ z1 ∷ []) ts w k = absurd w.1.1
edit_written form.Mat (z0 ∷ z1 ∷ z2 ∷ []) ts w k = absurd w.1.1.1
edit_written form.Mat (z0 ∷ z1 ∷ z2 ∷ z3 ∷ []) ts w k = absurd w.1.1.1.1
edit_written form.Mat (z0 ∷ z1 ∷ z2 ∷ z3 ∷ z4 ∷ []) ts w k = absurd w.1.1.1.1.1
edit_written form.Mat (z0 ∷ z1 ∷ z2 ∷ z3 ∷ z4 ∷ z5 ∷ []) ts w k = absurd w.1.1.1.1.1.1
edit_written form.Mat (z0 ∷ z1 ∷ z2 ∷ z3 ∷ z4 ∷ z5 ∷ z6 ∷ []) ts w k = absurd w.1.1.1.1.1.1.1
edit_written form.Mat (z0 ∷ z1 ∷ z2 ∷ z3 ∷ z4 ∷ z5 ∷ z6 ∷ z7 ∷ []) ts w k = absurd w.1.1.1.1.1.1.1.1
edit_written form.Mat (z0 ∷ z1 ∷ z2 ∷ z3 ∷ z4 ∷ z5 ∷ z6 ∷ z7 ∷ z8 ∷ []) ts w k = absurd w.1.1.1.1.1.1.1.1.1
edit_written form.Mat (z0 ∷ z1 ∷ z2 ∷ z3 ∷ z4 ∷ z5 ∷ z6 ∷ z7 ∷ z8 ∷ z9 ∷ []) ts w k = absurd w.1.1.1.1.1.1.1.1.1.1
edit_written form.Mat (z0 ∷ z1 ∷ z2 ∷ z3 ∷ z4 ∷ z5 ∷ z6 ∷ z7 ∷ z8 ∷ z9 ∷ z10 ∷ []) ts w k = absurd w.1.1.1.1.1.1.1.1.1.1.1
edit_written form.Mat (z0 ∷ z1 ∷ z2 ∷ z3 ∷ z4 ∷ z5 ∷ z6 ∷ z7 ∷ z8 ∷ z9 ∷ z10 ∷ z11 ∷ []) ts w k = absurd w.1.1.1.1.1.1.1.1.1.1.1.1
edit_written form.Mat (z0 ∷ z1 ∷ z2 ∷ z3 ∷ z4 ∷ z5 ∷ z6 ∷ z7 ∷ z8 ∷ z9 ∷ z10 ∷ z11 ∷ z12 ∷ z ∷ zs) ts w k = absurd w.1.1.1.1.1.1.1.1.1.1.1.1.1
edit_written form.Trans zs ts w k = tt
edit_written form.Centre zs ts w k = tt
edit_written form.Rot zs ts w k = tt
edit_written form.Scale zs ts w k = tt
edit_written form.Range zs ts w k = tt
edit_written form.Times zs ts w k = tt

-- at most 4,096 triangles are announced
few_by_form : (f : Form) (zs : List ℤ) → AreWithin (form_limits f) zs → announced_by f zs ≤ 4096
few_by_form form.Group zs w = omega arith
few_by_form form.Switch zs w = omega arith
few_by_form form.Dcs zs w = omega arith
few_by_form form.Lod zs w = omega arith
few_by_form form.Seq zs w = omega arith
few_by_form form.Layer zs w = omega arith
few_by_form form.Scs zs w = omega arith
few_by_form form.Geode (z0 ∷ z1 ∷ z2 ∷ []) w = small 0 4096 4096 z2 w.1.1.0 (omega arith)
few_by_form form.Geode ([]) w = absurd w
few_by_form form.Geode (z0 ∷ []) w = absurd w.1
few_by_form form.Geode (z0 ∷ z1 ∷ []) w = absurd w.1.1
few_by_form form.Geode (z0 ∷ z1 ∷ z2 ∷ z ∷ zs) w = absurd w.1.1.1
few_by_form form.Glass (z0 ∷ z1 ∷ z2 ∷ z3 ∷ []) w = small 0 4096 4096 z3 w.1.1.1.0 (omega arith)
few_by_form form.Glass ([]) w = absurd w
few_by_form form.Glass (z0 ∷ []) w = absurd w.1
few_by_form form.Glass (z0 ∷ z1 ∷ []) w = absurd w.1.1
few_by_form form.Glass (z0 ∷ z1 ∷ z2 ∷ []) w = absurd w.1.1.1
few_by_form form.Glass (z0 ∷ z1 ∷ z2 ∷ z3 ∷ z ∷ zs) w = absurd w.1.1.1.1
few_by_form form.Verts (z0 ∷ z1 ∷ []) w = small 0 4096 4096 z1 w.1.0 (omega arith)
few_by_form form.Verts ([]) w = absurd w
few_by_form form.Verts (z0 ∷ []) w = absurd w.1
few_by_form form.Verts (z0 ∷ z1 ∷ z ∷ zs) w = absurd w.1.1
few_by_form form.Add zs w = omega arith
few_by_form form.Remove zs w = omega arith
few_by_form form.Insert zs w = omega arith
few_by_form form.Replace zs w = omega arith
few_by_form form.Delete zs w = omega arith
few_by_form form.Run zs w = omega arith
few_by_form form.Stop zs w = omega arith
few_by_form form.SwitchTo zs w = omega arith
few_by_form form.SwitchOn zs w = omega arith
few_by_form form.SwitchOff zs w = omega arith
few_by_form form.Mat zs w = omega arith
few_by_form form.Trans zs w = omega arith
few_by_form form.Centre zs w = omega arith
few_by_form form.Rot zs w = omega arith
few_by_form form.Scale zs w = omega arith
few_by_form form.Range zs w = omega arith
few_by_form form.Times zs w = omega arith

pub few_announced : (n : ℕ) (c : Command) (zs : List ℤ) → AreWithin (limits_of n c) zs → announced c zs ≤ 4096
few_announced n (command.Edit f) zs w = few_by_form f zs w
few_announced n c zs w = omega arith

few_triangles : (f : Form) (zs : List ℤ) (ts : List Tri) → AreWithin (form_limits f) zs → length ts ≡ announced_by f zs → length ts ≤ 4096
few_triangles f zs ts w h = let few = few_by_form f zs w in omega (arith, h, few)

-- the lines of a view
view_line : (zs : List ℤ) → AreWithin view_limits zs → view_numbers (view_at zs 0) ≡ zs
view_line (z0 ∷ z1 ∷ z2 ∷ z3 ∷ z4 ∷ z5 ∷ []) w = view_back z0 z1 z2 z3 z4 z5 w.0 w.1.0 w.1.1.0 w.1.1.1.0 w.1.1.1.1.0 w.1.1.1.1.1.0
view_line ([]) w = absurd w
view_line (z0 ∷ []) w = absurd w.1
view_line (z0 ∷ z1 ∷ []) w = absurd w.1.1
view_line (z0 ∷ z1 ∷ z2 ∷ []) w = absurd w.1.1.1
view_line (z0 ∷ z1 ∷ z2 ∷ z3 ∷ []) w = absurd w.1.1.1.1
view_line (z0 ∷ z1 ∷ z2 ∷ z3 ∷ z4 ∷ []) w = absurd w.1.1.1.1.1
view_line (z0 ∷ z1 ∷ z2 ∷ z3 ∷ z4 ∷ z5 ∷ z ∷ zs) w = absurd w.1.1.1.1.1.1

channel_back : (n : ℕ) (z : ℤ) → n ≤ 4 → IsWithin (between (pos 1) (pos (n - 1))) z → (pos (below 256 z) ≡ z) × (0 < below 256 z) × (ltb (below 256 z) n ≡ true)
channel_back n (pos m) few w =
    let high : m ≤ n - 1 = omega (arith, ints, w.high) in
    let low : 1 ≤ m = omega (arith, ints, w.low) in
    rw (lt-ltb m 256 (omega arith)) (refl, low, lt-ltb m n (omega arith))
channel_back n (negsuc m) few w = absurd (omega (arith, ints, w.low))

channel_entry : (n : ℕ) (z : ℤ) (v : _) → pos n ≡ z → 0 < n → view_entry n v ≡ (command.ChannelView, z ∷ view_numbers v)
channel_entry zero z v e lt = absurd (omega arith)
channel_entry (suc n) z v e lt = ap (λ (y : ℤ). (command.ChannelView, y ∷ view_numbers v)) e

channel_line : (n : ℕ) (zs : List ℤ) → n ≤ 4 → AreWithin (channel_view_limits n) zs → (view_entry (u8_at zs 0) (view_at zs 1) ≡ (command.ChannelView, zs)) × (ltb (u8_at zs 0) n ≡ true)
channel_line n (z0 ∷ z1 ∷ z2 ∷ z3 ∷ z4 ∷ z5 ∷ z6 ∷ []) few w = let e = channel_back n z0 few w.0 in (channel_entry (below 256 z0) z0 _ e.0 e.1 ∙ ap (λ (ys : List ℤ). (command.ChannelView, z0 ∷ ys)) (view_back z1 z2 z3 z4 z5 z6 w.1.0 w.1.1.0 w.1.1.1.0 w.1.1.1.1.0 w.1.1.1.1.1.0 w.1.1.1.1.1.1.0), e.2)
channel_line n ([]) few w = absurd w
channel_line n (z0 ∷ []) few w = absurd w.1
channel_line n (z0 ∷ z1 ∷ []) few w = absurd w.1.1
channel_line n (z0 ∷ z1 ∷ z2 ∷ []) few w = absurd w.1.1.1
channel_line n (z0 ∷ z1 ∷ z2 ∷ z3 ∷ []) few w = absurd w.1.1.1.1
channel_line n (z0 ∷ z1 ∷ z2 ∷ z3 ∷ z4 ∷ []) few w = absurd w.1.1.1.1.1
channel_line n (z0 ∷ z1 ∷ z2 ∷ z3 ∷ z4 ∷ z5 ∷ []) few w = absurd w.1.1.1.1.1.1
channel_line n (z0 ∷ z1 ∷ z2 ∷ z3 ∷ z4 ∷ z5 ∷ z6 ∷ z ∷ zs) few w = absurd w.1.1.1.1.1.1.1

-- a count
count_line : (zs : List ℤ) → AreWithin (count ∷ []) zs → pos (u32_at zs 0) ∷ [] ≡ zs
count_line (z0 ∷ []) w = rw (count_back z0 w.0) refl
count_line ([]) w = absurd w
count_line (z0 ∷ z ∷ zs) w = absurd w.1

-- two ids
pair_line : (zs : List ℤ) → AreWithin (id ∷ id ∷ []) zs → pos (u16_at zs 0) ∷ pos (u16_at zs 1) ∷ [] ≡ zs
pair_line (z0 ∷ z1 ∷ []) w = rw (id_back z0 w.0, id_back z1 w.1.0) refl
pair_line ([]) w = absurd w
pair_line (z0 ∷ []) w = absurd w.1
pair_line (z0 ∷ z1 ∷ z ∷ zs) w = absurd w.1.1

pub no_number : (zs : List ℤ) → AreWithin [] zs → [] ≡ zs
no_number [] w = refl
no_number (z ∷ zs) w = absurd w

pub no_triangle : (ts : List Tri) → length ts ≡ 0 → [] ≡ map tri_entry ts
no_triangle [] h = refl
no_triangle (t ∷ ts) h = absurd (omega arith)

abbrev entry_with : Command → List ℤ → List Tri → List (Command × List ℤ)
entry_with c zs ts = (c, zs) ∷ map tri_entry ts

edit_lines_back : (f : Form) (zs : List ℤ) (ts : List Tri) → AreWithin (form_limits f) zs → length ts ≡ announced_by f zs
    → edit_entry (edit_of f zs ts) ∷ map tri_entry (edit_triangles (edit_of f zs ts)) ≡ entry_with (command.Edit f) zs ts
edit_lines_back f zs ts w h = rw (form_back f zs ts, edit_back f zs ts w h, triangles_back f zs ts h) refl

one_line : (c : Command) (zs ys : List ℤ) (ts : List Tri) → zs ≡ ys → length ts ≡ 0 → (c, zs) ∷ [] ≡ entry_with c ys ts
one_line c zs ys ts e h = rw (e, ← no_triangle ts h) refl

-- What a line of the application makes is spelled by the line.
pub record AppBack (n : ℕ) (c : Command) (zs : List ℤ) (ts : List Tri) (s : AppStep) : Type 0 where
  pub lines : app_lines s ≡ (c, zs) ∷ map tri_entry ts
  pub written : IsAppStep s
  pub fitting : app_fits n s ≡ true
  pub place : place_after c place.App ≡ place.App
  pub channels : channels_after c zs n ≡ n
  pub due : due_after c zs 0 ≡ announced c zs

pub app_back : (n : ℕ) (c : Command) (zs : List ℤ) (ts : List Tri) → 1 ≤ n → n ≤ 4 → AreWithin (limits_of n c) zs → length ts ≡ announced c zs → AreTriangles ts
    → IfSome (app_step_of c zs ts) (λ s. AppBack n c zs ts s)
app_back n command.View zs ts some few w h k = record { lines = one_line command.View _ zs ts (view_line zs w) h; written = tt; fitting = lt-ltb 0 n some; place = refl; channels = refl; due = refl }
app_back n command.ChannelView zs ts some few w h k = let e = channel_line n zs few w in record { lines = rw (e.0, ← no_triangle ts h) refl; written = tt; fitting = e.1; place = refl; channels = refl; due = refl }
app_back n command.Sync zs ts some few w h k = record { lines = one_line command.Sync _ zs ts (no_number zs w) h; written = tt; fitting = refl; place = refl; channels = refl; due = refl }
app_back n command.Frame zs ts some few w h k = record { lines = one_line command.Frame _ zs ts (no_number zs w) h; written = tt; fitting = refl; place = refl; channels = refl; due = refl }
app_back n command.Wait zs ts some few w h k = record { lines = one_line command.Wait _ zs ts (count_line zs w) h; written = tt; fitting = refl; place = refl; channels = refl; due = refl }
app_back n (command.Edit f) zs ts some few w h k = record { lines = edit_lines_back f zs ts w h; written = edit_written f zs ts w k; fitting = edit_fits f zs ts w (few_triangles f zs ts w h); place = refl; channels = refl; due = refl }
app_back n c zs ts some few w h k = tt

-- the only line of the section of the application that makes no step
pub app_none : (v : Version) (c : Command) (zs : List ℤ) (ts : List Tri) → stands_in_app v c ≡ true → app_step_of c zs ts ≡ None → c ≡ command.Dbase
app_none v command.Dbase zs ts e h = refl
app_none v command.Size zs ts e h = absurd cc
app_none v command.Lens zs ts e h = absurd cc
app_none v command.Back zs ts e h = absurd cc
app_none v command.Channels zs ts e h = absurd cc
app_none v command.App zs ts e h = absurd cc
app_none v command.Triangle zs ts e h = absurd cc
app_none v command.Await zs ts e h = absurd cc
app_none v command.Buffer zs ts e h = absurd cc
app_none v command.Merge zs ts e h = absurd cc
app_none v command.BufferAdd zs ts e h = absurd cc
app_none v command.BufferRemove zs ts e h = absurd cc
app_none v c zs ts e h = absurd cc

-- What a line of the database process makes is spelled by the line.
pub record BaseBack (inside : Bool) (c : Command) (zs : List ℤ) (ts : List Tri) (s : BaseStep) : Type 0 where
  pub lines : base_lines s ≡ (c, zs) ∷ map tri_entry ts
  pub written : IsBaseStep s
  pub fitting : base_fits s ≡ true
  pub now_inside : Bool
  pub opens : opened inside s ≡ Some now_inside
  pub place : place_after c (place_of inside) ≡ place_of now_inside
  pub channels : (n : ℕ) → channels_after c zs n ≡ n
  pub due : due_after c zs 0 ≡ announced c zs

abbrev pub stands_in_base : Version → Bool → Command → Bool
stands_in_base v false c = stands_in_dbase c
stands_in_base v true c = stands_in_buffer v c

pub base_back : (n : ℕ) (v : Version) (inside : Bool) (c : Command) (zs : List ℤ) (ts : List Tri) → stands_in_base v inside c ≡ true → AreWithin (limits_of n c) zs → length ts ≡ announced c zs → AreTriangles ts
    → IfSome (base_step_of c zs ts) (λ s. BaseBack inside c zs ts s)
base_back n v false command.Await zs ts e w h k = record { lines = one_line command.Await _ zs ts (count_line zs w) h; written = tt; fitting = refl; now_inside = false; opens = refl; place = refl; channels = λ m. refl; due = refl }
base_back n v false command.Buffer zs ts e w h k = record { lines = one_line command.Buffer _ zs ts (no_number zs w) h; written = tt; fitting = refl; now_inside = true; opens = refl; place = refl; channels = λ m. refl; due = refl }
base_back n v true command.Merge zs ts e w h k = record { lines = one_line command.Merge _ zs ts (no_number zs w) h; written = tt; fitting = refl; now_inside = false; opens = refl; place = refl; channels = λ m. refl; due = refl }
base_back n v true command.BufferAdd zs ts e w h k = record { lines = one_line command.BufferAdd _ zs ts (pair_line zs w) h; written = tt; fitting = refl; now_inside = true; opens = refl; place = refl; channels = λ m. refl; due = refl }
base_back n v true command.BufferRemove zs ts e w h k = record { lines = one_line command.BufferRemove _ zs ts (pair_line zs w) h; written = tt; fitting = refl; now_inside = true; opens = refl; place = refl; channels = λ m. refl; due = refl }
base_back n v true (command.Edit f) zs ts e w h k = record { lines = edit_lines_back f zs ts w h; written = edit_written f zs ts w k; fitting = edit_fits f zs ts w (few_triangles f zs ts w h); now_inside = true; opens = refl; place = refl; channels = λ m. refl; due = refl }
base_back n v false command.Merge zs ts e w h k = absurd cc
base_back n v false command.BufferAdd zs ts e w h k = absurd cc
base_back n v false command.BufferRemove zs ts e w h k = absurd cc
base_back n v false (command.Edit f) zs ts e w h k = absurd cc
base_back n v true command.Await zs ts e w h k = absurd cc
base_back n v true command.Buffer zs ts e w h k = absurd cc
base_back n v inside c zs ts e w h k = tt

-- each line of the section of the database process makes a step
pub base_some : (v : Version) (inside : Bool) (c : Command) (zs : List ℤ) (ts : List Tri) → stands_in_base v inside c ≡ true → base_step_of c zs ts ≡ None → ⊥
base_some v false c zs ts e h = some_outside c zs ts e h
  where
    some_outside : (c : Command) (zs : List ℤ) (ts : List Tri) → stands_in_dbase c ≡ true → base_step_of c zs ts ≡ None → ⊥
    some_outside command.Await zs ts e h = cc
    some_outside command.Buffer zs ts e h = cc
    some_outside c zs ts e h = cc
base_some v true c zs ts e h = some_inside v c zs ts e h
  where
    some_inside : (v : Version) (c : Command) (zs : List ℤ) (ts : List Tri) → stands_in_buffer v c ≡ true → base_step_of c zs ts ≡ None → ⊥
    some_inside v (command.Edit f) zs ts e h = cc
    some_inside v command.BufferAdd zs ts e h = cc
    some_inside v command.BufferRemove zs ts e h = cc
    some_inside v command.Merge zs ts e h = cc
    some_inside v c zs ts e h = cc
