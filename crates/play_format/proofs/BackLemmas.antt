-- What the numbers of a line make is spelled by the same numbers.
use Rattle.std.proofs.Common.{◌≡◌, ℕ, ◌<◌, arith, refl, cond, List, [], ◌∷◌, length, ℤ, pos, negsuc}
use Rattle.std.specs.Prelude.{◌≤ℤ◌, unsigned_abs}
use Rattle.std.proofs.lemmas.Int.{ints}
use Rattle.std.proofs.lemmas.Bool.{lt-ltb, le-leb}
use Rattle.fx_math.specs.Within as fx
use Rattle.fx_math.specs.declared.vectors.Vec3.{Vec3}
use Rattle.pf_model.specs.declared.geometry.Tri.{Tri}
use Rattle.play_format.specs.declared.commands.Form.{Form}
use Rattle.play_format.specs.declared.commands.Form.TheVariants as form
use Rattle.play_format.specs.declared.commands.Command.TheVariants as command
use Rattle.play_format.specs.Places.{IsWithin, AreWithin, announced_by}
use Rattle.play_format.specs.Commands.{form_limits, limits_of, new_id, id, state, triangles, place, range_place, range_value, frames, coordinate, entry, angle, colour, count}
use Rattle.play_format.specs.Making.{below, vector, affine, is_within, edit_of, tri_of, view_at}
use Rattle.play_format.specs.Spelling.{edit_form, edit_numbers, edit_triangles, view_numbers, corner_numbers}
use Rattle.play_format.proofs.SameLemmas.{vector_has, affine_has}

-- a natural number below a bound
natural_back : (bound : ℕ) (z : ℤ) → pos 0 ≤ℤ z → unsigned_abs z < bound → pos (below bound z) ≡ z
natural_back bound (pos n) low high = rw (lt-ltb n bound high) refl
natural_back bound (negsuc n) low high = absurd (omega (arith, ints))

pub new_id_back : (z : ℤ) → IsWithin new_id z → pos (below 65536 z) ≡ z
new_id_back z w = natural_back 65536 z (omega (arith, ints, w.low, w.high)) (omega (arith, ints, w.low, w.high))

pub id_back : (z : ℤ) → IsWithin id z → pos (below 65536 z) ≡ z
id_back z w = natural_back 65536 z (omega (arith, ints, w.low, w.high)) (omega (arith, ints, w.low, w.high))

pub state_back : (z : ℤ) → IsWithin state z → pos (below 65536 z) ≡ z
state_back z w = natural_back 65536 z (omega (arith, ints, w.low, w.high)) (omega (arith, ints, w.low, w.high))

pub place_back : (z : ℤ) → IsWithin place z → pos (below 65536 z) ≡ z
place_back z w = natural_back 65536 z (omega (arith, ints, w.low, w.high)) (omega (arith, ints, w.low, w.high))

pub range_place_back : (z : ℤ) → IsWithin range_place z → pos (below 65536 z) ≡ z
range_place_back z w = natural_back 65536 z (omega (arith, ints, w.low, w.high)) (omega (arith, ints, w.low, w.high))

pub frames_back : (z : ℤ) → IsWithin frames z → pos (below 65536 z) ≡ z
frames_back z w = natural_back 65536 z (omega (arith, ints, w.low, w.high)) (omega (arith, ints, w.low, w.high))

pub colour_back : (z : ℤ) → IsWithin colour z → pos (below 256 z) ≡ z
colour_back z w = natural_back 256 z (omega (arith, ints, w.low, w.high)) (omega (arith, ints, w.low, w.high))

pub range_value_back : (z : ℤ) → IsWithin range_value z → pos (below 4294967296 z) ≡ z
range_value_back z w = natural_back 4294967296 z (omega (arith, ints, w.low, w.high)) (omega (arith, ints, w.low, w.high))

pub count_back : (z : ℤ) → IsWithin count z → pos (below 4294967296 z) ≡ z
count_back z w = natural_back 4294967296 z (omega (arith, ints, w.low, w.high)) (omega (arith, ints, w.low, w.high))

-- as many triangles as a line announces
length_back : (ts : List Tri) (z : ℤ) → IsWithin triangles z → length ts ≡ unsigned_abs z → pos (length ts) ≡ z
length_back ts z w e = omega (arith, ints, w.low, e)

pub coordinate_small : (z : ℤ) → IsWithin coordinate z → fx.IsCoordinate z
coordinate_small z w = record { size = omega (arith, ints, w.low, w.high) }

pub entry_small : (z : ℤ) → IsWithin entry z → fx.IsEntry z
entry_small z w = record { size = omega (arith, ints, w.low, w.high) }

pub angle_back : (z : ℤ) → IsWithin angle z → cond (is_within 3600 z) z (pos 0) ≡ z
angle_back z w = rw (le-leb (unsigned_abs z) 3600 (omega (arith, ints, w.low, w.high))) refl

pub vector_back : (x y z : ℤ) → IsWithin coordinate x → IsWithin coordinate y → IsWithin coordinate z
    → ((vector x y z).x ≡ x) × ((vector x y z).y ≡ y) × ((vector x y z).z ≡ z)
vector_back x y z a b c = vector_has x y z (record { x_within = coordinate_small x a; y_within = coordinate_small y b; z_within = coordinate_small z c })

pub affine_back : (a b c d e f g h i : ℤ) (t : Vec3) → IsWithin entry a → IsWithin entry b → IsWithin entry c → IsWithin entry d → IsWithin entry e → IsWithin entry f → IsWithin entry g → IsWithin entry h → IsWithin entry i
    → let m = affine ((a ∷ b ∷ c ∷ []) ∷ (d ∷ e ∷ f ∷ []) ∷ (g ∷ h ∷ i ∷ []) ∷ []) t in (m.a ≡ (a ∷ b ∷ c ∷ []) ∷ (d ∷ e ∷ f ∷ []) ∷ (g ∷ h ∷ i ∷ []) ∷ []) × (m.t ≡ t)
affine_back a b c d e f g h i t ka kb kc kd ke kf kg kh ki = affine_has ((a ∷ b ∷ c ∷ []) ∷ (d ∷ e ∷ f ∷ []) ∷ (g ∷ h ∷ i ∷ []) ∷ []) t (record {
  x_row = record { first = entry_small a ka; second = entry_small b kb; third = entry_small c kc };
  y_row = record { first = entry_small d kd; second = entry_small e ke; third = entry_small f kf };
  z_row = record { first = entry_small g kg; second = entry_small h kh; third = entry_small i ki };
})

-- an edit that a line makes has the numbers of the line
pub edit_back : (f : Form) (zs : List ℤ) (ts : List Tri) → AreWithin (form_limits f) zs → length ts ≡ announced_by f zs → edit_numbers (edit_of f zs ts) ≡ zs
edit_back form.Group (z0 ∷ []) ts w h = rw (new_id_back z0 w.0) refl
edit_back form.Group ([]) ts w h = absurd w
edit_back form.Group (z0 ∷ z ∷ zs) ts w h = absurd w.1
edit_back form.Switch (z0 ∷ []) ts w h = rw (new_id_back z0 w.0) refl
edit_back form.Switch ([]) ts w h = absurd w
edit_back form.Switch (z0 ∷ z ∷ zs) ts w h = absurd w.1
edit_back form.Dcs (z0 ∷ []) ts w h = rw (new_id_back z0 w.0) refl
edit_back form.Dcs ([]) ts w h = absurd w
edit_back form.Dcs (z0 ∷ z ∷ zs) ts w h = absurd w.1
edit_back form.Lod (z0 ∷ []) ts w h = rw (new_id_back z0 w.0) refl
edit_back form.Lod ([]) ts w h = absurd w
edit_back form.Lod (z0 ∷ z ∷ zs) ts w h = absurd w.1
edit_back form.Seq (z0 ∷ []) ts w h = rw (new_id_back z0 w.0) refl
edit_back form.Seq ([]) ts w h = absurd w
edit_back form.Seq (z0 ∷ z ∷ zs) ts w h = absurd w.1
edit_back form.Layer (z0 ∷ []) ts w h = rw (new_id_back z0 w.0) refl
edit_back form.Layer ([]) ts w h = absurd w
edit_back form.Layer (z0 ∷ z ∷ zs) ts w h = absurd w.1
edit_back form.Scs (z0 ∷ z1 ∷ z2 ∷ z3 ∷ z4 ∷ z5 ∷ z6 ∷ z7 ∷ z8 ∷ z9 ∷ z10 ∷ z11 ∷ z12 ∷ []) ts w h = let v = vector_back z10 z11 z12 w.1.1.1.1.1.1.1.1.1.1.0 w.1.1.1.1.1.1.1.1.1.1.1.0 w.1.1.1.1.1.1.1.1.1.1.1.1.0 in let m = affine_back z1 z2 z3 z4 z5 z6 z7 z8 z9 (vector z10 z11 z12) w.1.0 w.1.1.0 w.1.1.1.0 w.1.1.1.1.0 w.1.1.1.1.1.0 w.1.1.1.1.1.1.0 w.1.1.1.1.1.1.1.0 w.1.1.1.1.1.1.1.1.0 w.1.1.1.1.1.1.1.1.1.0 in rw (new_id_back z0 w.0, m.0, m.1, v.0, v.1, v.2) refl
edit_back form.Scs ([]) ts w h = absurd w
edit_back form.Scs (z0 ∷ []) ts w h = absurd w.1
edit_back form.Scs (z0 ∷ z1 ∷ []) ts w h = absurd w.1.1
edit_back form.Scs (z0 ∷ z1 ∷ z2 ∷ []) ts w h = absurd w.1.1.1
edit_back form.Scs (z0 ∷ z1 ∷ z2 ∷ z3 ∷ []) ts w h = absurd w.1.1.1.1
edit_back form.Scs (z0 ∷ z1 ∷ z2 ∷ z3 ∷ z4 ∷ []) ts w h = absurd w.1.1.1.1.1
edit_back form.Scs (z0 ∷ z1 ∷ z2 ∷ z3 ∷ z4 ∷ z5 ∷ []) ts w h = absurd w.1.1.1.1.1.1
edit_back form.Scs (z0 ∷ z1 ∷ z2 ∷ z3 ∷ z4 ∷ z5 ∷ z6 ∷ []) ts w h = absurd w.1.1.1.1.1.1.1
edit_back form.Scs (z0 ∷ z1 ∷ z2 ∷ z3 ∷ z4 ∷ z5 ∷ z6 ∷ z7 ∷ []) ts w h = absurd w.1.1.1.1.1.1.1.1
edit_back form.Scs (z0 ∷ z1 ∷ z2 ∷ z3 ∷ z4 ∷ z5 ∷ z6 ∷ z7 ∷ z8 ∷ []) ts w h = absurd w.1.1.1.1.1.1.1.1.1
edit_back form.Scs (z0 ∷ z1 ∷ z2 ∷ z3 ∷ z4 ∷ z5 ∷ z6 ∷ z7 ∷ z8 ∷ z9 ∷ []) ts w h = absurd w.1.1.1.1.1.1.1.1.1.1
edit_back form.Scs (z0 ∷ z1 ∷ z2 ∷ z3 ∷ z4 ∷ z5 ∷ z6 ∷ z7 ∷ z8 ∷ z9 ∷ z10 ∷ []) ts w h = absurd w.1.1.1.1.1.1.1.1.1.1.1
edit_back form.Scs (z0 ∷ z1 ∷ z2 ∷ z3 ∷ z4 ∷ z5 ∷ z6 ∷ z7 ∷ z8 ∷ z9 ∷ z10 ∷ z11 ∷ []) ts w h = absurd w.1.1.1.1.1.1.1.1.1.1.1.1
edit_back form.Scs (z0 ∷ z1 ∷ z2 ∷ z3 ∷ z4 ∷ z5 ∷ z6 ∷ z7 ∷ z8 ∷ z9 ∷ z10 ∷ z11 ∷ z12 ∷ z ∷ zs) ts w h = absurd w.1.1.1.1.1.1.1.1.1.1.1.1.1
edit_back form.Geode (z0 ∷ z1 ∷ z2 ∷ []) ts w h = rw (new_id_back z0 w.0, state_back z1 w.1.0, length_back ts z2 w.1.1.0 h) refl
edit_back form.Geode ([]) ts w h = absurd w
edit_back form.Geode (z0 ∷ []) ts w h = absurd w.1
edit_back form.Geode (z0 ∷ z1 ∷ []) ts w h = absurd w.1.1
edit_back form.Geode (z0 ∷ z1 ∷ z2 ∷ z ∷ zs) ts w h = absurd w.1.1.1
edit_back form.Glass (z0 ∷ z1 ∷ z2 ∷ z3 ∷ []) ts w h = rw (new_id_back z0 w.0, state_back z1 w.1.0, colour_back z2 w.1.1.0, length_back ts z3 w.1.1.1.0 h) refl
edit_back form.Glass ([]) ts w h = absurd w
edit_back form.Glass (z0 ∷ []) ts w h = absurd w.1
edit_back form.Glass (z0 ∷ z1 ∷ []) ts w h = absurd w.1.1
edit_back form.Glass (z0 ∷ z1 ∷ z2 ∷ []) ts w h = absurd w.1.1.1
edit_back form.Glass (z0 ∷ z1 ∷ z2 ∷ z3 ∷ z ∷ zs) ts w h = absurd w.1.1.1.1
edit_back form.Verts (z0 ∷ z1 ∷ []) ts w h = rw (id_back z0 w.0, length_back ts z1 w.1.0 h) refl
edit_back form.Verts ([]) ts w h = absurd w
edit_back form.Verts (z0 ∷ []) ts w h = absurd w.1
edit_back form.Verts (z0 ∷ z1 ∷ z ∷ zs) ts w h = absurd w.1.1
edit_back form.Add (z0 ∷ z1 ∷ []) ts w h = rw (id_back z0 w.0, id_back z1 w.1.0) refl
edit_back form.Add ([]) ts w h = absurd w
edit_back form.Add (z0 ∷ []) ts w h = absurd w.1
edit_back form.Add (z0 ∷ z1 ∷ z ∷ zs) ts w h = absurd w.1.1
edit_back form.Remove (z0 ∷ z1 ∷ []) ts w h = rw (id_back z0 w.0, id_back z1 w.1.0) refl
edit_back form.Remove ([]) ts w h = absurd w
edit_back form.Remove (z0 ∷ []) ts w h = absurd w.1
edit_back form.Remove (z0 ∷ z1 ∷ z ∷ zs) ts w h = absurd w.1.1
edit_back form.Insert (z0 ∷ z1 ∷ z2 ∷ []) ts w h = rw (id_back z0 w.0, place_back z1 w.1.0, id_back z2 w.1.1.0) refl
edit_back form.Insert ([]) ts w h = absurd w
edit_back form.Insert (z0 ∷ []) ts w h = absurd w.1
edit_back form.Insert (z0 ∷ z1 ∷ []) ts w h = absurd w.1.1
edit_back form.Insert (z0 ∷ z1 ∷ z2 ∷ z ∷ zs) ts w h = absurd w.1.1.1
edit_back form.Replace (z0 ∷ z1 ∷ z2 ∷ []) ts w h = rw (id_back z0 w.0, id_back z1 w.1.0, id_back z2 w.1.1.0) refl
edit_back form.Replace ([]) ts w h = absurd w
edit_back form.Replace (z0 ∷ []) ts w h = absurd w.1
edit_back form.Replace (z0 ∷ z1 ∷ []) ts w h = absurd w.1.1
edit_back form.Replace (z0 ∷ z1 ∷ z2 ∷ z ∷ zs) ts w h = absurd w.1.1.1
edit_back form.Delete (z0 ∷ []) ts w h = rw (id_back z0 w.0) refl
edit_back form.Delete ([]) ts w h = absurd w
edit_back form.Delete (z0 ∷ z ∷ zs) ts w h = absurd w.1
edit_back form.Run (z0 ∷ []) ts w h = rw (id_back z0 w.0) refl
edit_back form.Run ([]) ts w h = absurd w
edit_back form.Run (z0 ∷ z ∷ zs) ts w h = absurd w.1
edit_back form.Stop (z0 ∷ []) ts w h = rw (id_back z0 w.0) refl
edit_back form.Stop ([]) ts w h = absurd w
edit_back form.Stop (z0 ∷ z ∷ zs) ts w h = absurd w.1
edit_back form.SwitchTo (z0 ∷ z1 ∷ []) ts w h = rw (id_back z0 w.0, place_back z1 w.1.0) refl
edit_back form.SwitchTo ([]) ts w h = absurd w
edit_back form.SwitchTo (z0 ∷ []) ts w h = absurd w.1
edit_back form.SwitchTo (z0 ∷ z1 ∷ z ∷ zs) ts w h = absurd w.1.1
edit_back form.SwitchOn (z0 ∷ []) ts w h = rw (id_back z0 w.0) refl
edit_back form.SwitchOn ([]) ts w h = absurd w
edit_back form.SwitchOn (z0 ∷ z ∷ zs) ts w h = absurd w.1
edit_back form.SwitchOff (z0 ∷ []) ts w h = rw (id_back z0 w.0) refl
edit_back form.SwitchOff ([]) ts w h = absurd w
edit_back form.SwitchOff (z0 ∷ z ∷ zs) ts w h = absurd w.1
edit_back form.Mat (z0 ∷ z1 ∷ z2 ∷ z3 ∷ z4 ∷ z5 ∷ z6 ∷ z7 ∷ z8 ∷ z9 ∷ z10 ∷ z11 ∷ z12 ∷ []) ts w h = let v = vector_back z10 z11 z12 w.1.1.1.1.1.1.1.1.1.1.0 w.1.1.1.1.1.1.1.1.1.1.1.0 w.1.1.1.1.1.1.1.1.1.1.1.1.0 in let m = affine_back z1 z2 z3 z4 z5 z6 z7 z8 z9 (vector z10 z11 z12) w.1.0 w.1.1.0 w.1.1.1.0 w.1.1.1.1.0 w.1.1.1.1.1.0 w.1.1.1.1.1.1.0 w.1.1.1.1.1.1.1.0 w.1.1.1.1.1.1.1.1.0 w.1.1.1.1.1.1.1.1.1.0 in rw (id_back z0 w.0, m.0, m.1, v.0, v.1, v.2) refl
edit_back form.Mat ([]) ts w h = absurd w
edit_back form.Mat (z0 ∷ []) ts w h = absurd w.1
edit_back form.Mat (z0 ∷ z1 ∷ []) ts w h = absurd w.1.1
edit_back form.Mat (z0 ∷ z1 ∷ z2 ∷ []) ts w h = absurd w.1.1.1
edit_back form.Mat (z0 ∷ z1 ∷ z2 ∷ z3 ∷ []) ts w h = absurd w.1.1.1.1
edit_back form.Mat (z0 ∷ z1 ∷ z2 ∷ z3 ∷ z4 ∷ []) ts w h = absurd w.1.1.1.1.1
edit_back form.Mat (z0 ∷ z1 ∷ z2 ∷ z3 ∷ z4 ∷ z5 ∷ []) ts w h = absurd w.1.1.1.1.1.1
edit_back form.Mat (z0 ∷ z1 ∷ z2 ∷ z3 ∷ z4 ∷ z5 ∷ z6 ∷ []) ts w h = absurd w.1.1.1.1.1.1.1
edit_back form.Mat (z0 ∷ z1 ∷ z2 ∷ z3 ∷ z4 ∷ z5 ∷ z6 ∷ z7 ∷ []) ts w h = absurd w.1.1.1.1.1.1.1.1
edit_back form.Mat (z0 ∷ z1 ∷ z2 ∷ z3 ∷ z4 ∷ z5 ∷ z6 ∷ z7 ∷ z8 ∷ []) ts w h = absurd w.1.1.1.1.1.1.1.1.1
edit_back form.Mat (z0 ∷ z1 ∷ z2 ∷ z3 ∷ z4 ∷ z5 ∷ z6 ∷ z7 ∷ z8 ∷ z9 ∷ []) ts w h = absurd w.1.1.1.1.1.1.1.1.1.1
edit_back form.Mat (z0 ∷ z1 ∷ z2 ∷ z3 ∷ z4 ∷ z5 ∷ z6 ∷ z7 ∷ z8 ∷ z9 ∷ z10 ∷ []) ts w h = absurd w.1.1.1.1.1.1.1.1.1.1.1
edit_back form.Mat (z0 ∷ z1 ∷ z2 ∷ z3 ∷ z4 ∷ z5 ∷ z6 ∷ z7 ∷ z8 ∷ z9 ∷ z10 ∷ z11 ∷ []) ts w h = absurd w.1.1.1.1.1.1.1.1.1.1.1.1
edit_back form.Mat (z0 ∷ z1 ∷ z2 ∷ z3 ∷ z4 ∷ z5 ∷ z6 ∷ z7 ∷ z8 ∷ z9 ∷ z10 ∷ z11 ∷ z12 ∷ z ∷ zs) ts w h = absurd w.1.1.1.1.1.1.1.1.1.1.1.1.1
edit_back form.Trans (z0 ∷ z1 ∷ z2 ∷ z3 ∷ []) ts w h = let v = vector_back z1 z2 z3 w.1.0 w.1.1.0 w.1.1.1.0 in rw (id_back z0 w.0, v.0, v.1, v.2) refl
edit_back form.Trans ([]) ts w h = absurd w
edit_back form.Trans (z0 ∷ []) ts w h = absurd w.1
edit_back form.Trans (z0 ∷ z1 ∷ []) ts w h = absurd w.1.1
edit_back form.Trans (z0 ∷ z1 ∷ z2 ∷ []) ts w h = absurd w.1.1.1
edit_back form.Trans (z0 ∷ z1 ∷ z2 ∷ z3 ∷ z ∷ zs) ts w h = absurd w.1.1.1.1
edit_back form.Centre (z0 ∷ z1 ∷ z2 ∷ z3 ∷ []) ts w h = let v = vector_back z1 z2 z3 w.1.0 w.1.1.0 w.1.1.1.0 in rw (id_back z0 w.0, v.0, v.1, v.2) refl
edit_back form.Centre ([]) ts w h = absurd w
edit_back form.Centre (z0 ∷ []) ts w h = absurd w.1
edit_back form.Centre (z0 ∷ z1 ∷ []) ts w h = absurd w.1.1
edit_back form.Centre (z0 ∷ z1 ∷ z2 ∷ []) ts w h = absurd w.1.1.1
edit_back form.Centre (z0 ∷ z1 ∷ z2 ∷ z3 ∷ z ∷ zs) ts w h = absurd w.1.1.1.1
edit_back form.Rot (z0 ∷ z1 ∷ z2 ∷ z3 ∷ []) ts w h = rw (id_back z0 w.0) refl
edit_back form.Rot ([]) ts w h = absurd w
edit_back form.Rot (z0 ∷ []) ts w h = absurd w.1
edit_back form.Rot (z0 ∷ z1 ∷ []) ts w h = absurd w.1.1
edit_back form.Rot (z0 ∷ z1 ∷ z2 ∷ []) ts w h = absurd w.1.1.1
edit_back form.Rot (z0 ∷ z1 ∷ z2 ∷ z3 ∷ z ∷ zs) ts w h = absurd w.1.1.1.1
edit_back form.Scale (z0 ∷ z1 ∷ []) ts w h = rw (id_back z0 w.0) refl
edit_back form.Scale ([]) ts w h = absurd w
edit_back form.Scale (z0 ∷ []) ts w h = absurd w.1
edit_back form.Scale (z0 ∷ z1 ∷ z ∷ zs) ts w h = absurd w.1.1
edit_back form.Range (z0 ∷ z1 ∷ z2 ∷ []) ts w h = rw (id_back z0 w.0, range_place_back z1 w.1.0, range_value_back z2 w.1.1.0) refl
edit_back form.Range ([]) ts w h = absurd w
edit_back form.Range (z0 ∷ []) ts w h = absurd w.1
edit_back form.Range (z0 ∷ z1 ∷ []) ts w h = absurd w.1.1
edit_back form.Range (z0 ∷ z1 ∷ z2 ∷ z ∷ zs) ts w h = absurd w.1.1.1
edit_back form.Times (z0 ∷ z1 ∷ z2 ∷ []) ts w h = rw (id_back z0 w.0, place_back z1 w.1.0, frames_back z2 w.1.1.0) refl
edit_back form.Times ([]) ts w h = absurd w
edit_back form.Times (z0 ∷ []) ts w h = absurd w.1
edit_back form.Times (z0 ∷ z1 ∷ []) ts w h = absurd w.1.1
edit_back form.Times (z0 ∷ z1 ∷ z2 ∷ z ∷ zs) ts w h = absurd w.1.1.1

-- and its form
pub form_back : (f : Form) (zs : List ℤ) (ts : List Tri) → edit_form (edit_of f zs ts) ≡ f
form_back form.Group zs ts = refl
form_back form.Switch zs ts = refl
form_back form.Dcs zs ts = refl
form_back form.Lod zs ts = refl
form_back form.Seq zs ts = refl
form_back form.Layer zs ts = refl
form_back form.Scs zs ts = refl
form_back form.Geode zs ts = refl
form_back form.Glass zs ts = refl
form_back form.Verts zs ts = refl
form_back form.Add zs ts = refl
form_back form.Remove zs ts = refl
form_back form.Insert zs ts = refl
form_back form.Replace zs ts = refl
form_back form.Delete zs ts = refl
form_back form.Run zs ts = refl
form_back form.Stop zs ts = refl
form_back form.SwitchTo zs ts = refl
form_back form.SwitchOn zs ts = refl
form_back form.SwitchOff zs ts = refl
form_back form.Mat zs ts = refl
form_back form.Trans zs ts = refl
form_back form.Centre zs ts = refl
form_back form.Rot zs ts = refl
form_back form.Scale zs ts = refl
form_back form.Range zs ts = refl
form_back form.Times zs ts = refl

none : (ts : List Tri) → length ts ≡ 0 → [] ≡ ts
none [] h = refl
none (t ∷ ts) h = absurd (omega arith)

-- and its triangles
pub triangles_back : (f : Form) (zs : List ℤ) (ts : List Tri) → length ts ≡ announced_by f zs → edit_triangles (edit_of f zs ts) ≡ ts
triangles_back form.Group zs ts h = none ts h
triangles_back form.Switch zs ts h = none ts h
triangles_back form.Dcs zs ts h = none ts h
triangles_back form.Lod zs ts h = none ts h
triangles_back form.Seq zs ts h = none ts h
triangles_back form.Layer zs ts h = none ts h
triangles_back form.Scs zs ts h = none ts h
triangles_back form.Geode zs ts h = refl
triangles_back form.Glass zs ts h = refl
triangles_back form.Verts zs ts h = refl
triangles_back form.Add zs ts h = none ts h
triangles_back form.Remove zs ts h = none ts h
triangles_back form.Insert zs ts h = none ts h
triangles_back form.Replace zs ts h = none ts h
triangles_back form.Delete zs ts h = none ts h
triangles_back form.Run zs ts h = none ts h
triangles_back form.Stop zs ts h = none ts h
triangles_back form.SwitchTo zs ts h = none ts h
triangles_back form.SwitchOn zs ts h = none ts h
triangles_back form.SwitchOff zs ts h = none ts h
triangles_back form.Mat zs ts h = none ts h
triangles_back form.Trans zs ts h = none ts h
triangles_back form.Centre zs ts h = none ts h
triangles_back form.Rot zs ts h = none ts h
triangles_back form.Scale zs ts h = none ts h
triangles_back form.Range zs ts h = none ts h
triangles_back form.Times zs ts h = none ts h

-- a view that a line makes has its numbers
pub view_back : (z0 z1 z2 z3 z4 z5 : ℤ) → IsWithin coordinate z0 → IsWithin coordinate z1 → IsWithin coordinate z2 → IsWithin angle z3 → IsWithin angle z4 → IsWithin angle z5
    → view_numbers (view_at (z0 ∷ z1 ∷ z2 ∷ z3 ∷ z4 ∷ z5 ∷ []) 0) ≡ z0 ∷ z1 ∷ z2 ∷ z3 ∷ z4 ∷ z5 ∷ []
view_back z0 z1 z2 z3 z4 z5 a b c d e f = let v = vector_back z0 z1 z2 a b c in rw (v.0, v.1, v.2, angle_back z3 d, angle_back z4 e, angle_back z5 f) refl

-- three corners
corners_back : (z0 z1 z2 z3 z4 z5 : ℤ) (vs : List Vec3) (cs : List (List ℕ)) (zs : List ℤ) → IsWithin coordinate z0 → IsWithin coordinate z1 → IsWithin coordinate z2 → IsWithin colour z3 → IsWithin colour z4 → IsWithin colour z5
    → corner_numbers vs cs ≡ zs → corner_numbers (vector z0 z1 z2 ∷ vs) ((below 256 z3 ∷ below 256 z4 ∷ below 256 z5 ∷ []) ∷ cs) ≡ z0 ∷ z1 ∷ z2 ∷ z3 ∷ z4 ∷ z5 ∷ zs
corners_back z0 z1 z2 z3 z4 z5 vs cs zs a b c d e f k = let v = vector_back z0 z1 z2 a b c in rw (v.0, v.1, v.2, colour_back z3 d, colour_back z4 e, colour_back z5 f, k) refl

-- a triangle that a line makes has its numbers
pub tri_back : (zs : List ℤ) → AreWithin (limits_of 0 command.Triangle) zs → corner_numbers (tri_of zs).v (tri_of zs).c ≡ zs
tri_back (z0 ∷ z1 ∷ z2 ∷ z3 ∷ z4 ∷ z5 ∷ z6 ∷ z7 ∷ z8 ∷ z9 ∷ z10 ∷ z11 ∷ z12 ∷ z13 ∷ z14 ∷ z15 ∷ z16 ∷ z17 ∷ []) w = corners_back z0 z1 z2 z3 z4 z5 (vector z6 z7 z8 ∷ vector z12 z13 z14 ∷ []) ((below 256 z9 ∷ below 256 z10 ∷ below 256 z11 ∷ []) ∷ (below 256 z15 ∷ below 256 z16 ∷ below 256 z17 ∷ []) ∷ []) (z6 ∷ z7 ∷ z8 ∷ z9 ∷ z10 ∷ z11 ∷ z12 ∷ z13 ∷ z14 ∷ z15 ∷ z16 ∷ z17 ∷ []) w.0 w.1.0 w.1.1.0 w.1.1.1.0 w.1.1.1.1.0 w.1.1.1.1.1.0 (corners_back z6 z7 z8 z9 z10 z11 (vector z12 z13 z14 ∷ []) ((below 256 z15 ∷ below 256 z16 ∷ below 256 z17 ∷ []) ∷ []) (z12 ∷ z13 ∷ z14 ∷ z15 ∷ z16 ∷ z17 ∷ []) w.1.1.1.1.1.1.0 w.1.1.1.1.1.1.1.0 w.1.1.1.1.1.1.1.1.0 w.1.1.1.1.1.1.1.1.1.0 w.1.1.1.1.1.1.1.1.1.1.0 w.1.1.1.1.1.1.1.1.1.1.1.0 (corners_back z12 z13 z14 z15 z16 z17 [] [] [] w.1.1.1.1.1.1.1.1.1.1.1.1.0 w.1.1.1.1.1.1.1.1.1.1.1.1.1.0 w.1.1.1.1.1.1.1.1.1.1.1.1.1.1.0 w.1.1.1.1.1.1.1.1.1.1.1.1.1.1.1.0 w.1.1.1.1.1.1.1.1.1.1.1.1.1.1.1.1.0 w.1.1.1.1.1.1.1.1.1.1.1.1.1.1.1.1.1.0 refl))
tri_back ([]) w = absurd w
tri_back (z0 ∷ []) w = absurd w.1
tri_back (z0 ∷ z1 ∷ []) w = absurd w.1.1
tri_back (z0 ∷ z1 ∷ z2 ∷ []) w = absurd w.1.1.1
tri_back (z0 ∷ z1 ∷ z2 ∷ z3 ∷ []) w = absurd w.1.1.1.1
tri_back (z0 ∷ z1 ∷ z2 ∷ z3 ∷ z4 ∷ []) w = absurd w.1.1.1.1.1
tri_back (z0 ∷ z1 ∷ z2 ∷ z3 ∷ z4 ∷ z5 ∷ []) w = absurd w.1.1.1.1.1.1
tri_back (z0 ∷ z1 ∷ z2 ∷ z3 ∷ z4 ∷ z5 ∷ z6 ∷ []) w = absurd w.1.1.1.1.1.1.1
tri_back (z0 ∷ z1 ∷ z2 ∷ z3 ∷ z4 ∷ z5 ∷ z6 ∷ z7 ∷ []) w = absurd w.1.1.1.1.1.1.1.1
tri_back (z0 ∷ z1 ∷ z2 ∷ z3 ∷ z4 ∷ z5 ∷ z6 ∷ z7 ∷ z8 ∷ []) w = absurd w.1.1.1.1.1.1.1.1.1
tri_back (z0 ∷ z1 ∷ z2 ∷ z3 ∷ z4 ∷ z5 ∷ z6 ∷ z7 ∷ z8 ∷ z9 ∷ []) w = absurd w.1.1.1.1.1.1.1.1.1.1
tri_back (z0 ∷ z1 ∷ z2 ∷ z3 ∷ z4 ∷ z5 ∷ z6 ∷ z7 ∷ z8 ∷ z9 ∷ z10 ∷ []) w = absurd w.1.1.1.1.1.1.1.1.1.1.1
tri_back (z0 ∷ z1 ∷ z2 ∷ z3 ∷ z4 ∷ z5 ∷ z6 ∷ z7 ∷ z8 ∷ z9 ∷ z10 ∷ z11 ∷ []) w = absurd w.1.1.1.1.1.1.1.1.1.1.1.1
tri_back (z0 ∷ z1 ∷ z2 ∷ z3 ∷ z4 ∷ z5 ∷ z6 ∷ z7 ∷ z8 ∷ z9 ∷ z10 ∷ z11 ∷ z12 ∷ []) w = absurd w.1.1.1.1.1.1.1.1.1.1.1.1.1
tri_back (z0 ∷ z1 ∷ z2 ∷ z3 ∷ z4 ∷ z5 ∷ z6 ∷ z7 ∷ z8 ∷ z9 ∷ z10 ∷ z11 ∷ z12 ∷ z13 ∷ []) w = absurd w.1.1.1.1.1.1.1.1.1.1.1.1.1.1
tri_back (z0 ∷ z1 ∷ z2 ∷ z3 ∷ z4 ∷ z5 ∷ z6 ∷ z7 ∷ z8 ∷ z9 ∷ z10 ∷ z11 ∷ z12 ∷ z13 ∷ z14 ∷ []) w = absurd w.1.1.1.1.1.1.1.1.1.1.1.1.1.1.1
tri_back (z0 ∷ z1 ∷ z2 ∷ z3 ∷ z4 ∷ z5 ∷ z6 ∷ z7 ∷ z8 ∷ z9 ∷ z10 ∷ z11 ∷ z12 ∷ z13 ∷ z14 ∷ z15 ∷ []) w = absurd w.1.1.1.1.1.1.1.1.1.1.1.1.1.1.1.1
tri_back (z0 ∷ z1 ∷ z2 ∷ z3 ∷ z4 ∷ z5 ∷ z6 ∷ z7 ∷ z8 ∷ z9 ∷ z10 ∷ z11 ∷ z12 ∷ z13 ∷ z14 ∷ z15 ∷ z16 ∷ []) w = absurd w.1.1.1.1.1.1.1.1.1.1.1.1.1.1.1.1.1
tri_back (z0 ∷ z1 ∷ z2 ∷ z3 ∷ z4 ∷ z5 ∷ z6 ∷ z7 ∷ z8 ∷ z9 ∷ z10 ∷ z11 ∷ z12 ∷ z13 ∷ z14 ∷ z15 ∷ z16 ∷ z17 ∷ z ∷ zs) w = absurd w.1.1.1.1.1.1.1.1.1.1.1.1.1.1.1.1.1.1
