-- What the numbers of a line make. Numbers outside their limits, which no line has, make 0 or the identity.
use Rattle.std.specs.Prelude.{◌≡◌, ℕ, ◌+◌, ◌&&◌, Bool, true, false, nat_lt, nat_le, if◌then◌else◌, List, [], ◌∷◌, refl, Option, Some, None, ℤ, pos, negsuc, unsigned_abs}
use Rattle.std.proofs.lemmas.Bool.{leb-true}
use Rattle.fx_math.specs.Within.{IsWithin, AreCoordinates, AreEntries, IsRow, entry, row_at}
use Rattle.fx_math.specs.declared.vectors.Vec3.{Vec3}
use Rattle.fx_math.specs.declared.matrices.Affine.{Affine}
use Rattle.fx_math.specs.Constants.{origin_vector, identity_step}
use Rattle.pf_model.specs.Angles.{Viewpoint}
use Rattle.pf_model.specs.declared.geometry.Tri.{Tri}
use Rattle.pf_model.specs.declared.nodes.Kind.TheVariants as kind
use Rattle.pf_model.specs.declared.nodes.Pick.TheVariants as pick
use Rattle.pf_model.specs.declared.nodes.Run.TheVariants as run
use Rattle.pf_model.specs.declared.poses.Pose.TheVariants as pose
use Rattle.pf_model.specs.declared.edits.Edit.{Edit}
use Rattle.pf_model.specs.declared.edits.Edit.TheVariants as edit
use Rattle.pf_model.specs.declared.lines.AppStep.{AppStep}
use Rattle.pf_model.specs.declared.lines.AppStep.TheVariants as app_step
use Rattle.pf_model.specs.declared.lines.BaseStep.{BaseStep}
use Rattle.pf_model.specs.declared.lines.BaseStep.TheVariants as base_step
use Rattle.play_format.specs.declared.commands.Form.{Form}
use Rattle.play_format.specs.declared.commands.Form.TheVariants as form
use Rattle.play_format.specs.declared.commands.Command.{Command}
use Rattle.play_format.specs.declared.commands.Command.TheVariants as command
use Rattle.play_format.specs.Places.{number}
use Rattle.play_format.specs.Written.{new_pose}

-- z where it is a natural number below the bound
abbrev pub below : ℕ → ℤ → ℕ
below bound (pos n) = if nat_lt n bound then n else 0
below bound (negsuc n) = 0

-- number k as a number of 8, 16 or 32 bits
abbrev pub u8_at : List ℤ → ℕ → ℕ
u8_at zs k = below 256 (number zs k)

abbrev pub u16_at : List ℤ → ℕ → ℕ
u16_at zs k = below 65536 (number zs k)

abbrev pub u32_at : List ℤ → ℕ → ℕ
u32_at zs k = below 4294967296 (number zs k)

-- both of two tests
first_of_both : (a b : Bool) → (a && b) ≡ true → a ≡ true
first_of_both true b e = refl
first_of_both false b e = e

second_of_both : (a b : Bool) → (a && b) ≡ true → b ≡ true
second_of_both true b e = e
second_of_both false true e = refl
second_of_both false false e = e

abbrev pub is_within : ℕ → ℤ → Bool
is_within m z = nat_le (unsigned_abs z) m

pub within : (m : ℕ) (z : ℤ) → is_within m z ≡ true → IsWithin m z
within m z e = record { size = leb-true (unsigned_abs z) m e }

abbrev pub are_coordinates : ℤ → ℤ → ℤ → Bool
are_coordinates x y z = is_within 1073741823 x && (is_within 1073741823 y && is_within 1073741823 z)

pub coordinates : (x y z : ℤ) → are_coordinates x y z ≡ true → AreCoordinates x y z
coordinates x y z e = record {
  x_within = within 1073741823 x (first_of_both on_x (on_y && on_z) e);
  y_within = within 1073741823 y (first_of_both on_y on_z (second_of_both on_x (on_y && on_z) e));
  z_within = within 1073741823 z (second_of_both on_y on_z (second_of_both on_x (on_y && on_z) e));
}
  where
    on_x : Bool
    on_x = is_within 1073741823 x

    on_y : Bool
    on_y = is_within 1073741823 y

    on_z : Bool
    on_z = is_within 1073741823 z

-- the vector of three numbers, where they are coordinates
unfoldable pub vector_if : (x y z : ℤ) (b : Bool) → are_coordinates x y z ≡ b → Vec3
vector_if x y z true e = record { x = x; y = y; z = z; in_range = coordinates x y z e }
vector_if x y z false e = origin_vector

unfoldable pub vector : ℤ → ℤ → ℤ → Vec3
vector x y z = vector_if x y z (are_coordinates x y z) refl

abbrev pub vector_at : List ℤ → ℕ → Vec3
vector_at zs k = vector (number zs k) (number zs (k + 1)) (number zs (k + 2))

abbrev pub is_row : List ℤ → Bool
is_row r = is_within 1048576 (entry r 0) && (is_within 1048576 (entry r 1) && is_within 1048576 (entry r 2))

abbrev pub are_entries : List (List ℤ) → Bool
are_entries a = is_row (row_at a 0) && (is_row (row_at a 1) && is_row (row_at a 2))

row : (r : List ℤ) → is_row r ≡ true → IsRow r
row r e =
    let x = is_within 1048576 (entry r 0) in
    let y = is_within 1048576 (entry r 1) in
    let z = is_within 1048576 (entry r 2) in
    record {
      first = within 1048576 (entry r 0) (first_of_both x (y && z) e);
      second = within 1048576 (entry r 1) (first_of_both y z (second_of_both x (y && z) e));
      third = within 1048576 (entry r 2) (second_of_both y z (second_of_both x (y && z) e));
    }

pub entries : (a : List (List ℤ)) → are_entries a ≡ true → AreEntries a
entries a e =
    let x = is_row (row_at a 0) in
    let y = is_row (row_at a 1) in
    let z = is_row (row_at a 2) in
    record {
      x_row = row (row_at a 0) (first_of_both x (y && z) e);
      y_row = row (row_at a 1) (first_of_both y z (second_of_both x (y && z) e));
      z_row = row (row_at a 2) (second_of_both y z (second_of_both x (y && z) e));
    }

-- the step of a matrix and a translation, where the matrix has entries
unfoldable pub affine_if : (a : List (List ℤ)) (t : Vec3) (b : Bool) → are_entries a ≡ b → Affine
affine_if a t true e = record { a = a; t = t; entries = entries a e }
affine_if a t false e = identity_step

unfoldable pub affine : List (List ℤ) → Vec3 → Affine
affine a t = affine_if a t (are_entries a) refl

abbrev pub three_at : List ℤ → ℕ → List ℤ
three_at zs k = number zs k ∷ number zs (k + 1) ∷ number zs (k + 2) ∷ []

-- the step of twelve numbers: three rows and a translation
abbrev pub affine_at : List ℤ → ℕ → Affine
affine_at zs k = affine (three_at zs k ∷ three_at zs (k + 3) ∷ three_at zs (k + 6) ∷ []) (vector_at zs (k + 9))

-- an angle, in tenths of a degree
abbrev pub angle_at : List ℤ → ℕ → ℤ
angle_at zs k = let z = number zs k in if is_within 3600 z then z else pos 0

-- where the eye stands, and its heading, pitch and roll
abbrev pub view_at : List ℤ → ℕ → Viewpoint
view_at zs k =
    record { eye = vector_at zs k; h = angle_at zs (k + 3); p = angle_at zs (k + 4); r = angle_at zs (k + 5) }

abbrev pub colour_at : List ℤ → ℕ → List ℕ
colour_at zs k = u8_at zs k ∷ u8_at zs (k + 1) ∷ u8_at zs (k + 2) ∷ []

-- three corners, each a vertex and its colour
abbrev pub tri_of : List ℤ → Tri
tri_of zs = record {
  v = vector_at zs 0 ∷ vector_at zs 6 ∷ vector_at zs 12 ∷ [];
  c = colour_at zs 3 ∷ colour_at zs 9 ∷ colour_at zs 15 ∷ [];
  three = record { vertices_three = refl; colours_three = refl };
}

-- the edit of a line and of the triangle lines behind it
abbrev pub edit_of : Form → List ℤ → List Tri → Edit
edit_of form.Group zs ts = edit.Make (u16_at zs 0) kind.Group
edit_of form.Switch zs ts = edit.Make (u16_at zs 0) (kind.Switch pick.Off)
edit_of form.Dcs zs ts = edit.Make (u16_at zs 0) (kind.Dcs (pose.Euler new_pose))
edit_of form.Lod zs ts = edit.Make (u16_at zs 0) (kind.Lod origin_vector [])
edit_of form.Seq zs ts = edit.Make (u16_at zs 0) (kind.Seq [] (run.Held 0))
edit_of form.Layer zs ts = edit.Make (u16_at zs 0) kind.Layer
edit_of form.Scs zs ts = edit.Make (u16_at zs 0) (kind.Scs (affine_at zs 1))
edit_of form.Geode zs ts = edit.Make (u16_at zs 0) (kind.Geode (u16_at zs 1) ts)
edit_of form.Glass zs ts = edit.Make (u16_at zs 0) (kind.Glass (u16_at zs 1) (u8_at zs 2) ts)
edit_of form.Verts zs ts = edit.Verts (u16_at zs 0) ts
edit_of form.Add zs ts = edit.Add (u16_at zs 0) (u16_at zs 1)
edit_of form.Remove zs ts = edit.Remove (u16_at zs 0) (u16_at zs 1)
edit_of form.Insert zs ts = edit.Insert (u16_at zs 0) (u16_at zs 1) (u16_at zs 2)
edit_of form.Replace zs ts = edit.Replace (u16_at zs 0) (u16_at zs 1) (u16_at zs 2)
edit_of form.Delete zs ts = edit.Delete (u16_at zs 0)
edit_of form.Run zs ts = edit.Run (u16_at zs 0)
edit_of form.Stop zs ts = edit.Stop (u16_at zs 0)
edit_of form.SwitchTo zs ts = edit.Pick (u16_at zs 0) (pick.One (u16_at zs 1))
edit_of form.SwitchOn zs ts = edit.Pick (u16_at zs 0) pick.On
edit_of form.SwitchOff zs ts = edit.Pick (u16_at zs 0) pick.Off
edit_of form.Mat zs ts = edit.Mat (u16_at zs 0) (affine_at zs 1)
edit_of form.Trans zs ts = edit.Trans (u16_at zs 0) (vector_at zs 1)
edit_of form.Centre zs ts = edit.Centre (u16_at zs 0) (vector_at zs 1)
edit_of form.Rot zs ts = edit.Rot (u16_at zs 0) (number zs 1) (number zs 2) (number zs 3)
edit_of form.Scale zs ts = edit.Scale (u16_at zs 0) (number zs 1)
edit_of form.Range zs ts = edit.Range (u16_at zs 0) (u16_at zs 1) (u32_at zs 2)
edit_of form.Times zs ts = edit.Times (u16_at zs 0) (u16_at zs 1) (u16_at zs 2)

-- the step of the application that a line makes, where it makes one
abbrev pub app_step_of : Command → List ℤ → List Tri → Option AppStep
app_step_of command.View zs ts = Some (app_step.View 0 (view_at zs 0))
app_step_of command.ChannelView zs ts = Some (app_step.View (u8_at zs 0) (view_at zs 1))
app_step_of command.Sync zs ts = Some app_step.Sync
app_step_of command.Frame zs ts = Some app_step.Frame
app_step_of command.Wait zs ts = Some (app_step.Wait (u32_at zs 0))
app_step_of (command.Edit f) zs ts = Some (app_step.Edit (edit_of f zs ts))
app_step_of _ zs ts = None

-- the step of the database process that a line makes, where it makes one
abbrev pub base_step_of : Command → List ℤ → List Tri → Option BaseStep
base_step_of command.Await zs ts = Some (base_step.Await (u32_at zs 0))
base_step_of command.Buffer zs ts = Some base_step.Buffer
base_step_of command.Merge zs ts = Some base_step.Merge
base_step_of command.BufferAdd zs ts = Some (base_step.Ask (edit.Add (u16_at zs 0) (u16_at zs 1)))
base_step_of command.BufferRemove zs ts = Some (base_step.Ask (edit.Remove (u16_at zs 0) (u16_at zs 1)))
base_step_of (command.Edit f) zs ts = Some (base_step.Edit (edit_of f zs ts))
base_step_of _ zs ts = None
