-- Steps that a line can make are told by their lines.
use Rattle.std.proofs.Common.{◌≡◌, ℕ, zero, suc, ◌<◌, ◌≤◌, arith, refl, ap, sym, ◌∙◌, List, [], ◌∷◌, ◌++◌, length, subst, Some, ℤ, pos}
use Rattle.std.specs.Prelude.{◌≤ℤ◌}
use Rattle.std.specs.List.{flat_map}
use Rattle.std.proofs.lemmas.Int.{ints}
use Rattle.std.proofs.lemmas.Bool.{lt-ltb}
use Rattle.fx_math.specs.Within.{entry, row_at}
use Rattle.fx_math.specs.declared.vectors.Vec3.{Vec3}
use Rattle.fx_math.specs.declared.matrices.Affine.{Affine}
use Rattle.pf_model.specs.Angles.{Viewpoint}
use Rattle.pf_model.specs.declared.geometry.Tri.{Tri}
use Rattle.pf_model.specs.declared.nodes.Kind.{Kind}
use Rattle.pf_model.specs.declared.nodes.Kind.TheVariants as kind
use Rattle.pf_model.specs.declared.nodes.Pick.TheVariants as pick
use Rattle.pf_model.specs.declared.nodes.Run.TheVariants as run
use Rattle.pf_model.specs.declared.poses.Pose.TheVariants as pose
use Rattle.pf_model.specs.declared.edits.Edit.{Edit}
use Rattle.pf_model.specs.declared.edits.Edit.TheVariants as edit
use Rattle.pf_model.specs.declared.lines.AppStep.{AppStep}
use Rattle.pf_model.specs.declared.lines.AppStep.TheVariants as app_step
use Rattle.pf_model.specs.declared.lines.BaseStep.{BaseStep}
use Rattle.pf_model.specs.declared.lines.BaseStep.TheVariants as base_step
use Rattle.play_format.specs.declared.commands.Command.TheVariants as command
use Rattle.play_format.specs.Commands.{form_limits, limits_of, view_limits}
use Rattle.play_format.specs.Commands as commands
use Rattle.play_format.specs.Places.{IsWithin, AreWithin, announced_by, announced}
use Rattle.play_format.specs.Making.{below, vector, affine, affine_at, view_at, tri_of, edit_of, app_step_of, base_step_of}
use Rattle.play_format.specs.Spelling.{point_numbers, matrix_numbers, view_numbers, corner_numbers, kind_form, kind_numbers, edit_form, edit_numbers, edit_triangles, app_entry, app_triangles, base_entry, base_triangles}
use Rattle.play_format.specs.Written.{IsSquare, AreColours, channel, IsNew, IsWritten, IsAppStep, IsBaseStep, new_pose}
use Rattle.play_format.proofs.SameLemmas.{same_tri, vector_is, affine_is}
use Rattle.play_format.proofs.BackLemmas.{angle_back}
use Rattle.fx_math.specs.Constants.{origin_vector}

below_again : (bound n : ℕ) → n < bound → below bound (pos n) ≡ n
below_again bound n h = rw (lt-ltb n bound h) refl

-- a number of 16 bits
half : (n : ℕ) (lo : ℤ) → pos n ≤ℤ pos 65535 → below 65536 (pos n) ≡ n
half n lo h = below_again 65536 n (omega (arith, ints, h))

vector_again : (t : Vec3) → vector t.x t.y t.z ≡ t
vector_again t = sym (vector_is t t.x t.y t.z refl refl refl)

matrix_literal : (x a b c d e f g h i : ℤ) (t : Vec3)
    → affine_at (x ∷ (flat_map (λ row. row) ((a ∷ b ∷ c ∷ []) ∷ (d ∷ e ∷ f ∷ []) ∷ (g ∷ h ∷ i ∷ []) ∷ []) ++ point_numbers t)) 1
    ≡ affine ((a ∷ b ∷ c ∷ []) ∷ (d ∷ e ∷ f ∷ []) ∷ (g ∷ h ∷ i ∷ []) ∷ []) t
matrix_literal x a b c d e f g h i t = ap (affine ((a ∷ b ∷ c ∷ []) ∷ (d ∷ e ∷ f ∷ []) ∷ (g ∷ h ∷ i ∷ []) ∷ [])) (vector_again t)

matrix_again : (x : ℤ) (a : List (List ℤ)) (t : Vec3) → IsSquare a → affine_at (x ∷ (flat_map (λ row. row) a ++ point_numbers t)) 1 ≡ affine a t
matrix_again x a t h =
    let P : List (List ℤ) → Type 0 = λ b. affine_at (x ∷ (flat_map (λ row. row) b ++ point_numbers t)) 1 ≡ affine b t in
    subst P (sym h.rows) (matrix_literal x (entry (row_at a 0) 0) (entry (row_at a 0) 1) (entry (row_at a 0) 2) (entry (row_at a 1) 0) (entry (row_at a 1) 1) (entry (row_at a 1) 2) (entry (row_at a 2) 0) (entry (row_at a 2) 1) (entry (row_at a 2) 2) t)

affine_again : (x : ℤ) (m : Affine) → IsSquare m.a → affine_at (x ∷ matrix_numbers m) 1 ≡ m
affine_again x m h = matrix_again x m.a m.t h ∙ sym (affine_is m)

new_again : (id : ℕ) (k : Kind) → IsNew k → AreWithin (form_limits (kind_form k)) (pos id ∷ kind_numbers k) → edit_of (kind_form k) (pos id ∷ kind_numbers k) (edit_triangles (edit.Make id k)) ≡ edit.Make id k
new_again id kind.Group h w = ap (λ (i : ℕ). edit.Make i kind.Group) (half id (pos 0) w.0.high)
new_again id (kind.Switch p) h w = rw h (ap (λ (i : ℕ). edit.Make i (kind.Switch pick.Off)) (half id (pos 0) w.0.high))
new_again id (kind.Scs m) h w = rw (affine_again (pos id) m h) (ap (λ (i : ℕ). edit.Make i (kind.Scs m)) (half id (pos 0) w.0.high))
new_again id (kind.Dcs p) h w = rw h (ap (λ (i : ℕ). edit.Make i (kind.Dcs (pose.Euler new_pose))) (half id (pos 0) w.0.high))
new_again id (kind.Lod c rs) h w = rw (h.0, h.1) (ap (λ (i : ℕ). edit.Make i (kind.Lod origin_vector [])) (half id (pos 0) w.0.high))
new_again id (kind.Seq ts r) h w = rw (h.0, h.1) (ap (λ (i : ℕ). edit.Make i (kind.Seq [] (run.Held 0))) (half id (pos 0) w.0.high))
new_again id kind.Layer h w = ap (λ (i : ℕ). edit.Make i kind.Layer) (half id (pos 0) w.0.high)
new_again id (kind.Geode s ts) h w = ap (λ (i : ℕ). edit.Make i (kind.Geode (below 65536 (pos s)) ts)) (half id (pos 0) w.0.high) ∙ ap (λ (i : ℕ). edit.Make id (kind.Geode i ts)) (half s (pos 0) w.1.0.high)
new_again id (kind.Glass s a ts) h w =
    ap (λ (i : ℕ). edit.Make i (kind.Glass (below 65536 (pos s)) (below 256 (pos a)) ts)) (half id (pos 0) w.0.high)
    ∙ ap (λ (i : ℕ). edit.Make id (kind.Glass i (below 256 (pos a)) ts)) (half s (pos 0) w.1.0.high)
    ∙ ap (λ (i : ℕ). edit.Make id (kind.Glass s i ts)) (below_again 256 a (omega (arith, ints, w.1.1.0.high)))

small_half : (n m : ℕ) → pos n ≤ℤ pos m → m ≤ 65535 → pos n ≤ℤ pos 65535
small_half n m h k = omega (arith, ints, h)

-- an edit that a line can make is made by its line
pub edit_again : (e : Edit) → IsWritten e → AreWithin (form_limits (edit_form e)) (edit_numbers e) → edit_of (edit_form e) (edit_numbers e) (edit_triangles e) ≡ e
edit_again (edit.Make id k) h w = new_again id k h w
edit_again (edit.Add p c) h w = rw (half p (pos 0) w.0.high, half c (pos 0) w.1.0.high) refl
edit_again (edit.Insert p i c) h w = rw (half p (pos 0) w.0.high, half i (pos 0) (small_half i 255 w.1.0.high (omega arith)), half c (pos 0) w.1.1.0.high) refl
edit_again (edit.Replace p c b) h w = rw (half p (pos 0) w.0.high, half c (pos 0) w.1.0.high, half b (pos 0) w.1.1.0.high) refl
edit_again (edit.Remove p c) h w = rw (half p (pos 0) w.0.high, half c (pos 0) w.1.0.high) refl
edit_again (edit.Delete id) h w = rw (half id (pos 0) w.0.high) refl
edit_again (edit.Pick id pick.On) h w = rw (half id (pos 0) w.0.high) refl
edit_again (edit.Pick id pick.Off) h w = rw (half id (pos 0) w.0.high) refl
edit_again (edit.Pick id (pick.One i)) h w = rw (half id (pos 0) w.0.high, half i (pos 0) (small_half i 255 w.1.0.high (omega arith))) refl
edit_again (edit.Mat id m) h w = rw (affine_again (pos id) m h, half id (pos 0) w.0.high) refl
edit_again (edit.Trans id t) h w = rw (vector_again t, half id (pos 0) w.0.high) refl
edit_again (edit.Rot id a b c) h w = rw (half id (pos 0) w.0.high) refl
edit_again (edit.Scale id s) h w = rw (half id (pos 0) w.0.high) refl
edit_again (edit.Range id i v) h w = rw (half id (pos 0) w.0.high, half i (pos 0) (small_half i 256 w.1.0.high (omega arith)), below_again 4294967296 v (omega (arith, ints, w.1.1.0.high))) refl
edit_again (edit.Centre id c) h w = rw (vector_again c, half id (pos 0) w.0.high) refl
edit_again (edit.Times id i n) h w = rw (half id (pos 0) w.0.high, half i (pos 0) (small_half i 255 w.1.0.high (omega arith)), half n (pos 0) w.1.1.0.high) refl
edit_again (edit.Run id) h w = rw (half id (pos 0) w.0.high) refl
edit_again (edit.Stop id) h w = rw (half id (pos 0) w.0.high) refl
edit_again (edit.Verts id ts) h w = rw (half id (pos 0) w.0.high) refl

view_again : (v : Viewpoint) → AreWithin view_limits (view_numbers v) → view_at (view_numbers v) 0 ≡ v
view_again v w = rw (vector_again v.eye, angle_back v.h w.1.1.1.0, angle_back v.p w.1.1.1.1.0, angle_back v.r w.1.1.1.1.1.0) refl

count_again : (n : ℕ) → pos n ≤ℤ pos 262144 → below 4294967296 (pos n) ≡ n
count_again n h = below_again 4294967296 n (omega (arith, ints, h))

-- a step of the application is made by its lines
pub app_again : (n : ℕ) (s : AppStep) → n ≤ 4 → IsAppStep s → AreWithin (limits_of n (app_entry s).0) (app_entry s).1 → app_step_of (app_entry s).0 (app_entry s).1 (app_triangles s) ≡ Some s
app_again n (app_step.Edit e) few h w = ap (λ (e : Edit). Some (app_step.Edit e)) (edit_again e h w)
app_again n (app_step.View zero v) few h w = ap (λ (v : Viewpoint). Some (app_step.View 0 v)) (view_again v w)
app_again n (app_step.View (suc c) v) few h w =
    ap (λ (v : Viewpoint). Some (app_step.View (below 256 (pos (suc c))) v)) (view_again v w.1)
    ∙ ap (λ (i : ℕ). Some (app_step.View i v)) (below_again 256 (suc c) (omega (arith, ints, w.0.high)))
app_again n app_step.Sync few h w = refl
app_again n app_step.Frame few h w = refl
app_again n (app_step.Wait k) few h w = ap (λ (i : ℕ). Some (app_step.Wait i)) (count_again k w.0.high)

-- and so is a step of the database process
pub base_again : (n : ℕ) (s : BaseStep) → IsBaseStep s → AreWithin (limits_of n (base_entry s).0) (base_entry s).1 → base_step_of (base_entry s).0 (base_entry s).1 (base_triangles s) ≡ Some s
base_again n base_step.Buffer h w = refl
base_again n (base_step.Edit e) h w = ap (λ (e : Edit). Some (base_step.Edit e)) (edit_again e h w)
base_again n (base_step.Ask (edit.Add p c)) h w = rw (half p (pos 0) w.0.high, half c (pos 0) w.1.0.high) refl
base_again n (base_step.Ask (edit.Remove p c)) h w = rw (half p (pos 0) w.0.high, half c (pos 0) w.1.0.high) refl
base_again n (base_step.Ask e) h w = absurd h
base_again n base_step.Merge h w = refl
base_again n (base_step.Await k) h w = ap (λ (i : ℕ). Some (base_step.Await i)) (count_again k w.0.high)

-- A triangle is made by its line

colours_literal : (a b d : Vec3) (c0 c1 c2 c3 c4 c5 c6 c7 c8 : ℕ) → let c = (c0 ∷ c1 ∷ c2 ∷ []) ∷ (c3 ∷ c4 ∷ c5 ∷ []) ∷ (c6 ∷ c7 ∷ c8 ∷ []) ∷ [] in
    AreWithin (limits_of 0 command.Triangle) (corner_numbers (a ∷ b ∷ d ∷ []) c)
    → ((tri_of (corner_numbers (a ∷ b ∷ d ∷ []) c)).v ≡ a ∷ b ∷ d ∷ []) × ((tri_of (corner_numbers (a ∷ b ∷ d ∷ []) c)).c ≡ c)
colours_literal a b d c0 c1 c2 c3 c4 c5 c6 c7 c8 w =
    let colour : (n : ℕ) → IsWithin commands.colour (pos n) → below 256 (pos n) ≡ n = λ n k. below_again 256 n (omega (arith, ints, k.high)) in (
      rw (vector_again a, vector_again b, vector_again d) refl,
      rw (
        colour c0 w.1.1.1.0,
        colour c1 w.1.1.1.1.0,
        colour c2 w.1.1.1.1.1.0,
        colour c3 w.1.1.1.1.1.1.1.1.1.0,
        colour c4 w.1.1.1.1.1.1.1.1.1.1.0,
        colour c5 w.1.1.1.1.1.1.1.1.1.1.1.0,
        colour c6 w.1.1.1.1.1.1.1.1.1.1.1.1.1.1.1.0,
        colour c7 w.1.1.1.1.1.1.1.1.1.1.1.1.1.1.1.1.0,
        colour c8 w.1.1.1.1.1.1.1.1.1.1.1.1.1.1.1.1.1.0,
      ) refl,
    )

corners_again : (v : List Vec3) (c : List (List ℕ)) → length v ≡ 3 → AreColours c → AreWithin (limits_of 0 command.Triangle) (corner_numbers v c)
    → ((tri_of (corner_numbers v c)).v ≡ v) × ((tri_of (corner_numbers v c)).c ≡ c)
corners_again (a ∷ b ∷ d ∷ []) c e h =
    let P : List (List ℕ) → Type 0 = λ c. AreWithin (limits_of 0 command.Triangle) (corner_numbers (a ∷ b ∷ d ∷ []) c) → ((tri_of (corner_numbers (a ∷ b ∷ d ∷ []) c)).v ≡ a ∷ b ∷ d ∷ []) × ((tri_of (corner_numbers (a ∷ b ∷ d ∷ []) c)).c ≡ c) in
    subst P (sym h.rows) (colours_literal a b d (channel c 0 0) (channel c 0 1) (channel c 0 2) (channel c 1 0) (channel c 1 1) (channel c 1 2) (channel c 2 0) (channel c 2 1) (channel c 2 2))
corners_again [] c e h = absurd (omega (arith, e))
corners_again (a ∷ []) c e h = absurd (omega (arith, e))
corners_again (a ∷ b ∷ []) c e h = absurd (omega (arith, e))
corners_again (a ∷ b ∷ d ∷ x ∷ v) c e h = absurd (omega (arith, e))

pub tri_again : (t : Tri) → AreColours t.c → AreWithin (limits_of 0 command.Triangle) (corner_numbers t.v t.c) → tri_of (corner_numbers t.v t.c) ≡ t
tri_again t h w = let k = corners_again t.v t.c t.three.vertices_three h w in same_tri (tri_of (corner_numbers t.v t.c)) t k.0 k.1

-- as many triangles as the line says

pub edit_announced : (e : Edit) → length (edit_triangles e) ≡ announced_by (edit_form e) (edit_numbers e)
edit_announced (edit.Make id kind.Group) = refl
edit_announced (edit.Make id (kind.Geode s ts)) = refl
edit_announced (edit.Make id (kind.Glass s a ts)) = refl
edit_announced (edit.Make id k) = refl
edit_announced (edit.Pick id pick.On) = refl
edit_announced (edit.Pick id pick.Off) = refl
edit_announced (edit.Pick id (pick.One i)) = refl
edit_announced (edit.Verts id ts) = refl
edit_announced e = refl

pub app_announced : (s : AppStep) → length (app_triangles s) ≡ announced (app_entry s).0 (app_entry s).1
app_announced (app_step.Edit e) = edit_announced e
app_announced (app_step.View zero v) = refl
app_announced (app_step.View (suc c) v) = refl
app_announced s = refl

pub base_announced : (s : BaseStep) → IsBaseStep s → length (base_triangles s) ≡ announced (base_entry s).0 (base_entry s).1
base_announced (base_step.Edit e) h = edit_announced e
base_announced (base_step.Ask (edit.Remove p c)) h = refl
base_announced (base_step.Ask (edit.Add p c)) h = refl
base_announced (base_step.Ask e) h = absurd h
base_announced s h = refl

-- no step has the line `dbase`
pub app_not_dbase : (s : AppStep) → (app_entry s).0 ≡ command.Dbase → ⊥
app_not_dbase (app_step.Edit e) h = cc
app_not_dbase (app_step.View zero v) h = cc
app_not_dbase (app_step.View (suc c) v) h = cc
app_not_dbase s h = cc
