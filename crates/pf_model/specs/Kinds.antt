-- All that depends on the kind of a node. A geode, with a small letter, is a node of kind Geode or Glass.
use Rattle.std.specs.Prelude.{ℕ, zero, suc, ℤ, pos, ◌+◌, ◌-◌, ◌*◌, ◌%◌, Bool, true, false, ◌&&◌, ◌==◌, nat_lt, nat_le, if◌then◌else◌, List, [], ◌∷◌, map, drop, slice_index_or, sum, unsigned_abs, Option, Some, None, is_some}
use Rattle.std.specs.List.{range_with_len, zip, position}
use Rattle.std.specs.Option.{unwrap_or}
use Rattle.fx_math.specs.Plain.{Point, Matrix}
use Rattle.fx_math.specs.Views.{point_of, matrix_of}
use Rattle.fx_math.specs.Steps.{origin}
use Rattle.fx_math.specs.Steps as steps
use Rattle.fx_math.specs.declared.vectors.Vec3.{Vec3}
use Rattle.pf_model.specs.Angles.{EulerPose}
use Rattle.pf_model.specs.declared.geometry.Tri.{Tri}
use Rattle.pf_model.specs.declared.nodes.Kind.{Kind}
use Rattle.pf_model.specs.declared.nodes.Kind.TheVariants.{Switch, Scs, Dcs, Lod, Seq, Layer, Geode, Glass}
use Rattle.pf_model.specs.declared.nodes.Pick.{Pick}
use Rattle.pf_model.specs.declared.nodes.Pick.TheVariants as pick
use Rattle.pf_model.specs.declared.nodes.Run.{Run}
use Rattle.pf_model.specs.declared.nodes.Run.TheVariants.{Since, Held}
use Rattle.pf_model.specs.declared.nodes.Chosen.{Chosen}
use Rattle.pf_model.specs.declared.nodes.Chosen.TheVariants as chosen
use Rattle.pf_model.specs.declared.poses.Pose.{Pose}
use Rattle.pf_model.specs.declared.poses.Pose.TheVariants as pose

-- What a geode draws: its state, its alpha where it is glass, and its triangles.
pub record Surface : Type 0 where
  pub state : ℕ
  pub tint : Option ℕ
  pub tris : List Tri

abbrev pub surface_of : Kind → Option Surface
surface_of (Geode s ts) = Some (record { state = s; tint = None; tris = ts })
surface_of (Glass s a ts) = Some (record { state = s; tint = Some a; tris = ts })
surface_of _ = None

-- the triangles of a geode
abbrev pub geom_of : Kind → Option (List Tri)
geom_of (Geode s ts) = Some ts
geom_of (Glass s a ts) = Some ts
geom_of _ = None

abbrev pub is_geode : Kind → Bool
is_geode k = is_some (geom_of k)

abbrev pub is_switch : Kind → Bool
is_switch (Switch p) = true
is_switch _ = false

abbrev pub is_dcs : Kind → Bool
is_dcs (Dcs p) = true
is_dcs _ = false

-- the ranges of a level of detail
abbrev pub ranges_of : Kind → Option (List ℕ)
ranges_of (Lod c rs) = Some rs
ranges_of _ = None

abbrev pub is_lod : Kind → Bool
is_lod k = is_some (ranges_of k)

-- the times of a sequence
abbrev pub times_of : Kind → Option (List ℕ)
times_of (Seq ts r) = Some ts
times_of _ = None

abbrev pub is_sequence : Kind → Bool
is_sequence k = is_some (times_of k)

-- Steps and shifts

-- the steps of a pose toward the coordinates above it
abbrev pub pose_steps : Pose → List Matrix
pose_steps (pose.Matrix m) = matrix_of m ∷ []
pose_steps (pose.Euler e) = steps.pose_steps e.scale e.h e.p e.r (point_of e.t)

-- the steps that a node puts between its children and what is above it
abbrev pub own_steps : Kind → List Matrix
own_steps (Scs m) = matrix_of m ∷ []
own_steps (Dcs p) = pose_steps p
own_steps _ = []

-- how much nearer each place of a node is drawn than the place before it
abbrev pub decal : Kind → ℕ
decal Layer = 16
decal _ = 0

-- Chosen children

-- the centre of a level of detail
abbrev pub centre_of : Kind → Point
centre_of (Lod c rs) = point_of c
centre_of _ = origin

abbrev pub squared_length : Point → ℕ
squared_length v = unsigned_abs v.x * unsigned_abs v.x + unsigned_abs v.y * unsigned_abs v.y + unsigned_abs v.z * unsigned_abs v.z

-- the distance with square d is at least the first range and below the second
abbrev pub is_between : ℕ → ℕ × ℕ → Bool
is_between d e = nat_le (e.0 * e.0) d && nat_lt d (e.1 * e.1)

-- the least place with the distance from its range up to the next one
abbrev pub level_at : List ℕ → ℕ → Option ℕ
level_at ranges d = position (is_between d) (zip ranges (drop 1 ranges))

-- the time of each of n children: its entry, or 1 where there is none
abbrev pub child_times : List ℕ → ℕ → List ℕ
child_times times n = map (λ j. slice_index_or times j 1) (range_with_len 0 n)

-- the first place with which the times add up to more than q
abbrev pub place_passing : List ℕ → ℕ → ℕ
place_passing [] q = 0
place_passing (t ∷ ts) q = if nat_lt q t then 0 else 1 + place_passing ts (q - t)

-- the place q frames after the start, round and round; none where the times add up to 0
abbrev pub turn_at : List ℕ → ℕ → Option ℕ
turn_at times q = if sum times == 0 then None else Some (place_passing times (q % sum times))

-- the place of a sequence with n children at a time
abbrev pub sequence_place : List ℕ → Run → ℕ → ℕ → Option ℕ
sequence_place times (Held i) n time = Some i
sequence_place times (Since s) n time = turn_at (child_times times n) (time - s)

-- the child at a place, none where it is not there
abbrev pub chosen_at : ℕ → Option ℕ → Chosen
chosen_at n None = chosen.Nothing
chosen_at n (Some i) = if nat_lt i n then chosen.One i else chosen.Nothing

abbrev pub picked : Pick → ℕ → Chosen
picked pick.On n = chosen.All
picked pick.Off n = chosen.Nothing
picked (pick.One i) n = chosen_at n (Some i)

-- which of n children are shown at a time; centre is that of a level of detail in eye coordinates
abbrev pub chosen_of : Kind → Point → ℕ → ℕ → Chosen
chosen_of (Switch p) centre time n = picked p n
chosen_of (Lod c ranges) centre time n = chosen_at n (level_at ranges (squared_length centre))
chosen_of (Seq times run) centre time n = chosen_at n (sequence_place times run n time)
chosen_of (Geode s ts) centre time n = chosen.Nothing
chosen_of (Glass s a ts) centre time n = chosen.Nothing
chosen_of _ centre time n = chosen.All

-- What an edit makes of a kind; a kind that it does not apply to stays

abbrev pub with_pick : Pick → Kind → Kind
with_pick p (Switch q) = Switch p
with_pick p k = k

abbrev pub with_pose : (Pose → Pose) → Kind → Kind
with_pose f (Dcs p) = Dcs (f p)
with_pose f k = k

-- the Euler pose, of a matrix its translation alone
abbrev pub euler_of : Pose → EulerPose
euler_of (pose.Matrix m) = record { scale = pos 65536; h = pos 0; p = pos 0; r = pos 0; t = m.t }
euler_of (pose.Euler e) = e

abbrev pub moved_to : Vec3 → Pose → Pose
moved_to t p = pose.Euler (record (euler_of p) { t = t })

abbrev pub turned_to : ℤ → ℤ → ℤ → Pose → Pose
turned_to h p r q = pose.Euler (record (euler_of q) { h = h; p = p; r = r })

abbrev pub scaled_to : ℤ → Pose → Pose
scaled_to s p = pose.Euler (record (euler_of p) { scale = s })

-- the entry at a place replaced, or appended at the end
abbrev pub put_at : List ℕ → ℕ → ℕ → List ℕ
put_at [] i x = x ∷ []
put_at (y ∷ ys) zero x = x ∷ ys
put_at (y ∷ ys) (suc i) x = y ∷ put_at ys i x

abbrev pub with_range : ℕ → ℕ → Kind → Kind
with_range i x (Lod c rs) = Lod c (put_at rs i x)
with_range i x k = k

abbrev pub with_centre : Vec3 → Kind → Kind
with_centre c (Lod d rs) = Lod c rs
with_centre c k = k

abbrev pub with_time : ℕ → ℕ → Kind → Kind
with_time i x (Seq ts r) = Seq (put_at ts i x) r
with_time i x k = k

abbrev pub run_from : ℕ → Kind → Kind
run_from time (Seq ts r) = Seq ts (Since time)
run_from time k = k

-- held where it stands at the time; a sequence that shows nothing is held at place 0
abbrev pub held_at : List ℕ → ℕ → ℕ → Run → Run
held_at ts n time (Held i) = Held i
held_at ts n time (Since s) = Held (unwrap_or (sequence_place ts (Since s) n time) 0)

abbrev pub stopped : ℕ → ℕ → Kind → Kind
stopped time n (Seq ts r) = Seq ts (held_at ts n time r)
stopped time n k = k

abbrev pub with_geom : List Tri → Kind → Kind
with_geom ts (Geode s us) = Geode s ts
with_geom ts (Glass s a us) = Glass s a ts
with_geom ts k = k
