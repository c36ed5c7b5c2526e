-- The probe as a function: what it does on every scene, within the limits or beyond.
use Rattle.std.specs.Prelude.{ℕ, zero, suc, ◌+◌, min, ◌++◌, if◌then◌else◌, List, fold, length, Option, Some, None}
use Rattle.std.specs.Option.{option_map_or}
use Rattle.fx_math.specs.Plain.{Matrix, Bounds}
use Rattle.pf_model.specs.Angles.{Viewpoint}
use Rattle.pf_model.specs.Boxes.{eye_box}
use Rattle.pf_model.specs.Graphs.{Look}
use Rattle.pf_model.specs.Kinds.{Surface, surface_of, own_steps}
use Rattle.pf_model.specs.Walks.{Instance, shown_children, chosen_in, steps_of_view}
use Rattle.pf_model.specs.declared.nodes.Node.{Node}
use Rattle.nearest_hit.specs.declared.found.Near.{Near}
use Rattle.nearest_hit.specs.declared.segment.Segment.{Segment}
use Rattle.nearest_hit.specs.Nearest.{hits_of, closer, is_near}

-- A scene with its boxes at a time, and a segment.
pub record Sight : Type 0 where
  pub look : Look
  pub boxes : ℕ → Option Bounds
  pub time : ℕ
  pub segment : Segment

-- The number of the instances so far, the closest hit so far, and the number of the triangles tested.
pub record Findings : Type 0 where
  pub place : ℕ
  pub best : Option Near
  pub tests : ℕ

-- the number after n, which stands still at its greatest value
abbrev pub counted : ℕ → ℕ
counted n = min (n + 1) 4294967295

-- an instance of which only the hits are asked
abbrev pub bare : ℕ → List Matrix → ℕ → Surface → Instance
bare id steps place s =
    record {
      place = place;
      id = id;
      state = s.state;
      tint = s.tint;
      shift = 0;
      steps = steps;
      tris = s.tris;
      far = 0;
    }

-- the closest hit with those of an instance, each of whose triangles is tested
abbrev pub tested : Segment → Findings → Instance → Findings
tested s f x =
    record f { best = fold closer f.best (hits_of s x); tests = f.tests + length x.tris }

-- a geode counted, and its triangles tested where its eye box is near the segment
abbrev pub with_surface : Segment → (around : Option Bounds) → ℕ → List Matrix → Findings → Surface → Findings
with_surface segment around id steps f surface =
    record (if is_near segment around then tested segment f (bare id steps f.place surface) else f) {
      place = counted f.place;
    }

-- what a node with this eye box draws itself
abbrev pub with_own : Segment → (around : Option Bounds) → ℕ → List Matrix → Findings → Option Surface → Findings
with_own segment around id steps f None = f
with_own segment around id steps f (Some surface) = with_surface segment around id steps f surface

-- children under these steps, one after the other
abbrev pub over : (Findings → ℕ → List Matrix → Findings) → List Matrix → Findings → List (ℕ × ℕ) → Findings
over visit steps f cs = fold (λ g c. visit g c.1 steps) f cs

-- a node that is there: what it draws itself, and then its chosen children
abbrev pub entered : (Findings → ℕ → List Matrix → Findings) → Sight → Findings → ℕ → List Matrix → Node → Findings
entered visit s f id steps n =
    over visit (own_steps n.kind ++ steps)
    (with_own s.segment (eye_box s.boxes id steps) id steps f (surface_of n.kind))
    (shown_children (chosen_in s.time n steps) n.children)

-- the probe of a node and what is below it, with at most so many levels
unfoldable pub probed : ℕ → Sight → Findings → ℕ → List Matrix → Findings
probed zero s f id steps = f
probed (suc n) s f id steps = option_map_or (entered (probed n s) s f id steps) (s.look id) f

-- the probe of a whole scene 32 nodes deep
abbrev pub searched : Sight → Viewpoint → ℕ → Findings
searched s view tests = probed 32 s (record { place = 0; best = None; tests = tests }) 0 (steps_of_view view)
