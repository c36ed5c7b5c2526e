-- The triangles that a draw list keeps, each geode's once.
use Rattle.std.specs.Prelude.{◌≡◌, ℕ, ◌-◌, ◌<◌, ◌≤◌, ◌^◌, ◌||◌, ◌==◌, nat_lt, if◌then◌else◌, List, ◌++◌, length, slice_index_or, slice_set, Option, Some, None, is_some}
use Rattle.pf_model.specs.declared.geometry.Tri.{Tri}
use Rattle.draw_list.specs.declared.items.Span.{Span}

-- The triangles, where those of each id stand, and how many more triangles have room.
pub record KeptTris : Type 0 where
  pub tris : List Tri
  pub spans : List (Option Span)
  pub spare : ℕ

-- where the triangles of an id stand
abbrev pub span_at : KeptTris → ℕ → Option Span
span_at d id = slice_index_or d.spans id None

-- the span of triangles that are appended
abbrev pub next_span : List Tri → KeptTris → Span
next_span ts d = record { from = length d.tris; len = length ts }

abbrev pub empty_span : Span
empty_span = record { from = 0; len = 0 }

-- where triangles come to stand, none where there is no room for them
abbrev pub new_span : List Tri → KeptTris → Option Span
new_span ts d =
    if length ts == 0 then Some empty_span else (if nat_lt d.spare (length ts) then None else Some (next_span ts d))

-- where the triangles of an id stand once they are to be kept: those that are kept already stay
abbrev pub kept_span : ℕ → List Tri → KeptTris → Option Span
kept_span id ts d = if is_some (span_at d id) then span_at d id else new_span ts d

-- what is kept then
abbrev pub with_kept : ℕ → List Tri → KeptTris → KeptTris
with_kept id ts d =
    if is_some (span_at d id) || length ts == 0 || nat_lt d.spare (length ts) then d
    else record {
      tris = d.tris ++ ts;
      spans = slice_set d.spans id (Some (next_span ts d));
      spare = d.spare - length ts;
    }

-- what the type keeps
pub record IsKept (tris : List Tri) (spans : List (Option Span)) (room capacity : ℕ) : Type 0 where
  pub within : length tris ≤ room
  pub reserved : room ≤ capacity
  pub small : room < 2 ^ 32
  pub wide : length spans ≤ 65536
  pub sized : 0 < room → length spans ≡ 65536
