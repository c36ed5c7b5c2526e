-- Triangle lines that are read before their turn.
use Rattle.std.specs.Prelude.{◌≡◌, ℕ, ◌+◌, ◌-◌, ◌<◌, ◌≤◌, List, length, drop, map, ℤ, Ok}
use Rattle.pf_model.specs.declared.geometry.Tri.{Tri}
use Rattle.play_format.specs.declared.commands.Command.TheVariants as command
use Rattle.play_format.specs.declared.places.Spot.{Spot}
use Rattle.play_format.specs.declared.early.Early.{Early}
use Rattle.play_format.specs.Grammar.{entry_at}
use Rattle.play_format.specs.Spelling.{tri_entry}
use Rattle.play_format.specs.Written.{AreTriangles}
use Rattle.play_format.specs.Rests.{Stand, stand, IsSound, unread, with_front}

-- a line that has these numbers wherever a triangle line is due
pub record IsTriangleLine (line : List ℕ) (zs : List ℤ) : Type 0 where
  pub short : length line ≤ 1024
  pub read : (s : Spot) → IsSound s → 0 < s.due → entry_at s line ≡ Ok (command.Triangle, zs)

-- triangle lines were read between two stands, some of those that were due
pub record TrianglesSoFar (a b : Stand) (ts : List Tri) : Type 0 where
  pub told : unread a.spot a.line a.text ≡ with_front (map tri_entry ts) (unread b.spot b.line b.text)
  pub count : length ts + b.spot.due ≡ a.spot.due
  pub line : b.line ≡ a.line + length ts
  pub version : b.spot.version ≡ a.spot.version
  pub channels : b.spot.channels ≡ a.spot.channels
  pub place : b.spot.place ≡ a.spot.place
  pub written : AreTriangles ts
  pub not_longer : length b.text ≤ length a.text

-- the spot behind so many triangle lines
abbrev pub past_triangles : Spot → ℕ → Spot
past_triangles s n = record s { due = s.due - n }

-- Triangle lines that stand between two texts, of which the second is what is left: wherever so many are due, they are read so.
-- A play has at most 262,144 lines.
pub record AreLines (a b : List ℕ) (ts : List Tri) : Type 0 where
  pub read : (s : Spot) (n : ℕ) → IsSound s → length ts ≤ s.due → n + length ts ≤ 262145
      → TrianglesSoFar (stand s n a) (stand (past_triangles s (length ts)) (n + length ts) b) ts

-- the last n bytes of a text
abbrev pub last : ℕ → List ℕ → List ℕ
last n text = drop (length text - n) text

-- the end of a text
pub record IsEnd (text rest : List ℕ) : Type 0 where
  pub is : rest ≡ last (length rest) text
  pub inside : length rest ≤ length text

-- triangle lines of a text, with their triangles
pub record AreEarly (text : List ℕ) (at behind : ℕ) (ts : List Tri) : Type 0 where
  pub lines : AreLines (last at text) (last behind text) ts
  pub inside : at ≤ length text
  pub before : behind ≤ at

abbrev pub IsEarly : List ℕ → Early → Type 0
IsEarly text e = AreEarly text e.at e.behind e.tris.items
