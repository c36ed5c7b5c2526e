-- The lines of generated plays. What a line draws, it draws behind a state s.
use Rattle.std.specs.Prelude.{ℕ, zero, suc, ◌+◌, ◌*◌, List, [], ◌∷◌, ◌++◌, map, ℤ, pos, ◌+ℤ◌, ◌-ℤ◌, ◌*ℤ◌}
use Rattle.play_format.specs.declared.commands.Form.TheVariants as form
use Rattle.play_format.specs.declared.commands.Command.TheVariants as command
use Rattle.play_format.specs.declared.places.Version.TheVariants as version
use Rattle.play_format.specs.Commands.{Entry}
use Rattle.play_format.specs.Spelling.{line_of, text_of_lines, version_line}
use Rattle.play_gen.specs.Draws.{state_after, draw}

-- the header, and the group that all else comes below
unfoldable pub opening : List Entry
opening =
    (command.Size, pos 64 ∷ pos 48 ∷ [])
    ∷ (command.Lens, pos 64 ∷ pos 4096 ∷ pos 409600 ∷ [])
    ∷ (command.Back, pos 0 ∷ pos 0 ∷ pos 64 ∷ [])
    ∷ (command.App, [])
    ∷ (command.Edit form.Group, pos 1 ∷ [])
    ∷ (command.Edit form.Add, pos 0 ∷ pos 1 ∷ [])
    ∷ []

-- a frame, and the wait for merge i
unfoldable pub turn : ℕ → List Entry
turn i = (command.Frame, []) ∷ (command.Wait, pos i ∷ []) ∷ []

-- the turns 1 to k
unfoldable pub turns : ℕ → List Entry
turns zero = []
turns (suc k) = turns k ++ turn (suc k)

abbrev pub coordinate : ℕ → ℕ → ℤ
coordinate s k = pos (draw s k 8192) -ℤ pos 4096

abbrev pub colour : ℕ → ℕ → ℤ
colour s k = pos (draw s k 256)

-- a vertex with its colour: six draws
unfoldable pub corner : ℕ → List ℤ
corner s = coordinate s 0 ∷ coordinate s 1 ∷ coordinate s 2 ∷ colour s 3 ∷ colour s 4 ∷ colour s 5 ∷ []

-- eighteen draws
unfoldable pub triangle : ℕ → Entry
triangle s = (command.Triangle, corner s ++ (corner (state_after 6 s) ++ corner (state_after 12 s)))

-- the first k triangles behind a state
unfoldable pub triangles : ℕ → ℕ → List Entry
triangles zero s = []
triangles (suc k) s = triangles k s ++ triangle (state_after (18 * k) s) ∷ []

-- a geode with its state and its sixteen triangles: 289 draws
unfoldable pub geode : ℕ → ℕ → List Entry
geode id s = (command.Edit form.Geode, pos id ∷ pos (draw s 0 8) ∷ pos 16 ∷ []) ∷ triangles 16 (state_after 1 s)

-- A geode stands at most 16 units to a side, 8 to 39 units ahead, and at most 8 units higher or lower. A unit is 4096.
abbrev pub side : ℕ → ℕ → ℤ
side s k = (pos (draw s k 32) -ℤ pos 16) *ℤ pos 4096

abbrev pub ahead : ℕ → ℕ → ℤ
ahead s k = (pos 8 +ℤ pos (draw s k 32)) *ℤ pos 4096

abbrev pub height : ℕ → ℕ → ℤ
height s k = (pos (draw s k 16) -ℤ pos 8) *ℤ pos 4096

-- where the geode stands: three draws
unfoldable pub place : ℕ → ℕ → Entry
place id s = (command.Edit form.Trans, pos id ∷ side s 0 ∷ ahead s 1 ∷ height s 2 ∷ [])

-- its heading: one draw
unfoldable pub heading : ℕ → ℕ → Entry
heading id s = (command.Edit form.Rot, pos id ∷ pos (draw s 0 3600) ∷ pos 0 ∷ pos 0 ∷ [])

-- the geode comes below its dynamic coordinate system, which is placed and comes below the group: four draws
unfoldable pub placed : ℕ → ℕ → List Entry
placed i s =
    (command.Edit form.Add, pos (100 + 2 * i) ∷ pos (101 + 2 * i) ∷ [])
    ∷ place (100 + 2 * i) s
    ∷ heading (100 + 2 * i) (state_after 3 s)
    ∷ (command.BufferAdd, pos 1 ∷ pos (100 + 2 * i) ∷ [])
    ∷ (command.Merge, [])
    ∷ []

-- the buffer of merge i, which waits for frame i: 293 draws
unfoldable pub buffer : ℕ → ℕ → List Entry
buffer i s =
    (command.Await, pos i ∷ [])
    ∷ (command.Buffer, [])
    ∷ (command.Edit form.Dcs, pos (100 + 2 * i) ∷ [])
    ∷ (geode (101 + 2 * i) s ++ placed i (state_after 289 s))

-- the buffers of the merges 1 to k behind a state
unfoldable pub buffers : ℕ → ℕ → List Entry
buffers zero s = []
buffers (suc k) s = buffers k s ++ buffer (suc k) (state_after (293 * k) s)

-- All lines of generated play n behind the first. Its draws start behind the state n.
unfoldable pub generated_lines : ℕ → List Entry
generated_lines n = opening ++ (turns n ++ (command.Frame, []) ∷ (command.Dbase, []) ∷ buffers n n)

-- the text of generated play n
unfoldable pub generated_text : ℕ → List ℕ
generated_text n = text_of_lines (version_line version.One ∷ map line_of (generated_lines n))
