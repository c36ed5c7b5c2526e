-- The line of a probe's answer for a frame.
use Rattle.std.specs.Prelude.{ℕ, ◌+◌, List, [], ◌∷◌, ◌++◌, codes, decimal, Option, None, Some}
use Rattle.nearest_hit.specs.declared.found.Near.{Near}

-- the answer: that there is no hit, or how far along the segment the nearest one lies, the place of its instance in the
-- walk, the number of the triangle in it, and the id of the geode
abbrev pub answer_text : Option Near → List ℕ
answer_text None = codes "none"
answer_text (Some hit) =
    decimal hit.t ++ codes " " ++ decimal hit.place ++ codes " " ++ decimal hit.tri ++ codes " " ++ decimal hit.id

-- the line of the answer for the frame of this number
abbrev pub probe_line : ℕ → Option Near → List ℕ
probe_line frame answer = codes "probe " ++ decimal frame ++ codes " " ++ answer_text answer ++ codes "\n"

-- the lines of answers, the numbers of whose frames go up from this one
abbrev pub probe_lines : ℕ → List (Option Near) → List ℕ
probe_lines frame [] = []
probe_lines frame (answer ∷ answers) = probe_line frame answer ++ probe_lines (frame + 1) answers

-- the lines of the answers for all frames
abbrev pub probe_text : List (Option Near) → List ℕ
probe_text answers = probe_lines 1 answers
