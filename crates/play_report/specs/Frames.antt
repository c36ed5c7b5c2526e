-- The line of a frame, and its three numbers.
use Rattle.std.specs.Prelude.{ℕ, ◌+◌, List, [], ◌∷◌, ◌++◌, codes, decimal}
use Rattle.fx_math.specs.declared.lenses.Lens.{Lens}
use Rattle.pf_history.specs.Logs.{Log}
use Rattle.draw_list.specs.declared.stats.Stats.{Stats}
use Rattle.stage_parts.specs.Pictures.{frame_numbers}

-- the numbers of each Frame of a log in turn
unfoldable pub stats_of_frames : Lens → ℕ → Log → List Stats
stats_of_frames lens channels log = frame_numbers channels lens log

-- the line of the frame of this number
abbrev pub frame_text : ℕ → Stats → List ℕ
frame_text frame s =
    codes "frame " ++ decimal frame ++ codes " shown " ++ decimal s.shown ++ codes " states " ++ decimal s.states
    ++ codes " visited " ++ decimal s.visited ++ codes "\n"

-- the lines of frames, whose numbers go up from this one
abbrev pub frame_texts : ℕ → List Stats → List ℕ
frame_texts frame [] = []
frame_texts frame (s ∷ stats) = frame_text frame s ++ frame_texts (frame + 1) stats
