-- What is told of a play that was played to its end.
use Rattle.std.specs.Prelude.{◌≡◌, ℕ, List, [], ◌++◌, Option, IsSome}
use Rattle.std.specs.Option.{option_map_or}
use Rattle.play_format.specs.Plays.{Script}
use Rattle.pf_history.specs.Logs.{Log}
use Rattle.nearest_hit.specs.declared.found.Near.{Near}
use Rattle.isect_stage.specs.Asking.{nearest_hits}
use Rattle.play_report.specs.Reports.{report, summary}
use Rattle.play_report.specs.Probes.{probe_text}
use Rattle.program_words.specs.declared.words.Words.{Words}
use Rattle.program_ends.specs.Played.{stream_of}
use Rattle.perfly_top.specs.Sums.{sum_of_bytes}

-- what is told of the play: the report, or with a number to make the summary, which has a sum
abbrev pub account : Words → Script → Log → ℕ → List ℕ
account words play log sum =
    option_map_or (λ n. summary play.lens play.channels n log sum) words.make (report play.lens play.channels log)

-- the answers to the probe: the nearest hit of each Frame, in the state that it found; none where there is no probe
abbrev pub answers : Words → Script → Log → List (Option Near)
answers words play log = option_map_or (λ segment. nearest_hits play.channels segment log) words.probe []

-- what the report sink gets: the report or the summary, and then the lines of the probe
abbrev pub told : Words → Script → Log → ℕ → List ℕ
told words play log sum = account words play log sum ++ probe_text (answers words play log)

-- The sum of a summary is that of the bytes of the pictures, where the frame sink tells its bytes.
abbrev pub IsSummed : Words → Script → Log → Option (List ℕ) → ℕ → Type 0
IsSummed words play log frames sum = IsSome words.make → IsSome frames → sum ≡ sum_of_bytes (stream_of play log)
