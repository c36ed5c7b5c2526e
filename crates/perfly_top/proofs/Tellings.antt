-- What is told of a run, by what was appended.
use Rattle.std.proofs.Common.{◌≡◌, ℕ, List, ◌++◌, Some, None, Result, OnOk, refl}
use Rattle.fx_math.specs.declared.lenses.Lens.{Lens}
use Rattle.pf_history.specs.Logs.{Log}
use Rattle.stage_parts.specs.Pictures.{frame_numbers}
use Rattle.play_format.specs.Plays.{Script}
use Rattle.play_report.specs.Frames.{stats_of_frames}
use Rattle.play_report.specs.Reports.{report, summary}
use Rattle.program_words.specs.declared.words.Words.{Words}
use Rattle.perfly_top.specs.Program.{account}

-- the numbers of the frames are those of the report
pub same_numbers : (lens : Lens) (channels : ℕ) (log : Log) → frame_numbers channels lens log ≡ stats_of_frames lens channels log
unfolding stats_of_frames
same_numbers lens channels log = refl

pub account_report : (words : Words) (play : Script) (log : Log) (sum : ℕ) → words.make ≡ None →
    report play.lens play.channels log ≡ account words play log sum
account_report words play log sum none = rw none refl

pub account_summary : (words : Words) (play : Script) (log : Log) (n sum : ℕ) → words.make ≡ Some n →
    summary play.lens play.channels n log sum ≡ account words play log sum
account_summary words play log n sum some = rw some refl

-- what was appended is told in other words
pub appended : {E : Type 0} (r : Result Unit E) (old new text told : List ℕ) → text ≡ told →
    OnOk r (new ≡ old ++ text) → OnOk r (new ≡ old ++ told)
appended r old new text told e h = rw (← e) h
