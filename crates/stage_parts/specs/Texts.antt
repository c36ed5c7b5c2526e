-- What the errors say.
use Rattle.std.specs.Prelude.{ℕ, List, codes}
use Rattle.stage_parts.specs.declared.answers.StageError.{StageError}
use Rattle.stage_parts.specs.declared.answers.StageError.TheVariants.{FrameFault, NoMemory}

-- what an error says
abbrev pub error_text : StageError → List ℕ
error_text FrameFault = codes "the frame sink reported a fault"
error_text NoMemory = codes "out of memory"
