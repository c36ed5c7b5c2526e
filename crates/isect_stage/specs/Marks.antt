-- The stop mark of the shared scene.
use Rattle.std.specs.Prelude.{◌≡◌, ℕ, Bool, true, Option, Result, Ok, Err}
use Rattle.std.specs.Option.{option_map}
use Rattle.seat_lock.specs.Desk.{Looked}
use Rattle.pf_history.specs.Logs.{Log}
use Rattle.pf_scene.specs.Scenes.{SceneState}
use Rattle.stage_parts.specs.declared.answers.Did.{Did}
use Rattle.stage_parts.specs.declared.answers.StageError.{StageError}

-- A desk of this number, which had seen a log, saw whether the scene that it found has the stop mark, and has then seen the
-- log of that scene.
abbrev pub SawMark : ℕ → Log → Option SceneState → Bool → Log → Type 0
SawMark number seen told stopped seen' =
    Looked (λ scene. scene.shared.log) number (λ scene out. out ≡ scene.shared.stopped) seen told stopped seen'

-- a look found the stop mark exactly where the stage was over, whatever came after the look
abbrev pub FoundMark : ℕ → Log → Option SceneState → Bool → Type 0
FoundMark number seen told over = (seen' : Log) × SawMark number seen told over seen'

-- the scene with the stop mark
abbrev pub marked : SceneState → SceneState
marked scene = record scene { shared = record scene.shared { stopped = true } }

-- the stop mark is set where an error was answered, and nothing else of the scene changed, where the desk tells it
abbrev pub MarksAtError : Result Did StageError → (before after : Option SceneState) → Type 0
MarksAtError (Ok did) before after = after ≡ before
MarksAtError (Err e) before after = after ≡ option_map marked before
