-- What a look at the shared scene tells.
use Rattle.std.specs.Prelude.{◌≡◌, ℕ, Bool, Option}
use Rattle.seat_lock.specs.Desk.{Looked}
use Rattle.pf_history.specs.Logs.{Log}
use Rattle.pf_scene.specs.declared.outcomes.Sight.{Sight}
use Rattle.pf_scene.specs.Scenes.{SceneState}
use Rattle.pf_scene.specs.Acts.{Shows}

-- the log of the scene
abbrev pub log_of : SceneState → Log
log_of scene = scene.shared.log

-- A desk of this number, which had seen a log, saw this of the scene that it found, and has then seen the log of that scene.
abbrev pub Saw : ℕ → Log → Option SceneState → Sight → Log → Type 0
Saw number seen told sight seen' = Looked log_of number Shows seen told sight seen'

-- the same of the stop mark alone
abbrev pub SawMark : ℕ → Log → Option SceneState → Bool → Log → Type 0
SawMark number seen told stopped seen' =
    Looked log_of number (λ scene out. out ≡ scene.shared.stopped) seen told stopped seen'

-- a look found the stop mark exactly where the stage was over, whatever came after the look
abbrev pub FoundMark : ℕ → Log → Option SceneState → Bool → Type 0
FoundMark number seen told over = (seen' : Log) × SawMark number seen told over seen'
