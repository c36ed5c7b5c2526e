-- The copies of the scene's triangles, and the update lists that go home.
use Rattle.std.specs.Prelude.{◌≡◌, ⊤, ℕ, ◌+◌, ◌≤◌, List, drop, Option, None, IfSome, MatchOption}
use Rattle.pf_model.specs.Copies.{UpdateList}
use Rattle.pf_history.specs.declared.commands.Caller.TheVariants.{App}
use Rattle.pf_history.specs.Logs.{Log}
use Rattle.pf_history.specs.Fits.{turns_at}
use Rattle.pf_scene.specs.Scenes.{SceneState, KeepsCopies, AreOfRetired}
use Rattle.stage_parts.specs.declared.packets.Packet.{Packet}
use Rattle.stage_parts.specs.Packets.{loads_in, updates_in}
use Rattle.stage_parts.specs.Frames.{last_sync}
use Rattle.stage_parts.specs.States.{Setup}
use Rattle.frame_stages.specs.AppWorks.{AppWork}

-- where the scene is told, its copies that are out are accounted for, and no cycle has had more than frames may be ahead
-- and one more
abbrev pub HoldsCopies : Option SceneState → Type 0
HoldsCopies told = MatchOption told ⊤ KeepsCopies

-- where the scene is told, these update lists are what came back of the frames that a Sync retires
abbrev pub AreHomeward : ℕ → Option SceneState → List UpdateList → Type 0
AreHomeward retired told lists = IfSome told (λ scene. AreOfRetired retired scene.shared lists)

-- where no fault cut a picture short, the lists that go home are what came back of the frames behind the retired ones, up
-- to the last picture written
abbrev pub IsHomeRight : AppWork → Option SceneState → Type 0
IsHomeRight w told = w.state.fault ≡ None → AreHomeward w.state.written told w.home

-- The lists that go home with the next Sync are those of the packets that came back since the last one, and behind the
-- frames that this one retired no more were begun than may be in flight.
pub record HasHome (g : Setup) (k : ℕ) (w : AppWork) (seen : Log) (taken : List Packet) : Type 0 where
  pub lists : w.home ≡ updates_in (loads_in (drop (last_sync (turns_at g.channels k App seen)) taken))
  pub few : w.state.frames ≤ last_sync (turns_at g.channels k App seen) + g.ahead
