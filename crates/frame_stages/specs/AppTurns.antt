-- What a turn of the application came to.
use Rattle.std.specs.Prelude.{◌≡◌, ℕ, true, List, [], ◌∷◌, ◌++◌, map, length, Option, None, Some, MatchOption}
use Rattle.seat_lock.specs.Log.{Found}
use Rattle.pf_model.specs.declared.edits.Edit.{Edit}
use Rattle.pf_model.specs.declared.lines.AppStep.TheVariants as app
use Rattle.pf_model.specs.Copies.{UpdateList}
use Rattle.pf_history.specs.declared.commands.Command.{Command}
use Rattle.pf_history.specs.declared.commands.Command.TheVariants as command
use Rattle.pf_history.specs.Logs.{Log}
use Rattle.pf_history.specs.Laws.{own_entry}
use Rattle.pf_scene.specs.Scenes.{Shared, SceneState, state_in, entered}
use Rattle.pf_scene.specs.Frames.{IsCutOf, AllHaveRoom, drawn}
use Rattle.pf_scene.specs.Acts.{seated, MayEdit, MayFrame}
use Rattle.stage_parts.specs.Loads.{LoadState}
use Rattle.frame_stages.specs.Scripts.{ScriptState, next_step, passed}
use Rattle.frame_stages.specs.declared.app_turns.Came.{Came}
use Rattle.frame_stages.specs.declared.app_turns.Came.TheVariants as came

-- where the scene is told, what was found was it, and what was left is told, of which this holds
abbrev pub Tells : (Shared → Shared → Type 0) → Option SceneState → Option SceneState → Type 0
Tells P told told' =
    MatchOption told (told' ≡ None) (λ scene. (left : SceneState) × (told' ≡ Some left) × P scene.shared left.shared)

-- A command was entered: in the scene that was found it might be made, and its entry under the desk's number stands at
-- the end of the log.
pub record Made (k : ℕ) (c : Command) (May : Shared → Type 0) (seen : Log) (told : Option SceneState) (seen' : Log)
    (told' : Option SceneState) : Type 0 where
  pub found : Shared
  pub goes_on : Found k seen found.log
  pub may : May found
  pub adds : seen' ≡ found.log ++ own_entry found.channels found.log k c ∷ []
  pub tells : Tells (λ old new. new ≡ entered c (seated k old)) told told'

-- the command might not be made in the scene that was found: in the one that is told, or else in one whose log is now seen
abbrev pub Bars : (Shared → Type 0) → Option SceneState → (seen' : Log) → Type 0
Bars May told seen' =
    MatchOption told ((found : Shared) × (found.log ≡ seen') × (May found → ⊥)) (λ scene. May scene.shared → ⊥)

-- A command was not entered, since it might not be made in the scene that was found. Nothing changed.
pub record Barred (k : ℕ) (May : Shared → Type 0) (seen : Log) (told : Option SceneState) (seen' : Log)
    (told' : Option SceneState) : Type 0 where
  pub goes_on : Found k seen seen'
  pub same : told' ≡ told
  pub bars : Bars May told seen'

-- A command was not entered for want of memory.
pub record Wanting (k : ℕ) (seen : Log) (told : Option SceneState) (seen' : Log) (told' : Option SceneState) : Type 0 where
  pub goes_on : Found k seen seen'
  pub tells : Tells (λ old new. new ≡ seated k old) told told'

-- what a turn by which a command was to be entered came to
abbrev pub Comes : ℕ → Command → (Shared → Type 0) → Log → Option SceneState → Came → Log → Option SceneState → Type 0
Comes k c May seen told came.Entered seen' told' = Made k c May seen told seen' told'
Comes k c May seen told came.NotNow seen' told' = Barred k May seen told seen' told'
Comes k c May seen told came.NoMemory seen' told' = Wanting k seen told seen' told'

-- of the lists that a Sync was to bring home, none is left where it was entered, and else all are
abbrev pub LeavesHome : Came → (lists lists' : List UpdateList) → Type 0
LeavesHome came.Entered lists lists' = lists' ≡ []
LeavesHome came.NotNow lists lists' = lists' ≡ lists
LeavesHome came.NoMemory lists lists' = lists' ≡ lists

-- what the turn of the next line's edit came to
abbrev pub ComesEdit : ℕ → ScriptState → Log → Option SceneState → Came → ScriptState → Log → Option SceneState → Type 0
ComesEdit k script seen told came.Entered script' seen' told' =
    (e : Edit) × (next_step script.rest ≡ Some (app.Edit e)) × (script' ≡ passed script)
    × Made k (command.Edit e) (λ s. MayEdit s e) seen told seen' told'
ComesEdit k script seen told came.NotNow script' seen' told' =
    (e : Edit) × (next_step script.rest ≡ Some (app.Edit e)) × (script' ≡ script)
    × Barred k (λ s. MayEdit s e) seen told seen' told'
ComesEdit k script seen told came.NoMemory script' seen' told' = (script' ≡ script) × Wanting k seen told seen' told'

-- The stop mark was set, and the log stays.
pub record IsMarked (old new : Shared) : Type 0 where
  pub stopped : new.stopped ≡ true
  pub log : new.log ≡ old.log
  pub ahead : new.ahead ≡ old.ahead
  pub channels : new.channels ≡ old.channels

pub record Marks (k : ℕ) (seen : Log) (told : Option SceneState) (seen' : Log) (told' : Option SceneState) : Type 0 where
  pub goes_on : Found k seen seen'
  pub tells : Tells IsMarked told told'

-- A frame was begun with a load: the load has the frame's cut and room for it in each of its draw lists.
pub record Begun (k ahead : ℕ) (load : LoadState) (seen : Log) (told : Option SceneState) (load' : LoadState) (seen' : Log)
    (told' : Option SceneState) : Type 0 where
  pub made : Made k command.Frame (λ s. MayFrame s ahead (length load.lists)) seen told seen' told'
  pub cut : IsCutOf load'.cut made.found
  pub room : AllHaveRoom (state_in made.found).graph load'.lists
  pub lists : map drawn load'.lists ≡ map drawn load.lists
  pub same : load' ≡ record load { cut = load'.cut; lists = load'.lists }

-- what the turn of a frame came to: where none was begun, the load is as before, but for room after want of memory
abbrev pub ComesFrame : (k ahead : ℕ) → LoadState → Log → Option SceneState → Came → LoadState → Log → Option SceneState → Type 0
ComesFrame k ahead load seen told came.Entered load' seen' told' = Begun k ahead load seen told load' seen' told'
ComesFrame k ahead load seen told came.NotNow load' seen' told' =
    (load' ≡ load) × Barred k (λ s. MayFrame s ahead (length load.lists)) seen told seen' told'
ComesFrame k ahead load seen told came.NoMemory load' seen' told' =
    (map drawn load'.lists ≡ map drawn load.lists) × (load' ≡ record load { lists = load'.lists }) × Wanting k seen told seen' told'
