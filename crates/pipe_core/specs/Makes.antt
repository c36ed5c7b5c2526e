-- Commands that come one by one: what a pipe is given of a play that grows, and what it has made of it.
use Rattle.std.specs.Prelude.{◌≡◌, ◌⊎◌, ℕ, true, false, List, [], ◌∷◌, ◌++◌, Option}
use Rattle.pf_model.specs.declared.lines.AppLine.{AppLine}
use Rattle.pf_model.specs.declared.lines.BaseLine.{BaseLine}
use Rattle.pf_history.specs.declared.commands.Command.{Command}
use Rattle.play_format.specs.Plays.{Script}
use Rattle.frame_stages.specs.AppWorks.{more_work}
use Rattle.pipe_plays.specs.Plays.{CanRun}
use Rattle.pipe_plays.specs.Orders.{commands_of, line_commands, merges_behind}
use Rattle.pipe_plays.specs.CaughtUp.{IsCaughtUp}
use Rattle.pipe_core.specs.declared.commands.PipeCommand.{PipeCommand}
use Rattle.pipe_core.specs.declared.commands.PipeCommand.TheVariants.{Line, Block}
use Rattle.pipe_core.specs.Pipes.{PipeWork, core_of, PipeKeeps, IsWritten}

-- the play with more lines of its application
abbrev pub with_app : Script → List AppLine → Script
with_app play more = record play { app = play.app ++ more }

-- the play with more lines of its database process
abbrev pub with_dbase : Script → List BaseLine → Script
with_dbase play more = record play { dbase = play.dbase ++ more }

-- the pipe that was given one line more
abbrev pub given_line : AppLine → PipeWork → PipeWork
given_line line p = record p { app = more_work (line ∷ []) p.app.merges p.app }

-- What stays of a pipe that is given a block: the scene, what its application did and holds, and the pictures that came
-- back.
pub record IsGivenBlock (p q : PipeWork) : Type 0 where
  pub scene : q.scene ≡ p.scene
  pub app : q.app.state ≡ p.app.state
  pub back : q.c ≡ p.c

-- A pipe that may be given a command: it keeps what a pipe of the play keeps, has not closed and has no stop mark, and has
-- made and shown all that was read of the play so far.
pub record IsReady (play : Script) (ahead : ℕ) (p : PipeWork) : Type 0 where
  pub keeps : PipeKeeps play ahead p
  pub going : p.app.state.closed ≡ false
  pub unset : p.scene.shared.stopped ≡ false
  pub caught_up : IsCaughtUp play ahead (core_of play p).pipe

-- A pipe of a play, after commands that made the play this longer one: it has made and shown them too, its history has them
-- behind all others, Syncs left out, and the frame sink was given what the stream grew by.
pub record HasMade (play grown : Script) (ahead : ℕ) (commands : List Command) (p q : PipeWork)
    (bytes bytes' : Option (List ℕ)) : Type 0 where
  pub ready : IsReady grown ahead q
  pub made : commands_of q.scene.shared.log ≡ commands_of p.scene.shared.log ++ commands
  pub wrote : IsWritten bytes bytes' (core_of play p) (core_of grown q)

-- A pipe that was given a command, and failed: it keeps what a pipe of the longer play keeps, the stop mark is set, and the
-- frame sink was given what the stream grew by.
pub record HasStopped (play grown : Script) (ahead : ℕ) (p q : PipeWork) (bytes bytes' : Option (List ℕ)) : Type 0 where
  pub keeps : PipeKeeps grown ahead q
  pub stopped : q.scene.shared.stopped ≡ true
  pub wrote : IsWritten bytes bytes' (core_of play p) (core_of grown q)

-- After a command that failed nothing changed, or the pipe was given it, and has stopped.
abbrev pub HasFailed : (play grown : Script) → ℕ → (p q : PipeWork) → (bytes bytes' : Option (List ℕ)) → Type 0
HasFailed play grown ahead p q bytes bytes' = ((q ≡ p) × (bytes' ≡ bytes)) ⊎ HasStopped play grown ahead p q bytes bytes'

-- Runs of commands

-- the play with one command more
abbrev pub with_command : Script → PipeCommand → Script
with_command play (Line l) = with_app play (l ∷ [])
with_command play (Block ls) = with_dbase play ls

abbrev pub with_commands : Script → List PipeCommand → Script
with_commands play [] = play
with_commands play (c ∷ cs) = with_commands (with_command play c) cs

-- what a command makes behind a play: the command of a line, or the merges of a block
abbrev pub command_makes : Script → PipeCommand → List Command
command_makes play (Line l) = line_commands (l ∷ [])
command_makes play (Block ls) = merges_behind play.dbase ls

abbrev pub commands_make : Script → List PipeCommand → List Command
commands_make play [] = []
commands_make play (c ∷ cs) = command_makes play c ++ commands_make (with_command play c) cs

-- each command was made behind those before it
abbrev pub EachMade : Script → ℕ → List PipeCommand → (p q : PipeWork) → (bytes bytes' : Option (List ℕ)) → Type 0
EachMade play ahead [] p q bytes bytes' = (q ≡ p) × (bytes' ≡ bytes)
EachMade play ahead (c ∷ cs) p q bytes bytes' =
    (r : PipeWork) × (mid : Option (List ℕ)) × HasMade play (with_command play c) ahead (command_makes play c) p r bytes mid
    × EachMade (with_command play c) ahead cs r q mid bytes'

-- Commands made one by one leave the history of all of them, in order, and all pictures; and a new pipe of a play without
-- lines may be given the first one.
pub record AreMadeInOrder (play : Script) (ahead : ℕ) : Type 0 where
  pub runs : (cs : List PipeCommand) (p q : PipeWork) (bytes bytes' : Option (List ℕ)) → IsReady play ahead p →
      EachMade play ahead cs p q bytes bytes' →
      HasMade play (with_commands play cs) ahead (commands_make play cs) p q bytes bytes'
  pub begins : (p : PipeWork) → CanRun play ahead → PipeKeeps play ahead p → p.scene.shared.stopped ≡ false →
      p.scene.shared.log ≡ [] → play.app ≡ [] → play.dbase ≡ [] → IsReady play ahead p

abbrev pub LiveRunsLaw : Type 0
LiveRunsLaw = (play : Script) (ahead : ℕ) → AreMadeInOrder play ahead
