-- Runs of commands on one thread: which commands may be given, and what a run of them leaves.
use Rattle.std.specs.Prelude.{◌≡◌, ℕ, ◌+◌, ◌≤◌, Bool, true, false, not, ◌&&◌, nat_le, nat_lt, if◌then◌else◌, List, [], ◌∷◌, take, length, slice_get, Option, Some, None, Result, Ok, Err}
use Rattle.std.specs.List.{list_all}
use Rattle.pf_io.specs.Causes.{Calm}
use Rattle.pf_model.specs.declared.lines.AppStep.{AppStep}
use Rattle.pf_model.specs.declared.lines.AppStep.TheVariants as app
use Rattle.pf_model.specs.declared.lines.BaseLine.{BaseLine}
use Rattle.pf_model.specs.declared.lines.BaseStep.{BaseStep}
use Rattle.pf_model.specs.declared.lines.BaseStep.TheVariants as base
use Rattle.play_format.specs.Plays.{Script, app_fits, base_fits, open_after}
use Rattle.play_check.specs.Stuck.{IsStuck}
use Rattle.frame_stages.specs.Scripts.{most_lines}
use Rattle.pipe_plays.specs.Plays.{most_steps, CanRun}
use Rattle.pipe_plays.specs.Played.{ErrorBlames}
use Rattle.pipe_core.specs.declared.commands.LiveCause.{LiveCause}
use Rattle.pipe_core.specs.declared.commands.LiveCause.TheVariants as cause
use Rattle.pipe_core.specs.declared.commands.PipeCommand.{PipeCommand}
use Rattle.pipe_core.specs.declared.commands.PipeCommand.TheVariants.{Line, Block}
use Rattle.pipe_core.specs.declared.commands.LiveError.{LiveError}
use Rattle.pipe_core.specs.declared.commands.Refusal.{Refusal}
use Rattle.pipe_core.specs.declared.commands.Refusal.TheVariants as why
use Rattle.stage_parts.specs.declared.answers.StageError.{StageError}
use Rattle.pipe_core.specs.Laws.{steps_in}
use Rattle.pipe_core.specs.Pipes.{PipeWork}
use Rattle.pipe_core.specs.Makes.{HasMade, HasFailed, with_command, with_commands, commands_make}

-- Which commands may be given

-- the application has not closed, and its section has room for a line
abbrev pub takes_line : PipeWork → Bool
takes_line p = not p.app.state.closed && nat_lt (p.app.state.at + length p.app.rest) most_lines

-- the application has not closed, and the database process's section has room for so many lines
abbrev pub takes_block : PipeWork → ℕ → Bool
takes_block p lines = not p.app.state.closed && nat_le (p.dbase.at + (length p.dbase.rest + lines)) most_lines

-- a block has at most as many lines as a play's sections
abbrev pub is_short : List BaseLine → Bool
is_short ls = nat_le (length ls) 262144

abbrev pub is_closed : Option Bool → Bool
is_closed (Some false) = true
is_closed _ = false

-- lines are whole buffers: each stands where it may, and no buffer is open behind them
abbrev pub are_whole : List BaseLine → Bool
are_whole ls = is_closed (open_after false ls)

-- why a pipe is given no such line, if it is not
abbrev pub line_refusal : PipeWork → AppStep → Option Refusal
line_refusal p step =
    if takes_line p then (if app_fits p.scene.shared.channels step then None else Some why.OutOfRange) else Some why.NoRoom

-- why a pipe is given no such block, if it is not
abbrev pub block_refusal : PipeWork → List BaseLine → Option Refusal
block_refusal p ls =
    if takes_block p (length ls) && is_short ls
    then (if list_all (λ l. base_fits l.step) ls then (if are_whole ls then None else Some why.NotWhole) else Some why.OutOfRange)
    else Some why.NoRoom

-- why a pipe is given no such command, if it is not
abbrev pub refusal : PipeWork → PipeCommand → Option Refusal
refusal p (Line l) = line_refusal p l.step
refusal p (Block ls) = block_refusal p ls

-- What a run of commands leaves

-- A command may be made behind a play: the play can be run, and with the command it has not too many steps, and is not
-- stuck.
pub record CanMake (play : Script) (ahead : ℕ) (c : PipeCommand) : Type 0 where
  pub can_run : CanRun play ahead
  pub within_limit : steps_in (with_command play c) ≤ most_steps
  pub not_stuck : IsStuck (with_command play c).app (with_command play c).dbase → ⊥

-- Commands may be made behind a play: the play can be run, with all of them it has not too many steps, and it is stuck
-- behind none of them.
pub record CanMakeAll (play : Script) (ahead : ℕ) (cs : List PipeCommand) : Type 0 where
  pub can_run : CanRun play ahead
  pub within_limit : steps_in (with_commands play cs) ≤ most_steps
  pub not_stuck : (n : ℕ) → IsStuck (with_commands play (take n cs)).app (with_commands play (take n cs)).dbase → ⊥

-- All commands were made, and the play of all of them can be run: each is in its ranges, and each block is whole buffers.
pub record HasMadeAll (play : Script) (ahead : ℕ) (cs : List PipeCommand) (p q : PipeWork)
    (bytes bytes' : Option (List ℕ)) : Type 0 where
  pub can_run : CanRun (with_commands play cs) ahead
  pub made : HasMade play (with_commands play cs) ahead (commands_make play cs) p q bytes bytes'

-- What a command leaves that was not made: after a failure of a stage what that leaves; else it was refused for this cause,
-- and nothing changed.
abbrev pub Leaves : Script → ℕ → PipeCommand → LiveCause → (p q : PipeWork) →
    (bytes bytes' : Option (List ℕ)) → Type 0
Leaves play ahead c (cause.Failed error) p q bytes bytes' = HasFailed play (with_command play c) ahead p q bytes bytes'
Leaves play ahead c (cause.Refused why) p q bytes bytes' = (refusal p c ≡ Some why) × (q ≡ p) × (bytes' ≡ bytes)

-- the answer of a command that was given
abbrev pub answer_of : {A : Type 0} → Result A StageError → Result A LiveCause
answer_of (Ok x) = Ok x
answer_of (Err error) = Err (cause.Failed error)

-- what comes of a command
abbrev pub Comes : {A : Type 0} → Script → ℕ → PipeCommand → Result A LiveCause → (p q : PipeWork) →
    (bytes bytes' : Option (List ℕ)) → Type 0
Comes play ahead c (Ok x) p q bytes bytes' = HasMadeAll play ahead (c ∷ []) p q bytes bytes'
Comes play ahead c (Err error) p q bytes bytes' = Leaves play ahead c error p q bytes bytes'

-- A run that ended at a command: all before it were made, and this is what that one leaves.
pub record EndsAt (play : Script) (ahead : ℕ) (cs : List PipeCommand) (error : LiveError) (p q : PipeWork)
    (bytes bytes' : Option (List ℕ)) : Type 0 where
  pub command : PipeCommand
  pub is_command : slice_get cs error.command ≡ Some command
  pub reached : PipeWork
  pub written : Option (List ℕ)
  pub made_before : HasMadeAll play ahead (take error.command cs) p reached bytes written
  pub leaves : Leaves (with_commands play (take error.command cs)) ahead command error.cause reached q written bytes'

-- what comes of a run of commands
abbrev pub RunComes : {A : Type 0} → Script → ℕ → List PipeCommand → Result A LiveError → (p q : PipeWork) →
    (bytes bytes' : Option (List ℕ)) → Type 0
RunComes play ahead cs (Ok x) p q bytes bytes' = HasMadeAll play ahead cs p q bytes bytes'
RunComes play ahead cs (Err error) p q bytes bytes' = EndsAt play ahead cs error p q bytes bytes'

-- what a cause says of the frame sink: a refusal leaves the count of faults as it was
abbrev pub CauseBlames : LiveCause → ℕ → ℕ → (at_fault bytes : Option (List ℕ)) → Type 0
CauseBlames (cause.Failed error) before now at_fault bytes = ErrorBlames error before now at_fault bytes
CauseBlames (cause.Refused why) before now at_fault bytes = Calm before now

-- what an answer says of the frame sink
abbrev pub CommandBlames : {A : Type 0} → Result A LiveCause → ℕ → ℕ → (at_fault bytes : Option (List ℕ)) → Type 0
CommandBlames (Ok x) before now at_fault bytes = Calm before now
CommandBlames (Err error) before now at_fault bytes = CauseBlames error before now at_fault bytes

abbrev pub RunBlames : {A : Type 0} → Result A LiveError → ℕ → ℕ → (at_fault bytes : Option (List ℕ)) → Type 0
RunBlames (Ok x) before now at_fault bytes = Calm before now
RunBlames (Err error) before now at_fault bytes = CauseBlames error.cause before now at_fault bytes

-- Commands without waits

abbrev pub is_no_wait : AppStep → Bool
is_no_wait (app.Wait n) = false
is_no_wait _ = true

abbrev pub is_no_await : BaseStep → Bool
is_no_await (base.Await n) = false
is_no_await _ = true

-- a command waits for nothing
abbrev pub goes_at_once : PipeCommand → Bool
goes_at_once (Line l) = is_no_wait l.step
goes_at_once (Block ls) = list_all (λ l. is_no_await l.step) ls

-- where neither the play nor the commands have a wait or an await, the play is stuck behind none of them
abbrev pub NoWaitLaw : Type 0
NoWaitLaw =
    (play : Script) (cs : List PipeCommand) → list_all (λ l. is_no_wait l.step) play.app ≡ true →
    list_all (λ l. is_no_await l.step) play.dbase ≡ true → list_all goes_at_once cs ≡ true →
    (n : ℕ) → IsStuck (with_commands play (take n cs)).app (with_commands play (take n cs)).dbase → ⊥
