-- What the answers of the database process say.
use Rattle.std.specs.Prelude.{◌≡◌, ⊤, ◌⊎◌, ℕ, ◌+◌, ◌^◌, ◌<◌, ◌≤◌, Bool, true, false, List, [], ◌∷◌, ◌++◌, Option, None, Some, MatchOption, Result, Ok, Err}
use Rattle.seat_lock.specs.Log.{Found}
use Rattle.pf_io.specs.declared.answers.NoMemory.{NoMemory}
use Rattle.std.specs.List.{list_all}
use Rattle.pf_model.specs.Fits.{fits}
use Rattle.pf_model.specs.declared.lines.BaseLine.{BaseLine}
use Rattle.pf_model.specs.declared.lines.BaseStep.{BaseStep}
use Rattle.pf_model.specs.declared.lines.BaseStep.TheVariants as base
use Rattle.pf_model.specs.Merges.{BufferState}
use Rattle.pf_history.specs.declared.commands.Caller.TheVariants.{Dbase}
use Rattle.pf_history.specs.declared.commands.Command.TheVariants as command
use Rattle.pf_history.specs.declared.commands.Entry.{Entry}
use Rattle.pf_history.specs.declared.commands.Merge.{Merge}
use Rattle.pf_history.specs.Logs.{Log, state_of}
use Rattle.pf_history.specs.declared.commands.Reply.{Reply}
use Rattle.pf_scene.specs.declared.outcomes.Outcome.{Outcome}
use Rattle.pf_scene.specs.declared.outcomes.Outcome.TheVariants as outcome
use Rattle.pf_scene.specs.Scenes.{SceneState, weight_of, weight_in}
use Rattle.pf_scene.specs.Acts.{MayMerge, Enters}
use Rattle.stage_parts.specs.declared.answers.Did.{Did}
use Rattle.stage_parts.specs.declared.answers.Did.TheVariants as did
use Rattle.stage_parts.specs.declared.answers.StageError.{StageError}
use Rattle.stage_parts.specs.declared.answers.StageError.TheVariants as error
use Rattle.frame_stages.specs.declared.in_hand.InHand.{InHand}
use Rattle.frame_stages.specs.declared.in_hand.InHand.TheVariants as hand
use Rattle.frame_stages.specs.Looks.{log_of}
use Rattle.frame_stages.specs.DbaseWorks.{DbaseWork, HoldsBuffer}
use Rattle.frame_stages.specs.DbaseLines.{need_after, buffer_step}

-- What a desk knows: the log that it has seen, and the scene, where it tells it.
pub record Known : Type 0 where
  pub seen : Log
  pub told : Option SceneState

-- no entry of the desk's number was added, and the scene is as it was
pub record AddsNone (number : ℕ) (before after : Known) : Type 0 where
  pub found : Found number before.seen after.seen
  pub told : after.told ≡ before.told

-- The merge was entered in a scene that was found, and is the last entry that is seen then.
pub record EntersMerge (number : ℕ) (m : Merge) (before after : Known) : Type 0 where
  pub scene : SceneState
  pub left : SceneState
  pub found : Found number before.seen (log_of scene)
  pub may : MayMerge scene.shared m
  pub enters : Enters (command.Merge m) number scene left
  pub seen : after.seen ≡ log_of left
  pub told : MatchOption before.told (after.told ≡ None) (λ value. (value ≡ scene) × (after.told ≡ Some left))

-- The log found goes on from the log seen with no further entry of the number k, and behind it stands one merge of the
-- database process under that number, or none.
pub record DbaseAdds (k : ℕ) (seen seen' : Log) : Type 0 where
  pub found : Log
  pub goes_on : Found k seen found
  pub adds : (seen' ≡ found)
      ⊎ ((e : Entry) × (m : Merge) × (e.caller ≡ Dbase) × (e.command ≡ command.Merge m) × (seen' ≡ found ++ (k, e) ∷ []))

-- where the desk tells the scene, only its seat in charge may have changed
abbrev pub Reseats : (before after : Option SceneState) → Type 0
Reseats before after =
    MatchOption before (after ≡ None) (λ old. (new : SceneState) × (after ≡ Some new)
    × (new.shared ≡ record old.shared { seat = new.shared.seat }))

-- where the desk tells the scene, the stop mark is set, and else only its seat in charge may have changed
abbrev pub SetsMark : (before after : Option SceneState) → Type 0
SetsMark before after =
    MatchOption before (after ≡ None) (λ old. (new : SceneState) × (after ≡ Some new)
    × (new.shared ≡ record old.shared { seat = new.shared.seat; stopped = true }))

-- What a turn that tries a merge came to: it was entered; the scene can't bear its weight, and it comes back; or there
-- was no memory.
abbrev pub Entered : ℕ → Merge → Outcome Reply Merge → (before after : Known) → Type 0
Entered number m (outcome.Entered r) before after = EntersMerge number m before after
Entered number m (outcome.NotNow back) before after =
    AddsNone number before after × (back ≡ m)
    × (list_all fits m.edits ≡ true → 2 ^ 31 ≤ weight_in after.seen + weight_of (command.Merge m))
Entered number m (outcome.NoMemory back) before after =
    Found number before.seen after.seen × Reseats before.told after.told

-- One line was passed: it is the first of those that were left, and what is in hand is of the buffer after it.
pub record Passes (l : BaseLine) (before after : DbaseWork) : Type 0 where
  pub line : before.rest ≡ l ∷ after.rest
  pub at : after.at ≡ before.at + 1
  pub need : after.need ≡ need_after before.need l.step
  pub running : before.failed ≡ false
  pub runs : after.failed ≡ false
  pub hand : (b : BufferState) → HoldsBuffer before.hand b → HoldsBuffer after.hand (buffer_step b l.step)

-- What passing a line does at the desk: a Merge enters the merge in hand, an Await is passed where the log seen has so
-- many Frames, and no other line makes an entry.
abbrev pub DoesAt : ℕ → BaseStep → InHand → (before after : Known) → Type 0
DoesAt number base.Merge held before after =
    (m : Merge) × (held ≡ hand.Merge m) × EntersMerge number m before after
DoesAt number (base.Await n) held before after =
    AddsNone number before after × ((channels : ℕ) → n ≤ (state_of channels after.seen).frames)
DoesAt number _ held before after = AddsNone number before after

-- Why the database process has to wait before a step: the log seen has fewer Frames than an Await asks for, or the scene
-- that was found can't bear the weight of the merge in hand.
abbrev pub HasToWaitBefore : BaseStep → InHand → Log → Type 0
HasToWaitBefore (base.Await n) held seen = (channels : ℕ) → (state_of channels seen).frames < n
HasToWaitBefore base.Merge (hand.Merge m) seen = 2 ^ 31 ≤ weight_in seen + weight_of (command.Merge m)
HasToWaitBefore _ _ _ = ⊥

abbrev pub HasToWait : List BaseLine → InHand → Log → Type 0
HasToWait [] held seen = ⊥
HasToWait (l ∷ ls) held seen = HasToWaitBefore l.step held seen

-- a step that may want memory
abbrev pub MayWantBefore : BaseStep → Type 0
MayWantBefore (base.Await n) = ⊥
MayWantBefore _ = ⊤

-- the next line may want memory
abbrev pub MayWant : List BaseLine → Type 0
MayWant [] = ⊥
MayWant (l ∷ ls) = MayWantBefore l.step

-- It passed no line, and is over for want of memory.
pub record GivesUp (before after : DbaseWork) : Type 0 where
  pub wanted : MayWant before.rest
  pub at : after.at ≡ before.at
  pub need : after.need ≡ before.need
  pub failed : after.failed ≡ true
  pub rest : after.rest ≡ []

-- it passed one line, and did what this asks for
abbrev pub PassesLine : ℕ → (before after : DbaseWork) → (known knows : Known) → Type 0
PassesLine number before after known knows =
    (l : BaseLine) × Passes l before after × DoesAt number l.step before.hand known knows

-- it changed nothing, and has to wait
abbrev pub Stays : ℕ → (before after : DbaseWork) → (known knows : Known) → Type 0
Stays number before after known knows =
    (after ≡ before) × AddsNone number known knows × HasToWait before.rest before.hand knows.seen

-- what a try to pass a line came to: whether it was passed, or want of memory
abbrev pub Tries : ℕ → Result Bool NoMemory → (before after : DbaseWork) → (known knows : Known) → Type 0
Tries number (Ok true) before after known knows = PassesLine number before after known knows
Tries number (Ok false) before after known knows = Stays number before after known knows
Tries number (Err e) before after known knows =
    GivesUp before after × Found number known.seen knows.seen × Reseats known.told knows.told

-- What an answer of the database process says: it passed one line; it changed nothing, and has to wait; it is over, and
-- changed nothing; it wanted memory, added no entry and set the stop mark. A fault of the frame sink is not its own.
abbrev pub IsDbaseAnswer : ℕ → Result Did StageError → (before after : DbaseWork) → (known knows : Known) → Type 0
IsDbaseAnswer number (Ok did.Did) before after known knows = PassesLine number before after known knows
IsDbaseAnswer number (Ok did.NotYet) before after known knows = Stays number before after known knows
IsDbaseAnswer number (Ok did.Over) before after known knows = (after ≡ before) × AddsNone number known knows
IsDbaseAnswer number (Err error.NoMemory) before after known knows =
    GivesUp before after × Found number known.seen knows.seen × SetsMark known.told knows.told
IsDbaseAnswer number (Err error.FrameFault) before after known knows = ⊥
