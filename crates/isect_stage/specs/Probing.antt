-- The stage at its links: what it keeps, and what its answers say.
use Rattle.std.specs.Prelude.{◌≡◌, Bool, true, false, List, [], ◌∷◌, ◌++◌, map, slice_index_or, Option, Some, None, Result, Ok, Err}
use Rattle.pf_io.specs.declared.answers.NoMemory.{NoMemory}
use Rattle.pf_model.specs.Angles.{home_view}
use Rattle.pf_model.specs.Copies.{updated_by}
use Rattle.update_lists.specs.declared.cuts.Cut.{Cut}
use Rattle.stage_parts.specs.declared.packets.Packet.{Packet}
use Rattle.stage_parts.specs.declared.packets.Packet.TheVariants.{Frame, End}
use Rattle.stage_parts.specs.declared.answers.Did.{Did}
use Rattle.stage_parts.specs.declared.answers.Did.TheVariants as did
use Rattle.stage_parts.specs.declared.answers.StageError.{StageError}
use Rattle.stage_parts.specs.declared.answers.StageError.TheVariants as error
use Rattle.stage_parts.specs.Answers.{Placed, MovesOne}
use Rattle.stage_parts.specs.Loads.{LoadState}
use Rattle.stage_parts.specs.Packets.{has_end, loads_in}
use Rattle.stage_parts.specs.Parts.{sent_and_held}
use Rattle.isect_stage.specs.Asking.{IsectWork, hit_in, Question, MayWant, IsectKeeps}

-- The stage that is asked, whether the End was passed on, whether memory ran out, and the packet that is held to be sent.
pub record ProbeWork : Type 0 where
  pub isect : IsectWork
  pub ended : Bool
  pub failed : Bool
  pub held : Option Packet

-- what a cut asks: the number of its frame, the view of the first channel, and its update list
abbrev pub question_in : Cut → Question
question_in cut = record { frame = cut.frame; view = slice_index_or cut.views 0 home_view; updates = cut.updates }

-- the questions of loads, in order
abbrev pub questions_of : List LoadState → List Question
questions_of loads = map (λ l. question_in l.cut) loads

-- All that it keeps: it passes on what it took, unchanged; until memory runs out it was asked for each load that it took;
-- and it has ended where it sent the End.
pub record ProbeKeeps (w : ProbeWork) (taken sent : List Packet) : Type 0 where
  pub passes : sent_and_held sent w.held ≡ taken
  pub asked : w.failed ≡ false → IsectKeeps w.isect (questions_of (loads_in taken))
  pub ended : w.ended ≡ has_end sent

-- The stage was asked a question: its copy takes the update list, and it adds the nearest hit in the copy.
pub record IsAsked (before after : IsectWork) (q : Question) : Type 0 where
  pub segment : after.segment ≡ before.segment
  pub copy : after.copy.nodes ≡ updated_by before.copy.nodes q.updates
  pub adds : after.answers ≡ before.answers ++ hit_in after.copy q.frame q.view after.segment ∷ []

-- by the packets that came: it is asked for a load, once, and else for nothing
abbrev pub AsksFor : (before after : IsectWork) → List Packet → Type 0
AsksFor before after [] = after ≡ before
AsksFor before after (End ∷ came) = after ≡ before
AsksFor before after (Frame load ∷ came) = IsAsked before after (question_in load.cut)

-- Memory ran out at a load that it took, where it may be wanted. It holds the load, and nothing was asked.
pub record RunsOut (before after : ProbeWork) (taken taken' : List Packet) : Type 0 where
  pub load : LoadState
  pub wanted : MayWant before.isect load.cut.updates
  pub bare : before.held ≡ None
  pub took : taken' ≡ taken ++ Frame load ∷ []
  pub holds : after ≡ record before { failed = true; held = Some (Frame load) }

-- what a step came to: a packet was received or sent, or it has to wait; or memory ran out
abbrev pub Steps : Result Bool NoMemory → (before after : Placed ProbeWork) → (wait : Type 0) → Type 0
Steps (Ok moved) before after wait = MovesOne moved before after wait
Steps (Err e) before after wait = RunsOut before.state after.state before.taken after.taken × (after.sent ≡ before.sent)

-- What the answer of a poll says: it received or sent one packet; it changed nothing, and has to wait; it is over, and
-- changed nothing; memory ran out. A fault of the frame sink is not its own.
abbrev pub IsProbeAnswer : Result Did StageError → (before after : Placed ProbeWork) → (wait : Type 0) → Type 0
IsProbeAnswer (Ok did.Did) before after wait = MovesOne true before after wait
IsProbeAnswer (Ok did.NotYet) before after wait = MovesOne false before after wait
IsProbeAnswer (Ok did.Over) before after wait = after ≡ before
IsProbeAnswer (Err error.NoMemory) before after wait =
    RunsOut before.state after.state before.taken after.taken × (after.sent ≡ before.sent)
IsProbeAnswer (Err error.FrameFault) before after wait = ⊥
