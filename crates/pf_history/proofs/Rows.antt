-- Plays worked by hand: what the one-thread object replies to a list of commands, what its Frames cut, and how their
-- histories fit.
use Rattle.std.proofs.Common.{◌≡◌, ℕ, List, [], ◌∷◌, map, refl, arith}
use Rattle.pf_model.specs.declared.edits.Edit.TheVariants as edit
use Rattle.pf_model.specs.declared.edits.Fault.TheVariants as fault
use Rattle.pf_model.specs.declared.nodes.Kind.TheVariants.{Group, Geode}
use Rattle.pf_model.specs.declared.lines.AppStep.{AppStep}
use Rattle.pf_model.specs.declared.lines.AppStep.TheVariants as app
use Rattle.pf_model.specs.declared.lines.AppLine.{AppLine}
use Rattle.pf_model.specs.declared.lines.BaseStep.{BaseStep}
use Rattle.pf_model.specs.declared.lines.BaseStep.TheVariants as base
use Rattle.pf_model.specs.declared.lines.BaseLine.{BaseLine}
use Rattle.pf_model.specs.Graphs.{height_in, size_in, below_in, levels}
use Rattle.pf_history.specs.declared.commands.Command.{Command}
use Rattle.pf_history.specs.declared.commands.Command.TheVariants as command
use Rattle.pf_history.specs.declared.commands.Reply.{Reply}
use Rattle.pf_history.specs.declared.commands.Reply.TheVariants as reply
use Rattle.pf_history.specs.Objects.{FrameState, opening_state, next_state}
use Rattle.pf_history.specs.Logs.{Log, entry_of}
use Rattle.pf_history.specs.Asks.{asked_dbase}
use Rattle.pf_history.specs.Fits.{FollowsPlay}
use Rattle.pf_history.specs.Cuts.{cuts_of}

-- the object's own entries for commands that are made one after the other
abbrev log_from : FrameState → List Command → Log
log_from s [] = []
log_from s (c ∷ cs) = (0, entry_of s c) ∷ log_from (next_state s c) cs

abbrev log_of : List Command → Log
log_of cs = log_from (opening_state 1) cs

abbrev replies : List Command → List Reply
replies cs = map (λ e. e.1.reply) (log_of cs)

-- the ids that each Frame's update list holds
abbrev cut_ids : List Command → List (List ℕ)
cut_ids cs = map (λ us. map (λ u. u.0) us) (cuts_of 1 (log_of cs))

abbrev app_line : AppStep → AppLine
app_line step = record { line = 1; step = step }

abbrev base_line : BaseStep → BaseLine
base_line step = record { line = 1; step = step }

abbrev app_lines : List AppStep → List AppLine
app_lines steps = map app_line steps

abbrev base_lines : List BaseStep → List BaseLine
base_lines steps = map base_line steps

-- A merge between two frames

abbrev merge_between : List Command
merge_between =
    command.Edit (edit.Make 1 Group) ∷ command.Edit (edit.Add 0 1) ∷ command.Sync 0 ∷ command.Frame
    ∷ command.Merge (record { edits = edit.Make 10 (Geode 0 []) ∷ edit.Add 1 10 ∷ []; dropped = 0 })
    ∷ command.Sync 1 ∷ command.Frame ∷ command.Sync 2 ∷ []

merge_between_replies :
    replies merge_between
    ≡ reply.Done ∷ reply.Done ∷ reply.Freed [] ∷ reply.Began 1 ∷ reply.Done ∷ reply.Freed [] ∷ reply.Began 2 ∷ reply.Freed [] ∷ []
unfolding height_in size_in below_in levels
merge_between_replies = refl

merge_between_cuts : cut_ids merge_between ≡ (0 ∷ 1 ∷ []) ∷ (1 ∷ 10 ∷ []) ∷ []
unfolding height_in size_in below_in levels
merge_between_cuts = refl

-- the play waits for the merge, and the merge for the first frame
merge_between_fits :
    FollowsPlay 1 1
    (app_lines (app.Edit (edit.Make 1 Group) ∷ app.Edit (edit.Add 0 1) ∷ app.Frame ∷ app.Wait 1 ∷ app.Frame ∷ []))
    (base_lines (base.Await 1 ∷ base.Buffer ∷ base.Edit (edit.Make 10 (Geode 0 [])) ∷ base.Ask (edit.Add 1 10) ∷ base.Merge ∷ []))
    (log_of merge_between) [] []
unfolding height_in size_in below_in levels
merge_between_fits =
    record {
      follows_app = (refl, omega arith, (refl, omega arith, (omega arith, omega arith, (omega arith, omega arith, (omega arith, omega arith, (omega arith, omega arith, ((refl, omega arith), omega arith, refl)))))));
      follows_dbase = (refl, omega arith, refl);
    }

-- A refused merge: the buffer drops the edit that its own graph refuses, and the last of the others has no parent

refused_merge_asked :
    map (λ a. a.merge) (asked_dbase (base_lines (base.Await 1 ∷ base.Buffer ∷ base.Edit (edit.Make 10 (Geode 0 [])) ∷ base.Edit (edit.Add 9 9)
    ∷ base.Ask (edit.Add 0 10) ∷ base.Ask (edit.Add 77 10) ∷ base.Merge ∷ [])))
    ≡ record { edits = edit.Make 10 (Geode 0 []) ∷ edit.Add 0 10 ∷ edit.Add 77 10 ∷ []; dropped = 1 } ∷ []
unfolding height_in size_in below_in levels
refused_merge_asked = refl

abbrev refused_merge : List Command
refused_merge =
    command.Sync 0 ∷ command.Frame ∷ command.Merge (record { edits = edit.Make 10 (Geode 0 []) ∷ edit.Add 0 10 ∷ edit.Add 77 10 ∷ []; dropped = 1 })
    ∷ command.Sync 1 ∷ command.Frame ∷ command.Sync 2 ∷ []

refused_merge_replies : replies refused_merge ≡ reply.Freed [] ∷ reply.Began 1 ∷ reply.RefusedAt 3 (fault.Absent 77) ∷ reply.Freed [] ∷ reply.Began 2 ∷ reply.Freed [] ∷ []
unfolding height_in size_in below_in levels
refused_merge_replies = refl

refused_merge_cuts : cut_ids refused_merge ≡ [] ∷ [] ∷ []
unfolding height_in size_in below_in levels
refused_merge_cuts = refl

-- A node that is some node's child is not deleted; once it is, the Sync after the next Frame frees it

delete_in_use :
    replies
    (command.Edit (edit.Make 1 (Geode 0 [])) ∷ command.Edit (edit.Add 0 1) ∷ command.Sync 0 ∷ command.Frame ∷ command.Edit (edit.Delete 1)
    ∷ command.Edit (edit.Remove 0 1) ∷ command.Edit (edit.Delete 1) ∷ command.Sync 1 ∷ command.Frame ∷ command.Sync 2 ∷ [])
    ≡ reply.Done ∷ reply.Done ∷ reply.Freed [] ∷ reply.Began 1 ∷ reply.Refused (fault.InUse 1)
    ∷ reply.Done ∷ reply.Done ∷ reply.Freed (1 ∷ []) ∷ reply.Began 2 ∷ reply.Freed [] ∷ []
unfolding height_in size_in below_in levels
delete_in_use = refl

-- with two frames in flight the first Sync after it may retire no frame, and then the last one frees it
delete_in_use_late :
    replies
    (command.Edit (edit.Make 1 (Geode 0 [])) ∷ command.Edit (edit.Add 0 1) ∷ command.Sync 0 ∷ command.Frame
    ∷ command.Edit (edit.Remove 0 1) ∷ command.Edit (edit.Delete 1) ∷ command.Sync 0 ∷ command.Frame ∷ command.Sync 2 ∷ [])
    ≡ reply.Done ∷ reply.Done ∷ reply.Freed [] ∷ reply.Began 1 ∷ reply.Done ∷ reply.Done ∷ reply.Freed [] ∷ reply.Began 2 ∷ reply.Freed (1 ∷ []) ∷ []
unfolding height_in size_in below_in levels
delete_in_use_late = refl

-- An id used again: the new node has a serial of its own, and is not freed

abbrev id_used_again : List Command
id_used_again =
    command.Edit (edit.Make 5 (Geode 0 [])) ∷ command.Edit (edit.Add 0 5) ∷ command.Sync 0 ∷ command.Frame ∷ command.Edit (edit.Remove 0 5)
    ∷ command.Edit (edit.Delete 5) ∷ command.Edit (edit.Make 5 Group) ∷ command.Edit (edit.Add 0 5) ∷ command.Sync 1 ∷ command.Frame ∷ command.Sync 2 ∷ []

id_used_again_replies :
    replies id_used_again
    ≡ reply.Done ∷ reply.Done ∷ reply.Freed [] ∷ reply.Began 1 ∷ reply.Done ∷ reply.Done ∷ reply.Done ∷ reply.Done ∷ reply.Freed (1 ∷ []) ∷ reply.Began 2 ∷ reply.Freed [] ∷ []
unfolding height_in size_in below_in levels
id_used_again_replies = refl

id_used_again_cuts : cut_ids id_used_again ≡ (0 ∷ 5 ∷ []) ∷ (0 ∷ 5 ∷ []) ∷ []
unfolding height_in size_in below_in levels
id_used_again_cuts = refl

-- A merge without a wait may stand before the first Frame as well as after it

abbrev early_merge : List Command
early_merge = command.Merge (record { edits = edit.Make 1 Group ∷ edit.Add 0 1 ∷ []; dropped = 0 }) ∷ command.Sync 0 ∷ command.Frame ∷ command.Sync 1 ∷ []

abbrev late_merge : List Command
late_merge = command.Sync 0 ∷ command.Frame ∷ command.Merge (record { edits = edit.Make 1 Group ∷ edit.Add 0 1 ∷ []; dropped = 0 }) ∷ command.Sync 1 ∷ []

abbrev FitsWithoutWait : List Command → Type 0
FitsWithoutWait cs =
    FollowsPlay 1 1 (app_lines (app.Frame ∷ [])) (base_lines (base.Buffer ∷ base.Edit (edit.Make 1 Group) ∷ base.Ask (edit.Add 0 1) ∷ base.Merge ∷ [])) (log_of cs) [] []

early_merge_fits : FitsWithoutWait early_merge
unfolding height_in size_in below_in levels
early_merge_fits = record {
  follows_app = (omega arith, omega arith, (omega arith, omega arith, ((refl, omega arith), omega arith, refl)));
  follows_dbase = (refl, omega arith, refl);
}

late_merge_fits : FitsWithoutWait late_merge
unfolding height_in size_in below_in levels
late_merge_fits = record {
  follows_app = (omega arith, omega arith, (omega arith, omega arith, ((refl, omega arith), omega arith, refl)));
  follows_dbase = (refl, omega arith, refl);
}
