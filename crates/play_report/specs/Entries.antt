-- The line of an entry: who made the command, the command, and the reply.
use Rattle.std.specs.Prelude.{ℕ, List, [], ◌++◌, length, codes, decimal}
use Rattle.std.specs.List.{flat_map}
use Rattle.pf_model.specs.declared.edits.Fault.{Fault}
use Rattle.pf_model.specs.declared.edits.Fault.TheVariants as fault
use Rattle.pf_history.specs.declared.commands.Caller.{Caller}
use Rattle.pf_history.specs.declared.commands.Caller.TheVariants.{App, Dbase}
use Rattle.pf_history.specs.declared.commands.Command.{Command}
use Rattle.pf_history.specs.declared.commands.Command.TheVariants as command
use Rattle.pf_history.specs.declared.commands.Reply.{Reply}
use Rattle.pf_history.specs.declared.commands.Reply.TheVariants as reply
use Rattle.pf_history.specs.declared.commands.Entry.{Entry}
use Rattle.pf_history.specs.Logs.{Log}
use Rattle.play_format.specs.Spelling.{line_of, view_entry, edit_text}

abbrev pub caller_text : Caller → List ℕ
caller_text App = codes "app"
caller_text Dbase = codes "dbase"

-- the number of the frame that was begun, behind a space
abbrev pub began_text : Reply → List ℕ
began_text (reply.Began frame) = codes " " ++ decimal frame
began_text _ = []

-- An edit and a view are spelled as in a play. A merge tells how many edits it has and how many its buffer dropped, a Sync
-- how many frames it retires, and a Frame its number, which stands in the reply.
abbrev pub command_text : Command → Reply → List ℕ
command_text (command.Edit e) r = edit_text e
command_text (command.Merge m) r = codes "merge " ++ decimal (length m.edits) ++ codes " " ++ decimal m.dropped
command_text (command.View channel v) r = line_of (view_entry channel v)
command_text (command.Sync retired) r = codes "sync " ++ decimal retired
command_text command.Frame r = codes "frame" ++ began_text r

-- the name of a fault, and its numbers in order
abbrev pub fault_text : Fault → List ℕ
fault_text (fault.Absent id) = codes "Absent " ++ decimal id
fault_text (fault.Taken id) = codes "Taken " ++ decimal id
fault_text (fault.Kind id) = codes "Kind " ++ decimal id
fault_text (fault.Place place) = codes "Place " ++ decimal place
fault_text (fault.NotChild parent child) = codes "NotChild " ++ decimal parent ++ codes " " ++ decimal child
fault_text (fault.Cycle parent child) = codes "Cycle " ++ decimal parent ++ codes " " ++ decimal child
fault_text (fault.Many count) = codes "Many " ++ decimal count
fault_text (fault.Deep count) = codes "Deep " ++ decimal count
fault_text fault.Large = codes "Large"
fault_text (fault.InUse id) = codes "InUse " ++ decimal id

-- serials, each behind a space
abbrev pub serials_text : List ℕ → List ℕ
serials_text serials = flat_map (λ serial. codes " " ++ decimal serial) serials

-- A refused merge tells the place of the edit that was refused, and a Sync how many nodes it freed and their serials.
abbrev pub reply_text : Reply → List ℕ
reply_text reply.Done = codes "ok"
reply_text (reply.Refused f) = codes "fault " ++ fault_text f
reply_text (reply.RefusedAt place f) = codes "at " ++ decimal place ++ codes " fault " ++ fault_text f
reply_text (reply.Freed serials) = codes "freed " ++ decimal (length serials) ++ serials_text serials
reply_text (reply.Began frame) = codes "ok"

abbrev pub entry_text : Entry → List ℕ
entry_text e =
    caller_text e.caller ++ codes " " ++ command_text e.command e.reply ++ codes " : " ++ reply_text e.reply ++ codes "\n"

-- the lines of all entries
abbrev pub entry_texts : Log → List ℕ
entry_texts log = flat_map (λ e. entry_text e.1) log
