-- Whether a history is legal does not depend on the views that it begins with.
use Rattle.std.proofs.Common.{◌≡◌, List, [], ◌∷◌, map, replicate, slice_set, refl, ◌∙◌}
use Rattle.pf_model.specs.Angles.{Viewpoint, home_view}
use Rattle.pf_history.specs.declared.commands.Command.{Command}
use Rattle.pf_history.specs.declared.commands.Command.TheVariants as command
use Rattle.pf_history.specs.declared.commands.Entry.{Entry}
use Rattle.pf_history.specs.Objects.{FrameState, opening_state, reply_of, next_state}
use Rattle.pf_history.specs.Logs.{Log, CanMake, IsLegalEntry, IsLegalFrom}
use Rattle.pf_history.specs.Laws.{ChannelsLaw}

-- the state with other views
abbrev pub with_views : FrameState → List Viewpoint → FrameState
with_views s views = record s { views = views }

same_reply : (s : FrameState) (views : List Viewpoint) (c : Command) → reply_of s c ≡ reply_of (with_views s views) c
same_reply s views (command.Edit e) = refl
same_reply s views (command.Merge m) = refl
same_reply s views (command.View channel v) = refl
same_reply s views (command.Sync r) = refl
same_reply s views command.Frame = refl

can_too : (s : FrameState) (views : List Viewpoint) (c : Command) → CanMake s c → CanMake (with_views s views) c
can_too s views (command.Edit e) can = tt
can_too s views (command.Merge m) can = tt
can_too s views (command.View channel v) can = tt
can_too s views (command.Sync r) can = can
can_too s views command.Frame can = tt

legal_entry : (s : FrameState) (views : List Viewpoint) (e : Entry) → IsLegalEntry s e → IsLegalEntry (with_views s views) e
legal_entry s views e legal =
    record {
      reply = legal.reply ∙ same_reply s views e.command;
      sync = can_too s views e.command legal.sync;
      caller = legal.caller;
    }

-- what holds with all views of the state after a command holds of the state after it with other views
legal_after : (s : FrameState) (views : List Viewpoint) (c : Command) (log : Log)
    → ((others : List Viewpoint) → IsLegalFrom (with_views (next_state s c) others) log)
    → IsLegalFrom (next_state (with_views s views) c) log
legal_after s views (command.Edit e) log legal = legal views
legal_after s views (command.Merge m) log legal = legal views
legal_after s views (command.View channel v) log legal = legal (slice_set views channel v)
legal_after s views (command.Sync r) log legal = legal views
legal_after s views command.Frame log legal = legal views

pub legal_with : (log : Log) (s : FrameState) (views : List Viewpoint) → IsLegalFrom s log → IsLegalFrom (with_views s views) log
legal_with [] s views legal = tt
legal_with (e ∷ log) s views legal = (
  legal_entry s views e.1 legal.0,
  legal_after s views e.1.command log
      (λ (others : List Viewpoint). legal_with log (next_state s e.1.command) others legal.1),
)

pub channels_law : ChannelsLaw
channels_law channels others log legal = legal_with log (opening_state channels) (replicate others home_view) legal
