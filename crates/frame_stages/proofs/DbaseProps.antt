-- Any two proofs of what the database process holds to are equal.
use Rattle.std.proofs.Common.{ℕ, List}
use Rattle.std.proofs.Props.{props}
use Rattle.pf_model.specs.declared.lines.BaseLine.{BaseLine}
use Rattle.pf_model.specs.Merges.{BufferState}
use Rattle.pf_history.specs.Logs.{Log}
use Rattle.stage_parts.proofs.Props.{pipe_props}
use Rattle.frame_stages.specs.declared.in_hand.InHand.{InHand}
use Rattle.frame_stages.specs.declared.in_hand.InHand.TheVariants as hand
use Rattle.frame_stages.specs.DbaseWorks.{DbaseWork, HoldsBuffer, buffer_at, DbaseHolds}

pub holds_buffer_prop : (h : InHand) (b : BufferState) → IsProp (HoldsBuffer h b)
holds_buffer_prop hand.Nothing b = hlevel props
holds_buffer_prop (hand.Buffer held) b = hlevel props
holds_buffer_prop (hand.Merge m) b = hlevel props

pub dbase_holds_prop : (lines : List BaseLine) (channels seat : ℕ) (w : DbaseWork) (log : Log) → IsProp (DbaseHolds lines channels seat w log)
dbase_holds_prop lines channels seat w log = hlevel (pipe_props, holds_buffer_prop w.hand (buffer_at lines w.at))
