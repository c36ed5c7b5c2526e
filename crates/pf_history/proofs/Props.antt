-- Any two proofs of what a ghost field may cite are equal.
use Rattle.std.proofs.Common.{ℕ, List, [], ◌∷◌}
use Rattle.std.proofs.Props.{props}
use Rattle.pf_history.specs.declared.commands.Command.{Command}
use Rattle.pf_history.specs.declared.commands.Command.TheVariants as command
use Rattle.pf_history.specs.Objects.{FrameState}
use Rattle.pf_history.specs.Asks.{Wanted, WantEdit, WantView, WantSync, WantFrame, WantClose, Wanted_set, Ask, BaseAsk, Turn, Meets, Follows, FollowsBase}

pub meets_prop : (ahead merges : ℕ) (w : Wanted) (s : FrameState) (c : Command) → IsProp (Meets ahead merges w s c)
meets_prop ahead merges (WantEdit e) s c = hlevel props
meets_prop ahead merges (WantView channel v) s c = hlevel props
meets_prop ahead merges WantSync s (command.Sync r) = hlevel props
meets_prop ahead merges WantSync s _ = hlevel props
meets_prop ahead merges WantFrame s command.Frame = hlevel props
meets_prop ahead merges WantFrame s _ = hlevel props
meets_prop ahead merges WantClose s (command.Sync r) = hlevel props
meets_prop ahead merges WantClose s _ = hlevel props

pub follows_prop : (ahead merges : ℕ) (asks : List Ask) (ts : List Turn) (left : List Ask) → IsProp (Follows ahead merges asks ts left)
follows_prop ahead merges asks [] left = hlevel (props, Wanted_set)
follows_prop ahead merges [] (t ∷ ts) left = hlevel props
follows_prop ahead merges (a ∷ asks) (t ∷ ts) left = hlevel (props, meets_prop ahead merges a.wanted t.found t.made, follows_prop ahead merges asks ts left)

pub follows_base_prop : (asks : List BaseAsk) (ts : List Turn) (left : List BaseAsk) → IsProp (FollowsBase asks ts left)
follows_base_prop asks [] left = hlevel props
follows_base_prop [] (t ∷ ts) left = hlevel props
follows_base_prop (a ∷ asks) (t ∷ ts) left = hlevel (props, follows_base_prop asks ts left)
