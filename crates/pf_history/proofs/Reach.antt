-- The graph of every state that a log of fitting edits reaches is within the limits.
use Rattle.std.proofs.Common.{◌≡◌, ℕ, ◌+◌, true, ◌∷◌, [], subst, arith}
use Rattle.std.specs.List.{AllByRecursion}
use Rattle.pf_model.specs.Graphs.{SceneGraph}
use Rattle.pf_model.specs.Edits.{after}
use Rattle.pf_model.specs.Merges.{after_all}
use Rattle.pf_model.specs.Limits.{IsGraphWithinLimits}
use Rattle.pf_model.proofs.EditLimits.{limits_after}
use Rattle.pf_model.proofs.Histories.{limits_empty, limits_next, limits_merge}
use Rattle.pf_history.specs.declared.commands.Command.{Command}
use Rattle.pf_history.specs.declared.commands.Command.TheVariants as command
use Rattle.pf_history.specs.Objects.{FrameState, opening_state, next_state, emptied, preparing}
use Rattle.pf_history.specs.Logs.{Log, state_after}
use Rattle.pf_history.specs.Commands.{command_fits}
use Rattle.pf_history.specs.Laws.{LimitsLaw}
use Rattle.pf_history.proofs.Folds.{IsPreparing, preparing_next}

-- no limit speaks of the deleted nodes
limits_emptied : (g : SceneGraph) → IsGraphWithinLimits g → IsGraphWithinLimits (emptied g)
limits_emptied g w =
    record {
      within = w.within;
      rising = w.rising;
      scene = w.scene;
      serials_differ = w.serials_differ;
      serials_given = w.serials_given;
      born_before = w.born_before;
    }

limits_step : (s : FrameState) (c : Command) → IsPreparing s → command_fits c ≡ true → IsGraphWithinLimits s.graph → IsGraphWithinLimits (next_state s c).graph
limits_step s (command.Edit e) p fit w = limits_emptied (after s.graph e) (limits_after s.graph e w fit)
limits_step s (command.Merge m) p fit w = limits_emptied (after_all s.graph m.edits) (limits_merge s.graph m.edits w fit)
limits_step s (command.View channel v) p fit w = w
limits_step s (command.Sync r) p fit w = w
limits_step s command.Frame p fit w =
    subst (λ (n : ℕ). IsGraphWithinLimits (preparing n s.graph)) (next s.graph.time s.frames p) (limits_next s.graph w)
  where
    next : (time frames : ℕ) → time ≡ frames + 1 → time + 1 ≡ frames + 2
    next time frames e = omega arith

limits_from : (s : FrameState) (log : Log) → IsPreparing s → AllByRecursion (λ e. command_fits e.1.command ≡ true) log → IsGraphWithinLimits s.graph → IsGraphWithinLimits (state_after s log).graph
limits_from s [] p fit w = w
limits_from s (e ∷ es) p fit w =
    limits_from (next_state s e.1.command) es (preparing_next s e.1.command p) fit.1 (limits_step s e.1.command p fit.0 w)

pub limits_law : LimitsLaw
limits_law channels log fit = limits_from (opening_state channels) log (omega arith) fit limits_empty
