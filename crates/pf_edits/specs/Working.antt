-- What a working graph tells, and what it keeps.
use Rattle.std.specs.Prelude.{◌≡◌, []}
use Rattle.pf_model.specs.Graphs.{SceneGraph}
use Rattle.pf_model.specs.Limits.{IsGraphWithinLimits}
use Rattle.pf_edits.specs.declared.work.Work.{Work}
use Rattle.pf_edits.specs.Extents.{IsSound}
use Rattle.pf_edits.specs.Listed.{nodes_of}

-- the graph that the records tell
abbrev pub told : Work → SceneGraph
told w = record { nodes = nodes_of w.records.slots; time = w.time; next_serial = w.next_serial; gone = w.gone.items }

-- Extents and parents are kept, the way is empty, and the graph is within the limits.
pub record IsWorking (w : Work) : Type 0 where
  pub sound : IsSound w.records.slots
  pub free : w.way ≡ []
  pub within : IsGraphWithinLimits (told w)
