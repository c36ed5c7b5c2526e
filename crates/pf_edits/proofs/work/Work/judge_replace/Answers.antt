use Rattle.std.proofs.Common.{sym, subst}
use Rattle.pf_model.specs.Limits.{IsGraphWithinLimits}
use Rattle.pf_edits.specs.Extents.{look_of}
use Rattle.pf_edits.proofs.Works.{low_of, way_up}
use Rattle.pf_edits.proofs.work.Work.judge_replace.Goals as goal

pub climb-requires-clause-low : goal.climb-requires-clause-low
climb-requires-clause-low c = low_of c.args.self.now c.requires.working

pub judge_replace_along-fault-requires-clause-above : goal.judge_replace_along-fault-requires-clause-above
judge_replace_along-fault-requires-clause-above c =
    way_up (look_of c.args.self.now.records.slots) c.args.self.now.way c.climb.new.way c.args.parent c.requires.working.free c.climb.ensures.leads c.climb.ensures.member c.climb.ensures.above

pub returns-clause-working : goal.returns-clause-working
returns-clause-working c = record {
  sound = c.judge_replace_along-fault.ensures.sound;
  free = c.clear.ensures;
  within = subst IsGraphWithinLimits (sym c.judge_replace_along-fault.ensures.told) c.requires.working.within;
}
