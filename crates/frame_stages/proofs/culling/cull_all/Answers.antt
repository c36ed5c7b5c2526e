use Rattle.std.proofs.Common.{◌+◌, ◌<◌, length, get_or, sym, subst, arith}
use Rattle.std.proofs.lemmas.Option.{slice_get-get_or}
use Rattle.std.specs.Prelude.{slice_set}
use Rattle.draw_list.specs.declared.stats.Stats.{Stats}
use Rattle.frame_stages.specs.Culling.{AreCulledTo}
use Rattle.frame_stages.proofs.Culled.{culled_more, culled_all, walks_all}
use Rattle.frame_stages.proofs.culling.cull_all.Goals as goal

pub loop-channel-preserved : goal.loop-channel-preserved
loop-channel-preserved c =
    let a = c.args in
    let l = c.loop-channel in
    let seen = c.cull_channel-seen in
    let within : l.channel < length l.lists = omega (arith, l.invariant.many) in
    subst
    (λ (s : Stats).
    AreCulledTo a.copy.now a.time a.views.now a.lens.now (l.channel + 1) a.lists.now (slice_set l.lists l.channel seen.new.list) s)
    (sym c.added-stats.ensures)
    (culled_more a.copy.now a.time a.views.now a.lens.now l.channel a.lists.now l.lists
    (get_or l.lists l.channel c.index-lists-channel.result) seen.new.list l.stats seen.result
    (slice_get-get_or l.lists l.channel c.index-lists-channel.result within) l.invariant seen.ensures.walk seen.ensures.exact)

pub returns-clause-walks : goal.returns-clause-walks
returns-clause-walks c =
    let a = c.args in
    let l = c.loop-channel in
    walks_all a.copy.now a.time a.views.now a.lens.now l.channel a.lists.now l.lists l.stats (omega arith) l.invariant

pub returns-clause-exact : goal.returns-clause-exact
returns-clause-exact c =
    let a = c.args in
    let l = c.loop-channel in
    culled_all a.copy.now a.time a.views.now a.lens.now l.channel a.lists.now l.lists l.stats (omega arith) l.invariant
