-- A Sync is made, and its entry added.
use Rattle.std.proofs.Common.{◌≡◌, ◌+◌, ◌-◌, ◌≤◌, get_or, Some, ◌∙◌, ◌++◌, [], ◌∷◌, length, ap, sym, subst, refl, arith}
use Rattle.std.proofs.lemmas.List.{length-append}
use Rattle.pf_model.specs.Room.{SerialsSoFar}
use Rattle.pf_model.specs.Graphs.{SceneGraph, node_at}
use Rattle.pf_model.specs.Kinds.{geom_of}
use Rattle.pf_model.specs.Copies.{freed_by}
use Rattle.cycle_buffer.specs.Cycles.{written_at}
use Rattle.pf_history.specs.declared.commands.Entry.{Entry}
use Rattle.pf_history.specs.declared.commands.Command.TheVariants as command
use Rattle.pf_history.specs.declared.commands.Reply.TheVariants as reply
use Rattle.pf_history.specs.Objects.{FrameState}
use Rattle.pf_history.specs.Logs.{Log}
use Rattle.pf_scene.specs.Scenes.{SceneState, KeepsCopies, AreOfRetired, state_in, out_in}
use Rattle.pf_scene.specs.Counts.{outs, fitting_in_all}
use Rattle.pf_scene.proofs.Counted.{counted_same}
use Rattle.pf_scene.proofs.Bringing.{all_fit}
use Rattle.pf_scene.proofs.Returned.{returned}
use Rattle.pf_scene.proofs.Kept.{scene_entered, light_enough, entry_is, sync_state}
use Rattle.pf_scene.proofs.Trimmed.{long_by}
use Rattle.pf_scene.proofs.Homes.{home_entered}
use Rattle.pf_scene.proofs.Accounts.{kept_synced}
use Rattle.pf_scene.proofs.scene.Scene.sync.Goals as goal

pub invariant_of-self-2 : goal.invariant_of-self-2
invariant_of-self-2 c =
    let i = c.self.inside in
    let r = c.args.retired in
    let e = c.own_entry-entry.result in
    let s : FrameState = record { graph = i.world.graph; views = i.views.items; frames = i.frames; retired = i.retired; merges = i.merges; graves = i.world.graves } in
    let back = subst (λ (t : FrameState). t.retired ≤ r) c.self.invariant.scene.kept.after (subst (λ (v : SceneState). (state_in v.shared).retired ≤ r) (sym c.self.view_is) c.requires.back) in
    let begun = subst (λ (t : FrameState). r ≤ t.frames) c.self.invariant.scene.kept.after (subst (λ (v : SceneState). r ≤ (state_in v.shared).frames) (sym c.self.view_is) c.requires.begun) in
    let freed = c.whole-freed.ensures ∙ c.sync.ensures.freed ∙ ap (λ (b : SerialsSoFar). b.items ++ freed_by r i.world.graves) c.in_ok-freed.ensures in
    record {
      scene =
          scene_entered i.ahead i.channels i.history.entries c.push_reserved.new.self.entries s _ i.world.marks c.sync.new.self.marks i.weight (i.weight + 1) i.seat (command.Sync r) e (written_at i.world.cycles) (written_at c.sync.new.self.cycles)
          c.self.invariant.scene (back, begun)
          (light_enough c.args.self.now i.history.entries i.weight (command.Sync r) (ap (λ (v : SceneState). v.shared.log) (sym c.self.view_is)) c.self.invariant.scene.kept.weighs c.requires.weight)
          (c.push_reserved.ensures.entries ∙ ap (λ (es : Log). es ++ (i.seat, e) ∷ []) c.reserve.ensures.entries)
          (entry_is s (command.Sync r) e (reply.Freed c.whole-freed.result) c.own_entry-entry.ensures (ap (λ xs. reply.Freed xs) freed))
          (sync_state s r c.sync.new.self.graph c.sync.new.self.graves c.sync.ensures.graph c.sync.ensures.graves)
          c.sync.ensures.marks refl
          (home_entered i.channels i.history.entries c.push_reserved.new.self.entries i.seat e (command.Sync r) i.world.graph.next_serial c.sync.new.self.graph.next_serial
          (written_at i.world.cycles) (written_at c.sync.new.self.cycles) c.self.invariant.scene.kept.legal (ap (λ (x : Entry). x.command) c.own_entry-entry.ensures) refl
          (c.push_reserved.ensures.entries ∙ ap (λ (es : Log). es ++ (i.seat, e) ∷ []) c.reserve.ensures.entries)
          (subst (λ (g : SceneGraph). i.world.graph.next_serial ≤ g.next_serial) (sym c.sync.ensures.graph) (omega arith))
          (λ n l. long_by (written_at c.sync.new.self.cycles n) (written_at i.world.cycles n) (c.sync.ensures.written n)) c.self.invariant.scene.home);
      counted = counted_same i.ahead i.copies i.world.cycles c.sync.new.self.cycles c.self.invariant.counted c.sync.ensures.counts c.sync.ensures.most;
    }

pub returns-clause-accounted : goal.returns-clause-accounted
returns-clause-accounted c = λ came k.
    let i = c.self.inside in
    let r = c.args.retired in
    let e = c.own_entry-entry.result in
    let s : FrameState = record { graph = i.world.graph; views = i.views.items; frames = i.frames; retired = i.retired; merges = i.merges; graves = i.world.graves } in
    let back = subst (λ (t : FrameState). t.retired ≤ r) c.self.invariant.scene.kept.after (subst (λ (v : SceneState). (state_in v.shared).retired ≤ r) (sym c.self.view_is) c.requires.back) in
    let begun = subst (λ (t : FrameState). r ≤ t.frames) c.self.invariant.scene.kept.after (subst (λ (v : SceneState). r ≤ (state_in v.shared).frames) (sym c.self.view_is) c.requires.begun) in
    kept_synced i.ahead i.channels i.history.entries c.push_reserved.new.self.entries s i.seat e r i.world.cycles c.sync.new.self.cycles i.copies c.args.home.now.items
    c.self.invariant.scene.kept.legal c.self.invariant.scene.kept.after (ap (λ (x : Entry). x.command) c.own_entry-entry.ensures) back begun
    (c.push_reserved.ensures.entries ∙ ap (λ (es : Log). es ++ (i.seat, e) ∷ []) c.reserve.ensures.entries)
    (all_fit i.world.cycles c.sync.new.self.cycles c.args.home.now.items c.sync.ensures.out) c.sync.ensures.most c.self.invariant.scene.home
    (subst (λ (v : SceneState). AreOfRetired r v.shared c.args.home.now.items) (sym c.self.view_is) came)
    (subst (λ (v : SceneState). KeepsCopies v) (sym c.self.view_is) k)

pub returns-clause-taken : goal.returns-clause-taken
returns-clause-taken c = λ id n found geode.
    let i = c.self.inside in
    let there = subst (λ (t : FrameState). node_at t.graph.nodes id ≡ Some n) c.self.invariant.scene.kept.after (subst (λ (v : SceneState). node_at (state_in v.shared).graph.nodes id ≡ Some n) (sym c.self.view_is) found) in
    subst (λ (v : SceneState). get_or (outs c.sync.new.self.graph.next_serial c.sync.new.self.cycles) n.serial 0 ≡ out_in v n.serial - fitting_in_all (geom_of n.kind) n.serial c.args.home.now.items) c.self.view_is
    (returned i.world.graph i.world.cycles c.sync.new.self.cycles c.sync.new.self.graph.next_serial c.args.home.now.items c.keeps_limits.ensures.stocked
    (ap (λ (g : SceneGraph). g.next_serial) c.sync.ensures.graph) c.sync.ensures.out id n there geode)
