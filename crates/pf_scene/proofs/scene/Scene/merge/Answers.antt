-- A merge is made or refused, and its entry added.
use Rattle.std.proofs.Common.{◌≡◌, inr, None, ◌+◌, cond, is_some, ◌∙◌, ◌++◌, [], ◌∷◌, ap, sym, subst, refl, arith}
use Rattle.pf_history.specs.declared.commands.Command.TheVariants as command
use Rattle.std.specs.Option.{option_map_or}
use Rattle.pf_history.specs.declared.commands.Reply.TheVariants as reply
use Rattle.cycle_buffer.specs.Cycles.{written_at}
use Rattle.pf_history.specs.declared.commands.Entry.{Entry}
use Rattle.pf_history.specs.Objects.{FrameState}
use Rattle.pf_history.specs.Logs.{Log}
use Rattle.std.specs.List.{list_any}
use Rattle.pf_model.specs.Merges.{merge_fault}
use Rattle.pf_scene.specs.Stock.{makes_geode, first_fault}
use Rattle.pf_scene.specs.Scenes.{SceneState, KeepsCopies, with_cycle, state_in}
use Rattle.pf_scene.proofs.Counted.{counted_entered}
use Rattle.pf_scene.proofs.Kept.{knows, scene_entered, light_enough, entry_is, merge_state, after_all_grows}
use Rattle.pf_scene.proofs.Homes.{home_entered}
use Rattle.pf_scene.proofs.Accounts.{kept_entered}
use Rattle.pf_scene.proofs.Refused.{few_after, kept_refused, seen_same}
use Rattle.pf_scene.proofs.scene.Scene.merge.Goals as goal

pub merge-requires-clause-serials : goal.merge-requires-clause-serials
merge-requires-clause-serials c =
    let i = c.self.inside in
    let serials = (knows _ _ _ _ _ _ _ c.self.invariant.scene).serials in
    let light = light_enough c.args.self.now i.history.entries i.weight (command.Merge c.args.m) (ap (λ (v : SceneState). v.shared.log) (sym c.self.view_is)) c.self.invariant.scene.kept.weighs c.requires.weight in
    omega (arith, serials, light)

pub merge-requires-clause-empty : goal.merge-requires-clause-empty
merge-requires-clause-empty c = (knows _ _ _ _ _ _ _ c.self.invariant.scene).empty

pub overflow_add-self : goal.overflow_add-self
overflow_add-self c =
    let merges = (knows _ _ _ _ _ _ _ c.self.invariant.scene).merges in
    let light = c.self.invariant.scene.kept.light in
    omega (arith, merges, light)

pub invariant_of-self-2 : goal.invariant_of-self-2
invariant_of-self-2 c =
    let i = c.self.inside in
    let e = c.own_entry-entry.result in
    let s : FrameState = record { graph = i.world.graph; views = i.views.items; frames = i.frames; retired = i.retired; merges = i.merges; graves = i.world.graves } in
    record {
      scene =
          scene_entered i.ahead i.channels i.history.entries c.push_reserved.new.self.entries s _ i.world.marks c.merge.new.self.marks i.weight (i.weight + (1 + c.len-edits.result)) i.seat (command.Merge c.args.m) e (written_at i.world.cycles) (written_at c.merge.new.self.cycles)
          c.self.invariant.scene tt
          (light_enough c.args.self.now i.history.entries i.weight (command.Merge c.args.m) (ap (λ (v : SceneState). v.shared.log) (sym c.self.view_is)) c.self.invariant.scene.kept.weighs c.requires.weight)
          (c.push_reserved.ensures.entries ∙ ap (λ (es : Log). es ++ (i.seat, e) ∷ []) c.reserve.ensures.entries)
          (entry_is s (command.Merge c.args.m) e c.of_merge.result c.own_entry-entry.ensures (c.of_merge.ensures ∙ ap (λ f. option_map_or (λ g. reply.RefusedAt g.0 g.1) f reply.Done) c.in-Ok.ensures.fault))
          (merge_state s c.args.m c.merge.new.self.graph c.merge.new.self.graves c.in-Ok.ensures.graph c.in-Ok.ensures.graves)
          c.in-Ok.ensures.marks (ap (λ n. i.weight + (1 + n)) c.len-edits.ensures)
          (home_entered i.channels i.history.entries c.push_reserved.new.self.entries i.seat e (command.Merge c.args.m) i.world.graph.next_serial c.merge.new.self.graph.next_serial
          (written_at i.world.cycles) (written_at c.merge.new.self.cycles) c.self.invariant.scene.kept.legal (ap (λ (x : Entry). x.command) c.own_entry-entry.ensures) refl
          (c.push_reserved.ensures.entries ∙ ap (λ (es : Log). es ++ (i.seat, e) ∷ []) c.reserve.ensures.entries)
          (after_all_grows i.world.graph c.merge.new.self.graph c.args.m.edits c.in-Ok.ensures.graph) c.merge.ensures.trimmed.long c.self.invariant.scene.home);
      counted = counted_entered i.ahead i.copies c.after_merge-self-inside.result i.world.graph.next_serial (is_some (merge_fault i.world.graph c.args.m.edits)) (list_any makes_geode c.args.m.edits)
          i.world.cycles c.merge.new.self.cycles c.self.invariant.counted c.merge.ensures.trimmed
          (c.after_merge-self-inside.ensures ∙ ap (λ es. cond (is_some c.in-Ok.fault) i.copies (with_cycle (list_any makes_geode es) i.ahead i.copies)) c.as_slice.ensures
          ∙ ap (λ f. cond (is_some f) i.copies (with_cycle (list_any makes_geode c.args.m.edits) i.ahead i.copies)) c.in-Ok.ensures.fault)
          c.in-Ok.ensures.none;
    }

pub returns-clause-accounted : goal.returns-clause-accounted
returns-clause-accounted c = λ k.
    let i = c.self.inside in
    let e = c.own_entry-entry.result in
    kept_entered i.ahead i.channels i.history.entries c.push_reserved.new.self.entries i.seat e (command.Merge c.args.m) i.world.cycles c.merge.new.self.cycles i.copies c.after_merge-self-inside.result
    c.self.invariant.scene.kept.legal (ap (λ (x : Entry). x.command) c.own_entry-entry.ensures) refl (λ r h. absurd (cc))
    (c.push_reserved.ensures.entries ∙ ap (λ (es : Log). es ++ (i.seat, e) ∷ []) c.reserve.ensures.entries)
    c.merge.ensures.trimmed.out c.merge.ensures.trimmed.most (few_after c.after_merge-self-inside.result _ _ i.ahead i.copies c.after_merge-self-inside.ensures)
    (subst (λ (v : SceneState). KeepsCopies v) (sym c.self.view_is) k)

pub returns-in-Err-clause-accounted : goal.returns-in-Err-clause-accounted
returns-in-Err-clause-accounted c = λ k.
    let i = c.self.inside in
    kept_refused i.ahead i.channels i.history.entries c.reserve.new.self.entries i.world.cycles c.merge.new.self.cycles i.copies c.reserve.ensures.entries
    c.merge.ensures.trimmed.out c.merge.ensures.trimmed.most (subst (λ (v : SceneState). KeepsCopies v) (sym c.self.view_is) k)

pub returns-in-Err-clause-unchanged : goal.returns-in-Err-clause-unchanged
returns-in-Err-clause-unchanged c =
    let i = c.self.inside in
    seen_same i.ahead i.channels i.history.entries c.reserve.new.self.entries i.history.told c.reserve.new.self.told i.seat i.stopped i.world c.merge.new.self i.copies c.reserve.ensures.entries c.reserve.ensures.told
    c.in-Err.ensures.unchanged c.merge.ensures.trimmed.most c.in-Err.ensures.out
    ∙ c.self.view_is

pub returns-in-Err-clause-memory : goal.returns-in-Err-clause-memory
returns-in-Err-clause-memory c =
    let es = c.args.m.edits in
    inr (subst (λ (v : SceneState). first_fault (state_in v.shared).graph es ≡ None) c.self.view_is
    (subst (λ (t : FrameState). first_fault t.graph es ≡ None) (sym c.self.invariant.scene.kept.after) c.in-Err.ensures.memory))
