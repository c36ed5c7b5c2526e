-- An edit is made or refused, and its entry added.
use Rattle.std.proofs.Common.{◌≡◌, inr, None, ◌+◌, cond, is_some, ◌∙◌, ◌++◌, [], ◌∷◌, ap, sym, subst, refl, arith}
use Rattle.pf_history.specs.declared.commands.Command.TheVariants as command
use Rattle.std.specs.Option.{option_map_or}
use Rattle.pf_history.specs.declared.commands.Reply.TheVariants as reply
use Rattle.cycle_buffer.specs.Cycles.{written_at}
use Rattle.pf_history.specs.declared.commands.Entry.{Entry}
use Rattle.pf_history.specs.Objects.{FrameState}
use Rattle.pf_history.specs.Logs.{Log}
use Rattle.pf_model.specs.Edits.{fault_of}
use Rattle.pf_scene.specs.Stock.{makes_geode}
use Rattle.pf_scene.specs.Scenes.{SceneState, KeepsCopies, with_cycle, state_in}
use Rattle.pf_scene.proofs.Counted.{counted_entered}
use Rattle.pf_scene.proofs.Kept.{knows, scene_entered, light_enough, entry_is, edit_state, after_grows}
use Rattle.pf_scene.proofs.Homes.{home_entered}
use Rattle.pf_scene.proofs.Accounts.{kept_entered}
use Rattle.pf_scene.proofs.Refused.{few_after, kept_refused, seen_same}
use Rattle.pf_scene.proofs.scene.Scene.edit.Goals as goal

pub edit-requires-clause-serials : goal.edit-requires-clause-serials
edit-requires-clause-serials c =
    let serials = (knows _ _ _ _ _ _ _ c.self.invariant.scene).serials in
    let light = c.self.invariant.scene.kept.light in
    omega (arith, serials, light)

pub edit-requires-clause-empty : goal.edit-requires-clause-empty
edit-requires-clause-empty c = (knows _ _ _ _ _ _ _ c.self.invariant.scene).empty

pub invariant_of-self-2 : goal.invariant_of-self-2
invariant_of-self-2 c =
    let i = c.self.inside in
    let e = c.own_entry-entry.result in
    let s : FrameState = record { graph = i.world.graph; views = i.views.items; frames = i.frames; retired = i.retired; merges = i.merges; graves = i.world.graves } in
    record {
      scene =
          scene_entered i.ahead i.channels i.history.entries c.push_reserved.new.self.entries s _ i.world.marks c.edit.new.self.marks i.weight (i.weight + 1) i.seat (command.Edit c.args.e) e (written_at i.world.cycles) (written_at c.edit.new.self.cycles)
          c.self.invariant.scene tt
          (light_enough c.args.self.now i.history.entries i.weight (command.Edit c.args.e) (ap (λ (v : SceneState). v.shared.log) (sym c.self.view_is)) c.self.invariant.scene.kept.weighs c.requires.weight)
          (c.push_reserved.ensures.entries ∙ ap (λ (es : Log). es ++ (i.seat, e) ∷ []) c.reserve.ensures.entries)
          (entry_is s (command.Edit c.args.e) e c.of_edit.result c.own_entry-entry.ensures (c.of_edit.ensures ∙ ap (λ f. option_map_or reply.Refused f reply.Done) c.in-Ok.ensures.fault))
          (edit_state s c.args.e c.edit.new.self.graph c.edit.new.self.graves c.in-Ok.ensures.graph c.in-Ok.ensures.graves)
          c.in-Ok.ensures.marks refl
          (home_entered i.channels i.history.entries c.push_reserved.new.self.entries i.seat e (command.Edit c.args.e) i.world.graph.next_serial c.edit.new.self.graph.next_serial
          (written_at i.world.cycles) (written_at c.edit.new.self.cycles) c.self.invariant.scene.kept.legal (ap (λ (x : Entry). x.command) c.own_entry-entry.ensures) refl
          (c.push_reserved.ensures.entries ∙ ap (λ (es : Log). es ++ (i.seat, e) ∷ []) c.reserve.ensures.entries)
          (after_grows i.world.graph c.edit.new.self.graph c.args.e c.in-Ok.ensures.graph) c.edit.ensures.trimmed.long c.self.invariant.scene.home);
      counted = counted_entered i.ahead i.copies c.after_edit-self-inside.result i.world.graph.next_serial (is_some (fault_of i.world.graph c.args.e)) (makes_geode c.args.e)
          i.world.cycles c.edit.new.self.cycles c.self.invariant.counted c.edit.ensures.trimmed
          (c.after_edit-self-inside.ensures ∙ ap (λ f. cond (is_some f) i.copies (with_cycle (makes_geode c.args.e) i.ahead i.copies)) c.in-Ok.ensures.fault)
          c.in-Ok.ensures.none;
    }

pub returns-clause-accounted : goal.returns-clause-accounted
returns-clause-accounted c = λ k.
    let i = c.self.inside in
    let e = c.own_entry-entry.result in
    kept_entered i.ahead i.channels i.history.entries c.push_reserved.new.self.entries i.seat e (command.Edit c.args.e) i.world.cycles c.edit.new.self.cycles i.copies c.after_edit-self-inside.result
    c.self.invariant.scene.kept.legal (ap (λ (x : Entry). x.command) c.own_entry-entry.ensures) refl (λ r h. absurd (cc))
    (c.push_reserved.ensures.entries ∙ ap (λ (es : Log). es ++ (i.seat, e) ∷ []) c.reserve.ensures.entries)
    c.edit.ensures.trimmed.out c.edit.ensures.trimmed.most (few_after c.after_edit-self-inside.result _ _ i.ahead i.copies c.after_edit-self-inside.ensures)
    (subst (λ (v : SceneState). KeepsCopies v) (sym c.self.view_is) k)

pub returns-in-Err-clause-accounted : goal.returns-in-Err-clause-accounted
returns-in-Err-clause-accounted c = λ k.
    let i = c.self.inside in
    kept_refused i.ahead i.channels i.history.entries c.reserve.new.self.entries i.world.cycles c.edit.new.self.cycles i.copies c.reserve.ensures.entries
    c.edit.ensures.trimmed.out c.edit.ensures.trimmed.most (subst (λ (v : SceneState). KeepsCopies v) (sym c.self.view_is) k)

pub returns-in-Err-clause-unchanged : goal.returns-in-Err-clause-unchanged
returns-in-Err-clause-unchanged c =
    let i = c.self.inside in
    seen_same i.ahead i.channels i.history.entries c.reserve.new.self.entries i.history.told c.reserve.new.self.told i.seat i.stopped i.world c.edit.new.self i.copies c.reserve.ensures.entries c.reserve.ensures.told
    c.in-Err.ensures.unchanged c.edit.ensures.trimmed.most c.in-Err.ensures.out
    ∙ c.self.view_is

pub returns-in-Err-clause-memory : goal.returns-in-Err-clause-memory
returns-in-Err-clause-memory c =
    let e = c.args.e in
    inr (subst (λ (v : SceneState). fault_of (state_in v.shared).graph e ≡ None) c.self.view_is
    (subst (λ (t : FrameState). fault_of t.graph e ≡ None) (sym c.self.invariant.scene.kept.after) c.in-Err.ensures.memory))
