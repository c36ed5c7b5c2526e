-- A view is set, and its entry added.
use Rattle.std.proofs.Common.{◌+◌, ◌<◌, ◌∙◌, ◌++◌, [], ◌∷◌, ap, sym, subst, refl, arith}
use Rattle.pf_history.specs.declared.commands.Command.TheVariants as command
use Rattle.cycle_buffer.specs.Cycles.{written_at}
use Rattle.pf_history.specs.declared.commands.Entry.{Entry}
use Rattle.pf_history.specs.Logs.{Log}
use Rattle.pf_scene.specs.Scenes.{SceneState, KeepsCopies}
use Rattle.pf_scene.proofs.Kept.{knows, scene_entered, light_enough}
use Rattle.pf_scene.proofs.Trimmed.{long_by}
use Rattle.pf_scene.proofs.Homes.{home_entered}
use Rattle.pf_scene.proofs.Accounts.{kept_entered}
use Rattle.pf_scene.proofs.scene.Scene.view.Goals as goal

pub index_mut-requires : goal.index_mut-requires
index_mut-requires c =
    let many = (knows _ _ _ _ _ _ _ c.self.invariant.scene).views in
    let there = subst (λ (v : SceneState). c.args.channel < v.shared.channels) (sym c.self.view_is) c.requires.channel in
    omega (arith, many, there, c.self.inside.views.ok.0)

pub invariant_of-self-2 : goal.invariant_of-self-2
invariant_of-self-2 c =
    let i = c.self.inside in
    let e = c.own_entry-entry.result in
    record {
      scene =
          scene_entered i.ahead i.channels i.history.entries c.push_reserved.new.self.entries _ _ i.world.marks i.world.marks i.weight (i.weight + 1) i.seat (command.View c.args.channel c.args.view) e (written_at i.world.cycles) (written_at i.world.cycles)
          c.self.invariant.scene tt
          (light_enough c.args.self.now i.history.entries i.weight (command.View c.args.channel c.args.view) (ap (λ (v : SceneState). v.shared.log) (sym c.self.view_is)) c.self.invariant.scene.kept.weighs c.requires.weight)
          (c.push_reserved.ensures.entries ∙ ap (λ (es : Log). es ++ (i.seat, e) ∷ []) c.reserve.ensures.entries)
          c.own_entry-entry.ensures refl refl refl
          (home_entered i.channels i.history.entries c.push_reserved.new.self.entries i.seat e (command.View c.args.channel c.args.view) i.world.graph.next_serial i.world.graph.next_serial
          (written_at i.world.cycles) (written_at i.world.cycles) c.self.invariant.scene.kept.legal (ap (λ (x : Entry). x.command) c.own_entry-entry.ensures) refl
          (c.push_reserved.ensures.entries ∙ ap (λ (es : Log). es ++ (i.seat, e) ∷ []) c.reserve.ensures.entries)
          (omega arith) (λ s l. long_by (written_at i.world.cycles s) (written_at i.world.cycles s) refl) c.self.invariant.scene.home);
      counted = c.self.invariant.counted;
    }

pub returns-clause-accounted : goal.returns-clause-accounted
returns-clause-accounted c = λ k.
    let i = c.self.inside in
    let e = c.own_entry-entry.result in
    kept_entered i.ahead i.channels i.history.entries c.push_reserved.new.self.entries i.seat e (command.View c.args.channel c.args.view) i.world.cycles i.world.cycles i.copies i.copies
    c.self.invariant.scene.kept.legal (ap (λ (x : Entry). x.command) c.own_entry-entry.ensures) refl (λ r h. absurd (cc))
    (c.push_reserved.ensures.entries ∙ ap (λ (es : Log). es ++ (i.seat, e) ∷ []) c.reserve.ensures.entries)
    (λ s. omega arith) refl (omega arith)
    (subst (λ (v : SceneState). KeepsCopies v) (sym c.self.view_is) k)
