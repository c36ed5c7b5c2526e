-- The turn of a Sync.
use Rattle.std.proofs.Common.{◌≡◌, sym, ap, ◌∙◌, subst}
use Rattle.std.specs.Vec.{vec_capacity}
use Rattle.pf_history.specs.declared.commands.Command.TheVariants as command
use Rattle.pf_scene.specs.Acts.{MaySync}
use Rattle.pf_scene.specs.Scenes.{SceneState}
use Rattle.pf_scene.specs.declared.outcomes.Home.{Home}
use Rattle.frame_stages.specs.Copies.{AreHomeward}
use Rattle.frame_stages.proofs.AppTurned.{turned_made, turned_barred, turned_wanting, counts_on, counts_still, counts_synced}
use Rattle.frame_stages.proofs.app_turns.make_sync.Goals as goal

pub returns-in-Entered-clause-came : goal.returns-in-Entered-clause-came
returns-in-Entered-clause-came g c =
    let t = c.in-Entered.ensures.turned in
    turned_made (g.D.Desk.number c.args.desk.now) (command.Sync c.args.retired) (λ s. MaySync s c.args.retired) (g.D.Desk.seen c.args.desk.now) (g.D.Desk.seen c.turn.new.self) (g.D.Desk.told c.args.desk.now) (g.D.Desk.told c.turn.new.self) t.0 t.1 t.2 t.3.0 t.3.1.shared t.5 t.6

pub returns-in-NotNow-clause-came : goal.returns-in-NotNow-clause-came
returns-in-NotNow-clause-came g c =
    let t = c.in-NotNow.ensures.turned in
    turned_barred (g.D.Desk.number c.args.desk.now) (λ s. MaySync s c.args.retired) (g.D.Desk.seen c.args.desk.now) (g.D.Desk.seen c.turn.new.self) (g.D.Desk.told c.args.desk.now) (g.D.Desk.told c.turn.new.self) t.0 t.1 t.2 t.3.0 t.3.2 t.5 t.6

pub returns-in-NoMemory-clause-came : goal.returns-in-NoMemory-clause-came
returns-in-NoMemory-clause-came g c =
    let t = c.in-NoMemory.ensures.turned in
    turned_wanting (g.D.Desk.number c.args.desk.now) (g.D.Desk.seen c.args.desk.now) (g.D.Desk.seen c.turn.new.self) (g.D.Desk.told c.args.desk.now) (g.D.Desk.told c.turn.new.self) t.0 t.1 t.2 (ap (λ (s : SceneState). s.shared) t.3.0) t.5 t.6

pub returns-in-Entered-clause-counted : goal.returns-in-Entered-clause-counted
returns-in-Entered-clause-counted g c right =
    let t = c.in-Entered.ensures.turned in
    let home : c.replace.result.items ≡ c.args.lists.now.items = cc (c.replace.ensures.value) in
    counts_synced c.args.retired c.replace.result.items (g.D.Desk.told c.args.desk.now) (g.D.Desk.told c.turn.new.self) t.0 t.1 t.6 t.3.1.accounted
    (subst (AreHomeward c.args.retired (g.D.Desk.told c.args.desk.now)) (sym home) right)

pub returns-in-Entered-clause-home : goal.returns-in-Entered-clause-home
returns-in-Entered-clause-home g c = c.in-Entered.ensures.turned.3.3

pub returns-in-Entered-clause-capacity : goal.returns-in-Entered-clause-capacity
returns-in-Entered-clause-capacity g c = c.in-Entered.ensures.turned.3.4 ∙ ap vec_capacity c.replace.ensures.value

pub returns-in-NotNow-clause-counted : goal.returns-in-NotNow-clause-counted
returns-in-NotNow-clause-counted g c right =
    let t = c.in-NotNow.ensures.turned in
    counts_still (g.D.Desk.told c.args.desk.now) (g.D.Desk.told c.turn.new.self) t.0 t.1 t.6 t.3.0

pub returns-in-NotNow-clause-home : goal.returns-in-NotNow-clause-home
returns-in-NotNow-clause-home g c = ap (λ (h : Home). h.lists.items) c.in-NotNow.ensures.turned.3.1 ∙ cc (c.replace.ensures.value)

pub returns-in-NotNow-clause-capacity : goal.returns-in-NotNow-clause-capacity
returns-in-NotNow-clause-capacity g c =
    ap (λ (h : Home). vec_capacity h.lists) c.in-NotNow.ensures.turned.3.1 ∙ ap vec_capacity c.replace.ensures.value

pub returns-in-NoMemory-clause-counted : goal.returns-in-NoMemory-clause-counted
returns-in-NoMemory-clause-counted g c right =
    let t = c.in-NoMemory.ensures.turned in
    counts_on (g.D.Desk.told c.args.desk.now) (g.D.Desk.told c.turn.new.self) t.0 t.1 t.6 t.3.3

pub returns-in-NoMemory-clause-home : goal.returns-in-NoMemory-clause-home
returns-in-NoMemory-clause-home g c = c.in-NoMemory.ensures.turned.3.1 ∙ cc (c.replace.ensures.value)

pub returns-in-NoMemory-clause-capacity : goal.returns-in-NoMemory-clause-capacity
returns-in-NoMemory-clause-capacity g c = c.in-NoMemory.ensures.turned.3.2 ∙ ap vec_capacity c.replace.ensures.value
