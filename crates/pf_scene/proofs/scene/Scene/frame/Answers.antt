-- A frame is begun, and its entry added.
use Rattle.std.proofs.Common.{◌≡◌, ℕ, ◌+◌, ◌<◌, ◌≤◌, ◌∙◌, ◌++◌, [], ◌∷◌, ap, sym, subst, refl, arith}
use Rattle.pf_model.specs.Graphs.{SceneGraph}
use Rattle.pf_history.specs.declared.commands.Command.TheVariants as command
use Rattle.cycle_buffer.specs.Cycles.{CyclesState, written_at}
use Rattle.pf_history.specs.declared.commands.Entry.{Entry}
use Rattle.pf_history.specs.Objects.{FrameState}
use Rattle.pf_history.specs.Logs.{Log}
use Rattle.pf_scene.specs.Scenes.{SceneState, KeepsCopies, state_in, with_grown, one_more}
use Rattle.pf_scene.specs.Frames.{AllHaveRoom}
use Rattle.pf_scene.specs.Counts.{AreCounted}
use Rattle.pf_scene.proofs.Counted.{counted_cut, grown_low, grown_high, raised_by_one}
use Rattle.pf_scene.proofs.Rooms.{room_for}
use Rattle.pf_scene.proofs.Kept.{knows, scene_entered, light_enough, next_graph, frame_state, frame_cut}
use Rattle.pf_scene.proofs.Homes.{home_begun}
use Rattle.pf_scene.proofs.Accounts.{AreKept, kept_framed, kept_uncut}
use Rattle.pf_scene.proofs.Refused.{kept_same, scene_uncut}
use Rattle.pf_scene.proofs.scene.Scene.frame.Goals as goal

pub cut-cut-requires : goal.cut-cut-requires
cut-cut-requires c = (knows _ _ _ _ _ _ _ c.self.invariant.scene).rising

pub next_frame-requires : goal.next_frame-requires
next_frame-requires c =
    let k = knows _ _ _ _ _ _ _ c.self.invariant.scene in
    let same = ap (λ (g : SceneGraph). g.time) c.cut-cut.ensures.graph in
    let time = k.time in
    let frames = k.frames in
    let light = c.self.invariant.scene.kept.light in
    omega (arith, same, time, frames, light)

pub overflow_add-self : goal.overflow_add-self
overflow_add-self c =
    let frames = (knows _ _ _ _ _ _ _ c.self.invariant.scene).frames in
    let light = c.self.invariant.scene.kept.light in
    omega (arith, frames, light)

pub invariant_of-self-2 : goal.invariant_of-self-2
invariant_of-self-2 c =
    let i = c.self.inside in
    let e = c.own_entry-entry.result in
    let s : FrameState = record { graph = i.world.graph; views = i.views.items; frames = i.frames; retired = i.retired; merges = i.merges; graves = i.world.graves } in
    record {
      scene =
          scene_entered i.ahead i.channels i.history.entries c.push_reserved.new.self.entries s _ i.world.marks c.next_frame.new.self.marks i.weight (i.weight + 1) i.seat command.Frame e (written_at i.world.cycles) (written_at c.next_frame.new.self.cycles)
          c.self.invariant.scene tt
          (light_enough c.args.self.now i.history.entries i.weight command.Frame (ap (λ (v : SceneState). v.shared.log) (sym c.self.view_is)) c.self.invariant.scene.kept.weighs c.requires.weight)
          (c.push_reserved.ensures.entries ∙ ap (λ (es : Log). es ++ (i.seat, e) ∷ []) c.reserve.ensures.entries)
          c.own_entry-entry.ensures
          (frame_state s c.next_frame.new.self.graph c.next_frame.new.self.graves
          (next_graph i.world.graph c.cut-cut.new.self.graph c.next_frame.new.self.graph i.frames c.cut-cut.ensures.graph c.next_frame.ensures.graph (knows _ _ _ _ _ _ _ c.self.invariant.scene).time)
          (c.next_frame.ensures.graves ∙ c.cut-cut.ensures.graves))
          (c.next_frame.ensures.marks ∙ c.in_ok-updates.ensures.cleared) refl
          (home_begun i.channels i.history.entries c.push_reserved.new.self.entries s i.seat e c.next_frame.new.self.graph.next_serial (written_at i.world.cycles) (written_at c.next_frame.new.self.cycles)
          c.self.invariant.scene.kept.legal c.self.invariant.scene.kept.after (ap (λ (x : Entry). x.command) c.own_entry-entry.ensures)
          (c.push_reserved.ensures.entries ∙ ap (λ (es : Log). es ++ (i.seat, e) ∷ []) c.reserve.ensures.entries)
          (ap (λ (g : SceneGraph). g.next_serial) c.next_frame.ensures.graph ∙ ap (λ (g : SceneGraph). g.next_serial) c.cut-cut.ensures.graph)
          c.keeps_limits.ensures.limits c.keeps_limits.ensures.stocked
          (λ n. ap (λ (k : CyclesState). written_at k n) c.next_frame.ensures.cycles ∙ c.cut-cut.ensures.written n) c.self.invariant.scene.home);
      counted = subst (λ (d : CyclesState). AreCounted i.ahead c.after_frame-self-inside.result d) (sym c.next_frame.ensures.cycles)
          (counted_cut i.ahead i.copies c.after_frame-self-inside.result i.world.cycles c.cut-cut.new.self.cycles c.self.invariant.counted c.cut-cut.ensures.begins c.keeps_limits.ensures.between
          c.most_copies.ensures.between c.cut-cut.ensures.written c.cut-cut.ensures.most
          (c.after_frame-self-inside.ensures ∙ ap (λ n. with_grown n i.copies) c.most_copies.ensures.value));
    }

pub invariant_of-self-in_err-updates : goal.invariant_of-self-in_err-updates
invariant_of-self-in_err-updates c =
    let i = c.self.inside in
    scene_uncut i.ahead i.channels i.history.entries c.reserve.new.self.entries i.world c.cut-cut.new.self i.views.items i.frames i.retired i.merges i.weight i.copies c.after_frame-self-inside.result
    c.self.invariant c.reserve.ensures.entries c.cut-cut.ensures.graph c.cut-cut.ensures.graves c.in_err-updates.ensures.unchanged c.cut-cut.ensures.written
    (counted_cut i.ahead i.copies c.after_frame-self-inside.result i.world.cycles c.cut-cut.new.self.cycles c.self.invariant.counted c.cut-cut.ensures.begins c.keeps_limits.ensures.between
    c.most_copies.ensures.between c.cut-cut.ensures.written c.cut-cut.ensures.most
    (c.after_frame-self-inside.ensures ∙ ap (λ n. with_grown n i.copies) c.most_copies.ensures.value))

pub returns-clause-accounted : goal.returns-clause-accounted
returns-clause-accounted c = λ k.
    let i = c.self.inside in
    let e = c.own_entry-entry.result in
    let s : FrameState = record { graph = i.world.graph; views = i.views.items; frames = i.frames; retired = i.retired; merges = i.merges; graves = i.world.graves } in
    let found = subst (λ (v : SceneState). (state_in v.shared).frames < (state_in v.shared).retired + c.args.ahead) (sym c.self.view_is) c.requires.room in
    let free = subst (λ (t : FrameState). t.frames < t.retired + c.args.ahead) c.self.invariant.scene.kept.after found in
    let agreed = subst (λ (v : SceneState). c.args.ahead ≡ v.shared.ahead) (sym c.self.view_is) c.requires.ahead in
    let room = subst (λ (n : ℕ). i.frames < i.retired + n) agreed free in
    subst (λ (d : CyclesState). AreKept i.ahead i.channels c.push_reserved.new.self.entries d c.after_frame-self-inside.result) (sym c.next_frame.ensures.cycles)
    (kept_framed i.ahead i.channels i.history.entries c.push_reserved.new.self.entries s i.world.marks i.seat e i.world.cycles c.cut-cut.new.self.cycles i.copies c.after_frame-self-inside.result
    c.self.invariant.scene.kept.legal c.self.invariant.scene.kept.after c.self.invariant.scene.kept.marks_are room (ap (λ (x : Entry). x.command) c.own_entry-entry.ensures)
    (c.push_reserved.ensures.entries ∙ ap (λ (es : Log). es ++ (i.seat, e) ∷ []) c.reserve.ensures.entries)
    c.in_ok-updates.ensures.out c.cut-cut.ensures.most (grown_low c.cut-cut.new.self.cycles.most i.copies c.after_frame-self-inside.result (c.after_frame-self-inside.ensures ∙ ap (λ n. with_grown n i.copies) c.most_copies.ensures.value))
    (subst (λ (v : SceneState). KeepsCopies v) (sym c.self.view_is) k))

pub returns-clause-updates : goal.returns-clause-updates
returns-clause-updates c =
    let i = c.self.inside in
    let e = c.own_entry-entry.result in
    let s : FrameState = record { graph = i.world.graph; views = i.views.items; frames = i.frames; retired = i.retired; merges = i.merges; graves = i.world.graves } in
    frame_cut i.channels i.history.entries c.push_reserved.new.self.entries s i.world.marks i.weight i.seat e c.in_ok-updates.updates c.self.invariant.scene.kept
    (c.push_reserved.ensures.entries ∙ ap (λ (es : Log). es ++ (i.seat, e) ∷ []) c.reserve.ensures.entries)
    c.own_entry-entry.ensures c.in_ok-updates.ensures.updates

pub returns-clause-room : goal.returns-clause-room
returns-clause-room c =
    let i = c.self.inside in
    subst (λ (v : SceneState). AllHaveRoom (state_in v.shared).graph c.make_room.new.lists) c.self.view_is
    (subst (λ (t : FrameState). AllHaveRoom t.graph c.make_room.new.lists) (sym c.self.invariant.scene.kept.after)
    (room_for i.world.graph c.size-size.result c.tris-tris.result c.make_room.new.lists c.size-size.ensures c.tris-tris.ensures c.in_ok-make_room.ensures.room))

pub returns-in_err-updates-clause-accounted : goal.returns-in_err-updates-clause-accounted
returns-in_err-updates-clause-accounted c = λ k.
    let i = c.self.inside in
    let s : FrameState = record { graph = i.world.graph; views = i.views.items; frames = i.frames; retired = i.retired; merges = i.merges; graves = i.world.graves } in
    let found = subst (λ (v : SceneState). (state_in v.shared).frames < (state_in v.shared).retired + c.args.ahead) (sym c.self.view_is) c.requires.room in
    let free = subst (λ (t : FrameState). t.frames < t.retired + c.args.ahead) c.self.invariant.scene.kept.after found in
    let agreed = subst (λ (v : SceneState). c.args.ahead ≡ v.shared.ahead) (sym c.self.view_is) c.requires.ahead in
    let room = subst (λ (n : ℕ). i.frames < i.retired + n) agreed free in
    kept_same i.ahead i.channels i.history.entries c.reserve.new.self.entries c.cut-cut.new.self.cycles c.after_frame-self-inside.result c.reserve.ensures.entries
    (kept_uncut i.ahead i.channels i.history.entries s i.world.cycles c.cut-cut.new.self.cycles i.copies c.after_frame-self-inside.result c.self.invariant.scene.kept.legal c.self.invariant.scene.kept.after room
    c.in_err-updates.ensures.none_out c.cut-cut.ensures.most (grown_low c.cut-cut.new.self.cycles.most i.copies c.after_frame-self-inside.result (c.after_frame-self-inside.ensures ∙ ap (λ n. with_grown n i.copies) c.most_copies.ensures.value))
    (subst (λ (v : SceneState). KeepsCopies v) (sym c.self.view_is) k))

pub returns-clause-copies : goal.returns-clause-copies
returns-clause-copies c =
    let i = c.self.inside in
    subst (λ (v : SceneState). v.copies ≤ c.after_frame-self-inside.result) c.self.view_is
    (grown_high c.cut-cut.new.self.cycles.most i.copies c.after_frame-self-inside.result (c.after_frame-self-inside.ensures ∙ ap (λ n. with_grown n i.copies) c.most_copies.ensures.value))

pub returns-clause-few : goal.returns-clause-few
returns-clause-few c =
    let i = c.self.inside in
    subst (λ (v : SceneState). c.after_frame-self-inside.result ≤ one_more v.copies) c.self.view_is
    (raised_by_one i.ahead i.copies c.after_frame-self-inside.result i.world.cycles c.cut-cut.new.self.cycles c.self.invariant.counted c.cut-cut.ensures.most
    (c.after_frame-self-inside.ensures ∙ ap (λ n. with_grown n i.copies) c.most_copies.ensures.value))

pub returns-in_err-updates-clause-copies : goal.returns-in_err-updates-clause-copies
returns-in_err-updates-clause-copies c =
    let i = c.self.inside in
    subst (λ (v : SceneState). v.copies ≤ c.after_frame-self-inside.result) c.self.view_is
    (grown_high c.cut-cut.new.self.cycles.most i.copies c.after_frame-self-inside.result (c.after_frame-self-inside.ensures ∙ ap (λ n. with_grown n i.copies) c.most_copies.ensures.value))

pub returns-in_err-updates-clause-few : goal.returns-in_err-updates-clause-few
returns-in_err-updates-clause-few c =
    let i = c.self.inside in
    subst (λ (v : SceneState). c.after_frame-self-inside.result ≤ one_more v.copies) c.self.view_is
    (raised_by_one i.ahead i.copies c.after_frame-self-inside.result i.world.cycles c.cut-cut.new.self.cycles c.self.invariant.counted c.cut-cut.ensures.most
    (c.after_frame-self-inside.ensures ∙ ap (λ n. with_grown n i.copies) c.most_copies.ensures.value))
