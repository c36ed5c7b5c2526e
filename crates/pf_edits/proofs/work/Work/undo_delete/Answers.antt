use Rattle.std.proofs.Common.{◌≡◌, ◌-◌, ◌<◌, ℕ, List, length, take, refl, sym, subst, rules, arith}
use Rattle.pf_model.specs.declared.nodes.Gone.{Gone}
use Rattle.pf_model.specs.Graphs.{Nodes, SceneGraph}
use Rattle.pf_model.specs.Limits.{IsGraphWithinLimits}
use Rattle.pf_edits.specs.declared.work.Work.{Work}
use Rattle.pf_edits.specs.declared.undo.Older.TheVariants as older
use Rattle.pf_edits.specs.Extents.{look_of}
use Rattle.pf_edits.specs.Listed.{nodes_of}
use Rattle.pf_edits.specs.Working.{told}
use Rattle.pf_edits.specs.Undoing.{graph_before}
use Rattle.pf_edits.proofs.Listed.{put_nodes}
use Rattle.pf_edits.proofs.Works.{keeps_of, unused_of, no_record_of}
use Rattle.pf_edits.proofs.Rollbacks.{room_for, deleted_apart, absent_record}
use Rattle.pf_edits.proofs.Tights.{put_grows}
use Rattle.pf_edits.proofs.work.Work.undo_delete.Goals as goal

pub prove-unreachable-requires : goal.prove-unreachable-requires
prove-unreachable-requires c =
    let w = c.args.self.now in
    absurd (let l : c.len-count.result < 4097 = subst (λ (n : ℕ). n < 4097) (sym c.len-count.ensures.value) (room_for w.records.slots (graph_before c.args.id (older.Deleted c.args.older) (told w)) c.args.id c.args.older.node c.requires.within refl c.requires.can.0) in omega (arith, l))

pub insert-requires-clause-absent : goal.insert-requires-clause-absent
insert-requires-clause-absent c = no_record_of c.args.self.now.records.slots c.args.id (absent_record c.args.self.now.records.slots c.args.id c.requires.can.0)

pub insert-requires-clause-unused : goal.insert-requires-clause-unused
insert-requires-clause-unused c =
    unused_of (look_of c.args.self.now.records.slots) (keeps_of c.args.self.now c.requires.working) c.args.id (absent_record c.args.self.now.records.slots c.args.id c.requires.can.0)

pub insert-requires-clause-apart : goal.insert-requires-clause-apart
insert-requires-clause-apart c = deleted_apart (nodes_of c.args.self.now.records.slots) c.args.id c.args.older.node c.requires.within.within.limits.low

both : (w : Work) (ns ms : Nodes) (xs ys : List Gone) → ns ≡ ms → xs ≡ ys
    → (let g : SceneGraph = record { nodes = ns; time = w.time; next_serial = w.next_serial; gone = xs } in let h : SceneGraph = record { nodes = ms; time = w.time; next_serial = w.next_serial; gone = ys } in g ≡ h)
both w ns ms xs ys p q = λ i. record { nodes = p i; time = w.time; next_serial = w.next_serial; gone = q i }

pub returns-clause-told : goal.returns-clause-told
returns-clause-told c =
    let w = c.args.self.now in
    let rest : c.pop.new.self.items ≡ take (length w.gone.items - 1) w.gone.items = search rules in
    both w _ _ _ _ (put_nodes w.records.slots c.insert.new.records.slots c.args.id c.args.older.node c.insert.ensures.nodes) rest

pub returns-clause-working : goal.returns-clause-working
returns-clause-working c =
    let w = c.args.self.now in
    let rest : c.pop.new.self.items ≡ take (length w.gone.items - 1) w.gone.items = search rules in
    record {
      sound = c.insert.ensures.sound;
      free = c.requires.working.free;
      within = subst IsGraphWithinLimits (sym (both w _ _ _ _ (put_nodes w.records.slots c.insert.new.records.slots c.args.id c.args.older.node c.insert.ensures.nodes) rest)) c.requires.within;
    }

pub returns-clause-entries : goal.returns-clause-entries
returns-clause-entries c = put_grows c.args.self.now.records.slots c.insert.new.records.slots c.args.id c.args.older.parents c.insert.ensures.parents
