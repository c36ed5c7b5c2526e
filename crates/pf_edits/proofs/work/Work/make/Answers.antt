use Rattle.std.proofs.Common.{◌≡◌, ◌<◌, ◌+◌, ◌-◌, ℕ, List, [], Option, None, false, is_some, nat_lt, length, subst, sym, ◌∙◌, ap, arith}
use Rattle.pf_model.specs.declared.nodes.Node.{Node}
use Rattle.pf_model.specs.declared.edits.Edit.TheVariants as edit
use Rattle.pf_model.specs.declared.edits.Fault.TheVariants as fault
use Rattle.pf_model.specs.Graphs.{node_at, put}
use Rattle.pf_model.specs.Edits.{first, make_rules}
use Rattle.pf_model.proofs.Rules.{all_passed, when_not}
use Rattle.pf_edits.specs.Listed.{nodes_of}
use Rattle.pf_edits.specs.Working.{told}
use Rattle.std.specs.List.{count_by}
use Rattle.std.proofs.lemmas.Bool.Decides.{nat_tests}
use Rattle.pf_edits.proofs.Listed.{found, put_nodes, count_is}
use Rattle.pf_edits.proofs.Works.{keeps_of, told_nodes, unused_of, no_record_of, within_after, made_there, fresh_parents, none_gone, put_stays}
use Rattle.pf_edits.proofs.Undoes.{back_made}
use Rattle.std.specs.Option.{option_map}
use Rattle.pf_edits.specs.declared.records.Record.{Record}
use Rattle.pf_edits.specs.Tables.{Slots, record_at}
use Rattle.pf_model.specs.declared.nodes.Kind.{Kind}
use Rattle.pf_edits.specs.declared.work.Work.{Work}
use Rattle.pf_edits.specs.Extents.{look_of}
use Rattle.pf_edits.proofs.Tights.{new_grows}
use Rattle.pf_edits.proofs.work.Work.make.Goals as goal

free_id : (w : Work) (id : ℕ) → None ≡ first (make_rules (nodes_of w.records.slots) id) → is_some (look_of w.records.slots id) ≡ false
free_id w id none =
    ap (λ (o : Option Node). is_some o) (sym (found w.records.slots id))
    ∙ when_not (is_some (node_at (nodes_of w.records.slots) id)) (fault.Taken id) (all_passed (make_rules (nodes_of w.records.slots) id) none).0

few : (slots : Slots) (id : ℕ) → None ≡ first (make_rules (nodes_of slots) id) → count_by is_some slots < 4097
few slots id none = subst (λ (n : ℕ). n < 4097) (count_is 0 slots) (by (length (nodes_of slots)) (when_not (nat_lt 4096 (length (nodes_of slots))) (fault.Many 4097) (all_passed (make_rules (nodes_of slots) id) none).1.0))
  where
    by : (n : ℕ) → nat_lt 4096 n ≡ false → n < 4097
    by n h = grind (arith, nat_tests)

pub prove-unreachable-requires : goal.prove-unreachable-requires
prove-unreachable-requires c =
    let l : c.len-count.result < 4097 = subst (λ (n : ℕ). n < 4097) (sym c.len-count.ensures.value) (few c.args.self.now.records.slots c.args.id c.requires.none) in
    absurd (omega (arith, l))

pub insert-requires-clause-absent : goal.insert-requires-clause-absent
insert-requires-clause-absent c =
    let none : None ≡ first (make_rules (nodes_of c.args.self.now.records.slots) c.args.id) = c.requires.none in
    no_record_of c.args.self.now.records.slots c.args.id (free_id c.args.self.now c.args.id none)

pub insert-requires-clause-unused : goal.insert-requires-clause-unused
insert-requires-clause-unused c =
    let none : None ≡ first (make_rules (nodes_of c.args.self.now.records.slots) c.args.id) = c.requires.none in
    unused_of (look_of c.args.self.now.records.slots) (keeps_of c.args.self.now c.requires.working) c.args.id (free_id c.args.self.now c.args.id none)

-- the node made, with its children
node_with : Work → Kind → List ℕ → Node
node_with w k cs = record { serial = w.next_serial; born = w.time; kind = k; children = cs }

pub returns-clause-after : goal.returns-clause-after
unfolding node_with
returns-clause-after c =
    let w = c.args.self.now in
    told_nodes w.time (w.next_serial + 1) w.gone.items _ _
    (put_nodes w.records.slots c.insert.new.records.slots c.args.id (node_with w c.in_ok-kind.kind c.new.result) c.insert.ensures.nodes
    ∙ ap (λ cs. put c.args.id (node_with w c.in_ok-kind.kind cs) (nodes_of w.records.slots)) c.new.ensures
    ∙ ap (λ (k : Kind). put c.args.id (node_with w k []) (nodes_of w.records.slots)) c.in_ok-kind.ensures)

pub returns-clause-working : goal.returns-clause-working
unfolding node_with
returns-clause-working c =
    let w = c.args.self.now in
    let none : None ≡ first (make_rules (nodes_of w.records.slots) c.args.id) = c.requires.none in
    record {
      sound = c.insert.ensures.sound;
      free = c.requires.working.free;
      within = within_after (told w) _ (edit.Make c.args.id c.args.kind.now) c.requires.working.within c.requires.fits none
          (told_nodes w.time (w.next_serial + 1) w.gone.items _ _
          (put_nodes w.records.slots c.insert.new.records.slots c.args.id (node_with w c.in_ok-kind.kind c.new.result) c.insert.ensures.nodes
          ∙ ap (λ cs. put c.args.id (node_with w c.in_ok-kind.kind cs) (nodes_of w.records.slots)) c.new.ensures
          ∙ ap (λ (k : Kind). put c.args.id (node_with w k []) (nodes_of w.records.slots)) c.in_ok-kind.ensures));
    }

one_less : (n : ℕ) → n + 1 - 1 ≡ n
one_less n = omega arith

pub returns-clause-undo : goal.returns-clause-undo
returns-clause-undo c =
    let w = c.args.self.now in
    let none : None ≡ first (make_rules (nodes_of w.records.slots) c.args.id) = c.requires.none in
    let absent : record_at w.records.slots c.args.id ≡ None = no_record_of w.records.slots c.args.id (free_id w c.args.id none) in
    let nodes = back_made w.records.slots c.insert.new.records.slots c.args.id _ (ap (option_map (λ (r : Record). r.node)) absent) c.insert.ensures.nodes in
    record {
      can = ap (λ (o : Option Node). is_some o) (made_there w.records.slots c.insert.new.records.slots c.args.id _ c.insert.ensures.nodes);
      before = λ i. record { nodes = nodes i; time = w.time; next_serial = one_less w.next_serial i; gone = w.gone.items };
      parents = fresh_parents w.records.slots c.insert.new.records.slots c.args.id _ absent c.insert.ensures.parents;
      back = λ y x h. absurd (cc);
      freed = none_gone w.records.slots c.insert.new.records.slots (put_stays w.records.slots c.insert.new.records.slots c.args.id _ c.insert.ensures.nodes);
    }

pub returns-clause-grown : goal.returns-clause-grown
returns-clause-grown c = new_grows c.args.self.now.records.slots c.insert.new.records.slots c.args.id c.new-2.result c.new-2.ensures c.insert.ensures.parents
