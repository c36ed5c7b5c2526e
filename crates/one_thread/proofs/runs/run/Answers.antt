-- The commands that the loop has come to are the first of all commands.
use Rattle.std.proofs.Common.{◌≡◌, ◌∙◌, [], ◌∷◌, ◌++◌, ap, sym, subst, length, vec_len, rules}
use Rattle.std.proofs.lemmas.List.{map-id}
use Rattle.std.proofs.lemmas.Iterator.Consumers.{YieldsList-so_far, YieldsList-turn, YieldsList-end}
use Rattle.std.proofs.lemmas.Iterator.Adapters.{YieldsList-from_vec}
use Rattle.pf_history.specs.Objects.{FrameState, opening_state, next_state}
use Rattle.pf_history.specs.Logs.{Log, state_after, entry_of, IsLegal}
use Rattle.one_thread.specs.Runs.{entries_from}
use Rattle.one_thread.proofs.Running.{IsNext, next_fits, counts_push, behind_push, entries_push, behind_entries, entries_legal}
use Rattle.one_thread.proofs.runs.run.Goals as goal

pub note-requires-clause-fits : goal.note-requires-clause-fits
note-requires-clause-fits c =
    let gives = c.into_iter-command-iterator.ensures.into_iter_gives in
    let counted : vec_len c.args.commands ≡ length c.args.commands.items = search rules in
    let road = YieldsList-from_vec c.args.commands.items gives.0 (gives.1 ∙ counted) in
    let turn = YieldsList-turn road c.loop-command.yielded c.loop-command.command-iterator c.loop-command.yielded_by c.next.result c.next.new.self c.in-Some.command c.in-Some.is c.next.ensures.steps in
    let next : IsNext c.args.commands.items c.loop-command.yielded c.in-Some.command = record {
      first = YieldsList-so_far road c.loop-command.yielded _ c.loop-command.yielded_by;
      within = turn.0;
      here = turn.1;
    } in
    next_fits c.args.commands.items c.loop-command.yielded c.in-Some.command c.requires next

pub loop-command-preserved : goal.loop-command-preserved
loop-command-preserved c =
    let s = opening_state c.args.channels in
    let so_far = c.loop-command.yielded in
    let command = c.in-Some.command in
    let i = c.loop-command.invariant in
    let made : c.in_ok-object-2.object ≡ next_state c.loop-command.object command = c.in_ok-object-2.ensures.state in
    record {
      state = made ∙ ap (λ (o : FrameState). next_state o command) i.state ∙ sym (behind_push s so_far command);
      entries =
          c.in_ok-object-2.ensures.entries ∙ ap (λ (es : Log). es ++ (0, entry_of c.loop-command.object command) ∷ []) i.entries
          ∙ ap (λ (o : FrameState). entries_from s so_far ++ (0, entry_of o command) ∷ []) i.state
          ∙ sym (entries_push s so_far command);
      counts = rw made (counts_push c.loop-command.object so_far command i.counts);
    }

pub returns-clause-state : goal.returns-clause-state
returns-clause-state c =
    let s = opening_state c.args.channels in
    let i = c.loop-command.invariant in
    i.state ∙ behind_entries s c.loop-command.yielded ∙ sym (ap (λ (es : Log). state_after s es) i.entries)

pub returns-clause-legal : goal.returns-clause-legal
returns-clause-legal c can =
    let s = opening_state c.args.channels in
    let gives = c.into_iter-command-iterator.ensures.into_iter_gives in
    let counted : vec_len c.args.commands ≡ length c.args.commands.items = search rules in
    let road = YieldsList-from_vec c.args.commands.items gives.0 (gives.1 ∙ counted) in
    let all = YieldsList-end road c.loop-command.yielded c.loop-command.command-iterator c.loop-command.yielded_by c.next.result c.next.new.self c.in-None.is c.next.ensures.steps in
    let same : c.loop-command.history.entries ≡ entries_from s c.args.commands.items =
    c.loop-command.invariant.entries ∙ ap (λ cs. entries_from s cs) (sym (map-id c.loop-command.yielded) ∙ all.0) in
    subst (λ (es : Log). IsLegal c.args.channels es) (sym same) (entries_legal s c.args.commands.items can)
