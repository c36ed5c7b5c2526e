use Rattle.std.proofs.lemmas.List.Elements.{All-nil}
use Rattle.std.proofs.lemmas.List.Sorted.{All-permutation}
use Rattle.play_format.specs.Early.{IsEarly}
use Rattle.play_format.proofs.EarlyLemmas.{end_of_end}
use Rattle.play_format.proofs.early.lines_of_part.Goals as goal

pub loop-rest-init : goal.loop-rest-init
loop-rest-init c = record {
  end = end_of_end c.args.text.now c.lines_from.result.now c.behind_row-rest.result.now c.lines_from.ensures c.behind_row-rest.ensures;
  read = rw c.new-all.ensures.items (All-nil (IsEarly c.args.text.now));
}

pub loop-rest-preserved : goal.loop-rest-preserved
loop-rest-preserved c =
    let text = c.args.text.now in
    let h = c.loop-rest.invariant in
    record {
      end = end_of_end text c.loop-rest.rest.now c.pass-rest.result.now h.end c.pass-rest.ensures.end;
      read = c.pass-rest.ensures.kept text h.end h.read;
    }

pub returns : goal.returns
returns c = All-permutation (IsEarly c.args.text.now) c.loop-rest.all.items c.reverse.new.self.items c.reverse.ensures.permutation c.loop-rest.invariant.read
