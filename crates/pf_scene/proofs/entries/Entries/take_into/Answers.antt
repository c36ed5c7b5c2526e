use Rattle.std.proofs.Common.{◌≡◌, ◌+◌, ◌++◌, [], ◌∷◌, length, take, drop, sym, ap, ◌∙◌, append_assoc, arith}
use Rattle.std.proofs.lemmas.List.{length-drop}
use Rattle.pf_scene.proofs.Telling.{next_taken}
use Rattle.pf_scene.proofs.entries.Entries.take_into.Goals as goal

pub loop-told-preserved : goal.loop-told-preserved
loop-told-preserved c =
    let was = c.loop-told.invariant in
    let all = c.args.self.now.entries in
    let start = c.args.self.now.told in
    let made = c.loop-told._told in
    let entry = c.in-Some.entry in
    let rest = drop c.take.new.self.told c.loop-told.self.entries in
    let next : drop (start + made) all ≡ entry ∷ rest = (λ i. drop (sym was.told i) (sym was.same i)) ∙ c.in-Some.ensures.2 in
    let many = ap length next in
    let left = length-drop (start + made) all in
    let untold = length-drop start all in
    record {
      same = c.in-Some.ensures.0 ∙ was.same;
      told = omega (arith, c.in-Some.ensures.1, was.told);
      some = omega (arith, many, left, untold);
      entries = c.push_reserved.ensures.items ∙ ap (λ l. l ++ entry ∷ []) was.entries
          ∙ append_assoc c.args.into.now.items (take made (drop start all)) (entry ∷ [])
          ∙ ap (λ l. c.args.into.now.items ++ l) (sym (next_taken all start made entry rest next));
      room = c.push_reserved.ensures.capacity ∙ was.room;
    }
