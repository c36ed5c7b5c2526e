use Rattle.std.proofs.Common.{◌≡◌, ℕ, ◌+◌, ◌-◌, ◌≤◌, ◌∷◌, [], ◌++◌, List, length, replicate, ⊎_elim, ◌∙◌, ap, arith}
use Rattle.std.proofs.lemmas.Bool.{cases_lt}
use Rattle.pf_model.proofs.Written.{written_more}
use Rattle.pf_model.proofs.tables.write_to.Goals as goal

one_more : (next len : ℕ) → len ≤ next → next - len + 1 ≡ next + 1 - len
one_more next len l = omega (arith, l)

-- where the loop ends
ended : (next place len : ℕ) → len ≤ next → place + 1 ≤ next → (len ≤ place + 1 → next ≤ place + 1) → (place + 1 ≤ len → next ≡ len) → next - len ≡ place + 1 - len
ended next place len more past within idle =
    ⊎_elim
    (λ l. let e : next ≡ len = idle (omega (arith, l)) in omega (arith, e, l))
    (λ l. let e : next ≤ place + 1 = within l in omega (arith, e, past))
    (cases_lt (place + 1) len)

pub loop-next-preserved : goal.loop-next-preserved
loop-next-preserved g c = record {
  length_is = omega (arith, c.push_reserved.ensures.len, c.loop-next.invariant.length_is);
  more = omega (arith, c.loop-next.invariant.more);
  idle = λ l. absurd (omega (arith, l, c.loop-next.invariant.more, c.loop-next-test.true));
  capacity_is = c.push_reserved.ensures.capacity ∙ c.loop-next.invariant.capacity_is;
  written = λ unset only.
      c.push_reserved.ensures.items
      ∙ ap (λ (x : g.row.T.Denot). c.loop-next.entries.items ++ x ∷ []) (only c.default.result c.default.ensures)
      ∙ ap (λ (xs : List g.row.T.Denot). xs ++ unset ∷ []) (c.loop-next.invariant.written unset only)
      ∙ written_more unset c.args.entries.now.items (c.loop-next.next - length c.args.entries.now.items)
      ∙ ap (λ (n : ℕ). c.args.entries.now.items ++ replicate n unset) (one_more c.loop-next.next (length c.args.entries.now.items) (omega (arith, c.loop-next.invariant.more)));
}

pub returns-clause-items : goal.returns-clause-items
returns-clause-items g c = λ unset only.
    c.loop-next.invariant.written unset only
    ∙ ap (λ (n : ℕ). c.args.entries.now.items ++ replicate n unset)
    (ended c.loop-next.next c.args.place (length c.args.entries.now.items) (omega (arith, c.loop-next.invariant.more)) c.loop-next-test.false
    (λ l. c.loop-next.auto.next-end (omega (arith, l, c.len-next.ensures)))
    (λ l. let e = c.loop-next.invariant.idle (omega (arith, l)) in omega (arith, e)))
