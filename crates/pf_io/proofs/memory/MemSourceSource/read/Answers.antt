use Rattle.std.proofs.Common.{◌≡◌, ℕ, ◌+◌, ◌-◌, ◌<◌, ◌≤◌, List, ◌++◌, Some, min, length, take, drop, arith, sym, ap, ◌∙◌}
use Rattle.std.proofs.lemmas.List.{take_rest, take-append-drop, take_at, drop-drop, drop_all, length-take-le, length-drop}
use Rattle.pf_io.proofs.memory.MemSourceSource.read.Goals as goal

-- the rest is its first n bytes, wherever they were copied to, and what lies behind them
copied_front : (bytes into copied : List ℕ) (place n : ℕ) → place + n ≤ length bytes
    → copied ≡ take n (take (length bytes - place) (drop place bytes))
    → drop place bytes ≡ take n (copied ++ drop n into) ++ drop (place + n) bytes
copied_front bytes into copied place n within is =
    let rest = drop place bytes in
    let front : copied ≡ take n rest = is ∙ ap (take n) (take_rest bytes place) in
    let long : n ≤ length rest = rw length-drop (omega (arith, within)) in
    let size : length copied ≡ n = ap length front ∙ length-take-le n rest long in
    let given : take n (copied ++ drop n into) ≡ take n rest = take_at copied (drop n into) n size ∙ front in
    rw (given, ← drop-drop n place bytes) (sym (take-append-drop n rest))

pub returns-clause-bytes : goal.returns-clause-bytes
returns-clause-bytes c =
    let place = c.self.inside.place in
    let bytes = c.self.inside.bytes.items in
    let n = c.reach-count.result in
    let most : c.min.result ≡ min (length c.args.into.now) (length (take (length bytes - place) (drop place bytes))) =
    c.min.ensures
    ∙ ap (λ b. min (length c.args.into.now) (length (take (length b - place) (drop place b)))) c.deref.ensures.value in
    let size : length (take (length bytes - place) (drop place bytes)) ≡ length bytes - place =
    ap length (take_rest bytes place) ∙ length-drop place bytes in
    let held = c.self.inside.bytes.ok.0 in
    let kept = c.self.invariant in
    let inside : place ≤ length bytes = grind (arith, held, kept) in
    let bound : n ≤ c.min.result = c.reach-count.ensures.bound in
    let within : place + n ≤ length bytes = omega (arith, most, size, inside, bound) in
    let after = c.copy_from_slice.ensures.after
    ∙ ap (λ b. take n (take (length b - place) (drop place b))) c.deref.ensures.value in
    let front = copied_front bytes c.args.into.now c.copy_from_slice.new.self place n within after in (
      rw (← c.self.view_is) (ap Some front),
      λ none.
          let moves : 0 < c.min.result → 0 < n = c.reach-count.ensures.moves in
          let needs : 0 < length c.args.into.now = c.requires in
          drop_all (place + n) bytes (grind (arith, none, most, size, moves, needs)),
    )
