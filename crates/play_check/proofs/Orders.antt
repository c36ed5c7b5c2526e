-- How far the orders of a play go.
use Rattle.std.proofs.Common.{◌≡◌, ℕ, ◌+◌, ◌≤◌, nat_le, List, [], ◌∷◌, ◌++◌, Option, Some, None, option_and_then, refl, sym, ◌∙◌, ap, subst, arith}
use Rattle.std.specs.List.{AllByRecursion}
use Rattle.std.specs.Option.{option_map}
use Rattle.std.proofs.lemmas.Bool.{leb-true, le-leb}
use Rattle.std.proofs.lemmas.Option.{same_Some, none-some, cond_some, option_and_then_some}
use Rattle.pf_model.specs.declared.lines.AppLine.{AppLine}
use Rattle.pf_model.specs.declared.lines.BaseLine.{BaseLine}
use Rattle.pf_history.specs.declared.commands.Caller.{Caller}
use Rattle.pf_history.specs.declared.commands.Caller.TheVariants.{App, Dbase}
use Rattle.play_check.specs.Orders.{Due, Standing, opening, next_due, with_entry, after_order, IsOrder, within}
use Rattle.play_check.specs.Laws.{NoFurtherLaw}
use Rattle.play_check.proofs.Dues.{added}

-- From here on an order comes to no more than these many Frames and Merges.
record IsWithin (frames merges : ℕ) (s : Standing) : Type 0 where
  pub frames_held : s.frames + within merges s.app ≤ frames
  pub merges_held : s.merges + within frames s.dbase ≤ merges

-- an entry that is asked for and may be made
record Made (reached : ℕ) (ds : List Due) (n : ℕ) (rest : List Due) : Type 0 where
  pub due : Due
  pub whole : ds ≡ due ∷ rest
  pub adds : due.adds ≡ n
  pub waited : due.need ≤ reached

made_of : (reached : ℕ) (ds : List Due) (p : ℕ × List Due) → next_due reached ds ≡ Some p → Made reached ds p.0 p.1
made_of reached [] p e = absurd (none-some p e)
made_of reached (d ∷ ds) p e =
    let h = cond_some (nat_le d.need reached) (d.adds, ds) p e in
    subst (λ (q : ℕ × List Due). Made reached (d ∷ ds) q.0 q.1) h.1
    (record { due = d; whole = refl; adds = refl; waited = leb-true d.need reached h.0 })

-- an entry that does not wait for more counts
counted : (most : ℕ) (d : Due) (rest : List Due) → d.need ≤ most → within most (d ∷ rest) ≡ d.adds + within most rest
counted most d rest waited = rw (le-leb d.need most waited) refl

entry_keeps : (f m : ℕ) (caller : Caller) (s t : Standing) → with_entry caller s ≡ Some t → IsWithin f m s → IsWithin f m t
entry_keeps f m App s t e h = by (next_due s.merges s.app) refl e
  where
    by : (o : Option (ℕ × List Due)) → next_due s.merges s.app ≡ o → option_map (λ p. record s { app = p.1; frames = s.frames + p.0 }) o ≡ Some t → IsWithin f m t
    by None at e = absurd (none-some t e)
    by (Some p) at e =
        let made = made_of s.merges s.app p at in
        let early : made.due.need ≤ m = omega (arith, made.waited, h.merges_held) in
        let held : s.frames + within m (made.due ∷ p.1) ≤ f = rw made.whole at h.frames_held in
        let count = counted m made.due p.1 early in
        subst (IsWithin f m) (same_Some _ t e)
        (record { frames_held = omega (arith, held, count, made.adds); merges_held = h.merges_held })
entry_keeps f m Dbase s t e h = by (next_due s.frames s.dbase) refl e
  where
    by : (o : Option (ℕ × List Due)) → next_due s.frames s.dbase ≡ o → option_map (λ p. record s { dbase = p.1; merges = s.merges + p.0 }) o ≡ Some t → IsWithin f m t
    by None at e = absurd (none-some t e)
    by (Some p) at e =
        let made = made_of s.frames s.dbase p at in
        let early : made.due.need ≤ f = omega (arith, made.waited, h.frames_held) in
        let held : s.merges + within f (made.due ∷ p.1) ≤ m = rw made.whole at h.merges_held in
        let count = counted f made.due p.1 early in
        subst (IsWithin f m) (same_Some _ t e)
        (record { frames_held = h.frames_held; merges_held = omega (arith, held, count, made.adds) })

order_keeps : (f m : ℕ) (order : List Caller) (s t : Standing) → after_order order s ≡ Some t → IsWithin f m s → IsWithin f m t
order_keeps f m [] s t e h = subst (IsWithin f m) (same_Some s t e) h
order_keeps f m (caller ∷ order) s t e h =
    option_and_then_some (after_order order) (with_entry caller s) t e (λ u at rest. order_keeps f m order u t rest (entry_keeps f m caller s u at h))

-- Two numbers that hold all that does not wait for more bound all orders of a play.
pub no_further : NoFurtherLaw
no_further app dbase f m hf hm order end is_order =
    let h = order_keeps f m order (opening app dbase) end is_order (record { frames_held = omega (arith, hf); merges_held = omega (arith, hm) }) in
    (omega (arith, h.frames_held), omega (arith, h.merges_held))

-- an order with one more entry
one_more : (order : List Caller) (caller : Caller) (s t u : Standing) → after_order order s ≡ Some t → with_entry caller t ≡ Some u → after_order (order ++ caller ∷ []) s ≡ Some u
one_more [] caller s t u e step =
    let same : s ≡ t = same_Some s t e in
    ap (option_and_then (after_order [])) (subst (λ (x : Standing). with_entry caller x ≡ Some u) (sym same) step)
one_more (c ∷ order) caller s t u e step =
    option_and_then_some (after_order order) (with_entry c s) t e (λ v at rest. ap (option_and_then (after_order (order ++ caller ∷ []))) at ∙ one_more order caller v t u rest step)

-- Where an order of a play has come to.
pub record Reached (app : List AppLine) (dbase : List BaseLine) (s : Standing) : Type 0 where
  pub order : List Caller
  pub is_order : IsOrder app dbase order s

pub reached_opening : (app : List AppLine) (dbase : List BaseLine) → Reached app dbase (opening app dbase)
reached_opening app dbase = record { order = []; is_order = refl }

pub next_of : (reached : ℕ) (d : Due) (rest : List Due) → d.need ≤ reached → next_due reached (d ∷ rest) ≡ Some (d.adds, rest)
next_of reached d rest waited = rw (le-leb d.need reached waited) refl

-- all that a line asks for is made
pub reached_app : (app : List AppLine) (dbase : List BaseLine) (front rest : List Due) (s : Standing) (need : ℕ) → s.app ≡ front ++ rest → AllByRecursion (λ d. d.need ≡ need) front → need ≤ s.merges → Reached app dbase s → Reached app dbase (record s { app = rest; frames = s.frames + added front })
reached_app app dbase [] rest s need whole needs waited h =
    let same : record s { app = rest; frames = s.frames + 0 } ≡ s = by in
    subst (Reached app dbase) (sym same) h
  where
    by : record s { app = rest; frames = s.frames + 0 } ≡ s
    by =
        ap (λ (x : List Due). record { app = x; dbase = s.dbase; frames = s.frames + 0; merges = s.merges }) (sym whole)
        ∙ ap (λ (n : ℕ). record { app = s.app; dbase = s.dbase; frames = n; merges = s.merges }) (omega arith)
reached_app app dbase (d ∷ front) rest s need whole needs waited h =
    let t : Standing = record s { app = front ++ rest; frames = s.frames + d.adds } in
    let early : d.need ≤ s.merges = omega (arith, needs.0, waited) in
    let next : next_due s.merges s.app ≡ Some (d.adds, front ++ rest) = rw whole (next_of s.merges d (front ++ rest) early) in
    let step : with_entry App s ≡ Some t = ap (option_map (λ p. record s { app = p.1; frames = s.frames + p.0 })) next in
    let one : Reached app dbase t = record { order = h.order ++ App ∷ []; is_order = one_more h.order App (opening app dbase) s t h.is_order step } in
    let more = reached_app app dbase front rest t need refl needs.1 waited one in
    let same : s.frames + d.adds + added front ≡ s.frames + (d.adds + added front) = omega arith in
    subst (λ (n : ℕ). Reached app dbase (record { app = rest; dbase = s.dbase; frames = n; merges = s.merges })) same more

pub reached_base : (app : List AppLine) (dbase : List BaseLine) (front rest : List Due) (s : Standing) (need : ℕ) → s.dbase ≡ front ++ rest → AllByRecursion (λ d. d.need ≡ need) front → need ≤ s.frames → Reached app dbase s → Reached app dbase (record s { dbase = rest; merges = s.merges + added front })
reached_base app dbase [] rest s need whole needs waited h =
    let same : record s { dbase = rest; merges = s.merges + 0 } ≡ s = by in
    subst (Reached app dbase) (sym same) h
  where
    by : record s { dbase = rest; merges = s.merges + 0 } ≡ s
    by =
        ap (λ (x : List Due). record { app = s.app; dbase = x; frames = s.frames; merges = s.merges + 0 }) (sym whole)
        ∙ ap (λ (n : ℕ). record { app = s.app; dbase = s.dbase; frames = s.frames; merges = n }) (omega arith)
reached_base app dbase (d ∷ front) rest s need whole needs waited h =
    let t : Standing = record s { dbase = front ++ rest; merges = s.merges + d.adds } in
    let early : d.need ≤ s.frames = omega (arith, needs.0, waited) in
    let next : next_due s.frames s.dbase ≡ Some (d.adds, front ++ rest) = rw whole (next_of s.frames d (front ++ rest) early) in
    let step : with_entry Dbase s ≡ Some t = ap (option_map (λ p. record s { dbase = p.1; merges = s.merges + p.0 })) next in
    let one : Reached app dbase t = record { order = h.order ++ Dbase ∷ []; is_order = one_more h.order Dbase (opening app dbase) s t h.is_order step } in
    let more = reached_base app dbase front rest t need refl needs.1 waited one in
    let same : s.merges + d.adds + added front ≡ s.merges + (d.adds + added front) = omega arith in
    subst (λ (n : ℕ). Reached app dbase (record { app = s.app; dbase = rest; frames = s.frames; merges = n })) same more
