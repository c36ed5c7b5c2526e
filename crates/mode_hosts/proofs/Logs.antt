-- Logs that go on by entries of one's own and of others.
use Rattle.std.proofs.Common.{◌≡◌, ℕ, Bool, cond, List, [], ◌∷◌, ◌++◌, refl, sym, ap, ◌∙◌, subst, eq-eqb}
use Rattle.std.specs.List.{AllByRecursion}
use mathlib.Core.List.{IsPrefix}
use Rattle.seat_lock.specs.Log.{of, Found}
use Rattle.seat_lock.proofs.Logs.{prefix_more, of-append, of_found}
use Rattle.pf_history.specs.declared.commands.Entry.{Entry}
use Rattle.pf_history.specs.Logs.{Log}
use Rattle.pf_history.proofs.Lists.{all_append}

-- the log goes on with no further entry of the number, and behind that stands one with this property, or none
pub data GoesOn (k : ℕ) (P : Entry → Type 0) (seen seen' : Log) : Type 0 where
  by_others : Found k seen seen' → GoesOn k P seen seen'
  by_own : (found : Log) (e : Entry) → Found k seen found → P e → seen' ≡ found ++ (k, e) ∷ [] → GoesOn k P seen seen'

found_front : (k : ℕ) (seen log : Log) → Found k seen log → IsPrefix seen log
found_front k seen log (rest, is, none) = (rest, sym is)

own_entry : (k : ℕ) (e : Entry) → of k ((k, e) ∷ []) ≡ e ∷ []
own_entry k e = ap (λ (b : Bool). cond b (e ∷ []) []) (eq-eqb k k refl)

pub still_front : (k : ℕ) (P : Entry → Type 0) (seen seen' : Log) → GoesOn k P seen seen' → IsPrefix seen seen'
still_front k P seen seen' (by_others found) = found_front k seen seen' found
still_front k P seen seen' (by_own found e goes holds is) =
    subst (IsPrefix seen) (sym is) (prefix_more seen found ((k, e) ∷ []) (found_front k seen found goes))

pub still_own : (k : ℕ) (P : Entry → Type 0) (seen seen' : Log) → GoesOn k P seen seen' → AllByRecursion P (of k seen) → AllByRecursion P (of k seen')
still_own k P seen seen' (by_others found) all = subst (AllByRecursion P) (sym (of_found k seen seen' found)) all
still_own k P seen seen' (by_own found e goes holds is) all =
    let entries : of k seen' ≡ of k seen ++ e ∷ [] =
    ap (of k) is ∙ (of-append k found ((k, e) ∷ []) ∙ (ap (λ (es : List Entry). es ++ of k ((k, e) ∷ [])) (of_found k seen found goes)
    ∙ ap (λ (es : List Entry). of k seen ++ es) (own_entry k e))) in
    subst (AllByRecursion P) (sym entries) (all_append P (of k seen) (e ∷ []) all (holds, tt))
