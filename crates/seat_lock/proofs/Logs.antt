-- The entries of one number in a log, and fronts of one log.
use Rattle.std.proofs.Common.{◌≡◌, ◌≢◌, ℕ, ◌≤◌, Bool, true, false, eqb, cond, List, [], ◌∷◌, ◌++◌, length, refl, sym, ap, ◌∙◌, arith, append_assoc, length-append, eq-eqb, ne_eqb}
use Rattle.std.proofs.lemmas.List.{append-nil}
use mathlib.Core.List.{IsPrefix}
use Rattle.seat_lock.specs.Log.{of, without, Found}

-- what follows a list that stays as it was is nothing
pub nothing_more : {A : Type 0} (xs ys : List A) → xs ++ ys ≡ xs → ys ≡ []
nothing_more xs [] e = refl
nothing_more xs (y ∷ ys) e = let n : length (xs ++ y ∷ ys) ≡ length xs = ap length e in absurd (omega (arith, length-append xs (y ∷ ys)))

pub prefix_self : {A : Type 0} (xs : List A) → IsPrefix xs xs
prefix_self xs = ([], append-nil xs)

pub prefix_trans : {A : Type 0} (xs ys zs : List A) → IsPrefix xs ys → IsPrefix ys zs → IsPrefix xs zs
prefix_trans xs ys zs p q = (p.0 ++ q.0, sym (append_assoc xs p.0 q.0) ∙ (ap (λ w. w ++ q.0) p.1 ∙ q.1))

pub prefix_more : {A : Type 0} (xs ys zs : List A) → IsPrefix xs ys → IsPrefix xs (ys ++ zs)
prefix_more xs ys zs p = prefix_trans xs ys (ys ++ zs) p (zs, refl)

-- of two fronts of one list the shorter is a front of the longer
pub prefix_shorter : {A : Type 0} (xs ys zs : List A) → IsPrefix xs zs → IsPrefix ys zs → length xs ≤ length ys → IsPrefix xs ys
prefix_shorter [] ys zs p q le = (ys, refl)
prefix_shorter (x ∷ xs) [] zs p q le = absurd (omega arith)
prefix_shorter (x ∷ xs) (y ∷ ys) [] p q le = absurd (cc (p.1))
prefix_shorter (x ∷ xs) (y ∷ ys) (z ∷ zs) p q le =
    let heads : x ≡ y = cc (p.1, q.1) in
    let rest = prefix_shorter xs ys zs (p.0, cc (p.1)) (q.0, cc (q.1)) (omega arith) in
    (rest.0, cc (heads, rest.1))

module _ {E : Type 0} where
  joined : (b : Bool) (e : E) (xs ys zs : List E) → zs ≡ xs ++ ys → cond b (e ∷ zs) zs ≡ cond b (e ∷ xs) xs ++ ys
  joined true e xs ys zs h = ap (λ w. e ∷ w) h
  joined false e xs ys zs h = h

  pub of-append : (k : ℕ) (xs ys : List (ℕ × E)) → of k (xs ++ ys) ≡ of k xs ++ of k ys
  of-append k [] ys = refl
  of-append k (x ∷ xs) ys = joined (eqb x.0 k) x.1 (of k xs) (of k ys) (of k (xs ++ ys)) (of-append k xs ys)

  pub of_other : (k j : ℕ) (e : E) → j ≢ k → of k ((j, e) ∷ []) ≡ []
  of_other k j e n = ap (λ b. cond b (e ∷ []) []) (ne_eqb j k n)

  -- an entry of another number more
  pub of_kept : (k j : ℕ) (xs : List (ℕ × E)) (e : E) → j ≢ k → of k (xs ++ (j, e) ∷ []) ≡ of k xs
  of_kept k j xs e n = of-append k xs ((j, e) ∷ []) ∙ (ap (λ w. of k xs ++ w) (of_other k j e n) ∙ append-nil (of k xs))

  -- two logs with the same entries of i have the same after one entry more
  pub same_more : (i k : ℕ) (e : E) (xs ys : List (ℕ × E)) → of i xs ≡ of i ys → of i (xs ++ (k, e) ∷ []) ≡ of i (ys ++ (k, e) ∷ [])
  same_more i k e xs ys h = of-append i xs ((k, e) ∷ []) ∙ (ap (λ w. w ++ of i ((k, e) ∷ [])) h ∙ sym (of-append i ys ((k, e) ∷ [])))

  -- a longer log with the same entries of k has no further entry of k
  pub found_same : (k : ℕ) (seen log : List (ℕ × E)) → IsPrefix seen log → of k seen ≡ of k log → Found k seen log
  found_same k seen log p e = (p.0, sym p.1, nothing_more (of k seen) (of k p.0) (sym (of-append k seen p.0) ∙ (ap (of k) p.1 ∙ sym e)))

  -- where no entry of k is new, the entries of k are those seen
  pub of_found : (k : ℕ) (seen log : List (ℕ × E)) → Found k seen log → of k log ≡ of k seen
  of_found k seen log (rest, is, unadded) = ap (of k) is ∙ (of-append k seen rest ∙ (ap (λ w. of k seen ++ w) unadded ∙ append-nil (of k seen)))

  -- a log found goes on from itself, and what goes on from it goes on from all before
  pub found-self : (k : ℕ) (log : List (ℕ × E)) → Found k log log
  found-self k log = ([], sym (append-nil log), refl)

  pub found-trans : (k : ℕ) (xs ys zs : List (ℕ × E)) → Found k xs ys → Found k ys zs → Found k xs zs
  found-trans k xs ys zs (more, is, unadded) (last, ends, unadded') =
      (more ++ last, ends ∙ (ap (λ w. w ++ last) is ∙ append_assoc xs more last), of-append k more last ∙ (ap (λ w. w ++ of k last) unadded ∙ unadded'))

  -- a log between two with the same entries of k has them too
  pub squeezed : (k : ℕ) (xs ys zs : List (ℕ × E)) → IsPrefix xs ys → IsPrefix ys zs → of k xs ≡ of k zs → of k ys ≡ of k zs
  squeezed k xs ys zs p q e =
      let a : of k xs ++ of k p.0 ≡ of k ys = sym (of-append k xs p.0) ∙ ap (of k) p.1 in
      let b : of k ys ++ of k q.0 ≡ of k zs = sym (of-append k ys q.0) ∙ ap (of k) q.1 in
      let c : of k xs ++ (of k p.0 ++ of k q.0) ≡ of k xs = sym (append_assoc (of k xs) (of k p.0) (of k q.0)) ∙ (ap (λ w. w ++ of k q.0) a ∙ (b ∙ sym e)) in
      let d : of k p.0 ++ of k q.0 ≡ [] = nothing_more (of k xs) (of k p.0 ++ of k q.0) c in
      let none : of k q.0 ≡ [] = last_empty (of k p.0) (of k q.0) d in
      sym (append-nil (of k ys)) ∙ (ap (λ w. of k ys ++ w) (sym none) ∙ b)
    where
      last_empty : (us ws : List E) → us ++ ws ≡ [] → ws ≡ []
      last_empty us [] h = refl
      last_empty us (w ∷ ws) h = let n : length (us ++ w ∷ ws) ≡ 0 = ap length h in absurd (omega (arith, length-append us (w ∷ ws)))

  left_out : (b : Bool) (x : ℕ × E) (xs ys zs : List (ℕ × E)) → zs ≡ xs ++ ys → cond b zs (x ∷ zs) ≡ cond b xs (x ∷ xs) ++ ys
  left_out true x xs ys zs h = h
  left_out false x xs ys zs h = ap (λ w. x ∷ w) h

  pub without-append : (k : ℕ) (xs ys : List (ℕ × E)) → without k (xs ++ ys) ≡ without k xs ++ without k ys
  without-append k [] ys = refl
  without-append k (x ∷ xs) ys = left_out (eqb x.0 k) x (without k xs) (without k ys) (without k (xs ++ ys)) (without-append k xs ys)

  -- an entry of k more leaves the log without k as it was
  pub without_more : (k : ℕ) (xs : List (ℕ × E)) (e : E) → without k (xs ++ (k, e) ∷ []) ≡ without k xs
  without_more k xs e = without-append k xs ((k, e) ∷ []) ∙ (ap (λ b. without k xs ++ cond b [] ((k, e) ∷ [])) (eq-eqb k k refl) ∙ append-nil (without k xs))
