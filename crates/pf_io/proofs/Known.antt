-- Bytes that are known grow piece by piece.
use Rattle.std.proofs.Common.{◌≡◌, ℕ, ◌+◌, ◌-◌, List, [], ◌++◌, Option, None, Some, refl, sym, ap, ◌∙◌, append_assoc, append-nil, length, take, drop}
use Rattle.std.proofs.lemmas.List.{take_rest}
use Rattle.std.proofs.Math.Seq.{take-add, take-append-add}
use Rattle.std.specs.Io.KnownBytes.{append_known, prepend_known}

-- two pieces in turn are the two as one
pub append_known-append : (known : Option (List ℕ)) (front rest : List ℕ)
    → append_known (append_known known front) rest ≡ append_known known (front ++ rest)
append_known-append None front rest = refl
append_known-append (Some bytes) front rest = ap Some (append_assoc bytes front rest)

-- the empty piece changes nothing
pub append_known-nil : (known : Option (List ℕ)) → append_known known [] ≡ known
append_known-nil None = refl
append_known-nil (Some bytes) = ap Some (append-nil bytes)

-- two pieces taken in turn are the two as one
pub prepend_known-append : (known : Option (List ℕ)) (front rest : List ℕ)
    → prepend_known front (prepend_known rest known) ≡ prepend_known (front ++ rest) known
prepend_known-append None front rest = refl
prepend_known-append (Some bytes) front rest = ap Some (sym (append_assoc front rest bytes))

-- the first m bytes of what follows the first n are the next m
pub take_next : (bytes : List ℕ) (n m : ℕ)
    → take n bytes ++ take m (take (length bytes - n) (drop n bytes)) ≡ take (n + m) bytes
take_next bytes n m =
    ap (λ rest. take n bytes ++ take m rest) (take_rest bytes n) ∙ sym (take-add n m bytes)

-- a write of the first m bytes of the rest, after the first n
pub written_next : (old now new : Option (List ℕ)) (bytes : List ℕ) (n m : ℕ)
    → now ≡ append_known old (take n bytes)
    → new ≡ append_known now (take m (take (length bytes - n) (drop n bytes)))
    → new ≡ append_known old (take (n + m) bytes)
written_next old now new bytes n m before step =
    step ∙ ap (λ known. append_known known (take m (take (length bytes - n) (drop n bytes)))) before
    ∙ append_known-append old (take n bytes) (take m (take (length bytes - n) (drop n bytes)))
    ∙ ap (append_known old) (take_next bytes n m)

-- the first n bytes of the second piece, behind the whole of the first
pub front_behind : (old now new : Option (List ℕ)) (front bytes : List ℕ) (n : ℕ)
    → now ≡ append_known old front
    → new ≡ append_known now (take n bytes)
    → new ≡ append_known old (take (length front + n) (front ++ bytes))
front_behind old now new front bytes n before step =
    step ∙ ap (λ known. append_known known (take n bytes)) before
    ∙ append_known-append old front (take n bytes)
    ∙ ap (append_known old) (sym (take-append-add front bytes n))
