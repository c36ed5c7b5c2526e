-- Pieces of a message, told one after the other.
use Rattle.std.proofs.Common.{◌≡◌, ◌<◌, ◌+◌, ◌∙◌, ℕ, zero, suc, List, [], ◌∷◌, ◌++◌, length, take, get_or, Option, Result, Ok, Err, OnErr, true, refl, sym, ap, subst, arith, append_assoc, length-append, inr}
use Rattle.std.specs.List.{flat_map}
use Rattle.std.specs.Borrow.{Bor}
use Rattle.std.specs.Io.KnownBytes.{append_known}
use Rattle.std.specs.Prelude.{is_err, codes}
use Rattle.std.proofs.lemmas.List.{take-append-le}
use Rattle.std.proofs.Math.Seq.{take-append-add}
use Rattle.pf_io.specs.Causes.{Rose}
use Rattle.pf_io.specs.Streams.{AppendsFront}
use Rattle.pf_io.proofs.Known.{front_behind}
use Rattle.program_ends.specs.Told.{IsTold}
use Rattle.program_ends.specs.Messages.{line_of}

abbrev pub text_of : List (Bor (List ℕ)) → List ℕ
text_of pieces = flat_map (λ piece. piece.now) pieces

-- a text of pieces is those before one, that one, and a rest
pub parted : (pieces : List (Bor (List ℕ))) (i : ℕ) (d : Bor (List ℕ)) → i < length pieces →
    (rest : List ℕ) × (text_of pieces ≡ text_of (take i pieces) ++ ((get_or pieces i d).now ++ rest))
parted [] i d l = absurd (omega arith)
parted (q ∷ pieces) zero d l = (text_of pieces, refl)
parted (q ∷ pieces) (suc i) d l =
    let r = parted pieces i d (omega (arith, l)) in
    (r.0, ap (λ t. q.now ++ t) r.1 ∙ sym (append_assoc q.now (text_of (take i pieces)) ((get_or pieces i d).now ++ r.0)))

pub at_error : {A E P : Type 0} (r : Result A E) → is_err r ≡ true → OnErr r P → P
at_error (Ok x) e p = absurd (cc)
at_error (Err x) e p = p

-- a fault within a piece leaves a front of the text
pub told_front : (old now new : Option (List ℕ)) (before after : ℕ) (pieces : List (Bor (List ℕ))) (i : ℕ) (d : Bor (List ℕ)) →
    i < length pieces → now ≡ append_known old (text_of (take i pieces)) → AppendsFront now new (get_or pieces i d).now → Rose before after →
    IsTold old new before after (text_of pieces)
told_front old now new before after pieces i d at so_far (k, within, e) rose =
    let r = parted pieces i d at in
    let p = get_or pieces i d in
    let front = text_of (take i pieces) in
    let behind : new ≡ append_known old (take (length front + k) (front ++ p.now)) = front_behind old now new front p.now k so_far e in
    let more : take (length front + k) (front ++ p.now) ≡ take (length front + k) (front ++ (p.now ++ r.0)) =
    take-append-add front p.now k ∙ ap (λ t. front ++ t) (sym (take-append-le k p.now r.0 (omega (arith, within)))) ∙ sym (take-append-add front (p.now ++ r.0) k) in
    inr (
      length front + k,
      omega (arith, within, ap length r.1, length-append front (p.now ++ r.0), length-append p.now r.0),
      behind ∙ ap (append_known old) (more ∙ ap (take (length front + k)) (sym r.1)),
      rose,
    )

-- what is told of a text is told of an equal one
pub told_same : (old new : Option (List ℕ)) (before after : ℕ) (s t : List ℕ) → s ≡ t → IsTold old new before after s →
    IsTold old new before after t
told_same old new before after s t e told = subst (λ x. IsTold old new before after x) e told

-- the lines of two messages, put together piece by piece
pub refusal_line : (a b : List ℕ) →
    codes "perfly: line " ++ (a ++ (codes ": " ++ (b ++ codes "\n"))) ≡ line_of (codes "line " ++ a ++ codes ": " ++ b)
refusal_line a b =
    ap (λ t. codes "perfly: line " ++ t)
    (sym (append_assoc (a ++ codes ": ") b (codes "\n") ∙ append_assoc a (codes ": ") (b ++ codes "\n")))

pub stuck_line : (a b : List ℕ) →
    codes "perfly: stuck app " ++ (a ++ (codes " dbase " ++ (b ++ codes "\n"))) ≡ line_of (codes "stuck app " ++ a ++ codes " dbase " ++ b)
stuck_line a b =
    ap (λ t. codes "perfly: stuck app " ++ t)
    (sym (append_assoc (a ++ codes " dbase ") b (codes "\n") ∙ append_assoc a (codes " dbase ") (b ++ codes "\n")))
