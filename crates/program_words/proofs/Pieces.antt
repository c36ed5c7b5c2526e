-- The pieces of a text, taken off one after the other.
use Rattle.std.proofs.Common.{◌≡◌, ◌<◌, List, [], ◌∷◌, length, refl, ap, eqb, arith}
use Rattle.std.specs.List.{position_or_len, before_first, after_first}
use Rattle.std.proofs.lemmas.List.Sums.{fails_before_first}
use Rattle.std.proofs.lemmas.List.Splits.{slice_split_none, slice_split_first, length-slice_split}
use Rattle.clap.specs.Words.{Text}
use Rattle.program_words.specs.Probes.{pieces}

-- a text without a comma is one piece
pub one_piece : (text : Text) → position_or_len (λ b. eqb b 44) text ≡ length text → pieces text ≡ text ∷ []
one_piece text e = slice_split_none (λ b. eqb b 44) text (λ k d l. fails_before_first (λ b. eqb b 44) text k d (omega (arith, e, l)))

-- in another, the first piece ends at the first comma
pub first_piece : (text front back : Text) → position_or_len (λ b. eqb b 44) text < length text → front ≡ before_first (λ b. eqb b 44) text →
    back ≡ after_first (λ b. eqb b 44) text → pieces text ≡ front ∷ pieces back
first_piece text front back l e f = rw (e, f) (slice_split_first (λ b. eqb b 44) text 0 l)

-- there always is a piece
pub some_piece : (text : Text) → (first : Text) × (rest : List Text) × (pieces text ≡ first ∷ rest)
some_piece text = by (pieces text) refl
  where
    by : (ps : List Text) → pieces text ≡ ps → (first : Text) × (rest : List Text) × (pieces text ≡ first ∷ rest)
    by [] e = absurd (let n = length-slice_split (λ b. eqb b 44) text in omega (arith, n, ap length e))
    by (first ∷ rest) e = (first, rest, e)
