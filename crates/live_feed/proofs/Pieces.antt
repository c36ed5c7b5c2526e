-- The lines of a text.
use Rattle.std.proofs.Common.{◌≡◌, ℕ, refl, ap, sym, ◌∙◌, List, [], ◌∷◌, ◌++◌, eqb, append_assoc}
use Rattle.std.specs.List.{AllByRecursion, onto_first}
use Rattle.std.proofs.lemmas.Bool.{ne_eqb}
use Rattle.std.proofs.lemmas.List.{append-nil}
use Rattle.std.proofs.lemmas.List.Splits.{slice_split-cons_no}
use Rattle.play_format.specs.Words.{pieces}
use Rattle.play_format.specs.Spelling.{text_of_lines}
use Rattle.live_feed.specs.Feeds.{HasNoFeed}

-- Bytes without a line feed stand before the first line of what is behind them.
pub pieces_front : (xs more p : List ℕ) (ps : List (List ℕ)) → HasNoFeed xs → pieces more ≡ p ∷ ps → pieces (xs ++ more) ≡ (xs ++ p) ∷ ps
pieces_front [] more p ps h e = e
pieces_front (x ∷ xs) more p ps h e =
    slice_split-cons_no (λ b. eqb b 10) x (xs ++ more) (ne_eqb x 10 h.0) ∙ ap (onto_first x) (pieces_front xs more p ps h.1 e)

pub line_front : (line rest : List ℕ) → HasNoFeed line → pieces (line ++ 10 ∷ rest) ≡ line ∷ pieces rest
line_front line rest h =
    pieces_front line (10 ∷ rest) [] (pieces rest) h refl ∙ ap (λ (l : List ℕ). l ∷ pieces rest) (append-nil line)

pub one_piece : (xs : List ℕ) → HasNoFeed xs → pieces xs ≡ xs ∷ []
one_piece xs h =
    ap pieces (sym (append-nil xs)) ∙ pieces_front xs [] [] [] h refl ∙ ap (λ (l : List ℕ). l ∷ []) (append-nil xs)

pub lines_front : (lines : List (List ℕ)) (rest : List ℕ) → AllByRecursion HasNoFeed lines → pieces (text_of_lines lines ++ rest) ≡ lines ++ pieces rest
lines_front [] rest h = refl
lines_front (l ∷ ls) rest h =
    ap pieces (append_assoc (l ++ 10 ∷ []) (text_of_lines ls) rest ∙ append_assoc l (10 ∷ []) (text_of_lines ls ++ rest))
    ∙ line_front l (text_of_lines ls ++ rest) h.0
    ∙ ap (λ (ps : List (List ℕ)). l ∷ ps) (lines_front ls rest h.1)

pub lines_both : (lines more : List (List ℕ)) → text_of_lines (lines ++ more) ≡ text_of_lines lines ++ text_of_lines more
lines_both [] more = refl
lines_both (l ∷ ls) more =
    ap (λ (t : List ℕ). (l ++ 10 ∷ []) ++ t) (lines_both ls more) ∙ sym (append_assoc (l ++ 10 ∷ []) (text_of_lines ls) (text_of_lines more))

pub clear_more : (lines : List (List ℕ)) (line : List ℕ) → AllByRecursion HasNoFeed lines → HasNoFeed line → AllByRecursion HasNoFeed (lines ++ line ∷ [])
clear_more [] line h k = (k, tt)
clear_more (l ∷ ls) line h k = (h.0, clear_more ls line h.1 k)
