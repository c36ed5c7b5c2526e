-- Taking a line from what is left of a text.
use Rattle.std.proofs.Common.{◌≡◌, ℕ, ◌+◌, ◌<◌, ◌≤◌, arith, refl, true, false, cond, ap, Bool, List, [], ◌∷◌, length, Result, Ok, Err, ℤ, eqb}
use Rattle.std.specs.Prelude.{nat_lt}
use Rattle.std.proofs.lemmas.Bool.{ltb-false}
use Rattle.std.proofs.lemmas.Bool.Decides.{nat_tests}
use Rattle.std.proofs.lemmas.List.Splits.{length-slice_split}
use Rattle.play_format.specs.declared.refusal.Why.{Why}
use Rattle.play_format.specs.declared.refusal.Why.TheVariants as whys
use Rattle.play_format.specs.declared.commands.Command.{Command}
use Rattle.play_format.specs.declared.places.Spot.{Spot}
use Rattle.play_format.specs.Words.{pieces}
use Rattle.play_format.specs.Places.{may_end, next_spot}
use Rattle.play_format.specs.Grammar.{◌>>=◌, entry_at, at_line, line_at, end_at, read_from}
use Rattle.play_format.specs.declared.refusal.ParseError.{ParseError}
use Rattle.play_format.specs.declared.refusal.ParseError.TheVariants as parse_error
use Rattle.play_format.specs.Outcomes.{Refuses}
use Rattle.play_format.specs.Rests.{unread, with_front}

not_zero : (n : ℕ) → 0 < n → eqb n 0 ≡ false
not_zero n h = grind (arith, nat_tests)

pub some_pieces : (text : List ℕ) → eqb (length (pieces text)) 0 ≡ false
some_pieces text = let k = length-slice_split (λ b. eqb b 10) text in not_zero (length (pieces text)) (omega arith)

-- no line feed is left
pub unread_end : (s : Spot) (n : ℕ) (text : List ℕ) → pieces text ≡ text ∷ [] → unread s n text ≡ end_at (may_end s) n text
unfolding read_from
unread_end s n text e = rw e refl

-- a line is left
pub unread_line : (s : Spot) (n : ℕ) (text line rest : List ℕ) → pieces text ≡ line ∷ pieces rest
    → unread s n text ≡ (line_at n line (entry_at s line) >>= λ e. unread (next_spot s e.0 e.1) (n + 1) rest >>= λ es. Ok (e ∷ es))
unfolding read_from
unread_line s n text line rest e = rw (e, some_pieces rest) refl

line_judged : {A : Type 0} (n : ℕ) (a b : Bool) (r : Result A Why) (x : A) → nat_lt 262144 n ≡ a → at_line n (cond a (Err whys.Count) (cond b (Err whys.Length) r)) ≡ Ok x → (n ≤ 262144) × (r ≡ Ok x)
line_judged n true b r x k e = absurd cc
line_judged n false true r x k e = absurd cc
line_judged {A} n false false (Ok y) x k e = (ltb-false _ _ k, let v : y ≡ x = cc in ap (λ (z : A). Ok z) v)
line_judged n false false (Err why) x k e = absurd cc

-- what a line that is read is
pub line_read : {A : Type 0} (n : ℕ) (line : List ℕ) (r : Result A Why) (x : A) → line_at n line r ≡ Ok x → (n ≤ 262144) × (r ≡ Ok x)
line_read n line r x e = line_judged n (nat_lt 262144 n) (nat_lt 1024 (length line)) r x refl e

-- a line that is read
pub unread_more : (s : Spot) (n : ℕ) (text line rest : List ℕ) (c : Command) (zs : List ℤ) → pieces text ≡ line ∷ pieces rest
    → line_at n line (entry_at s line) ≡ Ok (c, zs)
    → unread s n text ≡ with_front ((c, zs) ∷ []) (unread (next_spot s c zs) (n + 1) rest)
unread_more s n text line rest c zs e h = rw (unread_line s n text line rest e, h) refl

-- a line that is refused
pub unread_wrong : (s : Spot) (n : ℕ) (text line rest : List ℕ) (e : ParseError) → pieces text ≡ line ∷ pieces rest
    → Refuses e (line_at n line (entry_at s line)) → Refuses e (unread s n text)
unread_wrong s n text line rest parse_error.NoMemory h r = tt
unread_wrong s n text line rest (parse_error.Refused f) h r = rw (unread_line s n text line rest h, r) refl
