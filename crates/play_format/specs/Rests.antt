-- What is left of a text while it is read.
use Rattle.std.specs.Prelude.{◌≡◌, ℕ, ◌≤◌, ◌==◌, List, [], ◌∷◌, ◌++◌, ℤ, pos, negsuc, Option, Some, None, Result, Ok}
use Rattle.std.specs.Borrow.{Bor}
use Rattle.std.specs.Int.{int_min, int_max}
use Rattle.std.specs.List.{position_or_len, before_first}
use Rattle.play_format.specs.declared.refusal.Refusal.{Refusal}
use Rattle.play_format.specs.declared.places.Spot.{Spot}
use Rattle.play_format.specs.Words.{words, pieces}
use Rattle.play_format.specs.Commands.{Entry}
use Rattle.play_format.specs.Grammar.{◌>>=◌, read_from}

-- Of a line

-- the words of what is left of a line, where anything is left
abbrev pub left_words : Option (Bor (List ℕ)) → List (List ℕ)
left_words None = []
left_words (Some text) = words text.now

-- the first word of a line, and its length
abbrev pub front_word : List ℕ → List ℕ
front_word line = before_first (λ b. b == 32) line

abbrev pub front_len : List ℕ → ℕ
front_len line = position_or_len (λ b. b == 32) line

-- what is left of a line behind its first word
abbrev pub IsBehind : List ℕ → Option (Bor (List ℕ)) → Type 0
IsBehind line left = words line ≡ front_word line ∷ left_words left

-- a number as it is read: held within 2 ^ 40 of 0
abbrev pub held : ℤ → ℤ
held z = int_max (negsuc 1099511627775) (int_min z (pos 1099511627776))

-- Of a text

-- where a text is read: the spot, the number of the next line, and the text that is left
pub record Stand : Type 0 where
  pub spot : Spot
  pub line : ℕ
  pub text : List ℕ

abbrev pub stand : Spot → ℕ → List ℕ → Stand
stand s n text = record { spot = s; line = n; text = text }

-- what holds at every spot of a play
pub record IsSound (s : Spot) : Type 0 where
  pub some_channel : 1 ≤ s.channels
  pub channels : s.channels ≤ 4
  pub triangles : s.triangles ≤ 65536
  pub due : s.due ≤ 65536

-- what is left of a text, read from a spot and the number of its first line on
abbrev pub unread : Spot → ℕ → List ℕ → Result (List Entry) Refusal
unread s n text = read_from s n (pieces text)

-- lines, and then what is read
abbrev pub with_front : List Entry → Result (List Entry) Refusal → Result (List Entry) Refusal
with_front front read = read >>= λ es. Ok (front ++ es)
