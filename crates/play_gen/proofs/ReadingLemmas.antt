-- The text of each generated play has a reading.
use Rattle.std.proofs.Common.{◌≡◌, ℕ, zero, suc, ◌+◌, ◌*◌, ◌≤◌, arith, true, false, cond, Bool, eqb, refl, ap, ◌∙◌, List, [], ◌∷◌, ◌++◌, map, length, Result, Ok, Err, length-append}
use Rattle.std.specs.Prelude.{nat_lt}
use Rattle.std.specs.Result.{result_err}
use Rattle.std.proofs.lemmas.Bool.{ltb-false, ne_eqb}
use Rattle.play_format.specs.declared.refusal.Why.{Why}
use Rattle.play_format.specs.declared.refusal.Why.TheVariants as whys
use Rattle.play_format.specs.declared.refusal.Refusal.{Refusal}
use Rattle.play_format.specs.declared.commands.Command.TheVariants as command
use Rattle.play_format.specs.declared.places.Version.TheVariants as version
use Rattle.play_format.specs.declared.places.Spot.{Spot}
use Rattle.play_format.specs.Commands.{Entry}
use Rattle.play_format.specs.Places.{next_spot, start}
use Rattle.play_format.specs.Grammar.{◌>>=◌, entry_at, at_line, line_at, read_from, reading}
use Rattle.play_format.specs.Spelling.{line_of, text_of_lines, version_line}
use Rattle.play_format.specs.Reads.{HasReading}
use Rattle.play_format.proofs.EntryLemmas.{bind_ok}
use Rattle.play_format.proofs.TextLemmas.{lines_again, reading_again}
use Rattle.play_format.proofs.WholeLemmas.{some_play}
use Rattle.play_gen.specs.Draws.{state_after}
use Rattle.play_gen.specs.Lines.{opening, turn, turns, triangle, triangles, geode, placed, buffer, buffers, generated_lines, generated_text}
use Rattle.play_gen.proofs.FollowLemmas.{lines_follow}

-- Lines that are read are short

short_line : {A : Type 0} (n : ℕ) (line : List ℕ) (r : Result A Why) (x : A) → line_at n line r ≡ Ok x → length line ≤ 1024
short_line n line r x e = by_tests n line r x (nat_lt 262144 n) (nat_lt 1024 (length line)) refl e
  where
    by_tests : {A : Type 0} (n : ℕ) (line : List ℕ) (r : Result A Why) (x : A) (a b : Bool) → nat_lt 1024 (length line) ≡ b
        → at_line n (cond a (Err whys.Count) (cond b (Err whys.Length) r)) ≡ Ok x → length line ≤ 1024
    by_tests n line r x true b h e = absurd cc
    by_tests n line r x false true h e = absurd cc
    by_tests n line r x false false h e = ltb-false _ _ h

abbrev read_lines : List Entry → Result (List Entry) Refusal
read_lines es = Ok es

-- the text of lines that are read has at most 1,025 bytes a line
short_text : (s : Spot) (n : ℕ) (es : List Entry) → read_from s n (map line_of es ++ [] ∷ []) ≡ Ok es
    → length (text_of_lines (map line_of es)) ≤ 1025 * length es
unfolding read_from
short_text s n [] h = omega arith
short_text s n (e ∷ es) h =
    let first = bind_ok (line_at n (line_of e) (entry_at s (line_of e)))
    (λ e. read_from (next_spot s e.0 e.1) (n + 1) (map line_of es ++ [] ∷ []) >>= λ es. Ok (e ∷ es)) (e ∷ es) (rw (more es) at h) in
    let rest = bind_ok (read_from (next_spot s first.0.0 first.0.1) (n + 1) (map line_of es ++ [] ∷ [])) (λ es. Ok (first.0 ∷ es))
    (e ∷ es) first.2 in
    let same : rest.0 ≡ es = cc in
    let behind = short_text (next_spot s first.0.0 first.0.1) (n + 1) es (rest.1 ∙ ap read_lines same) in
    let line = short_line n (line_of e) (entry_at s (line_of e)) first.0 first.1 in
    omega (arith, line, behind, length-append (line_of e ++ 10 ∷ []) (text_of_lines (map line_of es)), length-append (line_of e) (10 ∷ []))
  where
    more : (es : List Entry) → eqb (length (map line_of es ++ [] ∷ [])) 0 ≡ false
    more es = ne_eqb _ _ (λ q. absurd (omega (arith, q, length-append (map line_of es) ([] ∷ []))))

-- The number of lines

turn_count : (k : ℕ) → length (turns k) ≡ 2 * k
unfolding turns turn
turn_count zero = refl
turn_count (suc k) = omega (arith, length-append (turns k) (turn (suc k)), turn_count k)

triangle_count : (k s : ℕ) → length (triangles k s) ≡ k
unfolding triangles
triangle_count zero s = refl
triangle_count (suc k) s = omega (arith, length-append (triangles k s) (triangle (state_after (18 * k) s) ∷ []), triangle_count k s)

buffer_count : (i s : ℕ) → length (buffer i s) ≡ 25
unfolding buffer geode placed
buffer_count i s = omega (
  arith,
  length-append (triangles 16 (state_after 1 s)) (placed i (state_after 289 s)),
  triangle_count 16
      (state_after 1 s),
)

buffers_count : (k s : ℕ) → length (buffers k s) ≡ 25 * k
unfolding buffers
buffers_count zero s = refl
buffers_count (suc k) s = omega (
  arith,
  length-append (buffers k s)
      (buffer (suc k) (state_after (293 * k) s)),
  buffers_count k s,
  buffer_count (suc k) (state_after (293 * k) s),
)

line_count : (n : ℕ) → length (generated_lines n) ≡ 8 + 27 * n
unfolding generated_lines opening
line_count n = omega (
  arith,
  length-append (turns n) ((command.Frame, []) ∷
      (command.Dbase, []) ∷ buffers n n),
  turn_count n,
  buffers_count n n,
)

-- The reading

pub text_is_read : (n : ℕ) → n ≤ 256 → reading (generated_text n) ≡ Ok (version.One, generated_lines n)
unfolding generated_text
text_is_read n few =
    let follow = lines_follow n few in
    let count = line_count n in
    let read = lines_again (start version.One) 2 (generated_lines n) (omega arith) (omega arith) follow (λ lt. omega (arith, count, few)) in
    let short = short_text (start version.One) 2 (generated_lines n) read in
    let first : length (version_line version.One ++ 10 ∷ []) ≡ 9 = refl in
    reading_again (generated_text n) version.One (generated_lines n) follow (omega (arith, count, few))
    (omega (
      arith,
      count,
      few,
      short,
      first,
      length-append (version_line version.One ++ 10 ∷ [])
          (text_of_lines (map line_of (generated_lines n))),
    )) refl

pub has_reading : (n : ℕ) → n ≤ 256 → HasReading (generated_text n)
has_reading n few = some_play (generated_text n) (ap result_err (text_is_read n few))
