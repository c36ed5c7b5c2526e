-- The law between spelling and reading, for whole lines and whole texts.
use Rattle.std.proofs.Common.{◌≡◌, ℕ, zero, suc, ◌+◌, ◌*◌, ◌<◌, ◌≤◌, ◌^◌, arith, refl, true, false, cond, ap, Bool, sym, ◌∙◌, List, [], ◌∷◌, ◌++◌, length, map, eqb, leb, subst, Result, Ok, Err, Some, ℤ, pos, negsuc, append_assoc}
use Rattle.std.specs.Prelude.{not, codes, unsigned_abs, nat_lt}
use Rattle.std.specs.List.{list_all, join_with_byte}
use Rattle.std.specs.Option.{ok_or}
use Rattle.std.specs.Str.{bytes_eq}
use Rattle.std.specs.Fmt.{signed_decimal}
use Rattle.std.proofs.lemmas.Bool.{ltb-false, le-ltb, le-leb, leb-true, ne_eqb, eq-eqb, false_from_ne_true}
use Rattle.std.proofs.lemmas.List.{length-append, length-map}
use Rattle.std.proofs.lemmas.List.Folds.{list_all-append}
use Rattle.std.proofs.lemmas.List.Splits.{slice_split_at, join_with_byte-slice_split}
use Rattle.std.proofs.lemmas.Fmt.{length_signed_le}
use Rattle.play_format.specs.declared.refusal.Why.{Why}
use Rattle.play_format.specs.declared.refusal.Why.TheVariants as whys
use Rattle.play_format.specs.declared.refusal.Refusal.{Refusal}
use Rattle.play_format.specs.declared.numbers.Limits.{Limits}
use Rattle.play_format.specs.declared.commands.Form.{Form}
use Rattle.play_format.specs.declared.commands.Form.TheVariants as form
use Rattle.play_format.specs.declared.commands.Command.{Command}
use Rattle.play_format.specs.declared.commands.Command.TheVariants as command
use Rattle.play_format.specs.declared.places.Version.{Version}
use Rattle.play_format.specs.declared.places.Version.TheVariants as version
use Rattle.play_format.specs.declared.places.Spot.{Spot}
use Rattle.play_format.specs.Words.{pieces, words}
use Rattle.play_format.specs.Commands.{form_text, text_of, form_tail, tail_of, form_limits, limits_of, words_in, Entry}
use Rattle.play_format.specs.Numbers.{is_number}
use Rattle.play_format.specs.Places.{AreWithin, next_spot, start, Fits}
use Rattle.play_format.specs.Grammar.{◌>>=◌, switched, picked, named, command_at, entry_at, at_line, read_from, version_at, judged_version, with_version, lines_at, reading}
use Rattle.play_format.specs.Spelling.{words_of, line_of, text_of_lines, version_line}
use Rattle.play_format.specs.Reads.{Follow}
use Rattle.play_format.proofs.ReadingLemmas.{bytes_yes}
use Rattle.play_format.proofs.EntryLemmas.{bind_ok, both, channels_within}
use Rattle.play_format.proofs.SpellLemmas.{is_small, small_number, number_of, numbers_again, both_true}
use Rattle.play_format.proofs.LawLemmas.{small_limits, is_clear, words_clear, has_no, no_feed, each_fails, words_cut, listed, listed_stands, named_again, lines_read, LinesRead, join_lines, some_channels, few_channels}

no_text : (z : ℤ) (w : List ℕ) → unsigned_abs z < 2 ^ 32 → is_number w ≡ false → bytes_eq (signed_decimal z) w ≡ false
no_text z w small e = false_from_ne_true _ (λ yes.
    let k : signed_decimal z ≡ w = bytes_yes (signed_decimal z) w yes in
    let n : is_number (signed_decimal z) ≡ true = (number_of z (omega arith)).0 in
    let f : is_number (signed_decimal z) ≡ false = ap is_number k ∙ e in
    absurd cc)

switched_number : (z : ℤ) → unsigned_abs z < 2 ^ 32 → switched (signed_decimal z) ≡ form.SwitchTo
switched_number z small = rw (no_text z (codes "on") small refl, no_text z (codes "off") small refl) refl

picked_again : (n : ℕ) (c : Command) (zs : List ℤ) → AreWithin (limits_of n c) zs → picked (map signed_decimal zs ++ tail_of c) (listed c) ≡ c
picked_again n (command.Edit form.SwitchOn) (z ∷ []) w = refl
picked_again n (command.Edit form.SwitchOn) [] w = absurd w
picked_again n (command.Edit form.SwitchOn) (z ∷ y ∷ zs) w = absurd w.1
picked_again n (command.Edit form.SwitchOff) (z ∷ []) w = refl
picked_again n (command.Edit form.SwitchOff) [] w = absurd w
picked_again n (command.Edit form.SwitchOff) (z ∷ y ∷ zs) w = absurd w.1
picked_again n (command.Edit form.SwitchTo) (z ∷ y ∷ []) w = ap (λ (f : Form). command.Edit f) (switched_number y (small_number (record { low = pos 0; high = pos 255 }) y refl w.1.0))
picked_again n (command.Edit form.SwitchTo) [] w = absurd w
picked_again n (command.Edit form.SwitchTo) (z ∷ []) w = absurd w.1
picked_again n (command.Edit form.SwitchTo) (z ∷ y ∷ x ∷ zs) w = absurd w.1.1
picked_again n (command.Edit f) zs w = refl
picked_again n c zs w = refl

same_length : (rs : List Limits) (zs : List ℤ) → AreWithin rs zs → length zs ≡ length rs
same_length [] [] w = refl
same_length [] (z ∷ zs) w = absurd w
same_length (r ∷ rs) [] w = absurd w
same_length (r ∷ rs) (z ∷ zs) w = ap suc (same_length rs zs w.1)

word_count : (n : ℕ) (c : Command) (zs : List ℤ) → AreWithin (limits_of n c) zs → length (words_of (c, zs)) ≡ words_in n c
word_count n c zs w = omega (arith, length-append (map signed_decimal zs) (tail_of c), length-map zs signed_decimal, same_length (limits_of n c) zs w)

commanded : (s : Spot) (c : Command) (ws : List (List ℕ)) → named s (text_of c) ≡ Some (listed c) → picked ws (listed c) ≡ c → ok_or (command_at s (text_of c ∷ ws)) whys.Command ≡ Ok c
commanded s c ws e f = rw (e, f) refl

-- the spelling of a line is read again
pub line_again : (s : Spot) (c : Command) (zs : List ℤ) → s.channels ≤ 4 → Fits s c zs → entry_at s (line_of (c, zs)) ≡ Ok (c, zs)
unfolding entry_at
line_again s c zs few h =
    let ws : words (line_of (c, zs)) ≡ words_of (c, zs) = words_cut (text_of c) (map signed_decimal zs ++ tail_of c) (words_clear s.channels c zs few h.within) in
    let command = commanded s c (map signed_decimal zs ++ tail_of c) (named_again s c (listed_stands s c h.stands)) (picked_again s.channels c zs h.within) in
    let count : eqb (length (words_of (c, zs))) (words_in s.channels c) ≡ true = eq-eqb _ _ (word_count s.channels c zs h.within) in
    let numbers = numbers_again (limits_of s.channels c) zs (tail_of c) (small_limits s.channels c few) h.within in
    rw (ws, command, count, numbers, h.ordered, h.room) refl

-- Lines are short

abbrev is_short : List ℕ → Bool
is_short w = leb (length w) 11

form_short : (f : Form) → is_short (form_text f) ≡ true
form_short form.Group = refl
form_short f = refl

text_short : (c : Command) → is_short (text_of c) ≡ true
text_short (command.Edit f) = form_short f
text_short c = refl

tail_short : (c : Command) → list_all is_short (tail_of c) ≡ true
tail_short (command.Edit form.SwitchOn) = refl
tail_short (command.Edit form.SwitchOff) = refl
tail_short (command.Edit f) = refl
tail_short c = refl

number_short : (z : ℤ) → unsigned_abs z < 2 ^ 32 → is_short (signed_decimal z) ≡ true
number_short (pos n) h = le-leb _ _ (length_signed_le 10 (pos n) (omega arith) (omega arith))
number_short (negsuc n) h = le-leb _ _ (length_signed_le 10 (negsuc n) (omega arith) (omega arith))

numbers_short : (rs : List Limits) (zs : List ℤ) → list_all is_small rs ≡ true → AreWithin rs zs → list_all is_short (map signed_decimal zs) ≡ true
numbers_short [] [] s w = refl
numbers_short [] (z ∷ zs) s w = absurd w
numbers_short (r ∷ rs) [] s w = absurd w
numbers_short (r ∷ rs) (z ∷ zs) s w =
    let b = both (is_small r) (list_all is_small rs) s in
    both_true (is_short (signed_decimal z)) (list_all is_short (map signed_decimal zs)) (number_short z (small_number r z b.0 w.0)) (numbers_short rs zs b.1 w.1)

words_short : (n : ℕ) (c : Command) (zs : List ℤ) → n ≤ 4 → AreWithin (limits_of n c) zs → list_all is_short (words_of (c, zs)) ≡ true
words_short n c zs few w =
    both_true (is_short (text_of c)) (list_all is_short (map signed_decimal zs ++ tail_of c)) (text_short c)
    (list_all-append is_short (map signed_decimal zs) (tail_of c) ∙ both_true (list_all is_short (map signed_decimal zs)) (list_all is_short (tail_of c)) (numbers_short (limits_of n c) zs (small_limits n c few) w) (tail_short c))

join_short : (w : List ℕ) (ws : List (List ℕ)) → list_all is_short (w ∷ ws) ≡ true → length (join_with_byte 32 (w ∷ ws)) + 1 ≤ 12 * length (w ∷ ws)
join_short w [] e = omega (arith, leb-true _ _ (both (is_short w) true e).0)
join_short w (v ∷ ws) e =
    let b = both (is_short w) (list_all is_short (v ∷ ws)) e in
    omega (arith, leb-true _ _ b.0, length-append w (32 ∷ join_with_byte 32 (v ∷ ws)), join_short v ws b.1)

form_words : (f : Form) → leb (1 + (length (form_limits f) + length (form_tail f))) 19 ≡ true
form_words form.Group = refl
form_words f = refl

few_words : (n : ℕ) (c : Command) → leb (words_in n c) 19 ≡ true
few_words n (command.Edit f) = form_words f
few_words n c = refl

line_short : (n : ℕ) (c : Command) (zs : List ℤ) → n ≤ 4 → AreWithin (limits_of n c) zs → length (line_of (c, zs)) ≤ 1024
line_short n c zs few w =
    let k = join_short (text_of c) (map signed_decimal zs ++ tail_of c) (words_short n c zs few w) in
    let m = word_count n c zs w in
    let f = leb-true _ _ (few_words n c) in
    omega (arith, k, m, f)

-- Lines that follow each other are read again

pub lines_again : (s : Spot) (n : ℕ) (es : List Entry) → 1 ≤ s.channels → s.channels ≤ 4 → Follow s es → (0 < length es → n + length es ≤ 262145) → read_from s n (map line_of es ++ [] ∷ []) ≡ Ok es
unfolding read_from
lines_again s n [] some few h k = rw h refl
lines_again s n (e ∷ es) some few h k =
    let c = e.0 in
    let zs = e.1 in
    let channels = channels_within s.channels c zs some few h.0.within in
    let behind : read_from (next_spot s c zs) (n + 1) (map line_of es ++ [] ∷ []) ≡ Ok es = lines_again (next_spot s c zs) (n + 1) es (some_channels s c zs channels.0) (few_channels s c zs channels.1) h.1 (λ lt. omega (arith, k (omega arith))) in
    let low : nat_lt 262144 n ≡ false = le-ltb _ _ (omega (arith, k (omega arith))) in
    let short : nat_lt 1024 (length (line_of e)) ≡ false = le-ltb _ _ (line_short s.channels c zs few h.0.within) in
    let more : eqb (length (map line_of es ++ [] ∷ [])) 0 ≡ false = ne_eqb _ _ (λ q. absurd (omega (arith, q, length-append (map line_of es) ([] ∷ [])))) in
    rw (more, low, short, line_again s c zs few h.0, behind) refl

-- Texts

-- the words of a line without a line feed are joined to one
pub join_has_no : (w : List ℕ) (ws : List (List ℕ)) → list_all is_clear (w ∷ ws) ≡ true → has_no 10 (join_with_byte 32 (w ∷ ws)) ≡ true
join_has_no w [] e = no_feed w (both (is_clear w) true e).0
join_has_no w (v ∷ ws) e =
    let b = both (is_clear w) (list_all is_clear (v ∷ ws)) e in
    list_all-append (λ x. not (eqb x 10)) w (32 ∷ join_with_byte 32 (v ∷ ws)) ∙ both_true (has_no 10 w) (has_no 10 (32 ∷ join_with_byte 32 (v ∷ ws))) (no_feed w b.0) (join_has_no v ws b.1)

lines_have_no : (s : Spot) (es : List Entry) → 1 ≤ s.channels → s.channels ≤ 4 → Follow s es → list_all (has_no 10) (map line_of es) ≡ true
lines_have_no s [] some few h = refl
lines_have_no s (e ∷ es) some few h =
    let channels = channels_within s.channels e.0 e.1 some few h.0.within in
    both_true (has_no 10 (line_of e)) (list_all (has_no 10) (map line_of es))
    (join_has_no (text_of e.0) (map signed_decimal e.1 ++ tail_of e.0) (words_clear s.channels e.0 e.1 few h.0.within))
    (lines_have_no (next_spot s e.0 e.1) es (some_channels s e.0 e.1 channels.0) (few_channels s e.0 e.1 channels.1) h.1)

pub pieces_of_lines : (ls : List (List ℕ)) → list_all (has_no 10) ls ≡ true → pieces (text_of_lines ls) ≡ ls ++ [] ∷ []
pieces_of_lines [] e = refl
pieces_of_lines (l ∷ ls) e =
    let b = both (has_no 10 l) (list_all (has_no 10) ls) e in
    ap pieces (append_assoc l (10 ∷ []) (text_of_lines ls))
    ∙ slice_split_at (λ x. eqb x 10) l 10 (text_of_lines ls) (each_fails 10 l b.0) refl
    ∙ ap (λ (xs : List (List ℕ)). l ∷ xs) (pieces_of_lines ls b.1)

version_again : (v : Version) → judged_version (version_line v) ≡ Ok v
version_again version.One = refl
version_again version.Two = refl

version_has_no : (v : Version) → has_no 10 (version_line v) ≡ true
version_has_no version.One = refl
version_has_no version.Two = refl

-- what is spelled is read again
pub reading_again : (text : List ℕ) (v : Version) (es : List Entry) → Follow (start v) es → length es < 262144 → length text ≤ 16777216
    → text ≡ text_of_lines (version_line v ∷ map line_of es) → reading text ≡ Ok (v, es)
unfolding reading lines_at
reading_again text v es h few short e =
    let parts : pieces text ≡ version_line v ∷ (map line_of es ++ [] ∷ []) =
    ap pieces e ∙ pieces_of_lines (version_line v ∷ map line_of es) (both_true (has_no 10 (version_line v)) (list_all (has_no 10) (map line_of es)) (version_has_no v) (lines_have_no (start v) es (omega arith) (omega arith) h)) in
    let more : eqb (length (map line_of es ++ [] ∷ [])) 0 ≡ false = ne_eqb _ _ (λ q. absurd (omega (arith, q, length-append (map line_of es) ([] ∷ [])))) in
    let behind : read_from (start v) 2 (map line_of es ++ [] ∷ []) ≡ Ok es = lines_again (start v) 2 es (omega arith) (omega arith) h (λ lt. omega arith) in
    rw (le-ltb _ _ short, parts, more, version_again v, behind) refl

abbrev read_version : Version → Result Version Why
read_version v = Ok v

abbrev located_version : Version → Result Version Refusal
located_version v = Ok v

abbrev whole_text : Version → List Entry → Result (Version × List Entry) Refusal
whole_text v es = Ok (v, es)

abbrev version_in : Result (Version × List Entry) Refusal → Version
version_in (Ok x) = x.0
version_in (Err e) = version.One

abbrev lines_in : Result (Version × List Entry) Refusal → List Entry
lines_in (Ok x) = x.1
lines_in (Err e) = []

version_by : (line : List ℕ) (v : Version) (a b : Bool) → bytes_eq line (codes "perfly 1") ≡ a → bytes_eq line (codes "perfly 2") ≡ b
    → cond a (read_version version.One) (cond b (read_version version.Two) (Err whys.Version)) ≡ read_version v → line ≡ version_line v
version_by line v true b e f h = let k : version.One ≡ v = cc in bytes_yes line (codes "perfly 1") e ∙ ap version_line k
version_by line v false true e f h = let k : version.Two ≡ v = cc in bytes_yes line (codes "perfly 2") f ∙ ap version_line k
version_by line v false false e f h = absurd cc

version_spelled : (line : List ℕ) (v : Version) → at_line 1 (judged_version line) ≡ located_version v → line ≡ version_line v
version_spelled line v e =
    let t = judged_ok (nat_lt 1024 (length line)) (version_at line) v e in
    version_by line v (bytes_eq line (codes "perfly 1")) (bytes_eq line (codes "perfly 2")) refl refl t
  where
    judged_ok : (b : Bool) (r : Result Version Why) (v : Version) → at_line 1 (cond b (Err whys.Length) r) ≡ located_version v → r ≡ read_version v
    judged_ok true r v e = absurd cc
    judged_ok false (Ok x) v e = let k : x ≡ v = cc in ap read_version k
    judged_ok false (Err why) v e = absurd cc

pub record TextRead (text : List ℕ) (v : Version) (es : List Entry) : Type 0 where
  pub spelled : text ≡ text_of_lines (version_line v ∷ map line_of es)
  pub follow : Follow (start v) es
  pub lines : length es < 262144
  pub few : length text ≤ 16777216

few_entries : (k : ℕ) → (0 < k → 2 + k ≤ 262145) → k < 262144
few_entries zero h = omega arith
few_entries (suc k) h = omega (arith, h (omega arith))

lines_spelled : (text line : List ℕ) (more : List (List ℕ)) (v : Version) (es : List Entry) (b : Bool) → pieces text ≡ line ∷ more → length text ≤ 16777216 → eqb (length more) 0 ≡ b
    → cond b (Err (record { line = 1; why = cond (eqb (length line) 0) whys.Count whys.Length })) (at_line 1 (judged_version line) >>= λ v. with_version v (read_from (start v) 2 more)) ≡ whole_text v es
    → TextRead text v es
lines_spelled text line more v es true parts short some e = absurd cc
lines_spelled text line [] v es false parts short some e = absurd cc
lines_spelled text line (next ∷ more) v es false parts short some e =
    let first = bind_ok (at_line 1 (judged_version line)) (λ v. with_version v (read_from (start v) 2 (next ∷ more))) (v, es) e in
    let rest = bind_ok (read_from (start first.0) 2 (next ∷ more)) (λ es. Ok (first.0, es)) (v, es) first.2 in
    let same_version : first.0 ≡ v = ap (λ (r : Result (Version × List Entry) Refusal). version_in r) rest.2 in
    let same_lines : rest.0 ≡ es = ap (λ (r : Result (Version × List Entry) Refusal). lines_in r) rest.2 in
    let read : LinesRead (start first.0) 2 (next ∷ more) rest.0 = lines_read (start first.0) 2 next more rest.0 (omega arith) (omega arith) rest.1 in
    let whole : text ≡ text_of_lines (version_line first.0 ∷ map line_of rest.0) =
    sym (join_with_byte-slice_split 10 text) ∙ ap (join_with_byte 10) (parts ∙ ap (λ (l : List ℕ). l ∷ next ∷ more) (version_spelled line first.0 first.1) ∙ ap (λ (ls : List (List ℕ)). version_line first.0 ∷ ls) read.spelled)
    ∙ join_lines (version_line first.0 ∷ map line_of rest.0) in
    subst (λ (w : Version). TextRead text w es) same_version (subst (λ (xs : List Entry). TextRead text first.0 xs) same_lines
    (record { spelled = whole; follow = read.follow; lines = few_entries (length rest.0) read.few; few = short }))

-- what is read is spelled so
pub reading_spelled : (text : List ℕ) (v : Version) (es : List Entry) → reading text ≡ Ok (v, es) → TextRead text v es
unfolding reading lines_at
reading_spelled text v es e = by_length text v es (nat_lt 16777216 (length text)) (pieces text) refl refl e
  where
    by_length : (text : List ℕ) (v : Version) (es : List Entry) (b : Bool) (parts : List (List ℕ)) → nat_lt 16777216 (length text) ≡ b → pieces text ≡ parts
        → cond b (Err (record { line = 0; why = whys.Length })) (lines_at parts) ≡ whole_text v es → TextRead text v es
    by_length text v es true parts h k e = absurd cc
    by_length text v es false [] h k e = absurd cc
    by_length text v es false (line ∷ more) h k e = lines_spelled text line more v es (eqb (length more) 0) k (ltb-false _ _ h) refl e
