-- The law between spelling and reading: what is read is spelled so, and what is spelled is read again.
use Rattle.std.proofs.Common.{◌≡◌, ℕ, zero, suc, ◌+◌, ◌-◌, ◌<◌, ◌≤◌, ◌^◌, arith, refl, true, false, cond, ap, rules, Bool, sym, ◌∙◌, List, [], ◌∷◌, ◌++◌, length, drop, map, get_or, eqb, subst, Result, Ok, Err, Option, Some, None, ℤ, pos, negsuc, inl, inr, ◌⊎◌, append_assoc}
use Rattle.std.specs.Prelude.{◌&&◌, not, codes, unsigned_abs, nat_lt}
use Rattle.std.specs.List.{list_all, find, join_with_byte, All}
use Rattle.std.specs.Option.{option_map, ok_or}
use Rattle.std.specs.Str.{bytes_eq}
use Rattle.std.specs.Char.{is_ascii_digit}
use Rattle.std.specs.Fmt.{decimal, signed_decimal}
use Rattle.std.proofs.lemmas.Bool.{le-leb, ne_eqb, eqb-true}
use Rattle.std.proofs.lemmas.List.{append-nil, drop_all}
use Rattle.std.proofs.lemmas.List.Folds.{list_all-append}
use Rattle.std.proofs.lemmas.List.Sums.{AllPass-from_list_all}
use Rattle.std.proofs.lemmas.List.Splits.{slice_split_at, slice_split_none, join_with_byte-slice_split}
use Rattle.std.proofs.lemmas.Fmt.{digits_decimal}
use Rattle.play_format.specs.declared.refusal.Why.TheVariants as whys
use Rattle.play_format.specs.declared.refusal.Refusal.{Refusal}
use Rattle.play_format.specs.declared.numbers.Limits.{Limits}
use Rattle.play_format.specs.declared.commands.Form.{Form}
use Rattle.play_format.specs.declared.commands.Form.TheVariants as form
use Rattle.play_format.specs.declared.commands.Command.{Command}
use Rattle.play_format.specs.declared.commands.Command.TheVariants as command
use Rattle.play_format.specs.declared.places.Version.{Version}
use Rattle.play_format.specs.declared.places.Spot.{Spot}
use Rattle.play_format.specs.Words.{words}
use Rattle.play_format.specs.Commands.{form_text, text_of, tail_of, form_limits, limits_of, words_in, all_commands, Entry}
use Rattle.play_format.specs.Places.{AreWithin, may_stand, may_end, is_known, next_spot, channels_after}
use Rattle.play_format.specs.Grammar.{◌>>=◌, numbers_at, switch_form, picked, named, command_at, entry_at, line_at, read_from}
use Rattle.play_format.specs.Spelling.{words_of, line_of, text_of_lines}
use Rattle.play_format.specs.Reads.{Follow}
use Rattle.play_format.proofs.ReadingLemmas.{bytes_yes}
use Rattle.play_format.proofs.EntryLemmas.{bind_ok, both, found_passes, Parts, parts_of, fits_of, edits_stand, channels_within}
use Rattle.play_format.proofs.ReaderLemmas.{line_read}
use Rattle.play_format.proofs.SpellLemmas.{own, is_small, small_number, numbers_spelled, both_true}

-- Limits of 32 bits

small_form : (f : Form) → list_all is_small (form_limits f) ≡ true
small_form form.Group = refl
small_form f = refl

pub small_limits : (n : ℕ) (c : Command) → n ≤ 4 → list_all is_small (limits_of n c) ≡ true
small_limits n command.ChannelView h = rw (le-leb (n - 1) 2147483647 (omega arith)) refl
small_limits n (command.Edit f) h = small_form f
small_limits n c h = refl

-- The words of a line that was read

form_picked_text : (ws : List (List ℕ)) → form_text (switch_form ws) ≡ codes "sw"
form_picked_text [] = refl
form_picked_text (i ∷ []) = refl
form_picked_text (i ∷ v ∷ []) = by_tests (bytes_eq v (codes "on")) (bytes_eq v (codes "off"))
  where
    by_tests : (a b : Bool) → form_text (cond a form.SwitchOn (cond b form.SwitchOff form.SwitchTo)) ≡ codes "sw"
    by_tests true b = refl
    by_tests false true = refl
    by_tests false false = refl
form_picked_text (i ∷ v ∷ w ∷ ws) = refl

picked_text : (ws : List (List ℕ)) (c : Command) → text_of (picked ws c) ≡ text_of c
picked_text ws (command.Edit form.SwitchTo) = form_picked_text ws
picked_text ws c = refl

-- the forms of `sw` with a closing word are not named
abbrev is_listed : Command → Bool
is_listed (command.Edit form.SwitchOn) = false
is_listed (command.Edit form.SwitchOff) = false
is_listed _ = true

found_or : {X : Type 0} (p q : X → Bool) (y x : X) (rest : Option X) (b : Bool) → q y ≡ true → cond b (Some y) rest ≡ Some x → (q x ≡ true) ⊎ (rest ≡ Some x)
found_or p q y x rest true h e = let k : y ≡ x = cc in inl (rw (← k) h)
found_or p q y x rest false h e = inr e

found_all : {X : Type 0} (p q : X → Bool) (xs : List X) (x : X) → find p xs ≡ Some x → list_all q xs ≡ true → q x ≡ true
found_all p q [] x e h = absurd cc
found_all p q (y ∷ ys) x e h =
    let b = both (q y) (list_all q ys) h in
    elim (found_or p q y x (find p ys) (p y) b.0 e) [ inl k ↦ k | inr k ↦ found_all p q ys x k b.1 ]

abbrev tail_at : ℕ → List (List ℕ) → Command → Type 0
tail_at n ws c = length ws ≡ length (limits_of n c) + length (tail_of c) → drop (length (limits_of n c)) ws ≡ tail_of c

no_tail : (n : ℕ) (ws : List (List ℕ)) (c : Command) → tail_of c ≡ [] → tail_at n ws c
no_tail n ws c e h = drop_all (length (limits_of n c)) ws (omega (arith, h, ap length e)) ∙ sym e

switch_tail : (n : ℕ) (i v : List ℕ) (a b : Bool) → bytes_eq v (codes "on") ≡ a → bytes_eq v (codes "off") ≡ b
    → tail_at n (i ∷ v ∷ []) (command.Edit (cond a form.SwitchOn (cond b form.SwitchOff form.SwitchTo)))
switch_tail n i v true b e f h = ap (λ (w : List ℕ). w ∷ []) (bytes_yes v (codes "on") e)
switch_tail n i v false true e f h = ap (λ (w : List ℕ). w ∷ []) (bytes_yes v (codes "off") f)
switch_tail n i v false false e f h = refl

form_tail_is : (n : ℕ) (ws : List (List ℕ)) → tail_at n ws (command.Edit (switch_form ws))
form_tail_is n [] h = absurd (omega (arith, h))
form_tail_is n (i ∷ []) h = absurd (omega (arith, h))
form_tail_is n (i ∷ v ∷ []) h = switch_tail n i v (bytes_eq v (codes "on")) (bytes_eq v (codes "off")) refl refl h
form_tail_is n (i ∷ v ∷ w ∷ ws) h = absurd (omega (arith, h))

tail_is : (n : ℕ) (ws : List (List ℕ)) (d : Command) → is_listed d ≡ true → tail_at n ws (picked ws d)
tail_is n ws (command.Edit form.SwitchTo) e = form_tail_is n ws
tail_is n ws (command.Edit form.SwitchOn) e = absurd cc
tail_is n ws (command.Edit form.SwitchOff) e = absurd cc
tail_is n ws d e = no_tail n ws d refl

abbrev some_words : List ℕ → List (List ℕ) → List (List ℕ)
some_words w ws = w ∷ ws

words_read : (s : Spot) (w : List ℕ) (ws : List (List ℕ)) (o : Option Command) (c : Command) (zs : List ℤ) → named s w ≡ o → ok_or (option_map (picked ws) o) whys.Command ≡ Ok c
    → s.channels ≤ 4 → eqb (length (w ∷ ws)) (words_in s.channels c) ≡ true → numbers_at (limits_of s.channels c) ws ≡ Ok zs → w ∷ ws ≡ words_of (c, zs)
words_read s w ws None c zs h e few count numbers = absurd cc
words_read s w ws (Some d) c zs h e few count numbers =
    let b = both (bytes_eq (text_of d) w) (may_stand s d) (found_passes (λ c. bytes_eq (text_of c) w && may_stand s c) all_commands d h) in
    let listed : is_listed d ≡ true = found_all (λ c. bytes_eq (text_of c) w && may_stand s c) is_listed all_commands d h refl in
    let is : picked ws d ≡ c = cc in
    let first : text_of c ≡ w = ap text_of (sym is) ∙ picked_text ws d ∙ bytes_yes (text_of d) w b.0 in
    let counted = eqb-true _ _ count in
    let tail : drop (length (limits_of s.channels c)) ws ≡ tail_of c = subst (λ (e : Command). tail_at s.channels ws e) is (tail_is s.channels ws d listed) (omega (arith, counted)) in
    let rest : ws ≡ map signed_decimal zs ++ tail_of c = numbers_spelled (limits_of s.channels c) ws zs (small_limits s.channels c few) numbers ∙ ap (λ (t : List (List ℕ)). map signed_decimal zs ++ t) tail in
    ap (λ (v : List ℕ). some_words v ws) (sym first) ∙ ap (some_words (text_of c)) rest

words_of_parts : (s : Spot) (ws : List (List ℕ)) (c : Command) (zs : List ℤ) → s.channels ≤ 4 → Parts s ws c zs → ws ≡ words_of (c, zs)
words_of_parts s [] c zs few p = let e : ok_or (command_at s []) whys.Command ≡ Ok c = p.command in absurd cc
words_of_parts s (w ∷ ws) c zs few p = words_read s w ws (named s w) c zs refl p.command few p.count p.numbers

-- a line that was read is spelled so
pub line_spelled : (s : Spot) (line : List ℕ) (c : Command) (zs : List ℤ) → s.channels ≤ 4 → entry_at s line ≡ Ok (c, zs) → line ≡ line_of (c, zs)
line_spelled s line c zs few e = sym (join_with_byte-slice_split 32 line) ∙ ap (join_with_byte 32) (words_of_parts s (words line) c zs few (parts_of s line c zs e))

-- Lines that were read

empty : (xs : List ℕ) → eqb (length xs) 0 ≡ true → xs ≡ []
empty [] e = refl
empty (x ∷ xs) e = let k = eqb-true _ _ e in absurd (omega (arith, k))

none_more : (xs : List (List ℕ)) → eqb (length xs) 0 ≡ true → xs ≡ []
none_more [] e = refl
none_more (x ∷ xs) e = let k = eqb-true _ _ e in absurd (omega (arith, k))

pub record LinesRead (s : Spot) (n : ℕ) (parts : List (List ℕ)) (es : List Entry) : Type 0 where
  pub spelled : parts ≡ map line_of es ++ [] ∷ []
  pub follow : Follow s es
  pub few : 0 < length es → n + length es ≤ 262145

abbrev entries : List Entry → Result (List Entry) Refusal
entries es = Ok es

end_read : (s : Spot) (n : ℕ) (part : List ℕ) (es : List Entry) (a b : Bool) → eqb (length part) 0 ≡ a → may_end s ≡ b
    → cond a (cond b (Ok []) (Err (record { line = n; why = whys.Count }))) (Err (record { line = n; why = cond (nat_lt 262144 n) whys.Count whys.Length })) ≡ entries es → LinesRead s n (part ∷ []) es
end_read s n part es true true e f h =
    let k : [] ≡ es = cc in
    subst (λ (xs : List Entry). LinesRead s n (part ∷ []) xs) k (record { spelled = ap (λ (w : List ℕ). w ∷ []) (empty part e); follow = f; few = λ lt. absurd (omega (arith, lt)) })
end_read s n part es true false e f h = absurd cc
end_read s n part es false b e f h = absurd cc

pub some_channels : (s : Spot) (c : Command) (zs : List ℤ) → 1 ≤ channels_after c zs s.channels → 1 ≤ (next_spot s c zs).channels
unfolding next_spot
some_channels s c zs h = h

pub few_channels : (s : Spot) (c : Command) (zs : List ℤ) → channels_after c zs s.channels ≤ 4 → (next_spot s c zs).channels ≤ 4
unfolding next_spot
few_channels s c zs h = h

pub lines_read : (s : Spot) (n : ℕ) (line : List ℕ) (more : List (List ℕ)) (es : List Entry) → 1 ≤ s.channels → s.channels ≤ 4 → read_from s n (line ∷ more) ≡ Ok es → LinesRead s n (line ∷ more) es
unfolding read_from
lines_read s n line [] es some few e = end_read s n line es (eqb (length line) 0) (may_end s) refl refl e
lines_read s n line (next ∷ more) es some few e =
    let entry = bind_ok (line_at n line (entry_at s line)) (λ e. read_from (next_spot s e.0 e.1) (n + 1) (next ∷ more) >>= λ es. Ok (e ∷ es)) es (rw (some_length next more) at e) in
    let c = entry.0.0 in
    let zs = entry.0.1 in
    let one = line_read n line (entry_at s line) entry.0 entry.1 in
    let rest = bind_ok (read_from (next_spot s c zs) (n + 1) (next ∷ more)) (λ es. Ok (entry.0 ∷ es)) es entry.2 in
    let fits = fits_of s line c zs one.1 in
    let channels = channels_within s.channels c zs some few fits.within in
    let behind = lines_read (next_spot s c zs) (n + 1) next more rest.0 (some_channels s c zs channels.0) (few_channels s c zs channels.1) rest.1 in
    let is : entry.0 ∷ rest.0 ≡ es = cc in
    subst (λ (xs : List Entry). LinesRead s n (line ∷ next ∷ more) xs) is (record {
      spelled = ap (λ (w : List ℕ). w ∷ next ∷ more) (line_spelled s line c zs few one.1) ∙ ap (λ (ws : List (List ℕ)). line_of entry.0 ∷ ws) behind.spelled;
      follow = (fits, behind.follow);
      few = λ lt. few_lines n (length rest.0) one.0 behind.few;
    })
  where
    some_length : (x : List ℕ) (xs : List (List ℕ)) → eqb (length (x ∷ xs)) 0 ≡ false
    some_length x xs = ne_eqb _ _ (λ e. absurd (omega (arith, e)))

    few_lines : (n k : ℕ) → n ≤ 262144 → (0 < k → n + 1 + k ≤ 262145) → n + suc k ≤ 262145
    few_lines n zero h f = omega (arith, h)
    few_lines n (suc k) h f = omega (arith, f (omega arith))

pub join_lines : (ls : List (List ℕ)) → join_with_byte 10 (ls ++ [] ∷ []) ≡ text_of_lines ls
join_lines [] = refl
join_lines (l ∷ ls) = join_more l ls (join_lines ls)
  where
    join_more : (l : List ℕ) (ls : List (List ℕ)) → join_with_byte 10 (ls ++ [] ∷ []) ≡ text_of_lines ls → join_with_byte 10 (l ∷ (ls ++ [] ∷ [])) ≡ (l ++ 10 ∷ []) ++ text_of_lines ls
    join_more l [] h = sym (append-nil (l ++ 10 ∷ []))
    join_more l (m ∷ ls) h = ap (λ (t : List ℕ). l ++ (10 ∷ t)) h ∙ sym (append_assoc l (10 ∷ []) (text_of_lines (m ∷ ls)))

-- The spelling is read again

-- a word without a space or a line feed
abbrev pub is_clear : List ℕ → Bool
is_clear w = list_all (λ b. not (eqb b 32) && not (eqb b 10)) w

-- what passes a test passes a weaker one
weaker : (p q : ℕ → Bool) (xs : List ℕ) → ((x : ℕ) → p x ≡ true → q x ≡ true) → list_all p xs ≡ true → list_all q xs ≡ true
weaker p q [] h e = refl
weaker p q (x ∷ xs) h e = let b = both (p x) (list_all p xs) e in both_true (q x) (list_all q xs) (h x b.0) (weaker p q xs h b.1)

digit_clear : (b : ℕ) → is_ascii_digit b ≡ true → (not (eqb b 32) && not (eqb b 10)) ≡ true
digit_clear b e =
    let low : 48 ≤ b = digit_low b e in
    rw (ne_eqb b 32 (λ k. absurd (omega (arith, k, low))), ne_eqb b 10 (λ k. absurd (omega (arith, k, low)))) refl
  where
    digit_low : (b : ℕ) → is_ascii_digit b ≡ true → 48 ≤ b
    digit_low b e = search rules

number_clear : (z : ℤ) → unsigned_abs z < 2 ^ 32 → is_clear (signed_decimal z) ≡ true
number_clear (pos n) h = weaker is_ascii_digit _ (decimal n) digit_clear (digits_decimal own n (omega arith))
number_clear (negsuc n) h = weaker is_ascii_digit _ (decimal (suc n)) digit_clear (digits_decimal own (suc n) (omega arith))

form_clear : (f : Form) → is_clear (form_text f) ≡ true
form_clear form.Group = refl
form_clear f = refl

text_clear : (c : Command) → is_clear (text_of c) ≡ true
text_clear (command.Edit f) = form_clear f
text_clear c = refl

tail_clear : (c : Command) → list_all is_clear (tail_of c) ≡ true
tail_clear (command.Edit form.SwitchOn) = refl
tail_clear (command.Edit form.SwitchOff) = refl
tail_clear (command.Edit f) = refl
tail_clear c = refl

numbers_clear : (rs : List Limits) (zs : List ℤ) → list_all is_small rs ≡ true → AreWithin rs zs → list_all is_clear (map signed_decimal zs) ≡ true
numbers_clear [] [] s w = refl
numbers_clear [] (z ∷ zs) s w = absurd w
numbers_clear (r ∷ rs) [] s w = absurd w
numbers_clear (r ∷ rs) (z ∷ zs) s w =
    let b = both (is_small r) (list_all is_small rs) s in
    both_true (is_clear (signed_decimal z)) (list_all is_clear (map signed_decimal zs)) (number_clear z (small_number r z b.0 w.0)) (numbers_clear rs zs b.1 w.1)

pub words_clear : (n : ℕ) (c : Command) (zs : List ℤ) → n ≤ 4 → AreWithin (limits_of n c) zs → list_all is_clear (words_of (c, zs)) ≡ true
words_clear n c zs few w =
    both_true (is_clear (text_of c)) (list_all is_clear (map signed_decimal zs ++ tail_of c)) (text_clear c)
    (list_all-append is_clear (map signed_decimal zs) (tail_of c) ∙ both_true (list_all is_clear (map signed_decimal zs)) (list_all is_clear (tail_of c)) (numbers_clear (limits_of n c) zs (small_limits n c few) w) (tail_clear c))

-- no byte of the kind
abbrev pub has_no : ℕ → List ℕ → Bool
has_no b w = list_all (λ x. not (eqb x b)) w

no_space : (w : List ℕ) → is_clear w ≡ true → has_no 32 w ≡ true
no_space w e = weaker _ (λ x. not (eqb x 32)) w (λ x k. (both (not (eqb x 32)) (not (eqb x 10)) k).0) e

pub no_feed : (w : List ℕ) → is_clear w ≡ true → has_no 10 w ≡ true
no_feed w e = weaker _ (λ x. not (eqb x 10)) w (λ x k. (both (not (eqb x 32)) (not (eqb x 10)) k).1) e

not_false : (b : Bool) → not b ≡ true → b ≡ false
not_false true e = absurd cc
not_false false e = refl

pub each_fails : (b : ℕ) (w : List ℕ) → has_no b w ≡ true → All (λ x. eqb x b ≡ false) w
each_fails b w e k d lt = not_false (eqb (get_or w k d) b) (AllPass-from_list_all (λ x. not (eqb x b)) w e k d lt)

-- words that are joined are cut again
pub words_cut : (w : List ℕ) (ws : List (List ℕ)) → list_all is_clear (w ∷ ws) ≡ true → words (join_with_byte 32 (w ∷ ws)) ≡ w ∷ ws
words_cut w [] e = slice_split_none (λ b. eqb b 32) w (each_fails 32 w (no_space w (both (is_clear w) true e).0))
words_cut w (v ∷ ws) e =
    let b = both (is_clear w) (list_all is_clear (v ∷ ws)) e in
    slice_split_at (λ b. eqb b 32) w 32 (join_with_byte 32 (v ∷ ws)) (each_fails 32 w (no_space w b.0)) refl ∙ ap (λ (xs : List (List ℕ)). w ∷ xs) (words_cut v ws b.1)

-- the command of a form of `sw` is named by the one without a closing word
abbrev pub listed_form : Form → Form
listed_form form.SwitchOn = form.SwitchTo
listed_form form.SwitchOff = form.SwitchTo
listed_form f = f

abbrev pub listed : Command → Command
listed (command.Edit f) = command.Edit (listed_form f)
listed c = c

same_known : (v : Version) (f : Form) → is_known v (listed_form f) ≡ is_known v f
same_known v form.SwitchOn = refl
same_known v form.SwitchOff = refl
same_known v f = refl

pub listed_stands : (s : Spot) (c : Command) → may_stand s c ≡ true → may_stand s (listed c) ≡ true
listed_stands s (command.Edit f) e = edits_stand s (listed_form f) f (same_known s.version f) ∙ e
listed_stands s c e = e

form_named : (s : Spot) (f : Form) → may_stand s (command.Edit (listed_form f)) ≡ true → named s (form_text f) ≡ Some (command.Edit (listed_form f))
form_named s form.Group e = rw e refl
form_named s f e = rw e refl

pub named_again : (s : Spot) (c : Command) → may_stand s (listed c) ≡ true → named s (text_of c) ≡ Some (listed c)
named_again s (command.Edit f) e = form_named s f e
named_again s c e = rw e refl
