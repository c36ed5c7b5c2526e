-- What is known of a live text that was read.
use Rattle.std.proofs.Common.{◌≡◌, ℕ, ◌+◌, ◌<◌, ◌≤◌, arith, refl, true, false, cond, ap, sym, ◌∙◌, Bool, List, [], ◌∷◌, ◌++◌, length, subst, Result, Ok, Err, Option, Some, None, append_assoc, eqb, ltb, ◌⊎◌, inl, inr}
use Rattle.std.specs.Prelude.{codes}
use Rattle.std.specs.Str.{bytes_eq}
use Rattle.std.specs.List.{onto_first}
use Rattle.std.proofs.lemmas.Bool.{eqb-true}
use Rattle.std.proofs.lemmas.List.{length-append}
use Rattle.std.proofs.lemmas.List.Splits.{length-slice_split}
use Rattle.play_format.specs.declared.refusal.Why.{Why}
use Rattle.play_format.specs.declared.refusal.Why.TheVariants as whys
use Rattle.play_format.specs.declared.refusal.Refusal.{Refusal}
use Rattle.play_format.specs.declared.places.Spot.{Spot}
use Rattle.play_format.specs.Words.{pieces}
use Rattle.play_format.specs.Commands.{Entry, limits_of}
use Rattle.play_format.specs.Places.{may_end, AreWithin, Fits}
use Rattle.play_format.specs.Grammar.{◌>>=◌, at_line, entry_at}
use Rattle.play_format.proofs.EntryLemmas.{bind_ok, fits_of, channels_within}
use Rattle.play_format.proofs.OneLemmas.{AllWithin}
use Rattle.live_text.specs.LiveGrammar.{first_word, is_barred, spot_for, live_entry_at, entries_at, spot_behind, live_judged, live_from, end_refusal, unless}
use Rattle.live_text.proofs.Fitting.{not_wrong}
use Rattle.live_text.proofs.LawLemmas.{from_line, from_last}

-- One line

abbrev pub read_entries : List Entry → Result (List Entry) Why
read_entries es = Ok es

abbrev pub text_entries : List Entry → Result (List Entry) Refusal
text_entries es = Ok es

abbrev read_entry : Entry → Result (List Entry) Why
read_entry e = Ok (e ∷ [])

-- the first line has no entry, and another has one
pub entries_by : (a b : Bool) (r : Result Entry Why) (es : List Entry) → cond a (cond b (read_entries []) (Err whys.Version)) (r >>= read_entry) ≡ read_entries es
    → ((a ≡ true) × (b ≡ true) × (es ≡ [])) ⊎ ((a ≡ false) × (e : Entry) × (r ≡ Ok e) × (es ≡ e ∷ []))
entries_by true true r es e = let k : [] ≡ es = cc in inl (refl, refl, sym k)
entries_by true false r es e = absurd cc
entries_by false b (Ok x) es e = let k : x ∷ [] ≡ es = cc in inr (refl, x, refl, sym k)
entries_by false b (Err why) es e = absurd cc

judged_ok : (a b : Bool) (r : Result (List Entry) Why) (es : List Entry) → cond a (Err whys.Count) (cond b (Err whys.Length) r) ≡ read_entries es → r ≡ read_entries es
judged_ok true b r es e = absurd cc
judged_ok false true r es e = absurd cc
judged_ok false false r es e = e

pub live_judged_ok : (n : ℕ) (line : List ℕ) (r : Result (List Entry) Why) (es : List Entry) → live_judged n line r ≡ read_entries es → r ≡ read_entries es
live_judged_ok n line r es e = judged_ok (ltb 536870911 n) (ltb 1024 (length line)) r es e

at_ok : (n : ℕ) (r : Result (List Entry) Why) (es : List Entry) → at_line n r ≡ text_entries es → r ≡ read_entries es
at_ok n (Ok x) es e = let k : x ≡ es = cc in ap read_entries k
at_ok n (Err why) es e = absurd cc

-- the first of several lines that were read
pub record LineFirst (s : Spot) (n : ℕ) (line : List ℕ) (left : List (List ℕ)) (fs : List Entry) : Type 0 where
  pub es : List Entry
  pub gs : List Entry
  pub judged : live_judged n line (entries_at n s line) ≡ Ok es
  pub behind : live_from (spot_behind s es) (n + 1) left ≡ Ok gs
  pub whole : fs ≡ es ++ gs

pub line_first : (s : Spot) (n : ℕ) (line : List ℕ) (left : List (List ℕ)) (fs : List Entry) → 0 < length left → live_from s n (line ∷ left) ≡ Ok fs → LineFirst s n line left fs
line_first s n line left fs some e =
    let j = live_judged n line (entries_at n s line) in
    let a = bind_ok (at_line n j) (λ es. live_from (spot_behind s es) (n + 1) left >>= λ gs. Ok (es ++ gs)) fs (sym (from_line s n line left j some refl) ∙ e) in
    let b = bind_ok (live_from (spot_behind s a.0) (n + 1) left) (λ gs. Ok (a.0 ++ gs)) fs a.2 in
    let k : a.0 ++ b.0 ≡ fs = cc in
    record { es = a.0; gs = b.0; judged = at_ok n j a.0 a.1; behind = b.1; whole = sym k }

-- the last piece of a text that was read is empty, where the text may end

abbrev end_by : ℕ → Bool → Bool → Why → Result (List Entry) Refusal
end_by n a b why = unless (cond a (cond b None (Some (record { line = n; why = whys.Count }))) (Some (record { line = n; why = why }))) []

end_ok : (n : ℕ) (a b : Bool) (why : Why) (es : List Entry) → end_by n a b why ≡ text_entries es → (a ≡ true) × (es ≡ [])
end_ok n true true why es e = let k : [] ≡ es = cc in (refl, sym k)
end_ok n true false why es e = absurd cc
end_ok n false b why es e = absurd cc

empty : (xs : List ℕ) → eqb (length xs) 0 ≡ true → xs ≡ []
empty [] e = refl
empty (x ∷ xs) e = let k = eqb-true _ _ e in absurd (omega (arith, k))

pub last_read : (s : Spot) (n : ℕ) (rest : List ℕ) (es : List Entry) → live_from s n (rest ∷ []) ≡ Ok es → (rest ≡ []) × (es ≡ [])
last_read s n rest es e =
    let k = end_ok n (eqb (length rest) 0) (may_end s) (cond (ltb 536870911 n) whys.Count whys.Length) es (sym (from_last s n rest) ∙ e) in
    (empty rest k.0, k.1)

pub none_read : (s : Spot) (n : ℕ) (es : List Entry) → live_from s n [] ≡ Ok es → es ≡ []
unfolding live_from
none_read s n es e = let k : [] ≡ es = cc in sym k

-- The numbers of the lines are within their limits

pub entry_fits : (s : Spot) (line : List ℕ) (e : Entry) → live_entry_at s line ≡ Ok e → (entry_at (spot_for s (first_word line)) line ≡ Ok e) × Fits (spot_for s (first_word line)) e.0 e.1
unfolding live_entry_at
entry_fits s line e h =
    let w = first_word line in
    let n = not_wrong (is_barred w) whys.Command (entry_at (spot_for s w) line) e h in
    (n.1, fits_of (spot_for s w) line e.0 e.1 n.1)

pub record LineWithin (s : Spot) (es : List Entry) : Type 0 where
  pub within : AllWithin es
  pub some : 1 ≤ (spot_behind s es).channels
  pub few : (spot_behind s es).channels ≤ 4

pub line_within : (n : ℕ) (s : Spot) (line : List ℕ) (es : List Entry) → 1 ≤ s.channels → s.channels ≤ 4 → entries_at n s line ≡ Ok es → LineWithin s es
line_within n s line es some few h = elim (entries_by (eqb n 1) (bytes_eq line (codes "perfly live 1")) (live_entry_at s line) es h) [
  | inl k ↦ subst (λ (xs : List Entry). LineWithin s xs) (sym k.2) (record { within = tt; some = some; few = few })
  | inr k ↦ subst (λ (xs : List Entry). LineWithin s xs) (sym k.3) (one k.1 (entry_fits s line k.1 k.2).1.within)
]
  where
    one : (e : Entry) → AreWithin (limits_of s.channels e.0) e.1 → LineWithin s (e ∷ [])
    one e w =
        let c = channels_within s.channels e.0 e.1 some few w in
        record { within = (record { channels = s.channels; few = few; within = w }, tt); some = c.0; few = c.1 }

within_both : (xs ys : List Entry) → AllWithin xs → AllWithin ys → AllWithin (xs ++ ys)
within_both [] ys h k = k
within_both (x ∷ xs) ys h k = (h.0, within_both xs ys h.1 k)

some_more : (x : List ℕ) (xs : List (List ℕ)) → 0 < length (x ∷ xs)
some_more x xs = omega arith

-- all numbers of a text that was read are
pub all_within : (s : Spot) (n : ℕ) (parts : List (List ℕ)) (es : List Entry) → 1 ≤ s.channels → s.channels ≤ 4 → live_from s n parts ≡ Ok es → AllWithin es
all_within s n [] es some few e = subst AllWithin (sym (none_read s n es e)) tt
all_within s n (line ∷ []) es some few e = subst AllWithin (sym (last_read s n line es e).1) tt
all_within s n (line ∷ next ∷ more) es some few e =
    let f = line_first s n line (next ∷ more) es (some_more next more) e in
    let w = line_within n s line f.es some few (live_judged_ok n line (entries_at n s line) f.es f.judged) in
    subst AllWithin (sym f.whole) (within_both f.es f.gs w.within (all_within (spot_behind s f.es) (n + 1) (next ∷ more) f.gs w.some w.few f.behind))

-- A text, and more behind it

-- a text that was read ends with an empty piece
pub ends_empty : (s : Spot) (n : ℕ) (parts : List (List ℕ)) (es : List Entry) → 0 < length parts → live_from s n parts ≡ Ok es → (front : List (List ℕ)) × (parts ≡ front ++ [] ∷ [])
ends_empty s n [] es some e = absurd (omega (arith, some))
ends_empty s n (line ∷ []) es some e = ([], ap (λ (l : List ℕ). l ∷ []) (last_read s n line es e).0)
ends_empty s n (line ∷ next ∷ more) es some e =
    let f = line_first s n line (next ∷ more) es (some_more next more) e in
    let k = ends_empty (spot_behind s f.es) (n + 1) (next ∷ more) f.gs (some_more next more) f.behind in
    (line ∷ k.0, ap (λ (ls : List (List ℕ)). line ∷ ls) k.1)

pub read_front : (s : Spot) (n : ℕ) (front rest : List (List ℕ)) (es fs : List Entry) → 0 < length rest → live_from s n (front ++ [] ∷ []) ≡ Ok es → live_from s n (front ++ rest) ≡ Ok fs → (gs : List Entry) × (fs ≡ es ++ gs)
read_front s n [] rest es fs some e f = (fs, ap (λ (xs : List Entry). xs ++ fs) (sym (last_read s n [] es e).1))
read_front s n (line ∷ front) rest es fs some e f =
    let a = line_first s n line (front ++ [] ∷ []) es (omega (arith, length-append front ([] ∷ []))) e in
    let b = line_first s n line (front ++ rest) fs (omega (arith, length-append front rest, some)) f in
    let j : read_entries a.es ≡ read_entries b.es = sym a.judged ∙ b.judged in
    let same : a.es ≡ b.es = cc in
    let behind : live_from (spot_behind s b.es) (n + 1) (front ++ [] ∷ []) ≡ Ok a.gs = subst (λ (xs : List Entry). live_from (spot_behind s xs) (n + 1) (front ++ [] ∷ []) ≡ Ok a.gs) same a.behind in
    let k = read_front (spot_behind s b.es) (n + 1) front rest a.gs b.gs some behind b.behind in
    (k.0, b.whole ∙ ap (λ (xs : List Entry). xs ++ b.gs) (sym same) ∙ ap (λ (xs : List Entry). a.es ++ xs) k.1 ∙ sym (append_assoc a.es a.gs k.0) ∙ ap (λ (xs : List Entry). xs ++ k.0) (sym a.whole))

pub some_pieces : (text : List ℕ) → 0 < length (pieces text)
some_pieces text = omega (arith, length-slice_split (λ b. eqb b 10) text)

first_same : (x y : List ℕ) (xs ys : List (List ℕ)) → x ∷ xs ≡ y ∷ ys → x ≡ y
first_same x y xs ys e = cc

rest_same : (x y : List ℕ) (xs ys : List (List ℕ)) → x ∷ xs ≡ y ∷ ys → xs ≡ ys
rest_same x y xs ys e = cc

-- pieces, of which a byte goes onto the first where it is no line feed
abbrev onto : Bool → ℕ → List (List ℕ) → List (List ℕ)
onto b x ps = cond b ([] ∷ ps) (onto_first x ps)

onto_more : (b : Bool) (x : ℕ) (ps front rest qs : List (List ℕ)) → 0 < length ps → onto b x ps ≡ front ++ [] ∷ [] → ((fs : List (List ℕ)) → ps ≡ fs ++ [] ∷ [] → qs ≡ fs ++ rest) → onto b x qs ≡ front ++ rest
onto_more b x [] front rest qs some e f = absurd (omega (arith, some))
onto_more true x (p ∷ ps) [] rest qs some e f = let k = rest_same [] [] (p ∷ ps) [] e in absurd cc
onto_more true x (p ∷ ps) (r ∷ front) rest qs some e f =
    ap (λ (ls : List (List ℕ)). [] ∷ ls) (f front (rest_same [] r (p ∷ ps) (front ++ [] ∷ []) e)) ∙ ap (λ (l : List ℕ). l ∷ (front ++ rest)) (first_same [] r (p ∷ ps) (front ++ [] ∷ []) e)
onto_more false x (p ∷ ps) [] rest qs some e f = let k = first_same (x ∷ p) [] ps [] e in absurd cc
onto_more false x (p ∷ ps) (r ∷ front) rest qs some e f =
    ap (onto_first x) (f (p ∷ front) (ap (λ (ls : List (List ℕ)). p ∷ ls) (rest_same (x ∷ p) r ps (front ++ [] ∷ []) e)))
    ∙ ap (λ (l : List ℕ). l ∷ (front ++ rest)) (first_same (x ∷ p) r ps (front ++ [] ∷ []) e)

pub pieces_more : (text more : List ℕ) (front : List (List ℕ)) → pieces text ≡ front ++ [] ∷ [] → pieces (text ++ more) ≡ front ++ pieces more
pieces_more [] more [] e = refl
pieces_more [] more (p ∷ front) e = absurd (omega (arith, ap (λ (ls : List (List ℕ)). length ls) e, length-append front ([] ∷ [])))
pieces_more (x ∷ text) more front e = onto_more (eqb x 10) x (pieces text) front (pieces more) (pieces (text ++ more)) (some_pieces text) e (pieces_more text more)
