-- Triangle lines that are read before their turn.
use Rattle.std.proofs.Common.{◌≡◌, ℕ, ◌+◌, ◌-◌, ◌<◌, ◌≤◌, arith, refl, true, false, Bool, cond, ap, sym, ◌∙◌, List, [], ◌∷◌, ◌++◌, length, drop, subst, Ok, ℤ}
use Rattle.std.specs.Prelude.{codes, nat_le}
use Rattle.std.proofs.lemmas.Bool.{lt-ltb, le-ltb}
use Rattle.std.proofs.lemmas.Bool.Decides.{nat_tests}
use Rattle.std.specs.List.{All}
use Rattle.std.proofs.lemmas.List.Elements.{All-append}
use Rattle.std.proofs.lemmas.List.{length-append, length-drop, drop-drop}
use Rattle.play_format.specs.declared.commands.Command.TheVariants as command
use Rattle.play_format.specs.declared.places.Spot.{Spot}
use Rattle.play_format.specs.declared.places.Version.TheVariants as version
use Rattle.play_format.specs.declared.places.Place.TheVariants as place
use Rattle.pf_model.specs.declared.geometry.Tri.{Tri}
use Rattle.play_format.specs.Words.{words, pieces}
use Rattle.play_format.specs.Commands.{limits_of}
use Rattle.play_format.specs.Places.{next_spot, AreWithin}
use Rattle.play_format.specs.Grammar.{numbers_at, entry_at, line_at}
use Rattle.play_format.specs.Spelling.{tri_entry}
use Rattle.play_format.specs.Making.{tri_of}
use Rattle.play_format.specs.Rests.{IsSound, stand}
use Rattle.play_format.specs.Sections.{LineRead, TriangleRead, TrianglesRead}
use Rattle.play_format.specs.Early.{IsTriangleLine, TrianglesSoFar, past_triangles, AreLines, last, IsEnd, AreEarly}
use Rattle.play_format.proofs.BackLemmas.{tri_back}
use Rattle.play_format.proofs.EntryLemmas.{fits_of}
use Rattle.play_format.proofs.ReaderLemmas.{unread_more}
use Rattle.play_format.proofs.SectionLemmas.{no_triangles, triangle_more, triangles_done}

-- a fact of each element of two lists holds of each of one behind the other, where that was put there
pub all_of_both : {X : Type 0} (P : X → Type 0) (put : Bool) (xs ys : List X) → All P xs → All P ys → All P (cond put (xs ++ ys) xs)
all_of_both P true xs ys h k = All-append P xs ys h k
all_of_both P false xs ys h k = h

-- what stands behind a place is an end
pub end_of : (text : List ℕ) (k : ℕ) → k ≤ length text → IsEnd text (drop k text)
end_of text k h =
    let same : k ≡ length text - length (drop k text) = omega (arith, length-drop k text, h) in
    record { is = ap (λ (n : ℕ). drop n text) same; inside = omega (arith, length-drop k text) }

-- an end of an end is an end
pub end_of_end : (a b c : List ℕ) → IsEnd a b → IsEnd b c → IsEnd a c
end_of_end a b c h k =
    let i : length b ≤ length a = h.inside in
    let j : length c ≤ length b = k.inside in
    let same : (length a - length b) + (length b - length c) ≡ length a - length c = omega (arith, i, j) in
    let one : c ≡ drop (length b - length c) (drop (length a - length b) a) = k.is ∙ ap (λ (xs : List ℕ). drop (length b - length c) xs) h.is in
    record {
      is = one ∙ drop-drop (length b - length c) (length a - length b) a ∙ ap (λ (n : ℕ). drop n a) same;
      inside = omega (arith, i, j);
    }

-- a text is an end of itself
pub end_whole : (text : List ℕ) → IsEnd text text
end_whole text =
    let none : length text - length text ≡ 0 = omega arith in
    record { is = sym (ap (λ (n : ℕ). drop n text) none); inside = omega arith }

-- a line with the numbers of a triangle
pub triangle_line : (line : List ℕ) (ws : List (List ℕ)) (zs : List ℤ) → length line ≤ 1024 → words line ≡ codes "t" ∷ ws → length ws ≡ 18
    → numbers_at (limits_of 1 command.Triangle) ws ≡ Ok zs → IsTriangleLine line zs
unfolding entry_at
triangle_line line ws zs short split count numbers = record { short = short; read = reads }
  where
    reads : (s : Spot) → IsSound s → 0 < s.due → entry_at s line ≡ Ok (command.Triangle, zs)
    reads s sound due =
        let room : nat_le (s.triangles + 0) 65536 ≡ true = grind (arith, nat_tests, sound.triangles) in
        rw (split, lt-ltb 0 s.due due, count, numbers, room) refl

-- the numbers of a line with those of a triangle are within their limits
pub triangle_within : (line : List ℕ) (zs : List ℤ) → IsTriangleLine line zs → AreWithin (limits_of 0 command.Triangle) zs
triangle_within line zs h =
    let s : Spot = record { version = version.One; place = place.App; channels = 1; due = 1; triangles = 0 } in
    let sound : IsSound s = record { some_channel = omega arith; channels = omega arith; triangles = omega arith; due = omega arith } in
    (fits_of s line command.Triangle zs (h.read s sound (omega arith))).within

-- a triangle line that is read where one is due
line_read : (s : Spot) (n : ℕ) (rest line behind : List ℕ) (zs : List ℤ) → IsSound s → 0 < s.due → n ≤ 262144 → pieces rest ≡ line ∷ pieces behind
    → length line + length behind + 1 ≡ length rest → IsTriangleLine line zs
    → TriangleRead (stand s n rest) (stand (next_spot s command.Triangle []) (n + 1) behind) (tri_of zs)
unfolding next_spot
line_read s n rest line behind zs sound due few split long is =
    let back : (tri_entry (tri_of zs)).1 ≡ zs = tri_back zs (triangle_within line zs is) in
    let entry : entry_at s line ≡ Ok (command.Triangle, zs) = is.read s sound due in
    let at : line_at n line (entry_at s line) ≡ Ok (command.Triangle, zs) =
    rw (le-ltb 262144 n few, le-ltb 1024 (length line) is.short, entry) refl in
    let told = unread_more s n rest line behind command.Triangle zs split at in
    let read : LineRead (stand s n rest) (stand (next_spot s command.Triangle []) (n + 1) behind) command.Triangle zs = record {
      told = told;
      fits = fits_of s line command.Triangle zs entry;
      spot = refl;
      line = refl;
      shorter = omega (arith, long);
    } in
    record { read = rw back read; written = (record { rows = refl }, tt) }

-- no lines
pub no_lines : (a : List ℕ) → AreLines a a []
no_lines a = record {
  read = λ s n sound due few. subst (λ (t : Spot). TrianglesSoFar (stand s n a) (stand t (n + 0) a) []) (ap (λ (d : ℕ). record s { due = d }) (same s.due))
      (subst (λ (m : ℕ). TrianglesSoFar (stand s n a) (stand s m a) []) (more n) (no_triangles (stand s n a)));
}
  where
    same : (d : ℕ) → d ≡ d - 0
    same d = omega arith

    more : (m : ℕ) → m ≡ m + 0
    more m = omega arith

-- one line more
pub line_more : (a b line behind : List ℕ) (ts : List Tri) (zs : List ℤ) → AreLines a b ts → pieces b ≡ line ∷ pieces behind
    → length line + length behind + 1 ≡ length b → IsTriangleLine line zs → AreLines a behind (ts ++ tri_of zs ∷ [])
unfolding next_spot
line_more a b line behind ts zs h split long is = record { read = reads }
  where
    reads : (s : Spot) (n : ℕ) → IsSound s → length (ts ++ tri_of zs ∷ []) ≤ s.due → n + length (ts ++ tri_of zs ∷ []) ≤ 262145
        → TrianglesSoFar (stand s n a) (stand (past_triangles s (length (ts ++ tri_of zs ∷ []))) (n + length (ts ++ tri_of zs ∷ [])) behind) (ts ++ tri_of zs ∷ [])
    reads s n sound due few =
        let k : ℕ = length ts in
        let all : List Tri = ts ++ tri_of zs ∷ [] in
        let more : length all ≡ k + 1 = length-append ts (tri_of zs ∷ []) in
        let t : Spot = past_triangles s k in
        let one : TrianglesSoFar (stand s n a) (stand t (n + k) b) ts = h.read s n sound (omega (arith, due, more)) (omega (arith, few, more)) in
        let sound_there : IsSound t = record { some_channel = sound.some_channel; channels = sound.channels; triangles = sound.triangles; due = omega (arith, sound.due) } in
        let still : 0 < t.due = omega (arith, due, more) in
        let next = line_read t (n + k) b line behind zs sound_there still (omega (arith, few, more)) split long is in
        let read : TrianglesSoFar (stand s n a) (stand (next_spot t command.Triangle []) (n + k + 1) behind) all = triangle_more (stand s n a) (stand t (n + k) b) (stand (next_spot t command.Triangle []) (n + k + 1) behind) ts (tri_of zs) one still next in
        let fewer : s.due - k - 1 ≡ s.due - length all = omega (arith, more) in
        let none : s.triangles + 0 ≡ s.triangles = omega arith in
        let spot : next_spot t command.Triangle [] ≡ past_triangles s (length all) =
        ap (λ (d : ℕ). record s { due = d; triangles = s.triangles + 0 }) fewer ∙ ap (λ (m : ℕ). record s { due = s.due - length all; triangles = m }) none in
        let number : n + k + 1 ≡ n + length all = omega (arith, more) in
        subst (λ (u : Spot). TrianglesSoFar (stand s n a) (stand u (n + length all) behind) all) spot
        (subst (λ (m : ℕ). TrianglesSoFar (stand s n a) (stand (next_spot t command.Triangle []) m behind) all) number read)

-- lines that stand at the end of a text
pub early_of : (text rest behind : List ℕ) (ts : List Tri) → IsEnd text rest → IsEnd rest behind → AreLines rest behind ts → AreEarly text (length rest) (length behind) ts
early_of text rest behind ts h k l = record {
  lines = subst (λ (b : List ℕ). AreLines (last (length rest) text) b ts) (end_of_end text rest behind h k).is (subst (λ (a : List ℕ). AreLines a behind ts) h.is l);
  inside = h.inside;
  before = k.inside;
}

-- such lines in their turn, where all that are due are among them
pub early_read : (text rest : List ℕ) (s : Spot) (n at behind : ℕ) (ts : List Tri) → IsSound s → length ts ≡ s.due → n + length ts ≤ 262145 → IsEnd text rest
    → AreEarly text at behind ts → at ≡ length rest → TrianglesRead (stand s n rest) (stand (record s { due = 0 }) (n + length ts) (last behind text)) ts
early_read text rest s n at behind ts sound due few end early here =
    let r : last at text ≡ rest = ap (λ (k : ℕ). last k text) here ∙ sym end.is in
    let none : s.due - length ts ≡ 0 = omega (arith, due) in
    let read : TrianglesSoFar (stand s n rest) (stand (past_triangles s (length ts)) (n + length ts) (last behind text)) ts = rw r at (early.lines.read s n sound (omega (arith, due)) few) in
    let there : TrianglesSoFar (stand s n rest) (stand (record s { due = 0 }) (n + length ts) (last behind text)) ts =
    subst (λ (d : ℕ). TrianglesSoFar (stand s n rest) (stand (record s { due = d }) (n + length ts) (last behind text)) ts) none read in
    triangles_done (stand s n rest) (stand (record s { due = 0 }) (n + length ts) (last behind text)) ts there (omega arith)
