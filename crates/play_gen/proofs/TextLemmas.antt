-- The text of lines, piece by piece.
use Rattle.std.proofs.Common.{◌≡◌, ℕ, ◌+◌, ◌*◌, List, [], ◌∷◌, ◌++◌, map, append-nil, append_assoc, refl, sym, ◌∙◌, ap, ℤ, pos}
use Rattle.std.specs.List.{flat_map, join_with_byte}
use Rattle.std.specs.Fmt.{signed_decimal}
use Rattle.std.proofs.lemmas.List.Concat.{flat_map-append}
use Rattle.std.proofs.lemmas.List.Folds.{flat_map-map}
use Rattle.play_format.specs.declared.commands.Form.TheVariants as form
use Rattle.play_format.specs.declared.commands.Command.TheVariants as command
use Rattle.play_format.specs.declared.places.Version.TheVariants as version
use Rattle.play_format.specs.Commands.{Entry}
use Rattle.play_format.specs.Spelling.{line_of, version_line}
use Rattle.play_format.specs.Texts.{number_text, numbers_text}
use Rattle.play_gen.specs.Draws.{state_after}
use Rattle.play_gen.specs.Lines.{opening, turn, turns, corner, triangle, triangles, geode, placed, buffer, buffers, generated_lines, generated_text}
use Rattle.play_gen.specs.Texts.{word_line, entry_text, lines_text}
use Rattle.play_gen.proofs.DrawLemmas.{triangles_more, turns_more, buffers_more}

-- a word behind a space
abbrev spaced : List ℕ → List ℕ
spaced w = 32 ∷ w

join_first : (w : List ℕ) (ws : List (List ℕ)) → join_with_byte 32 (w ∷ ws) ≡ w ++ flat_map spaced ws
join_first w [] = sym (append-nil w)
join_first w (v ∷ ws) = ap (λ (t : List ℕ). w ++ (32 ∷ t)) (join_first v ws)

-- the text of a line, from its word on
pub word_line_is : (w : List ℕ) (zs : List ℤ) → word_line w zs ≡ w ++ (numbers_text zs ++ 10 ∷ [])
word_line_is w zs =
    ap (λ (t : List ℕ). t ++ 10 ∷ []) (join_first w (map signed_decimal zs)
    ∙ ap (λ (t : List ℕ). w ++ t) (flat_map-map spaced signed_decimal zs))
    ∙ append_assoc w (numbers_text zs) (10 ∷ [])

pub lines_append : (xs ys : List Entry) → lines_text (xs ++ ys) ≡ lines_text xs ++ lines_text ys
lines_append xs ys = flat_map-append entry_text xs ys

-- lines behind lines
pub adds_then : (a b c : List ℕ) (xs ys : List Entry) → b ≡ a ++ lines_text xs → c ≡ b ++ lines_text ys → c ≡ a ++ lines_text (xs ++ ys)
adds_then a b c xs ys h k =
    k ∙ ap (λ (t : List ℕ). t ++ lines_text ys) h ∙ append_assoc a (lines_text xs) (lines_text ys)
    ∙ ap (λ (t : List ℕ). a ++ t) (sym (lines_append xs ys))

-- one line
pub adds_line : (a b : List ℕ) (e : Entry) → b ≡ a ++ entry_text e → b ≡ a ++ lines_text (e ∷ [])
adds_line a b e h = h ∙ ap (λ (t : List ℕ). a ++ t) (sym (append-nil (entry_text e)))

-- a line before lines
pub adds_first : (a b c : List ℕ) (e : Entry) (es : List Entry) → b ≡ a ++ entry_text e → c ≡ b ++ lines_text es
    → c ≡ a ++ lines_text (e ∷ es)
adds_first a b c e es h k = adds_then a b c (e ∷ []) es (adds_line a b e h) k

-- a triangle line, corner by corner
pub triangle_text : (o a b d e f : List ℕ) (s p q : ℕ) → a ≡ o ++ 116 ∷ [] → b ≡ a ++ numbers_text (corner s)
    → d ≡ b ++ numbers_text (corner p) → e ≡ d ++ numbers_text (corner q) → f ≡ e ++ 10 ∷ []
    → p ≡ state_after 6 s → q ≡ state_after 12 s → f ≡ o ++ entry_text (triangle s)
unfolding triangle
triangle_text o a b d e f s p q ha hb hd he hf hp hq =
    let t = 116 ∷ [] in
    let x = numbers_text (corner s) in
    let y = numbers_text (corner (state_after 6 s)) in
    let z = numbers_text (corner (state_after 12 s)) in
    let all : f ≡ ((((o ++ t) ++ x) ++ y) ++ z) ++ 10 ∷ [] = rw (hf, he, hd, hb, ha, hp, hq) refl in
    let zs : List ℤ = corner s ++ (corner (state_after 6 s) ++ corner (state_after 12 s)) in
    let numbers : numbers_text zs ≡ x ++ (y ++ z) =
    flat_map-append number_text (corner s) (corner (state_after 6 s) ++ corner (state_after 12 s))
    ∙ ap (λ (u : List ℕ). x ++ u) (flat_map-append number_text (corner (state_after 6 s)) (corner (state_after 12 s))) in
    let line : entry_text (command.Triangle, zs) ≡ t ++ ((x ++ (y ++ z)) ++ 10 ∷ []) =
    ap (λ (ws : List (List ℕ)). join_with_byte 32 (t ∷ ws) ++ 10 ∷ []) (append-nil (map signed_decimal zs))
    ∙ word_line_is t zs ∙ ap (λ (u : List ℕ). t ++ (u ++ 10 ∷ [])) numbers in
    all ∙ moved o t x y z ∙ ap (λ (u : List ℕ). o ++ u) (sym line)
  where
    moved : (o t x y z : List ℕ) → ((((o ++ t) ++ x) ++ y) ++ z) ++ 10 ∷ [] ≡ o ++ (t ++ ((x ++ (y ++ z)) ++ 10 ∷ []))
    moved o t x y z =
        rw (append_assoc o t x, append_assoc o (t ++ x) y, append_assoc o ((t ++ x) ++ y) z)
        (rw (append_assoc o (((t ++ x) ++ y) ++ z) (10 ∷ []), append_assoc t x y, append_assoc t (x ++ y) z)
        (rw (append_assoc t ((x ++ y) ++ z) (10 ∷ []), append_assoc x y z) refl))

-- one triangle more
pub triangles_text : (o a b : List ℕ) (k s d : ℕ) → a ≡ o ++ lines_text (triangles k s) → d ≡ state_after (18 * k) s
    → b ≡ a ++ entry_text (triangle d) → b ≡ o ++ lines_text (triangles (k + 1) s)
triangles_text o a b k s d h e m =
    let last : b ≡ a ++ entry_text (triangle (state_after (18 * k) s)) = m ∙ ap (λ (n : ℕ). a ++ entry_text (triangle n)) e in
    adds_then o a b (triangles k s) (triangle (state_after (18 * k) s) ∷ []) h (adds_line a b (triangle (state_after (18 * k) s)) last)
    ∙ ap (λ (es : List Entry). o ++ lines_text es) (sym (triangles_more k s))

-- one turn more
pub turns_text : (o a b : List ℕ) (k : ℕ) → a ≡ o ++ lines_text (turns k) → b ≡ a ++ lines_text (turn (k + 1))
    → b ≡ o ++ lines_text (turns (k + 1))
turns_text o a b k h m = adds_then o a b (turns k) (turn (k + 1)) h m ∙ ap (λ (es : List Entry). o ++ lines_text es) (sym (turns_more k))

-- one buffer more
pub buffers_text : (o a b : List ℕ) (k s d : ℕ) → a ≡ o ++ lines_text (buffers k s) → d ≡ state_after (293 * k) s
    → b ≡ a ++ lines_text (buffer (k + 1) d) → b ≡ o ++ lines_text (buffers (k + 1) s)
buffers_text o a b k s d h e m =
    let last : b ≡ a ++ lines_text (buffer (k + 1) (state_after (293 * k) s)) = m ∙ ap (λ (n : ℕ). a ++ lines_text (buffer (k + 1) n)) e in
    adds_then o a b (buffers k s) (buffer (k + 1) (state_after (293 * k) s)) h last
    ∙ ap (λ (es : List Entry). o ++ lines_text es) (sym (buffers_more k s))

-- the lines of a buffer
pub buffer_text : (o a b d e f : List ℕ) (i s p : ℕ) → a ≡ o ++ entry_text (command.Await, pos i ∷ [])
    → b ≡ a ++ entry_text (command.Buffer, []) → d ≡ b ++ entry_text (command.Edit form.Dcs, pos (100 + 2 * i) ∷ [])
    → e ≡ d ++ lines_text (geode (101 + 2 * i) s) → f ≡ e ++ lines_text (placed i p) → p ≡ state_after 289 s
    → f ≡ o ++ lines_text (buffer i s)
unfolding buffer
buffer_text o a b d e f i s p ha hb hd he hf hp =
    let last : f ≡ e ++ lines_text (placed i (state_after 289 s)) = hf ∙ ap (λ (n : ℕ). e ++ lines_text (placed i n)) hp in
    let g : List Entry = geode (101 + 2 * i) s ++ placed i (state_after 289 s) in
    let dcs : Entry = (command.Edit form.Dcs, pos (100 + 2 * i) ∷ []) in
    adds_first o a f (command.Await, pos i ∷ []) ((command.Buffer, []) ∷ dcs ∷ g) ha
    (adds_first a b f (command.Buffer, []) (dcs ∷ g) hb
    (adds_first b d f dcs g hd (adds_then d e f (geode (101 + 2 * i) s) (placed i (state_after 289 s)) he last)))

-- the text of all lines of a play
pub text_is : (n : ℕ) → generated_text n ≡ (version_line version.One ++ 10 ∷ []) ++ lines_text (generated_lines n)
unfolding generated_text
text_is n = ap (λ (t : List ℕ). (version_line version.One ++ 10 ∷ []) ++ t)
    (flat_map-map (λ line. line ++ 10 ∷ []) line_of (generated_lines n))

-- the text of a play, part by part
pub whole_text : (a b d e f g : List ℕ) (n : ℕ) → a ≡ version_line version.One ++ 10 ∷ [] → b ≡ a ++ lines_text opening
    → d ≡ b ++ lines_text (turns n) → e ≡ d ++ entry_text (command.Frame, []) → f ≡ e ++ entry_text (command.Dbase, [])
    → g ≡ f ++ lines_text (buffers n n) → g ≡ generated_text n
unfolding generated_lines
whole_text a b d e f g n ha hb hd he hf hg =
    let rest : List Entry = (command.Frame, []) ∷ (command.Dbase, []) ∷ buffers n n in
    let behind : g ≡ d ++ lines_text rest = adds_first d e g (command.Frame, []) ((command.Dbase, []) ∷ buffers n n) he
    (adds_first e f g (command.Dbase, []) (buffers n n) hf hg) in
    adds_then a b g opening (turns n ++ rest) hb (adds_then b d g (turns n) rest hd behind)
    ∙ ap (λ (t : List ℕ). t ++ lines_text (opening ++ (turns n ++ rest))) ha ∙ sym (text_is n)
