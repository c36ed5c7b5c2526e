-- What a text that is fed reads as.
use Rattle.std.proofs.Common.{◌≡◌, ℕ, ◌+◌, ◌<◌, arith, refl, true, false, cond, ap, sym, ◌∙◌, Bool, List, [], ◌∷◌, ◌++◌, length, take, drop, Result, Ok, Err, Option, Some, None, append_assoc, eqb, ltb}
use Rattle.std.proofs.lemmas.Bool.{ne_eqb, lt-ltb, eqb-true}
use Rattle.std.proofs.lemmas.List.{append-nil, length-append}
use Rattle.play_format.specs.declared.refusal.Why.{Why}
use Rattle.play_format.specs.declared.refusal.Why.TheVariants as whys
use Rattle.play_format.specs.declared.refusal.Refusal.{Refusal}
use Rattle.play_format.specs.Words.{pieces}
use Rattle.play_format.specs.Commands.{Entry}
use Rattle.play_format.specs.Places.{may_end}
use Rattle.play_format.specs.Grammar.{◌>>=◌}
use Rattle.play_format.specs.Spelling.{text_of_lines}
use Rattle.live_text.specs.declared.given.Given.{Given}
use Rattle.live_text.specs.LiveGrammar.{entries_at, live_reading, end_refusal, unless}
use Rattle.live_text.specs.Stands.{LiveStand, live_start, stand_behind, LinesGive}
use Rattle.live_text.specs.Laws.{behind_entries, unread}
use Rattle.live_text.proofs.LawLemmas.{reads_by_lines, behind_nil, behind_behind}
use Rattle.live_text.proofs.Reading.{some_pieces}
use Rattle.live_feed.specs.declared.error.FeedError.TheVariants as feed_error
use Rattle.live_feed.specs.Feeds.{FeedState, HasNoFeed, Fed, IsLine, Blames}
use Rattle.live_feed.proofs.Pieces.{pieces_front, line_front, one_piece, lines_front}

-- lines that were read, before what is left of the text
unread_lines : (s t : LiveStand) (lines : List (List ℕ)) (found : List (Option Given)) (left : List (List ℕ)) → 0 < length left → LinesGive s lines found t
    → (made : List Entry) × (unread s (lines ++ left) ≡ behind_entries made (unread t left))
unread_lines s t [] [] left some h = ([], ap (λ (u : LiveStand). unread u left) h ∙ sym (behind_nil (unread t left)))
unread_lines s t [] (g ∷ found) left some h = absurd h
unread_lines s t (line ∷ lines) [] left some h = absurd h
unread_lines s t (line ∷ lines) (g ∷ found) left some h =
    let k = unread_lines h.0 t lines found left some h.2 in (
      h.1.whole ++ k.0,
      reads_by_lines.more s h.0 line h.1.whole (lines ++ left) (omega (arith, some, length-append lines left)) h.1.step
          ∙ ap (behind_entries h.1.whole) k.1 ∙ behind_behind h.1.whole k.0 (unread t left),
    )

-- what a text that was fed reads as, whatever comes
fed_reading : (text more : List ℕ) (gs : List Given) (f : FeedState) → Fed text gs f → (made : List Entry) × (live_reading (text ++ more) ≡ behind_entries made (unread f.stand (pieces (f.rest ++ more))))
fed_reading text more gs f h =
    let left = f.rest ++ more in
    let k = unread_lines live_start f.stand h.lines h.found (pieces left) (some_pieces left) h.read in
    let parts : text ++ more ≡ text_of_lines h.lines ++ left = ap (λ (t : List ℕ). t ++ more) h.whole ∙ append_assoc (text_of_lines h.lines) f.rest more in (
      k.0,
      sym (reads_by_lines.whole (text ++ more)) ∙ ap (λ (t : List ℕ). unread live_start (pieces t)) parts
          ∙ ap (unread live_start) (lines_front h.lines left h.cut) ∙ k.1,
    )

abbrev refuses : Refusal → Result (List Entry) Refusal
refuses r = Err r

abbrev refusal : ℕ → Why → Refusal
refusal n why = record { line = n; why = why }

-- A refusal of what is left refuses the text.
fed_refused : (text more : List ℕ) (gs : List Given) (f : FeedState) (r : Refusal) → Fed text gs f → unread f.stand (pieces (f.rest ++ more)) ≡ refuses r → live_reading (text ++ more) ≡ Err r
fed_refused text more gs f r h e = let k = fed_reading text more gs f h in k.1 ∙ ap (behind_entries k.0) e

-- A wrong line

pub line_refused : (text more : List ℕ) (gs : List Given) (f : FeedState) (n : ℕ) (r : Refusal) → Fed text gs f → IsLine n f.rest → Blames f (take n f.rest) (feed_error.Refused r) → live_reading (text ++ more) ≡ Err r
line_refused text more gs f n r h l b =
    let line = take n f.rest in
    let behind = drop (n + 1) f.rest in
    let parts : pieces (f.rest ++ more) ≡ line ∷ pieces (behind ++ more) =
    ap (λ (t : List ℕ). pieces (t ++ more)) l.parts ∙ ap pieces (append_assoc line (10 ∷ behind) more) ∙ line_front line (behind ++ more) l.clear in
    let wrong = reads_by_lines.wrong f.stand line r.why (pieces (behind ++ more)) (some_pieces (behind ++ more)) b.1 in
    let same : refuses (refusal f.stand.line r.why) ≡ refuses r = ap (λ (m : ℕ). refuses (refusal m r.why)) (sym b.0) in
    fed_refused text more gs f r h (ap (unread f.stand) parts ∙ wrong ∙ same)

-- A rest that is too long

abbrev some_refusal : Refusal → Option Refusal
some_refusal r = Some r

abbrev late : ℕ → Why
late n = cond (ltb 536870911 n) whys.Count whys.Length

abbrev wrong_step : Why → Result (LiveStand × List Entry) Why
wrong_step why = Err why

long_judged : (a b : Bool) (r : Result (LiveStand × List Entry) Why) → b ≡ true → cond a (wrong_step whys.Count) (cond b (Err whys.Length) r) ≡ wrong_step (cond a whys.Count whys.Length)
long_judged true b r e = refl
long_judged false true r e = refl
long_judged false false r e = absurd cc

-- the end is refused for what stands behind the last line feed
some_rest : (s : LiveStand) (rest : List ℕ) → 0 < length rest → end_refusal s.spot s.line rest ≡ some_refusal (refusal s.line (late s.line))
some_rest s rest h = rw (ne_eqb (length rest) 0 (λ e. absurd (omega (arith, h, e)))) refl

long_left : (s : LiveStand) (line : List ℕ) (left : List (List ℕ)) → 1024 < length line → unread s (line ∷ left) ≡ refuses (refusal s.line (late s.line))
long_left s line [] h = reads_by_lines.end s line ∙ ap (λ (o : Option Refusal). unless o s.begun) (some_rest s line (omega (arith, h)))
long_left s line (next ∷ left) h =
    reads_by_lines.wrong s line (late s.line) (next ∷ left) (omega arith)
    (long_judged (ltb 536870911 s.line) (ltb 1024 (length line)) (entries_at s.line s.spot line >>= λ es. Ok (stand_behind s es)) (lt-ltb 1024 (length line) h))

first_piece : (ps : List (List ℕ)) → 0 < length ps → (p : List ℕ) × (left : List (List ℕ)) × (ps ≡ p ∷ left)
first_piece [] h = absurd (omega (arith, h))
first_piece (p ∷ left) h = (p, left, refl)

same_refusal : (r k : Refusal) → some_refusal r ≡ some_refusal k → r ≡ k
same_refusal r k e = cc

pub long_refused : (text more : List ℕ) (gs : List Given) (f : FeedState) (r : Refusal) → Fed text gs f → HasNoFeed f.rest → 1024 < length f.rest → end_refusal f.stand.spot f.stand.line f.rest ≡ Some r → live_reading (text ++ more) ≡ Err r
long_refused text more gs f r h clear long e =
    let p = first_piece (pieces more) (some_pieces more) in
    let same = same_refusal (refusal f.stand.line (late f.stand.line)) r (sym (some_rest f.stand f.rest (omega (arith, long))) ∙ e) in
    fed_refused text more gs f r h
    (ap (unread f.stand) (pieces_front f.rest more p.0 p.1 clear p.2)
    ∙ long_left f.stand (f.rest ++ p.0) p.1 (omega (arith, long, length-append f.rest p.0))
    ∙ ap refuses same)

-- The end

pub end_refused : (text : List ℕ) (gs : List Given) (f : FeedState) (r : Refusal) → Fed text gs f → HasNoFeed f.rest → end_refusal f.stand.spot f.stand.line f.rest ≡ Some r → live_reading text ≡ Err r
end_refused text gs f r h clear e =
    let parts : pieces (f.rest ++ []) ≡ f.rest ∷ [] = ap pieces (append-nil f.rest) ∙ one_piece f.rest clear in
    ap live_reading (sym (append-nil text))
    ∙ fed_refused text [] gs f r h (ap (unread f.stand) parts ∙ reads_by_lines.end f.stand f.rest ∙ ap (λ (o : Option Refusal). unless o f.stand.begun) e)

end_none : (a b : Bool) (r k : Refusal) → cond a (cond b None (some_refusal r)) (some_refusal k) ≡ None → (a ≡ true) × (b ≡ true)
end_none true true r k e = (refl, refl)
end_none true false r k e = absurd cc
end_none false b r k e = absurd cc

empty : (xs : List ℕ) → eqb (length xs) 0 ≡ true → xs ≡ []
empty [] e = refl
empty (x ∷ xs) e = let k = eqb-true _ _ e in absurd (omega (arith, k))

pub end_passes : (f : FeedState) → end_refusal f.stand.spot f.stand.line f.rest ≡ None → (f.rest ≡ []) × (may_end f.stand.spot ≡ true)
end_passes f e =
    let k = end_none (eqb (length f.rest) 0) (may_end f.stand.spot) (refusal f.stand.line whys.Count) (refusal f.stand.line (late f.stand.line)) e in
    (empty f.rest k.0, k.1)
