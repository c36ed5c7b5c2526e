-- Reading line by line.
use Rattle.std.proofs.Common.{◌≡◌, ℕ, ◌+◌, ◌<◌, arith, refl, true, false, cond, ap, sym, ◌∙◌, Bool, List, [], ◌∷◌, ◌++◌, length, subst, Result, Ok, Err, Option, Some, None, append_assoc, eqb, ltb}
use Rattle.std.proofs.lemmas.Bool.Decides.{nat_tests}
use Rattle.std.proofs.lemmas.List.{append-nil}
use Rattle.play_format.specs.declared.refusal.Why.{Why}
use Rattle.play_format.specs.declared.refusal.Why.TheVariants as whys
use Rattle.play_format.specs.declared.refusal.Refusal.{Refusal}
use Rattle.play_format.specs.declared.places.Spot.{Spot}
use Rattle.play_format.specs.Words.{pieces}
use Rattle.play_format.specs.Commands.{Entry}
use Rattle.play_format.specs.Places.{may_end}
use Rattle.play_format.specs.Grammar.{◌>>=◌, at_line}
use Rattle.live_text.specs.LiveGrammar.{entries_at, spot_behind, live_judged, live_from, live_reading, end_refusal, unless}
use Rattle.live_text.specs.Stands.{LiveStand, live_start, live_step, stand_behind, left_at, whole_at}
use Rattle.live_text.specs.Laws.{behind_entries, unread, ReadsByLines}

not_zero : (n : ℕ) → 0 < n → eqb n 0 ≡ false
not_zero n h = grind (arith, nat_tests)

pub behind_nil : (r : Result (List Entry) Refusal) → behind_entries [] r ≡ r
behind_nil (Ok es) = refl
behind_nil (Err e) = refl

pub behind_behind : (xs ys : List Entry) (r : Result (List Entry) Refusal) → behind_entries xs (behind_entries ys r) ≡ behind_entries (xs ++ ys) r
behind_behind xs ys (Ok es) = ap (λ (zs : List Entry). Ok zs) (sym (append_assoc xs ys es))
behind_behind xs ys (Err e) = refl

split_whole : (b : Bool) (es : List Entry) → cond b es [] ++ cond b [] es ≡ es
split_whole true es = append-nil es
split_whole false es = refl

-- what is judged before a line is read
abbrev judged_step : LiveStand → (a b : Bool) → Result (List Entry) Why → Result (LiveStand × List Entry) Why
judged_step s a b r = cond a (Err whys.Count) (cond b (Err whys.Length) (r >>= λ es. Ok (stand_behind s es)))

abbrev judged_entries : (a b : Bool) → Result (List Entry) Why → Result (List Entry) Why
judged_entries a b r = cond a (Err whys.Count) (cond b (Err whys.Length) r)

abbrev a_step : LiveStand × List Entry → Result (LiveStand × List Entry) Why
a_step p = Ok p

pub step_entries : (s : LiveStand) (a b : Bool) (r : Result (List Entry) Why) (p : LiveStand × List Entry) → judged_step s a b r ≡ Ok p → (es : List Entry) × (judged_entries a b r ≡ Ok es) × (stand_behind s es ≡ p)
step_entries s true b r p e = absurd cc
step_entries s false true r p e = absurd cc
step_entries s false false (Err why) p e = absurd cc
step_entries s false false (Ok es) p e = let same : a_step (stand_behind s es) ≡ a_step p = e in (es, refl, cc)

step_wrong : (s : LiveStand) (a b : Bool) (r : Result (List Entry) Why) (why : Why) → judged_step s a b r ≡ Err why → judged_entries a b r ≡ Err why
step_wrong s true b r why e = let k : whys.Count ≡ why = cc in rw k refl
step_wrong s false true r why e = let k : whys.Length ≡ why = cc in rw k refl
step_wrong s false false (Err d) why e = let k : d ≡ why = cc in rw k refl
step_wrong s false false (Ok es) why e = absurd cc

-- a line before others
pub from_line : (s : Spot) (n : ℕ) (line : List ℕ) (left : List (List ℕ)) (r : Result (List Entry) Why) → 0 < length left → live_judged n line (entries_at n s line) ≡ r
    → live_from s n (line ∷ left) ≡ (at_line n r >>= λ es. live_from (spot_behind s es) (n + 1) left >>= λ fs. Ok (es ++ fs))
unfolding live_from
from_line s n line left r h e = rw (not_zero (length left) h, e) refl

pub from_last : (s : Spot) (n : ℕ) (rest : List ℕ) → live_from s n (rest ∷ []) ≡ unless (end_refusal s n rest) []
unfolding live_from
from_last s n rest = refl

line_more : (s : LiveStand) (line : List ℕ) (left : List (List ℕ)) (es : List Entry) → 0 < length left → live_judged s.line line (entries_at s.line s.spot line) ≡ Ok es
    → unread s (line ∷ left) ≡ behind_entries (stand_behind s es).1 (unread (stand_behind s es).0 left)
line_more s line left es h e =
    let t = spot_behind s.spot es in
    let all = s.begun ++ es in
    let read = live_from t (s.line + 1) left in
    ap (behind_entries s.begun) (from_line s.spot s.line line left (Ok es) h e) ∙ behind_behind s.begun es read
    ∙ sym (behind_behind (whole_at t all) (left_at t all) read ∙ ap (λ (xs : List Entry). behind_entries xs read) (split_whole (may_end t) all))

last_end : (o : Option Refusal) (begun : List Entry) → behind_entries begun (unless o []) ≡ unless o begun
last_end None begun = ap (λ (es : List Entry). Ok es) (append-nil begun)
last_end (Some r) begun = refl

pub reads_by_lines : ReadsByLines
reads_by_lines = record {
  whole = λ text. behind_nil (live_reading text);
  more = λ s t line made left h e.
      let k = step_entries s (ltb 536870911 s.line) (ltb 1024 (length line)) (entries_at s.line s.spot line) (t, made) e in
      line_more s line left k.0 h k.1 ∙ ap (λ (p : LiveStand × List Entry). behind_entries p.1 (unread p.0 left)) k.2;
  wrong = λ s line why left h e.
      let k = step_wrong s (ltb 536870911 s.line) (ltb 1024 (length line)) (entries_at s.line s.spot line) why e in
      ap (behind_entries s.begun) (from_line s.spot s.line line left (Err why) h k);
  end = λ s rest. ap (behind_entries s.begun) (from_last s.spot s.line rest) ∙ last_end (end_refusal s.spot s.line rest) s.begun;
}
