-- What the calls of a feed do.
use Rattle.std.proofs.Common.{◌≡◌, ℕ, ◌+◌, ◌<◌, refl, ap, sym, ◌∙◌, List, [], ◌∷◌, ◌++◌, length, take, drop, subst, Result, Ok, Err, Option, Some, None, append_assoc}
use Rattle.std.specs.Result.{result_err}
use Rattle.std.proofs.lemmas.List.{append-nil}
use Rattle.play_format.specs.declared.refusal.Refusal.{Refusal}
use Rattle.play_format.specs.Spelling.{text_of_lines}
use Rattle.live_text.specs.declared.given.Given.{Given}
use Rattle.live_text.specs.LiveGrammar.{end_refusal}
use Rattle.live_text.specs.Stands.{live_start}
use Rattle.live_text.proofs.GivenText.{given_spelled}
use Rattle.live_feed.specs.declared.error.FeedError.{FeedError}
use Rattle.live_feed.specs.declared.error.FeedError.TheVariants as feed_error
use Rattle.live_feed.specs.Feeds.{FeedState, HasNoFeed, somes, Fed, header_of, IsGood, NextGives, EndsSo, IsLine, Blames, LineRead}
use Rattle.live_feed.proofs.Pieces.{lines_both, clear_more}
use Rattle.live_feed.proofs.Reading.{line_refused, long_refused, end_refused, end_passes}
use Rattle.live_feed.proofs.Given.{end_spelled, fed_good}

-- A line that is read

somes_both : (found more : List (Option Given)) → somes (found ++ more) ≡ somes found ++ somes more
somes_both [] more = refl
somes_both (None ∷ found) more = somes_both found more
somes_both (Some g ∷ found) more = ap (λ (gs : List Given). g ∷ gs) (somes_both found more)

abbrev read : Option Given → Result (Option Given) FeedError
read o = Ok o

fed_more : (text : List ℕ) (gs : List Given) (f g : FeedState) (n : ℕ) (o : Option Given) → Fed text gs f → IsLine n f.rest → LineRead f n g (read o) → Fed text (gs ++ somes (o ∷ [])) g
fed_more text gs f g n o h l r =
    let line = take n f.rest in
    let behind = drop (n + 1) f.rest in
    let front = text_of_lines h.lines in
    let whole : f.rest ≡ text_of_lines (line ∷ []) ++ behind =
    l.parts ∙ sym (append_assoc line (10 ∷ []) behind) ∙ ap (λ (t : List ℕ). t ++ behind) (sym (append-nil (line ++ 10 ∷ []))) in
    record {
      lines = h.lines ++ line ∷ [];
      found = h.found ++ o ∷ [];
      whole = h.whole ∙ ap (λ (t : List ℕ). front ++ t) whole ∙ sym (append_assoc front (text_of_lines (line ∷ [])) behind)
          ∙ ap (λ (t : List ℕ). t ++ behind) (sym (lines_both h.lines (line ∷ []))) ∙ ap (λ (t : List ℕ). text_of_lines (h.lines ++ line ∷ []) ++ t) (sym r.1);
      cut = clear_more h.lines line h.cut l.clear;
      read = given_spelled.more live_start f.stand g.stand h.lines h.found line o h.read r.0;
      gave = somes_both h.found (o ∷ []) ∙ ap (λ (xs : List Given). xs ++ somes (o ∷ [])) h.gave;
    }

pub none_read : (text : List ℕ) (gs : List Given) (f g : FeedState) (n : ℕ) → Fed text gs f → IsLine n f.rest → LineRead f n g (read None) → Fed text gs g
none_read text gs f g n h l r = subst (λ (xs : List Given). Fed text xs g) (append-nil gs) (fed_more text gs f g n None h l r)

pub some_read : (text : List ℕ) (gs : List Given) (f g : FeedState) (n : ℕ) (x : Given) → Fed text gs f → IsLine n f.rest → LineRead f n g (read (Some x)) → Fed text (gs ++ x ∷ []) g × IsGood (header_of gs) x
some_read text gs f g n x h l r = let k = fed_more text gs f g n (Some x) h l r in (k, fed_good text gs x g k)

-- A line that is not

pub read_fails : (text : List ℕ) (gs : List Given) (f g : FeedState) (n : ℕ) (e : FeedError) → Fed text gs f → IsLine n f.rest → (g ≡ f) × Blames f (take n f.rest) e → NextGives text gs g (Err e)
read_fails text gs f g n (feed_error.Refused r) h l b = (subst (λ (s : FeedState). Fed text gs s) (sym b.0) h, λ more. line_refused text more gs f n r h l b.1)
read_fails text gs f g n feed_error.NoMemory h l b = subst (λ (s : FeedState). Fed text gs s) (sym b.0) h

pub long_fails : (text : List ℕ) (gs : List Given) (f : FeedState) (r : Refusal) → Fed text gs f → HasNoFeed f.rest → 1024 < length f.rest → end_refusal f.stand.spot f.stand.line f.rest ≡ Some r → NextGives text gs f (Err (feed_error.Refused r))
long_fails text gs f r h clear long e = (h, λ more. long_refused text more gs f r h clear long e)

-- The end

pub ends_so : (text : List ℕ) (gs : List Given) (f : FeedState) (r : Result Unit Refusal) → result_err r ≡ end_refusal f.stand.spot f.stand.line f.rest → Fed text gs f → HasNoFeed f.rest → EndsSo text gs r
ends_so text gs f (Ok x) e h clear = let k = end_passes f (sym e) in end_spelled text gs f h k.0 k.1
ends_so text gs f (Err r) e h clear = end_refused text gs f r h clear (sym e)
