-- The lines of the database process stay in order.
use Rattle.std.proofs.Common.{◌≡◌, ℕ, ◌+◌, ◌≤◌, Bool, true, false, List, [], ◌∷◌, ◌++◌, drop, length, Some, refl, sym, ap, ◌∙◌, subst, arith, length-append}
use Rattle.std.proofs.lemmas.Bool.{and_parts}
use Rattle.std.specs.List.{list_all}
use Rattle.pf_model.specs.declared.lines.BaseLine.{BaseLine}
use Rattle.pf_model.specs.declared.lines.BaseStep.{BaseStep}
use Rattle.pf_model.specs.declared.lines.BaseStep.TheVariants as base
use Rattle.pf_model.specs.Merges.{BufferState, empty_buffer, after_step}
use Rattle.play_format.specs.Plays.{base_fits, open_after}
use Rattle.dbase_buffer.proofs.Lines.{line_law, count_law}
use Rattle.frame_stages.specs.declared.in_hand.InHand.{InHand}
use Rattle.frame_stages.specs.declared.in_hand.InHand.TheVariants as hand
use Rattle.frame_stages.specs.declared.next_line.NextLine.{NextLine}
use Rattle.frame_stages.specs.declared.next_line.NextLine.TheVariants as next
use Rattle.frame_stages.specs.DbaseWorks.{DbaseWork, HoldsBuffer}
use Rattle.frame_stages.specs.DbaseLines.{kind_of, next_line, need_after, is_merge, is_open, is_whole, merges_next, buffer_step, IsFilled, CountsOneMore, CanFill, Fills, IsRanged, IsInOrder}
use Rattle.frame_stages.specs.DbaseAnswers.{Passes}

-- a buffer of few lines has room for one more
pub filled_has_room : (lines : ℕ) (b : BufferState) → IsFilled lines b → lines ≤ 2147483648 → CountsOneMore b
filled_has_room lines b f few =
    let c = count_law f.steps in
    let short = f.short in
    subst CountsOneMore (sym f.filled) (record { serials = omega (arith, c.serials, short, few); drops = omega (arith, c.edits, short, few) })

filled_more : (lines : ℕ) (b : BufferState) (s : BaseStep) → IsFilled lines b → IsFilled (lines + 1) (after_step b s)
filled_more lines b s f =
    record {
      steps = f.steps ++ s ∷ [];
      short = let long = length-append f.steps (s ∷ []) in let short = f.short in omega (arith, long, short);
      filled = ap (λ x. after_step x s) f.filled ∙ sym (line_law.line f.steps s);
    }

pub filled_empty : (lines : ℕ) → IsFilled lines empty_buffer
filled_empty lines = record { steps = []; short = omega arith; filled = refl }

-- A line of a buffer

-- it may come where it stands in order
pub can_fill : (w : DbaseWork) (l : BaseLine) (ls : List BaseLine) → IsInOrder w → w.rest ≡ l ∷ ls → kind_of l.step ≡ next.Fill →
    CanFill l.step w.hand
can_fill w l ls o rest kind =
    let here = subst (λ (xs : List BaseLine). list_all (λ x. base_fits x.step) xs ≡ true) rest o.fit in
    let fit = (and_parts (base_fits l.step) (list_all (λ x. base_fits x.step) ls) here).0 in
    let order = subst (λ (xs : List BaseLine). open_after (is_open w.hand) xs ≡ Some false) rest o.order in
    let whole = subst (λ (xs : List BaseLine). is_whole w.hand ≡ merges_next xs) rest o.whole in
    let few = o.few in
    by l.step w.hand kind fit order whole o.ranged (omega (arith, few))
  where
    by : (s : BaseStep) (h : InHand) → kind_of s ≡ next.Fill → base_fits s ≡ true →
        open_after (is_open h) (record l { step = s } ∷ ls) ≡ Some false → is_whole h ≡ is_merge s → IsRanged w.at h → w.at ≤ 2147483648 →
        CanFill s h
    by base.Buffer h k f o m r few = tt
    by (base.Edit e) hand.Nothing k f o m r few = absurd (cc)
    by (base.Edit e) (hand.Buffer b) k f o m r few = (f, filled_has_room w.at b r few)
    by (base.Edit e) (hand.Merge g) k f o m r few = absurd (cc)
    by (base.Ask e) hand.Nothing k f o m r few = absurd (cc)
    by (base.Ask e) (hand.Buffer b) k f o m r few = f
    by (base.Ask e) (hand.Merge g) k f o m r few = absurd (cc)
    by base.Merge h k f o m r few = absurd (cc)
    by (base.Await n) h k f o m r few = absurd (cc)

-- a line of a buffer leaves it open
fill_opens : (s : BaseStep) (h : InHand) (l : BaseLine) (ls : List BaseLine) → kind_of s ≡ next.Fill →
    open_after (is_open h) (record l { step = s } ∷ ls) ≡ Some false → open_after true ls ≡ Some false
fill_opens base.Buffer hand.Nothing l ls k o = o
fill_opens base.Buffer (hand.Buffer b) l ls k o = absurd (cc)
fill_opens base.Buffer (hand.Merge m) l ls k o = absurd (cc)
fill_opens (base.Edit e) hand.Nothing l ls k o = absurd (cc)
fill_opens (base.Edit e) (hand.Buffer b) l ls k o = o
fill_opens (base.Edit e) (hand.Merge m) l ls k o = o
fill_opens (base.Ask e) hand.Nothing l ls k o = absurd (cc)
fill_opens (base.Ask e) (hand.Buffer b) l ls k o = o
fill_opens (base.Ask e) (hand.Merge m) l ls k o = o
fill_opens base.Merge h l ls k o = absurd (cc)
fill_opens (base.Await n) h l ls k o = absurd (cc)

fills_filled : (at : ℕ) (s : BaseStep) (h : InHand) (b : BufferState) → IsRanged at h → Fills s h b → IsFilled (at + 1) b
fills_filled at base.Buffer h b r f = subst (IsFilled (at + 1)) (sym f) (filled_empty (at + 1))
fills_filled at (base.Edit e) (hand.Buffer held) b r f = subst (IsFilled (at + 1)) (sym f) (filled_more at held (base.Edit e) r)
fills_filled at (base.Ask e) (hand.Buffer held) b r f = subst (IsFilled (at + 1)) (sym f) (filled_more at held (base.Ask e) r)
fills_filled at (base.Edit e) hand.Nothing b r f = absurd f
fills_filled at (base.Edit e) (hand.Merge m) b r f = absurd f
fills_filled at (base.Ask e) hand.Nothing b r f = absurd f
fills_filled at (base.Ask e) (hand.Merge m) b r f = absurd f
fills_filled at base.Merge h b r f = absurd f
fills_filled at (base.Await n) h b r f = absurd f

-- where a line is left, memory was not wanted yet
pub still_runs : (w : DbaseWork) (l : BaseLine) (ls : List BaseLine) → IsInOrder w → w.rest ≡ l ∷ ls → w.failed ≡ false
still_runs w l ls o rest = by w.failed o.failed
  where
    by : (t : Bool) → (t ≡ true → w.rest ≡ []) → t ≡ false
    by true none = let no : w.rest ≡ [] = none refl in absurd (cc)
    by false none = refl

-- What is in hand after a line of a buffer: it is of this buffer, which is open, and only its merge is left exactly where
-- that is next.
pub record IsHandOf (ls : List BaseLine) (b : BufferState) (h : InHand) : Type 0 where
  pub holds : HoldsBuffer h b
  pub opened : is_open h ≡ true
  pub whole : is_whole h ≡ merges_next ls
  pub ranged : (lines : ℕ) → IsFilled lines b → IsRanged lines h

tail_fits : (l : BaseLine) (ls : List BaseLine) (w : DbaseWork) → IsInOrder w → w.rest ≡ l ∷ ls → list_all (λ x. base_fits x.step) ls ≡ true
tail_fits l ls w o rest =
    let here = subst (λ (xs : List BaseLine). list_all (λ x. base_fits x.step) xs ≡ true) rest o.fit in
    (and_parts (base_fits l.step) (list_all (λ x. base_fits x.step) ls) here).1

tail_few : (l : BaseLine) (ls : List BaseLine) (w : DbaseWork) → IsInOrder w → w.rest ≡ l ∷ ls → w.at + 1 + length ls ≤ 2147483648
tail_few l ls w o rest = let few = o.few in let long : length w.rest ≡ length (l ∷ ls) = ap length rest in omega (arith, few, long)

pub filled_in_order : (w : DbaseWork) (l : BaseLine) (ls : List BaseLine) (b : BufferState) (h : InHand) → IsInOrder w →
    w.rest ≡ l ∷ ls → kind_of l.step ≡ next.Fill → Fills l.step w.hand b → IsHandOf ls b h →
    IsInOrder (record { rest = ls; at = w.at + 1; need = w.need; failed = w.failed; hand = h })
filled_in_order w l ls b h o rest kind fills is =
    let order = subst (λ (xs : List BaseLine). open_after (is_open w.hand) xs ≡ Some false) rest o.order in
    let runs = still_runs w l ls o rest in
    record {
      few = tail_few l ls w o rest;
      fit = tail_fits l ls w o rest;
      order = subst (λ (t : Bool). open_after t ls ≡ Some false) (sym is.opened) (fill_opens l.step w.hand l ls kind order);
      whole = is.whole;
      ranged = is.ranged (w.at + 1) (fills_filled w.at l.step w.hand b o.ranged fills);
      failed = λ f. absurd (cc (f, runs));
    }

-- behind a merge no buffer is open
merge_closes : (t : Bool) (l : BaseLine) (ls : List BaseLine) → kind_of l.step ≡ next.Merge → open_after t (l ∷ ls) ≡ Some false →
    open_after false ls ≡ Some false
merge_closes t l ls kind order = by t l.step kind order
  where
    by : (t : Bool) (s : BaseStep) → kind_of s ≡ next.Merge → open_after t (record l { step = s } ∷ ls) ≡ Some false →
        open_after false ls ≡ Some false
    by true base.Merge k o = o
    by false base.Merge k o = absurd (cc)
    by t base.Buffer k o = absurd (cc)
    by t (base.Edit e) k o = absurd (cc)
    by t (base.Ask e) k o = absurd (cc)
    by t (base.Await n) k o = absurd (cc)

-- where no buffer is open, no merge is next
pub none_merges : (ls : List BaseLine) → open_after false ls ≡ Some false → merges_next ls ≡ false
none_merges [] order = refl
none_merges (l ∷ ls) order = by l.step order
  where
    by : (s : BaseStep) → open_after false (record l { step = s } ∷ ls) ≡ Some false → is_merge s ≡ false
    by base.Merge o = absurd (cc)
    by base.Buffer o = refl
    by (base.Edit e) o = refl
    by (base.Ask e) o = refl
    by (base.Await n) o = refl

-- the merge in hand was entered
pub merged_in_order : (v w : DbaseWork) (ls : List BaseLine) (h : InHand) → v ≡ w → IsInOrder v → next_line w.rest ≡ next.Merge →
    ls ≡ drop 1 v.rest → h ≡ hand.Nothing →
    IsInOrder (record { rest = ls; at = v.at + 1; need = v.need; failed = v.failed; hand = h })
merged_in_order v w ls h same o kind rest none =
    by v.rest refl (subst (λ (d : DbaseWork). next_line d.rest ≡ next.Merge) (sym same) kind) rest
  where
    by : (lines : List BaseLine) → v.rest ≡ lines → next_line lines ≡ next.Merge → ls ≡ drop 1 lines →
        IsInOrder (record { rest = ls; at = v.at + 1; need = v.need; failed = v.failed; hand = h })
    by [] is k d = absurd (cc)
    by (l ∷ ms) is k d =
        let rest : v.rest ≡ l ∷ ls = is ∙ ap (λ (xs : List BaseLine). l ∷ xs) (sym d) in
        let order = merge_closes (is_open v.hand) l ls k (subst (λ (xs : List BaseLine). open_after (is_open v.hand) xs ≡ Some false) rest o.order) in
        let runs = still_runs v l ls o rest in
        record {
          few = tail_few l ls v o rest;
          fit = tail_fits l ls v o rest;
          order = subst (λ (x : InHand). open_after (is_open x) ls ≡ Some false) (sym none) order;
          whole = subst (λ (x : InHand). is_whole x ≡ merges_next ls) (sym none) (sym (none_merges ls order));
          ranged = subst (IsRanged (v.at + 1)) (sym none) tt;
          failed = λ f. absurd (cc (f, runs));
        }

fills_step : (s : BaseStep) (h : InHand) (c b : BufferState) → Fills s h b → HoldsBuffer h c → b ≡ buffer_step c s
fills_step base.Buffer h c b f holds = f
fills_step (base.Edit e) (hand.Buffer held) c b f holds = f ∙ ap (λ x. after_step x (base.Edit e)) holds
fills_step (base.Ask e) (hand.Buffer held) c b f holds = f ∙ ap (λ x. after_step x (base.Ask e)) holds
fills_step (base.Edit e) hand.Nothing c b f holds = absurd f
fills_step (base.Edit e) (hand.Merge m) c b f holds = absurd f
fills_step (base.Ask e) hand.Nothing c b f holds = absurd f
fills_step (base.Ask e) (hand.Merge m) c b f holds = absurd f
fills_step base.Merge h c b f holds = absurd f
fills_step (base.Await n) h c b f holds = absurd f

fill_need : (need : ℕ) (s : BaseStep) → kind_of s ≡ next.Fill → need ≡ need_after need s
fill_need need base.Buffer k = refl
fill_need need (base.Edit e) k = refl
fill_need need (base.Ask e) k = refl
fill_need need base.Merge k = absurd (cc)
fill_need need (base.Await n) k = absurd (cc)

-- what the next line is, where the lines are known
pub kind_here : (v w : DbaseWork) (l : BaseLine) (ls : List BaseLine) (k : NextLine) → v ≡ w → v.rest ≡ l ∷ ls → next_line w.rest ≡ k →
    kind_of l.step ≡ k
kind_here v w l ls k same rest is = sym (ap next_line rest) ∙ ap (λ (x : DbaseWork). next_line x.rest) same ∙ is

pub fill_passes : (v w : DbaseWork) (l : BaseLine) (ls : List BaseLine) (b : BufferState) (h : InHand) → v ≡ w → IsInOrder v →
    v.rest ≡ l ∷ ls → next_line w.rest ≡ next.Fill → Fills l.step v.hand b → HoldsBuffer h b →
    (x : BaseLine) × Passes x w (record { rest = ls; at = v.at + 1; need = v.need; failed = v.failed; hand = h })
    × (kind_of x.step ≡ next.Fill)
fill_passes v w l ls b h same o rest is fills holds =
    let kind = kind_here v w l ls next.Fill same rest is in
    let runs = still_runs v l ls o rest in
    let passes : Passes l v (record { rest = ls; at = v.at + 1; need = v.need; failed = v.failed; hand = h }) =
    record {
      line = rest;
      at = refl;
      need = fill_need v.need l.step kind;
      running = runs;
      runs = runs;
      hand = λ c held. subst (HoldsBuffer h) (fills_step l.step v.hand c b fills held) holds;
    } in
    (l, subst (λ (x : DbaseWork). Passes l x (record { rest = ls; at = v.at + 1; need = v.need; failed = v.failed; hand = h })) same passes, kind)
