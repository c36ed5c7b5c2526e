-- Lines are given to the database process.
use Rattle.std.proofs.Common.{◌≡◌, ℕ, ◌+◌, ◌≤◌, Bool, true, false, ◌&&◌, List, [], ◌∷◌, ◌++◌, map, take, drop, length, Some, None, refl, sym, ap, ◌∙◌, subst, arith}
use Rattle.std.proofs.lemmas.List.{length-append, drop-append-le}
use Rattle.std.proofs.lemmas.List.Folds.{list_all-append}
use Rattle.std.proofs.lemmas.Bool.{and_from}
use Rattle.std.specs.List.{list_all}
use Rattle.std.specs.Prelude.{Option, Result, OnOk, option_and_then, if◌then◌else◌}
use Rattle.pf_model.specs.declared.lines.BaseLine.{BaseLine}
use Rattle.pf_model.specs.declared.lines.BaseStep.{BaseStep}
use Rattle.pf_model.specs.Merges.{BufferState, buffer_after}
use Rattle.pf_history.specs.Logs.{Log}
use Rattle.play_format.specs.Plays.{base_fits, opened, open_after}
use Rattle.stage_parts.specs.States.{DbaseState, steps_since}
use Rattle.stage_parts.specs.Parts.{DbaseKeeps}
use Rattle.stage_parts.specs.Grows.{StandsInDbase}
use Rattle.stage_parts.proofs.Growing.{base_passed, dbase_grows_law}
use Rattle.frame_stages.specs.declared.in_hand.InHand.{InHand}
use Rattle.frame_stages.specs.DbaseWorks.{DbaseWork, more_work, HoldsBuffer, buffer_at, dbase_state, StandsIn, DbaseHolds}
use Rattle.frame_stages.specs.DbaseLines.{is_open, is_whole, merges_next, IsInOrder}
use Rattle.frame_stages.proofs.DbaseOrder.{none_merges}
use Rattle.frame_stages.proofs.AppGiven.{on_ok}

-- buffers that are whole, and more of them
open_more : (t : Bool) (ls more : List BaseLine) → open_after t ls ≡ Some false → open_after false more ≡ Some false →
    open_after t (ls ++ more) ≡ Some false
open_more t [] more first second = let closed : t ≡ false = cc in ap (λ b. open_after b more) closed ∙ second
open_more t (l ∷ ls) more first second = by (opened t l.step) (λ b h. open_more b ls more h second) first
  where
    by : (o : Option Bool) → ((b : Bool) → open_after b ls ≡ Some false → open_after b (ls ++ more) ≡ Some false) →
        option_and_then (λ b. open_after b ls) o ≡ Some false → option_and_then (λ b. open_after b (ls ++ more)) o ≡ Some false
    by None on h = absurd (cc)
    by (Some b) on h = on b h

merges_more : (h : InHand) (ls more : List BaseLine) → is_whole h ≡ merges_next ls → open_after false more ≡ Some false →
    is_whole h ≡ merges_next (ls ++ more)
merges_more h [] more whole order = whole ∙ sym (none_merges more order)
merges_more h (l ∷ ls) more whole order = whole

-- lines that are given stand in order
in_order_more : (v : DbaseWork) (more : List BaseLine) → IsInOrder v → v.failed ≡ false → v.at + (length v.rest + length more) ≤ 2147483648 →
    list_all (λ l. base_fits l.step) more ≡ true → open_after false more ≡ Some false →
    IsInOrder (record v { rest = v.rest ++ more })
in_order_more v more o runs few fit order =
    let long = length-append v.rest more in
    record {
      few = omega (arith, few, long);
      fit = list_all-append (λ (l : BaseLine). base_fits l.step) v.rest more
          ∙ and_from (list_all (λ (l : BaseLine). base_fits l.step) v.rest) (list_all (λ (l : BaseLine). base_fits l.step) more) o.fit fit;
      order = open_more (is_open v.hand) v.rest more o.order order;
      whole = merges_more v.hand v.rest more o.whole order;
      ranged = o.ranged;
      failed = λ f. absurd (let no : true ≡ false = sym f ∙ runs in cc);
    }

pub in_order_put : (v w : DbaseWork) (more block items : List BaseLine) → v ≡ w → IsInOrder v → w.failed ≡ false →
    w.at + (length w.rest + length more) ≤ 2147483648 → list_all (λ l. base_fits l.step) more ≡ true → open_after false more ≡ Some false →
    block ≡ more → items ≡ v.rest ++ block →
    IsInOrder (record { rest = items; at = v.at; need = v.need; failed = v.failed; hand = v.hand })
in_order_put v w more block items view o runs few fit order whole is =
    subst (λ (ls : List BaseLine). IsInOrder (record { rest = ls; at = v.at; need = v.need; failed = v.failed; hand = v.hand }))
    (sym (is ∙ ap (λ (ls : List BaseLine). v.rest ++ ls) whole))
    (in_order_more v more o (ap (λ (x : DbaseWork). x.failed) view ∙ runs)
    (subst (λ (x : DbaseWork). x.at + (length x.rest + length more) ≤ 2147483648) (sym view) few) fit order)

pub put_same : (v w : DbaseWork) (more block items : List BaseLine) → v ≡ w → block ≡ more → items ≡ v.rest ++ block →
    record { rest = items; at = v.at; need = v.need; failed = v.failed; hand = v.hand } ≡ record w { rest = w.rest ++ more }
put_same v w more block items view whole is =
    ap (λ (ls : List BaseLine). record v { rest = ls }) (is ∙ ap (λ (ls : List BaseLine). v.rest ++ ls) whole)
    ∙ ap (λ (x : DbaseWork). record x { rest = x.rest ++ more }) view

-- What it holds to

-- the buffer is that of the lines passed
buffer_same : (lines more : List BaseLine) (at : ℕ) → at ≤ length lines → buffer_at (lines ++ more) at ≡ buffer_at lines at
buffer_same lines more at within = ap (λ (xs : List BaseStep). buffer_after (steps_since xs)) (base_passed lines more at within)

state_same : (lines more : List BaseLine) (w : DbaseWork) → w.at ≤ length lines → dbase_state (lines ++ more) w ≡ dbase_state lines w
state_same lines more w within =
    ap (λ (b : BufferState). record { at = w.at; need = w.need; buffer = b }) (buffer_same lines more w.at within)

stands_more : (lines more : List BaseLine) (w : DbaseWork) → w.at ≤ length lines → w.failed ≡ false → StandsIn lines w →
    StandsIn (lines ++ more) (more_work more w)
stands_more lines more w within runs stands =
    record {
      rest = drop-append-le w.at lines more within ∙ ap (λ (ls : List BaseLine). ls ++ more) stands.rest
          ∙ sym (ap (λ (t : Bool). if t then w.rest else w.rest ++ more) runs);
      hand = subst (HoldsBuffer w.hand) (sym (buffer_same lines more w.at within)) stands.hand;
    }

-- it holds to the longer section
pub holds_more : (lines more : List BaseLine) (channels seat : ℕ) (w : DbaseWork) (log : Log) → DbaseHolds lines channels seat w log →
    DbaseHolds (lines ++ more) channels seat (more_work more w) log
holds_more lines more channels seat w log holds =
    let within = holds.stands_in.within in
    let same = state_same lines more w within in
    let grown = dbase_grows_law lines more channels seat (dbase_state lines w) log holds.stands_in holds.keeps in
    record {
      keeps = subst (λ (d : DbaseState). DbaseKeeps (lines ++ more) channels seat d log) (sym same) grown.keeps;
      awaited = holds.awaited;
      stands = λ runs. stands_more lines more w within runs (holds.stands runs);
      stands_in = subst (StandsInDbase (lines ++ more)) (sym same) grown.stands;
    }

-- where it ended for want of memory, lines are dropped
pub dropped : (w : DbaseWork) (more : List BaseLine) → w.failed ≡ true → w ≡ more_work more w
dropped w more failed = ap (λ (t : Bool). record w { rest = if t then w.rest else w.rest ++ more }) (sym failed)

pub put_state : {X E : Type 0} (r : Result X E) (w w' : DbaseWork) (more : List BaseLine) → w.failed ≡ false →
    OnOk r (w' ≡ record w { rest = w.rest ++ more }) → OnOk r (w' ≡ more_work more w)
put_state r w w' more runs is =
    on_ok r (w' ≡ record w { rest = w.rest ++ more }) (w' ≡ more_work more w)
    (λ same. same ∙ ap (λ (t : Bool). record w { rest = if t then w.rest else w.rest ++ more }) (sym runs)) is

pub put_holds : {X E : Type 0} (r : Result X E) (w w' : DbaseWork) (more : List BaseLine) → OnOk r (w' ≡ more_work more w) →
    OnOk r ((lines : List BaseLine) (channels seat : ℕ) (log : Log) → DbaseHolds lines channels seat w log →
    DbaseHolds (lines ++ more) channels seat w' log)
put_holds r w w' more is =
    on_ok r (w' ≡ more_work more w)
    ((lines : List BaseLine) (channels seat : ℕ) (log : Log) → DbaseHolds lines channels seat w log →
    DbaseHolds (lines ++ more) channels seat w' log)
    (λ same lines channels seat log holds.
    subst (λ (x : DbaseWork). DbaseHolds (lines ++ more) channels seat x log) (sym same) (holds_more lines more channels seat w log holds)) is
