-- A run of a row that is drawn, between pixels that are left as they are.
use Rattle.std.proofs.Common.{◌≡◌, ℕ, ◌<◌, ◌≤◌, sym, ◌∙◌, arith, ⊎_elim}
use Rattle.std.proofs.lemmas.Bool.{cases_lt}
use Rattle.depth_raster.specs.Following.{RowFollows, SpanRelates}
use Rattle.depth_raster.specs.Spans.{becomes}
use Rattle.depth_raster.specs.declared.blocks.Block.{Block}

pub row_by_span : {X : Type 0} (b : Block) (before after : ℕ → ℕ → X) (f : ℕ → ℕ → X → X) (r start end : ℕ) → SpanRelates b before after (becomes f) r start end
    → ((q : ℕ) → q < start → q < b.width → f q r (before q r) ≡ before q r) → ((q : ℕ) → end ≤ q → q < b.width → f q r (before q r) ≡ before q r) → RowFollows b before after f r
row_by_span b before after f r start end span left right = record {
  drawn = λ q l in_row. ⊎_elim
      (λ below. span.others q r in_row (λ same lo hi. omega (arith, below, lo)) ∙ sym (left q below in_row))
      (λ beyond. ⊎_elim
      (λ here. span.done q beyond here in_row)
      (λ past. span.others q r in_row (λ same lo hi. omega (arith, past, hi)) ∙ sym (right q past in_row))
      (cases_lt q end))
      (cases_lt q start);
  ahead = λ q l in_row. absurd (omega (arith, l, in_row));
  others = λ q s in_row apart. span.others q s in_row (λ same lo hi. apart same);
}
