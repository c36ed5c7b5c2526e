-- Blocks drawn row by row, and rows pixel by pixel.
use Rattle.std.proofs.Common.{◌≡◌, ℕ, ◌+◌, ◌*◌, ◌<◌, ◌≤◌, List, length, set, get_or, get_or-set_same, get_or-set_other, refl, ap, sym, ◌∙◌, subst, arith, ⊎_elim}
use Rattle.std.proofs.lemmas.Bool.{cases_eq, cases_lt}
use Rattle.std.proofs.lemmas.Nat.{same_from_place, mul-add-lt, mul-le}
use Rattle.std.proofs.Math.Nat.{add-mul, zero-mul}
use Rattle.depth_raster.specs.Blocks.{place_in, size_of}
use Rattle.depth_raster.specs.Following.{Follows, RowsFollow, PixelsFollow, RowFollows, FirstRelate, Relates, SpanRelates}
use Rattle.depth_raster.specs.declared.blocks.Block.{Block}

pub place_within : (b : Block) (q r : ℕ) → q < b.width → r < b.rows → place_in b q r < size_of b
place_within b q r column row = omega (arith, mul-add-lt r b.width q b.rows row column)

-- the element that was written is there, and the others stay
pub written_here : {A : Type 0} (b : Block) (xs : List A) (q r : ℕ) (v d : A) → length xs ≡ size_of b → q < b.width → r < b.rows → get_or (set xs (place_in b q r) v) (place_in b q r) d ≡ v
written_here b xs q r v d whole column row = get_or-set_same xs (place_in b q r) v d (omega (arith, whole, place_within b q r column row))

pub written_elsewhere : {A : Type 0} (b : Block) (xs : List A) (q r p s : ℕ) (v d : A) → q < b.width → p < b.width → (p ≡ q → s ≡ r → ⊥) → get_or (set xs (place_in b q r) v) (place_in b p s) d ≡ get_or xs (place_in b p s) d
written_elsewhere b xs q r p s v d column other apart =
    get_or-set_other xs (place_in b q r) (place_in b p s) v d
    (λ same. let both = same_from_place s p r q b.width other column same in apart both.1 both.0)

-- a pixel more of a row
pub pixel_more : {X : Type 0} (b : Block) (before mid after : ℕ → ℕ → X) (f : ℕ → ℕ → X → X) (r n : ℕ) → PixelsFollow b before mid f r n → n < b.width → after n r ≡ f n r (mid n r) → ((p s : ℕ) → p < b.width → (p ≡ n → s ≡ r → ⊥) → after p s ≡ mid p s) → PixelsFollow b before after f r (n + 1)
pixel_more {X} b before mid after f r n so_far column here stays = record {
  drawn = λ q l in_row. ⊎_elim
      (λ same. ap (λ (p : ℕ). after p r) same ∙ here ∙ ap (f n r) (so_far.ahead n (omega arith) column) ∙ ap (λ (p : ℕ). f p r (before p r)) (sym same))
      (λ apart. stays q r in_row (λ same k. apart same) ∙ so_far.drawn q (omega (arith, apart)) in_row)
      (cases_eq q n);
  ahead = λ q l in_row. stays q r in_row (λ same k. omega arith) ∙ so_far.ahead q (omega arith) in_row;
  others = λ q s in_row apart. stays q s in_row (λ k same. apart same) ∙ so_far.others q s in_row apart;
}

pub no_pixels : {X : Type 0} (b : Block) (before : ℕ → ℕ → X) (f : ℕ → ℕ → X → X) (r : ℕ) → PixelsFollow b before before f r 0
no_pixels b before f r = record { drawn = λ q l in_row. absurd (omega arith); ahead = λ q l in_row. refl; others = λ q s in_row apart. refl }

pub no_rows : {X : Type 0} (b : Block) (before : ℕ → ℕ → X) (f : ℕ → ℕ → X → X) → RowsFollow b before before f 0
no_rows b before f = record { drawn = λ q r in_row in_rows l. absurd (omega arith); ahead = λ q r in_row l. refl }

-- a row more
pub row_more : {X : Type 0} (b : Block) (before mid after : ℕ → ℕ → X) (f : ℕ → ℕ → X → X) (n : ℕ) → RowsFollow b before mid f n → RowFollows b mid after f n → RowsFollow b before after f (n + 1)
row_more {X} b before mid after f n so_far row = record {
  drawn = λ q r in_row in_rows l. ⊎_elim
      (λ same. ap (after q) same ∙ row.drawn q in_row in_row ∙ ap (f q n) (so_far.ahead q n in_row (omega arith)) ∙ ap (λ (s : ℕ). f q s (before q s)) (sym same))
      (λ apart. row.others q r in_row apart ∙ so_far.drawn q r in_row in_rows (omega (arith, apart)))
      (cases_eq r n);
  ahead = λ q r in_row l. row.others q r in_row (λ same. omega arith) ∙ so_far.ahead q r in_row (omega arith);
}

pub rows_all : {X : Type 0} (b : Block) (before after : ℕ → ℕ → X) (f : ℕ → ℕ → X → X) (n : ℕ) → b.rows ≤ n → RowsFollow b before after f n → Follows b.width b.rows before after f
rows_all b before after f n all so_far q r column row = so_far.drawn q r column row (omega arith)

-- one more pixel of a row is written
pub pixel_written : {A X : Type 0} (view : A → X) (d : A) (b : Block) (before : ℕ → ℕ → X) (xs : List A) (f : ℕ → ℕ → X → X) (r n i : ℕ) (v : A) → PixelsFollow b before (λ q s. view (get_or xs (place_in b q s) d)) f r n → length xs ≡ size_of b → n < b.width → r < b.rows → i ≡ place_in b n r → view v ≡ f n r (view (get_or xs i d)) → PixelsFollow b before (λ q s. view (get_or (set xs i v) (place_in b q s) d)) f r (n + 1)
pixel_written {A} {X} view d b before xs f r n i v so_far whole column row at is =
    subst (λ (j : ℕ). PixelsFollow b before (λ q s. view (get_or (set xs j v) (place_in b q s) d)) f r (n + 1)) (sym at)
    (pixel_more b before (λ q s. view (get_or xs (place_in b q s) d)) (λ q s. view (get_or (set xs (place_in b n r) v) (place_in b q s) d)) f r n so_far column
    (ap view (written_here b xs n r v d whole column row) ∙ is ∙ ap (λ (j : ℕ). f n r (view (get_or xs j d))) at)
    (λ p s other apart. ap view (written_elsewhere b xs n r p s v d column other apart)))

-- ---- pixels by their places
pub none_related : {X : Type 0} (b : Block) (before : ℕ → ℕ → X) (P : ℕ → ℕ → X → X → Type 0) (n : ℕ) → n ≡ 0 → FirstRelate b before before P n
none_related b before P n is = record { done = λ q r column row l. absurd (omega (arith, is, l)); ahead = λ q r column l. refl }

pub related_at : {X : Type 0} (b : Block) (before after : ℕ → ℕ → X) (P : ℕ → ℕ → X → X → Type 0) (m n : ℕ) → m ≡ n → FirstRelate b before after P m → FirstRelate b before after P n
related_at b before after P m n same = subst (λ (k : ℕ). FirstRelate b before after P k) same

pub row_start : (b : Block) → place_in b 0 0 ≡ 0
row_start b = omega (arith, zero-mul b.width)

pub row_end : (b : Block) (q r : ℕ) → q ≡ b.width → place_in b q r ≡ place_in b 0 (r + 1)
row_end b q r end = omega (arith, end, add-mul r 1 b.width)

-- one more pixel is written
pub relate_written : {A X : Type 0} (view : A → X) (d : A) (b : Block) (before : ℕ → ℕ → X) (xs : List A) (P : ℕ → ℕ → X → X → Type 0) (q r i : ℕ) (v : A) → FirstRelate b before (λ p s. view (get_or xs (place_in b p s) d)) P (place_in b q r) → length xs ≡ size_of b → q < b.width → r < b.rows → i ≡ place_in b q r → P q r (view (get_or xs i d)) (view v)
    → FirstRelate b before (λ p s. view (get_or (set xs i v) (place_in b p s) d)) P (place_in b q r + 1)
relate_written {A} {X} view d b before xs P q r i v so_far whole column row at is = record {
  done = λ p s in_row in_rows l. ⊎_elim
      (λ same.
      let both = same_from_place s p r q b.width in_row column same in
      let old : view (get_or xs (place_in b p s) d) ≡ before p s = so_far.ahead p s in_row (omega (arith, same)) in
      let here : view (get_or (set xs i v) (place_in b p s) d) ≡ view v =
      ap (λ (j : ℕ). view (get_or (set xs j v) (place_in b p s) d)) at ∙ ap (λ (j : ℕ). view (get_or (set xs (place_in b q r) v) j d)) same ∙ ap view (written_here b xs q r v d whole column row) in
      let there : view (get_or xs i d) ≡ before p s = ap (λ (j : ℕ). view (get_or xs j d)) (at ∙ sym same) ∙ old in
      subst (λ (y : X). P p s (before p s) y) (sym here) (subst (λ (x : X). P p s x (view v)) there
      (subst (λ (n : ℕ). P n s (view (get_or xs i d)) (view v)) (sym both.1) (subst (λ (n : ℕ). P q n (view (get_or xs i d)) (view v)) (sym both.0) is))))
      (λ apart.
      let l' : place_in b p s < place_in b q r = omega (arith, apart, l) in
      subst (λ (y : X). P p s (before p s) y) (sym (elsewhere p s in_row apart)) (so_far.done p s in_row in_rows l'))
      (cases_eq (place_in b p s) (place_in b q r));
  ahead = λ p s in_row l. elsewhere p s in_row (λ same. omega (arith, l, same)) ∙ so_far.ahead p s in_row (omega (arith, l));
}
  where
    elsewhere : (p s : ℕ) → p < b.width → (place_in b p s ≡ place_in b q r → ⊥) → view (get_or (set xs i v) (place_in b p s) d) ≡ view (get_or xs (place_in b p s) d)
    elsewhere p s in_row apart =
        ap (λ (j : ℕ). view (get_or (set xs j v) (place_in b p s) d)) at
        ∙ ap view (get_or-set_other xs (place_in b q r) (place_in b p s) v d apart)

pub all_related : {X : Type 0} (b : Block) (before after : ℕ → ℕ → X) (P : ℕ → ℕ → X → X → Type 0) (r n : ℕ) → b.rows ≤ r → n ≡ place_in b 0 r → FirstRelate b before after P n → Relates b before after P
all_related b before after P r n all is so_far q s column row =
    so_far.done q s column row (omega (arith, is, mul-add-lt s b.width q b.rows row column, mul-le b.rows b.width r b.width all (omega arith)))

-- ---- some pixels of a row
pub none_spanned : {X : Type 0} (b : Block) (before : ℕ → ℕ → X) (P : ℕ → ℕ → X → X → Type 0) (r start : ℕ) → SpanRelates b before before P r start start
none_spanned b before P r start = record { done = λ q lo hi column. absurd (omega (arith, lo, hi)); others = λ q s column apart. refl }

-- pixels that may stay as they are
pub span_kept : {X : Type 0} (b : Block) (before : ℕ → ℕ → X) (P : ℕ → ℕ → X → X → Type 0) (r start end : ℕ) → ((q : ℕ) → start ≤ q → q < end → q < b.width → P q r (before q r) (before q r)) → SpanRelates b before before P r start end
span_kept b before P r start end still = record { done = still; others = λ q s column apart. refl }

-- one more pixel is written
pub span_written : {A X : Type 0} (view : A → X) (d : A) (b : Block) (before : ℕ → ℕ → X) (xs : List A) (P : ℕ → ℕ → X → X → Type 0) (r start q i : ℕ) (v : A) → SpanRelates b before (λ p s. view (get_or xs (place_in b p s) d)) P r start q → length xs ≡ size_of b → start ≤ q → q < b.width → r < b.rows → i ≡ place_in b q r → P q r (view (get_or xs i d)) (view v)
    → SpanRelates b before (λ p s. view (get_or (set xs i v) (place_in b p s) d)) P r start (q + 1)
span_written {A} {X} view d b before xs P r start q i v so_far whole from column row at is = record {
  done = λ p lo hi in_row. ⊎_elim
      (λ same. subst (λ (n : ℕ). P n r (before n r) (view (get_or (set xs i v) (place_in b n r) d))) (sym same) here)
      (λ apart. subst (λ (y : X). P p r (before p r) y) (sym (elsewhere p r in_row (λ k m. apart k))) (so_far.done p lo (omega (arith, apart, hi)) in_row))
      (cases_eq p q);
  others = λ p s in_row apart.
      elsewhere p s in_row (λ k m. apart m (omega (arith, k, from)) (omega (arith, k)))
      ∙ so_far.others p s in_row (λ m lo hi. apart m lo (omega (arith, hi)));
}
  where
    elsewhere : (p s : ℕ) → p < b.width → (p ≡ q → s ≡ r → ⊥) → view (get_or (set xs i v) (place_in b p s) d) ≡ view (get_or xs (place_in b p s) d)
    elsewhere p s in_row apart =
        ap (λ (j : ℕ). view (get_or (set xs j v) (place_in b p s) d)) at
        ∙ ap view (written_elsewhere b xs q r p s v d column in_row apart)

    there : view (get_or xs i d) ≡ before q r
    there = ap (λ (j : ℕ). view (get_or xs j d)) at ∙ so_far.others q r column (λ m lo hi. omega (arith, hi))

    new : view (get_or (set xs i v) (place_in b q r) d) ≡ view v
    new = ap (λ (j : ℕ). view (get_or (set xs j v) (place_in b q r) d)) at ∙ ap view (written_here b xs q r v d whole column row)

    here : P q r (before q r) (view (get_or (set xs i v) (place_in b q r) d))
    here = subst (λ (y : X). P q r (before q r) y) (sym new) (subst (λ (x : X). P q r x (view v)) there is)

pub span_weaker : {X : Type 0} (b : Block) (before after : ℕ → ℕ → X) (P Q : ℕ → ℕ → X → X → Type 0) (r start end : ℕ) → SpanRelates b before after P r start end
    → ((q : ℕ) → start ≤ q → q < end → q < b.width → (x y : X) → P q r x y → Q q r x y) → SpanRelates b before after Q r start end
span_weaker b before after P Q r start end span f = record {
  done = λ q lo hi column. f q lo hi column (before q r) (after q r) (span.done q lo hi column);
  others = span.others;
}

rows_apart : (w s r : ℕ) → s < r → s * w + w ≤ r * w
rows_apart w s r l = omega (arith, mul-le (s + 1) w r w (omega (arith, l)) (omega arith), add-mul s 1 w)

place_before : (b : Block) (p s q r : ℕ) → p < b.width → (s ≡ r → p < q) → s ≤ r → place_in b p s < place_in b q r
place_before b p s q r column same l = ⊎_elim
    (λ below. omega (arith, column, rows_apart b.width s r below))
    (λ above. let is : s ≡ r = omega (arith, l, above) in omega (arith, same is, ap (λ (n : ℕ). n * b.width) is))
    (cases_lt s r)

-- a span more
pub related_span : {X : Type 0} (b : Block) (before mid after : ℕ → ℕ → X) (P : ℕ → ℕ → X → X → Type 0) (r start end : ℕ) → FirstRelate b before mid P (place_in b start r) → SpanRelates b mid after P r start end → start ≤ end → end ≤ b.width
    → FirstRelate b before after P (place_in b end r)
related_span {X} b before mid after P r start end so_far span some within = record {
  done = λ p s in_row in_rows l. ⊎_elim
      (λ same. subst (λ (n : ℕ). P p n (before p n) (after p n)) (sym same) (in_span p in_row (subst (λ (n : ℕ). place_in b p n < place_in b end r) same l) (subst (λ (n : ℕ). n < b.rows) same in_rows)))
      (λ apart. let before_row : s ≤ r = earlier p s in_row l in
      subst (λ (y : X). P p s (before p s) y) (sym (span.others p s in_row (λ m lo hi. apart m))) (so_far.done p s in_row in_rows (place_before b p s start r in_row (λ m. absurd (apart m)) before_row)))
      (cases_eq s r);
  ahead = λ p s in_row l.
      span.others p s in_row (λ m lo hi. omega (arith, l, hi, ap (λ (n : ℕ). n * b.width) m))
      ∙ so_far.ahead p s in_row (omega (arith, l, some));
}
  where
    earlier : (p s : ℕ) → p < b.width → place_in b p s < place_in b end r → s ≤ r
    earlier p s in_row l = ⊎_elim
        (λ above. absurd (omega (arith, l, within, rows_apart b.width r s above)))
        (λ below. below)
        (cases_lt r s)

    in_span : (p : ℕ) → p < b.width → place_in b p r < place_in b end r → r < b.rows → P p r (before p r) (after p r)
    in_span p in_row l row = ⊎_elim
        (λ below. subst (λ (y : X). P p r (before p r) y) (sym (span.others p r in_row (λ m lo hi. omega (arith, below, lo)))) (so_far.done p r in_row row (omega (arith, below))))
        (λ beyond. subst (λ (x : X). P p r x (after p r)) (so_far.ahead p r in_row (omega (arith, beyond))) (span.done p beyond (omega (arith, l)) in_row))
        (cases_lt p start)
