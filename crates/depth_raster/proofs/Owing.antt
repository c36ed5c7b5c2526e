-- Marks that are owed.
use Rattle.std.proofs.Common.{◌≡◌, ℕ, ◌+◌, ◌-◌, ◌*◌, ◌/◌, ◌%◌, ◌<◌, ◌≤◌, ◌++◌, List, [], length, get_or, take, drop, Option, None, Some, option_map, Bool, true, cond, refl, ap, sym, ◌∙◌, subst, arith, ⊎_elim}
use Rattle.std.specs.Prelude.{IsSomeAnd, nat_lt}
use Rattle.std.specs.List.{All}
use Rattle.std.specs.Option.{IfSome, ForSome}
use Rattle.std.proofs.Math.Nat.{mod-lt, mul-zero}
use Rattle.std.proofs.lemmas.Bool.{cases_lt}
use Rattle.std.proofs.lemmas.Bool.Decides.{nat_tests}
use Rattle.std.proofs.lemmas.Grind.{merely}
use Rattle.std.proofs.lemmas.List.{get_or_default, same_lists}
use Rattle.std.proofs.lemmas.List.FromFn.{get_or-map-range_with_len, length-map-range_with_len}
use Rattle.std.proofs.lemmas.Nat.{div-add-mod', div-mul-add, mod-mul-add}
use Rattle.fx_math.specs.declared.lenses.Lens.{Lens}
use Rattle.tri_cover.specs.declared.hit.Hit.{Hit}
use Rattle.tri_cover.specs.Hits.{hit}
use Rattle.edge_values.proofs.Divided.{quotient_before}
use Rattle.depth_raster.specs.Blocks.{place_in, size_of, colour_in}
use Rattle.depth_raster.specs.Following.{Follows, Relates}
use Rattle.depth_raster.specs.Marks.{goes_before, mark_of, mark_with, mark_over, no_mark, nothing}
use Rattle.depth_raster.specs.Owed.{owed_mark, owed_marks, marks_with, IsShown, AreShown, IsOwedIn}
use Rattle.depth_raster.specs.Pieces.{kept_colour}
use Rattle.depth_raster.specs.Tiles.{marks_of, mark_in, within, face_over, painted_within}
use Rattle.depth_raster.specs.declared.blocks.Block.{Block}
use Rattle.depth_raster.specs.declared.faces.Face.{Face}
use Rattle.depth_raster.specs.declared.marks.Mark.{Mark}
use Rattle.depth_raster.specs.declared.owed.Owed.{Owed}
use Rattle.depth_raster.specs.declared.pieces.Piece.{Piece}
use Rattle.depth_raster.specs.declared.tile.Tile.{Tile}
use Rattle.depth_raster.proofs.Following.{place_within}
use Rattle.depth_raster.proofs.Once.{owed_in}
use Rattle.depth_raster.proofs.Shared.{written}
use Rattle.depth_raster.proofs.Topped.{all_marks}

pub owed_long : (o : Owed) (b : Block) → length (owed_marks o b) ≡ size_of b
unfolding owed_marks
owed_long o b = length-map-range_with_len (λ i. owed_mark o b (i % b.width) (i / b.width)) 0 (size_of b)

at_rest : (q r w : ℕ) → q < w → (r * w + q) % w ≡ q
at_rest q r w l = mod-mul-add r w q l

at_quotient : (q r w : ℕ) → q < w → (r * w + q) / w ≡ r
at_quotient q r w l = div-mul-add r w q l

pub owed_at : (o : Owed) (b : Block) (q r : ℕ) → q < b.width → r < b.rows → mark_in b (owed_marks o b) q r ≡ owed_mark o b q r
unfolding owed_marks
owed_at o b q r column row =
    get_or-map-range_with_len (λ i. owed_mark o b (i % b.width) (i / b.width)) 0 (size_of b) (place_in b q r) (place_in b q r) no_mark (place_within b q r column row) (omega arith)
    ∙ ap (λ (n : ℕ). owed_mark o b n (place_in b q r / b.width)) (at_rest q r b.width column)
    ∙ ap (λ (n : ℕ). owed_mark o b q n) (at_quotient q r b.width column)

-- ---- the mark of a face that is hit before nothing
goes_first : (f : Face) (h : Hit) (top : ℕ) → h.depth - f.shift ≤ top → top < 2147483648 → goes_before (mark_of f h) nothing ≡ true
goes_first f h top l before = grind (arith, nat_tests)

hit_mark : (f : Face) (top : ℕ) (o : Option Hit) → IsSomeAnd o (λ h. h.depth - f.shift ≤ top) → top < 2147483648
    → IsShown (mark_with nothing (option_map (mark_of f) o)) f.rank × ((mark_with nothing (option_map (mark_of f) o)).depth ≤ top)
hit_mark f top None l before = elim l [ ]
hit_mark f top (Some h) l before =
    subst (λ (t : Bool). IsShown (cond t (mark_of f h) nothing) f.rank × ((cond t (mark_of f h) nothing).depth ≤ top)) (sym (goes_first f h top l before))
    (record { rank_is = refl; before = omega (arith, l, before) }, l)

pub owed_hit : (b : Block) (o : Owed) (q r : ℕ) → IsOwedIn b o → q < b.width → r < b.rows → IsShown (owed_mark o b q r) o.piece.face.rank × ((owed_mark o b q r).depth ≤ o.top)
unfolding mark_over
owed_hit b o q r is column row = hit_mark o.piece.face o.top (hit o.lens (b.left + q) (b.first + r) [] o.piece.face.tri) (is.covered.hits q r column row) is.covered.before

pub owed_topped : (b : Block) (o : Owed) → IsOwedIn b o → All (λ (m : Mark). m.depth ≤ o.top) (owed_marks o b)
owed_topped b o is = all_marks (λ (m : Mark). m.depth ≤ o.top) b (owed_marks o b) (owed_long o b)
    (λ q r column row. subst (λ (m : Mark). m.depth ≤ o.top) (sym (owed_at o b q r column row)) (owed_hit b o q r is column row).1)

pub owed_shown : (b : Block) (o : Owed) → IsOwedIn b o → AreShown b (owed_marks o b) o.piece.face.rank
owed_shown b o is q r column row = subst (λ (m : Mark). IsShown m o.piece.face.rank) (sym (owed_at o b q r column row)) (owed_hit b o q r is column row).0

-- ---- marks that are written
pub unwritten_at : (b : Block) (marks : List Mark) (q r : ℕ) → All (λ (m : Mark). m ≡ nothing) marks → length marks ≡ size_of b → q < b.width → r < b.rows → mark_in b marks q r ≡ nothing
unwritten_at b marks q r none whole column row = none (place_in b q r) no_mark (omega (arith, whole, place_within b q r column row))

pub owed_written : (b : Block) (o : Owed) (before after : List Mark) → length before ≡ size_of b → length after ≡ size_of b → All (λ (m : Mark). m ≡ nothing) before
    → Follows b.width b.rows (mark_in b before) (mark_in b after) (within b (face_over o.lens o.piece.face)) → after ≡ owed_marks o b
owed_written b o before after whole whole' none drawn = same_lists after (owed_marks o b) (whole' ∙ sym (owed_long o b))
    (λ i d below. ⊎_elim
    (λ some.
    let q = i % b.width in
    let r = i / b.width in
    let at : r * b.width + q ≡ i = div-add-mod' i b.width in
    let column : q < b.width = mod-lt i some in
    let row : r < b.rows = quotient_before b.rows i b.width some (omega (arith, below, whole')) in
    let here : mark_in b after q r ≡ mark_in b (owed_marks o b) q r =
    drawn q r column row
    ∙ ap (λ (m : Mark). mark_over o.lens (b.left + q) (b.first + r) o.piece.face m) (unwritten_at b before q r none whole column row)
    ∙ sym (owed_at o b q r column row) in
    let there : get_or after i no_mark ≡ get_or (owed_marks o b) i no_mark = subst (λ (j : ℕ). get_or after j no_mark ≡ get_or (owed_marks o b) j no_mark) at here in
    sym (get_or_default after i no_mark d below) ∙ there ∙ get_or_default (owed_marks o b) i no_mark d (omega (arith, below, whole', owed_long o b)))
    (λ none. absurd (let width : b.width ≡ 0 = omega (arith, none) in let size : b.rows * b.width ≡ 0 = ap (λ (n : ℕ). b.rows * n) width ∙ mul-zero b.rows in omega (arith, below, whole', size)))
    (cases_lt 0 b.width))

-- where nothing is owed, the marks are those written
pub paid_marks : (b : Block) (written : List Mark) (o : Option Owed) → o ≡ None → marks_with b written o ≡ written
paid_marks b written o none = ap (marks_with b written) none

pub only_owed : (b : Block) (o : Owed) → IsOwedIn b o → ForSome (Some o) (λ x. ∥ IsOwedIn b x ∥₁)
only_owed b o is x same = subst (λ (y : Option Owed). IfSome y (λ z. ∥ IsOwedIn b z ∥₁)) same (merely is)

-- the marks of a tile in which a piece is owed
pub shown_in : (t : Tile) (o : Owed) → t.owed ≡ Some o → AreShown t.block (marks_of t) o.piece.face.rank
shown_in t o is =
    subst (λ (x : Option Owed). AreShown t.block (marks_with t.block t.marks.items x) o.piece.face.rank) (sym is)
    (owed_shown t.block o (owed_in t.block o (t.owing o is)))

-- a blank tile
pub blank_at : (t : Tile) (q r : ℕ) → t.blank ≡ true → q < t.block.width → r < t.block.rows → mark_in t.block (marks_of t) q r ≡ nothing
blank_at t q r blank column row =
    ap (λ (ms : List Mark). mark_in t.block ms q r) (paid_marks t.block t.marks.items t.owed (t.unowing blank))
    ∙ unwritten_at t.block t.marks.items q r (t.blanked blank) t.marks_whole column row

-- the marks of a tile once those that are owed are written
pub owed_items : (t : Tile) (o : Owed) (old new : List Mark) → length new ≡ length old → old ≡ t.marks.items → new ≡ owed_marks o t.block
    → take (length t.marks.items) (new ++ drop (length new) t.marks.items) ≡ owed_marks o t.block
owed_items t o old new long is drawn = written (length t.marks.items) new t.marks.items (long ∙ ap length is) refl ∙ drawn

-- a tile in which nothing is owed
pub paid_topped : (t : Tile) → t.owed ≡ None → All (λ (m : Mark). m.depth ≤ t.top) t.marks.items
paid_topped t none = subst (λ (o : Option Owed). All (λ (m : Mark). m.depth ≤ t.top) (marks_with t.block t.marks.items o)) none t.topped

with_long : (b : Block) (written : List Mark) (o : Option Owed) → length written ≡ size_of b → length (marks_with b written o) ≡ size_of b
with_long b written None whole = whole
with_long b written (Some o) whole = owed_long o b

pub marks_long : (t : Tile) → length (marks_of t) ≡ size_of t.block
marks_long t = with_long t.block t.marks.items t.owed t.marks_whole

-- where something is drawn, a colour is kept
pub kept_before : (back : List ℕ) (m : Mark) (before : List ℕ) → m.depth < 2147483648 → kept_colour back m before ≡ before
kept_before back m before l =
    let lies : nat_lt m.depth 2147483648 ≡ true = grind (arith, nat_tests) in
    ap (λ (t : Bool). cond t before back) lies

-- colours that are painted over those of a tile
pub painted_over : (lens : Lens) (back : List ℕ) (ps : List Piece) (t : Tile) (old new : List (List ℕ)) (marks : List Mark) → old ≡ t.colours.items → length new ≡ length old → marks ≡ marks_of t
    → Relates t.block (colour_in t.block old) (colour_in t.block new) (painted_within lens back ps t.block marks)
    → Relates t.block (colour_in t.block t.colours.items) (colour_in t.block (take (length t.colours.items) (new ++ drop (length new) t.colours.items))) (painted_within lens back ps t.block (marks_of t))
painted_over lens back ps t old new marks is long same painted =
    let whole : take (length t.colours.items) (new ++ drop (length new) t.colours.items) ≡ new = written (length t.colours.items) new t.colours.items (long ∙ ap length is) refl in
    subst (λ (cs : List (List ℕ)). Relates t.block (colour_in t.block t.colours.items) (colour_in t.block cs) (painted_within lens back ps t.block (marks_of t))) (sym whole)
    (subst (λ (cs : List (List ℕ)). Relates t.block (colour_in t.block cs) (colour_in t.block new) (painted_within lens back ps t.block (marks_of t))) is
    (subst (λ (ms : List Mark). Relates t.block (colour_in t.block old) (colour_in t.block new) (painted_within lens back ps t.block ms)) same painted))
