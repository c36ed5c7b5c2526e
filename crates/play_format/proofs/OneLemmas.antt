-- A text has at most one reading.
use Rattle.std.proofs.Common.{◌≡◌, ℕ, ◌+◌, ◌≤◌, arith, refl, true, false, ap, Bool, sym, ◌∙◌, List, [], ◌∷◌, ◌++◌, length, map, subst, Result, Ok, Option, Some, ℤ, pos, negsuc, append_assoc}
use Rattle.std.specs.List.{AllByRecursion}
use Rattle.std.proofs.Props.{props}
use Rattle.std.proofs.lemmas.List.{length-map}
use Rattle.fx_math.specs.Within.{IsLens}
use Rattle.fx_math.specs.declared.lenses.Lens.{Lens}
use Rattle.pf_model.specs.declared.geometry.Tri.{Tri}
use Rattle.pf_model.specs.declared.nodes.Kind.TheVariants as kind
use Rattle.pf_model.specs.declared.edits.Edit.{Edit}
use Rattle.pf_model.specs.declared.edits.Edit.TheVariants as edit
use Rattle.pf_model.specs.declared.lines.AppStep.{AppStep}
use Rattle.pf_model.specs.declared.lines.AppStep.TheVariants as app_step
use Rattle.pf_model.specs.declared.lines.AppLine.{AppLine}
use Rattle.pf_model.specs.declared.lines.BaseStep.{BaseStep}
use Rattle.pf_model.specs.declared.lines.BaseStep.TheVariants as base_step
use Rattle.pf_model.specs.declared.lines.BaseLine.{BaseLine}
use Rattle.play_format.specs.declared.refusal.Refusal.{Refusal}
use Rattle.play_format.specs.declared.commands.Command.TheVariants as command
use Rattle.play_format.specs.declared.places.Version.{Version}
use Rattle.play_format.specs.declared.places.Spot.{Spot}
use Rattle.play_format.specs.Commands.{limits_of, Entry}
use Rattle.play_format.specs.Places.{AreWithin, announced, next_spot, start}
use Rattle.play_format.specs.Grammar.{reading}
use Rattle.play_format.specs.Making.{tri_of, app_step_of, base_step_of}
use Rattle.play_format.specs.Spelling.{tri_entry, edit_triangles, app_entry, app_triangles, app_lines, base_entry, base_triangles, base_lines, header_entries, channels_entries, app_entries, base_entries, AreAppNumbered, AreBaseNumbered}
use Rattle.play_format.specs.Written.{AreTriangles, IsAppStep, IsBaseStep, IsWritten}
use Rattle.play_format.specs.Plays.{Script}
use Rattle.play_format.specs.Outcomes.{ReadAs}
use Rattle.play_format.specs.Reads.{Layout, entries_of, dbase_entries, first_line, IsLaidOut, Follow, Reads}
use Rattle.play_format.proofs.EntryLemmas.{channels_within}
use Rattle.play_format.proofs.LawLemmas.{some_channels, few_channels}
use Rattle.play_format.proofs.TextLemmas.{reading_spelled, reading_again}
use Rattle.play_format.proofs.AgainLemmas.{app_again, base_again, tri_again, app_announced, base_announced, app_not_dbase}

-- the numbers of a line are within their limits, in a play of at most four channels
pub record IsWithinSome (e : Entry) : Type 0 where
  pub channels : ℕ
  pub few : channels ≤ 4
  pub within : AreWithin (limits_of channels e.0) e.1

abbrev pub AllWithin : List Entry → Type 0
AllWithin es = AllByRecursion IsWithinSome es

pub follow_within : (s : Spot) (es : List Entry) → 1 ≤ s.channels → s.channels ≤ 4 → Follow s es → AllWithin es
follow_within s [] some few h = tt
follow_within s (e ∷ es) some few h =
    let k = channels_within s.channels e.0 e.1 some few h.0.within in
    (record { channels = s.channels; few = few; within = h.0.within }, follow_within (next_spot s e.0 e.1) es (some_channels s e.0 e.1 k.0) (few_channels s e.0 e.1 k.1) h.1)

pub front_within : (xs ys : List Entry) → AllWithin (xs ++ ys) → AllWithin xs
front_within [] ys h = tt
front_within (x ∷ xs) ys h = (h.0, front_within xs ys h.1)

pub rest_within : (xs ys : List Entry) → AllWithin (xs ++ ys) → AllWithin ys
rest_within [] ys h = h
rest_within (x ∷ xs) ys h = rest_within xs ys h.1

-- lists of one length in front of others
split_same : (xs ys zs ws : List Entry) → length xs ≡ length ys → xs ++ zs ≡ ys ++ ws → (xs ≡ ys) × (zs ≡ ws)
split_same [] [] zs ws l e = (refl, e)
split_same [] (y ∷ ys) zs ws l e = absurd (omega (arith, l))
split_same (x ∷ xs) [] zs ws l e = absurd (omega (arith, l))
split_same (x ∷ xs) (y ∷ ys) zs ws l e =
    let heads : x ≡ y = cc in
    let tails : xs ++ zs ≡ ys ++ ws = cc in
    let k = split_same xs ys zs ws (omega (arith, l)) tails in
    (ap (λ (v : Entry). v ∷ xs) heads ∙ ap (λ (vs : List Entry). y ∷ vs) k.0, k.1)

-- the triangles of triangle lines
abbrev tris_of : List Entry → List Tri
tris_of es = map (λ e. tri_of e.1) es

triangles_told : (ts : List Tri) → AreTriangles ts → AllWithin (map tri_entry ts) → tris_of (map tri_entry ts) ≡ ts
triangles_told [] h w = refl
triangles_told (t ∷ ts) h w = ap (λ (x : Tri). x ∷ tris_of (map tri_entry ts)) (tri_again t h.0 w.0.within) ∙ ap (λ (xs : List Tri). t ∷ xs) (triangles_told ts h.1 w.1)

pub head_same : (x y : Entry) (xs ys : List Entry) → x ∷ xs ≡ y ∷ ys → x ≡ y
head_same x y xs ys e = cc

pub tail_same : (x y : Entry) (xs ys : List Entry) → x ∷ xs ≡ y ∷ ys → xs ≡ ys
tail_same x y xs ys e = cc

edit_triangles_written : (e : Edit) → IsWritten e → AreTriangles (edit_triangles e)
edit_triangles_written (edit.Make id (kind.Geode s ts)) h = h
edit_triangles_written (edit.Make id (kind.Glass s a ts)) h = h
edit_triangles_written (edit.Make id k) h = tt
edit_triangles_written (edit.Verts id ts) h = h
edit_triangles_written e h = tt

app_triangles_written : (s : AppStep) → IsAppStep s → AreTriangles (app_triangles s)
app_triangles_written (app_step.Edit e) h = edit_triangles_written e h
app_triangles_written s h = tt

base_triangles_written : (s : BaseStep) → IsBaseStep s → AreTriangles (base_triangles s)
base_triangles_written (base_step.Edit e) h = edit_triangles_written e h
base_triangles_written s h = tt

app_told : (s : AppStep) → IsAppStep s → AllWithin (app_lines s) → app_step_of (app_entry s).0 (app_entry s).1 (tris_of (map tri_entry (app_triangles s))) ≡ Some s
app_told s h w =
    let k = w.0 in
    ap (app_step_of (app_entry s).0 (app_entry s).1) (triangles_told (app_triangles s) (app_triangles_written s h) w.1) ∙ app_again k.channels s k.few h k.within

abbrev app_some : AppStep → Option AppStep
app_some s = Some s

-- steps with the same lines in front are the same
pub app_step_same : (s t : AppStep) (xs ys : List Entry) → IsAppStep s → IsAppStep t → app_lines s ++ xs ≡ app_lines t ++ ys → AllWithin (app_lines s ++ xs) → AllWithin (app_lines t ++ ys) → (s ≡ t) × (xs ≡ ys)
app_step_same s t xs ys h k e w v =
    let first : app_entry s ≡ app_entry t = head_same (app_entry s) (app_entry t) _ _ e in
    let rest : map tri_entry (app_triangles s) ++ xs ≡ map tri_entry (app_triangles t) ++ ys = tail_same (app_entry s) (app_entry t) _ _ e in
    let count : length (app_triangles s) ≡ length (app_triangles t) = (app_announced s) ∙ ap (λ (e : Entry). announced e.0 e.1) first ∙ sym (app_announced t) in
    let parts = split_same (map tri_entry (app_triangles s)) (map tri_entry (app_triangles t)) xs ys (length-map (app_triangles s) tri_entry ∙ count ∙ sym (length-map (app_triangles t) tri_entry)) rest in
    let a = app_told s h (front_within (app_lines s) xs w) in
    let b = app_told t k (front_within (app_lines t) ys v) in
    let same : app_some s ≡ app_some t = sym a ∙ ap (λ (e : Entry). app_step_of e.0 e.1 (tris_of (map tri_entry (app_triangles s)))) first ∙ ap (λ (es : List Entry). app_step_of (app_entry t).0 (app_entry t).1 (tris_of es)) parts.0 ∙ b in
    (cc, parts.1)

base_told : (s : BaseStep) → IsBaseStep s → AllWithin (base_lines s) → base_step_of (base_entry s).0 (base_entry s).1 (tris_of (map tri_entry (base_triangles s))) ≡ Some s
base_told s h w =
    let k = w.0 in
    ap (base_step_of (base_entry s).0 (base_entry s).1) (triangles_told (base_triangles s) (base_triangles_written s h) w.1) ∙ base_again k.channels s h k.within

abbrev base_some : BaseStep → Option BaseStep
base_some s = Some s

-- steps with the same lines in front are the same
pub base_step_same : (s t : BaseStep) (xs ys : List Entry) → IsBaseStep s → IsBaseStep t → base_lines s ++ xs ≡ base_lines t ++ ys → AllWithin (base_lines s ++ xs) → AllWithin (base_lines t ++ ys) → (s ≡ t) × (xs ≡ ys)
base_step_same s t xs ys h k e w v =
    let first : base_entry s ≡ base_entry t = head_same (base_entry s) (base_entry t) _ _ e in
    let rest : map tri_entry (base_triangles s) ++ xs ≡ map tri_entry (base_triangles t) ++ ys = tail_same (base_entry s) (base_entry t) _ _ e in
    let count : length (base_triangles s) ≡ length (base_triangles t) = (base_announced s h) ∙ ap (λ (e : Entry). announced e.0 e.1) first ∙ sym (base_announced t k) in
    let parts = split_same (map tri_entry (base_triangles s)) (map tri_entry (base_triangles t)) xs ys (length-map (base_triangles s) tri_entry ∙ count ∙ sym (length-map (base_triangles t) tri_entry)) rest in
    let a = base_told s h (front_within (base_lines s) xs w) in
    let b = base_told t k (front_within (base_lines t) ys v) in
    let same : base_some s ≡ base_some t = sym a ∙ ap (λ (e : Entry). base_step_of e.0 e.1 (tris_of (map tri_entry (base_triangles s)))) first ∙ ap (λ (es : List Entry). base_step_of (base_entry t).0 (base_entry t).1 (tris_of es)) parts.0 ∙ b in
    (cc, parts.1)

-- what may stand behind the steps of the application: nothing, or the line `dbase`
abbrev Ends : List Entry → Type 0
Ends [] = Unit {0}
Ends (e ∷ es) = e.0 ≡ command.Dbase

abbrev app_line_of : ℕ → AppStep → AppLine
app_line_of n s = record { line = n; step = s }

abbrev base_line_of : ℕ → BaseStep → BaseLine
base_line_of n s = record { line = n; step = s }

pub app_line_same : (l m : AppLine) (n : ℕ) → l.line ≡ n → m.line ≡ n → l.step ≡ m.step → l ≡ m
app_line_same l m n e f g = ap (λ (k : ℕ). app_line_of k l.step) (e ∙ sym f) ∙ ap (λ (s : AppStep). app_line_of m.line s) g

pub base_line_same : (l m : BaseLine) (n : ℕ) → l.line ≡ n → m.line ≡ n → l.step ≡ m.step → l ≡ m
base_line_same l m n e f g = ap (λ (k : ℕ). base_line_of k l.step) (e ∙ sym f) ∙ ap (λ (s : BaseStep). base_line_of m.line s) g

pub app_unique : (n : ℕ) (ls ms : List AppLine) (xs ys : List Entry) → Ends xs → Ends ys → app_entries ls ++ xs ≡ app_entries ms ++ ys → AllWithin (app_entries ls ++ xs) → AllWithin (app_entries ms ++ ys)
    → AllByRecursion (λ l. IsAppStep l.step) ls → AllByRecursion (λ l. IsAppStep l.step) ms → AreAppNumbered n ls → AreAppNumbered n ms → (ls ≡ ms) × (xs ≡ ys)
app_unique n [] [] xs ys a b e w v h k p q = (refl, e)
app_unique n [] (m ∷ ms) [] ys a b e w v h k p q = absurd cc
app_unique n [] (m ∷ ms) (x ∷ xs) ys a b e w v h k p q = absurd (app_not_dbase m.step (ap (λ (e : Entry). e.0) (sym (head_same x (app_entry m.step) _ _ e)) ∙ a))
app_unique n (l ∷ ls) [] xs [] a b e w v h k p q = absurd cc
app_unique n (l ∷ ls) [] xs (y ∷ ys) a b e w v h k p q = absurd (app_not_dbase l.step (ap (λ (e : Entry). e.0) (head_same (app_entry l.step) y _ _ e) ∙ b))
app_unique n (l ∷ ls) (m ∷ ms) xs ys a b e w v h k p q =
    let g : app_lines l.step ++ (app_entries ls ++ xs) ≡ app_lines m.step ++ (app_entries ms ++ ys) = sym (append_assoc (app_lines l.step) (app_entries ls) xs) ∙ e ∙ append_assoc (app_lines m.step) (app_entries ms) ys in
    let w2 : AllWithin (app_lines l.step ++ (app_entries ls ++ xs)) = subst AllWithin (append_assoc (app_lines l.step) (app_entries ls) xs) w in
    let v2 : AllWithin (app_lines m.step ++ (app_entries ms ++ ys)) = subst AllWithin (append_assoc (app_lines m.step) (app_entries ms) ys) v in
    let s = app_step_same l.step m.step (app_entries ls ++ xs) (app_entries ms ++ ys) h.0 k.0 g w2 v2 in
    let r = app_unique (n + length (app_lines l.step)) ls ms xs ys a b s.1 (rest_within (app_lines l.step) (app_entries ls ++ xs) w2) (rest_within (app_lines m.step) (app_entries ms ++ ys) v2) h.1 k.1 p.1 (rw s.0 q.1) in
    (ap (λ (x : AppLine). x ∷ ls) (app_line_same l m n p.0 q.0 s.0) ∙ ap (λ (xs : List AppLine). m ∷ xs) r.0, r.1)

pub base_unique : (n : ℕ) (ls ms : List BaseLine) → base_entries ls ≡ base_entries ms → AllWithin (base_entries ls) → AllWithin (base_entries ms)
    → AllByRecursion (λ l. IsBaseStep l.step) ls → AllByRecursion (λ l. IsBaseStep l.step) ms → AreBaseNumbered n ls → AreBaseNumbered n ms → ls ≡ ms
base_unique n [] [] e w v h k p q = refl
base_unique n [] (m ∷ ms) e w v h k p q = absurd cc
base_unique n (l ∷ ls) [] e w v h k p q = absurd cc
base_unique n (l ∷ ls) (m ∷ ms) e w v h k p q =
    let s = base_step_same l.step m.step (base_entries ls) (base_entries ms) h.0 k.0 e w v in
    let r = base_unique (n + length (base_lines l.step)) ls ms s.1 (rest_within (base_lines l.step) (base_entries ls) w) (rest_within (base_lines m.step) (base_entries ms) v) h.1 k.1 p.1 (rw s.0 q.1) in
    ap (λ (x : BaseLine). x ∷ ls) (base_line_same l m n p.0 q.0 s.0) ∙ ap (λ (xs : List BaseLine). m ∷ xs) r

-- Headers

is_lens_once : (w h f : ℕ) (near far : ℤ) → IsProp (IsLens w h f near far)
is_lens_once w h f near far = hlevel props

abbrev lens_of : (w h f : ℕ) (near far : ℤ) → IsLens w h f near far → Lens
lens_of w h f near far k = record { w = w; h = h; f = f; near = near; far = far; in_range = k }

same_lens_of : (w h f : ℕ) (near far : ℤ) (w2 h2 f2 : ℕ) (near2 far2 : ℤ) → w ≡ w2 → h ≡ h2 → f ≡ f2 → near ≡ near2 → far ≡ far2 → (k : IsLens w h f near far) (m : IsLens w2 h2 f2 near2 far2) → lens_of w h f near far k ≡ lens_of w2 h2 f2 near2 far2 m
same_lens_of w h f near far w2 h2 f2 near2 far2 a b c d e k =
    let A : ℕ → Type 0 = λ x. (m : IsLens x h2 f2 near2 far2) → lens_of w h f near far k ≡ lens_of x h2 f2 near2 far2 m in
    let B : ℕ → Type 0 = λ x. (m : IsLens w x f2 near2 far2) → lens_of w h f near far k ≡ lens_of w x f2 near2 far2 m in
    let C : ℕ → Type 0 = λ x. (m : IsLens w h x near2 far2) → lens_of w h f near far k ≡ lens_of w h x near2 far2 m in
    let D : ℤ → Type 0 = λ x. (m : IsLens w h f x far2) → lens_of w h f near far k ≡ lens_of w h f x far2 m in
    let E : ℤ → Type 0 = λ x. (m : IsLens w h f near x) → lens_of w h f near far k ≡ lens_of w h f near x m in
    subst A a (subst B b (subst C c (subst D d (subst E e (λ m. ap (lens_of w h f near far) (is_lens_once w h f near far k m))))))

same_lens : (l m : Lens) → l.w ≡ m.w → l.h ≡ m.h → l.f ≡ m.f → l.near ≡ m.near → l.far ≡ m.far → l ≡ m
same_lens l m a b c d e = same_lens_of l.w l.h l.f l.near l.far m.w m.h m.f m.near m.far a b c d e l.in_range m.in_range

naturals : List ℤ → List ℕ
naturals [] = []
naturals (pos n ∷ zs) = n ∷ naturals zs
naturals (negsuc n ∷ zs) = 0 ∷ naturals zs

naturals_of : (ns : List ℕ) → naturals (map pos ns) ≡ ns
unfolding naturals
naturals_of [] = refl
naturals_of (n ∷ ns) = ap (λ (xs : List ℕ). n ∷ xs) (naturals_of ns)

entry_numbers : {x y : Entry} → x ≡ y → x.1 ≡ y.1
entry_numbers e = ap (λ (x : Entry). x.1) e

five_same : (w h f : ℕ) (n r : ℤ) (w2 h2 f2 : ℕ) (n2 r2 : ℤ) → pos w ∷ pos h ∷ [] ≡ pos w2 ∷ pos h2 ∷ [] → pos f ∷ n ∷ r ∷ [] ≡ pos f2 ∷ n2 ∷ r2 ∷ []
    → (w ≡ w2) × (h ≡ h2) × (f ≡ f2) × (n ≡ n2) × (r ≡ r2)
five_same w h f n r w2 h2 f2 n2 r2 a b = (cc, cc, cc, cc, cc)

pub record HeaderSame (l m : Lens) (a b : List ℕ) (x y : List Entry) : Type 0 where
  pub lens : l ≡ m
  pub back : a ≡ b
  pub rest : x ≡ y

pub header_same : (l m : Lens) (a b : List ℕ) (x y : List Entry)
    → (command.Size, pos l.w ∷ pos l.h ∷ []) ∷ (command.Lens, pos l.f ∷ l.near ∷ l.far ∷ []) ∷ (command.Back, map pos a) ∷ x ≡ (command.Size, pos m.w ∷ pos m.h ∷ []) ∷ (command.Lens, pos m.f ∷ m.near ∷ m.far ∷ []) ∷ (command.Back, map pos b) ∷ y
    → HeaderSame l m a b x y
header_same l m a b x y e =
    let size = entry_numbers (head_same _ _ _ _ e) in
    let lens_line = tail_same _ _ _ _ e in
    let lens = entry_numbers (head_same _ _ _ _ lens_line) in
    let back_line = tail_same _ _ _ _ lens_line in
    let colours = entry_numbers (head_same _ _ _ _ back_line) in
    let k = five_same l.w l.h l.f l.near l.far m.w m.h m.f m.near m.far size lens in
    record { lens = same_lens l m k.0 k.1 k.2 k.3 k.4; back = sym (naturals_of a) ∙ ap naturals colours ∙ naturals_of b; rest = tail_same _ _ _ _ back_line }

pub record BodySame (s t : Bool) (n k : ℕ) (x y : List Entry) : Type 0 where
  pub says : s ≡ t
  pub channels : n ≡ k
  pub body : x ≡ y

pub channels_same : (s t : Bool) (n k : ℕ) (x y : List Entry) → (s ≡ false → n ≡ 1) → (t ≡ false → k ≡ 1)
    → (channels_entries s n ++ (command.App, []) ∷ []) ++ x ≡ (channels_entries t k ++ (command.App, []) ∷ []) ++ y → BodySame s t n k x y
channels_same true true n k x y a b e =
    let numbers : pos n ∷ [] ≡ pos k ∷ [] = entry_numbers (head_same _ _ _ _ e) in
    record { says = refl; channels = cc; body = tail_same _ _ _ _ (tail_same _ _ _ _ e) }
channels_same true false n k x y a b e = let c : command.Channels ≡ command.App = ap (λ (x : Entry). x.0) (head_same _ _ _ _ e) in absurd cc
channels_same false true n k x y a b e = let c : command.App ≡ command.Channels = ap (λ (x : Entry). x.0) (head_same _ _ _ _ e) in absurd cc
channels_same false false n k x y a b e = record { says = refl; channels = a refl ∙ sym (b refl); body = tail_same _ _ _ _ e }

dbase_ends : (b : Bool) (ls : List BaseLine) → Ends (dbase_entries b ls)
dbase_ends true ls = refl
dbase_ends false ls = tt

dbase_same : (s t : Bool) (n : ℕ) (ls ms : List BaseLine) → (s ≡ false → ls ≡ []) → (t ≡ false → ms ≡ []) → dbase_entries s ls ≡ dbase_entries t ms → AllWithin (dbase_entries s ls) → AllWithin (dbase_entries t ms)
    → AllByRecursion (λ l. IsBaseStep l.step) ls → AllByRecursion (λ l. IsBaseStep l.step) ms → AreBaseNumbered n ls → AreBaseNumbered n ms → ls ≡ ms
dbase_same true true n ls ms a b e w v h k p q = base_unique n ls ms (tail_same (command.Dbase, []) (command.Dbase, []) _ _ e) w.1 v.1 h k p q
dbase_same true false n ls ms a b e w v h k p q = absurd cc
dbase_same false true n ls ms a b e w v h k p q = absurd cc
dbase_same false false n ls ms a b e w v h k p q = a refl ∙ sym (b refl)

abbrev script_of : Lens → List ℕ → ℕ → List AppLine → List BaseLine → Script
script_of lens back channels app dbase = record { lens = lens; back = back; channels = channels; app = app; dbase = dbase }

script_same : (p q : Script) → p.lens ≡ q.lens → p.back ≡ q.back → p.channels ≡ q.channels → p.app ≡ q.app → p.dbase ≡ q.dbase → p ≡ q
script_same p q a b c d e =
    ap (λ (x : Lens). script_of x p.back p.channels p.app p.dbase) a
    ∙ ap (λ (x : List ℕ). script_of q.lens x p.channels p.app p.dbase) b
    ∙ ap (λ (x : ℕ). script_of q.lens q.back x p.app p.dbase) c
    ∙ ap (λ (x : List AppLine). script_of q.lens q.back q.channels x p.dbase) d
    ∙ ap (λ (x : List BaseLine). script_of q.lens q.back q.channels q.app x) e

-- plays with the same lines are the same
pub entries_unique : (l m : Layout) (p q : Script) → IsLaidOut l p → IsLaidOut m q → entries_of l p ≡ entries_of m q → AllWithin (entries_of l p) → AllWithin (entries_of m q) → p ≡ q
entries_unique l m p q a b e w v =
    let head = header_same p.lens q.lens p.back q.back _ _ e in
    let start = channels_same l.says_channels m.says_channels p.channels q.channels (app_entries p.app ++ dbase_entries l.has_dbase p.dbase) (app_entries q.app ++ dbase_entries m.has_dbase q.dbase) a.one_channel b.one_channel head.rest in
    let w2 = rest_within (header_entries l.says_channels p.lens p.back p.channels) (app_entries p.app ++ dbase_entries l.has_dbase p.dbase) w in
    let v2 = rest_within (header_entries m.says_channels q.lens q.back q.channels) (app_entries q.app ++ dbase_entries m.has_dbase q.dbase) v in
    let numbers : AreAppNumbered (first_line l.says_channels) q.app = subst (λ (s : Bool). AreAppNumbered (first_line s) q.app) (sym start.says) b.app_numbers in
    let app = app_unique (first_line l.says_channels) p.app q.app (dbase_entries l.has_dbase p.dbase) (dbase_entries m.has_dbase q.dbase) (dbase_ends l.has_dbase p.dbase) (dbase_ends m.has_dbase q.dbase) start.body w2 v2 a.app_written b.app_written a.app_numbers numbers in
    let base_numbers : AreBaseNumbered (first_line l.says_channels + length (app_entries p.app) + 1) q.dbase =
    subst (λ (s : Bool). AreBaseNumbered (first_line s + length (app_entries p.app) + 1) q.dbase) (sym start.says) (subst (λ (ls : List AppLine). AreBaseNumbered (first_line m.says_channels + length (app_entries ls) + 1) q.dbase) (sym app.0) b.dbase_numbers) in
    let dbase = dbase_same l.has_dbase m.has_dbase (first_line l.says_channels + length (app_entries p.app) + 1) p.dbase q.dbase a.no_dbase b.no_dbase app.1
    (rest_within (app_entries p.app) (dbase_entries l.has_dbase p.dbase) w2) (rest_within (app_entries q.app) (dbase_entries m.has_dbase q.dbase) v2) a.dbase_written b.dbase_written a.dbase_numbers base_numbers in
    script_same p q head.lens head.back start.channels app.0 dbase

abbrev whole : Version × List Entry → Result (Version × List Entry) Refusal
whole x = Ok x

same_parts : (x y : Version × List Entry) → whole x ≡ whole y → x ≡ y
same_parts x y e = cc

-- a text that spells a play is read as it
pub read_of_spelling : (text : List ℕ) (p : Script) (r : Reads text p) → reading text ≡ Ok (r.layout.version, entries_of r.layout p)
read_of_spelling text p r = reading_again text r.layout.version (entries_of r.layout p) r.follow r.lines r.few r.spelled

-- and one that is read as a play spells it
pub spelling_of_read : (text : List ℕ) (p : Script) → ReadAs text p → Reads text p
spelling_of_read text p r =
    let t = reading_spelled text r.layout.version (entries_of r.layout p) r.read in
    record { layout = r.layout; laid_out = r.laid_out; follow = t.follow; lines = t.lines; few = t.few; spelled = t.spelled }

one_start : (v : Version) → (1 ≤ (start v).channels) × ((start v).channels ≤ 4)
one_start v = (omega arith, omega arith)

pub one_play : (text : List ℕ) (p q : Script) → Reads text p → Reads text q → p ≡ q
one_play text p q r t =
    let same = same_parts (r.layout.version, entries_of r.layout p) (t.layout.version, entries_of t.layout q) (sym (read_of_spelling text p r) ∙ read_of_spelling text q t) in
    let lines : entries_of r.layout p ≡ entries_of t.layout q = ap (λ (x : Version × List Entry). x.1) same in
    entries_unique r.layout t.layout p q r.laid_out t.laid_out lines
    (follow_within (start r.layout.version) (entries_of r.layout p) (one_start r.layout.version).0 (one_start r.layout.version).1 r.follow)
    (follow_within (start t.layout.version) (entries_of t.layout q) (one_start t.layout.version).0 (one_start t.layout.version).1 t.follow)
