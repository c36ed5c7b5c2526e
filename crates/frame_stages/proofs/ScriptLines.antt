-- The lines that are left of a section.
use Rattle.std.proofs.Common.{◌≡◌, ℕ, zero, suc, ◌+◌, ◌≤◌, List, [], ◌∷◌, drop, length, Some, None, refl, sym, ap, ◌∙◌, subst, arith}
use Rattle.std.proofs.lemmas.Option.{same_Some}
use Rattle.std.specs.Prelude.{slice_get, slice_set}
use Rattle.pf_model.specs.declared.edits.Edit.{Edit}
use Rattle.pf_model.specs.declared.lines.AppStep.{AppStep}
use Rattle.pf_model.specs.declared.lines.AppStep.TheVariants as app
use Rattle.pf_model.specs.declared.lines.AppLine.{AppLine}
use Rattle.frame_stages.specs.Scripts.{ScriptState, next_step, Exchanged}

drop_suc : (n : ℕ) (lines : List AppLine) → drop 1 (drop n lines) ≡ drop (suc n) lines
drop_suc zero lines = refl
drop_suc (suc n) [] = refl
drop_suc (suc n) (l ∷ lines) = drop_suc n lines

pub drop_one : (n : ℕ) (lines : List AppLine) → drop 1 (drop n lines) ≡ drop (n + 1) lines
drop_one n lines =
    let next : suc n ≡ n + 1 = omega arith in
    drop_suc n lines ∙ ap (λ m. drop m lines) next

-- the next line is the one at the place
pub next_at : (n : ℕ) (lines : List AppLine) (l : AppLine) → slice_get lines n ≡ Some l → next_step (drop n lines) ≡ Some l.step
next_at n [] l at = absurd (cc)
next_at zero (x ∷ lines) l at = ap (λ (v : AppLine). Some v.step) (same_Some x l at)
next_at (suc n) (x ∷ lines) l at = next_at n lines l at

pub next_none : (n : ℕ) (lines : List AppLine) → slice_get lines n ≡ None → next_step (drop n lines) ≡ None
next_none zero [] at = refl
next_none (suc n) [] at = refl
next_none zero (x ∷ lines) at = absurd (cc)
next_none (suc n) (x ∷ lines) at = next_none n lines at

-- where there is a next step, there is a line at the place
pub line_there : (n : ℕ) (lines : List AppLine) (step : AppStep) → next_step (drop n lines) ≡ Some step → n + 1 ≤ length lines
line_there zero [] step at = absurd (cc)
line_there (suc n) [] step at = absurd (cc)
line_there zero (l ∷ lines) step at = omega arith
line_there (suc n) (l ∷ lines) step at = let rest = line_there n lines step at in omega (arith, rest)

-- the step of the line at the place is exchanged
pub exchanged_at : (n : ℕ) (lines : List AppLine) (l : AppLine) (put : AppStep) → slice_get lines n ≡ Some l →
    Exchanged (drop n lines) put l.step (drop n (slice_set lines n (record l { step = put })))
exchanged_at n [] l put at = absurd (cc)
exchanged_at zero (x ∷ lines) l put at =
    let same = same_Some x l at in
    (ap (λ (v : AppLine). v.step) (sym same), ap (λ (v : AppLine). record v { step = put } ∷ lines) (sym same))
exchanged_at (suc n) (x ∷ lines) l put at = exchanged_at n lines l put at

-- an edit that was exchanged is the next step, and it goes back
pub edit_there : (before after : List AppLine) (put : AppStep) (e : Edit) → Exchanged before put (app.Edit e) after →
    next_step before ≡ Some (app.Edit e)
edit_there [] after put e x = absurd x
edit_there (l ∷ lines) after put e x = ap Some (sym x.0)

pub behind_is : (before after : List AppLine) (put got : AppStep) → Exchanged before put got after → drop 1 after ≡ drop 1 before
behind_is [] after put got x = absurd x
behind_is (l ∷ lines) after put got x = ap (drop 1) x.1

pub back_again : (before after again : List AppLine) (put got got' : AppStep) → Exchanged before put got after → Exchanged after got got' again →
    again ≡ before
back_again [] after again put got got' x y = absurd x
back_again (l ∷ lines) [] again put got got' x y = absurd y
back_again (l ∷ lines) (m ∷ rest) again put got got' x y =
    let line : m ≡ record l { step = put } = cc (x.1) in
    let left : rest ≡ lines = cc (x.1) in
    y.1 ∙ ap (λ (v : AppLine). record v { step = got } ∷ rest) line ∙ ap (λ (r : List AppLine). record l { step = got } ∷ r) left
    ∙ ap (λ (s : AppStep). record l { step = s } ∷ lines) x.0

-- an edit that was exchanged and goes back leaves the section as it was
pub edit_back : (s s1 s2 : ScriptState) (put got : AppStep) (e back : Edit) → s1 ≡ record s { rest = s1.rest } → s2 ≡ record s1 { rest = s2.rest } →
    Exchanged s.rest put (app.Edit e) s1.rest → back ≡ e → Exchanged s1.rest (app.Edit back) got s2.rest → s2 ≡ s
edit_back s s1 s2 put got e back first second out same again =
    let rest = back_again s.rest s1.rest s2.rest put (app.Edit e) got out
    (subst (λ (x : Edit). Exchanged s1.rest (app.Edit x) got s2.rest) same again) in
    second ∙ ap (λ (r : List AppLine). record s1 { rest = r }) rest ∙ ap (λ (v : ScriptState). record v { rest = s.rest }) first
