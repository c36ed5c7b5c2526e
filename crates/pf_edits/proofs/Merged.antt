-- A merge after one more edit.
use Rattle.std.proofs.Common.{◌≡◌, ℕ, zero, suc, ◌+◌, ◌<◌, ◌≤◌, List, [], ◌∷◌, length, get_or, drop, None, Err, add-one, refl, sym, ◌∙◌, ap, subst, arith}
use Rattle.std.proofs.Math.Seq.{drop-cons}
use Rattle.std.specs.List.{fold}
use Rattle.std.specs.Result.{IsErrOf}
use Rattle.pf_model.specs.declared.edits.Edit.{Edit}
use Rattle.pf_model.specs.declared.edits.EditError.{EditError}
use Rattle.pf_model.specs.declared.edits.EditError.TheVariants as one
use Rattle.pf_model.specs.Graphs.{SceneGraph}
use Rattle.pf_model.specs.Edits.{fault_of, effect}
use Rattle.pf_model.specs.Merges.{fault_from}
use Rattle.pf_edits.specs.declared.errors.EditsError.{EditsError}
use Rattle.pf_edits.specs.declared.errors.EditsError.TheVariants as all
use Rattle.pf_edits.specs.declared.work.Work.{Work}
use Rattle.pf_edits.specs.Working.{told}
use Rattle.pf_edits.specs.Refusals.{placed, BeginsWell}
use Rattle.pf_edits.proofs.Rollbacks.{fault_next, serial_next}

pub serial_after : (s t w : Work) (es : List Edit) (i : ℕ) (d : Edit) → told t ≡ effect (told s) (get_or es i d) → s.next_serial ≤ w.next_serial + i → t.next_serial ≤ w.next_serial + (i + 1)
serial_after s t w es i d after l =
    let e : t.next_serial ≡ (effect (told s) (get_or es i d)).next_serial = ap (λ (g : SceneGraph). g.next_serial) after in
    let m : (effect (told s) (get_or es i d)).next_serial ≤ s.next_serial + 1 = serial_next (told s) (get_or es i d) in
    omega arith

rest_is : (es : List Edit) (i : ℕ) (d : Edit) → i < length es → drop i es ≡ get_or es i d ∷ drop (i + 1) es
rest_is es i d within = drop-cons es i d within ∙ ap (λ n. get_or es i d ∷ drop n es) (sym (add-one i))

pub faults_after : (k i : ℕ) (g h : SceneGraph) (es : List Edit) (d : Edit) → i < length es → fault_of g (get_or es i d) ≡ None → h ≡ effect g (get_or es i d)
    → fault_from k g (drop i es) ≡ fault_from (k + 1) h (drop (i + 1) es)
faults_after k i g h es d within none after =
    ap (fault_from k g) (rest_is es i d within) ∙ fault_next k g (get_or es i d) (drop (i + 1) es) none ∙ ap (λ (x : SceneGraph). fault_from (k + 1) x (drop (i + 1) es)) (sym after)

pub effects_after : (i : ℕ) (g h : SceneGraph) (es : List Edit) (d : Edit) → i < length es → h ≡ effect g (get_or es i d) → fold effect g (drop i es) ≡ fold effect h (drop (i + 1) es)
effects_after i g h es d within after = ap (fold effect g) (rest_is es i d within) ∙ ap (λ (x : SceneGraph). fold effect x (drop (i + 1) es)) (sym after)

-- the first edit has no fault
pub begins : (g h : SceneGraph) (es : List Edit) (i : ℕ) (d : Edit) → i < length es → (i ≡ 0 → h ≡ g) → (0 < i → BeginsWell g es) → fault_of h (get_or es i d) ≡ None → BeginsWell g es
begins g h [] i d l start begun none = absurd (omega arith)
begins g h (e ∷ es) zero d l start begun none = subst (λ (x : SceneGraph). fault_of x e ≡ None) (start refl) none
begins g h (e ∷ es) (suc i) d l start begun none = begun (omega arith)

-- want of memory for a list is want of memory for its edit
pub memory_from : (place : ℕ) (r : EditError) (q : EditsError) → q ≡ placed place r → IsErrOf {T = Unit {0}} {E = EditsError} (Err q) all.NoMemory → IsErrOf {T = Unit {0}} {E = EditError} (Err r) one.NoMemory
memory_from place (one.Fault f) q is h = absurd (cc)
memory_from place one.NoMemory q is h = refl
