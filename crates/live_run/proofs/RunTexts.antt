-- Texts that are told piece by piece, and texts that are taken so.
use Rattle.std.proofs.Common.{◌≡◌, ℕ, ◌+◌, ◌≤◌, List, [], ◌++◌, length, take, drop, Option, None, Some, inl, inr, refl, sym, ap, ◌∙◌, append_assoc, append-nil, subst, arith}
use Rattle.std.proofs.Math.Seq.{take-append-add}
use Rattle.std.proofs.lemmas.List.{length-append, length-take, take_all, take-append-le, take-append-drop}
use Rattle.std.specs.Io.KnownBytes.{append_known, prepend_known}
use Rattle.pf_io.specs.Causes.{Calm, Rose}
use Rattle.pf_io.proofs.Known.{append_known-append, prepend_known-append, front_behind}
use Rattle.program_ends.specs.Told.{Bytes, IsTold}
use Rattle.live_run.specs.LiveRuns.{Takes}

-- a text behind one that was told wholly
pub told_behind : (old mid new : Bytes) (before then now : ℕ) (first second : List ℕ) → mid ≡ append_known old first → Calm before then →
    IsTold mid new then now second → IsTold old new before now (first ++ second)
told_behind old mid new before then now first second is calm (inl (whole, still)) =
    inl (whole ∙ ap (λ (b : Bytes). append_known b second) is ∙ append_known-append old first second, still ∙ calm)
told_behind old mid new before then now first second is calm (inr (k, within, front, rose)) =
    inr (
      length first + k,
      omega (arith, within, length-append first second),
      front_behind old mid new first second k is front,
      subst (λ (n : ℕ). Rose n now) calm rose,
    )

-- a text that was told up to a fault, before one that was not begun
pub told_cut : (old new : Bytes) (before now : ℕ) (first second : List ℕ) → IsTold old new before now first → Rose before now →
    IsTold old new before now (first ++ second)
told_cut old new before now first second (inl (whole, still)) rose =
    inr (
      length first,
      omega (arith, length-append first second),
      whole ∙ ap (append_known old) (sym (take-append-le (length first) first second (omega arith) ∙ take_all (length first) first (omega arith))),
      rose,
    )
told_cut old new before now first second (inr (k, within, front, more)) rose =
    inr (
      k,
      omega (arith, within, length-append first second),
      front ∙ ap (append_known old) (sym (take-append-le k first second within)),
      rose,
    )

-- a text wholly told
pub told_whole : (old new : Bytes) (before now : ℕ) (text : List ℕ) → new ≡ append_known old text → Calm before now → IsTold old new before now text
told_whole old new before now text is calm = inl (is, calm)

-- a piece more was taken
pub takes_more : (left mid left' : Bytes) (text piece : List ℕ) → Takes left mid text → mid ≡ prepend_known piece left' →
    Takes left left' (text ++ piece)
takes_more left mid left' text piece taken more =
    taken ∙ ap (prepend_known text) more ∙ prepend_known-append left' text piece

-- nothing was taken yet
pub takes_none : (left : Bytes) → Takes left left []
takes_none None = refl
takes_none (Some bytes) = refl

-- the first bytes of a piece that was read into
pub piece_front : (count n : ℕ) (whole into rest : List ℕ) → whole ≡ take n (into ++ rest) → count ≤ length into → count ≤ n →
    take count whole ≡ take count into
piece_front count n whole into rest is inside few =
    let zs = into ++ rest in
    let long : count ≤ length (take n zs) = omega (arith, length-take n zs, length-append into rest, inside, few) in
    ap (take count) is ∙ sym (take-append-le count (take n zs) (drop n zs) long) ∙ ap (take count) (take-append-drop n zs)
    ∙ take-append-le count into rest inside
