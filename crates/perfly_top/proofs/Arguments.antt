-- The words behind the first argument, and what they mean.
use Rattle.std.proofs.Common.{◌≡◌, ◌<◌, ℕ, List, [], ◌∷◌, ◌++◌, drop, length, Option, Some, None, ◌⊎◌, inl, inr, sym, ap, subst, arith}
use Rattle.std.specs.Prelude.{IsSome, ◌↔◌}
use Rattle.std.specs.Option.{option_to_list}
use Rattle.pf_history.specs.Logs.{Log}
use Rattle.pipe_plays.specs.declared.played.PlayEnd.{PlayEnd}
use Rattle.program_words.specs.declared.words.Words.{Words}
use Rattle.program_ends.specs.Told.{Bytes}
use Rattle.perfly_top.specs.Calls.{IsUntouched}
use Rattle.perfly_top.specs.Endings.{IsBegun}

-- what is left behind a `next`
pub behind_first : {A : Type 0} (first : Option A) (all rest : List A) (n : ℕ) → all ≡ option_to_list first ++ rest →
    (IsSome first ↔ (0 < n)) → n ≡ length all → rest ≡ drop 1 all
behind_first (Some x) all rest n e some len = sym (ap (drop 1) e)
behind_first None [] rest n e some len = sym e
behind_first None (x ∷ xs) rest n e some len = absurd (let is = some.1 (omega (arith, len)) in cc)

-- what words leave of a play that was begun, or was not, is left of it by arguments of the same meaning
pub part_by : (meant given : Option Words) (left left' : Bytes) (ended : PlayEnd) (log : Log) (frames frames' : Bytes) → given ≡ meant →
    IsUntouched log frames frames' ⊎ IsBegun given left left' ended log frames frames' →
    (frames' ≡ frames) ⊎ ((x : Log) × IsBegun meant left left' ended x frames frames')
part_by meant given left left' ended log frames frames' e (inl untouched) = inl untouched.1
part_by meant given left left' ended log frames frames' e (inr begun) =
    inr (log, subst (λ (m : Option Words). IsBegun m left left' ended log frames frames') e begun)
