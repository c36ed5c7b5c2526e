use Rattle.std.proofs.Common.{◌≡◌, ◌++◌, ℕ, List, Option, Result, Ok, Err, OnErr, ap, ◌∙◌}
use Rattle.std.specs.Io.KnownBytes.{prepend_known}
use Rattle.pf_io.specs.Streams.{TakesFront}
use Rattle.pf_io.proofs.Known.{prepend_known-append}
use Rattle.pf_io.proofs.source.read_all.Goals as goal

on_each : {A E : Type 0} (r : Result A E) (P : Type 0) → P → OnErr r P
on_each (Ok a) P p = tt
on_each (Err e) P p = p

-- the bytes so far and the piece just read were taken
both : (old now new : Option (List ℕ)) (front piece : List ℕ)
    → old ≡ prepend_known front now → now ≡ prepend_known piece new → TakesFront old new
both old now new front piece before step =
    (front ++ piece, before ∙ ap (prepend_known front) step ∙ prepend_known-append new front piece)

pub returns-in_err-extend_from_slice-clause-front :
    goal.returns-in_err-extend_from_slice-clause-front
returns-in_err-extend_from_slice-clause-front g c =
    on_each _ _ (both _ _ _ _ _ c.loop-piece.invariant.1 c.in_ok-taken.ensures.bytes.0)
