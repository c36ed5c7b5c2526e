-- Why a call ends, and what it has read by then.
use Rattle.std.proofs.Common.{◌≡◌, ◌≢◌, ◌⊎◌, ℕ, ◌≤◌, List, [], Option, Some, None, IfSome, IsSome, inl, inr, refl, sym, subst}
use Rattle.std.specs.Prelude.{◌↔◌}
use Rattle.std.proofs.lemmas.Option.{same_Some}
use Rattle.pf_io.specs.Streams.{TakesFront}
use Rattle.play_format.specs.Plays.{Script}
use Rattle.play_format.specs.Reads.{Reads}
use Rattle.play_check.specs.Stuck.{IsStuck, AreStuckLines}
use Rattle.play_gen.proofs.EndLemmas.{can_end}
use Rattle.program_words.specs.declared.words.Words.{Words}
use Rattle.program_ends.specs.declared.stop.Stop.{Stop}
use Rattle.program_ends.specs.declared.stop.Stop.TheVariants as stop
use Rattle.program_ends.specs.Statuses.{status_of}
use Rattle.perfly_top.specs.Calls.{given_text, IsGiven, IsBarred, IsReadFor}
use Rattle.perfly_top.specs.Endings.{IsWhy}

-- a play that is stuck was not made
unmade_by : (make : Option ℕ) (left : Option (List ℕ)) (play : Script) → IfSome make (λ n. n ≤ 256) →
    IfSome (given_text make left) (λ text. Reads text play) → IsStuck play.app play.dbase → make ≡ None
unmade_by None left play few spelled stuck = refl
unmade_by (Some n) left play few spelled stuck = absurd (can_end n few play spelled stuck)

-- a play with lines that cannot be passed is stuck there
pub barred_by : (meant : Option Words) (left left' : Option (List ℕ)) (words : Words) (play : Script) (r : Option (ℕ × ℕ)) (app dbase : ℕ) →
    IsGiven meant left left' words play → IfSome words.make (λ n. n ≤ 256) → r ≡ Some (app, dbase) → (IsSome r ↔ IsStuck play.app play.dbase) →
    IfSome r (λ lines. AreStuckLines play.app play.dbase lines.0 lines.1) → IsBarred meant left left' app dbase
barred_by meant left left' words play None app dbase given few e stuck are = absurd (cc)
barred_by meant left left' words play (Some lines) app dbase given few e stuck are =
    record {
      words = words;
      play = play;
      given = given;
      unmade = unmade_by words.make left play few given.spelled (stuck.0 refl);
      stuck = stuck.0 refl;
      lines = subst (λ (l : ℕ × ℕ). AreStuckLines play.app play.dbase l.0 l.1) (same_Some lines (app, dbase) e) are;
    }

-- a play with lines that cannot be passed was not made
pub unmade_where : (make : Option ℕ) (left : Option (List ℕ)) (play : Script) (r : Option (ℕ × ℕ)) (app dbase : ℕ) →
    IfSome make (λ n. n ≤ 256) → IfSome (given_text make left) (λ text. Reads text play) → r ≡ Some (app, dbase) →
    (IsSome r ↔ IsStuck play.app play.dbase) → make ≡ None
unmade_where make left play None app dbase few spelled e stuck = absurd (cc)
unmade_where make left play (Some lines) app dbase few spelled e stuck = unmade_by make left play few spelled (stuck.0 refl)

-- nothing was taken
none_taken : (left : Option (List ℕ)) → TakesFront left left
none_taken None = ([], refl)
none_taken (Some bytes) = ([], refl)

-- what is read where there is a play is a front
pub read_front : (make : Option ℕ) (left left' : Option (List ℕ)) → IsReadFor make left left' → TakesFront left left'
read_front None left left' read = read.0
read_front (Some n) left left' same = subst (TakesFront left) (sym same) (none_taken left)

-- a call that stops early has read a front
pub why_front : (meant : Option Words) (left left' : Option (List ℕ)) (s : Stop) → IsWhy meant left left' s → TakesFront left left'
why_front meant left left' stop.Words why = subst (TakesFront left) (sym why.1) (none_taken left)
why_front meant left left' (stop.Refused r) why = (why.read.0, why.read.1)
why_front meant left left' (stop.Stuck app dbase) why = read_front why.words.make left left' why.given.read
why_front meant left left' stop.ReadFault why = why.3
why_front meant left left' stop.FrameFault why = absurd why
why_front meant left left' stop.NoMemory why = why

-- why a call stops that reads nothing
pub unread_why : (meant : Option Words) (left : Option (List ℕ)) (s : Stop) →
    ((s ≡ stop.Words) × (meant ≡ None)) ⊎ (s ≡ stop.NoMemory) → IsWhy meant left left s
unread_why meant left s (inl is) = subst (IsWhy meant left left) (sym is.0) (is.1, refl)
unread_why meant left s (inr is) = subst (IsWhy meant left left) (sym is) (none_taken left)

-- a call whose words are right does not stop for them
pub right_status : (w : Words) (left left' : Option (List ℕ)) (s : Stop) → IsWhy (Some w) left left' s → status_of s ≢ 1
right_status w left left' stop.Words why e = absurd (let none = why.0 in cc)
right_status w left left' (stop.Refused r) why e = absurd cc
right_status w left left' (stop.Stuck app dbase) why e = absurd cc
right_status w left left' stop.ReadFault why e = absurd cc
right_status w left left' stop.FrameFault why e = absurd cc
right_status w left left' stop.NoMemory why e = absurd cc
