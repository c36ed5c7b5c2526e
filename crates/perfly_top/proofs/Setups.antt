-- The words of one thread.
use Rattle.std.proofs.Common.{◌≡◌, ℕ, Bool, true, false, not, ◌&&◌, Option, Some, None, refl}
use Rattle.std.specs.Option.{is_some}
use Rattle.nearest_hit.specs.declared.segment.Segment.{Segment}
use Rattle.program_words.specs.declared.words.Mode.{Mode}
use Rattle.program_words.specs.declared.words.Mode.TheVariants as mode
use Rattle.program_words.specs.declared.words.Words.{Words}
use Rattle.perfly_top.specs.Setups.{has_one, is_on_one_thread, words_alone}

-- words that put all on one thread say no more than how many frames are in flight, and what to make
pub same_words : (w : Words) → is_on_one_thread w ≡ true → words_alone (record { ahead = w.ahead; make = w.make }) ≡ w
same_words w e = by w.mode w.dbase w.probe w.stream e
  where
    said : Mode → Bool → Option Segment → Option ℕ → Words
    said m d p s = record { mode = m; dbase = d; ahead = w.ahead; make = w.make; probe = p; stream = s }

    by : (m : Mode) (d : Bool) (p : Option Segment) (s : Option ℕ) →
        has_one m && (not d && (not (is_some p) && not (is_some s))) ≡ true → said mode.Appculldraw false None None ≡ said m d p s
    by mode.Appculldraw false None None e = refl
    by mode.Appculldraw false None (Some n) e = absurd cc
    by mode.Appculldraw false (Some q) s e = absurd cc
    by mode.Appculldraw true p s e = absurd cc
    by mode.AppCulldraw d p s e = absurd cc
    by mode.AppcullDraw d p s e = absurd cc
    by mode.AppCullDraw d p s e = absurd cc
