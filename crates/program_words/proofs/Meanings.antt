-- The meaning of words, by the tests that are made of them.
use Rattle.std.proofs.Common.{◌≡◌, ◌==◌, Bool, true, false, List, length, map, None, refl}
use Rattle.std.specs.Prelude.{codes}
use Rattle.std.specs.List.{list_any}
use Rattle.std.specs.Str.{bytes_eq}
use Rattle.clap.specs.Words.{Text, fault_of, matches_of}
use Rattle.clap.proofs.WalkLemmas.{list_any-map}
use Rattle.program_words.specs.Usage.{usage}
use Rattle.program_words.specs.Meaning.{meaning_of_values, meaning_of_words}

abbrev has_dashes : List Text → Bool
has_dashes words = list_any (λ w. bytes_eq w (codes "--")) words

-- words with `--` mean nothing
pub dashes_mean_nothing : {X : Type 0} (f : X → Text) (words : List X) → list_any (λ w. bytes_eq (f w) (codes "--")) words ≡ true →
    meaning_of_words (map f words) ≡ None
unfolding meaning_of_words
dashes_mean_nothing f words e =
    let is : has_dashes (map f words) ≡ true = rw (← list_any-map (λ w. bytes_eq w (codes "--")) f words) e in
    rw is refl

-- words that clap refuses mean nothing
pub refused_mean_nothing : {X : Type 0} (f : X → Text) (words : List X) → list_any (λ w. bytes_eq (f w) (codes "--")) words ≡ false →
    (length (fault_of usage (map f words)) == 0) ≡ false → meaning_of_words (map f words) ≡ None
unfolding meaning_of_words
refused_mean_nothing f words e fault =
    let is : has_dashes (map f words) ≡ false = rw (← list_any-map (λ w. bytes_eq w (codes "--")) f words) e in
    rw (is, fault) refl

-- other words mean what their values mean
pub values_mean : {X : Type 0} (f : X → Text) (words : List X) → list_any (λ w. bytes_eq (f w) (codes "--")) words ≡ false →
    (length (fault_of usage (map f words)) == 0) ≡ true →
    meaning_of_words (map f words) ≡ meaning_of_values (matches_of usage (map f words))
unfolding meaning_of_words
values_mean f words e fault =
    let is : has_dashes (map f words) ≡ false = rw (← list_any-map (λ w. bytes_eq w (codes "--")) f words) e in
    rw (is, fault) refl
