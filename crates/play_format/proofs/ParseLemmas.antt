-- What parse says of a text.
use Rattle.std.proofs.Common.{◌≡◌, ℕ, sym, ap, ◌∙◌, List, Result, Ok, Err, None}
use Rattle.std.specs.Result.{result_err}
use Rattle.std.specs.Prelude.{IfOk, IfErr, MatchResult}
use Rattle.play_format.specs.declared.refusal.Refusal.{Refusal}
use Rattle.play_format.specs.declared.refusal.ParseError.{ParseError}
use Rattle.play_format.specs.declared.refusal.ParseError.TheVariants as parse_error
use Rattle.play_format.specs.Grammar.{reading}
use Rattle.play_format.specs.Outcomes.{Refuses, ReadAs}
use Rattle.play_format.specs.Plays.{Script}
use Rattle.play_format.specs.Reads.{Reads, HasReading, first_refusal, Gives, IsRefusal}
use Rattle.play_format.proofs.OneLemmas.{one_play, read_of_spelling, spelling_of_read}

abbrev Answers : List ℕ → Result Script ParseError → Type 0
Answers text r = MatchResult r (λ p. ReadAs text p) (λ e. Refuses e (reading text))

pub found_play : (text : List ℕ) (r : Result Script ParseError) → Answers text r → IfOk r (λ p. Reads text p)
found_play text (Ok p) h = spelling_of_read text p h
found_play text (Err e) h = tt

refused_or_read : (text : List ℕ) (r : Refusal) (p : Script) → reading text ≡ Err r → Reads text p → ⊥
refused_or_read text r p h k = let e = read_of_spelling text p k in let both = sym h ∙ e in absurd cc

pub only_play : (text : List ℕ) (r : Result Script ParseError) (p : Script) → Answers text r → Reads text p → Gives r p
only_play text (Ok q) p h k = one_play text q p (spelling_of_read text q h) k
only_play text (Err parse_error.NoMemory) p h k = tt
only_play text (Err (parse_error.Refused r)) p h k = refused_or_read text r p h k

pub refused_play : (text : List ℕ) (r : Result Script ParseError) → Answers text r → IfErr r (λ e. IsRefusal e text)
refused_play text (Ok q) h = tt
refused_play text (Err parse_error.NoMemory) h = tt
refused_play text (Err (parse_error.Refused r)) h = (ap result_err h, λ k. refused_or_read text r k.0 h k.1)

pub none_wrong : (text : List ℕ) → HasReading text → first_refusal text ≡ None
none_wrong text h = ap result_err (read_of_spelling text h.0 h.1)
