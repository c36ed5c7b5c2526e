-- Two runs over one text play one play.
use Rattle.std.proofs.Common.{◌≡◌, ℕ, List, Option, Some, sym, ap, subst, ◌∙◌}
use Rattle.std.proofs.lemmas.Option.{same_Some}
use Rattle.std.specs.List.{concat}
use Rattle.std.specs.Prelude.{IfSome}
use Rattle.std.specs.Io.KnownBytes.{append_known}
use Rattle.play_format.specs.Plays.{Script}
use Rattle.play_format.specs.Reads.{Reads}
use Rattle.pf_history.specs.Logs.{IsLegal}
use Rattle.pf_history.specs.Fits.{FitsWholly}
use Rattle.play_fences.specs.Laws.{IsWhole, FencedLaw}
use Rattle.program_words.specs.declared.words.Words.{Words}
use Rattle.program_ends.specs.Played.{stream_of}
use Rattle.perfly_top.specs.Calls.{given_text}
use Rattle.perfly_top.specs.Pairs.{Run, EndsDone, IsGivenText, FencedRunsLaw}

-- a text spells one play
abbrev OneReading : Type 0
OneReading = (text : List ℕ) (p q : Script) → Reads text p → Reads text q → p ≡ q

played : OneReading → (run : Run) (text : List ℕ) (play : Script) → Reads text play → IsGivenText run text → (done : EndsDone run) → done.play ≡ play
played one run text play reads given done =
    let words : done.words ≡ given.0 = same_Some done.words given.0 (sym done.given.meaning ∙ given.1) in
    let its_text : given_text done.words.make run.left ≡ Some text = ap (λ (w : Words). given_text w.make run.left) words ∙ given.2 in
    let spelled : Reads text done.play = subst (λ (o : Option (List ℕ)). IfSome o (λ text. Reads text done.play)) its_text done.given.spelled in
    one text done.play play spelled reads

whole : (run : Run) (play : Script) (done : EndsDone run) → done.play ≡ play → IsWhole play.channels done.words.ahead play.app play.dbase run.log
whole run play done same =
    record {
      legal = subst (λ (p : Script). IsLegal p.channels run.log) same done.played.legal;
      wholly = subst (λ (p : Script). FitsWholly p.channels done.words.ahead p.app p.dbase run.log) same done.played.fits;
    }

adds : (run : Run) (play : Script) (done : EndsDone run) → done.play ≡ play → run.frames' ≡ append_known run.frames (stream_of play run.log)
adds run play done same = done.played.stream ∙ ap (λ (p : Script). append_known run.frames (stream_of p run.log)) same

pub fenced_runs_law : OneReading → FencedLaw → FencedRunsLaw
fenced_runs_law one fenced_law run other text play reads fenced given given' done done' =
    let mine = played one run text play reads given done in
    let others = played one other text play reads given' done' in
    let same = fenced_law play.app play.dbase fenced play.channels done.words.ahead done'.words.ahead play.lens play.back run.log other.log (whole run play done mine) (whole other play done' others) in
    record {
      stream = stream_of play run.log;
      adds = adds run play done mine;
      other_adds = adds other play done' others ∙ ap (λ pictures. append_known other.frames (concat pictures)) (sym same.same_pictures);
      same = same;
    }
