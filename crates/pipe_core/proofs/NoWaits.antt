-- Commands without waits: the play of them is never stuck.
use Rattle.std.proofs.Common.{◌≡◌, ℕ, true, ◌&&◌, List, [], ◌∷◌, take, drop, inl, inr, refl, sym, ap, ◌∙◌, subst}
use Rattle.std.proofs.lemmas.List.{take-append-drop}
use Rattle.std.proofs.lemmas.List.Folds.{list_all-append}
use Rattle.std.specs.List.{list_all}
use Rattle.pf_model.specs.declared.lines.AppLine.{AppLine}
use Rattle.pf_model.specs.declared.lines.AppStep.{AppStep}
use Rattle.pf_model.specs.declared.lines.AppStep.TheVariants as app
use Rattle.pf_model.specs.declared.lines.BaseLine.{BaseLine}
use Rattle.pf_model.specs.declared.lines.BaseStep.{BaseStep}
use Rattle.pf_model.specs.declared.lines.BaseStep.TheVariants as base
use Rattle.play_check.specs.Lines.{app_given, app_marks, base_given, base_marks}
use Rattle.play_check.specs.Stuck.{Pause, pause_before, pauses_of, CanPassWait, CanPassAwait, IsSomeBarred, IsStuck}
use Rattle.play_format.specs.Plays.{Script}
use Rattle.pipe_core.specs.declared.commands.PipeCommand.{PipeCommand}
use Rattle.pipe_core.specs.declared.commands.PipeCommand.TheVariants.{Line, Block}
use Rattle.pipe_core.specs.Makes.{with_command, with_commands}
use Rattle.pipe_core.specs.LiveRuns.{is_no_wait, is_no_await, goes_at_once, NoWaitLaw}
use Rattle.pipe_core.proofs.LiveRuns.{both, and_both}

no_pause : (s : AppStep) (line : ℕ) (ps : List Pause) → is_no_wait s ≡ true → pause_before line (app_given s) ps ≡ ps
no_pause (app.Edit e) line ps is = refl
no_pause (app.View channel v) line ps is = refl
no_pause app.Sync line ps is = refl
no_pause app.Frame line ps is = refl
no_pause (app.Wait n) line ps is = absurd (cc)

no_waits : (ls : List AppLine) → list_all (λ l. is_no_wait l.step) ls ≡ true → pauses_of (app_marks ls) ≡ []
no_waits [] is = refl
no_waits (l ∷ ls) is =
    let two = both (is_no_wait l.step) (list_all (λ (x : AppLine). is_no_wait x.step) ls) is in
    no_pause l.step l.line (pauses_of (app_marks ls)) two.0 ∙ no_waits ls two.1

no_base_pause : (s : BaseStep) (line : ℕ) (ps : List Pause) → is_no_await s ≡ true → pause_before line (base_given s) ps ≡ ps
no_base_pause base.Buffer line ps is = refl
no_base_pause (base.Edit e) line ps is = refl
no_base_pause (base.Ask e) line ps is = refl
no_base_pause base.Merge line ps is = refl
no_base_pause (base.Await n) line ps is = absurd (cc)

no_awaits : (ls : List BaseLine) → list_all (λ l. is_no_await l.step) ls ≡ true → pauses_of (base_marks ls) ≡ []
no_awaits [] is = refl
no_awaits (l ∷ ls) is =
    let two = both (is_no_await l.step) (list_all (λ (x : BaseLine). is_no_await x.step) ls) is in
    no_base_pause l.step l.line (pauses_of (base_marks ls)) two.0 ∙ no_awaits ls two.1

-- A play has no waits and no awaits.
record GoesAtOnce (play : Script) : Type 0 where
  pub app : list_all (λ l. is_no_wait l.step) play.app ≡ true
  pub dbase : list_all (λ l. is_no_await l.step) play.dbase ≡ true

never_stuck : (play : Script) → GoesAtOnce play → IsStuck play.app play.dbase → ⊥
never_stuck play goes (inl barred) =
    subst (IsSomeBarred (CanPassWait play.app play.dbase)) (no_waits play.app goes.app) barred
never_stuck play goes (inr barred) =
    subst (IsSomeBarred (CanPassAwait play.app play.dbase)) (no_awaits play.dbase goes.dbase) barred

one_goes : (play : Script) (c : PipeCommand) → GoesAtOnce play → goes_at_once c ≡ true → GoesAtOnce (with_command play c)
one_goes play (Line l) goes is =
    record {
      app = list_all-append (λ (x : AppLine). is_no_wait x.step) play.app (l ∷ []) ∙ and_both _ _ goes.app (and_both (is_no_wait l.step) true is refl);
      dbase = goes.dbase;
    }
one_goes play (Block ls) goes is =
    record {
      app = goes.app;
      dbase = list_all-append (λ (x : BaseLine). is_no_await x.step) play.dbase ls ∙ and_both _ _ goes.dbase is;
    }

all_go : (play : Script) (cs : List PipeCommand) → GoesAtOnce play → list_all goes_at_once cs ≡ true → GoesAtOnce (with_commands play cs)
all_go play [] goes is = goes
all_go play (c ∷ cs) goes is =
    let two = both (goes_at_once c) (list_all goes_at_once cs) is in
    all_go (with_command play c) cs (one_goes play c goes two.0) two.1

pub no_wait_law : NoWaitLaw
no_wait_law play cs app dbase goes n stuck =
    let parts : (list_all goes_at_once (take n cs) && list_all goes_at_once (drop n cs)) ≡ true =
    sym (list_all-append goes_at_once (take n cs) (drop n cs)) ∙ ap (list_all goes_at_once) (take-append-drop n cs) ∙ goes in
    let first = both (list_all goes_at_once (take n cs)) (list_all goes_at_once (drop n cs)) parts in
    never_stuck (with_commands play (take n cs)) (all_go play (take n cs) (record { app = app; dbase = dbase }) first.0) stuck
