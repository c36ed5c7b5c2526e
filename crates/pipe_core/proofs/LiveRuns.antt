-- Runs of commands on one thread.
use Rattle.std.proofs.Common.{◌≡◌, ℕ, zero, suc, ◌+◌, ◌<◌, ◌≤◌, Bool, true, false, not, ◌&&◌, nat_le, nat_lt, if◌then◌else◌, List, [], ◌∷◌, ◌++◌, take, drop, length, slice_get, Option, Some, None, Result, Ok, Err, OnOk, OnErr, refl, sym, ap, ◌∙◌, subst, append_assoc, add-one, arith}
use Rattle.std.proofs.lemmas.Bool.{ltb-true, leb-true}
use Rattle.std.proofs.Math.Seq.{drop-nil}
use Rattle.std.proofs.lemmas.List.{append-nil, length-append, take-append-drop}
use Rattle.std.proofs.lemmas.List.Folds.{list_all-append}
use Rattle.std.specs.List.{list_all}
use Rattle.std.specs.Option.{option_and_then}
use Rattle.pf_io.specs.Causes.{Calm}
use Rattle.pf_model.specs.declared.lines.AppLine.{AppLine}
use Rattle.pf_model.specs.declared.lines.AppStep.{AppStep}
use Rattle.pf_model.specs.declared.lines.BaseLine.{BaseLine}
use Rattle.pf_history.specs.declared.commands.Command.{Command}
use Rattle.play_format.specs.Plays.{Script, app_fits, base_fits, opened, open_after}
use Rattle.play_check.specs.Stuck.{IsStuck}
use Rattle.stage_parts.specs.declared.answers.StageError.{StageError}
use Rattle.frame_stages.specs.Scripts.{most_lines}
use Rattle.pipe_plays.specs.Plays.{most_steps, CanRun}
use Rattle.pipe_plays.specs.Orders.{merges_behind}
use Rattle.pipe_plays.specs.Played.{Blames}
use Rattle.pipe_core.specs.declared.commands.LiveCause.{LiveCause}
use Rattle.pipe_core.specs.declared.commands.PipeCommand.{PipeCommand}
use Rattle.pipe_core.specs.declared.commands.PipeCommand.TheVariants.{Line, Block}
use Rattle.pipe_core.specs.declared.commands.Refusal.TheVariants as why
use Rattle.pipe_core.specs.Laws.{steps_in}
use Rattle.pipe_core.specs.Pipes.{PipeWork, core_of}
use Rattle.pipe_core.specs.Makes.{IsReady, HasMade, HasFailed, with_app, with_dbase, with_command, with_commands, command_makes, commands_make}
use Rattle.pipe_core.specs.LiveRuns.{takes_line, takes_block, is_short, is_closed, are_whole, line_refusal, block_refusal, CanMake, CanMakeAll, HasMadeAll, answer_of, Comes, CauseBlames, CommandBlames}
use Rattle.pipe_core.proofs.Openings.{written_more}
use Rattle.pipe_core.proofs.Making.{none_made}

-- Which commands may be given

-- two facts in one test
pub both : (a b : Bool) → (a && b) ≡ true → (a ≡ true) × (b ≡ true)
both true b is = (refl, is)
both false b is = absurd (cc)

pub and_both : (a b : Bool) → a ≡ true → b ≡ true → (a && b) ≡ true
and_both a b first second = ap (λ t. t && b) first ∙ second

not_so : (a : Bool) → not a ≡ true → a ≡ false
not_so true is = absurd (cc)
not_so false is = refl

-- A line that is not refused: there is room for it, the application has not closed, and its step is in its ranges.
pub record LineGiven (p : PipeWork) (step : AppStep) : Type 0 where
  pub room : p.app.state.at + length p.app.rest < most_lines
  pub going : p.app.state.closed ≡ false
  pub fits : app_fits p.scene.shared.channels step ≡ true

pub line_given : (p : PipeWork) (step : AppStep) → line_refusal p step ≡ None → LineGiven p step
line_given p step is = by (takes_line p) refl (app_fits p.scene.shared.channels step) refl is
  where
    by : (t : Bool) → takes_line p ≡ t → (f : Bool) → app_fits p.scene.shared.channels step ≡ f →
        (if t then (if f then None else Some why.OutOfRange) else Some why.NoRoom) ≡ None → LineGiven p step
    by true takes true fits none =
        let two = both (not p.app.state.closed) (nat_lt (p.app.state.at + length p.app.rest) most_lines) takes in
        record { room = ltb-true (p.app.state.at + length p.app.rest) most_lines two.1; going = not_so p.app.state.closed two.0; fits = fits }
    by true takes false fits none = absurd (cc)
    by false takes f fits none = absurd (cc)

-- A block that is not refused.
pub record BlockGiven (p : PipeWork) (ls : List BaseLine) : Type 0 where
  pub short : length ls ≤ 262144
  pub few : p.dbase.at + (length p.dbase.rest + length ls) ≤ most_lines
  pub going : p.app.state.closed ≡ false
  pub fits : list_all (λ l. base_fits l.step) ls ≡ true
  pub order : open_after false ls ≡ Some false

closed_is : (o : Option Bool) → is_closed o ≡ true → o ≡ Some false
closed_is None is = absurd (cc)
closed_is (Some true) is = absurd (cc)
closed_is (Some false) is = refl

pub block_given : (p : PipeWork) (ls : List BaseLine) → block_refusal p ls ≡ None → BlockGiven p ls
block_given p ls is = by (takes_block p (length ls) && is_short ls) refl (list_all (λ (l : BaseLine). base_fits l.step) ls) refl (are_whole ls) refl is
  where
    by : (t : Bool) → (takes_block p (length ls) && is_short ls) ≡ t → (f : Bool) → list_all (λ (l : BaseLine). base_fits l.step) ls ≡ f →
        (w : Bool) → are_whole ls ≡ w →
        (if t then (if f then (if w then None else Some why.NotWhole) else Some why.OutOfRange) else Some why.NoRoom) ≡ None → BlockGiven p ls
    by true takes true fits true whole none =
        let two = both (takes_block p (length ls)) (is_short ls) takes in
        let room = both (not p.app.state.closed) (nat_le (p.dbase.at + (length p.dbase.rest + length ls)) most_lines) two.0 in
        record {
          short = leb-true (length ls) 262144 two.1;
          few = leb-true (p.dbase.at + (length p.dbase.rest + length ls)) most_lines room.1;
          going = not_so p.app.state.closed room.0;
          fits = fits;
          order = closed_is (open_after false ls) whole;
        }
    by true takes true fits false whole none = absurd (cc)
    by true takes false fits w whole none = absurd (cc)
    by false takes f fits w whole none = absurd (cc)

-- The play with a command more can be run

pub line_runs : (play : Script) (ahead : ℕ) (p : PipeWork) (l : AppLine) → CanMake play ahead (Line l) → IsReady play ahead p → LineGiven p l.step →
    CanRun (with_app play (l ∷ [])) ahead
line_runs play ahead p l may ready given =
    let is = may.can_run.is_play in
    let fits : (λ (x : AppLine). app_fits play.channels x.step) l ≡ true =
    ap (λ n. app_fits n l.step) (sym ready.keeps.stages.channels) ∙ given.fits in
    record {
      is_play = record {
        steps = may.within_limit;
        some_channel = is.some_channel;
        most_channels = is.most_channels;
        app_steps = list_all-append (λ (x : AppLine). app_fits play.channels x.step) play.app (l ∷ [])
            ∙ and_both _ _ is.app_steps (and_both _ true fits refl);
        base_steps = is.base_steps;
        buffers = is.buffers;
      };
      few_ahead = may.can_run.few_ahead;
    }

-- whole buffers, and more of them
open_more : (t : Bool) (ls more : List BaseLine) → open_after t ls ≡ Some false → open_after false more ≡ Some false →
    open_after t (ls ++ more) ≡ Some false
open_more t [] more first second = let closed : t ≡ false = cc in ap (λ b. open_after b more) closed ∙ second
open_more t (l ∷ ls) more first second = by (opened t l.step) (λ b h. open_more b ls more h second) first
  where
    by : (o : Option Bool) → ((b : Bool) → open_after b ls ≡ Some false → open_after b (ls ++ more) ≡ Some false) →
        option_and_then (λ b. open_after b ls) o ≡ Some false → option_and_then (λ b. open_after b (ls ++ more)) o ≡ Some false
    by None on h = absurd (cc)
    by (Some b) on h = on b h

pub block_runs : (play : Script) (ahead : ℕ) (p : PipeWork) (ls : List BaseLine) → CanMake play ahead (Block ls) → BlockGiven p ls →
    CanRun (with_dbase play ls) ahead
block_runs play ahead p ls may given =
    let is = may.can_run.is_play in
    record {
      is_play = record {
        steps = may.within_limit;
        some_channel = is.some_channel;
        most_channels = is.most_channels;
        app_steps = is.app_steps;
        base_steps = list_all-append (λ (l : BaseLine). base_fits l.step) play.dbase ls ∙ and_both _ _ is.base_steps given.fits;
        buffers = open_more false play.dbase ls is.buffers given.order;
      };
      few_ahead = may.can_run.few_ahead;
    }

-- What comes of a command that was given

pub given_comes : {A : Type 0} (play : Script) (ahead : ℕ) (c : PipeCommand) (result : Result A StageError) (p q : PipeWork) (a b : Option (List ℕ)) →
    CanRun (with_command play c) ahead → OnOk result (HasMade play (with_command play c) ahead (command_makes play c) p q a b) →
    OnErr result (HasFailed play (with_command play c) ahead p q a b) → Comes play ahead c (answer_of result) p q a b
given_comes play ahead c (Ok x) p q a b can made failed =
    record {
      can_run = can;
      made = subst (λ (commands : List Command). HasMade play (with_command play c) ahead commands p q a b) (sym (append-nil (command_makes play c))) made;
    }
given_comes play ahead c (Err error) p q a b can made failed = failed

-- the same of a block, whose lines were given as a list of their own
pub block_comes : {A : Type 0} (play : Script) (ahead : ℕ) (ls items : List BaseLine) (result : Result A StageError) (p q : PipeWork) (a b : Option (List ℕ)) →
    items ≡ ls → CanRun (with_dbase play ls) ahead → (IsStuck play.app (play.dbase ++ ls) → ⊥) →
    (CanRun (with_dbase play items) ahead → (IsStuck play.app (play.dbase ++ items) → ⊥) →
    OnOk result (HasMade play (with_dbase play items) ahead (merges_behind play.dbase items) p q a b)) →
    (CanRun (with_dbase play items) ahead → OnErr result (HasFailed play (with_dbase play items) ahead p q a b)) →
    Comes play ahead (Block ls) (answer_of result) p q a b
block_comes play ahead ls items result p q a b same can free made failed =
    let can_items = subst (λ (xs : List BaseLine). CanRun (with_dbase play xs) ahead) (sym same) can in
    given_comes play ahead (Block ls) result p q a b can
    (subst (λ (xs : List BaseLine). OnOk result (HasMade play (with_dbase play xs) ahead (merges_behind play.dbase xs) p q a b)) same
    (made can_items (λ stuck. free (subst (λ (xs : List BaseLine). IsStuck play.app (play.dbase ++ xs)) same stuck))))
    (subst (λ (xs : List BaseLine). OnErr result (HasFailed play (with_dbase play xs) ahead p q a b)) same (failed can_items))

-- The commands of a run

-- The command at a place: those up to it, those behind it, and the command itself.
pub record NextIs (cs : List PipeCommand) (i : ℕ) (c : PipeCommand) (rest : List PipeCommand) : Type 0 where
  pub front : take (i + 1) cs ≡ take i cs ++ c ∷ []
  pub left : drop (i + 1) cs ≡ rest
  pub there : slice_get cs i ≡ Some c

next_here : (cs : List PipeCommand) (i : ℕ) (c : PipeCommand) (rest : List PipeCommand) → drop i cs ≡ c ∷ rest →
    (take (suc i) cs ≡ take i cs ++ c ∷ []) × (drop (suc i) cs ≡ rest) × (slice_get cs i ≡ Some c)
next_here [] i c rest is = absurd (let none = sym (drop-nil i) ∙ is in cc)
next_here (x ∷ xs) zero c rest is = (ap (take 1) is, ap (drop 1) is, let same : x ≡ c = cc in ap Some same)
next_here (x ∷ xs) (suc i) c rest is =
    let next = next_here xs i c rest is in
    (ap (λ (l : List PipeCommand). x ∷ l) next.0, next.1, next.2)

pub next_is : (cs : List PipeCommand) (i : ℕ) (c : PipeCommand) (rest : List PipeCommand) → drop i cs ≡ c ∷ rest → NextIs cs i c rest
next_is cs i c rest is =
    let next = next_here cs i c rest is in
    record {
      front = ap (λ (n : ℕ). take n cs) (add-one i) ∙ next.0;
      left = ap (λ (n : ℕ). drop n cs) (add-one i) ∙ next.1;
      there = next.2;
    }

with_more : (play : Script) (cs more : List PipeCommand) → with_commands play (cs ++ more) ≡ with_commands (with_commands play cs) more
with_more play [] more = refl
with_more play (c ∷ cs) more = with_more (with_command play c) cs more

makes_more : (play : Script) (cs more : List PipeCommand) →
    commands_make play (cs ++ more) ≡ commands_make play cs ++ commands_make (with_commands play cs) more
makes_more play [] more = refl
makes_more play (c ∷ cs) more =
    ap (λ (l : List Command). command_makes play c ++ l) (makes_more (with_command play c) cs more)
    ∙ sym (append_assoc (command_makes play c) (commands_make (with_command play c) cs) (commands_make (with_commands (with_command play c) cs) more))

-- commands take no steps away
one_grows : (play : Script) (c : PipeCommand) → steps_in play ≤ steps_in (with_command play c)
one_grows play (Line l) = let many = length-append play.app (l ∷ []) in omega (arith, many)
one_grows play (Block ls) = let many = length-append play.dbase ls in omega (arith, many)

all_grow : (play : Script) (cs : List PipeCommand) → steps_in play ≤ steps_in (with_commands play cs)
all_grow play [] = omega arith
all_grow play (c ∷ cs) =
    let first = one_grows play c in
    let rest = all_grow (with_command play c) cs in
    omega (arith, first, rest)

-- the play with the next command more is that of one command more of the run
with_next : (play : Script) (cs : List PipeCommand) (i : ℕ) (c : PipeCommand) (rest : List PipeCommand) → NextIs cs i c rest →
    with_commands play (take (i + 1) cs) ≡ with_command (with_commands play (take i cs)) c
with_next play cs i c rest next = ap (with_commands play) next.front ∙ with_more play (take i cs) (c ∷ [])

-- the next command may be made
pub may_next : (play : Script) (ahead : ℕ) (cs : List PipeCommand) (i : ℕ) (c : PipeCommand) (rest : List PipeCommand) → NextIs cs i c rest →
    CanMakeAll play ahead cs → CanRun (with_commands play (take i cs)) ahead → CanMake (with_commands play (take i cs)) ahead c
may_next play ahead cs i c rest next all can =
    let is = with_next play cs i c rest next in
    let whole : with_commands play cs ≡ with_commands (with_commands play (take (i + 1) cs)) (drop (i + 1) cs) =
    ap (with_commands play) (sym (take-append-drop (i + 1) cs)) ∙ with_more play (take (i + 1) cs) (drop (i + 1) cs) in
    let grows = all_grow (with_commands play (take (i + 1) cs)) (drop (i + 1) cs) in
    let most = ap steps_in whole in
    let few : steps_in (with_commands play (take (i + 1) cs)) ≤ most_steps = omega (arith, grows, most, all.within_limit) in
    record {
      can_run = can;
      within_limit = subst (λ (s : Script). steps_in s ≤ most_steps) is few;
      not_stuck = λ stuck. all.not_stuck (i + 1) (subst (λ (s : Script). IsStuck s.app s.dbase) (sym is) stuck);
    }

-- no command was made yet
pub none_yet : (play : Script) (ahead : ℕ) (cs : List PipeCommand) (p : PipeWork) (bytes : Option (List ℕ)) → CanMakeAll play ahead cs → IsReady play ahead p →
    HasMadeAll play ahead [] p p bytes bytes
none_yet play ahead cs p bytes all ready = record { can_run = all.can_run; made = none_made play ahead p bytes ready }

-- the commands so far, and the next one
pub one_more : (play : Script) (ahead : ℕ) (cs : List PipeCommand) (i : ℕ) (c : PipeCommand) (rest : List PipeCommand) (p r q : PipeWork)
    (a m b : Option (List ℕ)) → NextIs cs i c rest → HasMadeAll play ahead (take i cs) p r a m →
    HasMadeAll (with_commands play (take i cs)) ahead (c ∷ []) r q m b → HasMadeAll play ahead (take (i + 1) cs) p q a b
one_more play ahead cs i c rest p r q a m b next before one =
    let front = take i cs in
    let here = with_commands play front in
    let grown = with_command here c in
    subst (λ (l : List PipeCommand). HasMadeAll play ahead l p q a b) (sym next.front)
    (record {
      can_run = subst (λ (s : Script). CanRun s ahead) (sym (with_more play front (c ∷ []))) one.can_run;
      made =
          subst (λ (s : Script). HasMade play s ahead (commands_make play (front ++ c ∷ [])) p q a b) (sym (with_more play front (c ∷ [])))
          (subst (λ (l : List Command). HasMade play grown ahead l p q a b) (sym (makes_more play front (c ∷ [])))
          (record {
            ready = one.made.ready;
            made = one.made.made ∙ ap (λ (l : List Command). l ++ commands_make here (c ∷ [])) before.made.made
                ∙ append_assoc _ (commands_make play front) (commands_make here (c ∷ []));
            wrote = written_more a m b (core_of play p) (core_of here r) (core_of grown q) before.made.wrote one.made.wrote;
          }));
    })

-- a list of which nothing can be taken is empty
pub none_left : (xs ys : List PipeCommand) → xs ≡ ys → ys ≡ drop 1 xs → xs ≡ []
none_left [] ys same rest = refl
none_left (x ∷ xs) ys same rest =
    let shorter : suc (length xs) ≡ length xs = ap length (same ∙ rest) in
    absurd (omega (arith, shorter))

-- What a cause says of the frame sink

pub given_blames : {A : Type 0} (result : Result A StageError) (before now : ℕ) (at_fault bytes : Option (List ℕ)) → Blames result before now at_fault bytes →
    CommandBlames (answer_of result) before now at_fault bytes
given_blames (Ok x) before now at_fault bytes blames = blames
given_blames (Err error) before now at_fault bytes blames = blames

pub blames_on : (error : LiveCause) (first before now : ℕ) (at_fault bytes : Option (List ℕ)) → Calm first before →
    CauseBlames error before now at_fault bytes → CauseBlames error first now at_fault bytes
blames_on error first before now at_fault bytes calm blames = subst (λ (n : ℕ). CauseBlames error n now at_fault bytes) calm blames
