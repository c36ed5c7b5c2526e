-- A pipe of a play that is given more lines is a pipe of the longer play.
use Rattle.std.proofs.Common.{◌≡◌, ℕ, ◌+◌, ◌≤◌, List, [], ◌∷◌, ◌++◌, length, Result, Ok, Err, OnOk, OnErr, refl, sym, ap, ◌∙◌, subst, arith}
use Rattle.std.proofs.lemmas.List.{map-append, length-append}
use Rattle.pf_model.specs.declared.lines.AppLine.{AppLine}
use Rattle.pf_model.specs.declared.lines.BaseLine.{BaseLine}
use Rattle.pf_history.specs.Logs.{Log}
use Rattle.pf_history.specs.Asks.{asked_dbase}
use Rattle.play_format.specs.Plays.{Script}
use Rattle.pf_model.specs.declared.lines.BaseStep.{BaseStep}
use Rattle.pf_model.specs.declared.lines.BaseStep.TheVariants as base
use Rattle.play_check.specs.Lines.{base_given, base_marks, given_by, total}
use Rattle.stage_parts.specs.declared.packets.Packet.{Packet}
use Rattle.stage_parts.specs.States.{Setup}
use Rattle.stage_parts.specs.Grows.{with_lines}
use Rattle.stage_parts.specs.Parts.{AppKeeps}
use Rattle.stage_parts.proofs.Gathering.{gathering_law}
use Rattle.frame_stages.specs.AppWorks.{AppWork, IsGiven, more_work}
use Rattle.frame_stages.specs.DbaseWorks.{DbaseWork, DbaseHolds}
use Rattle.pipe_plays.specs.Plays.{most_steps, CanRun, setup_of}
use Rattle.pipe_plays.proofs.Counts.{merges_given, total_append}
use Rattle.pipe_core.specs.Cores.{one_seat}
use Rattle.pipe_core.specs.Pipes.{PipeWork, core_of, PipeKeeps}
use Rattle.pipe_core.specs.Makes.{with_app, with_dbase, given_line}
use Rattle.pipe_core.proofs.Lifting.{opened}

-- what follows of what holds of an answer without an error
pub ok_as : {A E : Type 0} (result : Result A E) (P Q : Type 0) → (P → Q) → OnOk result P → OnOk result Q
ok_as (Ok x) P Q gives h = gives h
ok_as (Err e) P Q gives h = tt

pub err_as : {A E : Type 0} (result : Result A E) (P Q : Type 0) → (P → Q) → OnErr result P → OnErr result Q
err_as (Ok x) P Q gives h = tt
err_as (Err e) P Q gives h = gives h

-- what the application was given is what it is given of the longer play, and it keeps its part of that
pub record KeepsLonger (g g' : Setup) (old new : AppWork) : Type 0 where
  pub given : IsGiven g' new
  pub part : (seat : ℕ) (log : Log) (taken sent : List Packet) (stream : List ℕ) →
      AppKeeps g seat old.state log taken sent stream → AppKeeps g' seat new.state log taken sent stream

pub line_given : (play : Script) (ahead : ℕ) (p : PipeWork) (line : AppLine) → PipeKeeps play ahead p →
    KeepsLonger (setup_of play ahead) (setup_of (with_app play (line ∷ [])) ahead) p.app (more_work (line ∷ []) p.app.merges p.app) →
    PipeKeeps (with_app play (line ∷ [])) ahead (given_line line p)
line_given play ahead p line keeps longer =
    let s = (core_of play p).pipe in
    let old = opened play ahead (core_of play p) keeps.core in
    record {
      core = record {
        pipe = (gathering_law (setup_of (with_app play (line ∷ [])) ahead) play.dbase one_seat s).fits
            (record {
              merges = refl;
              legal = old.legal;
              app_entries = old.app_entries;
              dbase_entries = old.dbase_entries;
              link_a = old.link_a;
              link_b = old.link_b;
              link_c = old.link_c;
              app = longer.part 0 s.log s.c.taken s.a.sent s.stream old.app;
              cull = old.cull;
              draw = old.draw;
              base = old.base;
            });
        app_lines = longer.given.within;
        dbase_lines = keeps.core.dbase_lines;
        marked = keeps.core.marked;
      };
      stages = record {
        app = longer.given;
        cull = keeps.stages.cull;
        draw_lens = keeps.stages.draw_lens;
        draw_back = keeps.stages.draw_back;
        in_flight = keeps.stages.in_flight;
        channels = keeps.stages.channels;
      };
      room = record { a = keeps.room.a; b = keeps.room.b; c = keeps.room.c };
      waited = keeps.waited;
      cull = keeps.cull;
      dbase = keeps.dbase;
      failed = keeps.failed;
      home = record { lists = keeps.home.lists; few = keeps.home.few };
      copies = keeps.copies;
    }

-- of what the giving of a line says of the application
pub line_keeps : {A E : Type 0} (result : Result A E) (p : PipeWork) (line : AppLine) (w : AppWork) →
    OnOk result (w ≡ more_work (line ∷ []) p.app.merges p.app) →
    OnOk result ((g : Setup) → IsGiven g p.app → IsGiven (with_lines g (line ∷ []) g.merges) w) →
    OnOk result ((g : Setup) (seat : ℕ) (log : Log) (taken sent : List Packet) (stream : List ℕ) → IsGiven g p.app →
    AppKeeps g seat p.app.state log taken sent stream → AppKeeps (with_lines g (line ∷ []) g.merges) seat w.state log taken sent stream) →
    OnOk result ((play : Script) (ahead : ℕ) → PipeKeeps play ahead p → PipeKeeps (with_app play (line ∷ [])) ahead (record p { app = w }))
line_keeps (Err e) p line w is given part = tt
line_keeps (Ok x) p line w is given part = λ play ahead keeps.
    let g = setup_of play ahead in
    let longer = with_lines g (line ∷ []) g.merges in
    subst (λ (v : AppWork). PipeKeeps (with_app play (line ∷ [])) ahead (record p { app = v })) (sym is)
    (line_given play ahead p line keeps
    (record {
      given = subst (IsGiven longer) is (given g keeps.stages.app);
      part = λ seat log taken sent stream old.
          subst (λ (v : AppWork). AppKeeps longer seat v.state log taken sent stream) is (part g seat log taken sent stream keeps.stages.app old);
    }))

-- the pipe that was given a block: DBASE is this, and the application waits for so many merges
abbrev pub given_block : ℕ → DbaseWork → PipeWork → PipeWork
given_block merges d p = record p { app = record p.app { merges = merges }; dbase = d }

pub block_given : (play : Script) (ahead : ℕ) (p : PipeWork) (more : List BaseLine) (merges : ℕ) (d : DbaseWork) →
    merges ≡ length (asked_dbase (play.dbase ++ more)) → d.failed ≡ p.dbase.failed → PipeKeeps play ahead p →
    KeepsLonger (setup_of play ahead) (record (setup_of play ahead) { merges = merges }) p.app (record p.app { merges = merges }) →
    DbaseHolds (play.dbase ++ more) play.channels 0 d p.scene.shared.log →
    PipeKeeps (with_dbase play more) ahead (given_block merges d p)
block_given play ahead p more merges d many fails keeps longer holds =
    let s = (core_of play p).pipe in
    let old = opened play ahead (core_of play p) keeps.core in
    let g = setup_of play ahead in
    let given : IsGiven (setup_of (with_dbase play more) ahead) (record p.app { merges = merges }) =
    subst (λ (n : ℕ). IsGiven (record g { merges = n }) (record p.app { merges = merges })) many longer.given in
    let part : AppKeeps (setup_of (with_dbase play more) ahead) 0 p.app.state s.log s.c.taken s.a.sent s.stream =
    subst (λ (n : ℕ). AppKeeps (record g { merges = n }) 0 p.app.state s.log s.c.taken s.a.sent s.stream) many
    (longer.part 0 s.log s.c.taken s.a.sent s.stream old.app) in
    record {
      core = record {
        pipe = (gathering_law (setup_of (with_dbase play more) ahead) (play.dbase ++ more) one_seat
            (core_of (with_dbase play more) (given_block merges d p)).pipe).fits
            (record {
              merges = refl;
              legal = old.legal;
              app_entries = old.app_entries;
              dbase_entries = old.dbase_entries;
              link_a = old.link_a;
              link_b = old.link_b;
              link_c = old.link_c;
              app = part;
              cull = old.cull;
              draw = old.draw;
              base = holds.keeps;
            });
        app_lines = keeps.core.app_lines;
        dbase_lines = holds.stands_in.within;
        marked = keeps.core.marked;
      };
      stages = record {
        app = given;
        cull = keeps.stages.cull;
        draw_lens = keeps.stages.draw_lens;
        draw_back = keeps.stages.draw_back;
        in_flight = keeps.stages.in_flight;
        channels = keeps.stages.channels;
      };
      room = record { a = keeps.room.a; b = keeps.room.b; c = keeps.room.c };
      waited = keeps.waited;
      cull = keeps.cull;
      dbase = holds;
      failed = λ now. keeps.failed (sym fails ∙ now);
      home = record { lists = keeps.home.lists; few = keeps.home.few };
      copies = keeps.copies;
    }

-- the merges of a section with a block behind it
pub merges_more : (dbase more : List BaseLine) → length (asked_dbase (dbase ++ more)) ≡ length (asked_dbase dbase) + length (asked_dbase more)
merges_more dbase more =
    let all = merges_given 0 [] (dbase ++ more)
    ∙ ap total (map-append _ dbase more) ∙ total_append (base_marks dbase) (base_marks more) in
    let first = merges_given 0 [] dbase in
    let second = merges_given 0 [] more in
    omega (arith, all, first, second)

-- a section asks for no more merges than it has lines
few_given : (s : BaseStep) → given_by (base_given s) ≤ 1
few_given base.Buffer = omega arith
few_given (base.Edit e) = omega arith
few_given (base.Ask e) = omega arith
few_given base.Merge = omega arith
few_given (base.Await n) = omega arith

few_marks : (lines : List BaseLine) → total (base_marks lines) ≤ length lines
few_marks [] = omega arith
few_marks (l ∷ ls) = let one = few_given l.step in let rest = few_marks ls in omega (arith, one, rest)

pub few_merges : (lines : List BaseLine) → length (asked_dbase lines) ≤ length lines
few_merges lines = let same = merges_given 0 [] lines in let few = few_marks lines in omega (arith, same, few)

-- so many merges does the application wait for, where it waited for those of its section, and those of the block were counted
pub block_many : (play : Script) (ahead : ℕ) (more : List BaseLine) (own count merges : ℕ) → CanRun (with_dbase play more) ahead →
    own ≡ length (asked_dbase play.dbase) → count ≡ length (asked_dbase more) → (own + count ≤ most_steps → merges ≡ own + count) →
    merges ≡ length (asked_dbase (play.dbase ++ more))
block_many play ahead more own count merges can all some added =
    let few = few_merges play.dbase in
    let few_more = few_merges more in
    let long = length-append play.dbase more in
    let sum = added (omega (arith, all, some, few, few_more, long, can.is_play.steps)) in
    let parts = merges_more play.dbase more in
    omega (arith, sum, parts, all, some)

-- of what the giving of a block says of DBASE, and the noting of its merges of the application
pub block_keeps : (play : Script) (ahead : ℕ) (p : PipeWork) (more : List BaseLine) (merges : ℕ) (w : AppWork) (d : DbaseWork) →
    merges ≡ length (asked_dbase (play.dbase ++ more)) → d.failed ≡ p.dbase.failed → PipeKeeps play ahead p →
    w ≡ record p.app { merges = merges } →
    ((g : Setup) → IsGiven g p.app → IsGiven (record g { merges = merges }) w) →
    ((g : Setup) (seat : ℕ) (log : Log) (taken sent : List Packet) (stream : List ℕ) → IsGiven g p.app →
    AppKeeps g seat p.app.state log taken sent stream → AppKeeps (record g { merges = merges }) seat w.state log taken sent stream) →
    DbaseHolds (play.dbase ++ more) play.channels 0 d p.scene.shared.log →
    PipeKeeps (with_dbase play more) ahead (record p { app = w; dbase = d })
block_keeps play ahead p more merges w d many fails keeps is given part holds =
    let g = setup_of play ahead in
    let longer = record g { merges = merges } in
    subst (λ (v : AppWork). PipeKeeps (with_dbase play more) ahead (record p { app = v; dbase = d })) (sym is)
    (block_given play ahead p more merges d many fails keeps
    (record {
      given = subst (IsGiven longer) is (given g keeps.stages.app);
      part = λ seat log taken sent stream old.
          subst (λ (v : AppWork). AppKeeps longer seat v.state log taken sent stream) is (part g seat log taken sent stream keeps.stages.app old);
    })
    holds)
