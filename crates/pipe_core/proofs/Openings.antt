-- Runs of events, one event after the other, and the pipe before the first one.
use Rattle.std.proofs.Common.{◌≡◌, ℕ, true, false, List, [], ◌∷◌, ◌++◌, take, length, slice_get, Option, Some, None, Result, Ok, Err, IfOk, inl, inr, refl, sym, ap, ◌∙◌, subst, append_assoc, arith}
use Rattle.std.proofs.lemmas.List.{append-nil}
use Rattle.std.specs.Io.KnownBytes.{append_known}
use Rattle.pf_io.proofs.Known.{append_known-nil, append_known-append}
use Rattle.play_format.specs.Plays.{Script}
use Rattle.stage_parts.specs.Loads.{LoadState}
use Rattle.stage_parts.proofs.DbaseSteps.{opening_law}
use Rattle.stage_parts.proofs.Gathering.{gathering_law}
use Rattle.stage_parts.specs.declared.answers.Did.{Did}
use Rattle.stage_parts.specs.declared.answers.Did.TheVariants as did
use Rattle.stage_parts.specs.declared.answers.StageError.{StageError}
use Rattle.frame_stages.specs.AppWorks as app
use Rattle.frame_stages.specs.DbaseWorks as base
use Rattle.frame_stages.specs.DbaseWorks.{DbaseHolds}
use Rattle.frame_stages.specs.CullWorks.{CullWork, CullKeeps, cull_state}
use Rattle.stage_parts.specs.Parts.{CullPart}
use Rattle.pipe_core.specs.declared.events.Event.{Event}
use Rattle.pipe_plays.specs.Plays.{setup_of}
use Rattle.pipe_core.specs.Cores.{CoreState, one_seat}
use Rattle.pipe_core.specs.Runs.{Steps, Ran}
use Rattle.pipe_core.specs.Pipes.{PipeWork, opening_link, opening_scene, core_of, PipeKeeps, Lifted, IsWritten, FailsAt, HasRun}

-- one event more
pub ran_more : (play : Script) (ahead : ℕ) (es : List Event) (e : Event) (s t u : CoreState) → Ran play ahead es s t → Steps play ahead e t u →
    Ran play ahead (es ++ e ∷ []) s u
ran_more play ahead [] e s t u ran step = (u, subst (λ (x : CoreState). Steps play ahead e x u) ran step, refl)
ran_more play ahead (k ∷ es) e s t u ran step = (ran.0, ran.1, ran_more play ahead es e ran.0 t u ran.2 step)

-- an event that answered no error
pub steps_on : (play : Script) (ahead : ℕ) (e : Event) (d : Did) (p q : PipeWork) → Lifted play ahead e (Ok d) p q →
    Steps play ahead e (core_of play p) (core_of play q)
steps_on play ahead e did.Did p q h = record { fits = h.keeps.core; step = inl h.answer }
steps_on play ahead e did.NotYet p q h = record { fits = h.keeps.core; step = inr (record { same = h.answer.0; idle = inr h.answer.2 }) }
steps_on play ahead e did.Over p q h = record { fits = h.keeps.core; step = inr (record { same = h.answer.0; idle = inl h.answer.1 }) }

-- Before the first event

-- the pipe before the first event, with these loads in APP's hand and this cull
abbrev pub new_pipe : Script → ℕ → List LoadState → CullWork → PipeWork
new_pipe play ahead loads cull =
    record {
      app = app.opening_work (setup_of play ahead) loads;
      cull = cull;
      draw = record { lens = play.lens; back = play.back; state = record { ended = false; held = None } };
      dbase = base.opening_work play.dbase;
      scene = opening_scene ahead play.channels;
      a = opening_link ahead;
      b = opening_link ahead;
      c = opening_link ahead;
    }

pub opening_keeps : (play : Script) (ahead : ℕ) (loads : List LoadState) (cull : CullWork) → length loads ≡ ahead → cull.lens ≡ play.lens →
    CullKeeps cull [] [] → DbaseHolds play.dbase play.channels 0 (base.opening_work play.dbase) [] → PipeKeeps play ahead (new_pipe play ahead loads cull)
opening_keeps play ahead loads cull all lens keeps holds =
    let g = setup_of play ahead in
    let old = opening_law g play.dbase one_seat loads refl all in
    record {
      core = record {
        pipe = (gathering_law g play.dbase one_seat (core_of play (new_pipe play ahead loads cull)).pipe).fits
            (record {
              merges = refl;
              legal = old.legal;
              app_entries = old.app_entries;
              dbase_entries = old.dbase_entries;
              link_a = old.link_a;
              link_b = old.link_b;
              link_c = old.link_c;
              app = old.app;
              cull = subst (λ l. CullPart l (cull_state cull) [] []) lens keeps.part;
              draw = old.draw;
              base = holds.keeps;
            });
        app_lines = omega arith;
        dbase_lines = omega arith;
        marked = λ n fault. absurd (let clash : None ≡ Some n = fault in cc);
      };
      stages = record {
        app = record { rest = refl; within = omega arith; merges = refl; lens = refl; back = refl; ahead = refl; channels = refl; stands = refl };
        cull = lens;
        draw_lens = refl;
        draw_back = refl;
        in_flight = refl;
        channels = refl;
      };
      room = record { a = refl; b = refl; c = refl };
      waited = omega arith;
      cull = keeps;
      dbase = holds;
      failed = λ fails. absurd (let clash : false ≡ true = fails in cc);
      home = record { lists = refl; few = omega arith };
      copies = (refl, omega arith);
    }

-- a fact of what was made
pub of_ok : {A E : Type 0} (P : A → Type 0) {r : Result A E} {x : A} → r ≡ Ok x → IfOk r P → P x
of_ok P is holds = subst (λ s. IfOk s P) is holds

-- what was made is one thing
pub one_ok : {A E : Type 0} {r : Result A E} {x y : A} → r ≡ Ok x → r ≡ Ok y → x ≡ y
one_ok is was = cc (is, was)

-- What the parts of a new pipe are.
pub record IsNew (play : Script) (ahead : ℕ) (p : PipeWork) : Type 0 where
  pub app : p.app ≡ app.opening_work (setup_of play ahead) p.app.state.spare
  pub loads : length p.app.state.spare ≡ ahead
  pub lens : p.cull.lens ≡ play.lens
  pub cull : CullKeeps p.cull [] []
  pub draw : p.draw ≡ record { lens = play.lens; back = play.back; state = record { ended = false; held = None } }
  pub dbase : p.dbase ≡ base.opening_work play.dbase
  pub holds : DbaseHolds play.dbase play.channels 0 (base.opening_work play.dbase) []
  pub scene : p.scene ≡ opening_scene ahead play.channels
  pub a : p.a ≡ opening_link ahead
  pub b : p.b ≡ opening_link ahead
  pub c : p.c ≡ opening_link ahead

pub new_keeps : (play : Script) (ahead : ℕ) (p : PipeWork) → IsNew play ahead p → PipeKeeps play ahead p
new_keeps play ahead p is =
    let path : new_pipe play ahead p.app.state.spare p.cull ≡ p =
    λ i.
    record {
      app = (sym is.app) i;
      cull = p.cull;
      draw = (sym is.draw) i;
      dbase = (sym is.dbase) i;
      scene = (sym is.scene) i;
      a = (sym is.a) i;
      b = (sym is.b) i;
      c = (sym is.c) i;
    } in
    subst (PipeKeeps play ahead) path (opening_keeps play ahead p.app.state.spare p.cull is.loads is.lens is.cull is.holds)

-- What the frame sink was given

pub nothing_written : (bytes : Option (List ℕ)) (s t : CoreState) → t.pipe.stream ≡ s.pipe.stream → IsWritten bytes bytes s t
nothing_written bytes s t same =
    record { more = []; stream = same ∙ sym (append-nil s.pipe.stream); wrote = sym (append_known-nil bytes) }

pub written_more : (a b c : Option (List ℕ)) (s t u : CoreState) → IsWritten a b s t → IsWritten b c t u → IsWritten a c s u
written_more a b c s t u first second =
    record {
      more = first.more ++ second.more;
      stream = second.stream ∙ ap (λ (bytes : List ℕ). bytes ++ second.more) first.stream ∙ append_assoc s.pipe.stream first.more second.more;
      wrote = second.wrote ∙ ap (λ (known : Option (List ℕ)). append_known known second.more) first.wrote ∙ append_known-append a first.more second.more;
    }

-- Runs

-- an answer that is this error, where another answer tells that the two errors are one
pub told_error : {A B : Type 0} (q : Result B StageError) (r : Result A StageError) (x y : StageError) → q ≡ Err x → r ≡ Err x → r ≡ Err y → q ≡ Err y
told_error q r x y at is was = let same : x ≡ y = cc in at ∙ ap Err same

-- an event that answers an error behind events of which none did
pub run_fails : (play : Script) (ahead : ℕ) (es : List Event) (i : ℕ) (e : Event) (error : StageError) (p q r : PipeWork) (a b : Option (List ℕ)) →
    HasRun play ahead (take i es) p q a b → slice_get es i ≡ Some e → Lifted play ahead e (Err error) q r →
    FailsAt play ahead es error (core_of play p) (core_of play r)
run_fails play ahead es i e error p q r a b run there lifted =
    record { place = i; event = e; there = there; at = core_of play q; ran = run.ran; fails = lifted.answer }

pub not_run : (play : Script) (ahead : ℕ) (p : PipeWork) (bytes : Option (List ℕ)) → PipeKeeps play ahead p → HasRun play ahead [] p p bytes bytes
not_run play ahead p bytes keeps =
    record { keeps = keeps; ran = refl; wrote = nothing_written bytes (core_of play p) (core_of play p) refl }

pub run_more : (play : Script) (ahead : ℕ) (es : List Event) (e : Event) (d : Did) (p q r : PipeWork) (a b c : Option (List ℕ)) →
    HasRun play ahead es p q a b → Lifted play ahead e (Ok d) q r → IsWritten b c (core_of play q) (core_of play r) →
    HasRun play ahead (es ++ e ∷ []) p r a c
run_more play ahead es e d p q r a b c run lifted wrote =
    record {
      keeps = lifted.keeps;
      ran = ran_more play ahead es e (core_of play p) (core_of play q) (core_of play r) run.ran (steps_on play ahead e d q r lifted);
      wrote = written_more a b c (core_of play p) (core_of play q) (core_of play r) run.wrote wrote;
    }
