-- How far a live run has come, step by step.
use Rattle.std.proofs.Common.{◌≡◌, ℕ, ◌+◌, ◌<◌, Bool, true, false, List, [], ◌∷◌, ◌++◌, length, Option, Some, None, inl, inr, refl, sym, ap, ◌∙◌, append-nil, append_assoc, subst, arith}
use Rattle.std.specs.Prelude.{◌⊎◌, ◌≢◌, Result, Ok, Err}
use Rattle.std.proofs.lemmas.Option.{same_Some}
use Rattle.std.specs.Io.KnownBytes.{IsAtEnd}
use Rattle.nearest_hit.specs.declared.segment.Segment.{Segment}
use Rattle.pf_model.specs.declared.lines.AppLine.{AppLine}
use Rattle.pf_model.specs.declared.lines.BaseLine.{BaseLine}
use Rattle.play_format.specs.declared.refusal.Refusal.{Refusal}
use Rattle.play_format.specs.Plays.{Script}
use Rattle.live_text.specs.declared.given.Given.{Given}
use Rattle.live_text.specs.declared.given.Given.TheVariants as live
use Rattle.live_text.specs.LiveGrammar.{live_reading}
use Rattle.live_text.specs.LiveCommands.{LiveCommand, Line, Block, LiveHeader, SpellsLive, play_of}
use Rattle.live_feed.specs.Feeds.{FeedState, Fed, HasNoFeed, EndsSo, IsGood, header_of, commands_of}
use Rattle.live_feed.specs.Laws.{FedIsSpelled, PlayGrows, blocks_in}
use Rattle.mode_hosts.specs.Lives.{with_app, with_dbase}
use Rattle.program_ends.specs.Told.{Bytes}
use Rattle.live_run.specs.declared.halt.Halt.{Halt}
use Rattle.live_run.specs.declared.halt.Halt.TheVariants as halt
use Rattle.live_run.specs.Driven.{Driven, with_block, IsDriven, IsDrivenSome}
use Rattle.live_run.specs.LiveRuns.{Takes, Begins, IsPlayAt, IsWrong}
use Rattle.live_run.specs.Runs.{Start, NextSo, ReadsOn, EndsHere, Plays, PlaysSome, HasTold, HaltTold, ToldAt, RunsOn, RunsSome, RunsCut, RunsOut, HaltMade, MadeAt, GivesTo, TurnsTo, HasHeader, with_given}

-- What was given

pub commands_more : (gs : List Given) (g : Given) → commands_of (gs ++ g ∷ []) ≡ with_given (commands_of gs) g
commands_more [] g = refl
commands_more (live.Header lens back channels ∷ gs) g = commands_more gs g
commands_more (live.Line l ∷ gs) g = ap (λ (cs : List LiveCommand). Line l ∷ cs) (commands_more gs g)
commands_more (live.Block ls ∷ gs) g = ap (λ (cs : List LiveCommand). Block ls.items ∷ cs) (commands_more gs g)

pub header_stays : (gs : List Given) (g : Given) (h : LiveHeader) → header_of gs ≡ Some h → header_of (gs ++ g ∷ []) ≡ Some h
header_stays [] g h is = absurd (cc)
header_stays (live.Header lens back channels ∷ gs) g h is = is
header_stays (live.Line l ∷ gs) g h is = absurd (cc)
header_stays (live.Block ls ∷ gs) g h is = absurd (cc)

some_given : (gs : List Given) (h : LiveHeader) → header_of gs ≡ Some h → 0 < length gs
some_given [] h is = absurd (cc)
some_given (g ∷ gs) h is = omega arith

-- a front of the text spells what was given
pub begins_of : FedIsSpelled → (text : List ℕ) (gs : List Given) (h : LiveHeader) (f : FeedState) → Fed text gs f → header_of gs ≡ Some h →
    Begins text h (commands_of gs)
begins_of law text gs h f fed is =
    let spelled = law text gs f fed (some_given gs h is) in
    let same : spelled.h ≡ h = same_Some spelled.h h (sym spelled.header ∙ is) in
    record {
      front = spelled.front;
      behind = spelled.behind;
      parts = spelled.parts;
      spelled = subst (λ (k : LiveHeader). SpellsLive spelled.front k (commands_of gs)) same spelled.spelled;
    }

pub begins_all : (text : List ℕ) (h : LiveHeader) (cs : List LiveCommand) → SpellsLive text h cs → Begins text h cs
begins_all text h cs spelled = record { front = text; behind = []; parts = sym (append-nil text); spelled = spelled }

pub blocks_line : (cs : List LiveCommand) (l : AppLine) → blocks_in (cs ++ Line l ∷ []) ≡ blocks_in cs
blocks_line [] l = refl
blocks_line (Line x ∷ cs) l = blocks_line cs l
blocks_line (Block ls ∷ cs) l = ap (λ (n : ℕ). n + 1) (blocks_line cs l)

pub blocks_block : (cs : List LiveCommand) (ls : List BaseLine) → blocks_in (cs ++ Block ls ∷ []) ≡ blocks_in cs + 1
blocks_block [] ls = refl
blocks_block (Line x ∷ cs) ls = blocks_block cs ls
blocks_block (Block xs ∷ cs) ls = ap (λ (n : ℕ). n + 1) (blocks_block cs ls)

module _ {R G : Type 0} where
  -- What a pipe was given

  pub plays_line : PlayGrows → (h : LiveHeader) (cs : List LiveCommand) (ahead : ℕ) (asked : Option Segment) (bytes bytes' : Bytes) (l m : Driven R G)
      (line : AppLine) → IsDriven (with_app (play_of h cs) (line ∷ [])) ahead asked bytes bytes' m → m.blocks ≡ l.blocks → l.blocks ≡ blocks_in cs →
      Plays h (cs ++ Line line ∷ []) ahead asked bytes bytes' m
  plays_line law h cs ahead asked bytes bytes' l m line driven same blocks =
      record {
        driven = subst (λ (p : Script). IsDriven p ahead asked bytes bytes' m) (sym (law.line h cs line)) driven;
        blocks = same ∙ blocks ∙ sym (blocks_line cs line);
      }

  pub plays_block : PlayGrows → (h : LiveHeader) (cs : List LiveCommand) (ahead : ℕ) (asked : Option Segment) (bytes bytes' : Bytes) (l m : Driven R G)
      (ls : List BaseLine) → IsDriven (with_block (play_of h cs) ls m.blocks) ahead asked bytes bytes' m → m.blocks ≡ l.blocks + 1 →
      l.blocks ≡ blocks_in cs → Plays h (cs ++ Block ls ∷ []) ahead asked bytes bytes' m
  plays_block law h cs ahead asked bytes bytes' l m ls driven one blocks =
      let now : m.blocks ≡ blocks_in cs + 1 = one ∙ ap (λ (n : ℕ). n + 1) blocks in
      let there : IsDriven (with_block (play_of h cs) ls (blocks_in cs + 1)) ahead asked bytes bytes' m =
      subst (λ (n : ℕ). IsDriven (with_block (play_of h cs) ls n) ahead asked bytes bytes' m) now driven in
      record {
        driven = subst (λ (p : Script). IsDriven p ahead asked bytes bytes' m) (sym (law.block h cs ls)) there;
        blocks = now ∙ sym (blocks_block cs ls);
      }

  pub some_plays : (h : LiveHeader) (cs : List LiveCommand) (ahead : ℕ) (asked : Option Segment) (bytes bytes' : Bytes) (l : Driven R G) →
      IsDriven (play_of h cs) ahead asked bytes bytes' l → PlaysSome h cs ahead asked bytes bytes' l
  some_plays h cs ahead asked bytes bytes' l driven = record { play = play_of h cs; is_play = inl refl; driven = driven }

  pub block_plays : (h : LiveHeader) (cs : List LiveCommand) (ahead : ℕ) (asked : Option Segment) (bytes bytes' : Bytes) (l : Driven R G)
      (ls : List BaseLine) → IsDrivenSome (play_of h cs) ls ahead asked bytes bytes' l → PlaysSome h cs ahead asked bytes bytes' l
  block_plays h cs ahead asked bytes bytes' l ls (inl driven) = some_plays h cs ahead asked bytes bytes' l driven
  block_plays h cs ahead asked bytes bytes' l ls (inr driven) =
      record { play = with_dbase (play_of h cs) ls; is_play = inr (ls, refl); driven = driven }

  -- The run, by what comes next of its text

  module _ (law : FedIsSpelled) (s : Start) (left frames report : Bytes) (faults : ℕ) (f : FeedState) (l : Driven R G)
      (on : RunsOn s left frames report faults f l) where
    pub on_cut : RunsCut s on.text left frames l
    on_cut = record { h = on.h; cs = commands_of on.gs; taken = on.taken; begins = begins_of law on.text on.gs on.h f on.fed on.header; plays = on.plays }

    pub on_some : RunsSome s left frames l
    on_some =
        record {
          text = on.text;
          h = on.h;
          cs = commands_of on.gs;
          taken = on.taken;
          begins = begins_of law on.text on.gs on.h f on.fed on.header;
          plays = some_plays on.h (commands_of on.gs) s.setup.ahead s.setup.probe s.frames frames l on.plays.driven;
        }

    -- nothing was given, and the feed reads on
    pub on_feed : (g : FeedState) → Fed on.text on.gs g → RunsOn s left frames report faults g l
    on_feed g fed =
        record { text = on.text; gs = on.gs; h = on.h; taken = on.taken; fed = fed; header = on.header; plays = on.plays; told = on.told }

    -- a command was given
    pub on_given : (frames' : Bytes) (g : FeedState) (m : Driven R G) (given : Given) → Fed on.text (on.gs ++ given ∷ []) g →
        Plays on.h (with_given (commands_of on.gs) given) s.setup.ahead s.setup.probe s.frames frames' m →
        HasTold s.report report s.faults faults m → RunsOn s left frames' report faults g m
    on_given frames' g m given fed plays told =
        record {
          text = on.text;
          gs = on.gs ++ given ∷ [];
          h = on.h;
          taken = on.taken;
          fed = fed;
          header = header_stays on.gs given on.h on.header;
          plays = subst (λ (cs : List LiveCommand). Plays on.h cs s.setup.ahead s.setup.probe s.frames frames' m) (sym (commands_more on.gs given)) plays;
          told = told;
        }

    -- a command was not given, or not wholly
    pub on_failed : (frames' : Bytes) (m : Driven R G) →
        PlaysSome on.h (commands_of on.gs) s.setup.ahead s.setup.probe s.frames frames' m → RunsSome s left frames' m
    on_failed frames' m plays =
        record {
          text = on.text;
          h = on.h;
          cs = commands_of on.gs;
          taken = on.taken;
          begins = begins_of law on.text on.gs on.h f on.fed on.header;
          plays = plays;
        }

    -- what came next ends the run, or gives nothing
    pub on_halt : (g : FeedState) (h : Halt) → NextSo on.text on.gs g (Err h) → GivesTo s left frames report faults g (Err h) l
    on_halt g (halt.Refused r) (fed, wrong) = (
      record { text = on.text; gs = on.gs; h = on.h; taken = on.taken; fed = fed; header = on.header; plays = on.plays; told = on.told },
      wrong,
    )
    on_halt g halt.Broken fed = (on_some, on.told)
    on_halt g halt.ReadFault nay = absurd nay
    on_halt g halt.ReportFault nay = absurd nay
    on_halt g halt.Untold nay = absurd nay

    -- it was settled, and told
    pub on_settled : (frames' report' : Bytes) (faults' : ℕ) (m : Driven R G) →
        IsDriven (play_of on.h (commands_of on.gs)) s.setup.ahead s.setup.probe s.frames frames' m → m.blocks ≡ l.blocks →
        HasTold s.report report' s.faults faults' m → RunsOn s left frames' report' faults' f m
    on_settled frames' report' faults' m driven blocks told =
        record {
          text = on.text;
          gs = on.gs;
          h = on.h;
          taken = on.taken;
          fed = on.fed;
          header = on.header;
          plays = record { driven = driven; blocks = blocks ∙ on.plays.blocks };
          told = told;
        }

    -- a piece more was read
    pub on_read : (left' : Bytes) (g : FeedState) → ReadsOn s.left left' on.text on.gs g (Ok true) → RunsOn s left' frames report faults g l
    on_read left' g (piece, taken, fed) =
        record { text = on.text ++ piece; gs = on.gs; h = on.h; taken = taken; fed = fed; header = on.header; plays = on.plays; told = on.told }

    -- reading ended the run
    pub on_unread : (left' : Bytes) (g : FeedState) (h : Halt) → ReadsOn s.left left' on.text on.gs g (Err h) → HaltMade h s left' frames l
    on_unread left' g halt.ReadFault (taken, fed) = (
      on.text,
      record {
        h = on.h;
        cs = commands_of on.gs;
        taken = taken;
        begins = begins_of law on.text on.gs on.h g fed on.header;
        plays = on.plays;
      },
    )
    on_unread left' g halt.Broken (piece, taken, fed) =
        let begins = begins_of law on.text on.gs on.h g fed on.header in
        record {
          text = on.text ++ piece;
          h = on.h;
          cs = commands_of on.gs;
          taken = taken;
          begins = record {
            front = begins.front;
            behind = begins.behind ++ piece;
            parts = ap (λ (t : List ℕ). t ++ piece) begins.parts ∙ append_assoc begins.front begins.behind piece;
            spelled = begins.spelled;
          };
          plays = some_plays on.h (commands_of on.gs) s.setup.ahead s.setup.probe s.frames frames l on.plays.driven;
        }
    on_unread left' g (halt.Refused r) nay = absurd nay
    on_unread left' g halt.ReportFault nay = absurd nay
    on_unread left' g halt.Untold nay = absurd nay

    pub unread_told : (left' : Bytes) (g : FeedState) (h : Halt) → ReadsOn s.left left' on.text on.gs g (Err h) →
        HaltTold h s.report report s.faults faults l
    unread_told left' g halt.ReadFault reads = on.told
    unread_told left' g halt.Broken reads = on.told
    unread_told left' g (halt.Refused r) nay = absurd nay
    unread_told left' g halt.ReportFault nay = absurd nay
    unread_told left' g halt.Untold nay = absurd nay

    -- the text has ended
    pub on_end : (left' : Bytes) (g : FeedState) (r : Result Unit Halt) → ReadsOn s.left left' on.text on.gs g (Ok false) → EndsHere on.text on.gs r →
        MadeAt r s left' frames l
    on_end left' g (Ok u) (taken, at_end, fed) (h, header, commands, spelled) =
        let same : h ≡ on.h = same_Some h on.h (sym header ∙ on.header) in
        record {
          text = on.text;
          h = on.h;
          cs = commands_of on.gs;
          taken = taken;
          at_end = at_end;
          spelled = subst (λ (k : LiveHeader). SpellsLive on.text k (commands_of on.gs)) same spelled;
          plays = on.plays;
        }
    on_end left' g (Err (halt.Refused r)) (taken, at_end, fed) wrong = (
      on.text,
      record {
        h = on.h;
        cs = commands_of on.gs;
        taken = taken;
        begins = begins_of law on.text on.gs on.h g fed on.header;
        plays = on.plays;
      },
      inr (at_end, wrong),
    )
    on_end left' g (Err halt.ReadFault) reads nay = absurd nay
    on_end left' g (Err halt.ReportFault) reads nay = absurd nay
    on_end left' g (Err halt.Untold) reads nay = absurd nay
    on_end left' g (Err halt.Broken) reads nay = absurd nay

    pub end_told : (r : Result Unit Halt) → EndsHere on.text on.gs r → ToldAt r s.report report s.faults faults l
    end_told (Ok u) ends = on.told
    end_told (Err (halt.Refused r)) ends = on.told
    end_told (Err halt.ReadFault) nay = absurd nay
    end_told (Err halt.ReportFault) nay = absurd nay
    end_told (Err halt.Untold) nay = absurd nay
    end_told (Err halt.Broken) nay = absurd nay

  -- Settling

  abbrev pub Settles : ℕ → Option Segment → Bytes → (frames frames' : Bytes) → (l m : Driven R G) → Type 0
  Settles ahead asked bytes frames frames' l m =
      (play : Script) → IsDriven play ahead asked bytes frames l → IsDriven play ahead asked bytes frames' m

  some_settled : (s : Start) (left frames frames' : Bytes) (l m : Driven R G) → Settles s.setup.ahead s.setup.probe s.frames frames frames' l m →
      RunsSome s left frames l → RunsSome s left frames' m
  some_settled s left frames frames' l m settles some =
      record {
        text = some.text;
        h = some.h;
        cs = some.cs;
        taken = some.taken;
        begins = some.begins;
        plays = record {
          play = some.plays.play;
          is_play = some.plays.is_play;
          driven = settles some.plays.play some.plays.driven;
        };
      }

  gives_some : FedIsSpelled → (s : Start) (left frames report : Bytes) (faults : ℕ) (f : FeedState) (r : Result Unit Halt) (l : Driven R G) →
      GivesTo s left frames report faults f r l → RunsSome s left frames l
  gives_some law s left frames report faults f (Ok u) l (on, none) = on_some law s left frames report faults f l on
  gives_some law s left frames report faults f (Err (halt.Refused r)) l (on, wrong) = on_some law s left frames report faults f l on
  gives_some law s left frames report faults f (Err halt.Broken) l (some, told) = some
  gives_some law s left frames report faults f (Err halt.ReadFault) l nay = absurd nay
  gives_some law s left frames report faults f (Err halt.ReportFault) l nay = absurd nay
  gives_some law s left frames report faults f (Err halt.Untold) l nay = absurd nay

  gives_told : (s : Start) (left frames report : Bytes) (faults : ℕ) (f : FeedState) (r : Result Unit Halt) (l : Driven R G) →
      GivesTo s left frames report faults f r l → HasTold s.report report s.faults faults l
  gives_told s left frames report faults f (Ok u) l (on, none) = on.told
  gives_told s left frames report faults f (Err (halt.Refused r)) l (on, wrong) = on.told
  gives_told s left frames report faults f (Err halt.Broken) l (some, told) = told
  gives_told s left frames report faults f (Err halt.ReadFault) l nay = absurd nay
  gives_told s left frames report faults f (Err halt.ReportFault) l nay = absurd nay
  gives_told s left frames report faults f (Err halt.Untold) l nay = absurd nay

  -- settling came to an error
  pub turn_broken : FedIsSpelled → (s : Start) (left frames frames' report report' : Bytes) (faults faults' : ℕ) (f : FeedState) (l m : Driven R G)
      (given : Result Unit Halt) (h : Halt) → GivesTo s left frames report faults f given l →
      Settles s.setup.ahead s.setup.probe s.frames frames frames' l m →
      (HasTold s.report report s.faults faults l → HaltTold h s.report report' s.faults faults' m) →
      (h ≡ halt.Broken) ⊎ (h ≡ halt.Untold) ⊎ (h ≡ halt.ReportFault) →
      HaltMade h s left frames' m × HaltTold h s.report report' s.faults faults' m
  turn_broken law s left frames frames' report report' faults faults' f l m given h gives settles tells is =
      (by is, tells (gives_told s left frames report faults f given l gives))
    where
      some : RunsSome s left frames' m
      some = some_settled s left frames frames' l m settles (gives_some law s left frames report faults f given l gives)

      by : (h ≡ halt.Broken) ⊎ (h ≡ halt.Untold) ⊎ (h ≡ halt.ReportFault) → HaltMade h s left frames' m
      by (inl e) = subst (λ (x : Halt). HaltMade x s left frames' m) (sym e) some
      by (inr (inl e)) = subst (λ (x : Halt). HaltMade x s left frames' m) (sym e) some
      by (inr (inr e)) = subst (λ (x : Halt). HaltMade x s left frames' m) (sym e) some

  -- all was settled, and what came before it says how the run goes on
  pub turn_settled : FedIsSpelled → (s : Start) (left frames frames' report report' : Bytes) (faults faults' : ℕ) (f : FeedState) (l m : Driven R G)
      (given : Result Unit Halt) → GivesTo s left frames report faults f given l →
      Settles s.setup.ahead s.setup.probe s.frames frames frames' l m → m.blocks ≡ l.blocks →
      (HasTold s.report report s.faults faults l → HasTold s.report report' s.faults faults' m) →
      TurnsTo s left frames' report' faults' f given m
  turn_settled law s left frames frames' report report' faults faults' f l m (Ok u) (on, none) settles blocks tells = (
    on_settled law s left frames report faults f l on frames' report' faults' m
        (settles (play_of on.h (commands_of on.gs)) on.plays.driven) blocks (tells on.told),
    none,
  )
  turn_settled law s left frames frames' report report' faults faults' f l m (Err (halt.Refused r)) (on, wrong) settles blocks tells = (
    (
      on.text,
      record {
        h = on.h;
        cs = commands_of on.gs;
        taken = on.taken;
        begins = begins_of law on.text on.gs on.h f on.fed on.header;
        plays = record { driven = settles (play_of on.h (commands_of on.gs)) on.plays.driven; blocks = blocks ∙ on.plays.blocks };
      },
      inl wrong,
    ),
    tells on.told,
  )
  turn_settled law s left frames frames' report report' faults faults' f l m (Err halt.Broken) (some, told) settles blocks tells =
      (some_settled s left frames frames' l m settles some, tells told)
  turn_settled law s left frames frames' report report' faults faults' f l m (Err halt.ReadFault) nay settles blocks tells = absurd nay
  turn_settled law s left frames frames' report report' faults faults' f l m (Err halt.ReportFault) nay settles blocks tells = absurd nay
  turn_settled law s left frames frames' report report' faults faults' f l m (Err halt.Untold) nay settles blocks tells = absurd nay
