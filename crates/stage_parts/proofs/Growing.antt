-- The pipe invariant stands while lines are given.
use Rattle.std.proofs.Common.{◌≡◌, ℕ, ◌≤◌, Bool, false, cond, List, [], ◌∷◌, ◌++◌, map, take, drop, length, refl, sym, ap, ◌∙◌, subst, arith}
use Rattle.std.proofs.lemmas.List.{length-append, length-map, map-append, take-append-le, drop-append-le, take-append-drop}
use Rattle.std.proofs.lemmas.List.Sums.{fold-append}
use Rattle.std.specs.List.{fold}
use Rattle.pf_model.specs.declared.lines.AppLine.{AppLine}
use Rattle.pf_model.specs.declared.lines.AppStep.{AppStep}
use Rattle.pf_model.specs.declared.lines.BaseLine.{BaseLine}
use Rattle.pf_model.specs.declared.lines.BaseStep.{BaseStep}
use Rattle.pf_model.specs.Merges.{buffer_after}
use Rattle.pf_history.specs.declared.commands.Caller.TheVariants.{App, Dbase}
use Rattle.pf_history.specs.Logs.{Log}
use Rattle.pf_history.specs.Asks.{Ask, BaseAsk, WantClose, asked_app, asked_dbase, asked_from, asked_base_from, Follows, FollowsBase}
use Rattle.pf_history.specs.Fits.{turns_at}
use Rattle.stage_parts.specs.declared.packets.Packet.{Packet}
use Rattle.stage_parts.specs.States.{Setup, AppState, DbaseState, still_asked, still_asked_dbase, since_step, steps_since}
use Rattle.stage_parts.specs.Parts.{AppKeeps, DbaseKeeps}
use Rattle.stage_parts.specs.Gathering.{IsGathered}
use Rattle.stage_parts.specs.Grows.{synced_by, awaited_by, StandsInApp, StandsInDbase, with_lines, AppGrowsLaw, DbaseGrowsLaw, PipeGrowsLaw}
use Rattle.stage_parts.proofs.AsksMore.{ask, open_from, waited_by, asked_more, asked_end, open_stays_open, synced_more, follows_open, asked_base_more, awaited_more, follows_base_grows}
use Rattle.stage_parts.proofs.Gathering.{gathering_law}

-- The application

abbrev pub app_steps : List AppLine → List AppStep
app_steps lines = map (λ l. l.step) lines

-- the steps left of a longer section
pub app_left : (lines more : List AppLine) (at : ℕ) → at ≤ length lines →
    drop at (app_steps (lines ++ more)) ≡ drop at (app_steps lines) ++ app_steps more
app_left lines more at within =
    let long = length-map lines (λ (l : AppLine). l.step) in
    ap (drop at) (map-append (λ (l : AppLine). l.step) lines more)
    ∙ drop-append-le at (app_steps lines) (app_steps more) (omega (arith, within, long))

still_open : (g : Setup) (a : AppState) → a.closed ≡ false → still_asked g a ≡ asked_from a.need a.synced (drop a.at (app_steps g.lines))
still_open g a closed = ap (λ t. cond t [] (asked_from a.need a.synced (drop a.at (app_steps g.lines)))) closed

pub stands_more : (lines more : List AppLine) (a : AppState) → StandsInApp lines a → StandsInApp (lines ++ more) a
stands_more lines more a stands =
    let long = length-append lines more in
    record {
      within = omega (arith, stands.within, long);
      synced =
          ap (synced_by a.synced) (app_left lines more a.at stands.within)
          ∙ synced_more a.synced (drop a.at (app_steps lines)) (app_steps more)
          ∙ ap (λ (t : Bool). synced_by t (app_steps more)) stands.synced
          ∙ sym (synced_more false (app_steps lines) (app_steps more))
          ∙ ap (synced_by false) (sym (map-append (λ (l : AppLine). l.step) lines more));
    }

follows_grown : (g : Setup) (seat : ℕ) (a : AppState) (log : Log) (taken sent : List Packet) (stream : List ℕ) (more : List AppLine)
    (merges : ℕ) → a.closed ≡ false → StandsInApp g.lines a → AppKeeps g seat a log taken sent stream →
    Follows g.ahead merges (asked_app (g.lines ++ more)) (turns_at g.channels seat App log) (still_asked (with_lines g more merges) a)
follows_grown g seat a log taken sent stream more merges closed stands keeps =
    let steps = app_steps g.lines in
    let rest = drop a.at steps in
    let turns = turns_at g.channels seat App log in
    let end = ask (waited_by 0 steps) WantClose in
    let end_left = ask (waited_by a.need rest) WantClose in
    let behind = asked_from (waited_by 0 steps) (synced_by false steps) (app_steps more) in
    let before : Follows g.ahead g.merges (open_from 0 false steps ++ end ∷ []) turns (open_from a.need a.synced rest ++ end_left ∷ []) =
    subst (λ (left : List Ask). Follows g.ahead g.merges (open_from 0 false steps ++ end ∷ []) turns left)
    (still_open g a closed ∙ asked_end a.need a.synced rest)
    (subst (λ (asks : List Ask). Follows g.ahead g.merges asks turns (still_asked g a)) (asked_end 0 false steps) keeps.follows) in
    let on =
    follows_open g.ahead g.merges merges (open_from 0 false steps) (open_from a.need a.synced rest) behind end end_left turns
    (open_stays_open 0 false steps) before in
    let asked : asked_app (g.lines ++ more) ≡ open_from 0 false steps ++ behind =
    ap (asked_from 0 false) (map-append (λ (l : AppLine). l.step) g.lines more) ∙ asked_more 0 false steps (app_steps more) in
    let left : still_asked (with_lines g more merges) a ≡ open_from a.need a.synced rest ++ behind =
    still_open (with_lines g more merges) a closed
    ∙ ap (asked_from a.need a.synced) (app_left g.lines more a.at stands.within)
    ∙ asked_more a.need a.synced rest (app_steps more)
    ∙ ap (λ (n : ℕ). open_from a.need a.synced rest ++ asked_from n (synced_by a.synced rest) (app_steps more))
    (sym (ap (λ (x : Ask). x.need) on.lasts))
    ∙ ap (λ (t : Bool). open_from a.need a.synced rest ++ asked_from (waited_by 0 steps) t (app_steps more)) stands.synced in
    subst (λ (asks : List Ask). Follows g.ahead merges asks turns (still_asked (with_lines g more merges) a)) (sym asked)
    (subst (λ (rest : List Ask). Follows g.ahead merges (open_from 0 false steps ++ behind) turns rest) (sym left) on.follows)

pub app_grows_law : AppGrowsLaw
app_grows_law g seat a log taken sent stream more merges closed stands keeps =
    let part = keeps.part in
    let streams = keeps.streams in
    record {
      keeps = record {
        follows = follows_grown g seat a log taken sent stream more merges closed stands keeps;
        part = record {
          cuts = part.cuts;
          ends = part.ends;
          ready = part.ready;
          ended = part.ended;
          frames = part.frames;
          few = part.few;
          fresh = part.fresh;
          late = part.late;
        };
        streams = record {
          bytes = streams.bytes;
          all = streams.all;
          retired = streams.retired;
          begun = streams.begun;
          in_flight = streams.in_flight;
          numbers = streams.numbers;
        };
        loads = record { all = keeps.loads.all };
      };
      stands = stands_more g.lines more a stands;
    }

-- The database process

abbrev pub base_steps : List BaseLine → List BaseStep
base_steps lines = map (λ l. l.step) lines

pub base_left : (lines more : List BaseLine) (at : ℕ) → at ≤ length lines →
    drop at (base_steps (lines ++ more)) ≡ drop at (base_steps lines) ++ base_steps more
base_left lines more at within =
    let long = length-map lines (λ (l : BaseLine). l.step) in
    ap (drop at) (map-append (λ (l : BaseLine). l.step) lines more)
    ∙ drop-append-le at (base_steps lines) (base_steps more) (omega (arith, within, long))

pub base_passed : (lines more : List BaseLine) (at : ℕ) → at ≤ length lines →
    take at (base_steps (lines ++ more)) ≡ take at (base_steps lines)
base_passed lines more at within =
    let long = length-map lines (λ (l : BaseLine). l.step) in
    ap (take at) (map-append (λ (l : BaseLine). l.step) lines more)
    ∙ take-append-le at (base_steps lines) (base_steps more) (omega (arith, within, long))

pub stands_base_more : (lines more : List BaseLine) (d : DbaseState) → StandsInDbase lines d → StandsInDbase (lines ++ more) d
stands_base_more lines more d stands =
    let long = length-append lines more in
    record {
      within = omega (arith, stands.within, long);
      awaited =
          ap (awaited_by d.need) (base_left lines more d.at stands.within)
          ∙ awaited_more d.need (drop d.at (base_steps lines)) (base_steps more)
          ∙ ap (λ (n : ℕ). awaited_by n (base_steps more)) stands.awaited
          ∙ sym (awaited_more 0 (base_steps lines) (base_steps more))
          ∙ ap (awaited_by 0) (sym (map-append (λ (l : BaseLine). l.step) lines more));
    }

follows_base_grown : (lines more : List BaseLine) (channels seat : ℕ) (d : DbaseState) (log : Log) → StandsInDbase lines d →
    DbaseKeeps lines channels seat d log →
    FollowsBase (asked_dbase (lines ++ more)) (turns_at channels seat Dbase log) (still_asked_dbase (lines ++ more) d)
follows_base_grown lines more channels seat d log stands keeps =
    let steps = base_steps lines in
    let rest = drop d.at steps in
    let front = steps_since (take d.at steps) in
    let turns = turns_at channels seat Dbase log in
    let behind = asked_base_from (awaited_by 0 steps) (steps_since steps) (base_steps more) in
    let asked : asked_dbase (lines ++ more) ≡ asked_dbase lines ++ behind =
    ap (asked_base_from 0 []) (map-append (λ (l : BaseLine). l.step) lines more) ∙ asked_base_more 0 [] steps (base_steps more) in
    let whole : fold since_step front rest ≡ steps_since steps =
    sym (fold-append since_step [] (take d.at steps) rest) ∙ ap steps_since (take-append-drop d.at steps) in
    let left : still_asked_dbase (lines ++ more) d ≡ still_asked_dbase lines d ++ behind =
    ap (λ (xs : List BaseStep). asked_base_from d.need (steps_since xs) (drop d.at (base_steps (lines ++ more))))
    (base_passed lines more d.at stands.within)
    ∙ ap (asked_base_from d.need front) (base_left lines more d.at stands.within)
    ∙ asked_base_more d.need front rest (base_steps more)
    ∙ ap (λ (n : ℕ). still_asked_dbase lines d ++ asked_base_from n (fold since_step front rest) (base_steps more)) stands.awaited
    ∙ ap (λ (since : List BaseStep). still_asked_dbase lines d ++ asked_base_from (awaited_by 0 steps) since (base_steps more)) whole in
    subst (λ (asks : List BaseAsk). FollowsBase asks turns (still_asked_dbase (lines ++ more) d)) (sym asked)
    (subst (λ (xs : List BaseAsk). FollowsBase (asked_dbase lines ++ behind) turns xs) (sym left)
    (follows_base_grows (asked_dbase lines) (still_asked_dbase lines d) behind turns keeps.follows))

pub dbase_grows_law : DbaseGrowsLaw
dbase_grows_law lines more channels seat d log stands keeps =
    record {
      keeps = record {
        follows = follows_base_grown lines more channels seat d log stands keeps;
        part = record {
          buffer = keeps.part.buffer
              ∙ ap (λ (xs : List BaseStep). buffer_after (steps_since xs)) (sym (base_passed lines more d.at stands.within));
        };
      };
      stands = stands_base_more lines more d stands;
    }

-- The pipe

pub pipe_grows_law : PipeGrowsLaw
pipe_grows_law g dbase seats s more more_dbase closed in_app in_dbase fits =
    let is = (gathering_law g dbase seats s).gathered fits in
    let merges = length (asked_dbase (dbase ++ more_dbase)) in
    let app = app_grows_law g seats.app s.app s.log s.c.taken s.a.sent s.stream more merges closed in_app is.app in
    let base = dbase_grows_law dbase more_dbase g.channels seats.dbase s.dbase s.log in_dbase is.base in
    let grown : IsGathered (with_lines g more merges) (dbase ++ more_dbase) seats s =
    record {
      merges = refl;
      legal = is.legal;
      app_entries = is.app_entries;
      dbase_entries = is.dbase_entries;
      link_a = is.link_a;
      link_b = is.link_b;
      link_c = is.link_c;
      app = app.keeps;
      cull = is.cull;
      draw = is.draw;
      base = base.keeps;
    } in
    record {
      fits = (gathering_law (with_lines g more merges) (dbase ++ more_dbase) seats s).fits grown;
      in_app = app.stands;
      in_dbase = base.stands;
    }
