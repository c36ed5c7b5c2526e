-- What DBASE keeps goes on; the next line of a section; and the states before the first step.
use Rattle.std.proofs.Common.{◌≡◌, ℕ, zero, suc, ◌≤◌, true, false, cond, List, [], ◌∷◌, ◌++◌, map, take, drop, slice_get, Some, None, refl, sym, ap, ◌∙◌, subst, arith, add-one}
use Rattle.std.proofs.lemmas.List.{append-nil, drop_all, length-map}
use Rattle.std.proofs.lemmas.Option.{same_Some}
use Rattle.std.specs.List.{AllByRecursion, fold}
use Rattle.pf_model.specs.declared.lines.AppLine.{AppLine}
use Rattle.pf_model.specs.declared.lines.BaseLine.{BaseLine}
use Rattle.pf_model.specs.declared.lines.BaseStep.{BaseStep}
use Rattle.pf_model.specs.Merges.{buffer_after}
use Rattle.pf_history.specs.declared.commands.Caller.TheVariants.{Dbase}
use Rattle.pf_history.specs.declared.commands.Command.TheVariants as command
use Rattle.pf_history.specs.declared.commands.Entry.{Entry}
use Rattle.pf_history.specs.Objects.{opening_state}
use Rattle.pf_history.specs.Logs.{Log, state_of}
use Rattle.pf_history.specs.Asks.{BaseAsk, Turn, asked_dbase, asked_from, asked_base_from, is_at, FollowsBase}
use Rattle.pf_history.specs.Fits.{turns_at}
use Rattle.pf_history.proofs.Fitting.{follows_base_more}
use Rattle.pf_history.proofs.Turns.{turns_append, turns_none}
use Rattle.stage_parts.specs.States.{DbaseState, still_asked, still_asked_dbase, in_buffer, since_step, steps_since}
use Rattle.stage_parts.specs.Parts.{DbaseKeeps}
use Rattle.stage_parts.specs.DbaseSteps.{DbaseLaw, IsNextLine, LinesLaw, OpeningLaw}
use Rattle.stage_parts.proofs.Places.{get_map}

stays : (lines : List BaseLine) (channels seat : ℕ) (d : DbaseState) (log : Log) → DbaseKeeps lines channels seat d log →
    (more : Log) → AllByRecursion (λ e. is_at seat Dbase e ≡ false) more → DbaseKeeps lines channels seat d (log ++ more)
stays lines channels seat d log keeps more others =
    let same : turns_at channels seat Dbase (log ++ more) ≡ turns_at channels seat Dbase log =
    turns_append (is_at seat Dbase) (opening_state channels) log more
    ∙ ap (λ (ts : List Turn). turns_at channels seat Dbase log ++ ts) (turns_none (is_at seat Dbase) (state_of channels log) more others)
    ∙ append-nil (turns_at channels seat Dbase log) in
    record {
      follows = subst (λ (ts : List Turn). FollowsBase (asked_dbase lines) ts (still_asked_dbase lines d)) (sym same) keeps.follows;
      part = keeps.part;
    }

merges : (lines : List BaseLine) (channels seat : ℕ) (d : DbaseState) (log : Log) → DbaseKeeps lines channels seat d log →
    (e : ℕ × Entry) (ask : BaseAsk) (next : DbaseState) → is_at seat Dbase e ≡ true →
    still_asked_dbase lines d ≡ ask ∷ still_asked_dbase lines next → e.1.command ≡ command.Merge ask.merge →
    ask.need ≤ (state_of channels log).frames → next.buffer ≡ buffer_after (in_buffer lines next) →
    DbaseKeeps lines channels seat next (log ++ e ∷ [])
merges lines channels seat d log keeps e ask next own asks made awaited buffer =
    let turns = turns_at channels seat Dbase log in
    let turn : Turn = record { found = state_of channels log; made = e.1.command } in
    let grown : turns_at channels seat Dbase (log ++ e ∷ []) ≡ turns ++ turn ∷ [] =
    turns_append (is_at seat Dbase) (opening_state channels) log (e ∷ []) ∙ ap (λ t. turns ++ cond t (turn ∷ []) []) own in
    record {
      follows =
          subst (λ (ts : List Turn). FollowsBase (asked_dbase lines) ts (still_asked_dbase lines next)) (sym grown)
          (follows_base_more (asked_dbase lines) turns ask (still_asked_dbase lines next) turn
          (subst (λ (left : List BaseAsk). FollowsBase (asked_dbase lines) turns left) asks keeps.follows) made awaited);
      part = record { buffer = buffer };
    }

pub dbase_law : DbaseLaw
dbase_law lines channels seat d log keeps =
    record {
      stays = stays lines channels seat d log keeps;
      passes = λ next asks buffer.
          record {
            follows =
                subst (λ (left : List BaseAsk). FollowsBase (asked_dbase lines) (turns_at channels seat Dbase log) left)
                (sym asks) keeps.follows;
            part = record { buffer = buffer };
          };
      merges = merges lines channels seat d log keeps;
    }

-- Lines

pub drop_get : {X : Type 0} (xs : List X) (i : ℕ) (x : X) → slice_get xs i ≡ Some x → drop i xs ≡ x ∷ drop (suc i) xs
drop_get [] i x at = absurd (cc)
drop_get (y ∷ xs) zero x at = ap (λ z. z ∷ xs) (same_Some y x at)
drop_get (y ∷ xs) (suc i) x at = drop_get xs i x at

pub take_get : {X : Type 0} (xs : List X) (i : ℕ) (x : X) → slice_get xs i ≡ Some x → take (suc i) xs ≡ take i xs ++ x ∷ []
take_get [] i x at = absurd (cc)
take_get (y ∷ xs) zero x at = ap (λ z. z ∷ []) (same_Some y x at)
take_get (y ∷ xs) (suc i) x at = ap (λ zs. y ∷ zs) (take_get xs i x at)

since_push : (since steps : List BaseStep) (s : BaseStep) →
    fold since_step since (steps ++ s ∷ []) ≡ since_step (fold since_step since steps) s
since_push since [] s = refl
since_push since (r ∷ steps) s = since_push (since_step since r) steps s

next_base : (lines : List BaseLine) (d : DbaseState) (l : BaseLine) → slice_get lines d.at ≡ Some l → IsNextLine lines d l
next_base lines d l at =
    let steps = map (λ (x : BaseLine). x.step) lines in
    let there = get_map (λ (x : BaseLine). x.step) lines d.at l at in
    record {
      asks = ap (asked_base_from d.need (in_buffer lines d)) (drop_get steps d.at l.step there
          ∙ ap (λ n. l.step ∷ drop n steps) (sym (add-one d.at)));
      buffer = λ need buffer.
          ap (λ n. steps_since (take n steps)) (add-one d.at) ∙ ap steps_since (take_get steps d.at l.step there)
          ∙ since_push [] (take d.at steps) l.step;
    }

pub lines_law : LinesLaw
lines_law g a lines d =
    let app_steps = map (λ (x : AppLine). x.step) g.lines in
    let base_steps = map (λ (x : BaseLine). x.step) lines in
    let running : a.closed ≡ false → still_asked g a ≡ asked_from a.need a.synced (drop a.at app_steps) =
    λ closed. ap (λ t. cond t [] (asked_from a.need a.synced (drop a.at app_steps))) closed in
    record {
      app = λ l closed at.
          running closed
          ∙ ap (asked_from a.need a.synced)
          (drop_get app_steps a.at l.step (get_map (λ (x : AppLine). x.step) g.lines a.at l at)
          ∙ ap (λ n. l.step ∷ drop n app_steps) (sym (add-one a.at)));
      app_end = λ closed past.
          let long = length-map g.lines (λ (x : AppLine). x.step) in
          running closed ∙ ap (asked_from a.need a.synced) (drop_all a.at app_steps (omega (arith, past, long)));
      dbase = next_base lines d;
      dbase_end = λ past.
          let long = length-map lines (λ (x : BaseLine). x.step) in
          ap (asked_base_from d.need (in_buffer lines d)) (drop_all d.at base_steps (omega (arith, past, long)));
    }

-- Before the first step

pub opening_law : OpeningLaw
opening_law g dbase seats loads merges all =
    record {
      merges = merges;
      legal = tt;
      app_entries = λ i e at. absurd (let none : None ≡ Some e = at in cc);
      dbase_entries = λ i e at. absurd (let none : None ≡ Some e = at in cc);
      link_a = record { front = refl };
      link_b = record { front = refl };
      link_c = record { front = refl };
      app = record {
        follows = refl;
        part = record {
          cuts = refl;
          ends = refl;
          ready = λ i l at. absurd (let none : None ≡ Some l = at in cc);
          ended = refl;
          frames = refl;
          few = omega arith;
          fresh = λ synced. absurd (cc);
          late = λ closed. refl;
        };
        streams = record {
          bytes = refl;
          all = omega arith;
          retired = omega arith;
          begun = omega arith;
          in_flight = omega arith;
          numbers =
              refl;
        };
        loads = record { all = omega (arith, all) };
      };
      cull = record {
        loads = refl;
        ends = refl;
        copy = refl;
        ended = refl;
        culled = λ i old new at_old at_new can. absurd (let none : None ≡ Some old = at_old in cc);
      };
      draw = record {
        loads = refl;
        ends = refl;
        ended = refl;
        painted = λ i old new at_old at_new images. absurd (let none : None ≡ Some old = at_old in cc);
      };
      base = record { follows = refl; part = record { buffer = refl } };
    }
