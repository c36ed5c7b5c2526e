-- The states that the Frames of a history found.
use Rattle.std.proofs.Common.{◌≡◌, ℕ, zero, suc, ◌+◌, Bool, true, false, cond, ◌&&◌, ◌==◌, List, [], ◌∷◌, map, length, take, slice_get, Some, refl, sym, ap, ◌∙◌, subst, eq-eqb}
use Rattle.std.proofs.lemmas.List.{length-set, length-replicate}
use Rattle.std.proofs.lemmas.Option.{same_Some}
use Rattle.std.specs.List.{AllByRecursion}
use Rattle.pf_model.specs.Angles.{home_view}
use Rattle.pf_model.specs.Limits.{IsGraphWithinLimits}
use Rattle.pf_model.specs.Copies.{put_all}
use Rattle.pf_history.specs.declared.commands.Caller.{Caller}
use Rattle.pf_history.specs.declared.commands.Caller.TheVariants.{App}
use Rattle.pf_history.specs.declared.commands.Command.{Command}
use Rattle.pf_history.specs.declared.commands.Command.TheVariants as command
use Rattle.pf_history.specs.declared.commands.Entry.{Entry}
use Rattle.pf_history.specs.Commands.{is_frame, caller_of, command_fits}
use Rattle.pf_history.specs.Objects.{FrameState, opening_state, next_state}
use Rattle.pf_history.specs.Logs.{Log, state_after, IsLegalFrom, is_caller, is_by}
use Rattle.pf_history.specs.Asks.{is_at}
use Rattle.pf_history.specs.Cuts.{names, Cutting, cuttings, found_by_frames, marks_after}
use Rattle.pf_history.proofs.Folds.{preparation_law}
use Rattle.pf_history.proofs.Reach.{limits_law}
use Rattle.stage_parts.specs.Frames.{frames_from}
use Rattle.stage_parts.specs.Laws.{HasEditsInRange}
use Rattle.stage_parts.proofs.Places.{all_take}

pub frame_by_app : (caller : Caller) (c : Command) → caller ≡ caller_of c → is_frame c ≡ true → is_caller App caller ≡ true
frame_by_app caller (command.Edit e) same is = absurd (cc)
frame_by_app caller (command.Merge m) same is = absurd (cc)
frame_by_app caller (command.View channel v) same is = absurd (cc)
frame_by_app caller (command.Sync r) same is = absurd (cc)
frame_by_app caller command.Frame same is = ap (is_caller App) same

pub both : (a b : Bool) → a ≡ true → b ≡ true → (a && b) ≡ true
both true b one other = other
both false b one other = absurd (cc)

-- where the application's entries have one number, the Frames of that number are all Frames
pub frames_are_all : (seat : ℕ) (ids : List ℕ) (s : FrameState) (log : Log) → IsLegalFrom s log →
    AllByRecursion (λ e. is_by App e ≡ true → e.0 ≡ seat) log → frames_from seat ids s log ≡ cuttings ids s log
frames_are_all seat ids s [] legal only = refl
frames_are_all seat ids s (e ∷ es) legal only =
    by (is_frame e.1.command) (is_at seat App e)
    (λ is.
    let app = frame_by_app e.1.caller e.1.command legal.0.caller is in
    both (e.0 == seat) (is_by App e) (eq-eqb e.0 seat (only.0 app)) app)
    refl
    (frames_are_all seat (marks_after ids s e.1.command) (next_state s e.1.command) es legal.1 only.1)
  where
    here : Cutting
    here = record { ids = ids; found = s }

    rest : List Cutting
    rest = frames_from seat (marks_after ids s e.1.command) (next_state s e.1.command) es

    by : (t u : Bool) → (is_frame e.1.command ≡ true → u ≡ true) → is_frame e.1.command ≡ t →
        rest ≡ cuttings (cond t [] (put_all (names s e.1.command) ids)) (next_state s e.1.command) es →
        cond (t && u) (here ∷ rest) rest
        ≡ cond t (here ∷ cuttings [] (next_state s e.1.command) es)
        (cuttings (put_all (names s e.1.command) ids) (next_state s e.1.command) es)
    by true true own is same = ap (λ cs. here ∷ cs) same
    by true false own is same = absurd (let is_own = own is in cc)
    by false u own is same = same

-- A state that a front of a log reaches.
record IsReached (s : FrameState) (log : Log) (x : FrameState) : Type 0 where
  pub many : ℕ
  pub same : x ≡ state_after s (take many log)

reached_later : (s : FrameState) (e : ℕ × Entry) (es : Log) (x : FrameState) → IsReached (next_state s e.1.command) es x →
    IsReached s (e ∷ es) x
reached_later s e es x r = record { many = suc r.many; same = r.same }

found_reached : (ids : List ℕ) (s : FrameState) (log : Log) (k : ℕ) (x : FrameState) →
    slice_get (map (λ c. c.found) (cuttings ids s log)) k ≡ Some x → IsReached s log x
found_reached ids s [] k x at = absurd (cc)
found_reached ids s (e ∷ es) k x at =
    by (is_frame e.1.command) k
    (λ j found. found_reached [] (next_state s e.1.command) es j x found)
    (λ j found. found_reached (put_all (names s e.1.command) ids) (next_state s e.1.command) es j x found)
    at
  where
    framed : List Cutting
    framed = cuttings [] (next_state s e.1.command) es

    later : List Cutting
    later = cuttings (put_all (names s e.1.command) ids) (next_state s e.1.command) es

    by : (t : Bool) (k : ℕ) →
        ((j : ℕ) → slice_get (map (λ (c : Cutting). c.found) framed) j ≡ Some x → IsReached (next_state s e.1.command) es x) →
        ((j : ℕ) → slice_get (map (λ (c : Cutting). c.found) later) j ≡ Some x → IsReached (next_state s e.1.command) es x) →
        slice_get (map (λ (c : Cutting). c.found) (cond t (record { ids = ids; found = s } ∷ framed) later)) k ≡ Some x →
        IsReached s (e ∷ es) x
    by true zero first other at = record { many = 0; same = sym (same_Some s x at) }
    by true (suc k) first other at = reached_later s e es x (first k at)
    by false k first other at = reached_later s e es x (other k at)

-- a command keeps the number of views
views_kept : (s : FrameState) (c : Command) → length (next_state s c).views ≡ length s.views
views_kept s (command.Edit e) = refl
views_kept s (command.Merge m) = refl
views_kept s (command.View channel v) = length-set s.views channel v
views_kept s (command.Sync r) = refl
views_kept s command.Frame = refl

views_kept_by : (s : FrameState) (log : Log) → length (state_after s log).views ≡ length s.views
views_kept_by s [] = refl
views_kept_by s (e ∷ es) = views_kept_by (next_state s e.1.command) es ∙ views_kept s e.1.command

-- What a Frame found: a graph within the limits, in preparation for the frame, and a view for each channel.
pub record IsFound (channels : ℕ) (x : FrameState) : Type 0 where
  pub limits : IsGraphWithinLimits x.graph
  pub time : x.graph.time ≡ x.frames + 1
  pub views : length x.views ≡ channels

pub frames_found : (channels : ℕ) (log : Log) → HasEditsInRange log → (k : ℕ) (x : FrameState) →
    slice_get (found_by_frames channels log) k ≡ Some x → IsFound channels x
frames_found channels log fit k x at =
    let r = found_reached [] (opening_state channels) log k x at in
    subst (IsFound channels) (sym r.same)
    (record {
      limits = limits_law channels (take r.many log) (all_take (λ (e : ℕ × Entry). command_fits e.1.command ≡ true) r.many log fit);
      time = preparation_law channels (take r.many log);
      views = views_kept_by (opening_state channels) (take r.many log) ∙ length-replicate channels home_view;
    })
