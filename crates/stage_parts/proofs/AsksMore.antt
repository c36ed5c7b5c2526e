-- What longer sections ask for.
use Rattle.std.proofs.Common.{◌≡◌, ℕ, max, Bool, true, false, List, [], ◌∷◌, ◌++◌, refl, sym, ap, ◌∙◌}
use Rattle.std.proofs.lemmas.List.{append-nil}
use Rattle.std.specs.List.{AllByRecursion, fold}
use Rattle.pf_model.specs.declared.lines.AppStep.{AppStep}
use Rattle.pf_model.specs.declared.lines.AppStep.TheVariants as app
use Rattle.pf_model.specs.declared.lines.BaseStep.{BaseStep}
use Rattle.pf_model.specs.declared.lines.BaseStep.TheVariants as base
use Rattle.pf_model.specs.Merges.{buffer_after}
use Rattle.pf_history.specs.declared.commands.Command.{Command}
use Rattle.pf_history.specs.declared.commands.Command.TheVariants as command
use Rattle.pf_history.specs.Objects.{FrameState}
use Rattle.pf_history.specs.Asks.{Wanted, WantEdit, WantView, WantSync, WantFrame, WantClose, Ask, BaseAsk, merge_of, asked_from, asked_base_from, Turn, Meets, Follows, FollowsBase}
use Rattle.stage_parts.specs.States.{since_step}
use Rattle.stage_parts.specs.Grows.{synced_by, awaited_by}

-- The application

abbrev pub ask : ℕ → Wanted → Ask
ask need wanted = record { need = need; wanted = wanted }

-- what steps ask for, without the closing Sync
abbrev pub open_from : ℕ → Bool → List AppStep → List Ask
open_from need synced [] = []
open_from need synced (app.Edit e ∷ steps) = ask need (WantEdit e) ∷ open_from need synced steps
open_from need synced (app.View channel v ∷ steps) = ask need (WantView channel v) ∷ open_from need synced steps
open_from need synced (app.Sync ∷ steps) = ask need WantSync ∷ open_from need true steps
open_from need true (app.Frame ∷ steps) = ask need WantFrame ∷ open_from need false steps
open_from need false (app.Frame ∷ steps) = ask need WantSync ∷ ask need WantFrame ∷ open_from need false steps
open_from need synced (app.Wait n ∷ steps) = open_from (max need n) synced steps

-- the greatest wait behind these steps
abbrev pub waited_by : ℕ → List AppStep → ℕ
waited_by need [] = need
waited_by need (app.Edit e ∷ steps) = waited_by need steps
waited_by need (app.View channel v ∷ steps) = waited_by need steps
waited_by need (app.Sync ∷ steps) = waited_by need steps
waited_by need (app.Frame ∷ steps) = waited_by need steps
waited_by need (app.Wait n ∷ steps) = waited_by (max need n) steps

pub asked_more : (need : ℕ) (synced : Bool) (steps more : List AppStep) →
    asked_from need synced (steps ++ more)
    ≡ open_from need synced steps ++ asked_from (waited_by need steps) (synced_by synced steps) more
asked_more need synced [] more = refl
asked_more need synced (app.Edit e ∷ steps) more = ap (λ (xs : List Ask). ask need (WantEdit e) ∷ xs) (asked_more need synced steps more)
asked_more need synced (app.View channel v ∷ steps) more =
    ap (λ (xs : List Ask). ask need (WantView channel v) ∷ xs) (asked_more need synced steps more)
asked_more need synced (app.Sync ∷ steps) more = ap (λ (xs : List Ask). ask need WantSync ∷ xs) (asked_more need true steps more)
asked_more need true (app.Frame ∷ steps) more = ap (λ (xs : List Ask). ask need WantFrame ∷ xs) (asked_more need false steps more)
asked_more need false (app.Frame ∷ steps) more =
    ap (λ (xs : List Ask). ask need WantSync ∷ ask need WantFrame ∷ xs) (asked_more need false steps more)
asked_more need synced (app.Wait n ∷ steps) more = asked_more (max need n) synced steps more

pub asked_end : (need : ℕ) (synced : Bool) (steps : List AppStep) →
    asked_from need synced steps ≡ open_from need synced steps ++ ask (waited_by need steps) WantClose ∷ []
asked_end need synced steps = ap (asked_from need synced) (sym (append-nil steps)) ∙ asked_more need synced steps []

abbrev pub is_close : Wanted → Bool
is_close (WantEdit e) = false
is_close (WantView channel v) = false
is_close WantSync = false
is_close WantFrame = false
is_close WantClose = true

abbrev pub IsOpen : List Ask → Type 0
IsOpen asks = AllByRecursion (λ a. is_close a.wanted ≡ false) asks

pub open_stays_open : (need : ℕ) (synced : Bool) (steps : List AppStep) → IsOpen (open_from need synced steps)
open_stays_open need synced [] = tt
open_stays_open need synced (app.Edit e ∷ steps) = (refl, open_stays_open need synced steps)
open_stays_open need synced (app.View channel v ∷ steps) = (refl, open_stays_open need synced steps)
open_stays_open need synced (app.Sync ∷ steps) = (refl, open_stays_open need true steps)
open_stays_open need true (app.Frame ∷ steps) = (refl, open_stays_open need false steps)
open_stays_open need false (app.Frame ∷ steps) = (refl, (refl, open_stays_open need false steps))
open_stays_open need synced (app.Wait n ∷ steps) = open_stays_open (max need n) synced steps

pub synced_more : (synced : Bool) (steps more : List AppStep) → synced_by synced (steps ++ more) ≡ synced_by (synced_by synced steps) more
synced_more synced [] more = refl
synced_more synced (app.Edit e ∷ steps) more = synced_more synced steps more
synced_more synced (app.View channel v ∷ steps) more = synced_more synced steps more
synced_more synced (app.Sync ∷ steps) more = synced_more true steps more
synced_more synced (app.Frame ∷ steps) more = synced_more false steps more
synced_more synced (app.Wait n ∷ steps) more = synced_more synced steps more

-- but for the closing Sync, an ask is met whatever number of merges the play has
meets_anew : (ahead merges later : ℕ) (w : Wanted) (s : FrameState) (c : Command) → is_close w ≡ false →
    Meets ahead merges w s c → Meets ahead later w s c
meets_anew ahead merges later (WantEdit e) s c other h = h
meets_anew ahead merges later (WantView channel v) s c other h = h
meets_anew ahead merges later WantSync s (command.Sync r) other h = h
meets_anew ahead merges later WantSync s (command.Edit e) other h = absurd h
meets_anew ahead merges later WantSync s (command.Merge m) other h = absurd h
meets_anew ahead merges later WantSync s (command.View channel v) other h = absurd h
meets_anew ahead merges later WantSync s command.Frame other h = absurd h
meets_anew ahead merges later WantFrame s command.Frame other h = h
meets_anew ahead merges later WantFrame s (command.Sync r) other h = absurd h
meets_anew ahead merges later WantFrame s (command.Edit e) other h = absurd h
meets_anew ahead merges later WantFrame s (command.Merge m) other h = absurd h
meets_anew ahead merges later WantFrame s (command.View channel v) other h = absurd h
meets_anew ahead merges later WantClose s c other h = absurd (cc)

-- Lists that have the same last element and the same front.
pub record HasSameEnds {X : Type 0} (xs ys : List X) (x y : X) : Type 0 where
  pub fronts : xs ≡ ys
  pub lasts : x ≡ y

pub same_ends : {X : Type 0} (xs ys : List X) (x y : X) → xs ++ x ∷ [] ≡ ys ++ y ∷ [] → HasSameEnds xs ys x y
same_ends [] [] x y same = record { fronts = refl; lasts = cc }
same_ends [] (v ∷ []) x y same = absurd (cc)
same_ends [] (v ∷ w ∷ ys) x y same = absurd (cc)
same_ends (u ∷ []) [] x y same = absurd (cc)
same_ends (u ∷ w ∷ xs) [] x y same = absurd (cc)
same_ends (u ∷ xs) (v ∷ ys) x y same =
    let rest : xs ++ x ∷ [] ≡ ys ++ y ∷ [] = cc in
    let ends = same_ends xs ys x y rest in
    let first : u ≡ v = cc in
    record { fronts = ap (λ z. z ∷ xs) first ∙ ap (λ zs. v ∷ zs) ends.fronts; lasts = ends.lasts }

-- What follows asks that do not close follows longer ones, whatever number of merges the play has; and the last ask is
-- still asked.
pub record FollowsOn (ahead merges : ℕ) (asks more left : List Ask) (last last_left : Ask) (ts : List Turn) : Type 0 where
  pub follows : Follows ahead merges (asks ++ more) ts (left ++ more)
  pub lasts : last ≡ last_left

pub follows_open : (ahead merges later : ℕ) (asks left more : List Ask) (last last_left : Ask) (ts : List Turn) → IsOpen asks →
    Follows ahead merges (asks ++ last ∷ []) ts (left ++ last_left ∷ []) →
    FollowsOn ahead later asks more left last last_left ts
follows_open ahead merges later asks left more last last_left [] others h =
    let ends = same_ends asks left last last_left h in
    record { follows = ap (λ (xs : List Ask). xs ++ more) ends.fronts; lasts = ends.lasts }
follows_open ahead merges later [] [] more last last_left (t ∷ []) others h = absurd (let none : [] ≡ last_left ∷ [] = h.2 in cc)
follows_open ahead merges later [] (a ∷ left) more last last_left (t ∷ []) others h =
    absurd (let none : [] ≡ a ∷ (left ++ last_left ∷ []) = h.2 in cc)
follows_open ahead merges later [] left more last last_left (t ∷ u ∷ ts) others h = absurd h.2
follows_open ahead merges later (a ∷ asks) left more last last_left (t ∷ ts) others h =
    let rest = follows_open ahead merges later asks left more last last_left ts others.1 h.2 in
    record {
      follows = (meets_anew ahead merges later a.wanted t.found t.made others.0 h.0, h.1, rest.follows);
      lasts = rest.lasts;
    }

-- The database process

pub asked_base_more : (need : ℕ) (since steps more : List BaseStep) →
    asked_base_from need since (steps ++ more)
    ≡ asked_base_from need since steps ++ asked_base_from (awaited_by need steps) (fold since_step since steps) more
asked_base_more need since [] more = refl
asked_base_more need since (base.Buffer ∷ steps) more = asked_base_more need [] steps more
asked_base_more need since (base.Edit e ∷ steps) more = asked_base_more need (since ++ base.Edit e ∷ []) steps more
asked_base_more need since (base.Ask e ∷ steps) more = asked_base_more need (since ++ base.Ask e ∷ []) steps more
asked_base_more need since (base.Merge ∷ steps) more =
    ap (λ (xs : List BaseAsk). record { need = need; merge = merge_of (buffer_after since) } ∷ xs) (asked_base_more need [] steps more)
asked_base_more need since (base.Await n ∷ steps) more = asked_base_more (max need n) since steps more

pub awaited_more : (need : ℕ) (steps more : List BaseStep) → awaited_by need (steps ++ more) ≡ awaited_by (awaited_by need steps) more
awaited_more need [] more = refl
awaited_more need (base.Buffer ∷ steps) more = awaited_more need steps more
awaited_more need (base.Edit e ∷ steps) more = awaited_more need steps more
awaited_more need (base.Ask e ∷ steps) more = awaited_more need steps more
awaited_more need (base.Merge ∷ steps) more = awaited_more need steps more
awaited_more need (base.Await n ∷ steps) more = awaited_more (max need n) steps more

pub follows_base_grows : (asks left more : List BaseAsk) (ts : List Turn) → FollowsBase asks ts left →
    FollowsBase (asks ++ more) ts (left ++ more)
follows_base_grows asks left more [] h = ap (λ (xs : List BaseAsk). xs ++ more) h
follows_base_grows [] left more (t ∷ ts) h = absurd h
follows_base_grows (a ∷ asks) left more (t ∷ ts) h = (h.0, h.1, follows_base_grows asks left more ts h.2)
