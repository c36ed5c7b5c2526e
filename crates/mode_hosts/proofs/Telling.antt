-- A turn of the application in which entries are told.
use Rattle.std.proofs.Common.{◌≡◌, ℕ, ◌+◌, ◌≤◌, Bool, true, false, eqb, List, [], ◌++◌, take, drop, length, Option, None, refl, sym, ap, ◌∙◌, subst, arith}
use Rattle.std.proofs.Math.Nat.{min-le_left}
use Rattle.std.proofs.Math.Seq.{take-add, take-append_seam}
use Rattle.std.proofs.lemmas.Bool.{eqb-true, eqb-false}
use Rattle.std.proofs.lemmas.List.{append-nil, length-append, length-take, length-take-le, take-append-drop, take-append-le}
use mathlib.Core.List.{IsPrefix}
use Rattle.seat_lock.specs.Desk.{Turned}
use Rattle.seat_lock.specs.Log.{of, Found}
use Rattle.pf_io.proofs.Known.{append_known-nil}
use Rattle.pf_history.specs.declared.commands.Caller.TheVariants.{App}
use Rattle.pf_history.specs.Logs.{Log}
use Rattle.pf_scene.specs.declared.outcomes.Told.{Told}
use Rattle.pf_scene.specs.Scenes.{SceneState}
use Rattle.pf_scene.specs.Acts.{free_in, TellsBlock}
use Rattle.stage_parts.specs.Parts.{AppKeeps}
use Rattle.frame_stages.specs.AppWorks.{AppWork, IsGiven}
use Rattle.frame_stages.proofs.AppLogs.{keeps_found}
use Rattle.mode_hosts.specs.Sites.{Place, Site, IsSameDesk, AreApp, AppGoes, Gains}
use Rattle.mode_hosts.proofs.Logs.{GoesOn, by_others, still_front, still_own}

-- Fronts

-- what is within a log is within a longer one
pub few_on : (n : ℕ) (xs ys : Log) → IsPrefix xs ys → n ≤ length xs → n ≤ length ys
few_on n xs ys (rest, is) few =
    let long : length ys ≡ length xs + length rest = sym (ap length is) ∙ length-append xs rest in
    omega (arith, long, few)

-- the first entries of a log are those of a longer one
pub first_on : (n : ℕ) (xs ys : Log) → IsPrefix xs ys → n ≤ length xs → take n ys ≡ take n xs
first_on n xs ys (rest, is) few = ap (take n) (sym is) ∙ take-append-le n xs rest few

take_again : (n : ℕ) (xs : Log) → take (length (take n xs)) xs ≡ take n xs
take_again n xs = ap (take (length (take n xs))) (sym (take-append-drop n xs)) ∙ take-append_seam (take n xs) (drop n xs)

-- what was told lies within the log
pub told_within : (told : ℕ) (more seen : Log) → take (told + length more) seen ≡ take told seen ++ more → told ≤ length seen →
    told + length more ≤ length seen
told_within told more seen next few =
    let now : length (take (told + length more) seen) ≡ length (take told seen) + length more =
    ap length next ∙ length-append (take told seen) more in
    let all : length (take (told + length more) seen) + length (drop (told + length more) seen) ≡ length seen =
    sym (length-append (take (told + length more) seen) (drop (told + length more) seen)) ∙ ap length (take-append-drop (told + length more) seen) in
    let first : length (take told seen) ≡ told = length-take-le told seen few in
    omega (arith, now, all, first)

-- The turn

module _ (told : ℕ) (block reply : Told) (found left : SceneState) (tells : TellsBlock told block found left reply) where
  log_stays : left.shared.log ≡ found.shared.log
  log_stays = by (eqb found.told told) refl
    where
      by : (b : Bool) → eqb found.told told ≡ b → left.shared.log ≡ found.shared.log
      by true is = ap (λ (s : SceneState). s.shared.log) (tells.next (eqb-true found.told told is))
      by false is = ap (λ (s : SceneState). s.shared.log) (tells.other (eqb-false found.told told is)).0

  block_gains : Gains told block found.shared.log reply
  block_gains = by (eqb found.told told) refl
    where
      by : (b : Bool) → eqb found.told told ≡ b → Gains told block found.shared.log reply
      by true is =
          let log = found.shared.log in
          let free = free_in block in
          let same : found.told ≡ told = eqb-true found.told told is in
          let more = take free (drop told log) in
          record {
            more = more;
            entries = tells.entries same ∙ ap (λ (n : ℕ). block.entries.items ++ take free (drop n log)) same;
            next = take-add told (length more) log ∙ ap (λ (es : Log). take told log ++ es) (take_again free (drop told log));
            few = subst (λ (n : ℕ). n ≤ free) (sym (length-take free (drop told log))) (min-le_left free (length (drop told log)));
            room = tells.room;
          }
      by false is =
          let log = found.shared.log in
          let other = tells.other (eqb-false found.told told is) in
          let none : told + 0 ≡ told = omega arith in
          record {
            more = [];
            entries = other.1 ∙ sym (append-nil block.entries.items);
            next = ap (λ (n : ℕ). take n log) none ∙ sym (append-nil (take told log));
            few = omega arith;
            room = tells.room;
          }

-- so many entries more stand in the block
pub many_gained : (told : ℕ) (block reply : Told) (seen : Log) (gains : Gains told block seen reply) →
    length reply.entries.items ≡ length block.entries.items + length gains.more
many_gained told block reply seen gains = ap length gains.entries ∙ length-append block.entries.items gains.more

-- What a turn of the act comes to: the log goes on by entries of others alone, and the block gained entries of it.
pub record TurnTells (told : ℕ) (block reply : Told) (k : ℕ) (seen seen' : Log) : Type 0 where
  pub goes_on : Found k seen seen'
  pub gained : Gains told block seen' reply

pub turn_tells : (told : ℕ) (block reply : Told) (k : ℕ) (seen seen' : Log) →
    Turned (λ (s : SceneState). s.shared.log) k (TellsBlock told block) seen None reply seen' None → TurnTells told block reply k seen seen'
turn_tells told block reply k seen seen' (found, left, from, tells, adds, is, value) =
    let now : seen' ≡ found.shared.log = is ∙ log_stays told block reply found left tells in
    record {
      goes_on = subst (Found k seen) (sym now) from;
      gained = subst (λ (l : Log). Gains told block l reply) (sym now) (block_gains told block reply found left tells);
    }

-- the application at its desk, which has seen more entries of others
pub app_found : (s : Site AppWork) (w : AppWork) (q : Place) (bytes : Option (List ℕ)) → w ≡ s.work → IsSameDesk s.place q →
    Found s.place.number s.place.seen q.seen → AppGoes s (record s { work = w; place = q }) bytes bytes
app_found s w q bytes is desk found =
    let k = s.place.number in
    let goes : GoesOn k (λ e. e.caller ≡ App) s.place.seen q.seen = by_others found in
    record {
      desk = desk;
      front = still_front k (λ e. e.caller ≡ App) s.place.seen q.seen goes;
      links = record { take_at = refl; send_at = refl };
      own = λ own. subst (λ (n : ℕ). AreApp (of n q.seen)) (sym desk.number) (still_own k (λ e. e.caller ≡ App) s.place.seen q.seen goes own);
      given = λ g given. subst (IsGiven g) (sym is) given;
      told = ap (λ (v : AppWork). v.told) is;
      keeps = λ g stream given own keeps.
          record {
            more = [];
            wrote = sym (append_known-nil bytes);
            keeps = subst (λ (n : ℕ). AppKeeps g n w.state q.seen s.taken s.sent (stream ++ [])) (sym desk.number)
                (subst (λ (v : AppWork). AppKeeps g k v.state q.seen s.taken s.sent (stream ++ [])) (sym is)
                (subst (λ (bytes : List ℕ). AppKeeps g k s.work.state q.seen s.taken s.sent bytes) (sym (append-nil stream))
                (keeps_found g k s.work.state s.place.seen q.seen s.taken s.sent stream found keeps)));
          };
    }
