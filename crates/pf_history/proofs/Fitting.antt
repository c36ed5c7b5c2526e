-- Turns and asks: the relation that the stages keep says that a history fits a play.
use Rattle.std.proofs.Common.{◌≡◌, ℕ, suc, ◌≤◌, List, [], ◌∷◌, ◌++◌, map, length, drop, refl, sym, ◌∙◌, ap, subst, arith}
use Rattle.std.proofs.Math.Seq.{drop-length}
use Rattle.std.specs.List.{AllByRecursion, zip}
use Rattle.pf_model.specs.declared.lines.AppLine.{AppLine}
use Rattle.pf_model.specs.declared.lines.BaseLine.{BaseLine}
use Rattle.pf_history.specs.declared.commands.Caller.TheVariants.{App, Dbase}
use Rattle.pf_history.specs.declared.commands.Command.{Command}
use Rattle.pf_history.specs.declared.commands.Command.TheVariants as command
use Rattle.pf_history.specs.Objects.{FrameState, opening_state}
use Rattle.pf_history.specs.Logs.{Log}
use Rattle.pf_history.specs.Asks.{Wanted, WantEdit, WantView, WantSync, WantFrame, WantClose, Ask, BaseAsk, asked_app, asked_dbase, Turn, Meets, Follows, FollowsBase}
use Rattle.pf_history.specs.Fits.{turns_of, Fills, IsFrontOfApp, IsFrontOfDbase, HasWaited, HasAwaited, LeavesRoom, Closes, FindsRoom, FitsPlay, FollowsPlay}
use Rattle.pf_history.specs.FitLaws.{left_of_app, left_of_dbase, FitLaw}
use Rattle.pf_history.proofs.Turns.{turns_own}

-- Follows

-- one more turn: what is first of what is still asked
pub follows_more : (ahead merges : ℕ) (asks : List Ask) (ts : List Turn) (a : Ask) (left : List Ask) (t : Turn) → Follows ahead merges asks ts (a ∷ left) → Meets ahead merges a.wanted t.found t.made → a.need ≤ t.found.merges → Follows ahead merges asks (ts ++ t ∷ []) left
follows_more ahead merges [] [] a left t h meets waited = absurd (cc)
follows_more ahead merges (b ∷ asks) [] a left t h meets waited =
    let same : b ≡ a = cc in
    let rest : asks ≡ left = cc in
    (subst (λ (x : Ask). Meets ahead merges x.wanted t.found t.made) (sym same) meets, subst (λ (x : Ask). x.need ≤ t.found.merges) (sym same) waited, rest)
follows_more ahead merges [] (u ∷ us) a left t h meets waited = absurd h
follows_more ahead merges (b ∷ asks) (u ∷ us) a left t h meets waited = (h.0, h.1, follows_more ahead merges asks us a left t h.2 meets waited)

pub follows_base_more : (asks : List BaseAsk) (ts : List Turn) (a : BaseAsk) (left : List BaseAsk) (t : Turn) → FollowsBase asks ts (a ∷ left) → t.made ≡ command.Merge a.merge → a.need ≤ t.found.frames → FollowsBase asks (ts ++ t ∷ []) left
follows_base_more [] [] a left t h same_merge waited = absurd (cc)
follows_base_more (b ∷ asks) [] a left t h same_merge waited =
    let same : b ≡ a = cc in
    let rest : asks ≡ left = cc in
    (same_merge ∙ ap (λ (x : BaseAsk). command.Merge x.merge) (sym same), subst (λ (x : BaseAsk). x.need ≤ t.found.frames) (sym same) waited, rest)
follows_base_more [] (u ∷ us) a left t h same_merge waited = absurd h
follows_base_more (b ∷ asks) (u ∷ us) a left t h same_merge waited = (h.0, h.1, follows_base_more asks us a left t h.2 same_merge waited)

-- From the relation to the parts of the fit, and back

record AppParts (ahead merges : ℕ) (asks : List Ask) (ts : List Turn) : Type 0 where
  pub short : length (map (λ t. t.made) ts) ≤ length asks
  pub filled : AllByRecursion (λ p. Fills p.0.wanted p.1) (zip asks (map (λ t. t.made) ts))
  pub waited : HasWaited asks ts
  pub room : AllByRecursion (λ p. LeavesRoom ahead p.0.wanted p.1.found p.1.made) (zip asks ts)
  pub closed : AllByRecursion (λ p. Closes merges p.0.wanted p.1.found p.1.made) (zip asks ts)
  pub finds : AllByRecursion (λ t. FindsRoom ahead t.found t.made) ts

record OneMeets (ahead merges : ℕ) (w : Wanted) (s : FrameState) (c : Command) : Type 0 where
  pub fills : Fills w c
  pub leaves : LeavesRoom ahead w s c
  pub closes : Closes merges w s c
  pub finds : FindsRoom ahead s c

meets_parts : (ahead merges : ℕ) (w : Wanted) (s : FrameState) (c : Command) → Meets ahead merges w s c → OneMeets ahead merges w s c
meets_parts ahead merges (WantEdit e) s c h = record { fills = h; leaves = tt; closes = tt; finds = subst (FindsRoom ahead s) (sym h) tt }
meets_parts ahead merges (WantView channel v) s c h = record { fills = h; leaves = tt; closes = tt; finds = subst (FindsRoom ahead s) (sym h) tt }
meets_parts ahead merges WantSync s (command.Sync r) h = record { fills = tt; leaves = h; closes = tt; finds = tt }
meets_parts ahead merges WantSync s _ h = absurd h
meets_parts ahead merges WantFrame s command.Frame h = record { fills = tt; leaves = tt; closes = tt; finds = h }
meets_parts ahead merges WantFrame s _ h = absurd h
meets_parts ahead merges WantClose s (command.Sync r) h = record { fills = tt; leaves = tt; closes = h; finds = tt }
meets_parts ahead merges WantClose s _ h = absurd h

parts_meet : (ahead merges : ℕ) (w : Wanted) (s : FrameState) (c : Command) → OneMeets ahead merges w s c → Meets ahead merges w s c
parts_meet ahead merges (WantEdit e) s c h = h.fills
parts_meet ahead merges (WantView channel v) s c h = h.fills
parts_meet ahead merges WantSync s (command.Sync r) h = h.leaves
parts_meet ahead merges WantSync s _ h = absurd h.fills
parts_meet ahead merges WantFrame s command.Frame h = h.finds
parts_meet ahead merges WantFrame s _ h = absurd h.fills
parts_meet ahead merges WantClose s (command.Sync r) h = h.closes
parts_meet ahead merges WantClose s _ h = absurd h.fills

app_parts : (ahead merges : ℕ) (asks : List Ask) (ts : List Turn) (left : List Ask) → Follows ahead merges asks ts left → AppParts ahead merges asks ts
app_parts ahead merges [] [] left h = record { short = omega arith; filled = tt; waited = tt; room = tt; closed = tt; finds = tt }
app_parts ahead merges (a ∷ asks) [] left h = record { short = omega arith; filled = tt; waited = tt; room = tt; closed = tt; finds = tt }
app_parts ahead merges [] (t ∷ ts) left h = absurd h
app_parts ahead merges (a ∷ asks) (t ∷ ts) left h =
    let rest = app_parts ahead merges asks ts left h.2 in
    let one = meets_parts ahead merges a.wanted t.found t.made h.0 in
    record {
      short = omega (arith, rest.short);
      filled = (one.fills, rest.filled);
      waited = (h.1, rest.waited);
      room = (one.leaves, rest.room);
      closed = (one.closes, rest.closed);
      finds = (one.finds, rest.finds);
    }

parts_app : (ahead merges : ℕ) (asks : List Ask) (ts : List Turn) → AppParts ahead merges asks ts → Follows ahead merges asks ts (drop (length (map (λ t. t.made) ts)) asks)
parts_app ahead merges [] [] h = refl
parts_app ahead merges (a ∷ asks) [] h = refl
parts_app ahead merges [] (t ∷ ts) h = absurd (omega (arith, h.short))
parts_app ahead merges (a ∷ asks) (t ∷ ts) h = (
  parts_meet ahead merges a.wanted t.found t.made (record { fills = h.filled.0; leaves = h.room.0; closes = h.closed.0; finds = h.finds.0 }),
  h.waited.0,
  parts_app ahead merges asks ts (record { short = omega (arith, h.short); filled = h.filled.1; waited = h.waited.1; room = h.room.1; closed = h.closed.1; finds = h.finds.1 }),
)

record BaseParts (asks : List BaseAsk) (ts : List Turn) : Type 0 where
  pub short : length (map (λ t. t.made) ts) ≤ length asks
  pub same : AllByRecursion (λ p. p.1 ≡ command.Merge p.0.merge) (zip asks (map (λ t. t.made) ts))
  pub awaited : HasAwaited asks ts

base_parts : (asks : List BaseAsk) (ts : List Turn) (left : List BaseAsk) → FollowsBase asks ts left → BaseParts asks ts
base_parts [] [] left h = record { short = omega arith; same = tt; awaited = tt }
base_parts (a ∷ asks) [] left h = record { short = omega arith; same = tt; awaited = tt }
base_parts [] (t ∷ ts) left h = absurd h
base_parts (a ∷ asks) (t ∷ ts) left h =
    let rest = base_parts asks ts left h.2 in
    record { short = omega (arith, rest.short); same = (h.0, rest.same); awaited = (h.1, rest.awaited) }

parts_base : (asks : List BaseAsk) (ts : List Turn) → BaseParts asks ts → FollowsBase asks ts (drop (length (map (λ t. t.made) ts)) asks)
parts_base [] [] h = refl
parts_base (a ∷ asks) [] h = refl
parts_base [] (t ∷ ts) h = absurd (omega (arith, h.short))
parts_base (a ∷ asks) (t ∷ ts) h =
    (h.same.0, h.awaited.0, parts_base asks ts (record { short = omega (arith, h.short); same = h.same.1; awaited = h.awaited.1 }))

-- nothing is still asked where as many were made as are asked
follows_whole : (ahead merges : ℕ) (asks : List Ask) (ts : List Turn) → Follows ahead merges asks ts [] → length (map (λ t. t.made) ts) ≡ length asks
follows_whole ahead merges [] [] h = refl
follows_whole ahead merges (a ∷ asks) [] h = absurd (cc)
follows_whole ahead merges [] (t ∷ ts) h = absurd h
follows_whole ahead merges (a ∷ asks) (t ∷ ts) h = ap suc (follows_whole ahead merges asks ts h.2)

base_whole : (asks : List BaseAsk) (ts : List Turn) → FollowsBase asks ts [] → length (map (λ t. t.made) ts) ≡ length asks
base_whole [] [] h = refl
base_whole (a ∷ asks) [] h = absurd (cc)
base_whole [] (t ∷ ts) h = absurd h
base_whole (a ∷ asks) (t ∷ ts) h = ap suc (base_whole asks ts h.2)

fits_of : (channels ahead : ℕ) (app : List AppLine) (dbase : List BaseLine) (log : Log) (left_app : List Ask) (left_dbase : List BaseAsk) → FollowsPlay channels ahead app dbase log left_app left_dbase → FitsPlay channels ahead app dbase log
fits_of channels ahead app dbase log left_app left_dbase h =
    let a = app_parts ahead (length (asked_dbase dbase)) (asked_app app) (turns_of channels App log) left_app h.follows_app in
    let b = base_parts (asked_dbase dbase) (turns_of channels Dbase log) left_dbase h.follows_dbase in
    record {
      app_in_order = subst (λ (cs : List Command). IsFrontOfApp cs (asked_app app)) (turns_own App (opening_state channels) log) (record { short = a.short; filled = a.filled });
      dbase_in_order = subst (λ (cs : List Command). IsFrontOfDbase cs (asked_dbase dbase)) (turns_own Dbase (opening_state channels) log) (record { short = b.short; same = b.same });
      app_waited = a.waited;
      dbase_awaited = b.awaited;
      syncs_leave_room = a.room;
      close_is_last = a.closed;
      frames_find_room = a.finds;
    }

follows_of : (channels ahead : ℕ) (app : List AppLine) (dbase : List BaseLine) (log : Log) → FitsPlay channels ahead app dbase log → FollowsPlay channels ahead app dbase log (left_of_app app log) (left_of_dbase dbase log)
follows_of channels ahead app dbase log h =
    let own_app = turns_own App (opening_state channels) log in
    let own_dbase = turns_own Dbase (opening_state channels) log in
    let a : IsFrontOfApp (map (λ t. t.made) (turns_of channels App log)) (asked_app app) = subst (λ (cs : List Command). IsFrontOfApp cs (asked_app app)) (sym own_app) h.app_in_order in
    let b : IsFrontOfDbase (map (λ t. t.made) (turns_of channels Dbase log)) (asked_dbase dbase) = subst (λ (cs : List Command). IsFrontOfDbase cs (asked_dbase dbase)) (sym own_dbase) h.dbase_in_order in
    record {
      follows_app = subst (λ (cs : List Command). Follows ahead (length (asked_dbase dbase)) (asked_app app) (turns_of channels App log) (drop (length cs) (asked_app app))) own_app
          (parts_app ahead (length (asked_dbase dbase)) (asked_app app) (turns_of channels App log)
          (record { short = a.short; filled = a.filled; waited = h.app_waited; room = h.syncs_leave_room; closed = h.close_is_last; finds = h.frames_find_room }));
      follows_dbase = subst (λ (cs : List Command). FollowsBase (asked_dbase dbase) (turns_of channels Dbase log) (drop (length cs) (asked_dbase dbase))) own_dbase
          (parts_base (asked_dbase dbase) (turns_of channels Dbase log) (record { short = b.short; same = b.same; awaited = h.dbase_awaited }));
    }

pub fit_law : FitLaw
fit_law channels ahead app dbase log =
    record {
      fits = fits_of channels ahead app dbase log;
      follows = follows_of channels ahead app dbase log;
      fits_wholly = λ h.
          record {
            fits = fits_of channels ahead app dbase log [] [] h;
            whole_app = ap length (sym (turns_own App (opening_state channels) log)) ∙ follows_whole ahead (length (asked_dbase dbase)) (asked_app app) (turns_of channels App log) h.follows_app;
            whole_dbase = ap length (sym (turns_own Dbase (opening_state channels) log)) ∙ base_whole (asked_dbase dbase) (turns_of channels Dbase log) h.follows_dbase;
          };
      follows_wholly = λ h.
          let f = follows_of channels ahead app dbase log h.fits in
          record {
            follows_app = subst (λ (left : List Ask). Follows ahead (length (asked_dbase dbase)) (asked_app app) (turns_of channels App log) left) (ap (λ n. drop n (asked_app app)) h.whole_app ∙ drop-length (asked_app app)) f.follows_app;
            follows_dbase = subst (λ (left : List BaseAsk). FollowsBase (asked_dbase dbase) (turns_of channels Dbase log) left) (ap (λ n. drop n (asked_dbase dbase)) h.whole_dbase ∙ drop-length (asked_dbase dbase)) f.follows_dbase;
          };
    }
