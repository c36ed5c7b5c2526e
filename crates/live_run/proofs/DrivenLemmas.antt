-- What a driven pipe keeps of a play that grows.
use Rattle.std.proofs.Common.{◌≡◌, ℕ, ◌+◌, ◌<◌, ◌≤◌, Bool, true, false, ◌&&◌, List, [], ◌∷◌, ◌++◌, take, length, Option, Some, None, Result, Ok, Err, OnErr, refl, sym, ap, ◌∙◌, subst, arith}
use Rattle.std.proofs.lemmas.List.{length-append, take-append-le}
use Rattle.std.proofs.lemmas.List.Folds.{list_all-append}
use Rattle.std.specs.List.{list_all}
use Rattle.std.specs.Option.{option_and_then}
use mathlib.Core.List.{IsPrefix}
use Rattle.nearest_hit.specs.declared.segment.Segment.{Segment}
use Rattle.fx_math.specs.declared.lenses.Lens.{Lens}
use Rattle.pf_model.specs.declared.lines.AppLine.{AppLine}
use Rattle.pf_model.specs.declared.lines.BaseLine.{BaseLine}
use Rattle.play_format.specs.Plays.{Script, app_fits, base_fits, opened, open_after}
use Rattle.live_text.specs.LiveCommands.{wait_at, first_number}
use Rattle.stage_parts.specs.declared.answers.StageError.{StageError}
use Rattle.pipe_plays.specs.Plays.{most_steps, CanRun}
use Rattle.pipe_plays.specs.Played.{Blames}
use Rattle.mode_hosts.specs.declared.live.LivePipe.{LivePipe}
use Rattle.mode_hosts.specs.Lives.{with_app, with_dbase, numbers_told, LiveKeeps}
use Rattle.live_run.specs.Driven.{Driven, bare_play, with_block, IsDriven}

-- Plays that can be run

both : (a b : Bool) → a ≡ true → b ≡ true → (a && b) ≡ true
both a b first second = ap (λ t. t && b) first ∙ second

-- a play without steps
pub bare_runs : (lens : Lens) (back : List ℕ) (channels ahead : ℕ) → 1 ≤ channels → channels ≤ 4 → 1 ≤ ahead → ahead ≤ 4 →
    CanRun (bare_play lens back channels) ahead
bare_runs lens back channels ahead some most one few =
    record {
      is_play = record {
        steps = omega arith;
        some_channel = some;
        most_channels = most;
        app_steps = refl;
        base_steps = refl;
        buffers = refl;
      };
      few_ahead = (one, few);
    }

-- a line more
pub line_runs : (play : Script) (ahead : ℕ) (l : AppLine) → CanRun play ahead → app_fits play.channels l.step ≡ true →
    length play.app + length play.dbase + 1 ≤ most_steps → CanRun (with_app play (l ∷ [])) ahead
line_runs play ahead l can fits room =
    let is = can.is_play in
    let long : length (play.app ++ l ∷ []) ≡ length play.app + 1 = length-append play.app (l ∷ []) in
    record {
      is_play = record {
        steps = omega (arith, long, room);
        some_channel = is.some_channel;
        most_channels = is.most_channels;
        app_steps = list_all-append (λ (x : AppLine). app_fits play.channels x.step) play.app (l ∷ [])
            ∙ both _ _ is.app_steps (both _ true fits refl);
        base_steps = is.base_steps;
        buffers = is.buffers;
      };
      few_ahead = can.few_ahead;
    }

-- whole buffers, and more of them
open_more : (t : Bool) (ls more : List BaseLine) → open_after t ls ≡ Some false → open_after false more ≡ Some false →
    open_after t (ls ++ more) ≡ Some false
open_more t [] more first second = let closed : t ≡ false = cc in ap (λ b. open_after b more) closed ∙ second
open_more t (l ∷ ls) more first second = by (opened t l.step) (λ b h. open_more b ls more h second) first
  where
    by : (o : Option Bool) → ((b : Bool) → open_after b ls ≡ Some false → open_after b (ls ++ more) ≡ Some false) →
        option_and_then (λ b. open_after b ls) o ≡ Some false → option_and_then (λ b. open_after b (ls ++ more)) o ≡ Some false
    by None on h = absurd (cc)
    by (Some b) on h = on b h

-- a block more
pub block_runs : (play : Script) (ahead : ℕ) (ls : List BaseLine) → CanRun play ahead → list_all (λ l. base_fits l.step) ls ≡ true →
    open_after false ls ≡ Some false → length play.app + length play.dbase + length ls ≤ most_steps → CanRun (with_dbase play ls) ahead
block_runs play ahead ls can fits order room =
    let is = can.is_play in
    let long : length (play.dbase ++ ls) ≡ length play.dbase + length ls = length-append play.dbase ls in
    record {
      is_play = record {
        steps = omega (arith, long, room);
        some_channel = is.some_channel;
        most_channels = is.most_channels;
        app_steps = is.app_steps;
        base_steps = list_all-append (λ (l : BaseLine). base_fits l.step) play.dbase ls ∙ both _ _ is.base_steps fits;
        buffers = open_more false play.dbase ls is.buffers order;
      };
      few_ahead = can.few_ahead;
    }

-- What was told

-- the first of a list are those of a longer one
pub take_front : {A : Type 0} (n : ℕ) (xs ys : List A) → IsPrefix xs ys → n ≤ length xs → take n ys ≡ take n xs
take_front n xs ys (rest, is) few = ap (take n) (sym is) ∙ take-append-le n xs rest few

-- what came to no error blames no sink
pub fine_calm : {A : Type 0} (r : Result A StageError) (n : ℕ) (a b : Option (List ℕ)) → OnErr r ⊥ → Blames r n n a b
fine_calm (Ok x) n a b fine = refl
fine_calm (Err e) n a b fine = absurd fine

-- What a driven pipe keeps

module _ {R G : Type 0} where
  -- it was opened
  pub driven_opens : (lens : Lens) (back : List ℕ) (channels ahead : ℕ) (asked : Option Segment) (bytes : Option (List ℕ)) (p : LivePipe R G) →
      CanRun (bare_play lens back channels) ahead → LiveKeeps (bare_play lens back channels) ahead asked bytes bytes p → numbers_told p ≡ 0 →
      IsDriven (bare_play lens back channels) ahead asked bytes bytes (record { pipe = p; steps = 0; blocks = 0; frames = 0 })
  driven_opens lens back channels ahead asked bytes p can keeps none =
      record { keeps = keeps; can_run = can; steps = refl; told = sym none }

  -- a line more was given
  pub driven_line : (play : Script) (ahead : ℕ) (asked : Option Segment) (bytes bytes' : Option (List ℕ)) (l : AppLine) (d : Driven R G)
      (q : LivePipe R G) → IsDriven play ahead asked bytes bytes' d → app_fits play.channels l.step ≡ true → d.steps < most_steps →
      (LiveKeeps play ahead asked bytes bytes' d.pipe → LiveKeeps (with_app play (l ∷ [])) ahead asked bytes bytes' q) →
      numbers_told q ≡ numbers_told d.pipe →
      IsDriven (with_app play (l ∷ [])) ahead asked bytes bytes' (record d { pipe = q; steps = d.steps + 1 })
  driven_line play ahead asked bytes bytes' l d q driven fits room keeps same =
      let steps = driven.steps in
      let long : length (play.app ++ l ∷ []) ≡ length play.app + 1 = length-append play.app (l ∷ []) in
      record {
        keeps = keeps driven.keeps;
        can_run = line_runs play ahead l driven.can_run fits (omega (arith, steps, room));
        steps = omega (arith, steps, long);
        told = driven.told ∙ sym same;
      }

  -- a block more was given
  pub driven_block : (play : Script) (ahead : ℕ) (asked : Option Segment) (bytes bytes' : Option (List ℕ)) (ls : List BaseLine) (n : ℕ)
      (d : Driven R G) (q : LivePipe R G) → IsDriven play ahead asked bytes bytes' d → list_all (λ l. base_fits l.step) ls ≡ true →
      open_after false ls ≡ Some false → length ls ≡ n → d.steps + n ≤ most_steps →
      (CanRun (with_dbase play ls) ahead → LiveKeeps play ahead asked bytes bytes' d.pipe → LiveKeeps (with_dbase play ls) ahead asked bytes bytes' q) →
      numbers_told q ≡ numbers_told d.pipe → IsDriven (with_dbase play ls) ahead asked bytes bytes' (record d { pipe = q; steps = d.steps + n })
  driven_block play ahead asked bytes bytes' ls n d q driven fits order many room keeps same =
      let steps = driven.steps in
      let long : length (play.dbase ++ ls) ≡ length play.dbase + length ls = length-append play.dbase ls in
      let can = block_runs play ahead ls driven.can_run fits order (omega (arith, steps, room, many)) in
      record {
        keeps = keeps can driven.keeps;
        can_run = can;
        steps = omega (arith, steps, long, many);
        told = driven.told ∙ sym same;
      }

  -- nothing was given
  pub driven_on : (play : Script) (ahead : ℕ) (asked : Option Segment) (bytes old new : Option (List ℕ)) (d : Driven R G) (q : LivePipe R G) →
      IsDriven play ahead asked bytes old d → (LiveKeeps play ahead asked bytes old d.pipe → LiveKeeps play ahead asked bytes new q) →
      numbers_told q ≡ numbers_told d.pipe → IsDriven play ahead asked bytes new (record d { pipe = q })
  driven_on play ahead asked bytes old new d q driven keeps same =
      record { keeps = keeps driven.keeps; can_run = driven.can_run; steps = driven.steps; told = driven.told ∙ sym same }

  -- a block is counted whose wait was given
  pub driven_waits : (play : Script) (ahead : ℕ) (asked : Option Segment) (bytes bytes' : Option (List ℕ)) (ls : List BaseLine) (n k k' : ℕ)
      (d : Driven R G) → n ≡ first_number ls → k' ≡ k → IsDriven (with_app (with_dbase play ls) (wait_at n k ∷ [])) ahead asked bytes bytes' d →
      IsDriven (with_block play ls k') ahead asked bytes bytes' (record d { blocks = k' })
  driven_waits play ahead asked bytes bytes' ls n k k' d first same driven =
      let is : wait_at n k ≡ wait_at (first_number ls) k' = ap (λ (m : ℕ). wait_at m k) first ∙ ap (wait_at (first_number ls)) (sym same) in
      let now = subst (λ (l : AppLine). IsDriven (with_app (with_dbase play ls) (l ∷ [])) ahead asked bytes bytes' d) is driven in
      record { keeps = now.keeps; can_run = now.can_run; steps = now.steps; told = now.told }
