-- The play of a live text is a play.
use Rattle.std.proofs.Common.{◌≡◌, ℕ, ◌+◌, ◌≤◌, arith, refl, true, false, ap, sym, ◌∙◌, Bool, List, [], ◌∷◌, ◌++◌, length, subst, Option, Some, None, pos}
use Rattle.std.specs.List.{list_all}
use Rattle.std.specs.Option.{option_and_then}
use Rattle.std.proofs.lemmas.Int.{ints}
use Rattle.std.proofs.lemmas.List.Folds.{list_all-append}
use Rattle.fx_math.specs.declared.lenses.Lens.{Lens}
use Rattle.pf_model.specs.declared.lines.AppLine.{AppLine}
use Rattle.pf_model.specs.declared.lines.BaseLine.{BaseLine}
use Rattle.play_format.specs.Commands.{Entry}
use Rattle.play_format.specs.Spelling.{header_entries}
use Rattle.play_format.specs.Plays.{app_fits, base_fits, opened, open_after}
use Rattle.play_format.proofs.SpellLemmas.{both_true}
use Rattle.play_format.proofs.OneLemmas.{AllWithin, front_within}
use Rattle.live_text.specs.LiveCommands.{LiveCommand, Line, Block, LiveHeader, SpellsHeader, SpellCommands, app_steps, dbase_steps}
use Rattle.live_text.specs.Laws.{MakesSections, MakesPlay}
use Rattle.live_text.proofs.OneReading.{text_within}

channels_told : (says : Bool) (lens : Lens) (back : List ℕ) (n : ℕ) → (says ≡ false → n ≡ 1) → AllWithin (header_entries says lens back n) → (1 ≤ n) × (n ≤ 4)
channels_told true lens back n one w = let k = w.1.1.1.0.within.0 in (omega (arith, ints, k.low), omega (arith, ints, k.high))
channels_told false lens back n one w = let k = one refl in (omega (arith, k), omega (arith, k))

fits_app : (channels n k : ℕ) (cs : List LiveCommand) (es : List Entry) → SpellCommands channels n cs es → list_all (λ l. app_fits channels l.step) (app_steps k cs) ≡ true
fits_app channels n k [] es h = refl
fits_app channels n k (Line l ∷ cs) es h = both_true (app_fits channels l.step) _ h.3.fitting (fits_app channels (n + length h.0) k cs h.1 h.4)
fits_app channels n k (Block ls ∷ cs) es h = fits_app channels (n + length h.0) (k + 1) cs h.1 h.4

fits_dbase : (channels n : ℕ) (cs : List LiveCommand) (es : List Entry) → SpellCommands channels n cs es → list_all (λ l. base_fits l.step) (dbase_steps cs) ≡ true
fits_dbase channels n [] es h = refl
fits_dbase channels n (Line l ∷ cs) es h = fits_dbase channels (n + length h.0) cs h.1 h.4
fits_dbase channels n (Block ls ∷ cs) es h =
    list_all-append (λ l. base_fits l.step) ls (dbase_steps cs)
    ∙ both_true (list_all (λ l. base_fits l.step) ls) (list_all (λ l. base_fits l.step) (dbase_steps cs)) h.3.fitting (fits_dbase channels (n + length h.0) cs h.1 h.4)

abbrev some_bool : Bool → Option Bool
some_bool b = Some b

-- whether a buffer is open behind steps and more steps
open_more : (a b : Bool) (ls ms : List BaseLine) → open_after a ls ≡ some_bool b → open_after a (ls ++ ms) ≡ open_after b ms
open_more a b [] ms e = let k : a ≡ b = cc in ap (λ (c : Bool). open_after c ms) k
open_more a b (l ∷ ls) ms e = by_step (opened a l.step) e (λ c f. open_more c b ls ms f)
  where
    by_step : (o : Option Bool) → option_and_then (λ c. open_after c ls) o ≡ some_bool b → ((c : Bool) → open_after c ls ≡ some_bool b → open_after c (ls ++ ms) ≡ open_after b ms)
        → option_and_then (λ c. open_after c (ls ++ ms)) o ≡ open_after b ms
    by_step None e f = absurd cc
    by_step (Some c) e f = f c e

closed_dbase : (channels n : ℕ) (cs : List LiveCommand) (es : List Entry) → SpellCommands channels n cs es → open_after false (dbase_steps cs) ≡ some_bool false
closed_dbase channels n [] es h = refl
closed_dbase channels n (Line l ∷ cs) es h = closed_dbase channels (n + length h.0) cs h.1 h.4
closed_dbase channels n (Block ls ∷ cs) es h = open_more false false ls (dbase_steps cs) h.3.closed ∙ closed_dbase channels (n + length h.0) cs h.1 h.4

pub makes_sections : MakesSections
makes_sections text h cs p =
    let n = 2 + length p.header_lines in
    let w = front_within p.header_lines p.lines (text_within text (p.header_lines ++ p.lines) p.read) in
    let c = channels_told p.header.says h.lens h.back h.channels p.header.one_channel (subst AllWithin p.header.lines w) in
    record {
      some_channel = c.0;
      most_channels = c.1;
      app_steps = fits_app h.channels n 0 cs p.lines p.commands;
      base_steps = fits_dbase h.channels n cs p.lines p.commands;
      buffers = closed_dbase h.channels n cs p.lines p.commands;
    }

pub makes_play : MakesPlay
makes_play text h cs p few =
    let k = makes_sections text h cs p in
    record {
      steps = few;
      some_channel = k.some_channel;
      most_channels = k.most_channels;
      app_steps = k.app_steps;
      base_steps = k.base_steps;
      buffers = k.buffers;
    }
