-- One command more.
use Rattle.std.proofs.Common.{◌≡◌, ℕ, ◌+◌, arith, refl, ap, sym, ◌∙◌, List, [], ◌∷◌, ◌++◌, append_assoc}
use Rattle.std.proofs.lemmas.List.{append-nil}
use Rattle.pf_model.specs.declared.lines.AppLine.{AppLine}
use Rattle.pf_model.specs.declared.lines.BaseLine.{BaseLine}
use Rattle.play_format.specs.Plays.{Script}
use Rattle.live_text.specs.declared.given.Given.{Given}
use Rattle.live_text.specs.declared.given.Given.TheVariants as live
use Rattle.live_text.specs.LiveCommands.{LiveCommand, Line, Block, LiveHeader, wait_at, first_number, app_steps, dbase_steps}
use Rattle.live_feed.specs.Feeds.{commands_of}
use Rattle.live_feed.specs.Laws.{GivenGrows, PlayGrows, blocks_in}

pub commands_more : (gs more : List Given) → commands_of (gs ++ more) ≡ commands_of gs ++ commands_of more
commands_more [] more = refl
commands_more (live.Header lens back channels ∷ gs) more = commands_more gs more
commands_more (live.Line l ∷ gs) more = ap (λ (cs : List LiveCommand). Line l ∷ cs) (commands_more gs more)
commands_more (live.Block ls ∷ gs) more = ap (λ (cs : List LiveCommand). Block ls.items ∷ cs) (commands_more gs more)

pub given_grows : GivenGrows
given_grows = record { line = λ gs l. commands_more gs (live.Line l ∷ []); block = λ gs ls. commands_more gs (live.Block ls ∷ []) }

app_more : (k : ℕ) (cs more : List LiveCommand) → app_steps k (cs ++ more) ≡ app_steps k cs ++ app_steps (k + blocks_in cs) more
app_more k [] more = let same : k ≡ k + 0 = omega arith in ap (λ (n : ℕ). app_steps n more) same
app_more k (Line l ∷ cs) more = ap (λ (ls : List AppLine). l ∷ ls) (app_more k cs more)
app_more k (Block ls ∷ cs) more =
    let same : k + 1 + blocks_in cs ≡ k + (blocks_in cs + 1) = omega arith in
    ap (λ (xs : List AppLine). wait_at (first_number ls) (k + 1) ∷ xs) (app_more (k + 1) cs more ∙ ap (λ (n : ℕ). app_steps (k + 1) cs ++ app_steps n more) same)

dbase_more : (cs more : List LiveCommand) → dbase_steps (cs ++ more) ≡ dbase_steps cs ++ dbase_steps more
dbase_more [] more = refl
dbase_more (Line l ∷ cs) more = dbase_more cs more
dbase_more (Block ls ∷ cs) more =
    ap (λ (xs : List BaseLine). ls ++ xs) (dbase_more cs more) ∙ sym (append_assoc ls (dbase_steps cs) (dbase_steps more))

app_start : (cs more : List LiveCommand) → app_steps 0 (cs ++ more) ≡ app_steps 0 cs ++ app_steps (blocks_in cs) more
app_start cs more =
    let same : 0 + blocks_in cs ≡ blocks_in cs = omega arith in
    app_more 0 cs more ∙ ap (λ (n : ℕ). app_steps 0 cs ++ app_steps n more) same

abbrev play_with : LiveHeader → List AppLine → List BaseLine → Script
play_with h app dbase = record { lens = h.lens; back = h.back; channels = h.channels; app = app; dbase = dbase }

play_same : (h : LiveHeader) (a b : List AppLine) (c d : List BaseLine) → a ≡ b → c ≡ d → play_with h a c ≡ play_with h b d
play_same h a b c d e f = ap (λ (x : List AppLine). play_with h x c) e ∙ ap (λ (x : List BaseLine). play_with h b x) f

pub play_grows : PlayGrows
play_grows = record {
  line = λ h cs l. play_same h _ _ _ _ (app_start cs (Line l ∷ [])) (dbase_more cs (Line l ∷ []) ∙ append-nil (dbase_steps cs));
  block = λ h cs ls. play_same h _ _ _ _ (app_start cs (Block ls ∷ [])) (dbase_more cs (Block ls ∷ []) ∙ ap (λ (xs : List BaseLine). dbase_steps cs ++ xs) (append-nil ls));
}
