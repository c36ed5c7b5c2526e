-- What the definitions of live texts imply.
use Rattle.std.specs.Prelude.{◌≡◌, ℕ, ◌+◌, ◌<◌, ◌≤◌, true, false, List, [], ◌∷◌, ◌++◌, length, Option, Some, Result, Ok, Err}
use Rattle.std.specs.List.{list_all}
use Rattle.pf_model.specs.declared.lines.AppLine.{AppLine}
use Rattle.pf_model.specs.declared.lines.BaseLine.{BaseLine}
use Rattle.play_format.specs.declared.refusal.Why.{Why}
use Rattle.play_format.specs.declared.refusal.Refusal.{Refusal}
use Rattle.play_format.specs.Words.{pieces}
use Rattle.play_format.specs.Commands.{Entry}
use Rattle.play_format.specs.Places.{may_end}
use Rattle.play_format.specs.Grammar.{◌>>=◌}
use Rattle.play_format.specs.Spelling.{text_of_lines}
use Rattle.play_format.specs.Plays.{IsPlay, app_fits, base_fits, open_after}
use Rattle.live_text.specs.declared.given.Given.{Given}
use Rattle.live_text.specs.LiveGrammar.{live_from, end_refusal, unless, live_reading}
use Rattle.live_text.specs.LiveCommands.{LiveCommand, LiveHeader, SpellsLive, app_steps, dbase_steps, play_of}
use Rattle.live_text.specs.Stands.{LiveStand, live_start, live_step, LineGives, LinesGive, headers_in, commands_in}

-- Line by line

-- entries, and then those that are read
abbrev pub behind_entries : List Entry → Result (List Entry) Refusal → Result (List Entry) Refusal
behind_entries front read = read >>= λ es. Ok (front ++ es)

-- what is read of a text from a stand on: what is begun, and the pieces of the text that are left
abbrev pub unread : LiveStand → List (List ℕ) → Result (List Entry) Refusal
unread s left = behind_entries s.begun (live_from s.spot s.line left)

-- A text is what is read before its first line. A line that makes lines whole stands before what is read behind it, and a
-- wrong line refuses the text, whatever stands behind it. Behind the last line feed the end is judged.
pub record ReadsByLines : Type 0 where
  pub whole : (text : List ℕ) → unread live_start (pieces text) ≡ live_reading text
  pub more : (s t : LiveStand) (line : List ℕ) (made : List Entry) (left : List (List ℕ)) → 0 < length left
      → live_step s line ≡ Ok (t, made) → unread s (line ∷ left) ≡ behind_entries made (unread t left)
  pub wrong : (s : LiveStand) (line : List ℕ) (why : Why) (left : List (List ℕ)) → 0 < length left
      → live_step s line ≡ Err why → unread s (line ∷ left) ≡ Err (record { line = s.line; why = why })
  pub end : (s : LiveStand) (rest : List ℕ) → unread s (rest ∷ []) ≡ unless (end_refusal s.spot s.line rest) s.begun

-- One reading

-- a text spells at most one header and list of commands
abbrev pub HasOneLiveReading : Type 0
HasOneLiveReading =
    (text : List ℕ) (h k : LiveHeader) (cs ds : List LiveCommand) → SpellsLive text h cs → SpellsLive text k ds
    → (h ≡ k) × (cs ≡ ds)

-- What stands behind a text that spells commands only adds commands: the longer text has the same header, and its commands
-- begin with those of the shorter one.
abbrev pub OnlyAddsCommands : Type 0
OnlyAddsCommands =
    (text more : List ℕ) (h k : LiveHeader) (cs ds : List LiveCommand) → SpellsLive text h cs → SpellsLive (text ++ more) k ds
    → (h ≡ k) × (later : List LiveCommand) × (ds ≡ cs ++ later)

-- What was given, and the text

-- Lines that are read one after the other are read with one line more. Where a text may end behind them, one header was
-- given, and the text of these lines spells it and the commands that were given.
pub record GivenIsSpelled : Type 0 where
  pub more : (s t u : LiveStand) (lines : List (List ℕ)) (given : List (Option Given)) (line : List ℕ) (found : Option Given)
      → LinesGive s lines given t → LineGives t line u found → LinesGive s (lines ++ line ∷ []) (given ++ found ∷ []) u
  pub spelled : (lines : List (List ℕ)) (given : List (Option Given)) (t : LiveStand) → LinesGive live_start lines given t
      → may_end t.spot ≡ true
      → (h : LiveHeader) × (headers_in given ≡ h ∷ []) × SpellsLive (text_of_lines lines) h (commands_in given)

-- Plays

-- the steps of both sections are in their ranges, and each buffer is closed, however many steps there are
pub record FitsSections (channels : ℕ) (app : List AppLine) (dbase : List BaseLine) : Type 0 where
  pub some_channel : 1 ≤ channels
  pub most_channels : channels ≤ 4
  pub app_steps : list_all (λ l. app_fits channels l.step) app ≡ true
  pub base_steps : list_all (λ l. base_fits l.step) dbase ≡ true
  pub buffers : open_after false dbase ≡ Some false

-- the sections of the play of a live text fit
abbrev pub MakesSections : Type 0
MakesSections =
    (text : List ℕ) (h : LiveHeader) (cs : List LiveCommand) → SpellsLive text h cs
    → FitsSections (play_of h cs).channels (play_of h cs).app (play_of h cs).dbase

-- the play of a live text is one, where it has few enough steps
abbrev pub MakesPlay : Type 0
MakesPlay =
    (text : List ℕ) (h : LiveHeader) (cs : List LiveCommand) → SpellsLive text h cs
    → length (app_steps 0 cs) + length (dbase_steps cs) ≤ 262144 → IsPlay (play_of h cs)
