-- A play from its header and its sections.
use Rattle.std.proofs.Common.{◌≡◌, ℕ, ◌+◌, ◌≤◌, arith, refl, true, false, cond, ap, Bool, sym, ◌∙◌, List, [], ◌∷◌, ◌++◌, length, Result, Ok, append_assoc}
use Rattle.std.proofs.lemmas.List.{append-nil, length-append}
use Rattle.fx_math.specs.declared.lenses.Lens.{Lens}
use Rattle.pf_model.specs.declared.lines.AppLine.{AppLine}
use Rattle.pf_model.specs.declared.lines.BaseLine.{BaseLine}
use Rattle.play_format.specs.declared.refusal.Refusal.{Refusal}
use Rattle.play_format.specs.declared.refusal.ParseError.{ParseError}
use Rattle.play_format.specs.declared.commands.Command.TheVariants as command
use Rattle.play_format.specs.declared.places.Version.{Version}
use Rattle.play_format.specs.Outcomes.{Refuses, ReadAs}
use Rattle.play_format.specs.Places.{start}
use Rattle.play_format.specs.Grammar.{reading, with_version}
use Rattle.play_format.specs.Rests.{IsSound, unread, with_front, Stand, stand}
use Rattle.play_format.specs.Spelling.{app_lines, base_lines, header_entries, app_entries, base_entries}
use Rattle.play_format.specs.Plays.{Script, IsPlay}
use Rattle.play_format.specs.Sections.{HeaderRead, AppSection, BaseSection}
use Rattle.play_format.specs.Reads.{first_line}
use Rattle.play_format.proofs.SectionLemmas.{refused_behind}
use Rattle.play_format.proofs.HeaderLemmas.{refused_version}
use Rattle.play_format.specs.Commands.{Entry}

abbrev pub script : Lens → List ℕ → ℕ → List AppLine → List BaseLine → Script
script lens back channels app dbase = record { lens = lens; back = back; channels = channels; app = app; dbase = dbase }

app_count : (ls : List AppLine) → length ls ≤ length (app_entries ls)
app_count [] = omega arith
app_count (l ∷ ls) = omega (arith, app_count ls, length-append (app_lines l.step) (app_entries ls))

base_count : (ls : List BaseLine) → length ls ≤ length (base_entries ls)
base_count [] = omega arith
base_count (l ∷ ls) = omega (arith, base_count ls, length-append (base_lines l.step) (base_entries ls))

first_lines : (says : Bool) → 2 ≤ first_line says
first_lines true = omega arith
first_lines false = omega arith

-- what is kept by a play without a section of the database process
pub play_of_app : (says : Bool) (b d : Stand) (lens : Lens) (back : List ℕ) (app : List AppLine) → IsSound b.spot → first_line says ≡ b.line → d.line ≤ 262145 → AppSection b d app false → IsPlay (script lens back b.spot.channels app [])
play_of_app says b d lens back app sound low high s = record {
  steps = let k = first_lines says in omega (arith, app_count app, s.1, low, high);
  some_channel = sound.some_channel;
  most_channels = sound.channels;
  app_steps = s.2.fitting;
  base_steps = refl;
  buffers = refl;
}

-- and by one with both sections
pub play_of_both : (says : Bool) (b d e : Stand) (lens : Lens) (back : List ℕ) (app : List AppLine) (dbase : List BaseLine) → IsSound b.spot → first_line says ≡ b.line → e.line ≤ 262145
    → AppSection b d app true → BaseSection d e dbase → IsPlay (script lens back b.spot.channels app dbase)
play_of_both says b d e lens back app dbase sound low high s t = record {
  steps = let k = first_lines says in omega (arith, app_count app, base_count dbase, s.0.line, t.1, length-append (app_entries app) ((command.Dbase, []) ∷ []), low, high);
  some_channel = sound.some_channel;
  most_channels = sound.channels;
  app_steps = s.2.fitting;
  base_steps = t.2.fitting;
  buffers = t.3;
}

abbrev version_with : Version → Result (List Entry) Refusal → Result (Version × List Entry) Refusal
version_with v r = with_version v r

pub header_line : (says : Bool) (n : ℕ) → n ≡ 2 + cond says 5 4 → n ≡ first_line says
header_line true n e = e
header_line false n e = e

pub read_app : (text rest : List ℕ) (v : Version) (b d : Stand) (lens : Lens) (back : List ℕ) (app : List AppLine)
    → reading text ≡ with_version v (unread (start v) 2 rest) → HeaderRead (stand (start v) 2 rest) b lens back → AppSection b d app false → ReadAs text (script lens back b.spot.channels app [])
read_app text rest v b d lens back app r h s =
    let line : b.line ≡ first_line h.says = header_line h.says b.line h.line in
    let front = header_entries h.says lens back b.spot.channels in
    let all : unread (start v) 2 rest ≡ Ok (front ++ (app_entries app ++ [])) = h.told ∙ ap (with_front front) s.0 ∙ ap (λ (es : List Entry). Ok (front ++ es)) (sym (append-nil (app_entries app))) in
    record {
      layout = record { version = v; says_channels = h.says; has_dbase = false };
      laid_out = record {
        app_numbers = rw (← line) s.2.numbered;
        dbase_numbers = tt;
        app_written = s.2.written;
        dbase_written = tt;
        back = h.back_three;
        one_channel = h.one_channel;
        no_dbase = λ _. refl;
      };
      read = r ∙ ap (version_with v) all;
    }

pub read_both : (text rest : List ℕ) (v : Version) (b d e : Stand) (lens : Lens) (back : List ℕ) (app : List AppLine) (dbase : List BaseLine)
    → reading text ≡ with_version v (unread (start v) 2 rest) → HeaderRead (stand (start v) 2 rest) b lens back → AppSection b d app true → BaseSection d e dbase → ReadAs text (script lens back b.spot.channels app dbase)
read_both text rest v b d e lens back app dbase r h s t =
    let line : b.line ≡ first_line h.says = header_line h.says b.line h.line in
    let front = header_entries h.says lens back b.spot.channels in
    let body : unread b.spot b.line b.text ≡ Ok (app_entries app ++ (command.Dbase, []) ∷ base_entries dbase) =
    s.0.told ∙ ap (with_front (app_entries app ++ (command.Dbase, []) ∷ [])) t.0 ∙ ap (λ (es : List Entry). Ok es) (append_assoc (app_entries app) ((command.Dbase, []) ∷ []) (base_entries dbase)) in
    let all : unread (start v) 2 rest ≡ Ok (front ++ (app_entries app ++ (command.Dbase, []) ∷ base_entries dbase)) = h.told ∙ ap (with_front front) body in
    let next : d.line ≡ first_line h.says + length (app_entries app) + 1 = omega (arith, s.0.line, line, length-append (app_entries app) ((command.Dbase, []) ∷ [])) in
    record {
      layout = record { version = v; says_channels = h.says; has_dbase = true };
      laid_out = record {
        app_numbers = rw (← line) s.2.numbered;
        dbase_numbers = rw (← next) t.2.numbered;
        app_written = s.2.written;
        dbase_written = t.2.written;
        back = h.back_three;
        one_channel = h.one_channel;
        no_dbase = λ k. absurd cc;
      };
      read = r ∙ ap (version_with v) all;
    }

-- errors behind what was read
pub header_refused : (text rest : List ℕ) (v : Version) (e : ParseError) → reading text ≡ with_version v (unread (start v) 2 rest) → Refuses e (unread (start v) 2 rest) → Refuses e (reading text)
header_refused text rest v e r h = rw r (refused_version v (unread (start v) 2 rest) e h)

pub app_refused : (text rest : List ℕ) (v : Version) (b : Stand) (lens : Lens) (back : List ℕ) (e : ParseError)
    → reading text ≡ with_version v (unread (start v) 2 rest) → HeaderRead (stand (start v) 2 rest) b lens back → Refuses e (unread b.spot b.line b.text) → Refuses e (reading text)
app_refused text rest v b lens back e r h k =
    header_refused text rest v e r (rw h.told (refused_behind (header_entries h.says lens back b.spot.channels) (unread b.spot b.line b.text) e k))

pub dbase_refused : (text rest : List ℕ) (v : Version) (b d : Stand) (lens : Lens) (back : List ℕ) (app : List AppLine) (e : ParseError)
    → reading text ≡ with_version v (unread (start v) 2 rest) → HeaderRead (stand (start v) 2 rest) b lens back → AppSection b d app true → Refuses e (unread d.spot d.line d.text) → Refuses e (reading text)
dbase_refused text rest v b d lens back app e r h s k =
    app_refused text rest v b lens back e r h (rw s.0.told (refused_behind (app_entries app ++ (command.Dbase, []) ∷ []) (unread d.spot d.line d.text) e k))
