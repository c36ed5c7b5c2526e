-- What was given, and the text that spells it.
use Rattle.std.proofs.Common.{◌≡◌, ℕ, ◌+◌, ◌<◌, ◌≤◌, arith, refl, true, false, cond, ap, sym, ◌∙◌, Bool, List, [], ◌∷◌, ◌++◌, length, drop, subst, Option, Some, None, append_assoc, ltb, ◌⊎◌, inl, inr}
use Rattle.std.specs.List.{list_all}
use Rattle.std.proofs.lemmas.List.{append-nil, length-append}
use Rattle.fx_math.specs.declared.lenses.Lens.{Lens}
use Rattle.play_format.specs.Commands.{Entry}
use Rattle.play_format.specs.Places.{may_end}
use Rattle.play_format.specs.Spelling.{text_of_lines, header_entries}
use Rattle.live_text.specs.declared.given.Given.{Given}
use Rattle.live_text.specs.declared.given.Given.TheVariants as live
use Rattle.live_text.specs.LiveGrammar.{entries_at, spot_behind}
use Rattle.live_text.specs.LiveCommands.{LiveCommand, Line, Block, LiveHeader, SpellsLive, SpellsCommand, SpellCommands}
use Rattle.live_text.specs.Stands.{LiveStand, live_start, SpellsGiven, LineGives, LinesGive, headers_in, commands_in}
use Rattle.live_text.proofs.LawLemmas.{step_entries}
use Rattle.live_text.proofs.OneReading.{command_some}
use Rattle.live_text.proofs.GivenText.{given_spelled}
use Rattle.live_text.proofs.LivePlay.{makes_sections}
use Rattle.live_feed.specs.Feeds.{FeedState, Fed, somes, header_of, is_command, commands_of, IsSpelled, IsGood}
use Rattle.live_feed.specs.Laws.{FedIsSpelled}
use Rattle.live_feed.proofs.Pieces.{lines_both}
use Rattle.live_feed.proofs.Plays.{commands_more}

-- Where something is given, the text may end

header_some : (says : Bool) (lens : Lens) (back : List ℕ) (n : ℕ) → 0 < length (header_entries says lens back n)
header_some true lens back n = omega arith
header_some false lens back n = omega arith

some_lines : (channels n : ℕ) (g : Given) (es : List Entry) → SpellsGiven channels n (Some g) es → 0 < length es
some_lines channels n (live.Header lens back count) es h = rw h.0.lines (header_some h.0.says lens back count)
some_lines channels n (live.Line l) es h = command_some channels n (Line l) es h
some_lines channels n (live.Block ls) es h = command_some channels n (Block ls.items) es h

ends_by : (b : Bool) (xs whole : List Entry) → cond b xs [] ≡ whole → 0 < length whole → b ≡ true
ends_by true xs whole e h = refl
ends_by false xs whole e h = absurd (omega (arith, h, ap (λ (ys : List Entry). length ys) e))

gives_end : (s u : LiveStand) (line : List ℕ) (g : Given) → LineGives s line u (Some g) → may_end u.spot ≡ true
gives_end s u line g h =
    let k = step_entries s (ltb 536870911 s.line) (ltb 1024 (length line)) (entries_at s.line s.spot line) (u, h.whole) h.step in
    let t = spot_behind s.spot k.0 in
    let spot : may_end t ≡ may_end u.spot = ap (λ (p : LiveStand × List Entry). may_end p.0.spot) k.2 in
    let whole : cond (may_end t) (s.begun ++ k.0) [] ≡ h.whole = ap (λ (p : LiveStand × List Entry). p.1) k.2 in
    sym spot ∙ ends_by (may_end t) (s.begun ++ k.0) h.whole whole (some_lines _ _ g h.whole h.spelled)

-- The lines up to the last that gave something

record Front (s : LiveStand) (lines : List (List ℕ)) (found : List (Option Given)) : Type 0 where
  front : List (List ℕ)
  behind : List (List ℕ)
  parts : lines ≡ front ++ behind
  gave : List (Option Given)
  same : somes found ≡ somes gave
  stand : LiveStand
  read : LinesGive s front gave stand
  ends : may_end stand.spot ≡ true

somes_same : (o : Option Given) (found gave : List (Option Given)) → somes found ≡ somes gave → somes (o ∷ found) ≡ somes (o ∷ gave)
somes_same None found gave e = e
somes_same (Some g) found gave e = ap (λ (gs : List Given). g ∷ gs) e

front_of : (s t : LiveStand) (lines : List (List ℕ)) (found : List (Option Given)) → LinesGive s lines found t → (somes found ≡ []) ⊎ Front s lines found
front_of s t [] [] h = inl refl
front_of s t [] (o ∷ found) h = absurd h
front_of s t (line ∷ lines) [] h = absurd h
front_of s t (line ∷ lines) (o ∷ found) h = elim (front_of h.0 t lines found h.2) [
  | inl e ↦ last o e h.1
  | inr k ↦ inr (record {
    front = line ∷ k.front;
    behind = k.behind;
    parts = ap (λ (ls : List (List ℕ)). line ∷ ls) k.parts;
    gave = o ∷ k.gave;
    same = somes_same o found k.gave k.same;
    stand = k.stand;
    read = (h.0, h.1, k.read);
    ends = k.ends;
  })
]
  where
    last : (o : Option Given) → somes found ≡ [] → LineGives s line h.0 o → (somes (o ∷ found) ≡ []) ⊎ Front s (line ∷ lines) (o ∷ found)
    last None e k = inl e
    last (Some g) e k = inr (record {
      front = line ∷ [];
      behind = lines;
      parts = refl;
      gave = Some g ∷ [];
      same = somes_same (Some g) found [] e;
      stand = h.0;
      read = (h.0, k, refl);
      ends = gives_end s h.0 line g k;
    })

-- The header comes first

abbrev BeginsWell : List Given → Type 0
BeginsWell [] = Unit {0}
BeginsWell (live.Header lens back channels ∷ gs) = Unit {0}
BeginsWell (g ∷ gs) = ⊥

headers_behind : (nones found : List (Option Given)) → somes nones ≡ [] → headers_in (nones ++ found) ≡ headers_in found
headers_behind [] found e = refl
headers_behind (None ∷ nones) found e = headers_behind nones found e
headers_behind (Some g ∷ nones) found e = absurd cc

nones_more : (nones : List (Option Given)) → somes nones ≡ [] → somes (nones ++ None ∷ []) ≡ []
nones_more [] e = refl
nones_more (None ∷ nones) e = nones_more nones e
nones_more (Some g ∷ nones) e = absurd cc

begins : (g : Given) (gs : List Given) (h : LiveHeader) → headers_in (Some g ∷ []) ≡ h ∷ [] → BeginsWell (g ∷ gs)
begins (live.Header lens back channels) gs h e = tt
begins (live.Line l) gs h e = absurd cc
begins (live.Block ls) gs h e = absurd cc

first_from : (s t : LiveStand) (before : List (List ℕ)) (nones : List (Option Given)) (lines : List (List ℕ)) (found : List (Option Given)) → LinesGive live_start before nones s → somes nones ≡ [] → LinesGive s lines found t → BeginsWell (somes found)
first_from s t before nones [] [] b e h = tt
first_from s t before nones [] (o ∷ found) b e h = absurd h
first_from s t before nones (line ∷ lines) [] b e h = absurd h
first_from s t before nones (line ∷ lines) (None ∷ found) b e h =
    first_from h.0 t (before ++ line ∷ []) (nones ++ None ∷ []) lines found (given_spelled.more live_start s h.0 before nones line None b h.1) (nones_more nones e) h.2
first_from s t before nones (line ∷ lines) (Some g ∷ found) b e h =
    let read = given_spelled.more live_start s h.0 before nones line (Some g) b h.1 in
    let k = given_spelled.spelled (before ++ line ∷ []) (nones ++ Some g ∷ []) h.0 read (gives_end s h.0 line g h.1) in
    begins g (somes found) k.0 (sym (headers_behind nones (Some g ∷ []) e) ∙ k.1)

-- One header, and commands

abbrev headers_all : List Given → List LiveHeader
headers_all [] = []
headers_all (live.Header lens back channels ∷ gs) = record { lens = lens; back = back; channels = channels } ∷ headers_all gs
headers_all (g ∷ gs) = headers_all gs

headers_same : (found : List (Option Given)) → headers_in found ≡ headers_all (somes found)
headers_same [] = refl
headers_same (None ∷ found) = headers_same found
headers_same (Some (live.Header lens back channels) ∷ found) =
    ap (λ (hs : List LiveHeader). record { lens = lens; back = back; channels = channels } ∷ hs) (headers_same found)
headers_same (Some (live.Line l) ∷ found) = headers_same found
headers_same (Some (live.Block ls) ∷ found) = headers_same found

commands_same : (found : List (Option Given)) → commands_in found ≡ commands_of (somes found)
commands_same [] = refl
commands_same (None ∷ found) = commands_same found
commands_same (Some (live.Header lens back channels) ∷ found) = commands_same found
commands_same (Some (live.Line l) ∷ found) = ap (λ (cs : List LiveCommand). Line l ∷ cs) (commands_same found)
commands_same (Some (live.Block ls) ∷ found) = ap (λ (cs : List LiveCommand). Block ls.items ∷ cs) (commands_same found)

none_is_header : (gs : List Given) → headers_all gs ≡ [] → list_all is_command gs ≡ true
none_is_header [] e = refl
none_is_header (live.Header lens back channels ∷ gs) e = absurd cc
none_is_header (live.Line l ∷ gs) e = none_is_header gs e
none_is_header (live.Block ls ∷ gs) e = none_is_header gs e

pub record IsOne (gs : List Given) (h : LiveHeader) : Type 0 where
  pub header : header_of gs ≡ Some h
  pub others : list_all is_command (drop 1 gs) ≡ true

abbrev some_header : LiveHeader → Option LiveHeader
some_header h = Some h

first_same : (h k : LiveHeader) (hs ks : List LiveHeader) → h ∷ hs ≡ k ∷ ks → (h ≡ k) × (hs ≡ ks)
first_same h k hs ks e = (cc, cc)

one_header : (gs : List Given) (h : LiveHeader) → BeginsWell gs → headers_all gs ≡ h ∷ [] → IsOne gs h
one_header [] h b e = absurd cc
one_header (live.Header lens back channels ∷ gs) h b e =
    let k = first_same (record { lens = lens; back = back; channels = channels }) h (headers_all gs) [] e in
    record { header = ap some_header k.0; others = none_is_header gs k.1 }
one_header (live.Line l ∷ gs) h b e = absurd b
one_header (live.Block ls ∷ gs) h b e = absurd b

-- lines that were read up to where the text may end
pub record Spelled (lines : List (List ℕ)) (gs : List Given) : Type 0 where
  pub h : LiveHeader
  pub one : IsOne gs h
  pub spelled : SpellsLive (text_of_lines lines) h (commands_of gs)

whole_spelled : (lines : List (List ℕ)) (found : List (Option Given)) (t : LiveStand) (gs : List Given) → LinesGive live_start lines found t → may_end t.spot ≡ true → somes found ≡ gs → BeginsWell gs → Spelled lines gs
whole_spelled lines found t gs read ends same first =
    let k = given_spelled.spelled lines found t read ends in
    record {
      h = k.0;
      one = one_header gs k.0 first (ap headers_all (sym same) ∙ sym (headers_same found) ∙ k.1);
      spelled = subst (λ (cs : List LiveCommand). SpellsLive (text_of_lines lines) k.0 cs) (commands_same found ∙ ap commands_of same) k.2;
    }

fed_first : (text : List ℕ) (gs : List Given) (f : FeedState) → Fed text gs f → BeginsWell gs
fed_first text gs f h = subst BeginsWell h.gave (first_from live_start f.stand [] [] h.lines h.found refl refl h.read)

pub end_spelled : (text : List ℕ) (gs : List Given) (f : FeedState) → Fed text gs f → f.rest ≡ [] → may_end f.stand.spot ≡ true
    → (h : LiveHeader) × (header_of gs ≡ Some h) × (list_all is_command (drop 1 gs) ≡ true) × SpellsLive text h (commands_of gs)
end_spelled text gs f h none ends =
    let k = whole_spelled h.lines h.found f.stand gs h.read ends h.gave (fed_first text gs f h) in
    let parts : text ≡ text_of_lines h.lines = h.whole ∙ ap (λ (t : List ℕ). text_of_lines h.lines ++ t) none ∙ append-nil (text_of_lines h.lines) in
    (k.h, k.one.header, k.one.others, subst (λ (t : List ℕ). SpellsLive t k.h (commands_of gs)) (sym parts) k.spelled)

pub fed_spelled : FedIsSpelled
fed_spelled text gs f h some = elim (front_of live_start f.stand h.lines h.found h.read) [
  | inl e ↦ absurd (omega (arith, some, ap (λ (xs : List Given). length xs) (sym h.gave ∙ e)))
  | inr p ↦ fronts p
]
  where
    fronts : Front live_start h.lines h.found → IsSpelled text gs
    fronts p =
        let k = whole_spelled p.front p.gave p.stand gs p.read p.ends (sym p.same ∙ h.gave) (fed_first text gs f h) in
        record {
          h = k.h;
          header = k.one.header;
          others = k.one.others;
          front = text_of_lines p.front;
          behind = text_of_lines p.behind ++ f.rest;
          parts = h.whole ∙ ap (λ (ls : List (List ℕ)). text_of_lines ls ++ f.rest) p.parts ∙ ap (λ (t : List ℕ). t ++ f.rest) (lines_both p.front p.behind)
              ∙ append_assoc (text_of_lines p.front) (text_of_lines p.behind) f.rest;
          spelled = k.spelled;
        }

-- What is given next

last_spelled : (channels n : ℕ) (cs : List LiveCommand) (c : LiveCommand) (es : List Entry) → SpellCommands channels n (cs ++ c ∷ []) es → (m : ℕ) × (x : List Entry) × SpellsCommand channels m c x
last_spelled channels n [] c es h = (n, h.0, h.3)
last_spelled channels n (d ∷ cs) c es h = last_spelled channels (n + length h.0) cs c h.1 h.4

last_command : (gs : List Given) (g : Given) → list_all is_command (gs ++ g ∷ []) ≡ true → is_command g ≡ true
last_command [] (live.Header lens back channels) e = absurd cc
last_command [] (live.Line l) e = refl
last_command [] (live.Block ls) e = refl
last_command (live.Header lens back channels ∷ gs) g e = absurd cc
last_command (live.Line l ∷ gs) g e = last_command gs g e
last_command (live.Block ls ∷ gs) g e = last_command gs g e

same_header : (h k : LiveHeader) → some_header h ≡ some_header k → k ≡ h
same_header h k e = cc

good_first : (text : List ℕ) (g : Given) (h : LiveHeader) → header_of (g ∷ []) ≡ Some h → SpellsLive text h [] → IsGood None g
good_first text (live.Header lens back channels) h e p =
    let k = makes_sections text h [] p in
    let same = same_header (record { lens = lens; back = back; channels = channels }) h e in
    subst (λ (x : LiveHeader). (1 ≤ x.channels) × (x.channels ≤ 4)) same (k.some_channel, k.most_channels)
good_first text (live.Line l) h e p = absurd cc
good_first text (live.Block ls) h e p = absurd cc

good_behind : (text : List ℕ) (gs : List Given) (g : Given) (h : LiveHeader) → is_command g ≡ true → SpellsLive text h (commands_of (gs ++ g ∷ [])) → IsGood (Some h) g
good_behind text gs (live.Header lens back channels) h e p = absurd cc
good_behind text gs (live.Line l) h e p =
    let k = last_spelled h.channels (2 + length p.header_lines) (commands_of gs) (Line l) p.lines
    (subst (λ (cs : List LiveCommand). SpellCommands h.channels (2 + length p.header_lines) cs p.lines) (commands_more gs (live.Line l ∷ [])) p.commands) in
    (k.2.fitting, k.2.goes)
good_behind text gs (live.Block ls) h e p =
    let k = last_spelled h.channels (2 + length p.header_lines) (commands_of gs) (Block ls.items) p.lines
    (subst (λ (cs : List LiveCommand). SpellCommands h.channels (2 + length p.header_lines) cs p.lines) (commands_more gs (live.Block ls ∷ [])) p.commands) in
    (k.2.fitting, k.2.closed, k.2.once)

good_by : (text : List ℕ) (gs : List Given) (g : Given) (h : LiveHeader) → header_of (gs ++ g ∷ []) ≡ Some h → list_all is_command (drop 1 (gs ++ g ∷ [])) ≡ true → SpellsLive text h (commands_of (gs ++ g ∷ [])) → IsGood (header_of gs) g
good_by text [] (live.Header lens back channels) h e o p = good_first text (live.Header lens back channels) h e p
good_by text [] (live.Line l) h e o p = absurd cc
good_by text [] (live.Block ls) h e o p = absurd cc
good_by text (live.Header lens back channels ∷ gs) g h e o p =
    subst (λ (x : LiveHeader). IsGood (Some x) g) (same_header (record { lens = lens; back = back; channels = channels }) h e) (good_behind text gs g h (last_command gs g o) p)
good_by text (live.Line l ∷ gs) g h e o p = absurd cc
good_by text (live.Block ls ∷ gs) g h e o p = absurd cc

pub fed_good : (text : List ℕ) (gs : List Given) (g : Given) (f : FeedState) → Fed text (gs ++ g ∷ []) f → IsGood (header_of gs) g
fed_good text gs g f h =
    let p = fed_spelled text (gs ++ g ∷ []) f h (omega (arith, length-append gs (g ∷ []))) in
    good_by p.front gs g p.h p.header p.others p.spelled
