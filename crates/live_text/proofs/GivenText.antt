-- What was given while a live text was read is spelled by it.
use Rattle.std.proofs.Common.{◌≡◌, ℕ, ◌+◌, ◌-◌, ◌<◌, ◌≤◌, arith, refl, true, false, cond, ap, sym, ◌∙◌, Bool, List, [], ◌∷◌, ◌++◌, length, map, subst, Result, Ok, Err, Option, Some, None, append_assoc, eqb, ltb, ◌⊎◌, inl, inr}
use Rattle.std.specs.Prelude.{codes}
use Rattle.std.specs.List.{list_all}
use Rattle.std.specs.Str.{bytes_eq}
use Rattle.std.specs.Fmt.{signed_decimal}
use Rattle.std.proofs.lemmas.Bool.{eqb-true}
use Rattle.std.proofs.lemmas.List.{append-nil, length-append}
use Rattle.fx_math.specs.declared.lenses.Lens.{Lens}
use Rattle.play_format.specs.declared.refusal.Refusal.{Refusal}
use Rattle.play_format.specs.declared.places.Version.{Version}
use Rattle.play_format.specs.declared.places.Version.TheVariants as version
use Rattle.play_format.specs.declared.places.Spot.{Spot}
use Rattle.play_format.specs.Words.{pieces}
use Rattle.play_format.specs.Commands.{Entry, text_of, tail_of, limits_of}
use Rattle.play_format.specs.Places.{is_app, is_triangle, stands_at, may_end, start, AreWithin}
use Rattle.play_format.specs.Grammar.{◌>>=◌, at_line, entry_at}
use Rattle.play_format.specs.Spelling.{text_of_lines, line_of, app_lines, base_entries, header_entries}
use Rattle.play_format.proofs.ReadingLemmas.{bytes_yes}
use Rattle.play_format.proofs.EntryLemmas.{channels_within}
use Rattle.play_format.proofs.SpellLemmas.{both_true}
use Rattle.play_format.proofs.LawLemmas.{has_no, words_clear, line_spelled}
use Rattle.play_format.proofs.TextLemmas.{join_has_no, pieces_of_lines}
use Rattle.live_text.specs.declared.given.Given.{Given}
use Rattle.live_text.specs.declared.given.Given.TheVariants as given
use Rattle.live_text.specs.LiveGrammar.{first_word, place_for, spot_for, live_entry_at, live_next, entries_at, spot_behind, live_judged, live_from, live_reading, end_refusal, unless}
use Rattle.live_text.specs.LiveCommands.{LiveCommand, Line, Block, LiveHeader, SpellsHeader, SpellsLine, SpellsBlock, SpellsCommand, SpellCommands, SpellsLive}
use Rattle.live_text.specs.Stands.{LiveStand, live_start, live_step, stand_behind, begun_at, SpellsGiven, LineGives, LinesGive, headers_in, commands_in}
use Rattle.live_text.specs.Laws.{GivenIsSpelled}
use Rattle.live_text.proofs.LawLemmas.{from_line, from_last, step_entries}
use Rattle.live_text.proofs.Reading.{read_entries, text_entries, entries_by, live_judged_ok, entry_fits}
use Rattle.live_text.proofs.OneReading.{command_some}
use Rattle.live_text.proofs.GivenLines.{is_behind, Stays, stays, goes, app_ends, ahead_goes, none_app, none_both, one_app, no_app, line_no_app, block_no_app, header_has_app}

-- One line more

gives_more : (s t u : LiveStand) (lines : List (List ℕ)) (gs : List (Option Given)) (line : List ℕ) (found : Option Given) → LinesGive s lines gs t → LineGives t line u found → LinesGive s (lines ++ line ∷ []) (gs ++ found ∷ []) u
gives_more s t u [] [] line found h k = (u, subst (λ (v : LiveStand). LineGives v line u found) (sym h) k, refl)
gives_more s t u [] (g ∷ gs) line found h k = absurd h
gives_more s t u (l ∷ lines) [] line found h k = absurd h
gives_more s t u (l ∷ lines) (g ∷ gs) line found h k = (h.0, h.1, gives_more h.0 t u lines gs line found h.2 k)

-- A stand between two lines, behind the first

pub record Between (s : LiveStand) : Type 0 where
  pub later : 1 < s.line
  pub version : s.spot.version ≡ version.Two
  pub some : 1 ≤ s.spot.channels
  pub few : s.spot.channels ≤ 4
  pub none : none_app s.begun ≡ true
  pub count : 2 + length s.begun ≤ s.line

-- behind the header
pub record Behind (s : LiveStand) : Type 0 where
  pub between : Between s
  pub place : is_behind s.spot.place ≡ true
  pub settled : may_end s.spot ≡ true → s.begun ≡ []

-- in the header
pub record Ahead (s : LiveStand) : Type 0 where
  pub between : Between s
  pub place : is_behind s.spot.place ≡ false
  pub number : 2 + length s.begun ≡ s.line

-- the lines begun, with one line more
abbrev all_of : LiveStand → Entry → List Entry
all_of s e = s.begun ++ e ∷ []

abbrev next_of : LiveStand → Entry → Spot
next_of s e = live_next s.spot e.0 e.1

-- a stand, by whether a text may end there
abbrev stand_by : Bool → LiveStand → Entry → LiveStand
stand_by b s e = record { line = s.line + 1; spot = next_of s e; begun = cond b [] (all_of s e) }

abbrev whole_by : Bool → LiveStand → Entry → List Entry
whole_by b s e = cond b (all_of s e) []

-- a line behind the first that was read
pub record Entered (s : LiveStand) (line : List ℕ) (e : Entry) : Type 0 where
  pub judged : live_judged s.line line (entries_at s.line s.spot line) ≡ Ok (e ∷ [])
  pub stands : cond (ltb 0 s.spot.due) (is_triangle e.0) (stands_at version.Two (place_for s.spot.place (first_word line)) e.0) ≡ true
  pub within : AreWithin (limits_of s.spot.channels e.0) e.1
  pub clear : has_no 10 line ≡ true

line_clear : (s : Spot) (line : List ℕ) (e : Entry) → s.channels ≤ 4 → AreWithin (limits_of s.channels e.0) e.1 → entry_at s line ≡ Ok e → has_no 10 line ≡ true
line_clear s line e few w h =
    let k : has_no 10 (line_of e) ≡ true = join_has_no (text_of e.0) (map signed_decimal e.1 ++ tail_of e.0) (words_clear s.channels e.0 e.1 few w) in
    subst (λ (l : List ℕ). has_no 10 l ≡ true) (sym (line_spelled s line e.0 e.1 few h)) k

entered_of : (s : LiveStand) (line : List ℕ) (e : Entry) → Between s → live_judged s.line line (entries_at s.line s.spot line) ≡ Ok (e ∷ []) → live_entry_at s.spot line ≡ Ok e → Entered s line e
entered_of s line e b j h =
    let f = entry_fits s.spot line e h in
    record {
      judged = j;
      stands = subst (λ (v : Version). cond (ltb 0 s.spot.due) (is_triangle e.0) (stands_at v (place_for s.spot.place (first_word line)) e.0) ≡ true) b.version f.1.stands;
      within = f.1.within;
      clear = line_clear (spot_for s.spot (first_word line)) line e b.few f.1.within f.0;
    }

-- a line that was read behind the first has an entry
entered : (s : LiveStand) (line : List ℕ) (es : List Entry) → Between s → live_judged s.line line (entries_at s.line s.spot line) ≡ Ok es → (e : Entry) × (es ≡ e ∷ []) × Entered s line e
entered s line es b j = elim (entries_by (eqb s.line 1) (bytes_eq line (codes "perfly live 1")) (live_entry_at s.spot line) es (live_judged_ok s.line line (entries_at s.line s.spot line) es j)) [
  | inl k ↦ let one = eqb-true _ _ k.0 in absurd (omega (arith, one, b.later))
  | inr k ↦ (k.1, k.3, entered_of s line k.1 b (subst (λ (xs : List Entry). live_judged s.line line (entries_at s.line s.spot line) ≡ Ok xs) k.3 j) k.2)
]

pushed_count : (s : LiveStand) (e : Entry) → length (all_of s e) ≡ length s.begun + 1
pushed_count s e = length-append s.begun (e ∷ [])

none_by : (b : Bool) (xs : List Entry) → none_app xs ≡ true → none_app (cond b [] xs) ≡ true
none_by true xs h = refl
none_by false xs h = h

few_by : (b : Bool) (xs : List Entry) → length (cond b [] xs) ≤ length xs
few_by true xs = omega arith
few_by false xs = omega arith

between_next : (b : Bool) (s : LiveStand) (line : List ℕ) (e : Entry) → Between s → Entered s line e → none_app (cond b [] (all_of s e)) ≡ true → Between (stand_by b s e)
between_next b s line e h k none =
    let c = channels_within s.spot.channels e.0 e.1 h.some h.few k.within in
    record {
      later = omega (arith, h.later);
      version = h.version;
      some = c.0;
      few = c.1;
      none = none;
      count = omega (arith, h.count, few_by b (all_of s e), pushed_count s e);
    }

-- Behind the header

pub record RunBehind (s : LiveStand) (lines : List (List ℕ)) (gs : List (Option Given)) : Type 0 where
  pub es : List Entry
  pub read : live_from s.spot s.line (lines ++ [] ∷ []) ≡ Ok es
  pub clear : list_all (has_no 10) lines ≡ true
  pub headers : headers_in gs ≡ []
  pub commands : SpellCommands s.spot.channels (begun_at s) (commands_in gs) (s.begun ++ es)

-- what the lines read so far make of what was given
record GivenBehind (s : LiveStand) (gs : List (Option Given)) (es : List Entry) : Type 0 where
  headers : headers_in gs ≡ []
  commands : SpellCommands s.spot.channels (begun_at s) (commands_in gs) (s.begun ++ es)

begun_same : (s : LiveStand) (e : Entry) → 2 + length s.begun ≤ s.line → s.line + 1 - length (all_of s e) ≡ begun_at s
begun_same s e h = omega (arith, h, pushed_count s e)

whole_number : (s : LiveStand) (e : Entry) → 2 + length s.begun ≤ s.line → s.line + 1 - 0 ≡ begun_at s + length (all_of s e)
whole_number s e h = omega (arith, h, pushed_count s e)

not_empty : (s : LiveStand) (e : Entry) → all_of s e ≡ [] → ⊥
not_empty s e h = absurd (omega (arith, pushed_count s e, ap (λ (xs : List Entry). length xs) h))

whole_none_app : (b : Bool) (s : LiveStand) (e : Entry) → none_app (all_of s e) ≡ true → none_app (whole_by b s e) ≡ true
whole_none_app true s e h = h
whole_none_app false s e h = refl

command_given : (b : Bool) (s : LiveStand) (e : Entry) (c : LiveCommand) (cs : List LiveCommand) (es : List Entry) → 2 + length s.begun ≤ s.line → SpellsCommand s.spot.channels (begun_at s) c (whole_by b s e)
    → SpellCommands s.spot.channels (begun_at (stand_by b s e)) cs ((stand_by b s e).begun ++ es) → SpellCommands s.spot.channels (begun_at s) (c ∷ cs) (s.begun ++ e ∷ es)
command_given false s e c cs es few h k = absurd (omega (arith, command_some s.spot.channels (begun_at s) c [] h))
command_given true s e c cs es few h k =
    (all_of s e, es, sym (append_assoc s.begun (e ∷ []) es), h, subst (λ (n : ℕ). SpellCommands s.spot.channels n cs es) (whole_number s e few) k)

nothing_given : (b : Bool) (s : LiveStand) (e : Entry) (cs : List LiveCommand) (es : List Entry) → 2 + length s.begun ≤ s.line → whole_by b s e ≡ []
    → SpellCommands s.spot.channels (begun_at (stand_by b s e)) cs ((stand_by b s e).begun ++ es) → SpellCommands s.spot.channels (begun_at s) cs (s.begun ++ e ∷ es)
nothing_given true s e cs es few h k = absurd (not_empty s e h)
nothing_given false s e cs es few h k =
    subst (λ (n : ℕ). SpellCommands s.spot.channels n cs (s.begun ++ e ∷ es)) (begun_same s e few)
    (subst (λ (xs : List Entry). SpellCommands s.spot.channels (s.line + 1 - length (all_of s e)) cs xs) (append_assoc s.begun (e ∷ []) es) k)

no_header : (h : LiveHeader) (xs : List Entry) → SpellsHeader h xs → none_app xs ≡ true → ⊥
no_header h xs p n = let k : true ≡ false = sym n ∙ ap none_app p.lines ∙ header_has_app p.says h.lens h.back h.channels in absurd cc

given_behind : (b : Bool) (s : LiveStand) (e : Entry) (found : Option Given) (gs : List (Option Given)) (es : List Entry) → 2 + length s.begun ≤ s.line → none_app (all_of s e) ≡ true
    → SpellsGiven s.spot.channels (begun_at s) found (whole_by b s e) → headers_in gs ≡ [] → SpellCommands s.spot.channels (begun_at (stand_by b s e)) (commands_in gs) ((stand_by b s e).begun ++ es) → GivenBehind s (found ∷ gs) (e ∷ es)
given_behind b s e None gs es few n p h k = record { headers = h; commands = nothing_given b s e (commands_in gs) es few p k }
given_behind b s e (Some (given.Header lens back count)) gs es few n p h k =
    absurd (no_header (record { lens = lens; back = back; channels = count }) (whole_by b s e) p.0 (whole_none_app b s e n))
given_behind b s e (Some (given.Line l)) gs es few n p h k = record { headers = h; commands = command_given b s e (Line l) (commands_in gs) es few p k }
given_behind b s e (Some (given.Block ls)) gs es few n p h k = record { headers = h; commands = command_given b s e (Block ls.items) (commands_in gs) es few p k }

some_left : (lines : List (List ℕ)) → 0 < length (lines ++ [] ∷ [])
some_left lines = omega (arith, length-append lines ([] ∷ []))

-- what is read from a line on
read_more : (s : LiveStand) (line : List ℕ) (lines : List (List ℕ)) (e : Entry) (es : List Entry) → Entered s line e → live_from (next_of s e) (s.line + 1) (lines ++ [] ∷ []) ≡ Ok es → live_from s.spot s.line (line ∷ (lines ++ [] ∷ [])) ≡ Ok (e ∷ es)
read_more s line lines e es k h =
    from_line s.spot s.line line (lines ++ [] ∷ []) (Ok (e ∷ [])) (some_left lines) k.judged ∙ ap (λ (r : Result (List Entry) Refusal). r >>= λ fs. Ok (e ∷ fs)) h

stays_at : (s : LiveStand) (line : List ℕ) (e : Entry) → Behind s → Entered s line e → Stays s.spot.place e.0 e.1 s.spot.channels
stays_at s line e h k = stays (ltb 0 s.spot.due) s.spot.place (first_word line) e.0 e.1 s.spot.channels h.place k.stands

none_next : (s : LiveStand) (e : Entry) → Between s → is_app e.0 ≡ false → none_app (all_of s e) ≡ true
none_next s e h n = none_both s.begun (e ∷ []) h.none (no_app e n)

settled_by : (b : Bool) (t : Spot) (xs : List Entry) → may_end t ≡ b → may_end t ≡ true → cond b [] xs ≡ []
settled_by true t xs e f = refl
settled_by false t xs e f = let k : false ≡ true = sym e ∙ f in absurd cc

behind_next : (s : LiveStand) (line : List ℕ) (e : Entry) → Behind s → Entered s line e → Behind (stand_by (may_end (next_of s e)) s e)
behind_next s line e h k =
    let m = stays_at s line e h k in
    let b = may_end (next_of s e) in
    record {
      between = between_next b s line e h.between k (none_by b (all_of s e) (none_next s e h.between m.no_app));
      place = m.place;
      settled = λ f. settled_by b (next_of s e) (all_of s e) refl f;
    }

behind_line : (s : LiveStand) (line : List ℕ) (lines : List (List ℕ)) (e : Entry) (found : Option Given) (gs : List (Option Given)) → Behind s → Entered s line e
    → SpellsGiven (next_of s e).channels (begun_at s) found (whole_by (may_end (next_of s e)) s e) → RunBehind (stand_by (may_end (next_of s e)) s e) lines gs → RunBehind s (line ∷ lines) (found ∷ gs)
behind_line s line lines e found gs h k p r =
    let m = stays_at s line e h k in
    let b = may_end (next_of s e) in
    let u = stand_by b s e in
    let q : SpellsGiven s.spot.channels (begun_at s) found (whole_by b s e) = subst (λ (n : ℕ). SpellsGiven n (begun_at s) found (whole_by b s e)) m.channels p in
    let c : SpellCommands s.spot.channels (begun_at u) (commands_in gs) (u.begun ++ r.es) = subst (λ (n : ℕ). SpellCommands n (begun_at u) (commands_in gs) (u.begun ++ r.es)) m.channels r.commands in
    let g = given_behind b s e found gs r.es h.between.count (none_next s e h.between m.no_app) q r.headers c in
    record { es = e ∷ r.es; read = read_more s line lines e r.es k r.read; clear = both_true (has_no 10 line) (list_all (has_no 10) lines) k.clear r.clear; headers = g.headers; commands = g.commands }

-- the step of a line, and what it gives
record Step (s u : LiveStand) (line : List ℕ) (found : Option Given) : Type 0 where
  e : Entry
  entered : Entered s line e
  is : stand_by (may_end (next_of s e)) s e ≡ u
  spelled : SpellsGiven (next_of s e).channels (begun_at s) found (whole_by (may_end (next_of s e)) s e)

abbrev given_at : LiveStand → Option Given → LiveStand × List Entry → Type 0
given_at s found p = SpellsGiven p.0.spot.channels (begun_at s) found p.1

step_of : (s u : LiveStand) (line : List ℕ) (found : Option Given) → Between s → LineGives s line u found → Step s u line found
step_of s u line found b g =
    let k = step_entries s (ltb 536870911 s.line) (ltb 1024 (length line)) (entries_at s.line s.spot line) (u, g.whole) g.step in
    let t = entered s line k.0 b k.1 in
    let is : stand_behind s (t.0 ∷ []) ≡ (u, g.whole) = ap (stand_behind s) (sym t.1) ∙ k.2 in
    record { e = t.0; entered = t.2; is = ap (λ (p : LiveStand × List Entry). p.0) is; spelled = subst (given_at s found) (sym is) g.spelled }

ended : (s : LiveStand) → may_end s.spot ≡ true → live_from s.spot s.line ([] ∷ []) ≡ text_entries []
ended s e = from_last s.spot s.line [] ∙ rw e refl

behind_run : (s t : LiveStand) (lines : List (List ℕ)) (gs : List (Option Given)) → Behind s → LinesGive s lines gs t → may_end t.spot ≡ true → RunBehind s lines gs
behind_run s t [] [] h k m =
    let e : may_end s.spot ≡ true = ap (λ (v : LiveStand). may_end v.spot) k ∙ m in
    record { es = []; read = ended s e; clear = refl; headers = refl; commands = append-nil s.begun ∙ h.settled e }
behind_run s t [] (g ∷ gs) h k m = absurd k
behind_run s t (line ∷ lines) [] h k m = absurd k
behind_run s t (line ∷ lines) (found ∷ gs) h k m =
    let p = step_of s k.0 line found h.between k.1 in
    let b : Behind k.0 = subst Behind p.is (behind_next s line p.e h p.entered) in
    let r = behind_run k.0 t lines gs b k.2 m in
    behind_line s line lines p.e found gs h p.entered p.spelled (subst (λ (v : LiveStand). RunBehind v lines gs) (sym p.is) r)

-- In the header

pub record RunAhead (s : LiveStand) (lines : List (List ℕ)) (gs : List (Option Given)) : Type 0 where
  pub es : List Entry
  pub read : live_from s.spot s.line (lines ++ [] ∷ []) ≡ Ok es
  pub clear : list_all (has_no 10) lines ≡ true
  pub h : LiveHeader
  pub headers : headers_in gs ≡ h ∷ []
  pub front : List Entry
  pub behind : List Entry
  pub parts : s.begun ++ es ≡ front ++ behind
  pub header : SpellsHeader h front
  pub commands : SpellCommands h.channels (2 + length front) (commands_in gs) behind

no_line : (s : LiveStand) (e : Entry) (xs : List Entry) → is_app e.0 ≡ true → all_of s e ≡ xs → none_app xs ≡ true → ⊥
no_line s e xs a h n = let k : false ≡ true = sym (one_app s.begun e a) ∙ ap none_app h ∙ n in absurd cc

app_number : (s : LiveStand) (e : Entry) → 2 + length s.begun ≡ s.line → s.line + 1 - 0 ≡ 2 + length (all_of s e)
app_number s e h = omega (arith, h, pushed_count s e)

abbrev header_of : Lens → List ℕ → ℕ → LiveHeader
header_of lens back channels = record { lens = lens; back = back; channels = channels }

-- `app` was read
app_line : (s : LiveStand) (line : List ℕ) (lines : List (List ℕ)) (e : Entry) (found : Option Given) (gs : List (Option Given)) → Ahead s → Entered s line e → is_app e.0 ≡ true
    → SpellsGiven (next_of s e).channels (begun_at s) found (all_of s e) → RunBehind (stand_by true s e) lines gs → RunAhead s (line ∷ lines) (found ∷ gs)
app_line s line lines e None gs h k a p r = absurd (not_empty s e p)
app_line s line lines e (Some (given.Line l)) gs h k a p r = absurd (no_line s e (app_lines l.step) a p.lines (line_no_app l.step))
app_line s line lines e (Some (given.Block ls)) gs h k a p r = absurd (no_line s e (base_entries ls.items) a p.lines (block_no_app ls.items))
app_line s line lines e (Some (given.Header lens back count)) gs h k a p r =
    record {
      es = e ∷ r.es;
      read = read_more s line lines e r.es k r.read;
      clear = both_true (has_no 10 line) (list_all (has_no 10) lines) k.clear r.clear;
      h = header_of lens back count;
      headers = ap (λ (hs : List LiveHeader). header_of lens back count ∷ hs) r.headers;
      front = all_of s e;
      behind = r.es;
      parts = sym (append_assoc s.begun (e ∷ []) r.es);
      header = p.0;
      commands = subst (λ (n : ℕ). SpellCommands n (2 + length (all_of s e)) (commands_in gs) r.es) (sym p.1)
          (subst (λ (n : ℕ). SpellCommands (next_of s e).channels n (commands_in gs) r.es) (app_number s e h.number) r.commands);
    }

-- another line of the header was read, and the rest makes this
more_ahead : (s : LiveStand) (line : List ℕ) (lines : List (List ℕ)) (e : Entry) (gs : List (Option Given)) → Entered s line e → RunAhead (stand_by false s e) lines gs → RunAhead s (line ∷ lines) (None ∷ gs)
more_ahead s line lines e gs k r =
    record {
      es = e ∷ r.es;
      read = read_more s line lines e r.es k r.read;
      clear = both_true (has_no 10 line) (list_all (has_no 10) lines) k.clear r.clear;
      h = r.h;
      headers = r.headers;
      front = r.front;
      behind = r.behind;
      parts = sym (append_assoc s.begun (e ∷ []) r.es) ∙ r.parts;
      header = r.header;
      commands = r.commands;
    }

header_line : (s : LiveStand) (line : List ℕ) (lines : List (List ℕ)) (e : Entry) (found : Option Given) (gs : List (Option Given)) → Entered s line e → SpellsGiven (next_of s e).channels (begun_at s) found []
    → RunAhead (stand_by false s e) lines gs → RunAhead s (line ∷ lines) (found ∷ gs)
header_line s line lines e None gs k p r = more_ahead s line lines e gs k r
header_line s line lines e (Some (given.Line l)) gs k p r = absurd (omega (arith, command_some (next_of s e).channels (begun_at s) (Line l) [] p))
header_line s line lines e (Some (given.Block ls)) gs k p r = absurd (omega (arith, command_some (next_of s e).channels (begun_at s) (Block ls.items) [] p))
header_line s line lines e (Some (given.Header lens back count)) gs k p r = absurd (no_header (header_of lens back count) [] p.0 refl)

goes_at : (s : LiveStand) (line : List ℕ) (e : Entry) → Ahead s → Entered s line e → is_behind (next_of s e).place ≡ is_app e.0
goes_at s line e h k = goes (ltb 0 s.spot.due) s.spot.place (first_word line) e.0 h.place k.stands

-- a stand behind `app`
app_next : (s : LiveStand) (line : List ℕ) (e : Entry) → Ahead s → Entered s line e → is_app e.0 ≡ true → Behind (stand_by true s e)
app_next s line e h k a = record { between = between_next true s line e h.between k refl; place = goes_at s line e h k ∙ a; settled = λ f. refl }

ahead_next : (s : LiveStand) (line : List ℕ) (e : Entry) → Ahead s → Entered s line e → is_app e.0 ≡ false → Ahead (stand_by false s e)
ahead_next s line e h k a =
    record { between = between_next false s line e h.between k (none_next s e h.between a); place = goes_at s line e h k ∙ a; number = omega (arith, h.number, pushed_count s e) }

-- a step, where it is known whether a text may end behind it
record StepBy (b : Bool) (s u : LiveStand) (line : List ℕ) (found : Option Given) (e : Entry) : Type 0 where
  is : stand_by b s e ≡ u
  spelled : SpellsGiven (next_of s e).channels (begun_at s) found (whole_by b s e)

step_by : (b : Bool) (s u : LiveStand) (line : List ℕ) (found : Option Given) (p : Step s u line found) → may_end (next_of s p.e) ≡ b → StepBy b s u line found p.e
step_by b s u line found p e =
    record {
      is = ap (λ (c : Bool). stand_by c s p.e) (sym e) ∙ p.is;
      spelled = subst (λ (c : Bool). SpellsGiven (next_of s p.e).channels (begun_at s) found (whole_by c s p.e)) e p.spelled;
    }

not_ahead : (s t : LiveStand) → Ahead s → s ≡ t → may_end t.spot ≡ true → ⊥
not_ahead s t h k m = let f : false ≡ true = sym (ahead_goes s.spot h.place) ∙ ap (λ (v : LiveStand). may_end v.spot) k ∙ m in absurd cc

abbrev AheadRun : LiveStand → LiveStand → List (List ℕ) → List (Option Given) → Type 0
AheadRun u t lines gs = Ahead u → LinesGive u lines gs t → may_end t.spot ≡ true → RunAhead u lines gs

ahead_by : (a : Bool) (s u t : LiveStand) (line : List ℕ) (lines : List (List ℕ)) (found : Option Given) (gs : List (Option Given)) (p : Step s u line found) → is_app p.e.0 ≡ a
    → Ahead s → LinesGive u lines gs t → may_end t.spot ≡ true → AheadRun u t lines gs → RunAhead s (line ∷ lines) (found ∷ gs)
ahead_by true s u t line lines found gs p a h k m run =
    let q = step_by true s u line found p (app_ends s.spot p.e.0 p.e.1 a) in
    let r = behind_run u t lines gs (subst Behind q.is (app_next s line p.e h p.entered a)) k m in
    app_line s line lines p.e found gs h p.entered a q.spelled (subst (λ (v : LiveStand). RunBehind v lines gs) (sym q.is) r)
ahead_by false s u t line lines found gs p a h k m run =
    let place : is_behind (next_of s p.e).place ≡ false = goes_at s line p.e h p.entered ∙ a in
    let q = step_by false s u line found p (ahead_goes (next_of s p.e) place) in
    let r = run (subst Ahead q.is (ahead_next s line p.e h p.entered a)) k m in
    header_line s line lines p.e found gs p.entered q.spelled (subst (λ (v : LiveStand). RunAhead v lines gs) (sym q.is) r)

ahead_run : (s t : LiveStand) (lines : List (List ℕ)) (gs : List (Option Given)) → Ahead s → LinesGive s lines gs t → may_end t.spot ≡ true → RunAhead s lines gs
ahead_run s t [] [] h k m = absurd (not_ahead s t h k m)
ahead_run s t [] (g ∷ gs) h k m = absurd k
ahead_run s t (line ∷ lines) [] h k m = absurd k
ahead_run s t (line ∷ lines) (found ∷ gs) h k m =
    let p = step_of s k.0 line found h.between k.1 in
    ahead_by (is_app p.e.0) s k.0 t line lines found gs p refl h k.2 m (λ a l e. ahead_run k.0 t lines gs a l e)

-- The first line

-- behind the first line
abbrev second : LiveStand
second = record { line = 2; spot = start version.Two; begun = [] }

second_ahead : Ahead second
second_ahead = record { between = record { later = omega arith; version = refl; some = omega arith; few = omega arith; none = refl; count = omega arith }; place = refl; number = refl }

record First (u : LiveStand) (line : List ℕ) (found : Option Given) : Type 0 where
  judged : live_judged 1 line (entries_at 1 (start version.Two) line) ≡ read_entries []
  clear : has_no 10 line ≡ true
  is : second ≡ u
  spelled : SpellsGiven 1 1 found []

first_clear : (line : List ℕ) → bytes_eq line (codes "perfly live 1") ≡ true → has_no 10 line ≡ true
first_clear line e = subst (λ (l : List ℕ). has_no 10 l ≡ true) (sym (bytes_yes line (codes "perfly live 1") e)) refl

first_of : (u : LiveStand) (line : List ℕ) (found : Option Given) → LineGives live_start line u found → First u line found
first_of u line found g =
    let s = live_start in
    let k = step_entries s (ltb 536870911 1) (ltb 1024 (length line)) (entries_at 1 s.spot line) (u, g.whole) g.step in
    elim (entries_by true (bytes_eq line (codes "perfly live 1")) (live_entry_at s.spot line) k.0 (live_judged_ok 1 line (entries_at 1 s.spot line) k.0 k.1)) [
      | inl f ↦
          let is : stand_behind s [] ≡ (u, g.whole) = ap (stand_behind s) (sym f.2) ∙ k.2 in
          record {
            judged = subst (λ (xs : List Entry). live_judged 1 line (entries_at 1 s.spot line) ≡ Ok xs) f.2 k.1;
            clear = first_clear line f.1;
            is = ap (λ (p : LiveStand × List Entry). p.0) is;
            spelled = subst (given_at s found) (sym is) g.spelled;
          }
      | inr f ↦ absurd cc
    ]

none_given : (found : Option Given) (gs : List (Option Given)) → SpellsGiven 1 1 found [] → (headers_in (found ∷ gs) ≡ headers_in gs) × (commands_in (found ∷ gs) ≡ commands_in gs)
none_given None gs p = (refl, refl)
none_given (Some (given.Line l)) gs p = absurd (omega (arith, command_some 1 1 (Line l) [] p))
none_given (Some (given.Block ls)) gs p = absurd (omega (arith, command_some 1 1 (Block ls.items) [] p))
none_given (Some (given.Header lens back count)) gs p = absurd (no_header (header_of lens back count) [] p.0 refl)

whole_read : (line : List ℕ) (lines : List (List ℕ)) (es : List Entry) → live_judged 1 line (entries_at 1 (start version.Two) line) ≡ read_entries [] → list_all (has_no 10) (line ∷ lines) ≡ true
    → live_from (start version.Two) 2 (lines ++ [] ∷ []) ≡ Ok es → live_reading (text_of_lines (line ∷ lines)) ≡ Ok es
whole_read line lines es j c e =
    ap (live_from (start version.Two) 1) (pieces_of_lines (line ∷ lines) c) ∙ from_line (start version.Two) 1 line (lines ++ [] ∷ []) (Ok []) (some_left lines) j
    ∙ ap (λ (r : Result (List Entry) Refusal). r >>= λ fs. Ok fs) e

spelled : (lines : List (List ℕ)) (gs : List (Option Given)) (t : LiveStand) → LinesGive live_start lines gs t → may_end t.spot ≡ true → (h : LiveHeader) × (headers_in gs ≡ h ∷ []) × SpellsLive (text_of_lines lines) h (commands_in gs)
spelled [] [] t k m = let f : false ≡ true = ap (λ (v : LiveStand). may_end v.spot) k ∙ m in absurd cc
spelled [] (g ∷ gs) t k m = absurd k
spelled (line ∷ lines) [] t k m = absurd k
spelled (line ∷ lines) (found ∷ gs) t k m =
    let f = first_of k.0 line found k.1 in
    let r = ahead_run second t lines gs second_ahead (subst (λ (v : LiveStand). LinesGive v lines gs t) (sym f.is) k.2) m in
    let n = none_given found gs f.spelled in
    let read = whole_read line lines r.es f.judged (both_true (has_no 10 line) (list_all (has_no 10) lines) f.clear r.clear) r.read in (
      r.h,
      n.0 ∙ r.headers,
      record {
        header_lines = r.front;
        lines = r.behind;
        read = read ∙ ap text_entries r.parts;
        header = r.header;
        commands = subst (λ (cs : List LiveCommand). SpellCommands r.h.channels (2 + length r.front) cs r.behind) (sym n.1) r.commands;
      },
    )

pub given_spelled : GivenIsSpelled
given_spelled = record { more = λ s t u lines gs line found h k. gives_more s t u lines gs line found h k; spelled = spelled }
