-- A text without a wrong line spells a play: its lines are taken one after the other, and make the play.
use Rattle.std.proofs.Common.{◌≡◌, ℕ, zero, suc, ◌+◌, ◌<◌, ◌≤◌, arith, refl, true, false, cond, ap, Bool, sym, ◌∙◌, List, [], ◌∷◌, ◌++◌, length, take, drop, subst, eqb, ltb, Result, Ok, Err, Option, Some, None, ◌⊎◌, inl, inr}
use Rattle.std.specs.List.{position_or_len}
use Rattle.std.specs.Result.{result_err}
use Rattle.std.proofs.lemmas.Bool.{ltb-true, ltb-false, ne_eqb}
use Rattle.std.proofs.lemmas.List.{length-drop, length-append}
use Rattle.std.proofs.lemmas.List.Sums.{fails_before_first}
use Rattle.std.proofs.lemmas.List.Splits.{slice_split_none, slice_split_first}
use Rattle.fx_math.specs.declared.lenses.Lens.{Lens}
use Rattle.pf_model.specs.declared.geometry.Tri.{Tri}
use Rattle.pf_model.specs.declared.lines.AppStep.{AppStep}
use Rattle.pf_model.specs.declared.lines.AppLine.{AppLine}
use Rattle.pf_model.specs.declared.lines.BaseStep.{BaseStep}
use Rattle.pf_model.specs.declared.lines.BaseLine.{BaseLine}
use Rattle.play_format.specs.declared.refusal.Why.{Why}
use Rattle.play_format.specs.declared.refusal.Why.TheVariants as whys
use Rattle.play_format.specs.declared.refusal.Refusal.{Refusal}
use Rattle.play_format.specs.declared.commands.Command.{Command}
use Rattle.play_format.specs.declared.commands.Command.TheVariants as command
use Rattle.play_format.specs.declared.places.Version.{Version}
use Rattle.play_format.specs.declared.places.Place.{Place}
use Rattle.play_format.specs.declared.places.Place.TheVariants as place
use Rattle.play_format.specs.declared.places.Spot.{Spot}
use Rattle.play_format.specs.Words.{pieces}
use Rattle.play_format.specs.Places.{number, may_end, is_closed, next_spot, start}
use Rattle.play_format.specs.Grammar.{◌>>=◌, entry_at, line_at, judged_version, with_version, reading}
use Rattle.play_format.specs.Commands.{Entry}
use Rattle.play_format.specs.Making.{u16_at, u8_at, tri_of, app_step_of, base_step_of}
use Rattle.play_format.specs.Plays.{Script}
use Rattle.play_format.specs.Early.{TrianglesSoFar}
use Rattle.play_format.specs.Sections.{LineRead, IsAt, TrianglesRead, StartRead, HeaderRead, AppSection, BaseSection}
use Rattle.play_format.specs.Reads.{HasReading, first_refusal}
use Rattle.play_format.proofs.EntryLemmas.{bind_ok, fits_of, channels_within}
use Rattle.play_format.proofs.ReaderLemmas.{unread_end, unread_line, unread_more, line_read}
use Rattle.play_format.proofs.SectionLemmas.{no_triangles, triangle_more, triangle_read, triangles_done, AppSoFar, no_steps, app_step_read, app_section_read, app_more, app_ends, app_stops, BaseSoFar, no_base_steps, base_step_read, base_no_step, base_more, base_stops, closed_end}
use Rattle.play_format.proofs.HeaderLemmas.{no_end, at_behind, size_read, lens_read, back_read, app_read, channels_read, not_channels, header_read, one_piece, too_long, first_read}
use Rattle.play_format.proofs.LawLemmas.{some_channels, few_channels}
use Rattle.play_format.proofs.PlayLemmas.{read_app, read_both}
use Rattle.play_format.proofs.OneLemmas.{spelling_of_read}
use Rattle.play_format.specs.Rests.{unread, Stand, stand}
use Rattle.play_format.specs.Outcomes.{ReadAs}

-- Lines

abbrev entries : List Entry → Result (List Entry) Refusal
entries es = Ok es

abbrev one_entry : Entry → Result Entry Refusal
one_entry e = Ok e

-- these lines are left at a stand
pub record Left (a : Stand) (es : List Entry) : Type 0 where
  pub read : unread a.spot a.line a.text ≡ Ok es
  pub some : 1 ≤ a.spot.channels
  pub few : a.spot.channels ≤ 4

-- the first of them is taken
pub record Taken (a : Stand) (e : Entry) (es : List Entry) : Type 0 where
  pub after : Stand
  pub line : LineRead a after e.0 e.1
  pub left : Left after es

-- the first line feed
pub record CutAt (text line rest : List ℕ) : Type 0 where
  pub parts : pieces text ≡ line ∷ pieces rest
  pub shorter : length rest < length text

feed : (text : List ℕ) → ((line : List ℕ) × (rest : List ℕ) × CutAt text line rest) ⊎ (pieces text ≡ text ∷ [])
feed text = by_test (ltb (position_or_len (λ b. eqb b 10) text) (length text)) refl
  where
    by_test : (b : Bool) → ltb (position_or_len (λ b. eqb b 10) text) (length text) ≡ b → ((line : List ℕ) × (rest : List ℕ) × CutAt text line rest) ⊎ (pieces text ≡ text ∷ [])
    by_test true e =
        let lt = ltb-true _ _ e in
        let i = position_or_len (λ b. eqb b 10) text in
        inl (take i text, drop (i + 1) text, record { parts = slice_split_first (λ b. eqb b 10) text 0 lt; shorter = omega (arith, length-drop (i + 1) text, lt) })
    by_test false e = inr (slice_split_none (λ b. eqb b 10) text (λ k d lt. fails_before_first (λ b. eqb b 10) text k d (omega (arith, ltb-false _ _ e, lt))))

end_ok : (a b : Bool) (n : ℕ) (x : Refusal) (y : Refusal) (es : List Entry) → cond a (cond b (entries []) (Err x)) (Err y) ≡ Ok es → (b ≡ true) × (es ≡ [])
end_ok true true n x y es e = (refl, cc)
end_ok true false n x y es e = absurd cc
end_ok false b n x y es e = absurd cc

ended : (a : Stand) (es : List Entry) → pieces a.text ≡ a.text ∷ [] → unread a.spot a.line a.text ≡ Ok es → (may_end a.spot ≡ true) × (es ≡ [])
ended a es p e =
    end_ok (eqb (length a.text) 0) (may_end a.spot) a.line (record { line = a.line; why = whys.Count }) (record { line = a.line; why = cond (ltb 262144 a.line) whys.Count whys.Length }) es
    (sym (unread_end a.spot a.line a.text p) ∙ e)

-- a line that stands before a line feed
pub record Front (a : Stand) (line rest : List ℕ) (es : List Entry) : Type 0 where
  pub entry : Entry
  pub more : List Entry
  pub all : es ≡ entry ∷ more
  pub judged : line_at a.line line (entry_at a.spot line) ≡ Ok entry
  pub behind : unread (next_spot a.spot entry.0 entry.1) (a.line + 1) rest ≡ Ok more

front : (a : Stand) (line rest : List ℕ) (es : List Entry) → CutAt a.text line rest → unread a.spot a.line a.text ≡ Ok es → Front a line rest es
front a line rest es k e =
    let x = bind_ok (line_at a.line line (entry_at a.spot line)) (λ e. unread (next_spot a.spot e.0 e.1) (a.line + 1) rest >>= λ es. Ok (e ∷ es)) es (sym (unread_line a.spot a.line a.text line rest k.parts) ∙ e) in
    let y = bind_ok (unread (next_spot a.spot x.0.0 x.0.1) (a.line + 1) rest) (λ es. Ok (x.0 ∷ es)) es x.2 in
    let same : entries (x.0 ∷ y.0) ≡ entries es = y.2 in
    record { entry = x.0; more = y.0; all = cc; judged = x.1; behind = y.1 }

taken_of : (a : Stand) (e : Entry) (es : List Entry) (line rest : List ℕ) → CutAt a.text line rest → Left a (e ∷ es)
    → line_at a.line line (entry_at a.spot line) ≡ one_entry e → unread (next_spot a.spot e.0 e.1) (a.line + 1) rest ≡ Ok es → Taken a e es
taken_of a e es line rest k h judged behind =
    let fits = fits_of a.spot line e.0 e.1 (line_read a.line line (entry_at a.spot line) e judged).1 in
    let channels = channels_within a.spot.channels e.0 e.1 h.some h.few fits.within in
    record {
      after = stand (next_spot a.spot e.0 e.1) (a.line + 1) rest;
      line = record { told = unread_more a.spot a.line a.text line rest e.0 e.1 k.parts judged; fits = fits; spot = refl; line = refl; shorter = k.shorter };
      left = record { read = behind; some = some_channels a.spot e.0 e.1 channels.0; few = few_channels a.spot e.0 e.1 channels.1 };
    }

taken : (a : Stand) (e : Entry) (es : List Entry) (line rest : List ℕ) → CutAt a.text line rest → Left a (e ∷ es) → Front a line rest (e ∷ es) → Taken a e es
taken a e es line rest k h f =
    let same : e ≡ f.entry = cc in
    let tail : es ≡ f.more = cc in
    let J : Entry → Type 0 = λ x. line_at a.line line (entry_at a.spot line) ≡ one_entry x in
    let B : Entry → Type 0 = λ x. unread (next_spot a.spot x.0 x.1) (a.line + 1) rest ≡ Ok es in
    let behind : unread (next_spot a.spot f.entry.0 f.entry.1) (a.line + 1) rest ≡ Ok es = f.behind ∙ ap entries (sym tail) in
    taken_of a e es line rest k h (subst J (sym same) f.judged) (subst B (sym same) behind)

no_line : (e : Entry) (es : List Entry) → e ∷ es ≡ [] → ⊥
no_line e es h = cc

some_line : (e : Entry) (es : List Entry) → [] ≡ e ∷ es → ⊥
some_line e es h = cc

-- where no line is left, the text may end
pub left_none : (a : Stand) → Left a [] → may_end a.spot ≡ true
left_none a h = elim (feed a.text) [
  | inl k ↦ let f = front a k.0 k.1 [] k.2 h.read in absurd (some_line f.entry f.more f.all)
  | inr p ↦ (ended a [] p h.read).0
]

pub take_line : (a : Stand) (e : Entry) (es : List Entry) → Left a (e ∷ es) → Taken a e es
take_line a e es h = elim (feed a.text) [
  | inl k ↦ taken a e es k.0 k.1 k.2 h (front a k.0 k.1 (e ∷ es) k.2 h.read)
  | inr p ↦ absurd (no_line e es (ended a (e ∷ es) p h.read).1)
]

-- a line has to come where the text may not end
pub record Next (a : Stand) (es : List Entry) : Type 0 where
  pub entry : Entry
  pub more : List Entry
  pub taken : Taken a entry more

pub next_line : (p : Place) (a : Stand) (es : List Entry) → IsAt p a → is_closed p ≡ false → Left a es → Next a es
next_line p a [] at no_close h = let yes = left_none a h in let no = no_end p a at no_close in absurd cc
next_line p a (e ∷ es) at no_close h = record { entry = e; more = es; taken = take_line a e es h }

-- Triangles

pub record Triangles (a : Stand) (es : List Entry) : Type 0 where
  pub after : Stand
  pub triangles : List Tri
  pub more : List Entry
  pub read : TrianglesRead a after triangles
  pub left : Left after more
  pub fewer : length more ≤ length es

due_ends : (s : Spot) (n : ℕ) → s.due ≡ suc n → may_end s ≡ false
due_ends s n e = rw (ne_eqb s.due 0 (λ z. absurd (omega (arith, z, e)))) refl

triangles_from : (n : ℕ) (a b : Stand) (ts : List Tri) (es : List Entry) → b.spot.due ≡ n → TrianglesSoFar a b ts → Left b es → Triangles a es
triangles_from zero a b ts es e h l = record { after = b; triangles = ts; more = es; read = triangles_done a b ts h (omega (arith, e)); left = l; fewer = omega arith }
triangles_from (suc n) a b ts [] e h l = let yes = left_none b l in let no = due_ends b.spot n e in absurd cc
triangles_from (suc n) a b ts (x ∷ es) e h l =
    let t = take_line b x es l in
    let more = triangle_more a b t.after ts (tri_of x.1) h (omega (arith, e)) (triangle_read b t.after x.0 x.1 (omega (arith, e)) t.line) in
    let due : t.after.spot.due ≡ n = omega (arith, e, h.count, more.count, length-append ts (tri_of x.1 ∷ [])) in
    let r = triangles_from n a t.after (ts ++ tri_of x.1 ∷ []) es due more t.left in
    record { after = r.after; triangles = r.triangles; more = r.more; read = r.read; left = r.left; fewer = omega (arith, r.fewer) }

pub all_triangles : (a : Stand) (es : List Entry) → Left a es → Triangles a es
all_triangles a es h = triangles_from a.spot.due a a [] es refl (no_triangles a) h

-- The section of the application

pub record AppEnds (a : Stand) : Type 0 where
  pub after : Stand
  pub lines : List AppLine
  pub read : AppSection a after lines false

pub record AppTurns (a : Stand) : Type 0 where
  pub after : Stand
  pub lines : List AppLine
  pub read : AppSection a after lines true
  pub more : List Entry
  pub left : Left after more

abbrev AppRest : Stand → Type 0
AppRest a = AppEnds a ⊎ AppTurns a

app_rest : (n : ℕ) (a b : Stand) (ls : List AppLine) (es : List Entry) → length es ≤ n → AppSoFar a b ls → Left b es → AppRest a
app_rest n a b ls [] le h l = inl (record { after = b; lines = ls; read = app_stops a b b ls h l.read refl })
app_rest zero a b ls (e ∷ es) le h l = absurd (omega (arith, le))
app_rest (suc n) a b ls (e ∷ es) le h l =
    let t = take_line b e es l in
    let ts = all_triangles t.after es t.left in
    by_step (app_step_of e.0 e.1 ts.triangles) t ts refl (λ d ms fs k m left. app_rest n a d ms fs k m left)
  where
    by_step : (o : Option AppStep) (t : Taken b e es) (ts : Triangles t.after es) → app_step_of e.0 e.1 ts.triangles ≡ o
        → ((d : Stand) (ms : List AppLine) (fs : List Entry) → length fs ≤ n → AppSoFar a d ms → Left d fs → AppRest a) → AppRest a
    by_step None t ts k again =
        let d = app_section_read b t.after ts.after e.0 e.1 ts.triangles h.place t.line ts.read k in
        inr (record { after = ts.after; lines = ls; read = app_ends a b ts.after ls h d.0 d.1; more = ts.more; left = ts.left })
    by_step (Some s) t ts k again =
        let step = app_step_read b t.after ts.after e.0 e.1 ts.triangles s h.place l.some l.few t.line ts.read k in
        again ts.after (ls ++ record { line = b.line; step = s } ∷ []) ts.more (omega (arith, le, ts.fewer)) (app_more a b ts.after ls (record { line = b.line; step = s }) h step) ts.left

-- The section of the database process

pub record BaseEnds (a : Stand) : Type 0 where
  pub after : Stand
  pub lines : List BaseLine
  pub read : BaseSection a after lines

base_rest : (n : ℕ) (a b : Stand) (ls : List BaseLine) (es : List Entry) → length es ≤ n → BaseSoFar a b ls → Left b es → BaseEnds a
base_rest n a b ls [] le h l = record { after = b; lines = ls; read = base_stops a b b ls h l.read refl (closed_end b.spot (left_none b l)) }
base_rest zero a b ls (e ∷ es) le h l = absurd (omega (arith, le))
base_rest (suc n) a b ls (e ∷ es) le h l =
    let t = take_line b e es l in
    let ts = all_triangles t.after es t.left in
    by_step (base_step_of e.0 e.1 ts.triangles) t ts refl (λ d ms fs k m left. base_rest n a d ms fs k m left)
  where
    by_step : (o : Option BaseStep) (t : Taken b e es) (ts : Triangles t.after es) → base_step_of e.0 e.1 ts.triangles ≡ o
        → ((d : Stand) (ms : List BaseLine) (fs : List Entry) → length fs ≤ n → BaseSoFar a d ms → Left d fs → BaseEnds a) → BaseEnds a
    by_step None t ts k again = absurd (base_no_step b t.after e.0 e.1 ts.triangles h.place t.line k)
    by_step (Some s) t ts k again =
        let step = base_step_read b t.after ts.after e.0 e.1 ts.triangles s h.place t.line ts.read k in
        again ts.after (ls ++ record { line = b.line; step = s } ∷ []) ts.more (omega (arith, le, ts.fewer)) (base_more a b ts.after ls (record { line = b.line; step = s }) h step) ts.left

-- The header

pub record Header (a : Stand) : Type 0 where
  pub after : Stand
  pub lens : Lens
  pub back : List ℕ
  pub read : HeaderRead a after lens back
  pub more : List Entry
  pub left : Left after more

pub record Start (a : Stand) : Type 0 where
  pub after : Stand
  pub read : StartRead a after
  pub more : List Entry
  pub left : Left after more

is_channels : (c : Command) → (c ≡ command.Channels) ⊎ (c ≡ command.Channels → ⊥)
is_channels command.Channels = inl refl
is_channels c = inr (λ e. cc)

start_line : (a : Stand) (es : List Entry) → IsAt place.Start a → Left a es → Start a
start_line a es at l =
    let n = next_line place.Start a es at refl l in
    elim (is_channels n.entry.0) [
      | inl e ↦ with_channels n.taken.after n.entry n.more e n.taken.line n.taken.left
      | inr other ↦ without n.taken.after n.entry n.more (not_channels a n.taken.after n.entry.0 n.entry.1 at n.taken.line other) n.taken.line n.taken.left
    ]
  where
    without : (b : Stand) (e : Entry) (more : List Entry) → e.0 ≡ command.App → LineRead a b e.0 e.1 → Left b more → Start a
    without b e more is r left =
        let P : Command → Type 0 = λ c. LineRead a b c e.1 in
        record { after = b; read = app_read a b e.1 at (subst P is r); more = more; left = left }

    with_channels : (b : Stand) (e : Entry) (more : List Entry) → e.0 ≡ command.Channels → LineRead a b e.0 e.1 → Left b more → Start a
    with_channels b e more is r left =
        let P : Command → Type 0 = λ c. LineRead a b c e.1 in
        let line = subst P is r in
        let opening = at_behind place.Start a b command.Channels e.1 at line refl in
        let n = next_line place.Opening b more opening refl left in
        record { after = n.taken.after; read = channels_read a b n.taken.after e.1 n.entry.1 n.entry.0 at line n.taken.line; more = n.more; left = n.taken.left }

pub whole_header : (a : Stand) (es : List Entry) → IsAt place.Size a → a.spot.channels ≡ 1 → Left a es → Header a
whole_header a es at one l =
    let s = next_line place.Size a es at refl l in
    let size = size_read a s.taken.after s.entry.0 s.entry.1 at s.taken.line in
    let f = next_line place.Lens s.taken.after s.more size.1 refl s.taken.left in
    let w = u16_at s.entry.1 0 in
    let h = u16_at s.entry.1 1 in
    let view = lens_read s.taken.after f.taken.after f.entry.0 f.entry.1 w h size.1 size.2 f.taken.line in
    let lens : Lens = record { w = w; h = h; f = u16_at f.entry.1 0; near = number f.entry.1 1; far = number f.entry.1 2; in_range = view.2 } in
    let b = next_line place.Back f.taken.after f.more view.1 refl f.taken.left in
    let colours = back_read f.taken.after b.taken.after b.entry.0 b.entry.1 view.1 b.taken.line in
    let back : List ℕ = u8_at b.entry.1 0 ∷ u8_at b.entry.1 1 ∷ u8_at b.entry.1 2 ∷ [] in
    let start = start_line b.taken.after b.more colours.1 b.taken.left in
    record {
      after = start.after;
      lens = lens;
      back = back;
      read = header_read a s.taken.after f.taken.after b.taken.after start.after lens back one size.0 view.0 colours.0 refl start.read;
      more = start.more;
      left = start.left;
    }

-- Texts

abbrev whole : Version × List Entry → Result (Version × List Entry) Refusal
whole x = Ok x

-- the first line of a text that is read
record Begins (text : List ℕ) : Type 0 where
  version : Version
  rest : List ℕ
  more : List Entry
  read : reading text ≡ with_version version (unread (start version) 2 rest)
  left : unread (start version) 2 rest ≡ Ok more

version_begins : (text line rest : List ℕ) (r : Result Version Why) (x : Version × List Entry) → length text ≤ 16777216 → pieces text ≡ line ∷ pieces rest → judged_version line ≡ r → reading text ≡ Ok x → Begins text
version_begins text line rest (Ok v) x le parts r e =
    let first = first_read text line rest (Ok v) le parts r in
    let k = bind_ok (unread (start v) 2 rest) (λ es. Ok (v, es)) x (sym first ∙ e) in
    record { version = v; rest = rest; more = k.0; read = first; left = k.1 }
version_begins text line rest (Err why) x le parts r e =
    let first = first_read text line rest (Err why) le parts r in
    let both : Err (record { line = 1; why = why }) ≡ whole x = sym first ∙ e in
    absurd cc

begins : (text : List ℕ) (x : Version × List Entry) → reading text ≡ Ok x → Begins text
begins text x e = by_length (ltb 16777216 (length text)) refl
  where
    by_feed : length text ≤ 16777216 → ((line : List ℕ) × (rest : List ℕ) × CutAt text line rest) ⊎ (pieces text ≡ text ∷ []) → Begins text
    by_feed le (inl k) = version_begins text k.0 k.1 (judged_version k.0) x le k.2.parts refl e
    by_feed le (inr p) =
        let both : Err (record { line = 1; why = cond (eqb (length text) 0) whys.Count whys.Length }) ≡ whole x = sym (one_piece text le p) ∙ e in
        absurd cc

    by_length : (b : Bool) → ltb 16777216 (length text) ≡ b → Begins text
    by_length true t =
        let both : Err (record { line = 0; why = whys.Length }) ≡ whole x = sym (too_long text (ltb-true _ _ t)) ∙ e in
        absurd cc
    by_length false t = by_feed (ltb-false _ _ t) (feed text)

play_read : (text : List ℕ) → Begins text → (p : Script) × ReadAs text p
play_read text g =
    let a = stand (start g.version) 2 g.rest in
    let h = whole_header a g.more (record { place = refl; settled = refl }) refl (record { read = g.left; some = omega arith; few = omega arith }) in
    elim (app_rest (length h.more) h.after h.after [] h.more (omega arith) (no_steps h.after h.read.place) h.left) [
      | inl s ↦ (_, read_app text g.rest g.version h.after s.after h.lens h.back s.lines g.read h.read s.read)
      | inr s ↦ let t = base_rest (length s.more) s.after s.after [] s.more (omega arith) (no_base_steps s.after s.read.1) s.left in
          (_, read_both text g.rest g.version h.after s.after t.after h.lens h.back s.lines t.lines g.read h.read s.read t.read)
    ]

read_or_wrong : (text : List ℕ) (r : Result (Version × List Entry) Refusal) → reading text ≡ r → result_err r ≡ None → HasReading text
read_or_wrong text (Ok x) e n = let p = play_read text (begins text x e) in (p.0, spelling_of_read text p.0 p.1)
read_or_wrong text (Err f) e n = absurd cc

-- a text without a wrong line spells a play
pub some_play : (text : List ℕ) → first_refusal text ≡ None → HasReading text
some_play text n = read_or_wrong text (reading text) refl n
