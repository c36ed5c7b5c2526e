-- Reading the header line by line.
use Rattle.std.proofs.Common.{◌≡◌, ℕ, ◌+◌, ◌<◌, ◌≤◌, arith, refl, true, false, cond, ap, Bool, sym, ◌∙◌, List, [], ◌∷◌, ◌++◌, length, map, subst, Result, Err, ℤ, pos, negsuc, eqb}
use Rattle.std.specs.Prelude.{unsigned_abs}
use Rattle.std.proofs.lemmas.Int.{ints}
use Rattle.std.proofs.lemmas.Bool.{lt-ltb, le-ltb}
use Rattle.fx_math.specs.Within.{IsLens}
use Rattle.fx_math.specs.declared.lenses.Lens.{Lens}
use Rattle.play_format.specs.declared.refusal.Refusal.{Refusal}
use Rattle.play_format.specs.declared.refusal.Why.{Why}
use Rattle.play_format.specs.declared.refusal.Why.TheVariants as whys
use Rattle.play_format.specs.declared.refusal.ParseError.{ParseError}
use Rattle.play_format.specs.declared.refusal.ParseError.TheVariants as parse_error
use Rattle.play_format.specs.declared.commands.Command.{Command}
use Rattle.play_format.specs.declared.commands.Command.TheVariants as command
use Rattle.play_format.specs.declared.places.Version.{Version}
use Rattle.play_format.specs.declared.places.Place.{Place}
use Rattle.play_format.specs.declared.places.Place.TheVariants as place
use Rattle.play_format.specs.declared.places.Spot.{Spot}
use Rattle.play_format.specs.Outcomes.{Refuses}
use Rattle.play_format.specs.Commands.{limits_of, size, focal_length, colour_limits, channel_count, Entry}
use Rattle.play_format.specs.Words.{pieces}
use Rattle.play_format.specs.Places.{IsWithin, AreWithin, number, channels_after, due_after, place_after, may_end, is_closed, is_size, is_lens, is_back, is_app, is_ordered, next_spot, stands_at, start}
use Rattle.play_format.specs.Grammar.{◌>>=◌, at_line, judged_version, with_version, lines_at, reading}
use Rattle.play_format.specs.Rests.{unread, with_front, Stand}
use Rattle.play_format.specs.Making.{below, u16_at, u8_at}
use Rattle.play_format.specs.Sections.{Passes, LineRead, IsAt, IsSize, StartRead, HeaderRead}
use Rattle.play_format.proofs.BackLemmas.{colour_back}
use Rattle.play_format.proofs.ReaderLemmas.{some_pieces}
use Rattle.play_format.proofs.MadeLemmas.{no_number}
use Rattle.play_format.proofs.SectionLemmas.{stands_settled, passes_then, front_front}
use Rattle.play_format.specs.Spelling.{channels_entries}

-- a play may not end in its header
pub no_end : (p : Place) (a : Stand) → IsAt p a → is_closed p ≡ false → may_end a.spot ≡ false
no_end p a at e = rw (at.settled, at.place, e) refl

pub one_passes : (a b : Stand) (c : Command) (zs ys : List ℤ) → LineRead a b c zs → channels_after c zs a.spot.channels ≡ a.spot.channels → zs ≡ ys → Passes a b ((c, ys) ∷ [])
unfolding next_spot
one_passes a b c zs ys r e f = record {
  told = r.told ∙ ap (λ (xs : List ℤ). with_front ((c, xs) ∷ []) (unread b.spot b.line b.text)) f;
  line = r.line;
  version = ap (λ (s : Spot). s.version) r.spot;
  channels = ap (λ (s : Spot). s.channels) r.spot ∙ e;
}

pub at_behind : (p : Place) (a b : Stand) (c : Command) (zs : List ℤ) → IsAt p a → LineRead a b c zs → due_after c zs a.spot.due ≡ 0 → IsAt (place_after c p) b
unfolding next_spot
at_behind p a b c zs at r e = record { place = ap (λ (s : Spot). s.place) r.spot ∙ ap (place_after c) at.place; settled = ap (λ (s : Spot). s.due) r.spot ∙ e }

id_size : (z : ℤ) → IsWithin size z → (pos (below 65536 z) ≡ z) × (1 ≤ below 65536 z) × (below 65536 z ≤ 1024)
id_size (pos n) w =
    let low : 1 ≤ n = omega (arith, ints, w.low) in
    let high : n ≤ 1024 = omega (arith, ints, w.high) in
    rw (lt-ltb n 65536 (omega arith)) (refl, low, high)
id_size (negsuc n) w = absurd (omega (arith, ints, w.low))

two_sizes : (zs : List ℤ) → AreWithin (size ∷ size ∷ []) zs → (zs ≡ pos (u16_at zs 0) ∷ pos (u16_at zs 1) ∷ []) × IsSize (u16_at zs 0) (u16_at zs 1)
two_sizes (x ∷ y ∷ []) w =
    let a = id_size x w.0 in
    let b = id_size y w.1.0 in
    (sym (rw (a.0, b.0) refl), record { some_width = a.1; most_width = a.2; some_height = b.1; most_height = b.2 })
two_sizes [] w = absurd w
two_sizes (x ∷ []) w = absurd w.1
two_sizes (x ∷ y ∷ z ∷ zs) w = absurd w.1.1

only_size : (c : Command) → is_size c ≡ true → c ≡ command.Size
only_size command.Size e = refl
only_size c e = absurd cc

only_lens : (c : Command) → is_lens c ≡ true → c ≡ command.Lens
only_lens command.Lens e = refl
only_lens c e = absurd cc

only_back : (c : Command) → is_back c ≡ true → c ≡ command.Back
only_back command.Back e = refl
only_back c e = absurd cc

only_app : (c : Command) → is_app c ≡ true → c ≡ command.App
only_app command.App e = refl
only_app c e = absurd cc

pub size_read : (a b : Stand) (c : Command) (zs : List ℤ) → IsAt place.Size a → LineRead a b c zs
    → Passes a b ((command.Size, pos (u16_at zs 0) ∷ pos (u16_at zs 1) ∷ []) ∷ []) × IsAt place.Lens b × IsSize (u16_at zs 0) (u16_at zs 1)
size_read a b c zs at r =
    let P : Command → Type 0 = λ c. LineRead a b c zs → Passes a b ((command.Size, pos (u16_at zs 0) ∷ pos (u16_at zs 1) ∷ []) ∷ []) × IsAt place.Lens b × IsSize (u16_at zs 0) (u16_at zs 1) in
    subst P (sym (only_size c (stands_settled place.Size a c at r.fits.stands))) (λ r.
    let t = two_sizes zs r.fits.within in
    (one_passes a b command.Size zs (pos (u16_at zs 0) ∷ pos (u16_at zs 1) ∷ []) r refl t.0, at_behind place.Size a b command.Size zs at r refl, t.1)) r

id_focus : (z : ℤ) → IsWithin focal_length z → (pos (below 65536 z) ≡ z) × (1 ≤ below 65536 z) × (below 65536 z ≤ 65535)
id_focus (pos n) w =
    let low : 1 ≤ n = omega (arith, ints, w.low) in
    let high : n ≤ 65535 = omega (arith, ints, w.high) in
    rw (lt-ltb n 65536 (omega arith)) (refl, low, high)
id_focus (negsuc n) w = absurd (omega (arith, ints, w.low))

lens_numbers : (w h : ℕ) (zs : List ℤ) → IsSize w h → AreWithin (limits_of 0 command.Lens) zs → is_ordered command.Lens zs ≡ true
    → (zs ≡ pos (u16_at zs 0) ∷ number zs 1 ∷ number zs 2 ∷ []) × IsLens w h (u16_at zs 0) (number zs 1) (number zs 2)
lens_numbers w h (f ∷ near ∷ far ∷ []) s k o =
    let a = id_focus f k.0 in (
      sym (rw a.0 refl),
      record {
        some_width = s.some_width;
        most_width = s.most_width;
        some_height = s.some_height;
        most_height = s.most_height;
        some_focus = a.1;
        most_focus = a.2;
        before_eye = k.1.0.low;
        ordered = grind (arith, ints, o);
        most_far = k.1.1.0.high;
      },
    )
lens_numbers w h [] s k o = absurd k
lens_numbers w h (f ∷ []) s k o = absurd k.1
lens_numbers w h (f ∷ near ∷ []) s k o = absurd k.1.1
lens_numbers w h (f ∷ near ∷ far ∷ z ∷ zs) s k o = absurd k.1.1.1

pub lens_read : (a b : Stand) (c : Command) (zs : List ℤ) (w h : ℕ) → IsAt place.Lens a → IsSize w h → LineRead a b c zs
    → Passes a b ((command.Lens, pos (u16_at zs 0) ∷ number zs 1 ∷ number zs 2 ∷ []) ∷ []) × IsAt place.Back b × IsLens w h (u16_at zs 0) (number zs 1) (number zs 2)
lens_read a b c zs w h at s r =
    let P : Command → Type 0 = λ c. LineRead a b c zs → Passes a b ((command.Lens, pos (u16_at zs 0) ∷ number zs 1 ∷ number zs 2 ∷ []) ∷ []) × IsAt place.Back b × IsLens w h (u16_at zs 0) (number zs 1) (number zs 2) in
    subst P (sym (only_lens c (stands_settled place.Lens a c at r.fits.stands))) (λ r.
    let t = lens_numbers w h zs s r.fits.within r.fits.ordered in
    (one_passes a b command.Lens zs (pos (u16_at zs 0) ∷ number zs 1 ∷ number zs 2 ∷ []) r refl t.0, at_behind place.Lens a b command.Lens zs at r refl, t.1)) r

three_colours : (zs : List ℤ) → AreWithin colour_limits zs → zs ≡ pos (u8_at zs 0) ∷ pos (u8_at zs 1) ∷ pos (u8_at zs 2) ∷ []
three_colours (x ∷ y ∷ z ∷ []) w = sym (rw (colour_back x w.0, colour_back y w.1.0, colour_back z w.1.1.0) refl)
three_colours [] w = absurd w
three_colours (x ∷ []) w = absurd w.1
three_colours (x ∷ y ∷ []) w = absurd w.1.1
three_colours (x ∷ y ∷ z ∷ u ∷ zs) w = absurd w.1.1.1

pub back_read : (a b : Stand) (c : Command) (zs : List ℤ) → IsAt place.Back a → LineRead a b c zs
    → Passes a b ((command.Back, pos (u8_at zs 0) ∷ pos (u8_at zs 1) ∷ pos (u8_at zs 2) ∷ []) ∷ []) × IsAt place.Start b
back_read a b c zs at r =
    let P : Command → Type 0 = λ c. LineRead a b c zs → Passes a b ((command.Back, pos (u8_at zs 0) ∷ pos (u8_at zs 1) ∷ pos (u8_at zs 2) ∷ []) ∷ []) × IsAt place.Start b in
    subst P (sym (only_back c (stands_settled place.Back a c at r.fits.stands))) (λ r.
    (one_passes a b command.Back zs (pos (u8_at zs 0) ∷ pos (u8_at zs 1) ∷ pos (u8_at zs 2) ∷ []) r refl (three_colours zs r.fits.within), at_behind place.Back a b command.Back zs at r refl)) r

-- `app` as the fifth line
pub app_read : (a b : Stand) (zs : List ℤ) → IsAt place.Start a → LineRead a b command.App zs → StartRead a b
app_read a b zs at r =
    let p = one_passes a b command.App zs [] r refl (sym (no_number zs r.fits.within)) in
    record { says = false; told = p.told; line = r.line; version = p.version; one_channel = λ _. p.channels; place = at_behind place.Start a b command.App zs at r refl }

one_count : (zs : List ℤ) → AreWithin (channel_count ∷ []) zs → pos (unsigned_abs (number zs 0)) ∷ [] ≡ zs
one_count (pos n ∷ []) w = refl
one_count (negsuc n ∷ []) w = absurd (omega (arith, ints, w.0.low))
one_count [] w = absurd w
one_count (x ∷ y ∷ zs) w = absurd w.1

-- `channels` and `app`
pub channels_read : (a b d : Stand) (zs ys : List ℤ) (c : Command) → IsAt place.Start a → LineRead a b command.Channels zs → LineRead b d c ys → StartRead a d
unfolding next_spot
channels_read a b d zs ys c at r q =
    let opening : IsAt place.Opening b = at_behind place.Start a b command.Channels zs at r refl in
    let is : c ≡ command.App = only_app c (stands_settled place.Opening b c opening q.fits.stands) in
    let P : Command → Type 0 = λ c. LineRead b d c ys → StartRead a d in
    subst P (sym is) (λ q.
    let p = one_passes b d command.App ys [] q refl (sym (no_number ys q.fits.within)) in
    let n : unsigned_abs (number zs 0) ≡ d.spot.channels = sym (ap (λ (s : Spot). s.channels) r.spot) ∙ sym p.channels in
    let z : zs ≡ pos d.spot.channels ∷ [] = sym (one_count zs r.fits.within) ∙ ap (λ (k : ℕ). pos k ∷ []) n in
    let first : unread a.spot a.line a.text ≡ with_front ((command.Channels, pos d.spot.channels ∷ []) ∷ []) (unread b.spot b.line b.text) = r.told ∙ ap (λ (xs : List ℤ). with_front ((command.Channels, xs) ∷ []) (unread b.spot b.line b.text)) z in
    record {
      says = true;
      told = first ∙ ap (with_front ((command.Channels, pos d.spot.channels ∷ []) ∷ [])) p.told ∙ front_front ((command.Channels, pos d.spot.channels ∷ []) ∷ []) ((command.App, []) ∷ []) (unread d.spot d.line d.text);
      line = omega (arith, r.line, q.line);
      version = p.version ∙ ap (λ (s : Spot). s.version) r.spot;
      one_channel = λ e. absurd cc;
      place = at_behind place.Opening b d command.App ys opening q refl;
    }) q

-- what stands as the fifth line and is not `channels` is `app`
pub not_channels : (a b : Stand) (c : Command) (zs : List ℤ) → IsAt place.Start a → LineRead a b c zs → (c ≡ command.Channels → ⊥) → c ≡ command.App
not_channels a b c zs at r h = starts a.spot.version c (stands_settled place.Start a c at r.fits.stands) h
  where
    starts : (v : Version) (c : Command) → stands_at v place.Start c ≡ true → (c ≡ command.Channels → ⊥) → c ≡ command.App
    starts v command.App e h = refl
    starts v command.Channels e h = absurd (h refl)
    starts v c e h = absurd cc

-- the header from its lines
pub header_read : (a b c d e : Stand) (lens : Lens) (back : List ℕ) → a.spot.channels ≡ 1
    → Passes a b ((command.Size, pos lens.w ∷ pos lens.h ∷ []) ∷ []) → Passes b c ((command.Lens, pos lens.f ∷ lens.near ∷ lens.far ∷ []) ∷ [])
    → Passes c d ((command.Back, map pos back) ∷ []) → length back ≡ 3 → StartRead d e → HeaderRead a e lens back
header_read a b c d e lens back one p q r three s =
    let first = passes_then a b c ((command.Size, pos lens.w ∷ pos lens.h ∷ []) ∷ []) ((command.Lens, pos lens.f ∷ lens.near ∷ lens.far ∷ []) ∷ []) p q in
    let three_lines = passes_then a c d ((command.Size, pos lens.w ∷ pos lens.h ∷ []) ∷ (command.Lens, pos lens.f ∷ lens.near ∷ lens.far ∷ []) ∷ []) ((command.Back, map pos back) ∷ []) first r in
    let front : List Entry = (command.Size, pos lens.w ∷ pos lens.h ∷ []) ∷ (command.Lens, pos lens.f ∷ lens.near ∷ lens.far ∷ []) ∷ (command.Back, map pos back) ∷ [] in
    record {
      says = s.says;
      told = three_lines.told ∙ ap (with_front front) s.told ∙ front_front front (channels_entries s.says e.spot.channels ++ (command.App, []) ∷ []) (unread e.spot e.line e.text);
      line = lines_in s.says a.line d.line e.line three_lines.line s.line;
      version = s.version ∙ three_lines.version;
      one_channel = λ k. s.one_channel k ∙ three_lines.channels ∙ one;
      place = s.place;
      back_three = three;
    }
  where
    lines_in : (b : Bool) (k m n : ℕ) → m ≡ k + 3 → n ≡ m + cond b 2 1 → n ≡ k + cond b 5 4
    lines_in true k m n e f = omega (arith, e, f)
    lines_in false k m n e f = omega (arith, e, f)

-- The first line

pub too_long : (text : List ℕ) → 16777216 < length text → reading text ≡ Err (record { line = 0; why = whys.Length })
unfolding reading
too_long text h = rw (lt-ltb 16777216 (length text) h) refl

pub one_piece : (text : List ℕ) → length text ≤ 16777216 → pieces text ≡ text ∷ [] → reading text ≡ Err (record { line = 1; why = cond (eqb (length text) 0) whys.Count whys.Length })
unfolding reading lines_at
one_piece text h e = rw (le-ltb _ _ h, e) refl

pub first_read : (text line rest : List ℕ) (r : Result Version Why) → length text ≤ 16777216 → pieces text ≡ line ∷ pieces rest → judged_version line ≡ r
    → reading text ≡ (at_line 1 r >>= λ v. with_version v (unread (start v) 2 rest))
unfolding reading lines_at
first_read text line rest r h e k = rw (le-ltb _ _ h, e, some_pieces rest, k) refl

pub refused_version : (v : Version) (r : Result (List Entry) Refusal) (e : ParseError) → Refuses e r → Refuses e (with_version v r)
refused_version v r parse_error.NoMemory h = tt
refused_version v r (parse_error.Refused f) h = rw h refl
