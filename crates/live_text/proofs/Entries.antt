-- A line behind the first, read.
use Rattle.std.proofs.Common.{◌≡◌, ℕ, ◌+◌, ◌-◌, ◌<◌, ◌≤◌, arith, refl, true, false, cond, ap, sym, ◌∙◌, Bool, List, [], ◌∷◌, ◌++◌, length, map, subst, Result, Ok, Err, Option, Some, None, ℤ, append_assoc, eqb, ltb}
use Rattle.std.specs.Prelude.{codes}
use Rattle.std.specs.Str.{bytes_eq}
use Rattle.std.proofs.lemmas.Bool.{lt-ltb, le-ltb}
use Rattle.std.proofs.lemmas.Bool.Decides.{nat_tests}
use Rattle.std.proofs.lemmas.List.{append-nil, length-append, map_push}
use Rattle.pf_model.specs.declared.geometry.Tri.{Tri}
use Rattle.play_format.specs.declared.refusal.Why.{Why}
use Rattle.play_format.specs.declared.refusal.LineError.{LineError}
use Rattle.play_format.specs.declared.refusal.LineError.TheVariants as line_error
use Rattle.play_format.specs.declared.commands.Command.{Command}
use Rattle.play_format.specs.declared.commands.Command.TheVariants as command
use Rattle.play_format.specs.declared.places.Version.TheVariants as version
use Rattle.play_format.specs.declared.places.Place.{Place}
use Rattle.play_format.specs.declared.places.Place.TheVariants as place
use Rattle.play_format.specs.declared.places.Spot.{Spot}
use Rattle.play_format.specs.Commands.{Entry, limits_of}
use Rattle.play_format.specs.Places.{AreWithin, announced, may_end, place_after, channels_after, due_after, is_triangle, start}
use Rattle.play_format.specs.Making.{tri_of}
use Rattle.play_format.specs.Spelling.{tri_entry, base_entries}
use Rattle.play_format.specs.Written.{AreTriangles}
use Rattle.play_format.specs.Outcomes.{Fails}
use Rattle.play_format.specs.Rests.{IsSound}
use Rattle.play_format.specs.Sections.{is_buffer}
use Rattle.play_format.proofs.BackLemmas.{tri_back}
use Rattle.live_text.specs.declared.given.Given.{Given}
use Rattle.live_text.specs.declared.head.Head.{Head}
use Rattle.live_text.specs.declared.head.Head.TheVariants as head
use Rattle.live_text.specs.declared.state.State.{State}
use Rattle.live_text.specs.LiveGrammar.{live_entry_at, live_next, back_in_app}
use Rattle.live_text.specs.Stands.{LiveStand, LineGives, live_step, stand_behind, left_at, whole_at, begun_at, SpellsGiven}
use Rattle.live_text.specs.States.{live_stands, stands_in, LiveFits, IsHead, is_early, is_header, HeadLine, HeadAfter, head_entries, opened_entries, IsBegun, IsDue, begun_of, stand_of, Holds, IsHeld, full_of, place_in, HasMoved, Finishes, EntryGives, EntryRead, LineRead}
use Rattle.live_text.proofs.Fitting.{live_fits}
use Rattle.live_text.proofs.Moving.{is_edit, announces, edit_place, some_due}

pub fits_held : (a : State) (line : List ℕ) (c : Command) (zs : List ℤ) → IsHeld a → live_entry_at a.spot line ≡ Ok (c, zs) → LiveFits a.spot c zs
fits_held a line c zs h e = live_fits a.spot a.head line c zs h.1.version h.1.head e

-- Behind the header

behind_header : (p : Place) (h : Head) → is_header p ≡ false → IsHead p h → (h ≡ head.Given) × (p ≡ place_in (is_buffer p))
behind_header place.App head.Given e i = (refl, refl)
behind_header place.Buffer head.Given e i = (refl, refl)
behind_header place.App h e i = absurd i
behind_header place.Buffer h e i = absurd i
behind_header place.Dbase h e i = absurd i
behind_header place.Size h e i = absurd cc
behind_header place.Lens h e i = absurd cc
behind_header place.Back h e i = absurd cc
behind_header place.Start h e i = absurd cc
behind_header place.Opening h e i = absurd cc

stands_here : (was : Bool) (c : Command) → live_stands (place_in was) c ≡ true → stands_in was c ≡ true
stands_here true c e = e
stands_here false c e = e

-- a command behind the header leaves the channels, and makes as many triangle lines due as it announces
plain : (was : Bool) (c : Command) (zs : List ℤ) (n : ℕ) → stands_in was c ≡ true → (channels_after c zs n ≡ n) × (due_after c zs n ≡ announced c zs)
plain was (command.Edit f) zs n e = (refl, refl)
plain was command.View zs n e = (refl, refl)
plain was command.ChannelView zs n e = (refl, refl)
plain was command.Sync zs n e = (refl, refl)
plain was command.Frame zs n e = (refl, refl)
plain was command.Buffer zs n e = (refl, refl)
plain was command.Merge zs n e = (refl, refl)
plain was command.BufferAdd zs n e = (refl, refl)
plain was command.BufferRemove zs n e = (refl, refl)
plain true c zs n e = absurd cc
plain false c zs n e = absurd cc

-- a state in which the line of a command was read
pub record Took (a w : State) (c : Command) (zs : List ℤ) : Type 0 where
  pub line : w.line ≡ a.line + 1
  pub spot : w.spot ≡ live_next a.spot c zs
  pub sound : IsSound w.spot
  pub head : w.head ≡ a.head
  pub number : w.opened.line ≡ a.line
  pub command : w.opened.command ≡ c
  pub numbers : w.opened.numbers.items ≡ zs
  pub tris : w.opened.tris.items ≡ a.opened.tris.items
  pub block : w.block.items ≡ a.block.items

settled_begun : (n : ℕ) (a : State) → Holds n a → a.spot.due ≡ 0 → is_header a.spot.place ≡ false → begun_of a ≡ base_entries a.block.items
settled_begun n a h z p = rw (z, (behind_header a.spot.place a.head p h.head).0) (append-nil (base_entries a.block.items))

opened_same : (w : State) (c : Command) (zs : List ℤ) (ts : List Tri) → w.opened.command ≡ c → w.opened.numbers.items ≡ zs → w.opened.tris.items ≡ ts → opened_entries w.opened ≡ (c, zs) ∷ map tri_entry ts
opened_same w c zs ts e f g = rw (e, f, g) refl

pub command_full : (n : ℕ) (a w : State) (c : Command) (zs : List ℤ) → Holds n a → a.spot.due ≡ 0 → is_header a.spot.place ≡ false → Took a w c zs → full_of w ≡ begun_of a ++ (c, zs) ∷ []
command_full n a w c zs h z p t =
    let o : opened_entries w.opened ≡ (c, zs) ∷ [] = opened_same w c zs [] t.command t.numbers (t.tris ∙ h.settled z) in
    ap (λ (ls : List _). base_entries ls ++ opened_entries w.opened) t.block ∙ ap (λ (es : List Entry). base_entries a.block.items ++ es) o ∙ ap (λ (es : List Entry). es ++ (c, zs) ∷ []) (sym (settled_begun n a h z p))

pub command_moved : (n : ℕ) (a w : State) (c : Command) (zs : List ℤ) → Holds n a → a.line ≤ 536870911 → a.spot.due ≡ 0 → is_header a.spot.place ≡ false → LiveFits a.spot c zs → Took a w c zs → HasMoved n (is_buffer a.spot.place) w
command_moved n a w c zs h few z p f t =
    let was = is_buffer a.spot.place in
    let b = behind_header a.spot.place a.head p h.head in
    let full = command_full n a w c zs h z p t in
    let stood : cond false (is_triangle c) (live_stands a.spot.place c) ≡ true = rw z at f.stands in
    let stands : stands_in was c ≡ true = stands_here was c (subst (λ (q : Place). live_stands q c ≡ true) b.1 stood) in
    let same = plain was c zs a.spot.channels stands in
    let due = (plain was c zs a.spot.due stands).1 in
    let behind : w.spot.due ≡ announced c zs = ap (λ (s : Spot). s.due) t.spot ∙ due in
    let channels : w.spot.channels ≡ a.spot.channels = ap (λ (s : Spot). s.channels) t.spot ∙ same.0 in
    let base : begun_of a ≡ base_entries a.block.items = settled_begun n a h z p in
    let within : AreWithin (limits_of w.spot.channels c) zs = rw channels f.within in
    record {
      sound = t.sound;
      version = ap (λ (s : Spot). s.version) t.spot ∙ h.version;
      some = h.some;
      few = omega (arith, t.line, few);
      later = omega (arith, t.line, h.some, h.first);
      first = rw full (omega (arith, t.line, h.first, length-append (begun_of a) ((c, zs) ∷ [])));
      head = t.head ∙ b.0;
      place = ap (λ (s : Spot). s.place) t.spot ∙ ap (λ (q : Place). back_in_app (place_after c q)) b.1 ∙ ap (λ (d : Command). back_in_app (place_after d (place_in was))) (sym t.command);
      block = rw t.block h.block;
      stands = rw t.command stands;
      number = rw t.block (t.number ∙ sym h.first ∙ ap (λ (es : List Entry). n + length es) base);
      within = rw (t.command, t.numbers) within;
      count = rw (t.command, t.numbers, t.tris, h.settled z) (omega (arith, behind));
      written = rw (t.tris, h.settled z) tt;
    }

-- a state in which a triangle line was read
pub record TookTriangle (a w : State) (zs : List ℤ) : Type 0 where
  pub line : w.line ≡ a.line + 1
  pub spot : w.spot ≡ live_next a.spot command.Triangle zs
  pub sound : IsSound w.spot
  pub head : w.head ≡ a.head
  pub number : w.opened.line ≡ a.opened.line
  pub command : w.opened.command ≡ a.opened.command
  pub numbers : w.opened.numbers.items ≡ a.opened.numbers.items
  pub tris : w.opened.tris.items ≡ a.opened.tris.items ++ tri_of zs ∷ []
  pub block : w.block.items ≡ a.block.items

due_triangle : (s : Spot) (c : Command) (zs : List ℤ) → 0 < s.due → LiveFits s c zs → c ≡ command.Triangle
due_triangle s c zs h f = is c (rw (lt-ltb 0 s.due h) at f.stands)
  where
    is : (c : Command) → is_triangle c ≡ true → c ≡ command.Triangle
    is command.Triangle e = refl
    is c e = absurd cc

pub triangle_is : (a : State) (c : Command) (zs : List ℤ) → 0 < a.spot.due → LiveFits a.spot c zs → c ≡ command.Triangle
triangle_is a c zs h f = due_triangle a.spot c zs h f

due_begun : (n : ℕ) (a : State) → Holds n a → 0 < a.spot.due → begun_of a ≡ full_of a
due_begun n a h d = rw (some_due a.spot.due d, (behind_header a.spot.place a.head (h.due d).behind_header h.head).0) refl

tri_line : (zs : List ℤ) → AreWithin (limits_of 0 command.Triangle) zs → tri_entry (tri_of zs) ≡ (command.Triangle, zs)
tri_line zs w = ap (λ (ys : List ℤ). (command.Triangle, ys)) (tri_back zs w)

pub triangle_full : (n : ℕ) (a w : State) (zs : List ℤ) → Holds n a → 0 < a.spot.due → LiveFits a.spot command.Triangle zs → TookTriangle a w zs → full_of w ≡ begun_of a ++ (command.Triangle, zs) ∷ []
triangle_full n a w zs h d f t =
    let e : opened_entries w.opened ≡ opened_entries a.opened ++ (command.Triangle, zs) ∷ [] =
    opened_same w a.opened.command a.opened.numbers.items (a.opened.tris.items ++ tri_of zs ∷ []) t.command t.numbers t.tris
    ∙ ap (λ (es : List Entry). (a.opened.command, a.opened.numbers.items) ∷ es) (map_push tri_entry a.opened.tris.items (tri_of zs) ∙ ap (λ (x : Entry). map tri_entry a.opened.tris.items ++ x ∷ []) (tri_line zs f.within)) in
    ap (λ (ls : List _). base_entries ls ++ opened_entries w.opened) t.block ∙ ap (λ (es : List Entry). base_entries a.block.items ++ es) e
    ∙ sym (append_assoc (base_entries a.block.items) (opened_entries a.opened) ((command.Triangle, zs) ∷ [])) ∙ ap (λ (es : List Entry). es ++ (command.Triangle, zs) ∷ []) (sym (due_begun n a h d))

written_push : (ts : List Tri) (zs : List ℤ) → AreTriangles ts → AreTriangles (ts ++ tri_of zs ∷ [])
written_push [] zs h = (record { rows = refl }, tt)
written_push (x ∷ ts) zs h = (h.0, written_push ts zs h.1)

in_section : (was : Bool) → back_in_app (place_in was) ≡ place_in was
in_section true = refl
in_section false = refl

pub triangle_moved : (n : ℕ) (a w : State) (zs : List ℤ) → Holds n a → a.line ≤ 536870911 → 0 < a.spot.due → LiveFits a.spot command.Triangle zs → TookTriangle a w zs → HasMoved n (is_buffer a.spot.place) w
triangle_moved n a w zs h few d f t =
    let was = is_buffer a.spot.place in
    let k = h.due d in
    let b = behind_header a.spot.place a.head k.behind_header h.head in
    let full = triangle_full n a w zs h d f t in
    let left : w.spot.due ≡ a.spot.due - 1 = ap (λ (s : Spot). s.due) t.spot in
    let channels : w.spot.channels ≡ a.spot.channels = ap (λ (s : Spot). s.channels) t.spot in
    let within : AreWithin (limits_of w.spot.channels a.opened.command) a.opened.numbers.items = rw channels k.within in
    let edit = announces a.opened.command a.opened.numbers.items (omega (arith, k.count, d)) in
    let count : length (a.opened.tris.items ++ tri_of zs ∷ []) + w.spot.due ≡ announced a.opened.command a.opened.numbers.items = omega (arith, left, k.count, d, length-append a.opened.tris.items (tri_of zs ∷ [])) in
    record {
      sound = t.sound;
      version = ap (λ (s : Spot). s.version) t.spot ∙ h.version;
      some = h.some;
      few = omega (arith, t.line, few);
      later = omega (arith, t.line, h.some, h.first);
      first = rw full (omega (arith, t.line, h.first, length-append (begun_of a) ((command.Triangle, zs) ∷ [])));
      head = t.head ∙ b.0;
      place = ap (λ (s : Spot). s.place) t.spot ∙ ap back_in_app b.1 ∙ in_section was ∙ sym (edit_place was a.opened.command edit) ∙ ap (λ (d : Command). back_in_app (place_after d (place_in was))) (sym t.command);
      block = rw t.block h.block;
      stands = rw t.command k.stands;
      number = rw t.block (t.number ∙ k.number);
      within = rw (t.command, t.numbers) within;
      count = rw (t.command, t.numbers, t.tris) count;
      written = rw t.tris (written_push a.opened.tris.items zs k.written);
    }

-- What is given

abbrev stand3 : ℕ → Spot → List Entry → LiveStand
stand3 n s es = record { line = n; spot = s; begun = es }

abbrev stand_and : ℕ → Spot → List Entry → List Entry → LiveStand × List Entry
stand_and n s es xs = (stand3 n s es, xs)

same_stand : (n m : ℕ) (s t : Spot) (es fs xs ys : List Entry) → n ≡ m → s ≡ t → es ≡ fs → xs ≡ ys → stand_and n s es xs ≡ stand_and m t fs ys
same_stand n m s t es fs xs ys e f g h = rw (e, f, g, h) refl

pub gives : (n : ℕ) (a w v : State) (line : List ℕ) (e : Entry) (found : Option Given) → Holds n a → live_entry_at a.spot line ≡ Ok e → w.line ≡ a.line + 1 → w.spot ≡ live_next a.spot e.0 e.1
    → full_of w ≡ begun_of a ++ e ∷ [] → Finishes w v found → IsHeld v × EntryGives (stand_of a) line (stand_of v) found
gives n a w v line e found h read number spot full f =
    let t = live_next a.spot e.0 e.1 in
    let begun : begun_of v ≡ left_at t (begun_of a ++ e ∷ []) = f.begun ∙ ap (λ (s : Spot). left_at s (full_of w)) spot ∙ ap (left_at t) full in
    let whole : whole_at w.spot (full_of w) ≡ whole_at t (begun_of a ++ e ∷ []) = ap (λ (s : Spot). whole_at s (full_of w)) spot ∙ ap (whole_at t) full in
    let count : length (full_of w) ≡ length (begun_of a) + 1 = ap (λ (es : List Entry). length es) full ∙ length-append (begun_of a) (e ∷ []) in
    let spelled : SpellsGiven w.spot.channels (begun_at (stand_of a)) found (whole_at w.spot (full_of w)) = f.spelled (begun_at (stand_of a)) (omega (arith, h.first, count, number)) in (
      f.held,
      record {
        entry = e;
        whole = whole_at w.spot (full_of w);
        read = read;
        behind = same_stand (a.line + 1) v.line t v.spot (left_at t (begun_of a ++ e ∷ [])) (begun_of v) (whole_at t (begun_of a ++ e ∷ [])) (whole_at w.spot (full_of w))
            (sym (f.line ∙ number)) (sym (f.spot ∙ spot)) (sym begun) (sym whole);
        spelled = subst (λ (k : ℕ). SpellsGiven k (begun_at (stand_of a)) found (whole_at w.spot (full_of w))) (ap (λ (s : Spot). s.channels) (sym f.spot)) spelled;
      },
    )

-- The header

header_settled : (n : ℕ) (a : State) → Holds n a → is_header a.spot.place ≡ true → is_buffer a.spot.place ≡ false
header_settled n a h p = outside a.spot.place p
  where
    outside : (p : Place) → is_header p ≡ true → is_buffer p ≡ false
    outside place.Buffer e = cc
    outside p e = refl

pub head_line : (a : State) (line : List ℕ) (c : Command) (zs : List ℤ) → IsHeld a → a.spot.due ≡ 0 → is_header a.spot.place ≡ true → live_entry_at a.spot line ≡ Ok (c, zs) → HeadLine a.spot a.head c zs
head_line a line c zs h z p e = record { place = p; settled = z; head = h.1.head; one = h.1.one; fits = fits_held a line c zs h e }

first_behind : (b : Bool) (n m k : ℕ) (es : List Entry) → n + length es ≡ m → cond b m n + length (cond b [] es) ≡ m
first_behind true n m k es e = omega arith
first_behind false n m k es e = e

some_behind : (b : Bool) (n m : ℕ) → 1 ≤ n → 1 ≤ m → 1 ≤ cond b m n
some_behind true n m e f = f
some_behind false n m e f = e

-- a state in which a line of the header was read
pub record TookHead (a v : State) (c : Command) (zs : List ℤ) (k : Head) : Type 0 where
  pub line : v.line ≡ a.line + 1
  pub spot : v.spot ≡ live_next a.spot c zs
  pub sound : IsSound v.spot
  pub head : v.head ≡ k
  pub tris : v.opened.tris.items ≡ a.opened.tris.items
  pub block : v.block.items ≡ a.block.items

pub header_gives : (a v : State) (line : List ℕ) (c : Command) (zs : List ℤ) (k : Head) (found : Option Given) → IsHeld a → a.line ≤ 536870911 → a.spot.due ≡ 0 → is_header a.spot.place ≡ true → live_entry_at a.spot line ≡ Ok (c, zs)
    → HeadAfter a.spot a.head c zs k found → TookHead a v c zs k → IsHeld v × EntryGives (stand_of a) line (stand_of v) found
header_gives a v line c zs k found held few z p read f t =
    let n = held.0 in
    let h = held.1 in
    let s = live_next a.spot c zs in
    let none : a.block.items ≡ [] = subst (λ (b : Bool). IsBegun b n a.block.items) (header_settled n a h p) h.block in
    let old : begun_of a ≡ head_entries a.head a.spot.channels = rw (none, z) (append-nil (head_entries a.head a.spot.channels)) in
    let gone : v.block.items ≡ [] = t.block ∙ none in
    let settled : v.spot.due ≡ 0 = ap (λ (s : Spot). s.due) t.spot ∙ f.settled in
    let new : begun_of v ≡ head_entries v.head v.spot.channels = rw (gone, settled) (append-nil (head_entries v.head v.spot.channels)) in
    let entries : head_entries v.head v.spot.channels ≡ head_entries k s.channels = ap (λ (k : Head). head_entries k v.spot.channels) t.head ∙ ap (λ (s : Spot). head_entries k s.channels) t.spot in
    let front : head_entries a.head a.spot.channels ++ (c, zs) ∷ [] ≡ begun_of a ++ (c, zs) ∷ [] = ap (λ (es : List Entry). es ++ (c, zs) ∷ []) (sym old) in
    let begun : begun_of v ≡ left_at s (begun_of a ++ (c, zs) ∷ []) = new ∙ entries ∙ f.lines ∙ ap (left_at s) front in
    let spelled : SpellsGiven s.channels (begun_at (stand_of a)) found (whole_at s (begun_of a ++ (c, zs) ∷ [])) = subst (λ (es : List Entry). SpellsGiven s.channels (begun_at (stand_of a)) found (whole_at s es)) front (f.spelled (begun_at (stand_of a))) in
    let count = length-append (begun_of a) ((c, zs) ∷ []) in (
      (
        cond (may_end s) v.line n,
        record {
          sound = t.sound;
          version = ap (λ (s : Spot). s.version) t.spot ∙ h.version;
          some = some_behind (may_end s) n v.line h.some (omega (arith, t.line));
          few = omega (arith, t.line, few);
          first = rw begun (first_behind (may_end s) n v.line 0 (begun_of a ++ (c, zs) ∷ []) (omega (arith, t.line, h.first, count)));
          opening = λ e. absurd (omega (arith, e, t.line, h.first, h.some));
          head = rw (t.head, t.spot) f.head;
          one = λ e. ap (λ (s : Spot). s.channels) t.spot ∙ f.one (ap (λ (s : Spot). is_early s.place) (sym t.spot) ∙ e);
          block = rw (t.spot, f.outside) gone;
          settled = λ _. t.tris ∙ h.settled z;
          due = λ d. absurd (omega (arith, d, settled));
        },
      ),
      record {
        entry = (c, zs);
        whole = whole_at s (begun_of a ++ (c, zs) ∷ []);
        read = read;
        behind = same_stand (a.line + 1) v.line s v.spot (left_at s (begun_of a ++ (c, zs) ∷ [])) (begun_of v) (whole_at s (begun_of a ++ (c, zs) ∷ [])) (whole_at s (begun_of a ++ (c, zs) ∷ [])) (sym t.line) (sym t.spot) (sym begun) refl;
        spelled = subst (λ (k : ℕ). SpellsGiven k (begun_at (stand_of a)) found (whole_at s (begun_of a ++ (c, zs) ∷ []))) (ap (λ (s : Spot). s.channels) (sym t.spot)) spelled;
      },
    )

-- The whole line

not_first : (n : ℕ) → 1 < n → eqb n 1 ≡ false
not_first n h = grind (arith, nat_tests)

abbrev step : LiveStand × List Entry → Result (LiveStand × List Entry) Why
step p = Ok p

step_ok : (s t : LiveStand) (line : List ℕ) (e : Entry) (whole : List Entry) → 1 < s.line → s.line ≤ 536870911 → length line ≤ 1024 → live_entry_at s.spot line ≡ Ok e → stand_behind s (e ∷ []) ≡ (t, whole) → live_step s line ≡ Ok (t, whole)
step_ok s t line e whole m few short read behind = rw (le-ltb _ _ few, le-ltb _ _ short, not_first s.line m, read) (ap step behind)

step_fails : (s : LiveStand) (line : List ℕ) (e : LineError) → 1 < s.line → s.line ≤ 536870911 → length line ≤ 1024 → Fails e (live_entry_at s.spot line) → Fails e (live_step s line)
step_fails s line line_error.NoMemory m few short f = tt
step_fails s line (line_error.Wrong why) m few short f = rw (le-ltb _ _ few, le-ltb _ _ short, not_first s.line m, f) refl

pub line_read : (w v : State) (line : List ℕ) (r : Result (Option Given) LineError) → 1 < w.line → w.line ≤ 536870911 → length line ≤ 1024 → EntryRead w line v r → LineRead w line v r
line_read w v line (Ok found) m few short h = (h.0, record { whole = h.1.whole; step = step_ok (stand_of w) (stand_of v) line h.1.entry h.1.whole m few short h.1.read h.1.behind; spelled = h.1.spelled })
line_read w v line (Err e) m few short h = (h.0, h.1, step_fails (stand_of w) line e m few short h.2)

-- The first line

first_step : (s : Spot) (line : List ℕ) (es : List Entry) → may_end s ≡ false → length line ≤ 1024 → bytes_eq line (codes "perfly live 1") ≡ true → live_step (stand3 1 s es) line ≡ step (stand3 2 s es, [])
first_step s line es goes short b = rw (le-ltb _ _ short, b, goes, append-nil es) refl

first_ends : (s : Spot) → s ≡ start version.Two → may_end s ≡ false
first_ends s e = rw e refl

first_block : (b : Bool) (n : ℕ) (w : State) → b ≡ false → IsBegun b n w.block.items → IsBegun b 2 w.block.items
first_block true n w e h = absurd cc
first_block false n w e h = h

pub first_read : (w : State) (line : List ℕ) → IsHeld w → w.line ≤ 1 → length line ≤ 1024 → bytes_eq line (codes "perfly live 1") ≡ true → LineRead w line (record w { line = 2 }) (Ok None)
first_read w line held one short b =
    let n = held.0 in
    let h = held.1 in
    let is : w.line ≡ 1 = omega (arith, one, h.some, h.first) in
    let spot : w.spot ≡ start version.Two = h.opening is ∙ ap start h.version in
    let outside : is_buffer w.spot.place ≡ false = ap (λ (s : Spot). is_buffer s.place) spot in
    let settled : w.spot.due ≡ 0 = ap (λ (s : Spot). s.due) spot in
    let none : length (begun_of w) ≡ 0 = omega (arith, is, h.some, h.first) in (
      (
        2,
        record {
          sound = h.sound;
          version = h.version;
          some = omega arith;
          few = omega arith;
          first = omega (arith, none);
          opening = λ e. absurd (omega (arith, e));
          head = h.head;
          one = h.one;
          block = first_block (is_buffer w.spot.place) n w outside h.block;
          settled = h.settled;
          due = λ d. absurd (omega (arith, d, settled));
        },
      ),
      record {
        whole = [];
        step = ap (λ (k : ℕ). live_step (stand3 k w.spot (begun_of w)) line) is ∙ first_step w.spot line (begun_of w) (first_ends w.spot spot) short b;
        spelled = refl;
      },
    )
