-- Reading a section step by step.
use Rattle.std.proofs.Common.{◌≡◌, ℕ, ◌+◌, ◌-◌, ◌<◌, ◌≤◌, arith, refl, true, false, ap, Bool, sym, ◌∙◌, List, [], ◌∷◌, ◌++◌, length, map, subst, Result, Ok, Err, Option, Some, None, ℤ, eqb, append_assoc}
use Rattle.std.specs.Prelude.{IfSome}
use Rattle.std.specs.List.{flat_map, list_all, AllByRecursion}
use Rattle.std.proofs.lemmas.Bool.{lt-ltb}
use Rattle.std.proofs.lemmas.List.{append-nil, length-append, length-map, map_push}
use Rattle.std.proofs.lemmas.List.Folds.{list_all-append}
use Rattle.std.specs.Option.{option_and_then}
use Rattle.pf_model.specs.declared.geometry.Tri.{Tri}
use Rattle.play_format.specs.declared.refusal.Refusal.{Refusal}
use Rattle.play_format.specs.declared.commands.Command.{Command}
use Rattle.play_format.specs.declared.commands.Command.TheVariants as command
use Rattle.play_format.specs.declared.places.Place.{Place}
use Rattle.play_format.specs.declared.places.Place.TheVariants as place
use Rattle.play_format.specs.declared.places.Spot.{Spot}
use Rattle.play_format.specs.declared.places.Version.{Version}
use Rattle.play_format.specs.declared.refusal.ParseError.{ParseError}
use Rattle.play_format.specs.declared.refusal.ParseError.TheVariants as parse_error
use Rattle.pf_model.specs.declared.lines.AppStep.{AppStep}
use Rattle.pf_model.specs.declared.lines.AppLine.{AppLine}
use Rattle.pf_model.specs.declared.lines.BaseStep.{BaseStep}
use Rattle.pf_model.specs.declared.lines.BaseLine.{BaseLine}
use Rattle.play_format.specs.Outcomes.{Refuses}
use Rattle.play_format.specs.Commands.{limits_of, Entry}
use Rattle.play_format.specs.Places.{channels_after, due_after, place_after, announced, stands_in_app, may_stand, may_end, is_closed, is_triangle, next_spot, stands_at, AreWithin}
use Rattle.play_format.specs.Rests.{unread, with_front, Stand}
use Rattle.play_format.specs.Making.{tri_of, app_step_of, base_step_of}
use Rattle.play_format.specs.Spelling.{tri_entry, app_lines, base_lines, AreAppNumbered, app_entries, AreBaseNumbered, base_entries}
use Rattle.play_format.specs.Written.{AreTriangles, IsAppStep, IsBaseStep}
use Rattle.play_format.specs.Plays.{app_fits, base_fits, opened, open_after}
use Rattle.play_format.specs.Early.{TrianglesSoFar}
use Rattle.play_format.specs.Sections.{Passes, LineRead, IsAt, TriangleRead, TrianglesRead, AppStepRead, AppRead, AppSection, IsInBase, place_of, BaseStepRead, BaseRead, BaseSection, is_buffer}
use Rattle.play_format.proofs.BackLemmas.{tri_back}
use Rattle.play_format.proofs.EntryLemmas.{both}
use Rattle.play_format.proofs.MadeLemmas.{AppBack, app_back, app_none, no_triangle, no_number, few_announced, BaseBack, base_back, base_some, stands_in_base}

-- lines behind lines
pub front_front : (xs ys : List Entry) (r : Result (List Entry) Refusal) → with_front xs (with_front ys r) ≡ with_front (xs ++ ys) r
front_front xs ys (Ok es) = ap (λ (zs : List Entry). Ok zs) (sym (append_assoc xs ys es))
front_front xs ys (Err e) = refl

pub front_nil : (r : Result (List Entry) Refusal) → with_front [] r ≡ r
front_nil (Ok es) = refl
front_nil (Err e) = refl

-- no triangle lines
pub no_triangles : (a : Stand) → TrianglesSoFar a a []
no_triangles a = record {
  told = sym (front_nil (unread a.spot a.line a.text));
  count = omega arith;
  line = omega arith;
  version = refl;
  channels = refl;
  place = refl;
  written = tt;
  not_longer = omega arith;
}

is_triangle_line : (c : Command) → is_triangle c ≡ true → c ≡ command.Triangle
is_triangle_line command.Triangle e = refl
is_triangle_line c e = absurd cc

-- where a triangle line is due, it is one
pub due_line : (s : Spot) (c : Command) → 0 < s.due → may_stand s c ≡ true → c ≡ command.Triangle
due_line s c lt e = is_triangle_line c (rw (lt-ltb 0 s.due lt) at e)

written_more : (ts : List Tri) (t : Tri) → AreTriangles ts → AreTriangles (t ∷ []) → AreTriangles (ts ++ t ∷ [])
written_more [] t h k = k
written_more (x ∷ ts) t h k = (h.0, written_more ts t h.1 k)

-- a triangle line more
pub triangle_more : (a b d : Stand) (ts : List Tri) (t : Tri) → TrianglesSoFar a b ts → 0 < b.spot.due → TriangleRead b d t → TrianglesSoFar a d (ts ++ t ∷ [])
unfolding next_spot
triangle_more a b d ts t h lt r =
    let spot : d.spot ≡ next_spot b.spot command.Triangle (tri_entry t).1 = r.read.spot in
    let due : d.spot.due ≡ b.spot.due - 1 = ap (λ (s : Spot). s.due) spot in
    let more : map tri_entry ts ++ tri_entry t ∷ [] ≡ map tri_entry (ts ++ t ∷ []) = sym (map_push tri_entry ts t) in
    record {
      told = h.told ∙ ap (with_front (map tri_entry ts)) r.read.told ∙ front_front (map tri_entry ts) (tri_entry t ∷ []) (unread d.spot d.line d.text) ∙ ap (λ (es : List Entry). with_front es (unread d.spot d.line d.text)) more;
      count = omega (arith, length-append ts (t ∷ []), h.count, due, lt);
      line = omega (arith, length-append ts (t ∷ []), h.line, r.read.line);
      version = ap (λ (s : Spot). s.version) spot ∙ h.version;
      channels = ap (λ (s : Spot). s.channels) spot ∙ h.channels;
      place = ap (λ (s : Spot). s.place) spot ∙ h.place;
      written = written_more ts t h.written r.written;
      not_longer = omega (arith, h.not_longer, r.read.shorter);
    }

-- the triangle of a line that was read where one is due
pub triangle_read : (a b : Stand) (c : Command) (zs : List ℤ) → 0 < a.spot.due → LineRead a b c zs → TriangleRead a b (tri_of zs)
triangle_read a b c zs lt r =
    let is : c ≡ command.Triangle = due_line a.spot c lt r.fits.stands in
    let within : AreWithin (limits_of 0 command.Triangle) zs = subst (λ (e : Command). AreWithin (limits_of a.spot.channels e) zs) is r.fits.within in
    let line : LineRead a b command.Triangle zs = subst (λ (e : Command). LineRead a b e zs) is r in
    record {
      read = subst (λ (ys : List ℤ). LineRead a b command.Triangle ys) (sym (tri_back zs within)) line;
      written = (record { rows = refl }, tt);
    }

-- all triangle lines that were due
pub triangles_done : (a b : Stand) (ts : List Tri) → TrianglesSoFar a b ts → b.spot.due ≤ 0 → TrianglesRead a b ts
triangles_done a b ts h e = record {
  passes = record { told = h.told; line = omega (arith, h.line, length-map ts tri_entry); version = h.version; channels = h.channels };
  count = omega (arith, h.count, e);
  place = h.place;
  settled = omega (arith, e);
  written = h.written;
  not_longer = h.not_longer;
}

-- an error behind lines
pub wrong_behind : (xs : List Entry) (r : Result (List Entry) Refusal) (f : Refusal) → r ≡ Err f → with_front xs r ≡ Err f
wrong_behind xs r f e = rw e refl

-- an error behind lines
pub refused_behind : (xs : List Entry) (r : Result (List Entry) Refusal) (e : ParseError) → Refuses e r → Refuses e (with_front xs r)
refused_behind xs r parse_error.NoMemory h = tt
refused_behind xs r (parse_error.Refused f) h = wrong_behind xs r f h

-- where no triangle line is due, a line stands by its place
pub stands_settled : (p : Place) (a : Stand) (c : Command) → IsAt p a → may_stand a.spot c ≡ true → stands_at a.spot.version p c ≡ true
stands_settled p a c h e =
    let k : stands_at a.spot.version a.spot.place c ≡ true = rw h.settled at e in
    subst (λ (q : Place). stands_at a.spot.version q c ≡ true) h.place k

-- lines behind a line
pub passes_more : (a b d : Stand) (c : Command) (zs : List ℤ) (es : List Entry) → LineRead a b c zs → channels_after c zs a.spot.channels ≡ a.spot.channels → Passes b d es → Passes a d ((c, zs) ∷ es)
unfolding next_spot
passes_more a b d c zs es r e p = record {
  told = r.told ∙ ap (with_front ((c, zs) ∷ [])) p.told ∙ front_front ((c, zs) ∷ []) es (unread d.spot d.line d.text);
  line = omega (arith, r.line, p.line);
  version = p.version ∙ ap (λ (s : Spot). s.version) r.spot;
  channels = p.channels ∙ ap (λ (s : Spot). s.channels) r.spot ∙ e;
}

pub due_in_app : (v : Version) (c : Command) (zs : List ℤ) (n : ℕ) → stands_in_app v c ≡ true → due_after c zs n ≡ announced c zs
due_in_app v command.Triangle zs n e = absurd cc
due_in_app v c zs n e = refl

-- the triangles of a line are as many as it announces
pub announced_read : (a b d : Stand) (c : Command) (zs : List ℤ) (ts : List Tri) → LineRead a b c zs → due_after c zs a.spot.due ≡ announced c zs → TrianglesRead b d ts → length ts ≡ announced c zs
unfolding next_spot
announced_read a b d c zs ts r e t = t.count ∙ ap (λ (s : Spot). s.due) r.spot ∙ e

place_behind : (a b d : Stand) (c : Command) (zs : List ℤ) (ts : List Tri) → LineRead a b c zs → TrianglesRead b d ts → d.spot.place ≡ place_after c a.spot.place
unfolding next_spot
place_behind a b d c zs ts r t = t.place ∙ ap (λ (s : Spot). s.place) r.spot

abbrev some_open : Bool → Option Bool
some_open b = Some b

abbrev some_step : AppStep → Option AppStep
some_step s = Some s

-- a line of the application, with its triangles, is a step
pub app_step_read : (a b d : Stand) (c : Command) (zs : List ℤ) (ts : List Tri) (s : AppStep) → IsAt place.App a → 1 ≤ a.spot.channels → a.spot.channels ≤ 4
    → LineRead a b c zs → TrianglesRead b d ts → app_step_of c zs ts ≡ Some s → AppStepRead a d (record { line = a.line; step = s })
app_step_read a b d c zs ts s at some few r t e =
    let stands = stands_settled place.App a c at r.fits.stands in
    let count = announced_read a b d c zs ts r (due_in_app a.spot.version c zs a.spot.due stands) t in
    let back : AppBack a.spot.channels c zs ts s = subst (λ (o : Option AppStep). IfSome o (λ s. AppBack a.spot.channels c zs ts s)) e (app_back a.spot.channels c zs ts some few r.fits.within count t.written) in
    record {
      passes = rw back.lines (passes_more a b d c zs (map tri_entry ts) r back.channels t.passes);
      line = refl;
      place = record { place = place_behind a b d c zs ts r t ∙ ap (place_after c) at.place ∙ back.place; settled = t.settled };
      written = back.written;
      fitting = back.fitting;
      shorter = omega (arith, r.shorter, t.not_longer);
    }

-- and one that is no step is `dbase`
pub app_section_read : (a b d : Stand) (c : Command) (zs : List ℤ) (ts : List Tri) → IsAt place.App a
    → LineRead a b c zs → TrianglesRead b d ts → app_step_of c zs ts ≡ None → Passes a d ((command.Dbase, []) ∷ []) × IsAt place.Dbase d
app_section_read a b d c zs ts at r t e =
    let stands = stands_settled place.App a c at r.fits.stands in
    let is : c ≡ command.Dbase = app_none a.spot.version c zs ts stands e in
    let P : Command → Type 0 = λ c. LineRead a b c zs → Passes a d ((command.Dbase, []) ∷ []) × IsAt place.Dbase d in
    subst P (sym is) (λ r.
    let count = announced_read a b d command.Dbase zs ts r refl t in
    let none : [] ≡ map tri_entry ts = no_triangle ts count in
    let number : [] ≡ zs = no_number zs r.fits.within in
    let p : Passes a d ((command.Dbase, zs) ∷ map tri_entry ts) = passes_more a b d command.Dbase zs (map tri_entry ts) r refl t.passes in
    (rw (number, none) p, record { place = place_behind a b d command.Dbase zs ts r t; settled = t.settled })) r

-- at most 4,096 triangles stand behind a line
pub few_read : (a b d : Stand) (c : Command) (zs : List ℤ) (ts : List Tri) → LineRead a b c zs → due_after c zs a.spot.due ≡ announced c zs → TrianglesRead b d ts → length ts ≤ 4096
few_read a b d c zs ts r e t = omega (arith, announced_read a b d c zs ts r e t, few_announced a.spot.channels c zs r.fits.within)

pub few_in_app : (a b d : Stand) (c : Command) (zs : List ℤ) (ts : List Tri) → IsAt place.App a → LineRead a b c zs → TrianglesRead b d ts → length ts ≤ 4096
few_in_app a b d c zs ts at r t = few_read a b d c zs ts r (due_in_app a.spot.version c zs a.spot.due (stands_settled place.App a c at r.fits.stands)) t

-- Steps of the application so far

pub record AppSoFar (a b : Stand) (ls : List AppLine) : Type 0 where
  pub passes : Passes a b (app_entries ls)
  pub place : IsAt place.App b
  pub read : AppRead a.spot.channels a.line ls

pub no_steps : (a : Stand) → IsAt place.App a → AppSoFar a a []
no_steps a at = record {
  passes = record { told = sym (front_nil (unread a.spot a.line a.text)); line = omega arith; version = refl; channels = refl };
  place = at;
  read = record { numbered = tt; written = tt; fitting = refl };
}

app_numbered_more : (n : ℕ) (ls : List AppLine) (l : AppLine) → AreAppNumbered n ls → l.line ≡ n + length (app_entries ls) → AreAppNumbered n (ls ++ l ∷ [])
app_numbered_more n [] l h e = (omega (arith, e), tt)
app_numbered_more n (x ∷ ls) l h e = (h.0, app_numbered_more (n + length (app_lines x.step)) ls l h.1 (omega (arith, e, length-append (app_lines x.step) (app_entries ls))))

app_written_more : (ls : List AppLine) (l : AppLine) → AllByRecursion (λ l. IsAppStep l.step) ls → IsAppStep l.step → AllByRecursion (λ l. IsAppStep l.step) (ls ++ l ∷ [])
app_written_more [] l h k = (k, tt)
app_written_more (x ∷ ls) l h k = (h.0, app_written_more ls l h.1 k)

flat_push : {X : Type 0} (f : X → List Entry) (xs : List X) (x : X) → flat_map f (xs ++ x ∷ []) ≡ flat_map f xs ++ f x
flat_push f [] x = append-nil (f x)
flat_push f (y ∷ xs) x = ap (λ (es : List Entry). f y ++ es) (flat_push f xs x) ∙ sym (append_assoc (f y) (flat_map f xs) (f x))

all_push : {X : Type 0} (p : X → Bool) (xs : List X) (x : X) → list_all p xs ≡ true → p x ≡ true → list_all p (xs ++ x ∷ []) ≡ true
all_push p xs x h k = list_all-append p xs (x ∷ []) ∙ rw (h, k) refl

-- lines behind lines
pub passes_then : (a b d : Stand) (xs ys : List Entry) → Passes a b xs → Passes b d ys → Passes a d (xs ++ ys)
passes_then a b d xs ys p q = record {
  told = p.told ∙ ap (with_front xs) q.told ∙ front_front xs ys (unread d.spot d.line d.text);
  line = omega (arith, p.line, q.line, length-append xs ys);
  version = q.version ∙ p.version;
  channels = q.channels ∙ p.channels;
}

pub app_more : (a b d : Stand) (ls : List AppLine) (l : AppLine) → AppSoFar a b ls → AppStepRead b d l → AppSoFar a d (ls ++ l ∷ [])
app_more a b d ls l h r = record {
  passes = rw (flat_push (λ l. app_lines l.step) ls l) (passes_then a b d (app_entries ls) (app_lines l.step) h.passes r.passes);
  place = r.place;
  read = record {
    numbered = app_numbered_more a.line ls l h.read.numbered (r.line ∙ h.passes.line);
    written = app_written_more ls l h.read.written r.written;
    fitting = all_push (λ l. app_fits a.spot.channels l.step) ls l h.read.fitting (subst (λ (n : ℕ). app_fits n l.step ≡ true) h.passes.channels r.fitting);
  };
}

-- the line `dbase` ends the section
pub app_ends : (a b d : Stand) (ls : List AppLine) → AppSoFar a b ls → Passes b d ((command.Dbase, []) ∷ []) → IsAt place.Dbase d → AppSection a d ls true
app_ends a b d ls h p at = (passes_then a b d (app_entries ls) ((command.Dbase, []) ∷ []) h.passes p, at, h.read)

-- the text ends in the section
pub app_stops : (a b d : Stand) (ls : List AppLine) → AppSoFar a b ls → unread b.spot b.line b.text ≡ Ok [] → d.line ≡ b.line → AppSection a d ls false
app_stops a b d ls h e n = (h.passes.told ∙ rw e (ap (λ (es : List Entry). Ok es) (append-nil (app_entries ls))), n ∙ h.passes.line, h.read)

pub refused_turn : (a b : Stand) (xs : List Entry) (e : ParseError) → Passes a b xs → Refuses e (unread b.spot b.line b.text) → Refuses e (unread a.spot a.line a.text)
refused_turn a b xs e p h = rw p.told (refused_behind xs (unread b.spot b.line b.text) e h)

-- The database process

stands_base : (v : Version) (inside : Bool) (c : Command) → stands_at v (place_of inside) c ≡ true → stands_in_base v inside c ≡ true
stands_base v false c e = e
stands_base v true c e = e

pub base_stands : (a : Stand) (c : Command) → IsInBase a → may_stand a.spot c ≡ true → stands_in_base a.spot.version (is_buffer a.spot.place) c ≡ true
base_stands a c at e = stands_base a.spot.version (is_buffer a.spot.place) c (stands_settled (place_of (is_buffer a.spot.place)) a c at e)

due_in_base_of : (v : Version) (inside : Bool) (c : Command) (zs : List ℤ) (n : ℕ) → stands_in_base v inside c ≡ true → due_after c zs n ≡ announced c zs
due_in_base_of v false command.Triangle zs n e = absurd cc
due_in_base_of v true command.Triangle zs n e = absurd cc
due_in_base_of v inside c zs n e = refl

pub due_in_base : (a : Stand) (c : Command) (zs : List ℤ) → IsInBase a → may_stand a.spot c ≡ true → due_after c zs a.spot.due ≡ announced c zs
due_in_base a c zs at e = due_in_base_of a.spot.version (is_buffer a.spot.place) c zs a.spot.due (base_stands a c at e)

pub few_in_base : (a b d : Stand) (c : Command) (zs : List ℤ) (ts : List Tri) → IsInBase a → LineRead a b c zs → TrianglesRead b d ts → length ts ≤ 4096
few_in_base a b d c zs ts at r t = few_read a b d c zs ts r (due_in_base a c zs at r.fits.stands) t

is_place_of : (b : Bool) → is_buffer (place_of b) ≡ b
is_place_of false = refl
is_place_of true = refl

-- a line of the database process, with its triangles, is a step
pub base_step_read : (a b d : Stand) (c : Command) (zs : List ℤ) (ts : List Tri) (s : BaseStep) → IsInBase a
    → LineRead a b c zs → TrianglesRead b d ts → base_step_of c zs ts ≡ Some s → BaseStepRead a d (record { line = a.line; step = s })
base_step_read a b d c zs ts s at r t e =
    let inside = is_buffer a.spot.place in
    let stands = base_stands a c at r.fits.stands in
    let count = announced_read a b d c zs ts r (due_in_base a c zs at r.fits.stands) t in
    let back : BaseBack inside c zs ts s = subst (λ (o : Option BaseStep). IfSome o (λ s. BaseBack inside c zs ts s)) e (base_back a.spot.channels a.spot.version inside c zs ts stands r.fits.within count t.written) in
    let place : d.spot.place ≡ place_of back.now_inside = place_behind a b d c zs ts r t ∙ ap (place_after c) at.place ∙ back.place in
    let now : is_buffer d.spot.place ≡ back.now_inside = ap is_buffer place ∙ is_place_of back.now_inside in
    record {
      passes = rw back.lines (passes_more a b d c zs (map tri_entry ts) r (back.channels a.spot.channels) t.passes);
      line = refl;
      opens = back.opens ∙ ap (λ (b : Bool). some_open b) (sym now);
      place = record { place = place ∙ ap place_of (sym now); settled = t.settled };
      written = back.written;
      fitting = back.fitting;
      shorter = omega (arith, r.shorter, t.not_longer);
    }

pub base_no_step : (a b : Stand) (c : Command) (zs : List ℤ) (ts : List Tri) → IsInBase a → LineRead a b c zs → base_step_of c zs ts ≡ None → ⊥
base_no_step a b c zs ts at r e = base_some a.spot.version (is_buffer a.spot.place) c zs ts (base_stands a c at r.fits.stands) e

-- where the text may end, no buffer is open
pub closed_end : (s : Spot) → may_end s ≡ true → is_buffer s.place ≡ false
closed_end s e = closed_of s.place (both (eqb s.due 0) (is_closed s.place) e).1
  where
    closed_of : (p : Place) → is_closed p ≡ true → is_buffer p ≡ false
    closed_of place.Buffer e = absurd cc
    closed_of p e = refl

pub record BaseSoFar (a b : Stand) (ls : List BaseLine) : Type 0 where
  pub passes : Passes a b (base_entries ls)
  pub place : IsInBase b
  pub opens : open_after false ls ≡ Some (is_buffer b.spot.place)
  pub read : BaseRead a.line ls

pub no_base_steps : (a : Stand) → IsAt place.Dbase a → BaseSoFar a a []
no_base_steps a at = record {
  passes = record { told = sym (front_nil (unread a.spot a.line a.text)); line = omega arith; version = refl; channels = refl };
  place = subst (λ (p : Place). IsAt (place_of (is_buffer p)) a) (sym at.place) at;
  opens = ap (λ (p : Place). some_open (is_buffer p)) (sym at.place);
  read = record { numbered = tt; written = tt; fitting = refl };
}

base_numbered_more : (n : ℕ) (ls : List BaseLine) (l : BaseLine) → AreBaseNumbered n ls → l.line ≡ n + length (base_entries ls) → AreBaseNumbered n (ls ++ l ∷ [])
base_numbered_more n [] l h e = (omega (arith, e), tt)
base_numbered_more n (x ∷ ls) l h e = (h.0, base_numbered_more (n + length (base_lines x.step)) ls l h.1 (omega (arith, e, length-append (base_lines x.step) (base_entries ls))))

base_written_more : (ls : List BaseLine) (l : BaseLine) → AllByRecursion (λ l. IsBaseStep l.step) ls → IsBaseStep l.step → AllByRecursion (λ l. IsBaseStep l.step) (ls ++ l ∷ [])
base_written_more [] l h k = (k, tt)
base_written_more (x ∷ ls) l h k = (h.0, base_written_more ls l h.1 k)

last_opens : (o : Option Bool) → option_and_then (λ b. some_open b) o ≡ o
last_opens None = refl
last_opens (Some b) = refl

next_opens : (ls : List BaseLine) (l : BaseLine) (o : Option Bool) → ((b : Bool) → open_after b (ls ++ l ∷ []) ≡ option_and_then (λ b. opened b l.step) (open_after b ls))
    → option_and_then (λ b. open_after b (ls ++ l ∷ [])) o ≡ option_and_then (λ b. opened b l.step) (option_and_then (λ b. open_after b ls) o)
next_opens ls l None h = refl
next_opens ls l (Some b) h = h b

opens_more : (ls : List BaseLine) (l : BaseLine) (b : Bool) → open_after b (ls ++ l ∷ []) ≡ option_and_then (λ b. opened b l.step) (open_after b ls)
opens_more [] l b = last_opens (opened b l.step)
opens_more (x ∷ ls) l b = next_opens ls l (opened b x.step) (opens_more ls l)

pub base_more : (a b d : Stand) (ls : List BaseLine) (l : BaseLine) → BaseSoFar a b ls → BaseStepRead b d l → BaseSoFar a d (ls ++ l ∷ [])
base_more a b d ls l h r = record {
  passes = rw (flat_push (λ l. base_lines l.step) ls l) (passes_then a b d (base_entries ls) (base_lines l.step) h.passes r.passes);
  place = r.place;
  opens = opens_more ls l false ∙ rw h.opens r.opens;
  read = record {
    numbered = base_numbered_more a.line ls l h.read.numbered (r.line ∙ h.passes.line);
    written = base_written_more ls l h.read.written r.written;
    fitting = all_push (λ l. base_fits l.step) ls l h.read.fitting r.fitting;
  };
}

pub base_stops : (a b d : Stand) (ls : List BaseLine) → BaseSoFar a b ls → unread b.spot b.line b.text ≡ Ok [] → d.line ≡ b.line → is_buffer b.spot.place ≡ false → BaseSection a d ls
base_stops a b d ls h e n f = (h.passes.told ∙ rw e (ap (λ (es : List Entry). Ok es) (append-nil (base_entries ls))), n ∙ h.passes.line, h.read, h.opens ∙ ap (λ (b : Bool). some_open b) f)
