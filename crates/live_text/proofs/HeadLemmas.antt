-- The header, line by line.
use Rattle.std.proofs.Common.{◌≡◌, ℕ, ◌≤◌, arith, refl, true, false, cond, ap, sym, ◌∙◌, Bool, List, [], ◌∷◌, ◌++◌, length, map, subst, Option, Some, None, ℤ, pos, negsuc}
use Rattle.std.specs.Prelude.{unsigned_abs}
use Rattle.std.proofs.lemmas.Int.{ints}
use Rattle.std.proofs.lemmas.Bool.{lt-ltb}
use Rattle.fx_math.specs.Within.{IsLens}
use Rattle.fx_math.specs.declared.lenses.Lens.{Lens}
use Rattle.play_format.specs.declared.commands.Command.{Command}
use Rattle.play_format.specs.declared.commands.Command.TheVariants as command
use Rattle.play_format.specs.declared.places.Version.TheVariants as version
use Rattle.play_format.specs.declared.places.Place.{Place}
use Rattle.play_format.specs.declared.places.Place.TheVariants as place
use Rattle.play_format.specs.declared.places.Spot.{Spot}
use Rattle.play_format.specs.Commands.{limits_of, size, focal_length, colour_limits, channel_count, Entry}
use Rattle.play_format.specs.Places.{IsWithin, AreWithin, number, is_ordered, is_triangle, stands_at}
use Rattle.play_format.specs.Making.{below, u16_at, u8_at}
use Rattle.play_format.specs.Sections.{IsSize}
use Rattle.play_format.proofs.BackLemmas.{colour_back}
use Rattle.play_format.proofs.MadeLemmas.{no_number}
use Rattle.live_text.specs.declared.given.Given.{Given}
use Rattle.live_text.specs.declared.given.Given.TheVariants as given
use Rattle.live_text.specs.declared.head.Head.{Head}
use Rattle.live_text.specs.declared.head.Head.TheVariants as head
use Rattle.live_text.specs.States.{IsHead, is_early, is_header, live_stands, LiveFits, HeadLine, HeadAfter, IsSizeRead, IsLensRead, IsBackRead}

-- The numbers of its lines

size_back : (z : ℤ) → IsWithin size z → (pos (below 65536 z) ≡ z) × (1 ≤ below 65536 z) × (below 65536 z ≤ 1024)
size_back (pos n) w =
    let low : 1 ≤ n = omega (arith, ints, w.low) in
    let high : n ≤ 1024 = omega (arith, ints, w.high) in
    rw (lt-ltb n 65536 (omega arith)) (refl, low, high)
size_back (negsuc n) w = absurd (omega (arith, ints, w.low))

pub size_numbers : (zs : List ℤ) → AreWithin (limits_of 1 command.Size) zs → IsSizeRead zs (u16_at zs 0) (u16_at zs 1)
size_numbers (x ∷ y ∷ []) w =
    let a = size_back x w.0 in
    let b = size_back y w.1.0 in
    (sym (rw (a.0, b.0) refl), record { some_width = a.1; most_width = a.2; some_height = b.1; most_height = b.2 })
size_numbers [] w = absurd w
size_numbers (x ∷ []) w = absurd w.1
size_numbers (x ∷ y ∷ z ∷ zs) w = absurd w.1.1

focus_back : (z : ℤ) → IsWithin focal_length z → (pos (below 65536 z) ≡ z) × (1 ≤ below 65536 z) × (below 65536 z ≤ 65535)
focus_back (pos n) w =
    let low : 1 ≤ n = omega (arith, ints, w.low) in
    let high : n ≤ 65535 = omega (arith, ints, w.high) in
    rw (lt-ltb n 65536 (omega arith)) (refl, low, high)
focus_back (negsuc n) w = absurd (omega (arith, ints, w.low))

pub lens_numbers : (w h : ℕ) (zs : List ℤ) → IsSize w h → AreWithin (limits_of 1 command.Lens) zs → is_ordered command.Lens zs ≡ true
    → (zs ≡ pos (u16_at zs 0) ∷ number zs 1 ∷ number zs 2 ∷ []) × IsLens w h (u16_at zs 0) (number zs 1) (number zs 2)
lens_numbers w h (f ∷ near ∷ far ∷ []) s k o =
    let a = focus_back f k.0 in (
      sym (rw a.0 refl),
      record {
        some_width = s.some_width;
        most_width = s.most_width;
        some_height = s.some_height;
        most_height = s.most_height;
        some_focus = a.1;
        most_focus = a.2;
        before_eye = k.1.0.low;
        ordered = grind (arith, ints, o);
        most_far = k.1.1.0.high;
      },
    )
lens_numbers w h [] s k o = absurd k
lens_numbers w h (f ∷ []) s k o = absurd k.1
lens_numbers w h (f ∷ near ∷ []) s k o = absurd k.1.1
lens_numbers w h (f ∷ near ∷ far ∷ z ∷ zs) s k o = absurd k.1.1.1

pub back_numbers : (zs : List ℤ) → AreWithin colour_limits zs → zs ≡ pos (u8_at zs 0) ∷ pos (u8_at zs 1) ∷ pos (u8_at zs 2) ∷ []
back_numbers (x ∷ y ∷ z ∷ []) w = sym (rw (colour_back x w.0, colour_back y w.1.0, colour_back z w.1.1.0) refl)
back_numbers [] w = absurd w
back_numbers (x ∷ []) w = absurd w.1
back_numbers (x ∷ y ∷ []) w = absurd w.1.1
back_numbers (x ∷ y ∷ z ∷ u ∷ zs) w = absurd w.1.1.1

count_number : (zs : List ℤ) → AreWithin (channel_count ∷ []) zs → zs ≡ pos (unsigned_abs (number zs 0)) ∷ []
count_number (pos n ∷ []) w = refl
count_number (negsuc n ∷ []) w = absurd (omega (arith, ints, w.0.low))
count_number [] w = absurd w
count_number (x ∷ y ∷ zs) w = absurd w.1

-- Which line is read

-- what stands where no triangle line is due
stands_settled : (s : Spot) (h : Head) (c : Command) (zs : List ℤ) → HeadLine s h c zs → live_stands s.place c ≡ true
stands_settled s h c zs l = let k : cond false (is_triangle c) (live_stands s.place c) ≡ true = rw l.settled at l.fits.stands in k

size_at : (p : Place) (c : Command) → IsHead p head.Nothing → live_stands p c ≡ true → c ≡ command.Size
size_at place.Size command.Size i e = refl
size_at place.Size c i e = absurd cc
size_at place.Lens c i e = absurd i
size_at place.Back c i e = absurd i
size_at place.Start c i e = absurd i
size_at place.Opening c i e = absurd i
size_at place.App c i e = absurd i
size_at place.Dbase c i e = absurd i
size_at place.Buffer c i e = absurd i

lens_at : (p : Place) (c : Command) (w h : ℕ) → IsHead p (head.Size w h) → live_stands p c ≡ true → (c ≡ command.Lens) × (is_early p ≡ true) × IsSize w h
lens_at place.Lens command.Lens w h i e = (refl, refl, i)
lens_at place.Lens c w h i e = absurd cc
lens_at place.Size c w h i e = absurd i
lens_at place.Back c w h i e = absurd i
lens_at place.Start c w h i e = absurd i
lens_at place.Opening c w h i e = absurd i
lens_at place.App c w h i e = absurd i
lens_at place.Dbase c w h i e = absurd i
lens_at place.Buffer c w h i e = absurd i

back_at : (p : Place) (c : Command) (l : Lens) → IsHead p (head.Lens l) → live_stands p c ≡ true → (c ≡ command.Back) × (is_early p ≡ true)
back_at place.Back command.Back l i e = (refl, refl)
back_at place.Back c l i e = absurd cc
back_at place.Size c l i e = absurd i
back_at place.Lens c l i e = absurd i
back_at place.Start c l i e = absurd i
back_at place.Opening c l i e = absurd i
back_at place.App c l i e = absurd i
back_at place.Dbase c l i e = absurd i
back_at place.Buffer c l i e = absurd i

start_at : (p : Place) (c : Command) (l : Lens) (b : List ℕ) → IsHead p (head.Back l b) → live_stands p c ≡ true → (c ≡ command.Channels → ⊥) → (c ≡ command.App) × (is_early p ≡ true) × (length b ≡ 3)
start_at place.Start command.App l b i e n = (refl, refl, i)
start_at place.Start command.Channels l b i e n = absurd (n refl)
start_at place.Start c l b i e n = absurd cc
start_at place.Size c l b i e n = absurd i
start_at place.Lens c l b i e n = absurd i
start_at place.Back c l b i e n = absurd i
start_at place.Opening c l b i e n = absurd i
start_at place.App c l b i e n = absurd i
start_at place.Dbase c l b i e n = absurd i
start_at place.Buffer c l b i e n = absurd i

channels_at : (p : Place) (l : Lens) (b : List ℕ) → IsHead p (head.Back l b) → (is_early p ≡ true) × (length b ≡ 3)
channels_at place.Start l b i = (refl, i)
channels_at place.Size l b i = absurd i
channels_at place.Lens l b i = absurd i
channels_at place.Back l b i = absurd i
channels_at place.Opening l b i = absurd i
channels_at place.App l b i = absurd i
channels_at place.Dbase l b i = absurd i
channels_at place.Buffer l b i = absurd i

opening_at : (p : Place) (c : Command) (l : Lens) (b : List ℕ) → IsHead p (head.Channels l b) → live_stands p c ≡ true → (c ≡ command.App) × (length b ≡ 3)
opening_at place.Opening command.App l b i e = (refl, i)
opening_at place.Opening c l b i e = absurd cc
opening_at place.Size c l b i e = absurd i
opening_at place.Lens c l b i e = absurd i
opening_at place.Back c l b i e = absurd i
opening_at place.Start c l b i e = absurd i
opening_at place.App c l b i e = absurd i
opening_at place.Dbase c l b i e = absurd i
opening_at place.Buffer c l b i e = absurd i

pub no_given : (p : Place) → is_header p ≡ true → IsHead p head.Given → ⊥
no_given place.Size e i = i
no_given place.Lens e i = i
no_given place.Back e i = i
no_given place.Start e i = i
no_given place.Opening e i = i
no_given place.Dbase e i = i
no_given place.App e i = cc
no_given place.Buffer e i = cc

early_nothing : (p : Place) → IsHead p head.Nothing → is_early p ≡ true
early_nothing place.Size i = refl
early_nothing place.Lens i = refl
early_nothing place.Back i = refl
early_nothing place.Start i = refl
early_nothing place.Opening i = absurd i
early_nothing place.App i = absurd i
early_nothing place.Dbase i = absurd i
early_nothing place.Buffer i = absurd i

-- What is asked for

pub size_within : (s : Spot) (c : Command) (zs : List ℤ) → HeadLine s head.Nothing c zs → AreWithin (limits_of 1 command.Size) zs
size_within s c zs l = subst (λ (d : Command). AreWithin (limits_of s.channels d) zs) (size_at s.place c l.head (stands_settled s head.Nothing c zs l)) l.fits.within

pub lens_asks : (s : Spot) (c : Command) (zs : List ℤ) (w h : ℕ) → HeadLine s (head.Size w h) c zs → IsSize w h × AreWithin (limits_of 1 command.Lens) zs × (is_ordered command.Lens zs ≡ true)
lens_asks s c zs w h l =
    let a = lens_at s.place c w h l.head (stands_settled s (head.Size w h) c zs l) in
    (a.2, subst (λ (d : Command). AreWithin (limits_of s.channels d) zs) a.0 l.fits.within, subst (λ (d : Command). is_ordered d zs ≡ true) a.0 l.fits.ordered)

pub back_within : (s : Spot) (c : Command) (zs : List ℤ) (k : Lens) → HeadLine s (head.Lens k) c zs → AreWithin (limits_of 1 command.Back) zs
back_within s c zs k l = subst (λ (d : Command). AreWithin (limits_of s.channels d) zs) (back_at s.place c k l.head (stands_settled s (head.Lens k) c zs l)).0 l.fits.within

-- Behind each line

size_then : (s : Spot) (zs : List ℤ) (w h : ℕ) → s.channels ≡ 1 → IsSizeRead zs w h → HeadAfter s head.Nothing command.Size zs (head.Size w h) None
size_then s zs w h one r = record {
  settled = refl;
  head = r.1;
  outside = refl;
  one = λ _. one;
  lines = ap (λ (ys : List ℤ). (command.Size, ys) ∷ []) (sym r.0);
  spelled = λ n. refl;
}

pub size_after : (s : Spot) (c : Command) (zs : List ℤ) (w h : ℕ) → HeadLine s head.Nothing c zs → IsSizeRead zs w h → HeadAfter s head.Nothing c zs (head.Size w h) None
size_after s c zs w h l r =
    let is = size_at s.place c l.head (stands_settled s head.Nothing c zs l) in
    subst (λ (d : Command). HeadAfter s head.Nothing d zs (head.Size w h) None) (sym is) (size_then s zs w h (l.one (early_nothing s.place l.head)) r)

lens_then : (s : Spot) (zs : List ℤ) (w h : ℕ) (k : Lens) → s.channels ≡ 1 → IsLensRead zs w h k → HeadAfter s (head.Size w h) command.Lens zs (head.Lens k) None
lens_then s zs w h k one r = record {
  settled = refl;
  head = tt;
  outside = refl;
  one = λ _. one;
  lines = rw (r.0, r.1, r.2) refl;
  spelled = λ n. refl;
}

pub lens_after : (s : Spot) (c : Command) (zs : List ℤ) (w h : ℕ) (k : Lens) → HeadLine s (head.Size w h) c zs → IsLensRead zs w h k → HeadAfter s (head.Size w h) c zs (head.Lens k) None
lens_after s c zs w h k l r =
    let a = lens_at s.place c w h l.head (stands_settled s (head.Size w h) c zs l) in
    subst (λ (d : Command). HeadAfter s (head.Size w h) d zs (head.Lens k) None) (sym a.0) (lens_then s zs w h k (l.one a.1) r)

back_then : (s : Spot) (zs : List ℤ) (k : Lens) (b : List ℕ) → s.channels ≡ 1 → IsBackRead zs b → HeadAfter s (head.Lens k) command.Back zs (head.Back k b) None
back_then s zs k b one r = record {
  settled = refl;
  head = r.1;
  outside = refl;
  one = λ _. one;
  lines = rw r.0 refl;
  spelled = λ n. refl;
}

pub back_after : (s : Spot) (c : Command) (zs : List ℤ) (k : Lens) (b : List ℕ) → HeadLine s (head.Lens k) c zs → IsBackRead zs b → HeadAfter s (head.Lens k) c zs (head.Back k b) None
back_after s c zs k b l r =
    let a = back_at s.place c k l.head (stands_settled s (head.Lens k) c zs l) in
    subst (λ (d : Command). HeadAfter s (head.Lens k) d zs (head.Back k b) None) (sym a.0) (back_then s zs k b (l.one a.1) r)

pub channels_after_back : (s : Spot) (zs : List ℤ) (k : Lens) (b : List ℕ) → HeadLine s (head.Back k b) command.Channels zs → HeadAfter s (head.Back k b) command.Channels zs (head.Channels k b) None
channels_after_back s zs k b l =
    let e : zs ≡ pos (unsigned_abs (number zs 0)) ∷ [] = count_number zs l.fits.within in
    record {
      settled = refl;
      head = (channels_at s.place k b l.head).1;
      outside = refl;
      one = λ h. absurd cc;
      lines = ap (λ (ys : List ℤ). (command.Size, pos k.w ∷ pos k.h ∷ []) ∷ (command.Lens, pos k.f ∷ k.near ∷ k.far ∷ []) ∷ (command.Back, map pos b) ∷ (command.Channels, ys) ∷ []) (sym e);
      spelled = λ n. refl;
    }

app_then : (s : Spot) (zs : List ℤ) (k : Lens) (b : List ℕ) → s.channels ≡ 1 → length b ≡ 3 → [] ≡ zs → HeadAfter s (head.Back k b) command.App zs head.Given (Some (given.Header k b s.channels))
app_then s zs k b one three e = record {
  settled = refl;
  head = tt;
  outside = refl;
  one = λ h. absurd cc;
  lines = refl;
  spelled = λ n. (record { says = false; lines = rw (← e) refl; one_channel = λ _. one; back = three }, refl);
}

pub app_after_back : (s : Spot) (c : Command) (zs : List ℤ) (k : Lens) (b : List ℕ) → HeadLine s (head.Back k b) c zs → (c ≡ command.Channels → ⊥) → HeadAfter s (head.Back k b) c zs head.Given (Some (given.Header k b s.channels))
app_after_back s c zs k b l n =
    let a = start_at s.place c k b l.head (stands_settled s (head.Back k b) c zs l) n in
    let e : [] ≡ zs = no_number zs (subst (λ (d : Command). AreWithin (limits_of s.channels d) zs) a.0 l.fits.within) in
    subst (λ (d : Command). HeadAfter s (head.Back k b) d zs head.Given (Some (given.Header k b s.channels))) (sym a.0) (app_then s zs k b (l.one a.1) a.2 e)

opening_then : (s : Spot) (zs : List ℤ) (k : Lens) (b : List ℕ) → length b ≡ 3 → [] ≡ zs → HeadAfter s (head.Channels k b) command.App zs head.Given (Some (given.Header k b s.channels))
opening_then s zs k b three e = record {
  settled = refl;
  head = tt;
  outside = refl;
  one = λ h. absurd cc;
  lines = refl;
  spelled = λ n. (record { says = true; lines = rw (← e) refl; one_channel = λ h. absurd cc; back = three }, refl);
}

pub app_after_channels : (s : Spot) (c : Command) (zs : List ℤ) (k : Lens) (b : List ℕ) → HeadLine s (head.Channels k b) c zs → HeadAfter s (head.Channels k b) c zs head.Given (Some (given.Header k b s.channels))
app_after_channels s c zs k b l =
    let a = opening_at s.place c k b l.head (stands_settled s (head.Channels k b) c zs l) in
    let e : [] ≡ zs = no_number zs (subst (λ (d : Command). AreWithin (limits_of s.channels d) zs) a.0 l.fits.within) in
    subst (λ (d : Command). HeadAfter s (head.Channels k b) d zs head.Given (Some (given.Header k b s.channels))) (sym a.0) (opening_then s zs k b a.1 e)
