-- What is known of a line that was read.
use Rattle.std.proofs.Common.{◌≡◌, ℕ, ◌≤◌, arith, refl, true, false, cond, ap, Bool, List, [], ◌∷◌, length, drop, subst, Result, Ok, Err, Option, Some, None, ℤ, pos, negsuc, eqb, ◌⊎◌, inl, inr, ltb}
use Rattle.std.specs.Prelude.{◌≤ℤ◌, int_le, ◌&&◌, codes}
use Rattle.std.specs.List.{find}
use Rattle.std.specs.Option.{option_map, ok_or}
use Rattle.std.specs.Str.{bytes_eq}
use Rattle.std.proofs.lemmas.Int.{ints}
use Rattle.play_format.specs.declared.refusal.Why.{Why}
use Rattle.play_format.specs.declared.refusal.Why.TheVariants as whys
use Rattle.play_format.specs.declared.numbers.Limits.{Limits}
use Rattle.play_format.specs.declared.commands.Form.{Form}
use Rattle.play_format.specs.declared.commands.Form.TheVariants as form
use Rattle.play_format.specs.declared.commands.Command.{Command}
use Rattle.play_format.specs.declared.commands.Command.TheVariants as command
use Rattle.play_format.specs.declared.places.Version.{Version}
use Rattle.play_format.specs.declared.places.Place.{Place}
use Rattle.play_format.specs.declared.places.Place.TheVariants as place
use Rattle.play_format.specs.declared.places.Spot.{Spot}
use Rattle.play_format.specs.Numbers.{number_at, is_number, value_of}
use Rattle.play_format.specs.Words.{words}
use Rattle.play_format.specs.Commands.{text_of, limits_of, words_in, all_commands, Entry}
use Rattle.play_format.specs.Places.{may_stand, stands_at, is_known, is_ordered, has_room, IsWithin, AreWithin, channels_after, Fits}
use Rattle.play_format.specs.Grammar.{◌>>=◌, numbers_at, switch_form, picked, named, command_at, fields_at, judged, entry_at}
use Rattle.play_format.specs.Rests.{IsSound}

abbrev entry : Entry → Result Entry Why
entry e = Ok e

abbrev command_in : Result Entry Why → Command
command_in (Ok e) = e.0
command_in (Err why) = command.Triangle

abbrev numbers_in : Result Entry Why → List ℤ
numbers_in (Ok e) = e.1
numbers_in (Err why) = []

abbrev read : ℤ → Result ℤ Why
read z = Ok z

-- the value of a step that did not fail
pub bind_ok : {A B E : Type 0} (r : Result A E) (f : A → Result B E) (y : B) → (r >>= f) ≡ Ok y → (x : A) × (r ≡ Ok x) × (f x ≡ Ok y)
bind_ok (Ok x) f y e = (x, refl, e)
bind_ok (Err d) f y e = absurd cc

-- a test that did not fail
pub test_ok : {A E : Type 0} (b : Bool) (r : Result A E) (d : E) (y : A) → cond b r (Err d) ≡ Ok y → (b ≡ true) × (r ≡ Ok y)
test_ok true r d y e = (refl, e)
test_ok false r d y e = absurd cc

pub both : (a b : Bool) → (a && b) ≡ true → (a ≡ true) × (b ≡ true)
both true b e = (refl, e)
both false b e = absurd cc

found_among : {X : Type 0} (p : X → Bool) (y : X) (x : X) (rest : Option X) (b : Bool) → p y ≡ b → cond b (Some y) rest ≡ Some x → (p x ≡ true) ⊎ (rest ≡ Some x)
found_among p y x rest true h e = let k : y ≡ x = cc in inl (rw (← k) h)
found_among p y x rest false h e = inr e

-- what is found passes the test
pub found_passes : {X : Type 0} (p : X → Bool) (xs : List X) (x : X) → find p xs ≡ Some x → p x ≡ true
found_passes p [] x e = absurd cc
found_passes p (y ∷ ys) x e = elim (found_among p y x (find p ys) (p y) refl e) [ inl h ↦ h | inr h ↦ found_passes p ys x h ]

-- a number that was read is within its limits
pub number_within : (r : Limits) (w : List ℕ) (z : ℤ) → number_at r w ≡ Ok z → IsWithin r z
unfolding number_at
number_within r w z e =
    let t = test_ok (is_number w) (cond (int_le r.low (value_of w) && int_le (value_of w) r.high) (Ok (value_of w)) (Err whys.Range)) whys.Number z e in
    let u = test_ok (int_le r.low (value_of w) && int_le (value_of w) r.high) (Ok (value_of w)) whys.Range z t.1 in
    let same : read (value_of w) ≡ read z = u.1 in
    let b = both (int_le r.low (value_of w)) (int_le (value_of w) r.high) u.0 in
    let k : value_of w ≡ z = cc in
    let l : r.low ≤ℤ value_of w = grind (arith, ints, b.0) in
    let h : value_of w ≤ℤ r.high = grind (arith, ints, b.1) in
    subst (λ (v : ℤ). IsWithin r v) k (record { low = l; high = h })

-- the numbers of a line are within their limits
pub numbers_within : (rs : List Limits) (ws : List (List ℕ)) (zs : List ℤ) → numbers_at rs ws ≡ Ok zs → AreWithin rs zs
unfolding numbers_at
numbers_within [] ws [] e = tt
numbers_within [] ws (z ∷ zs) e = absurd cc
numbers_within (r ∷ rs) [] zs e = absurd cc
numbers_within (r ∷ rs) (w ∷ ws) zs e =
    let a = bind_ok (number_at r w) (λ z. numbers_at rs ws >>= λ zs. Ok (z ∷ zs)) zs e in
    let b = bind_ok (numbers_at rs ws) (λ ys. Ok (a.0 ∷ ys)) zs a.2 in
    let k : a.0 ∷ b.0 ≡ zs = cc in
    subst (λ (ys : List ℤ). AreWithin (r ∷ rs) ys) k (number_within r w a.0 a.1, numbers_within rs ws b.0 b.1)

-- the forms of `sw` stand where `sw` stands
switch_is_known : (v : Version) (ws : List (List ℕ)) → is_known v (switch_form ws) ≡ true
switch_is_known v [] = refl
switch_is_known v (i ∷ []) = refl
switch_is_known v (i ∷ w ∷ []) =
    elim (bytes_eq w (codes "on")) as (λ b. is_known v (cond b form.SwitchOn (cond (bytes_eq w (codes "off")) form.SwitchOff form.SwitchTo)) ≡ true) [
      | true ↦ refl
      | false ↦ elim (bytes_eq w (codes "off")) as (λ b. is_known v (cond b form.SwitchOff form.SwitchTo) ≡ true) [ true ↦ refl | false ↦ refl ]
    ]
switch_is_known v (i ∷ w ∷ x ∷ ws) = refl

edits_at : (b : Bool) (v : Version) (p : Place) (f g : Form) → is_known v f ≡ is_known v g → cond b false (stands_at v p (command.Edit f)) ≡ cond b false (stands_at v p (command.Edit g))
edits_at true v p f g e = refl
edits_at false v place.App f g e = e
edits_at false v place.Buffer f g e = e
edits_at false v place.Size f g e = refl
edits_at false v place.Lens f g e = refl
edits_at false v place.Back f g e = refl
edits_at false v place.Start f g e = refl
edits_at false v place.Opening f g e = refl
edits_at false v place.Dbase f g e = refl

pub edits_stand : (s : Spot) (f g : Form) → is_known s.version f ≡ is_known s.version g → may_stand s (command.Edit f) ≡ may_stand s (command.Edit g)
edits_stand s f g e = edits_at (ltb 0 s.due) s.version s.place f g e

pub picked_stands : (s : Spot) (ws : List (List ℕ)) (c : Command) → may_stand s (picked ws c) ≡ may_stand s c
picked_stands s ws (command.Edit form.SwitchTo) = edits_stand s (switch_form ws) form.SwitchTo (switch_is_known s.version ws)
picked_stands s ws c = refl

stood : (s : Spot) (w : List ℕ) (ws : List (List ℕ)) (o : Option Command) (c : Command) → named s w ≡ o → ok_or (option_map (picked ws) o) whys.Command ≡ Ok c → may_stand s c ≡ true
stood s w ws None c h e = absurd cc
stood s w ws (Some d) c h e =
    let b = both (bytes_eq (text_of d) w) (may_stand s d) (found_passes (λ c. bytes_eq (text_of c) w && may_stand s c) all_commands d h) in
    let k : picked ws d ≡ c = cc in
    rw (← k, picked_stands s ws d) b.1

-- the command of a line may stand there
pub command_stands : (s : Spot) (ws : List (List ℕ)) (c : Command) → ok_or (command_at s ws) whys.Command ≡ Ok c → may_stand s c ≡ true
command_stands s [] c e = absurd cc
command_stands s (w ∷ ws) c e = stood s w ws (named s w) c refl e

-- the parts of a line that was read
pub record Parts (s : Spot) (ws : List (List ℕ)) (c : Command) (zs : List ℤ) : Type 0 where
  pub command : ok_or (command_at s ws) whys.Command ≡ Ok c
  pub count : (eqb (length ws) (words_in s.channels c)) ≡ true
  pub numbers : numbers_at (limits_of s.channels c) (drop 1 ws) ≡ Ok zs
  pub ordered : is_ordered c zs ≡ true
  pub room : has_room s c zs ≡ true

pub parts_of : (s : Spot) (line : List ℕ) (c : Command) (zs : List ℤ) → entry_at s line ≡ Ok (c, zs) → Parts s (words line) c zs
unfolding entry_at
parts_of s line c zs e =
    let ws = words line in
    let a = bind_ok (ok_or (command_at s ws) whys.Command) (λ c. fields_at s c ws >>= λ zs. judged s c zs) (c, zs) e in
    let b = bind_ok (fields_at s a.0 ws) (λ zs. judged s a.0 zs) (c, zs) a.2 in
    let t = test_ok (eqb (length ws) (words_in s.channels a.0)) (numbers_at (limits_of s.channels a.0) (drop 1 ws)) whys.Fields b.0 b.1 in
    let o = test_ok (is_ordered a.0 b.0) (cond (has_room s a.0 b.0) (Ok (a.0, b.0)) (Err whys.Count)) whys.Range (c, zs) b.2 in
    let r = test_ok (has_room s a.0 b.0) (Ok (a.0, b.0)) whys.Count (c, zs) o.1 in
    let same : entry (a.0, b.0) ≡ entry (c, zs) = r.1 in
    let c_is : a.0 ≡ c = ap (λ (r : Result Entry Why). command_in r) same in
    let zs_is : b.0 ≡ zs = ap (λ (r : Result Entry Why). numbers_in r) same in
    subst (λ (d : Command). Parts s (words line) d zs) c_is (subst (λ (ys : List ℤ). Parts s (words line) a.0 ys) zs_is
    (record { command = a.1; count = t.0; numbers = t.1; ordered = o.0; room = r.0 }))

pub fits_of : (s : Spot) (line : List ℕ) (c : Command) (zs : List ℤ) → entry_at s line ≡ Ok (c, zs) → Fits s c zs
fits_of s line c zs e =
    let p = parts_of s line c zs e in
    record {
      stands = command_stands s (words line) c p.command;
      within = numbers_within (limits_of s.channels c) (drop 1 (words line)) zs p.numbers;
      ordered = p.ordered;
      room = p.room;
    }

-- there are from one to four channels behind a line
pub channels_within : (n : ℕ) (c : Command) (zs : List ℤ) → 1 ≤ n → n ≤ 4 → AreWithin (limits_of n c) zs → (1 ≤ channels_after c zs n) × (channels_after c zs n ≤ 4)
channels_within n command.Channels (pos m ∷ []) some few w = (omega (arith, ints, w.0.low), omega (arith, ints, w.0.high))
channels_within n command.Channels (negsuc m ∷ []) some few w = absurd (omega (arith, ints, w.0.low))
channels_within n command.Channels [] some few w = absurd w
channels_within n command.Channels (z ∷ y ∷ zs) some few w = absurd w.1
channels_within n c zs some few w = (some, few)

pub channels_fit : (s : Spot) (c : Command) (zs : List ℤ) → IsSound s → AreWithin (limits_of s.channels c) zs → (1 ≤ channels_after c zs s.channels) × (channels_after c zs s.channels ≤ 4)
channels_fit s c zs h w = channels_within s.channels c zs h.some_channel h.channels w
