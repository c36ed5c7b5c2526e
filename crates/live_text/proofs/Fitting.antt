-- What is known of a line that was read.
use Rattle.std.proofs.Common.{◌≡◌, ℕ, refl, true, false, cond, ap, sym, ◌∙◌, Bool, List, [], ◌∷◌, subst, Result, Ok, Err, Option, Some, None, ℤ, ltb}
use Rattle.std.specs.Prelude.{◌&&◌, ◌||◌, codes, slice_index_or}
use Rattle.std.specs.Option.{option_map, ok_or}
use Rattle.std.specs.Str.{bytes_eq}
use Rattle.play_format.specs.declared.refusal.Why.{Why}
use Rattle.play_format.specs.declared.refusal.Why.TheVariants as whys
use Rattle.play_format.specs.declared.commands.Form.TheVariants as form
use Rattle.play_format.specs.declared.commands.Command.{Command}
use Rattle.play_format.specs.declared.commands.Command.TheVariants as command
use Rattle.play_format.specs.declared.places.Version.{Version}
use Rattle.play_format.specs.declared.places.Version.TheVariants as version
use Rattle.play_format.specs.declared.places.Place.{Place}
use Rattle.play_format.specs.declared.places.Place.TheVariants as place
use Rattle.play_format.specs.declared.places.Spot.{Spot}
use Rattle.play_format.specs.Words.{words}
use Rattle.play_format.specs.Commands.{Entry, text_of, all_commands}
use Rattle.play_format.specs.Places.{may_stand, is_triangle, stands_at, stands_in_app, stands_in_dbase, stands_in_buffer}
use Rattle.play_format.specs.Grammar.{picked, named, command_at, entry_at}
use Rattle.play_format.proofs.EntryLemmas.{both, found_passes, parts_of, fits_of}
use Rattle.play_format.proofs.ReadingLemmas.{bytes_yes}
use Rattle.live_text.specs.declared.head.Head.{Head}
use Rattle.live_text.specs.LiveGrammar.{first_word, is_barred, place_for, spot_for, live_entry_at}
use Rattle.live_text.specs.States.{LiveFits, IsHead, live_stands, live_outside}

abbrev is_edit : Command → Bool
is_edit (command.Edit f) = true
is_edit c = false

-- a command that is no edit is found by its own word
picked_same : (ws : List (List ℕ)) (d c : Command) → picked ws d ≡ c → is_edit c ≡ false → d ≡ c
picked_same ws (command.Edit form.SwitchTo) c e h = absurd cc
picked_same ws d c e h = e

found_word : (s : Spot) (w : List ℕ) (ws : List (List ℕ)) (o : Option Command) (c : Command) → named s w ≡ o → ok_or (option_map (picked ws) o) whys.Command ≡ Ok c → is_edit c ≡ false → bytes_eq (text_of c) w ≡ true
found_word s w ws None c h e k = absurd cc
found_word s w ws (Some d) c h e k =
    let b = both (bytes_eq (text_of d) w) (may_stand s d) (found_passes (λ c. bytes_eq (text_of c) w && may_stand s c) all_commands d h) in
    let same : picked ws d ≡ c = cc in
    subst (λ (x : Command). bytes_eq (text_of x) w ≡ true) (picked_same ws d c same k) b.0

line_word : (s : Spot) (ws : List (List ℕ)) (c : Command) → ok_or (command_at s ws) whys.Command ≡ Ok c → is_edit c ≡ false → bytes_eq (text_of c) (slice_index_or ws 0 []) ≡ true
line_word s [] c e k = absurd cc
line_word s (w ∷ ws) c e k = found_word s w ws (named s w) c refl e k

pub not_wrong : (b : Bool) (d : Why) (r : Result Entry Why) (y : Entry) → cond b (Err d) r ≡ Ok y → (b ≡ false) × (r ≡ Ok y)
not_wrong true d r y e = absurd cc
not_wrong false d r y e = (refl, e)

-- the first words that are looked at
wait_barred : (w : List ℕ) → bytes_eq (codes "wait") w ≡ true → is_barred w ≡ false → ⊥
wait_barred w e h = let same : codes "wait" ≡ w = bytes_yes (codes "wait") w e in let k : is_barred (codes "wait") ≡ false = subst (λ (x : List ℕ). is_barred x ≡ false) (sym same) h in absurd cc

dbase_barred : (w : List ℕ) → bytes_eq (codes "dbase") w ≡ true → is_barred w ≡ false → ⊥
dbase_barred w e h = let same : codes "dbase" ≡ w = bytes_yes (codes "dbase") w e in let k : is_barred (codes "dbase") ≡ false = subst (λ (x : List ℕ). is_barred x ≡ false) (sym same) h in absurd cc

await_no_buffer : (w : List ℕ) → bytes_eq (codes "await") w ≡ true → bytes_eq w (codes "buffer") ≡ true → ⊥
await_no_buffer w e h = let same : codes "await" ≡ w = bytes_yes (codes "await") w e in let k : bytes_eq (codes "await") (codes "buffer") ≡ true = subst (λ (x : List ℕ). bytes_eq x (codes "buffer") ≡ true) (sym same) h in absurd cc

outside_dbase : (c : Command) (w : List ℕ) → bytes_eq w (codes "buffer") ≡ true → (is_edit c ≡ false → bytes_eq (text_of c) w ≡ true) → stands_in_dbase c ≡ true → live_outside c ≡ true
outside_dbase command.Buffer w e h k = refl
outside_dbase command.Await w e h k = absurd (await_no_buffer w (h refl) e)
outside_dbase c w e h k = absurd cc

outside_app : (v : Version) (c : Command) (w : List ℕ) → is_barred w ≡ false → (is_edit c ≡ false → bytes_eq (text_of c) w ≡ true) → stands_in_app v c ≡ true → live_outside c ≡ true
outside_app v command.View w e h k = refl
outside_app v command.ChannelView w e h k = refl
outside_app v command.Sync w e h k = refl
outside_app v command.Frame w e h k = refl
outside_app v (command.Edit f) w e h k = refl
outside_app v command.Wait w e h k = absurd (wait_barred w (h refl) e)
outside_app v command.Dbase w e h k = absurd (dbase_barred w (h refl) e)
outside_app v c w e h k = absurd cc

inside_buffer : (v : Version) (c : Command) → stands_in_buffer v c ≡ true → live_stands place.Buffer c ≡ true
inside_buffer v command.BufferAdd k = refl
inside_buffer v command.BufferRemove k = refl
inside_buffer v command.Merge k = refl
inside_buffer v (command.Edit f) k = refl
inside_buffer v c k = absurd cc

stood_app : (v : Version) (c : Command) (w : List ℕ) (b : Bool) → bytes_eq w (codes "buffer") ≡ b → is_barred w ≡ false → (is_edit c ≡ false → bytes_eq (text_of c) w ≡ true) → stands_at v (cond b place.Dbase place.App) c ≡ true → live_outside c ≡ true
stood_app v c w true e h k s = outside_dbase c w e k s
stood_app v c w false e h k s = outside_app v c w h k s

stood : (p : Place) (h : Head) (c : Command) (w : List ℕ) → IsHead p h → is_barred w ≡ false → (is_edit c ≡ false → bytes_eq (text_of c) w ≡ true) → stands_at version.Two (place_for p w) c ≡ true → live_stands p c ≡ true
stood place.App h c w i b k s = stood_app version.Two c w (bytes_eq w (codes "buffer")) refl b k s
stood place.Buffer h c w i b k s = inside_buffer version.Two c s
stood place.Dbase h c w i b k s = absurd i
stood place.Size h c w i b k s = s
stood place.Lens h c w i b k s = s
stood place.Back h c w i b k s = s
stood place.Start h c w i b k s = s
stood place.Opening h c w i b k s = s

stood_due : (d : Bool) (v : Version) (p : Place) (h : Head) (c : Command) (w : List ℕ) → v ≡ version.Two → IsHead p h → is_barred w ≡ false → (is_edit c ≡ false → bytes_eq (text_of c) w ≡ true)
    → cond d (is_triangle c) (stands_at v (place_for p w) c) ≡ true → cond d (is_triangle c) (live_stands p c) ≡ true
stood_due true v p h c w e i b k s = s
stood_due false v p h c w e i b k s = stood p h c w i b k (rw e at s)

-- a line that was read may stand where it is
pub live_fits : (s : Spot) (h : Head) (line : List ℕ) (c : Command) (zs : List ℤ) → s.version ≡ version.Two → IsHead s.place h → live_entry_at s line ≡ Ok (c, zs) → LiveFits s c zs
unfolding live_entry_at
live_fits s h line c zs v i e =
    let w = first_word line in
    let n = not_wrong (is_barred w) whys.Command (entry_at (spot_for s w) line) (c, zs) e in
    let f = fits_of (spot_for s w) line c zs n.1 in
    let p = parts_of (spot_for s w) line c zs n.1 in
    record {
      stands = stood_due (ltb 0 s.due) s.version s.place h c w v i n.0 (λ k. line_word (spot_for s w) (words line) c p.command k) f.stands;
      within = f.within;
      ordered = f.ordered;
      room = f.room;
    }
