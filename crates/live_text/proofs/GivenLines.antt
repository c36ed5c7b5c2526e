-- What a line does to the place of a live text.
use Rattle.std.proofs.Common.{◌≡◌, ℕ, ◌+◌, refl, true, false, cond, ap, sym, ◌∙◌, Bool, List, [], ◌∷◌, ◌++◌, map, subst, zero, suc, ℤ}
use Rattle.std.specs.Prelude.{not, ◌&&◌, codes}
use Rattle.std.specs.List.{list_all}
use Rattle.std.specs.Str.{bytes_eq}
use Rattle.std.specs.Fmt.{signed_decimal}
use Rattle.std.proofs.lemmas.List.Folds.{list_all-append}
use Rattle.fx_math.specs.declared.lenses.Lens.{Lens}
use Rattle.pf_model.specs.declared.geometry.Tri.{Tri}
use Rattle.pf_model.specs.declared.edits.Edit.TheVariants as edit
use Rattle.pf_model.specs.declared.lines.AppStep.{AppStep}
use Rattle.pf_model.specs.declared.lines.AppStep.TheVariants as app_step
use Rattle.pf_model.specs.declared.lines.BaseStep.{BaseStep}
use Rattle.pf_model.specs.declared.lines.BaseStep.TheVariants as base_step
use Rattle.pf_model.specs.declared.lines.BaseLine.{BaseLine}
use Rattle.play_format.specs.declared.commands.Command.{Command}
use Rattle.play_format.specs.declared.commands.Command.TheVariants as command
use Rattle.play_format.specs.declared.places.Version.TheVariants as version
use Rattle.play_format.specs.declared.places.Place.{Place}
use Rattle.play_format.specs.declared.places.Place.TheVariants as place
use Rattle.play_format.specs.declared.places.Spot.{Spot}
use Rattle.play_format.specs.Commands.{Entry}
use Rattle.play_format.specs.Places.{is_app, is_triangle, is_closed, may_end, stands_at, stands_in_app, stands_in_dbase, stands_in_buffer, place_after, channels_after}
use Rattle.play_format.specs.Spelling.{tri_entry, app_entry, app_lines, app_triangles, base_entry, base_lines, base_triangles, base_entries, header_entries}
use Rattle.play_format.proofs.SpellLemmas.{both_true}
use Rattle.live_text.specs.LiveGrammar.{place_for, back_in_app, live_next}

-- Behind the header

abbrev pub is_behind : Place → Bool
is_behind place.App = true
is_behind place.Dbase = true
is_behind place.Buffer = true
is_behind p = false

-- a line behind the header
pub record Stays (p : Place) (c : Command) (zs : List ℤ) (n : ℕ) : Type 0 where
  pub no_app : is_app c ≡ false
  pub place : is_behind (back_in_app (place_after c p)) ≡ true
  pub channels : channels_after c zs n ≡ n

back_behind : (p : Place) → is_behind p ≡ true → is_behind (back_in_app p) ≡ true
back_behind place.App e = refl
back_behind place.Dbase e = refl
back_behind place.Buffer e = refl
back_behind p e = absurd cc

app_stays : (c : Command) (zs : List ℤ) (n : ℕ) → stands_in_app version.Two c ≡ true → Stays place.App c zs n
app_stays command.View zs n e = record { no_app = refl; place = refl; channels = refl }
app_stays command.ChannelView zs n e = record { no_app = refl; place = refl; channels = refl }
app_stays command.Sync zs n e = record { no_app = refl; place = refl; channels = refl }
app_stays command.Frame zs n e = record { no_app = refl; place = refl; channels = refl }
app_stays command.Wait zs n e = record { no_app = refl; place = refl; channels = refl }
app_stays command.Dbase zs n e = record { no_app = refl; place = refl; channels = refl }
app_stays (command.Edit f) zs n e = record { no_app = refl; place = refl; channels = refl }
app_stays c zs n e = absurd cc

dbase_stays : (p : Place) (c : Command) (zs : List ℤ) (n : ℕ) → is_behind p ≡ true → stands_in_dbase c ≡ true → Stays p c zs n
dbase_stays p command.Await zs n b e = record { no_app = refl; place = back_behind p b; channels = refl }
dbase_stays p command.Buffer zs n b e = record { no_app = refl; place = refl; channels = refl }
dbase_stays p c zs n b e = absurd cc

buffer_stays : (c : Command) (zs : List ℤ) (n : ℕ) → stands_in_buffer version.Two c ≡ true → Stays place.Buffer c zs n
buffer_stays command.BufferAdd zs n e = record { no_app = refl; place = refl; channels = refl }
buffer_stays command.BufferRemove zs n e = record { no_app = refl; place = refl; channels = refl }
buffer_stays command.Merge zs n e = record { no_app = refl; place = refl; channels = refl }
buffer_stays (command.Edit f) zs n e = record { no_app = refl; place = refl; channels = refl }
buffer_stays c zs n e = absurd cc

app_or_dbase : (b : Bool) (c : Command) (zs : List ℤ) (n : ℕ) → stands_at version.Two (cond b place.Dbase place.App) c ≡ true → Stays place.App c zs n
app_or_dbase true c zs n e = dbase_stays place.App c zs n refl e
app_or_dbase false c zs n e = app_stays c zs n e

stands_stays : (p : Place) (w : List ℕ) (c : Command) (zs : List ℤ) (n : ℕ) → is_behind p ≡ true → stands_at version.Two (place_for p w) c ≡ true → Stays p c zs n
stands_stays place.App w c zs n b e = app_or_dbase (bytes_eq w (codes "buffer")) c zs n e
stands_stays place.Dbase w c zs n b e = dbase_stays place.Dbase c zs n refl e
stands_stays place.Buffer w c zs n b e = buffer_stays c zs n e
stands_stays p w c zs n b e = absurd cc

triangle_stays : (p : Place) (c : Command) (zs : List ℤ) (n : ℕ) → is_behind p ≡ true → is_triangle c ≡ true → Stays p c zs n
triangle_stays p command.Triangle zs n b e = record { no_app = refl; place = back_behind p b; channels = refl }
triangle_stays p c zs n b e = absurd cc

pub stays : (d : Bool) (p : Place) (w : List ℕ) (c : Command) (zs : List ℤ) (n : ℕ) → is_behind p ≡ true → cond d (is_triangle c) (stands_at version.Two (place_for p w) c) ≡ true → Stays p c zs n
stays true p w c zs n b e = triangle_stays p c zs n b e
stays false p w c zs n b e = stands_stays p w c zs n b e

-- In the header

back_ahead : (p : Place) → is_behind p ≡ false → is_behind (back_in_app p) ≡ false
back_ahead place.App e = absurd cc
back_ahead place.Dbase e = absurd cc
back_ahead place.Buffer e = absurd cc
back_ahead p e = refl

triangle_goes : (p : Place) (c : Command) → is_behind p ≡ false → is_triangle c ≡ true → is_behind (back_in_app (place_after c p)) ≡ is_app c
triangle_goes p command.Triangle b e = back_ahead p b
triangle_goes p c b e = absurd cc

stands_goes : (p : Place) (w : List ℕ) (c : Command) → is_behind p ≡ false → stands_at version.Two (place_for p w) c ≡ true → is_behind (back_in_app (place_after c p)) ≡ is_app c
stands_goes place.Size w command.Size b e = refl
stands_goes place.Size w c b e = absurd cc
stands_goes place.Lens w command.Lens b e = refl
stands_goes place.Lens w c b e = absurd cc
stands_goes place.Back w command.Back b e = refl
stands_goes place.Back w c b e = absurd cc
stands_goes place.Start w command.App b e = refl
stands_goes place.Start w command.Channels b e = refl
stands_goes place.Start w c b e = absurd cc
stands_goes place.Opening w command.App b e = refl
stands_goes place.Opening w c b e = absurd cc
stands_goes p w c b e = absurd cc

-- the header is whole with `app`
pub goes : (d : Bool) (p : Place) (w : List ℕ) (c : Command) → is_behind p ≡ false → cond d (is_triangle c) (stands_at version.Two (place_for p w) c) ≡ true → is_behind (back_in_app (place_after c p)) ≡ is_app c
goes true p w c b e = triangle_goes p c b e
goes false p w c b e = stands_goes p w c b e

pub app_ends : (s : Spot) (c : Command) (zs : List ℤ) → is_app c ≡ true → may_end (live_next s c zs) ≡ true
app_ends s command.App zs e = refl
app_ends s c zs e = absurd cc

and_false : (a b : Bool) → b ≡ false → (a && b) ≡ false
and_false true b e = e
and_false false b e = refl

ahead_open : (p : Place) → is_behind p ≡ false → is_closed p ≡ false
ahead_open place.App e = absurd cc
ahead_open place.Dbase e = absurd cc
ahead_open place.Buffer e = absurd cc
ahead_open p e = refl

pub ahead_goes : (s : Spot) → is_behind s.place ≡ false → may_end s ≡ false
ahead_goes s e = and_false _ (is_closed s.place) (ahead_open s.place e)

-- Which lines have `app`

abbrev pub none_app : List Entry → Bool
none_app es = list_all (λ e. not (is_app e.0)) es

pub none_both : (xs ys : List Entry) → none_app xs ≡ true → none_app ys ≡ true → none_app (xs ++ ys) ≡ true
none_both xs ys h k = list_all-append (λ e. not (is_app e.0)) xs ys ∙ both_true (none_app xs) (none_app ys) h k

pub one_app : (xs : List Entry) (e : Entry) → is_app e.0 ≡ true → none_app (xs ++ e ∷ []) ≡ false
one_app [] e h = rw h refl
one_app (x ∷ xs) e h = and_false (not (is_app x.0)) (none_app (xs ++ e ∷ [])) (one_app xs e h)

pub no_app : (e : Entry) → is_app e.0 ≡ false → none_app (e ∷ []) ≡ true
no_app e h = rw h refl

tris_no_app : (ts : List Tri) → none_app (map tri_entry ts) ≡ true
tris_no_app [] = refl
tris_no_app (t ∷ ts) = tris_no_app ts

app_no_app : (s : AppStep) → not (is_app (app_entry s).0) ≡ true
app_no_app (app_step.Edit e) = refl
app_no_app (app_step.View zero v) = refl
app_no_app (app_step.View (suc c) v) = refl
app_no_app s = refl

base_no_app : (s : BaseStep) → not (is_app (base_entry s).0) ≡ true
base_no_app (base_step.Edit e) = refl
base_no_app (base_step.Ask (edit.Remove p c)) = refl
base_no_app (base_step.Ask e) = refl
base_no_app s = refl

pub line_no_app : (s : AppStep) → none_app (app_lines s) ≡ true
line_no_app s = both_true (not (is_app (app_entry s).0)) (none_app (map tri_entry (app_triangles s))) (app_no_app s) (tris_no_app (app_triangles s))

pub block_no_app : (ls : List BaseLine) → none_app (base_entries ls) ≡ true
block_no_app [] = refl
block_no_app (l ∷ ls) =
    none_both (base_lines l.step) (base_entries ls) (both_true (not (is_app (base_entry l.step).0)) (none_app (map tri_entry (base_triangles l.step))) (base_no_app l.step) (tris_no_app (base_triangles l.step))) (block_no_app ls)

pub header_has_app : (says : Bool) (lens : Lens) (back : List ℕ) (n : ℕ) → none_app (header_entries says lens back n) ≡ false
header_has_app true lens back n = refl
header_has_app false lens back n = refl
