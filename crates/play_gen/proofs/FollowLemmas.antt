-- The lines of generated plays may follow each other.
use Rattle.std.proofs.Common.{◌≡◌, ℕ, zero, suc, ◌+◌, ◌*◌, ◌-◌, ◌≤◌, arith, refl, sym, ap, ◌∙◌, subst, List, [], ◌∷◌, ◌++◌, ℤ, pos}
use Rattle.std.specs.Prelude.{nat_lt, true}
use Rattle.std.proofs.lemmas.Bool.{le-leb, lt-ltb}
use Rattle.std.proofs.lemmas.Int.{ints}
use Rattle.play_format.specs.declared.numbers.Limits.{Limits}
use Rattle.play_format.specs.declared.commands.Form.TheVariants as form
use Rattle.play_format.specs.declared.commands.Command.{Command}
use Rattle.play_format.specs.declared.commands.Command.TheVariants as command
use Rattle.play_format.specs.declared.places.Version.TheVariants as version
use Rattle.play_format.specs.declared.places.Place.{Place}
use Rattle.play_format.specs.declared.places.Place.TheVariants as place
use Rattle.play_format.specs.declared.places.Spot.{Spot}
use Rattle.play_format.specs.Commands as commands
use Rattle.play_format.specs.Commands.{Entry, limits_of}
use Rattle.play_format.specs.Places.{IsWithin, AreWithin, Fits, may_stand, may_end, is_ordered, has_room, announced, place_after, channels_after, due_after, next_spot, start}
use Rattle.play_format.specs.Reads.{Follow}
use Rattle.play_gen.specs.Draws.{state_after, draw}
use Rattle.play_gen.specs.Lines as lines
use Rattle.play_gen.specs.Lines.{opening, turn, turns, corner, triangle, triangles, geode, placed, buffer, buffers, generated_lines}
use Rattle.play_gen.proofs.DrawLemmas.{draw_below}

-- lines lead from one spot to another
pub Leads : Spot → List Entry → Spot → Type 0
Leads s [] t = s ≡ t
Leads s (e ∷ es) t = Fits s e.0 e.1 × Leads (next_spot s e.0 e.1) es t

leads_nowhere : (s t : Spot) → s ≡ t → Leads s [] t
unfolding Leads
leads_nowhere s t e = e

leads_first : (s t u : Spot) (e : Entry) (es : List Entry) → Fits s e.0 e.1 → next_spot s e.0 e.1 ≡ t → Leads t es u → Leads s (e ∷ es) u
unfolding Leads
leads_first s t u e es f n h = (f, subst (λ (r : Spot). Leads r es u) (sym n) h)

leads_then : (s t u : Spot) (xs ys : List Entry) → Leads s xs t → Leads t ys u → Leads s (xs ++ ys) u
unfolding Leads
leads_then s t u [] ys h k = subst (λ (r : Spot). Leads r ys u) (sym h) k
leads_then s t u (x ∷ xs) ys h k = (h.0, leads_then (next_spot s x.0 x.1) t u xs ys h.1 k)

follow_then : (s t : Spot) (xs ys : List Entry) → Leads s xs t → Follow t ys → Follow s (xs ++ ys)
unfolding Leads
follow_then s t [] ys h k = subst (λ (r : Spot). Follow r ys) (sym h) k
follow_then s t (x ∷ xs) ys h k = (h.0, follow_then (next_spot s x.0 x.1) t xs ys h.1 k)

follow_to : (s t : Spot) (xs : List Entry) → Leads s xs t → may_end t ≡ true → Follow s xs
unfolding Leads
follow_to s t [] h e = ap may_end h ∙ e
follow_to s t (x ∷ xs) h e = (h.0, follow_to (next_spot s x.0 x.1) t xs h.1 e)

-- a spot of a generated play: how many triangle lines are due there, and how many triangles were announced
abbrev pub spot : Place → ℕ → ℕ → Spot
spot p due announced = record { version = version.One; place = p; channels = 1; due = due; triangles = announced }

due_is : (d e t : ℕ) → d ≡ e → spot place.Buffer d t ≡ spot place.Buffer e t
due_is d e t h = ap (λ (n : ℕ). spot place.Buffer n t) h

-- Bounds

natural_within : (low high n : ℕ) → low ≤ n → n ≤ high → IsWithin (commands.between (pos low) (pos high)) (pos n)
natural_within low high n l h = record { low = omega (arith, ints, l); high = omega (arith, ints, h) }

coordinate_within : (s k : ℕ) → IsWithin commands.coordinate (lines.coordinate s k)
coordinate_within s k =
    let b = draw_below s k 8192 (omega arith) in
    record { low = omega (arith, ints, b); high = omega (arith, ints, b) }

colour_within : (s k : ℕ) → IsWithin commands.colour (lines.colour s k)
colour_within s k = let b = draw_below s k 256 (omega arith) in natural_within 0 255 (draw s k 256) (omega arith) (omega (arith, b))

side_within : (s k : ℕ) → IsWithin commands.coordinate (lines.side s k)
side_within s k = let b = draw_below s k 32 (omega arith) in record { low = omega (arith, ints, b); high = omega (arith, ints, b) }

ahead_within : (s k : ℕ) → IsWithin commands.coordinate (lines.ahead s k)
ahead_within s k = let b = draw_below s k 32 (omega arith) in record { low = omega (arith, ints, b); high = omega (arith, ints, b) }

height_within : (s k : ℕ) → IsWithin commands.coordinate (lines.height s k)
height_within s k = let b = draw_below s k 16 (omega arith) in record { low = omega (arith, ints, b); high = omega (arith, ints, b) }

within_then : (rs ps : List Limits) (zs ys : List ℤ) → AreWithin rs zs → AreWithin ps ys → AreWithin (rs ++ ps) (zs ++ ys)
within_then [] ps [] ys h k = k
within_then [] ps (z ∷ zs) ys h k = absurd h
within_then (r ∷ rs) ps [] ys h k = absurd h
within_then (r ∷ rs) ps (z ∷ zs) ys h k = (h.0, within_then rs ps zs ys h.1 k)

corner_within : (s : ℕ) → AreWithin commands.corner_limits (corner s)
unfolding corner
corner_within s = (
  coordinate_within s 0,
  (
    coordinate_within s 1,
    (
      coordinate_within s 2,
      (colour_within s 3, (colour_within s 4, (colour_within s 5, tt))),
    ),
  ),
)

-- One line

next_quiet : (p q : Place) (t : ℕ) (c : Command) (zs : List ℤ) → announced c zs ≡ 0 → place_after c p ≡ q → channels_after c zs 1 ≡ 1
    → due_after c zs 0 ≡ 0 → next_spot (spot p 0 t) c zs ≡ spot q 0 t
unfolding next_spot
next_quiet p q t c zs none place_is channels_are due_is =
    let all : t + announced c zs ≡ t = omega (arith, none) in rw (place_is, channels_are, due_is, all) refl

-- a line that announces no triangles, where none is due
quiet : (p q : Place) (t : ℕ) (c : Command) (zs : List ℤ) → t ≤ 65536 → may_stand (spot p 0 t) c ≡ true → AreWithin (limits_of 1 c) zs
    → is_ordered c zs ≡ true
    → announced c zs ≡ 0 → place_after c p ≡ q → channels_after c zs 1 ≡ 1 → due_after c zs 0 ≡ 0
    → (es : List Entry) (u : Spot) → Leads (spot q 0 t) es u → Leads (spot p 0 t) ((c, zs) ∷ es) u
quiet p q t c zs few stands within ordered none place_is channels_are due_is es u h =
    let room : has_room (spot p 0 t) c zs ≡ true = le-leb _ _ (omega (arith, few, none)) in
    leads_first (spot p 0 t) (spot q 0 t) u (c, zs) es (record { stands = stands; within = within; ordered = ordered; room = room })
    (next_quiet p q t c zs none place_is channels_are due_is) h

next_triangle : (d u s : ℕ) → next_spot (spot place.Buffer (suc d) u) command.Triangle (triangle s).1 ≡ spot place.Buffer d u
unfolding next_spot triangle
next_triangle d u s = let less : suc d - 1 ≡ d = omega arith in let all : u + 0 ≡ u = omega arith in rw (less, all) refl

-- a triangle line
due_triangle : (d u s : ℕ) → u ≤ 65536 → Leads (spot place.Buffer (suc d) u) (triangle s ∷ []) (spot place.Buffer d u)
unfolding triangle
due_triangle d u s few =
    leads_first (spot place.Buffer (suc d) u) (spot place.Buffer d u) (spot place.Buffer d u) (triangle s) []
    (record { stands = stands d u; within = within s; ordered = refl; room = le-leb _ _ (omega (arith, few)) }) (next_triangle d u s)
    (leads_nowhere (spot place.Buffer d u) (spot place.Buffer d u) refl)
  where
    stands : (d u : ℕ) → may_stand (spot place.Buffer (suc d) u) command.Triangle ≡ true
    stands d u = let some : nat_lt 0 (suc d) ≡ true = lt-ltb _ _ (omega arith) in rw some refl

    within : (s : ℕ) → AreWithin (limits_of 1 command.Triangle) (triangle s).1
    within s =
        within_then commands.corner_limits (commands.corner_limits ++ commands.corner_limits) (corner s)
        (corner (state_after 6 s) ++ corner (state_after 12 s)) (corner_within s)
        (within_then commands.corner_limits commands.corner_limits (corner (state_after 6 s)) (corner (state_after 12 s))
        (corner_within (state_after 6 s)) (corner_within (state_after 12 s)))

pub due_triangles : (k d u s : ℕ) → u ≤ 65536 → Leads (spot place.Buffer (d + k) u) (triangles k s) (spot place.Buffer d u)
unfolding triangles
due_triangles zero d u s few = leads_nowhere (spot place.Buffer (d + zero) u) (spot place.Buffer d u) (due_is (d + zero) d u (omega arith))
due_triangles (suc k) d u s few =
    let e : suc d + k ≡ d + suc k = omega arith in
    leads_then (spot place.Buffer (d + suc k) u) (spot place.Buffer (suc d) u) (spot place.Buffer d u) (triangles k s)
    (triangle (state_after (18 * k) s) ∷ [])
    (subst (λ (n : ℕ). Leads (spot place.Buffer n u) (triangles k s) (spot place.Buffer (suc d) u)) e (due_triangles k (suc d) u s few))
    (due_triangle d u (state_after (18 * k) s) few)

next_geode : (id state t : ℕ) → next_spot (spot place.Buffer 0 t) (command.Edit form.Geode)
    (pos id ∷ pos state ∷ pos 16 ∷ []) ≡ spot place.Buffer 16 (t + 16)
unfolding next_spot
next_geode id state t = refl

-- a geode with its triangles
geode_leads : (id s t : ℕ) → 1 ≤ id → id ≤ 65535 → t + 16 ≤ 65536
    → Leads (spot place.Buffer 0 t) (geode id s) (spot place.Buffer 0 (t + 16))
unfolding geode
geode_leads id s t some few room =
    let b = draw_below s 0 8 (omega arith) in
    leads_first (spot place.Buffer 0 t) (spot place.Buffer 16 (t + 16)) (spot place.Buffer 0 (t + 16))
    (command.Edit form.Geode, pos id ∷ pos (draw s 0 8) ∷ pos 16 ∷ []) (triangles 16 (state_after 1 s))
    (record {
      stands = refl;
      within = (
        natural_within 1 65535 id some few,
        (
          natural_within 0 65535 (draw s 0 8) (omega arith) (omega (arith, b)),
          (natural_within 0 4096 16 (omega arith) (omega arith), tt),
        ),
      );
      ordered = refl;
      room = le-leb _ _ room;
    })
    (next_geode id (draw s 0 8) t) (due_triangles 16 0 (t + 16) (state_after 1 s) room)

-- The parts of a play

opening_leads : Leads (start version.One) opening (spot place.App 0 0)
unfolding opening
opening_leads =
    quiet place.Size place.Lens 0 command.Size (pos 64 ∷ pos 48 ∷ []) (omega arith) refl (
      natural_within 1 1024 64 (omega arith) (omega arith),
      (natural_within 1 1024 48 (omega arith) (omega arith), tt),
    ) refl refl refl refl refl _ _
    (quiet place.Lens place.Back 0 command.Lens (pos 64 ∷ pos 4096 ∷ pos 409600 ∷ []) (omega arith) refl (
      natural_within 1 65535 64 (omega arith) (omega arith),
      (
        natural_within 1 1073741823 4096 (omega arith) (omega arith),
        (natural_within 1 1073741823 409600 (omega arith) (omega arith), tt),
      ),
    ) refl refl refl refl refl _ _
    (quiet place.Back place.Start 0 command.Back (pos 0 ∷ pos 0 ∷ pos 64 ∷ []) (omega arith) refl (
      natural_within 0 255 0 (omega arith) (omega arith),
      (
        natural_within 0 255 0 (omega arith) (omega arith),
        (natural_within 0 255 64 (omega arith) (omega arith), tt),
      ),
    ) refl refl refl refl refl _ _
    (quiet place.Start place.App 0 command.App [] (omega arith) refl tt refl refl refl refl refl _ _
    (quiet place.App place.App 0 (command.Edit form.Group) (pos 1 ∷ []) (omega arith) refl
    (natural_within 1 65535 1 (omega arith) (omega arith), tt) refl refl refl refl refl _ _
    (quiet place.App place.App 0 (command.Edit form.Add) (pos 0 ∷ pos 1 ∷ []) (omega arith) refl (
      natural_within 0 65535 0 (omega arith) (omega arith),
      (natural_within 0 65535 1 (omega arith) (omega arith), tt),
    ) refl refl refl refl refl [] (spot place.App 0 0)
    (leads_nowhere (spot place.App 0 0) (spot place.App 0 0) refl))))))

turns_lead : (k : ℕ) → k ≤ 256 → Leads (spot place.App 0 0) (turns k) (spot place.App 0 0)
unfolding turns turn
turns_lead zero few = leads_nowhere (spot place.App 0 0) (spot place.App 0 0) refl
turns_lead (suc k) few =
    leads_then (spot place.App 0 0) (spot place.App 0 0) (spot place.App 0 0) (turns k) (turn (suc k)) (turns_lead k (omega (arith, few)))
    (quiet place.App place.App 0 command.Frame [] (omega arith) refl tt refl refl refl refl refl _ _
    (quiet place.App place.App 0 command.Wait (pos (suc k) ∷ []) (omega arith) refl
    (natural_within 0 262144 (suc k) (omega arith) (omega (arith, few)), tt) refl refl refl refl refl [] (spot place.App 0 0)
    (leads_nowhere (spot place.App 0 0) (spot place.App 0 0) refl)))

-- the lines of a buffer behind its geode
placed_lead : (i p t : ℕ) → i ≤ 256 → t ≤ 65536 → Leads (spot place.Buffer 0 t) (placed i p) (spot place.Dbase 0 t)
unfolding placed lines.place lines.heading
placed_lead i p t few room =
    let h = state_after 3 p in
    let id = natural_within 0 65535 (100 + 2 * i) (omega arith) (omega (arith, few)) in
    let angle : IsWithin commands.angle (pos (draw h 0 3600)) = let b = draw_below h 0 3600
    (omega arith) in record { low = omega (arith, ints, b); high = omega (arith, ints, b) } in
    let none : IsWithin commands.angle (pos 0) = record { low = omega (arith, ints); high = omega (arith, ints) } in
    quiet place.Buffer place.Buffer t (command.Edit form.Add) (pos (100 + 2 * i) ∷ pos (101 + 2 * i) ∷ []) room refl
    (id, (natural_within 0 65535 (101 + 2 * i) (omega arith) (omega (arith, few)), tt)) refl refl refl refl refl _ _
    (quiet place.Buffer place.Buffer t (command.Edit form.Trans)
    (pos (100 + 2 * i) ∷ lines.side p 0 ∷ lines.ahead p 1 ∷ lines.height p 2 ∷ []) room refl
    (id, (side_within p 0, (ahead_within p 1, (height_within p 2, tt)))) refl refl refl refl refl _ _
    (quiet place.Buffer place.Buffer t (command.Edit form.Rot) (pos (100 + 2 * i) ∷ pos (draw h 0 3600) ∷ pos 0 ∷ pos 0 ∷ []) room refl
    (id, (angle, (none, (none, tt)))) refl refl refl refl refl _ _
    (quiet place.Buffer place.Buffer t command.BufferAdd (pos 1 ∷ pos (100 + 2 * i) ∷ []) room refl
    (natural_within 0 65535 1 (omega arith) (omega arith), (id, tt)) refl refl refl refl refl _ _
    (quiet place.Buffer place.Dbase t command.Merge [] room refl tt refl refl refl refl refl [] (spot place.Dbase 0 t)
    (leads_nowhere (spot place.Dbase 0 t) (spot place.Dbase 0 t) refl)))))

buffer_leads : (i s t : ℕ) → i ≤ 256 → t + 16 ≤ 65536 → Leads (spot place.Dbase 0 t) (buffer i s) (spot place.Dbase 0 (t + 16))
unfolding buffer
buffer_leads i s t few room =
    quiet place.Dbase place.Dbase t command.Await (pos i ∷ []) (omega (arith, room)) refl
    (natural_within 0 262144 i (omega arith) (omega (arith, few)), tt) refl refl refl refl refl _ _
    (quiet place.Dbase place.Buffer t command.Buffer [] (omega (arith, room)) refl tt refl refl refl refl refl _ _
    (quiet place.Buffer place.Buffer t (command.Edit form.Dcs) (pos (100 + 2 * i) ∷ []) (omega (arith, room)) refl
    (natural_within 1 65535 (100 + 2 * i) (omega arith) (omega (arith, few)), tt) refl refl refl refl refl _ _
    (leads_then (spot place.Buffer 0 t) (spot place.Buffer 0 (t + 16)) (spot place.Dbase 0 (t + 16)) (geode (101 + 2 * i) s)
    (placed i (state_after 289 s))
    (geode_leads (101 + 2 * i) s t (omega arith) (omega (arith, few)) room) (placed_lead i (state_after 289 s) (t + 16) few room))))

buffers_lead : (k s : ℕ) → k ≤ 256 → Leads (spot place.Dbase 0 0) (buffers k s) (spot place.Dbase 0 (16 * k))
unfolding buffers
buffers_lead zero s few = leads_nowhere (spot place.Dbase 0 0) (spot place.Dbase 0 (16 * 0)) refl
buffers_lead (suc k) s few =
    let e : 16 * k + 16 ≡ 16 * suc k = omega arith in
    leads_then (spot place.Dbase 0 0) (spot place.Dbase 0 (16 * k)) (spot place.Dbase 0 (16 * suc k)) (buffers k s)
    (buffer (suc k) (state_after (293 * k) s))
    (buffers_lead k s (omega (arith, few)))
    (subst (λ (n : ℕ). Leads (spot place.Dbase 0 (16 * k)) (buffer (suc k) (state_after (293 * k) s)) (spot place.Dbase 0 n)) e
    (buffer_leads (suc k) (state_after (293 * k) s) (16 * k) few (omega (arith, few))))

-- the lines of a generated play follow each other
pub lines_follow : (n : ℕ) → n ≤ 256 → Follow (start version.One) (generated_lines n)
unfolding generated_lines
lines_follow n few =
    follow_then (start version.One) (spot place.App 0 0) opening
    (turns n ++ (command.Frame, []) ∷ (command.Dbase, []) ∷ buffers n n) opening_leads
    (follow_then (spot place.App 0 0) (spot place.App 0 0) (turns n) ((command.Frame, []) ∷ (command.Dbase, []) ∷ buffers n n)
    (turns_lead n few)
    (follow_to (spot place.App 0 0) (spot place.Dbase 0 (16 * n)) ((command.Frame, []) ∷ (command.Dbase, []) ∷ buffers n n)
    (quiet place.App place.App 0 command.Frame [] (omega arith) refl tt refl refl refl refl refl _ _
    (quiet place.App place.Dbase 0 command.Dbase [] (omega arith) refl tt refl refl refl refl refl _ _ (buffers_lead n n few)))
    refl))
