-- What a fill does on every scene, one turn after the other: also beyond the limits, and where room is missing.
use Rattle.std.specs.Prelude.{◌≡◌, ℕ, zero, suc, ◌+◌, Bool, true, false, nat_lt, if◌then◌else◌, ◌⊎◌, is_some, length, slice_get, Option, Some, None}
use Rattle.std.specs.Option.{option_map_or, option_and_then}
use Rattle.std.specs.List.Sorted.{IsPermutation, IsSortedBy}
use Rattle.pf_model.specs.Graphs.{Look}
use Rattle.draw_list.specs.Lists.{Drawables, instances_in}
use Rattle.draw_list.specs.Order.{state_count}
use Rattle.draw_list.specs.declared.stats.Stats.{Stats}
use Rattle.cull_walk.specs.Working.{Scene, emptied}
use Rattle.stream_stages.specs.Routes.{Walking, glass_order}
use Rattle.stream_stages.specs.Going.{Stepped, stepped}
use Rattle.stream_stages.specs.Sending.{Sent, sent_to}

-- The walk, the list of the piece, and the box tests made.
pub record Filling : Type 0 where
  pub walk : Walking
  pub list : Drawables
  pub tests : ℕ

-- What a turn leaves. It is the last one where it ended: with true if nothing was left, with false if the piece is full.
pub record Turned : Type 0 where
  pub ended : Option Bool
  pub filling : Filling

-- ---- a turn
-- an instance that waits went into the piece, and the walk goes on as `next`; or it finds no room, and the piece is full
abbrev pub after_sent : Sent → Walking → Filling → Turned
after_sent t next f =
    if t.done then record { ended = None; filling = record { walk = next; list = t.list; tests = f.tests } }
    else record { ended = Some false; filling = record { walk = f.walk; list = t.list; tests = f.tests } }

-- the walk went a step further
abbrev pub after_step : Stepped → Filling → Turned
after_step t f =
    record { ended = if t.going then None else Some true; filling = record { walk = t.walk; list = f.list; tests = t.tests } }

-- where the piece takes no further item, it is full
abbrev pub unless_full : ℕ → Filling → Turned → Turned
unless_full most f t =
    if nat_lt (length f.list.items.items) most then t else record { ended = Some false; filling = f }

-- a turn while the scene is walked through: the opaque instance that waits, or else a step
abbrev pub walk_turn : Scene → ℕ → Filling → Turned
walk_turn s most f =
    unless_full most f
    (option_map_or (λ x. after_sent (sent_to s.look x f.list) (record f.walk { held = None }) f) f.walk.held
    (after_step (stepped s f.walk f.tests) f))

-- how much of the glass was sent
abbrev pub glass_sent : Walking → ℕ
glass_sent w = option_map_or (λ k. k) w.sent 0

-- a turn once the glass is in order: the next of it
abbrev pub glass_turn : Look → ℕ → Filling → Turned
glass_turn look most f =
    unless_full most f
    (option_map_or (λ x. after_sent (sent_to look x f.list) (record f.walk { sent = Some (glass_sent f.walk + 1) }) f)
    (slice_get f.walk.glass (glass_sent f.walk)) (record { ended = Some true; filling = f }))

-- ---- turn after turn
-- what a turn leaves that is not the last one
abbrev pub gone_on : Turned → Option Filling
gone_on t = if is_some t.ended then None else Some t.filling

-- what so many turns leave, where none of them is the last one
abbrev pub after_turns : (Filling → Turned) → ℕ → Filling → Option Filling
after_turns turn zero f = Some f
after_turns turn (suc n) f = option_and_then (λ e. gone_on (turn e)) (after_turns turn n f)

-- f becomes e by turns that are not the last one
pub record GoesTo (turn : Filling → Turned) (f e : Filling) : Type 0 where
  pub turns : ℕ
  pub gone : after_turns turn turns f ≡ Some e

-- turn after turn f becomes e, and the last turn ended so
pub record EndsIn (turn : Filling → Turned) (f : Filling) (over : Bool) (e : Filling) : Type 0 where
  pub last : Filling
  pub goes : GoesTo turn f last
  pub ends : turn last ≡ record { ended = Some over; filling = e }

-- ---- a fill
-- the walk with its glass in the order in which it is drawn, of which none was sent
pub record IsInOrder (w v : Walking) : Type 0 where
  pub glass : IsPermutation w.glass v.glass
  pub sorted : IsSortedBy glass_order v.glass
  pub walk : v ≡ record w { glass = v.glass; sent = Some 0 }

-- the walk is at its end, and glass goes into the rest of the piece
pub record FillsWithGlass (s : Scene) (most : ℕ) (f : Filling) (over : Bool) (e : Filling) : Type 0 where
  pub found : Filling
  pub ordered : Walking
  pub walk : EndsIn (walk_turn s most) f true found
  pub order : IsInOrder found.walk ordered
  pub glass : EndsIn (glass_turn s.look most) (record { walk = ordered; list = found.list; tests = found.tests }) over e

-- whether the glass is in order, and then what a fill makes of f
abbrev pub FillsFrom : Option ℕ → Scene → ℕ → Filling → Bool → Filling → Type 0
FillsFrom (Some _) s most f over e = EndsIn (glass_turn s.look most) f over e
FillsFrom None s most f over e = (EndsIn (walk_turn s most) f false e × (over ≡ false)) ⊎ FillsWithGlass s most f over e

-- a fill of at most so many items: what it makes of f, and whether nothing is left
abbrev pub Fills : Scene → ℕ → Filling → Bool → Filling → Type 0
Fills s most f over e = FillsFrom f.walk.sent s most f over e

-- a walk, and a list that is emptied for its view
abbrev pub filling_anew : Walking → Drawables → ℕ → Filling
filling_anew w d tests = record { walk = w; list = emptied w.view d; tests = tests }

-- the numbers of a walk so far
abbrev pub numbers_so_far : Walking → Stats
numbers_so_far w =
    record {
      shown = length w.seen.items.items;
      states = state_count (instances_in w.seen);
      visited = w.visited;
    }
