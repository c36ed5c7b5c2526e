-- What the passes know that are dealt: APP has the number 0, CULL 1, DRAW 2, DBASE 3, and the probe 4. And the way from the
-- application to the cull, and the cull and the draw, before the first step.
use Rattle.std.specs.Prelude.{◌≡◌, ℕ, List, [], length, Option}
use Rattle.std.specs.List.{AllByRecursion}
use Rattle.fx_math.specs.declared.lenses.Lens.{Lens}
use Rattle.atomic_table.specs.Seated.{TableId}
use Rattle.seat_lock.specs.declared.view.View.{View}
use Rattle.seat_lock.specs.View.{stand_of, opener, gives_one, given_one}
use Rattle.pf_history.specs.declared.commands.Entry.{Entry}
use Rattle.frame_link.specs.declared.ring_ends.RingSend.{RingSend}
use Rattle.frame_link.specs.declared.ring_ends.RingTake.{RingTake}
use Rattle.frame_link.specs.Ends.{ring_sent, ring_send_at, ring_taken, ring_take_at}
use Rattle.nearest_hit.specs.declared.segment.Segment.{Segment}
use Rattle.stage_parts.specs.declared.packets.Packet.{Packet}
use Rattle.stream_stages.specs.Cuts.{Cut}
use Rattle.mode_hosts.specs.Works.{AnyCullWork, AnyDrawWork, cull_links, draw_links, limit_of, cull_lens, draw_lens, draw_back, KeepsCull, KeepsDraw}
use Rattle.mode_hosts.specs.Sites.{Place, WaySite, IfThere}
use Rattle.mode_hosts.specs.Probes.{AreLinked, WayKeeps}

abbrev pub app_view : View Entry
app_view = gives_one (gives_one (gives_one (gives_one (opener 5))))

abbrev pub cull_view : View Entry
cull_view = given_one (opener 5)

abbrev pub draw_view : View Entry
draw_view = given_one (gives_one (opener 5))

abbrev pub dbase_view : View Entry
dbase_view = given_one (gives_one (gives_one (opener 5)))

abbrev pub probe_view : View Entry
probe_view = given_one (gives_one (gives_one (gives_one (opener 5))))

-- where a desk stands at a lock whose pass knows this
abbrev pub stands_at : TableId → View Entry → Place
stands_at lock v = record { number = v.number; seen = v.seen; stand = stand_of lock v }

-- The two ends of the way from the application to the cull, through which nothing went, and between them the probe of this
-- segment, where there is one.
pub record IsNewWay (asked : Option Segment) (send : RingSend Packet) (way : Option WaySite) (take : RingTake Packet) : Type 0 where
  pub linked : AreLinked (ring_send_at send) way (ring_take_at take)
  pub sent : ring_sent send ≡ []
  pub taken : ring_taken take ≡ []
  pub keeps : IfThere WayKeeps asked way

-- So many pieces, each of at most this many items.
pub record AreFirst (limit many : ℕ) (ps : List Cut) : Type 0 where
  pub all : length ps ≡ many
  pub limits : AllByRecursion (λ p. p.limit ≡ limit) ps

-- The two ends of the link back before the first step, on which all four pieces lie.
pub record IsNewReturn (limit : ℕ) (send : RingSend Cut) (take : RingTake Cut) : Type 0 where
  pub link : ring_take_at take ≡ ring_send_at send
  pub first : AreFirst limit 4 (ring_sent send)

-- CULL and DRAW that have not begun, of this lens and this background, and in pieces of at most so many items, where a limit is
-- given: then the links of the pieces are those of both.
pub record AreNewWorks (lens : Lens) (back : List ℕ) (limit : Option ℕ) (cull : AnyCullWork) (draw : AnyDrawWork) : Type 0 where
  pub links : draw_links draw ≡ cull_links cull
  pub limited : limit_of cull ≡ limit
  pub cull_given : cull_lens cull ≡ lens
  pub draw_given : draw_lens draw ≡ lens
  pub background : draw_back draw ≡ back
  pub cull_keeps : KeepsCull cull [] []
  pub draw_keeps : KeepsDraw draw [] []
