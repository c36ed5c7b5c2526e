-- The pieces that go over a link, as lists of channels and as frames.
use Rattle.std.specs.Prelude.{ℕ, ◌-◌, ◌^◌, min, nat_lt, if◌then◌else◌, List, [], ◌∷◌, ◌++◌, map, fold, take, drop, length}
use Rattle.pf_model.specs.Walks.{Instance}
use Rattle.draw_list.specs.declared.stats.Stats.{Stats}
use Rattle.draw_list.specs.Lists.{instances_in}
use Rattle.depth_raster.specs.InPieces.{joined, IsGlassInOrder, IsGlassLast}
use Rattle.stage_parts.specs.Loads.{LoadState}
use Rattle.stage_parts.specs.Pictures.{sums}
use Rattle.stream_stages.specs.Cuts.{Cut}

-- Lists of channels

-- The pieces of a link, cut behind each one that has the mark `last`: the lists that are whole, and the pieces of the
-- list that is under way.
pub record PieceLists : Type 0 where
  pub whole : List (List Cut)
  pub begun : List Cut

abbrev pub with_piece : PieceLists → Cut → PieceLists
with_piece l p =
    if p.last then record { whole = l.whole ++ (l.begun ++ p ∷ []) ∷ []; begun = [] }
    else record { whole = l.whole; begun = l.begun ++ p ∷ [] }

abbrev pub lists_in : List Cut → PieceLists
lists_in pieces = fold with_piece (record { whole = []; begun = [] }) pieces

-- what each piece draws
abbrev pub pieces_of : List Cut → List (List Instance)
pieces_of ps = map (λ p. instances_in p.list) ps

-- what all pieces of a list draw
abbrev pub items_of : List Cut → List Instance
items_of ps = joined (pieces_of ps)

-- The list can be drawn as it comes: no opaque instance comes behind glass, and the glass stands in the order in which it
-- is drawn.
pub record CanDrawInTurn (xs : List Instance) : Type 0 where
  pub last : IsGlassLast xs
  pub order : IsGlassInOrder xs

-- Numbers

abbrev pub no_numbers : Stats
no_numbers = record { shown = 0; states = 0; visited = 0 }

-- the numbers of the last piece
abbrev pub last_numbers : List Cut → Stats
last_numbers [] = no_numbers
last_numbers (p ∷ []) = p.stats
last_numbers (p ∷ q ∷ ps) = last_numbers (q ∷ ps)

-- the greatest value of each number of a frame
abbrev pub greatest : ℕ
greatest = 2 ^ 32 - 1

-- each number where it is below 2^32, and else the greatest one
abbrev pub capped : Stats → Stats
capped s = record { shown = min s.shown greatest; states = min s.states greatest; visited = min s.visited greatest }

-- the sums over the channels of the numbers of their last pieces
abbrev pub summed : List (List Cut) → Stats
summed lists = capped (sums (map last_numbers lists))

-- Frames

-- the channels of a load that pieces are sent for: one for each view, four at most
abbrev pub channels_of : LoadState → ℕ
channels_of l = min (length l.cut.views) 4

-- A load as it was received, with a list of pieces for each channel.
pub record PieceFrame : Type 0 where
  pub load : LoadState
  pub lists : List (List Cut)

-- The lists are dealt to loads in turn, to each one as many as it has channels: the frames all of whose lists are there.
abbrev pub frames_in : List LoadState → List (List Cut) → List PieceFrame
frames_in [] lists = []
frames_in (l ∷ loads) lists =
    if nat_lt (length lists) (channels_of l) then []
    else record { load = l; lists = take (channels_of l) lists } ∷ frames_in loads (drop (channels_of l) lists)

-- the lists of the frame that is under way
abbrev pub left_in : List LoadState → List (List Cut) → List (List Cut)
left_in [] lists = lists
left_in (l ∷ loads) lists =
    if nat_lt (length lists) (channels_of l) then lists else left_in loads (drop (channels_of l) lists)
