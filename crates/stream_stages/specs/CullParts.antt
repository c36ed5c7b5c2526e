-- What contracts see of the cull of the stream, and what it keeps.
use Rattle.std.specs.Prelude.{◌≡◌, ⊤, ℕ, ◌+◌, ◌<◌, ◌≤◌, Bool, true, false, List, [], ◌∷◌, ◌++◌, map, drop, length, slice_get, nat_eq, Option, Some, None, MatchOption}
use Rattle.std.specs.List.{AllByRecursion, filter}
use Rattle.std.specs.Option.{option_to_list}
use Rattle.fx_math.specs.declared.lenses.Lens.{Lens}
use Rattle.pf_model.specs.Angles.{Viewpoint}
use Rattle.pf_model.specs.Graphs.{Look, Nodes, node_at, empty_scene}
use Rattle.pf_model.specs.Limits.{KeepsLimits, IsWithinLimits}
use Rattle.pf_model.specs.Walks.{Instance}
use Rattle.pf_model.specs.Copies.{updated_by}
use Rattle.draw_list.specs.Shown.{shown, stats_of}
use Rattle.cull_walk.specs.Premises.{unnamed}
use Rattle.cull_walk.specs.Working.{Scene}
use Rattle.multibuffer.specs.StageCopies.{CopyState, boxes_of, HasRightBoxes}
use Rattle.stage_parts.specs.declared.packets.Packet.{Packet}
use Rattle.stage_parts.specs.Loads.{LoadState}
use Rattle.stage_parts.specs.Packets.{is_end, has_end, loads_in, copy_at}
use Rattle.stage_parts.specs.Parts.{sent_and_held, stood}
use Rattle.stream_stages.specs.Cuts.{Cut, parts_of}
use Rattle.stream_stages.specs.Pieces.{PieceParts, ArePiecesOf, AreSentOf, in_sending_order}
use Rattle.stream_stages.specs.Routes.{Walking, to_come, scene_of}
use Rattle.stream_stages.specs.Underway.{IsUnderway, numbers_of}
use Rattle.stream_stages.specs.declared.sending.Sending.{Sending}
use Rattle.stream_stages.specs.Links.{Streamed, OnlyTakes, OnlySends, OnlyReceives, OnlyGives}
use Rattle.stream_stages.specs.PieceFrames.{PieceLists, lists_in, last_numbers, channels_of, PieceFrame, frames_in, left_in}

-- What contracts see

-- The cull of the stream: its copy of the scene with the boxes, whether the End was passed on, the packet and the piece that
-- it holds to send, the frame whose pieces are sent, and its walk.
pub record StreamCullState : Type 0 where
  pub copy : CopyState
  pub ended : Bool
  pub held : Option Packet
  pub piece : Option Cut
  pub frame : Option Sending
  pub walk : Walking

-- with the lens, and with the number of items that a piece takes, which it is given
pub record StreamCullWork : Type 0 where
  pub lens : Lens
  pub limit : ℕ
  pub state : StreamCullState

-- what the cull is given stays
pub record IsAsGiven (old new : StreamCullWork) : Type 0 where
  pub lens : new.lens ≡ old.lens
  pub limit : new.limit ≡ old.limit

-- Loads

-- what CULL passes on of a load where its copy has these nodes: in place of the update list what stood there
abbrev pub with_stood : Nodes → LoadState → LoadState
with_stood nodes l = record l { cut = record l.cut { updates = stood nodes l.cut.updates } }

-- what CULL passes on of loads, where its copy had these nodes before them
abbrev pub handed_on : Nodes → List LoadState → List LoadState
handed_on nodes [] = []
handed_on nodes (l ∷ ls) = with_stood nodes l ∷ handed_on (updated_by nodes l.cut.updates) ls

-- all copies that the update lists of these loads made are within the limits
abbrev pub AreAllWithin : List LoadState → Type 0
AreAllWithin loads = (k : ℕ) → k ≤ length loads → KeepsLimits (node_at (copy_at loads k))

-- The copy is that of the update lists of these loads, and its boxes are right where all copies were within the limits.
pub record IsCopyOf (copy : CopyState) (loads : List LoadState) : Type 0 where
  pub nodes : copy.nodes ≡ copy_at loads (length loads)
  pub boxes : AreAllWithin loads → HasRightBoxes copy

-- What CULL sent over B and holds to send are the packets received, in order, but for the update lists, which it exchanged;
-- its copy is that of all of them; End follows End.
pub record PassesLoads (copy : CopyState) (ended : Bool) (held : Option Packet) (taken sent : List Packet) : Type 0 where
  pub loads : loads_in (sent_and_held sent held) ≡ handed_on empty_scene.nodes (loads_in taken)
  pub ends : map is_end (sent_and_held sent held) ≡ map is_end taken
  pub copied : IsCopyOf copy (loads_in taken)
  pub over : ended ≡ has_end sent

-- Pieces

-- The pieces of the load that was received at a place can be exact: up to it the copies are within the limits.
pub record CanStream (loads : List LoadState) (i : ℕ) (l : LoadState) : Type 0 where
  pub limits : (k : ℕ) → k ≤ i + 1 → KeepsLimits (node_at (copy_at loads k))
  pub within : IsWithinLimits (node_at (copy_at loads (i + 1))) l.cut.frame

-- each piece has items, but maybe not the last one of its list
abbrev pub HaveItems : List PieceParts → Type 0
HaveItems ps = AllByRecursion (λ p. p.last ≡ false → 0 < length p.items) ps

-- the triangles of what is sent next find no room in a piece
abbrev pub HasNoRoomFor : Cut → (next : List Instance) → Type 0
HasNoRoomFor p [] = ⊥
HasNoRoomFor p (x ∷ next) = p.list.kept.spare < length x.tris

-- where the piece takes more items, the triangles of what is sent next find no room in it
abbrev pub IsFullBefore : (limit : ℕ) → Cut → (next : List Instance) → Type 0
IsFullBefore limit p next = length p.list.items.items < limit → HasNoRoomFor p next

-- of the pieces of a list, which are a front of all that it sends, each is full, but maybe not the last one
abbrev pub AreFull : (limit : ℕ) → (all : List Instance) → List Cut → Type 0
AreFull limit all [] = ⊤
AreFull limit all (p ∷ ps) =
    let next = drop (length p.list.items.items) all in
    (p.last ≡ false → IsFullBefore limit p next) × AreFull limit next ps

-- what the list for a view sends
abbrev pub all_to_send : Look → (time : ℕ) → Viewpoint → Lens → List Instance
all_to_send look time v lens = map unnamed (in_sending_order (shown look time v lens))

-- The pieces are right for what is shown for a view, and full, and the last one has the numbers.
pub record IsListOf (lens : Lens) (limit : ℕ) (look : Look) (time : ℕ) (v : Viewpoint) (ps : List Cut) : Type 0 where
  pub pieces : ArePiecesOf limit (shown look time v lens) (map parts_of ps)
  pub some : HaveItems (map parts_of ps)
  pub full : AreFull limit (all_to_send look time v lens) ps
  pub numbers : last_numbers ps ≡ stats_of look time v lens

-- each list is right for the view of its channel
abbrev pub AreListsOf : Lens → (limit : ℕ) → Look → LoadState → List (List Cut) → Type 0
AreListsOf lens limit look l lists =
    (j : ℕ) (v : Viewpoint) (ps : List Cut) → slice_get l.cut.views j ≡ Some v → slice_get lists j ≡ Some ps →
    IsListOf lens limit look l.cut.frame v ps

-- each frame that was sent wholly has right lists over the copy of its load, where they can be exact
abbrev pub AreStreamed : Lens → (limit : ℕ) → List LoadState → (whole : List (List Cut)) → Type 0
AreStreamed lens limit loads whole =
    (i : ℕ) (f : PieceFrame) → slice_get (frames_in loads whole) i ≡ Some f → CanStream loads i f.load →
    AreListsOf lens limit (node_at (copy_at loads (i + 1))) f.load f.lists

-- what a walk goes through: the copy with its boxes
abbrev pub scene_at : CopyState → Walking → Scene
scene_at copy w = scene_of (node_at copy.nodes) (boxes_of copy) w

-- Of the list for a view these pieces were sent, none of them the last one, and the walk goes on behind them.
pub record IsSentTo (lens : Lens) (limit : ℕ) (copy : CopyState) (time : ℕ) (v : Viewpoint) (w : Walking) (ps : List Cut) :
    Type 0 where
  pub underway : IsUnderway (scene_at copy w) w
  pub few : AllByRecursion (λ p. length p.items ≤ limit) (map parts_of ps)
  pub some : HaveItems (map parts_of ps)
  pub full : AreFull limit (all_to_send (node_at copy.nodes) time v lens) ps
  pub marks : AllByRecursion (λ p. p.last ≡ false) ps
  pub sent : AreSentOf (all_to_send (node_at copy.nodes) time v lens) (map parts_of ps) (to_come (scene_at copy w) w)
  pub numbers : numbers_of (scene_at copy w) w ≡ stats_of (node_at copy.nodes) time v lens

-- the views of the first four channels, where they are there
abbrev pub first_four : List Viewpoint → List (Option Viewpoint)
first_four vs = slice_get vs 0 ∷ slice_get vs 1 ∷ slice_get vs 2 ∷ slice_get vs 3 ∷ []

-- All lists of the loads before the load `last` are sent, and the lists of the first channels of this one, right where they
-- can be exact; its number and the views of its channels are kept.
pub record IsUpToChannel (lens : Lens) (limit : ℕ) (copy : CopyState) (before : List LoadState) (last : LoadState) (whole : List (List Cut))
    (s : Sending) : Type 0 where
  pub frames : length (frames_in before whole) ≡ length before
  pub time : s.time ≡ last.cut.frame
  pub views : s.views ≡ first_four last.cut.views
  pub channel : s.channel ≡ length (left_in before whole)
  pub lists : CanStream (before ++ last ∷ []) (length before) last →
      AreListsOf lens limit (node_at copy.nodes) last (left_in before whole)

-- The frame of the last load is under way: the list of its next channel is begun.
pub record IsSending (lens : Lens) (limit : ℕ) (copy : CopyState) (walk : Walking) (loads : List LoadState) (lists : PieceLists)
    (s : Sending) : Type 0 where
  pub before : List LoadState
  pub last : LoadState
  pub all : loads ≡ before ++ last ∷ []
  pub up_to : IsUpToChannel lens limit copy before last lists.whole s
  pub more : s.channel < channels_of last
  pub begun : CanStream (before ++ last ∷ []) (length before) last → (v : Viewpoint) → slice_get last.cut.views s.channel ≡ Some v →
      IsSentTo lens limit copy s.time v walk lists.begun

-- No frame is under way: all lists of all loads are sent, and no piece more.
pub record AreAllSent (loads : List LoadState) (lists : PieceLists) : Type 0 where
  pub frames : length (frames_in loads lists.whole) ≡ length loads
  pub left : left_in loads lists.whole ≡ []
  pub begun : lists.begun ≡ []

-- The pieces of these lists are, load by load and channel by channel, right lists of what is shown; of the last load maybe a
-- front.
pub record SendsPieces (lens : Lens) (limit : ℕ) (copy : CopyState) (frame : Option Sending) (walk : Walking) (loads : List LoadState)
    (lists : PieceLists) : Type 0 where
  pub streamed : AreStreamed lens limit loads lists.whole
  pub under_way : MatchOption frame (AreAllSent loads lists) (IsSending lens limit copy walk loads lists)

-- the pieces that were sent, and the one that is held to be sent, as lists
abbrev pub piece_lists : List Cut → Option Cut → PieceLists
piece_lists gone piece = lists_in (gone ++ option_to_list piece)

-- All that CULL keeps: what it sent and holds to send over B, and over P. Where the End came, no frame is under way.
pub record StreamCullPart (lens : Lens) (limit : ℕ) (c : StreamCullState) (taken sent : List Packet) (gone : List Cut) : Type 0 where
  pub packets : PassesLoads c.copy c.ended c.held taken sent
  pub pieces : SendsPieces lens limit c.copy c.frame c.walk (loads_in taken) (piece_lists gone c.piece)
  pub at_end : has_end taken ≡ true → c.frame ≡ None

-- The pieces that CULL sent and holds to send are as many as came back for its number of items, and each takes that number.
abbrev pub RefillsPieces : (limit : ℕ) → (piece : Option Cut) → (came gone : List Cut) → Type 0
RefillsPieces limit piece came gone =
    map (λ p. p.limit) (gone ++ option_to_list piece) ≡ filter (nat_eq limit) (map (λ p. p.limit) came)

-- Waits

-- Why CULL has to wait where it holds nothing: a frame is under way, and no piece came back; or no packet came.
abbrev pub WaitsToFill : StreamCullState → (no_piece dry : Type 0) → Type 0
WaitsToFill c no_piece dry = MatchOption c.frame dry (λ _. no_piece)

-- where it holds no packet: it holds a piece, and the link for it is full; or as above
abbrev pub WaitsToSend : StreamCullState → (no_room no_piece dry : Type 0) → Type 0
WaitsToSend c no_room no_piece dry = MatchOption c.piece (WaitsToFill c no_piece dry) (λ _. no_room)

-- why CULL has to wait: it holds a packet, and its link is full; or as above
abbrev pub WaitsToCull : StreamCullState → (full no_room no_piece dry : Type 0) → Type 0
WaitsToCull c full no_room no_piece dry = MatchOption c.held (WaitsToSend c no_room no_piece dry) (λ _. full)

-- Turns

-- Where CULL holds nothing: while a frame is under way it only receives a piece, and else only takes a packet.
abbrev pub TakesInTurn : (before after : Streamed StreamCullState) → Type 0
TakesInTurn before after = WaitsToFill before.state (OnlyReceives before after) (OnlyTakes before after)

-- where it holds no packet: it only sends the piece that it holds; or as above
abbrev pub MovesInTurn : (before after : Streamed StreamCullState) → Type 0
MovesInTurn before after =
    WaitsToSend before.state (OnlyGives before after) (OnlyReceives before after) (OnlyTakes before after)

-- it only sends the packet that it holds; or as above
abbrev pub CullsInTurn : (before after : Streamed StreamCullState) → Type 0
CullsInTurn before after =
    WaitsToCull before.state (OnlySends before after) (OnlyGives before after) (OnlyReceives before after) (OnlyTakes before after)
