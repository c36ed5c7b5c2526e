-- The packets that the cull of the stream passes on.
use Rattle.std.proofs.Common.{◌≡◌, ℕ, ◌+◌, Bool, true, false, ◌||◌, List, [], ◌∷◌, ◌++◌, map, length, Option, Some, None, refl, sym, ap, ◌∙◌, subst, arith, length-append}
use Rattle.std.proofs.lemmas.List.{append-nil, map-append}
use Rattle.std.specs.List.{fold, list_any}
use Rattle.std.specs.Option.{option_to_list}
use Rattle.fx_math.specs.declared.lenses.Lens.{Lens}
use Rattle.pf_model.specs.Graphs.{Nodes, node_at, empty_scene}
use Rattle.pf_model.specs.Limits.{KeepsLimits}
use Rattle.pf_model.specs.Copies.{updated_by}
use Rattle.multibuffer.specs.StageCopies.{CopyState}
use Rattle.stage_parts.specs.declared.packets.Packet.{Packet}
use Rattle.stage_parts.specs.declared.packets.Packet.TheVariants.{Frame, End}
use Rattle.stage_parts.specs.Loads.{LoadState}
use Rattle.stage_parts.specs.Packets.{is_end, has_end, loads_in, updates_in}
use Rattle.stage_parts.specs.Parts.{sent_and_held}
use Rattle.stage_parts.proofs.Pushes.{loads_push, loads_end, has_end_push, passed_bare, whole_copy, copy_whole, whole_push, copy_push, copy_front}
use Rattle.stream_stages.specs.Cuts.{Cut}
use Rattle.stream_stages.specs.Routes.{Walking}
use Rattle.stream_stages.specs.declared.sending.Sending.{Sending}
use Rattle.stream_stages.specs.PieceFrames.{PieceLists, with_piece, lists_in}
use Rattle.stream_stages.specs.CullParts.{first_four, with_stood, handed_on, AreAllWithin, IsCopyOf, PassesLoads, StreamCullState, SendsPieces, piece_lists, StreamCullPart}
use Rattle.stream_stages.specs.CullSteps.{TakesUpdates, IsReadyToSend}
use Rattle.stream_stages.proofs.Dealing.{lists_more}
use Rattle.stream_stages.proofs.FramesSent.{ready_came}

handed_push : (nodes : Nodes) (ls : List LoadState) (l : LoadState) →
    handed_on nodes (ls ++ l ∷ []) ≡ handed_on nodes ls ++ with_stood (fold updated_by nodes (updates_in ls)) l ∷ []
handed_push nodes [] l = refl
handed_push nodes (m ∷ ls) l = ap (λ (xs : List LoadState). with_stood nodes m ∷ xs) (handed_push (updated_by nodes m.cut.updates) ls l)

within_front : (loads : List LoadState) (l : LoadState) → AreAllWithin (loads ++ l ∷ []) → AreAllWithin loads
within_front loads l all k below =
    subst (λ (n : Nodes). KeepsLimits (node_at n)) (copy_front loads (l ∷ []) k below)
    (all k (omega (arith, below, length-append loads (l ∷ []))))

within_last : (loads : List LoadState) (l : LoadState) → AreAllWithin (loads ++ l ∷ []) →
    KeepsLimits (node_at (updated_by (whole_copy loads) l.cut.updates))
within_last loads l all =
    subst (λ (n : Nodes). KeepsLimits (node_at n)) (copy_push loads l)
    (all (length loads + 1) (omega (arith, length-append loads (l ∷ []))))

-- the copy takes an update list
pub copy_on : (before after : CopyState) (loads : List LoadState) (old new : LoadState) → TakesUpdates before after old new →
    IsCopyOf before loads → IsCopyOf after (loads ++ old ∷ [])
copy_on before after loads old new takes copied =
    let next : after.nodes ≡ updated_by (whole_copy loads) old.cut.updates =
    takes.nodes ∙ ap (λ (n : Nodes). updated_by n old.cut.updates) (copied.nodes ∙ copy_whole loads) in
    record {
      nodes = next ∙ sym (whole_push loads old) ∙ sym (copy_whole (loads ++ old ∷ []));
      boxes = λ all.
          takes.boxes (copied.boxes (within_front loads old all))
          (subst (λ (n : Nodes). KeepsLimits (node_at n)) (sym next) (within_last loads old all));
    }

-- it takes a load, and holds it
pub passes_takes : (before after : CopyState) (ended : Bool) (held : Option Packet) (taken sent : List Packet) (old new : LoadState) → held ≡ None →
    TakesUpdates before after old new → PassesLoads before ended held taken sent →
    PassesLoads after ended (Some (Frame new)) (taken ++ Frame old ∷ []) sent
passes_takes before after ended held taken sent old new none takes part =
    let loads = loads_in taken in
    let bare = passed_bare sent held none in
    let same : before.nodes ≡ whole_copy loads = part.copied.nodes ∙ copy_whole loads in
    record {
      loads =
          loads_push sent new
          ∙ ap (λ (ls : List LoadState). ls ++ new ∷ []) (ap loads_in (sym bare) ∙ part.loads)
          ∙ ap (λ (l : LoadState). handed_on empty_scene.nodes loads ++ l ∷ []) (takes.load ∙ ap (λ (n : Nodes). with_stood n old) same)
          ∙ sym (ap (handed_on empty_scene.nodes) (loads_push taken old) ∙ handed_push empty_scene.nodes loads old);
      ends =
          map-append is_end sent (Frame new ∷ [])
          ∙ ap (λ (xs : List Bool). xs ++ false ∷ []) (ap (map is_end) (sym bare) ∙ part.ends)
          ∙ sym (map-append is_end taken (Frame old ∷ []));
      copied = subst (IsCopyOf after) (sym (loads_push taken old)) (copy_on before after loads old new takes part.copied);
      over = part.over;
    }

-- it takes the End, and holds it
pub passes_end : (copy : CopyState) (ended : Bool) (held : Option Packet) (taken sent : List Packet) → held ≡ None →
    PassesLoads copy ended held taken sent → PassesLoads copy ended (Some End) (taken ++ End ∷ []) sent
passes_end copy ended held taken sent none part =
    let bare = passed_bare sent held none in
    record {
      loads =
          loads_end sent ∙ ap loads_in (sym bare) ∙ part.loads ∙ ap (handed_on empty_scene.nodes) (sym (loads_end taken));
      ends =
          map-append is_end sent (End ∷ []) ∙ ap (λ (xs : List Bool). xs ++ true ∷ []) (ap (map is_end) (sym bare) ∙ part.ends)
          ∙ sym (map-append is_end taken (End ∷ []));
      copied = subst (IsCopyOf copy) (sym (loads_end taken)) part.copied;
      over = part.over;
    }

-- it sends the packet that it holds
pub passes_sent : (copy : CopyState) (ended : Bool) (taken sent sent' : List Packet) (p : Packet) → ended ≡ false → sent' ≡ sent ++ p ∷ [] →
    PassesLoads copy ended (Some p) taken sent → PassesLoads copy (is_end p) None taken sent'
passes_sent copy ended taken sent sent' p going more part =
    let same : sent_and_held sent' None ≡ sent_and_held sent (Some p) = append-nil sent' ∙ more in
    record {
      loads = ap loads_in same ∙ part.loads;
      ends = ap (map is_end) same ∙ part.ends;
      copied = part.copied;
      over = ap (λ (t : Bool). t || is_end p) (sym going ∙ part.over) ∙ sym (ap has_end more ∙ has_end_push sent p);
    }

-- Ends

ends_of : (ps : List Packet) → has_end ps ≡ list_any (λ (t : Bool). t) (map is_end ps)
ends_of [] = refl
ends_of (p ∷ ps) = ap (λ (t : Bool). is_end p || t) (ends_of ps)

-- where no End was sent and none is held, none came
no_end : (copy : CopyState) (ended : Bool) (held : Option Packet) (taken sent : List Packet) → held ≡ None → ended ≡ false →
    PassesLoads copy ended held taken sent → has_end taken ≡ false
no_end copy ended held taken sent none going part =
    ends_of taken ∙ ap (list_any (λ (t : Bool). t)) (sym part.ends) ∙ sym (ends_of (sent_and_held sent held))
    ∙ ap has_end (passed_bare sent held none) ∙ sym part.over ∙ going

not_true : (t : Bool) → t ≡ false → t ≡ true → ⊥
not_true t false-is true-is = absurd (cc)

not_there : (s : Sending) → Some s ≡ None → ⊥
not_there s e = absurd (cc)

-- All that CULL keeps

-- it takes the End
pub part_ended : (lens : Lens) (limit : ℕ) (c : StreamCullState) (taken taken' sent : List Packet) (gone : List Cut) → c.held ≡ None →
    c.frame ≡ None → taken' ≡ taken ++ End ∷ [] → StreamCullPart lens limit c taken sent gone →
    StreamCullPart lens limit (record c { held = Some End }) taken' sent gone
part_ended lens limit c taken taken' sent gone none between more part =
    subst (λ (ps : List Packet). StreamCullPart lens limit (record c { held = Some End }) ps sent gone) (sym more)
    (record {
      packets = passes_end c.copy c.ended c.held taken sent none part.packets;
      pieces =
          subst (λ (ls : List LoadState). SendsPieces lens limit c.copy c.frame c.walk ls (piece_lists gone c.piece)) (sym (loads_end taken))
          part.pieces;
      at_end = λ ends. between;
    })

-- it sends the packet that it holds
pub part_sent : (lens : Lens) (limit : ℕ) (c : StreamCullState) (taken sent sent' : List Packet) (gone : List Cut) (p : Packet) → c.ended ≡ false →
    sent' ≡ sent ++ p ∷ [] → StreamCullPart lens limit (record c { held = Some p }) taken sent gone →
    StreamCullPart lens limit (record c { ended = is_end p; held = None }) taken sent' gone
part_sent lens limit c taken sent sent' gone p going more part =
    record {
      packets = passes_sent c.copy c.ended taken sent sent' p going more part.packets;
      pieces = part.pieces;
      at_end = part.at_end;
    }

-- it sends the piece that it holds
pub part_gone : (lens : Lens) (limit : ℕ) (c : StreamCullState) (taken sent : List Packet) (gone gone' : List Cut) (p : Cut) →
    gone' ≡ gone ++ p ∷ [] → StreamCullPart lens limit (record c { piece = Some p }) taken sent gone →
    StreamCullPart lens limit (record c { piece = None }) taken sent gone'
part_gone lens limit c taken sent gone gone' p more part =
    let same : gone' ++ option_to_list None ≡ gone ++ option_to_list (Some p) = append-nil gone' ∙ more in
    record {
      packets = part.packets;
      pieces =
          subst (SendsPieces lens limit c.copy c.frame c.walk (loads_in taken))
          (sym (ap lists_in same)) part.pieces;
      at_end = part.at_end;
    }

-- it fills a piece, and holds it
pub part_filled : (lens : Lens) (limit limit' : ℕ) (c : StreamCullState) (taken sent : List Packet) (gone : List Cut) (s : Sending) (p : Cut)
    (frame : Option Sending) (walk : Walking) → c.piece ≡ None → limit' ≡ limit →
    ((loads : List LoadState) (lists : PieceLists) → IsCopyOf c.copy loads → SendsPieces lens limit' c.copy (Some s) c.walk loads lists →
    SendsPieces lens limit' c.copy frame walk loads (with_piece lists p)) →
    StreamCullPart lens limit (record c { frame = Some s }) taken sent gone →
    StreamCullPart lens limit (record c { piece = Some p; frame = frame; walk = walk }) taken sent gone
part_filled lens limit limit' c taken sent gone s p frame walk none is fills part =
    let loads = loads_in taken in
    let lists = piece_lists gone c.piece in
    let bare : lists ≡ lists_in gone =
    ap (λ (o : Option Cut). lists_in (gone ++ option_to_list o)) none ∙ ap lists_in (append-nil gone) in
    let more : piece_lists gone (Some p) ≡ with_piece lists p =
    lists_more gone p ∙ ap (λ (l : PieceLists). with_piece l p) (sym bare) in
    record {
      packets = part.packets;
      pieces =
          subst (SendsPieces lens limit c.copy frame walk loads) (sym more)
          (subst (λ (n : ℕ). SendsPieces lens n c.copy frame walk loads (with_piece lists p)) is
          (fills loads lists part.packets.copied
          (subst (λ (n : ℕ). SendsPieces lens n c.copy (Some s) c.walk loads lists) (sym is) part.pieces)));
      at_end = λ ends. absurd (not_there s (part.at_end ends));
    }

-- it takes a load, begins its frame, and holds it
pub part_taken : (lens : Lens) (limit : ℕ) (c : StreamCullState) (taken sent : List Packet) (gone : List Cut) (copy : CopyState) (old new : LoadState)
    (s : Sending) (frame : Option Sending) (walk : Walking) → c.ended ≡ false → c.held ≡ None → c.frame ≡ None → TakesUpdates c.copy copy old new →
    s.time ≡ old.cut.frame → s.views ≡ first_four old.cut.views → s.channel ≡ 0 →
    ((loads : List LoadState) (lists : PieceLists) → IsReadyToSend lens limit copy loads lists s → SendsPieces lens limit copy frame walk loads lists) →
    StreamCullPart lens limit c taken sent gone →
    StreamCullPart lens limit (record c { copy = copy; held = Some (Frame new); frame = frame; walk = walk }) (taken ++ Frame old ∷ []) sent gone
part_taken lens limit c taken sent gone copy old new s frame walk going bare none takes time views channel begins part =
    let packets = passes_takes c.copy copy c.ended c.held taken sent old new bare takes part.packets in
    let lists = piece_lists gone c.piece in
    record {
      packets = packets;
      pieces =
          begins (loads_in (taken ++ Frame old ∷ [])) lists
          (ready_came lens limit c.copy copy c.walk (loads_in taken) (loads_in (taken ++ Frame old ∷ [])) lists old s (loads_push taken old)
          time views channel packets.copied
          (subst (λ (f : Option Sending). SendsPieces lens limit c.copy f c.walk (loads_in taken) lists) none part.pieces));
      at_end = λ ends.
          absurd
          (not_true (has_end (taken ++ Frame old ∷ []))
          (has_end_push taken (Frame old)
          ∙ ap (λ (t : Bool). t || false) (no_end c.copy c.ended c.held taken sent bare going part.packets)) ends);
    }
