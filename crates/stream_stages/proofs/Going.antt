-- How the draw of the stream goes on.
use Rattle.std.proofs.Common.{◌≡◌, ℕ, ◌<◌, ◌≤◌, Bool, true, false, ◌||◌, List, [], ◌∷◌, ◌++◌, length, Option, Some, None, MatchOption, refl, sym, ap, ◌∙◌, subst, arith, append_assoc}
use Rattle.std.proofs.lemmas.List.{append-nil, length_push}
use Rattle.std.specs.List.{AllZip, flat_map}
use Rattle.std.specs.Option.{option_to_list}
use Rattle.fx_math.specs.declared.lenses.Lens.{Lens}
use Rattle.ppm_out.specs.Ppm.{ppm_bytes}
use Rattle.draw_list.specs.declared.stats.Stats.{Stats}
use Rattle.draw_list.specs.Lists.{instances_in}
use Rattle.depth_raster.specs.InPieces.{PieceWork, IsGlassLast}
use Rattle.stage_parts.specs.declared.packets.Packet.{Packet}
use Rattle.stage_parts.specs.declared.packets.Packet.TheVariants.{Frame, End}
use Rattle.stage_parts.specs.Loads.{LoadState}
use Rattle.stage_parts.specs.Packets.{has_end, loads_in}
use Rattle.stage_parts.specs.Parts.{sent_and_held}
use Rattle.stage_parts.proofs.Pushes.{loads_push, loads_end, has_end_push, passed_bare}
use Rattle.stream_stages.specs.Cuts.{Cut}
use Rattle.stream_stages.specs.declared.drawing.Drawing.{Drawing}
use Rattle.stream_stages.specs.PieceFrames.{PieceLists, lists_in, pieces_of, items_of, CanDrawInTurn, summed, channels_of, PieceFrame, frames_in, left_in, no_numbers}
use Rattle.stream_stages.specs.Drawing.{added as added_numbers, ShowsAll, ChangesOne, Puts, DrawsMore, EndsChannel, DrawsPiece}
use Rattle.stream_stages.specs.DrawParts.{StreamDrawState, IsDrawn, AreShownTo, IsDrawnTo, HasBegun, IsUnderway, IsBetween, StreamDrawPart}
use Rattle.stream_stages.specs.DrawSteps.{IsReadyFor}
use Rattle.stream_stages.proofs.Dealing.{lists_on, lists_end, dealt_on, left_over, one_short, one_full, one_full_left}
use Rattle.stream_stages.proofs.Exchanged.{shown_none, shown_more, bytes_are}
use Rattle.stream_stages.proofs.InTurn.{begun_more, last_is, summed_more}

zip_push : {A B : Type 0} (R : A → B → Type 0) (xs : List A) (ys : List B) (x : A) (y : B) → AllZip R xs ys → R x y →
    AllZip R (xs ++ x ∷ []) (ys ++ y ∷ [])
zip_push R [] [] x y all here = (here, tt)
zip_push R [] (z ∷ ys) x y all here = absurd all
zip_push R (z ∷ xs) [] x y all here = absurd all
zip_push R (z ∷ xs) (w ∷ ys) x y all here = (all.0, zip_push R xs ys x y all.1 here)

or_none : (t : Bool) → (t || false) ≡ t
or_none true = refl
or_none false = refl

or_true : (t : Bool) → (t || true) ≡ true
or_true true = refl
or_true false = refl

-- The last of some loads

record Last (loads : List LoadState) : Type 0 where
  before : List LoadState
  old : LoadState
  is : loads ≡ before ++ old ∷ []

last_of : (loads : List LoadState) → 0 < length loads → Last loads
last_of [] some = absurd (omega (arith, some))
last_of (l ∷ []) some = record { before = []; old = l; is = refl }
last_of (l ∷ m ∷ loads) some =
    let rest = last_of (m ∷ loads) (omega arith) in
    record { before = l ∷ rest.before; old = rest.old; is = ap (λ (ls : List LoadState). l ∷ ls) rest.is }

record IsSameEnd (xs ys : List LoadState) (x y : LoadState) : Type 0 where
  before : xs ≡ ys
  last : x ≡ y

head_is : (xs ys : List LoadState) (x y : LoadState) → x ∷ xs ≡ y ∷ ys → x ≡ y
head_is xs ys x y e = cc

tail_is : (xs ys : List LoadState) (x y : LoadState) → x ∷ xs ≡ y ∷ ys → xs ≡ ys
tail_is xs ys x y e = cc

same_end : (xs ys : List LoadState) (x y : LoadState) → xs ++ x ∷ [] ≡ ys ++ y ∷ [] → IsSameEnd xs ys x y
same_end [] [] x y e = record { before = refl; last = head_is [] [] x y e }
same_end [] (z ∷ ys) x y e =
    let many = ap length e in
    let push = length_push ys y in
    absurd (omega (arith, many, push))
same_end (z ∷ xs) [] x y e =
    let many = ap length e in
    let push = length_push xs x in
    absurd (omega (arith, many, push))
same_end (z ∷ xs) (w ∷ ys) x y e =
    let rest = same_end xs ys x y (tail_is (xs ++ x ∷ []) (ys ++ y ∷ []) z w e) in
    record { before = ap (λ (ls : List LoadState). z ∷ ls) rest.before ∙ ap (λ (l : LoadState). l ∷ ys) (head_is (xs ++ x ∷ []) (ys ++ y ∷ []) z w e); last = rest.last }

-- Sending and giving back

-- it gives back the piece that it holds
pub part_given : (lens : Lens) (back : List ℕ) (first : List Cut) (d : StreamDrawState) (taken sent : List Packet) (came gone gone' : List Cut) (p : Cut) →
    gone' ≡ gone ++ p ∷ [] → StreamDrawPart lens back first (record d { spent = Some p }) taken sent came gone →
    StreamDrawPart lens back first (record d { spent = None }) taken sent came gone'
part_given lens back first d taken sent came gone gone' p more part =
    record {
      drawn = part.drawn;
      ends = part.ends;
      ended = part.ended;
      back_again = append-nil gone' ∙ more ∙ part.back_again;
      frame = part.frame;
    }

-- it sends the packet that it holds
pub part_sent : (lens : Lens) (back : List ℕ) (first : List Cut) (d : StreamDrawState) (taken sent sent' : List Packet) (came gone : List Cut) (p : Packet) →
    sent' ≡ sent ++ p ∷ [] → StreamDrawPart lens back first (record d { held = Some p }) taken sent came gone →
    StreamDrawPart lens back first (record d { held = None }) taken sent' came gone
part_sent lens back first d taken sent sent' came gone p more part =
    let same : sent_and_held sent' None ≡ sent_and_held sent (Some p) = append-nil sent' ∙ more in
    record {
      drawn = subst (λ (ps : List Packet). AllZip (IsDrawn lens back) (frames_in (loads_in taken) (lists_in came).whole) (loads_in ps)) (sym same) part.drawn;
      ends = ap has_end same ∙ part.ends;
      ended = part.ended;
      back_again = part.back_again;
      frame = part.frame;
    }

-- it takes the End
pub part_ended : (lens : Lens) (back : List ℕ) (first : List Cut) (d : StreamDrawState) (taken taken' sent : List Packet) (came gone : List Cut) →
    d.frame ≡ None → taken' ≡ taken ++ End ∷ [] → StreamDrawPart lens back first d taken sent came gone →
    StreamDrawPart lens back first (record d { ended = true }) taken' sent came gone
part_ended lens back first d taken taken' sent came gone none more part =
    let same : loads_in taken' ≡ loads_in taken = ap loads_in more ∙ loads_end taken in
    record {
      drawn = subst (λ (ls : List LoadState). AllZip (IsDrawn lens back) (frames_in ls (lists_in came).whole) (loads_in (sent_and_held sent d.held)))
          (sym same) part.drawn;
      ends = part.ends;
      ended = sym (ap has_end more ∙ has_end_push taken End ∙ or_true (has_end taken));
      back_again = part.back_again;
      frame =
          subst
          (λ (ls : List LoadState).
          MatchOption d.frame (IsBetween ls (lists_in came) d.raster) (IsUnderway lens back ls (lists_in came) d.raster))
          (sym same) part.frame;
    }

-- Frames

between_of : (lens : Lens) (back : List ℕ) (loads : List LoadState) (lists : PieceLists) (raster : PieceWork) (frame : Option Drawing) →
    frame ≡ None → MatchOption frame (IsBetween loads lists raster) (IsUnderway lens back loads lists raster) → IsBetween loads lists raster
between_of lens back loads lists raster frame none part =
    subst (λ (f : Option Drawing). MatchOption f (IsBetween loads lists raster) (IsUnderway lens back loads lists raster)) none part

-- it takes a load, and is ready to go on with its frame
pub ready_taken : (lens : Lens) (back : List ℕ) (first : List Cut) (d : StreamDrawState) (taken taken' sent : List Packet) (came gone : List Cut) (l : LoadState)
    (f : Drawing) → d.frame ≡ None → d.held ≡ None → taken' ≡ taken ++ Frame l ∷ [] → f ≡ record { load = l; channel = 0; stats = no_numbers } →
    StreamDrawPart lens back first d taken sent came gone → IsReadyFor lens back d taken' sent (lists_in came) f
ready_taken lens back first d taken taken' sent came gone l f none bare more new part =
    let loads = loads_in taken in
    let lists = lists_in came in
    let between = between_of lens back loads lists d.raster d.frame none part.frame in
    let passed = passed_bare sent d.held bare in
    record {
      before = loads;
      old = l;
      loads = ap loads_in more ∙ loads_push taken l;
      drawn = subst (λ (ps : List Packet). AllZip (IsDrawn lens back) (frames_in loads lists.whole) (loads_in ps)) passed part.drawn;
      so_far = record {
        frames = between.frames;
        channel = ap (λ (g : Drawing). g.channel) new ∙ sym (ap length between.left);
        stats = ap (λ (g : Drawing). g.stats) new ∙ sym (ap summed between.left);
        load = ap (λ (g : Drawing). g.load) new ∙ sym (ap (λ (g : Drawing). record l { images = g.load.images }) new);
        images = subst (λ (g : Drawing). AreShownTo lens back (left_in loads lists.whole) (channels_of l) l.images g.load.images) (sym new)
            (subst (λ (ls : List (List Cut)). AreShownTo lens back ls (channels_of l) l.images l.images) (sym between.left)
            (shown_none lens back (channels_of l) l.images));
      };
      few = let first = ap (λ (g : Drawing). g.channel) new in omega (arith, first);
      begun = subst (HasBegun d.raster) (sym between.begun) (λ more last. between.drawn);
      over = λ past. between.begun;
      ends = ap has_end (sym passed) ∙ part.ends;
      ended = part.ended ∙ sym (ap has_end more ∙ has_end_push taken (Frame l) ∙ or_none (has_end taken));
    }

-- it goes on with a frame that has channels
pub part_on : (lens : Lens) (back : List ℕ) (first : List Cut) (d : StreamDrawState) (taken sent : List Packet) (came gone : List Cut) (f : Drawing) →
    d.held ≡ None → f.channel < channels_of f.load → IsReadyFor lens back d taken sent (lists_in came) f →
    gone ++ option_to_list d.spent ≡ first ++ came → StreamDrawPart lens back first (record d { frame = Some f }) taken sent came gone
part_on lens back first d taken sent came gone f bare more ready given =
    let whole = (lists_in came).whole in
    let so_far = ready.so_far in
    let passed = passed_bare sent d.held bare in
    let old_more : f.channel < channels_of ready.old = subst (λ (l : LoadState). f.channel < channels_of l) so_far.load more in
    let left = left_in ready.before whole in
    let few : length left < channels_of ready.old = omega (arith, old_more, so_far.channel) in
    let dealt = dealt_on ready.before ready.old whole so_far.frames in
    let same : frames_in (loads_in taken) whole ≡ frames_in ready.before whole =
    ap (λ (ls : List LoadState). frames_in ls whole) ready.loads ∙ dealt.frames
    ∙ ap (λ (fs : List PieceFrame). frames_in ready.before whole ++ fs) (one_short ready.old left few)
    ∙ append-nil (frames_in ready.before whole) in
    let many = ap length ready.loads in
    let push = length_push ready.before ready.old in
    record {
      drawn = subst (λ (fs : List PieceFrame). AllZip (IsDrawn lens back) fs (loads_in (sent_and_held sent d.held))) (sym same)
          (subst (λ (ps : List Packet). AllZip (IsDrawn lens back) (frames_in ready.before whole) (loads_in ps)) (sym passed) ready.drawn);
      ends = ap has_end passed ∙ ready.ends;
      ended = ready.ended;
      back_again = given;
      frame = record {
        some = omega (arith, many, push);
        last = λ before old is.
            let end = same_end ready.before before ready.old old (sym ready.loads ∙ is) in
            subst (λ (l : LoadState). IsDrawnTo lens back before l whole f) end.last
            (subst (λ (ls : List LoadState). IsDrawnTo lens back ls ready.old whole f) end.before so_far);
        begun = ready.begun;
      };
    }

-- it goes on with a frame of which no channel is left
pub part_over : (lens : Lens) (back : List ℕ) (first : List Cut) (d : StreamDrawState) (taken sent : List Packet) (came gone : List Cut) (f : Drawing)
    (new : LoadState) → d.frame ≡ None → channels_of f.load ≤ f.channel →
    new ≡ record f.load { stats = f.stats; bytes = flat_map ppm_bytes f.load.images } → IsReadyFor lens back d taken sent (lists_in came) f →
    gone ++ option_to_list d.spent ≡ first ++ came → StreamDrawPart lens back first (record d { held = Some (Frame new) }) taken sent came gone
part_over lens back first d taken sent came gone f new none past is ready given =
    let whole = (lists_in came).whole in
    let so_far = ready.so_far in
    let old = ready.old in
    let left = left_in ready.before whole in
    let old_past : channels_of old ≤ f.channel = subst (λ (l : LoadState). channels_of l ≤ f.channel) so_far.load past in
    let just : length left ≡ channels_of old = omega (arith, old_past, so_far.channel, ready.few) in
    let dealt = dealt_on ready.before old whole so_far.frames in
    let this : PieceFrame = record { load = old; lists = left } in
    let same : frames_in (loads_in taken) whole ≡ frames_in ready.before whole ++ this ∷ [] =
    ap (λ (ls : List LoadState). frames_in ls whole) ready.loads ∙ dealt.frames
    ∙ ap (λ (fs : List PieceFrame). frames_in ready.before whole ++ fs) (one_full old left just) in
    let made : IsDrawn lens back this new = record {
      cut = ap (λ (l : LoadState). l.cut) is ∙ ap (λ (l : LoadState). l.cut) so_far.load;
      stats = ap (λ (l : LoadState). l.stats) is ∙ so_far.stats;
      painted = λ are can. ap (λ (l : LoadState). l.bytes) is
          ∙ bytes_are lens back left (channels_of old) old.images f.load.images so_far.images just are can;
    } in
    record {
      drawn = subst (λ (fs : List PieceFrame). AllZip (IsDrawn lens back) fs (loads_in (sent ++ Frame new ∷ []))) (sym same)
          (subst (λ (ls : List LoadState). AllZip (IsDrawn lens back) (frames_in ready.before whole ++ this ∷ []) ls) (sym (loads_push sent new))
          (zip_push (IsDrawn lens back) (frames_in ready.before whole) (loads_in sent) this new ready.drawn made));
      ends = has_end_push sent (Frame new) ∙ ap (λ (t : Bool). t || false) ready.ends;
      ended = ready.ended;
      back_again = given;
      frame =
          subst (λ (g : Option Drawing). MatchOption g (IsBetween (loads_in taken) (lists_in came) d.raster) (IsUnderway lens back (loads_in taken) (lists_in came) d.raster))
          (sym none)
          (record {
            frames =
                let here = ap length same in
                let push = length_push (frames_in ready.before whole) this in
                let many = ap length ready.loads in
                let more = length_push ready.before old in
                omega (arith, here, push, many, more, so_far.frames);
            left = ap (λ (ls : List LoadState). left_in ls whole) ready.loads ∙ dealt.left ∙ one_full_left old left just;
            begun = ready.over old_past;
            drawn = (subst (HasBegun d.raster) (ready.over old_past) ready.begun) [] refl;
          });
    }

-- Drawing a piece

-- All frames before the one that is under way were sent.
sent_before : (lens : Lens) (back : List ℕ) (before : List LoadState) (old : LoadState) (loads : List LoadState) (whole : List (List Cut))
    (f : Drawing) (sent : List LoadState) → loads ≡ before ++ old ∷ [] → IsDrawnTo lens back before old whole f → f.channel < channels_of old →
    AllZip (IsDrawn lens back) (frames_in loads whole) sent → AllZip (IsDrawn lens back) (frames_in before whole) sent
sent_before lens back before old loads whole f sent is so_far more drawn =
    let left = left_in before whole in
    let few : length left < channels_of old = omega (arith, more, so_far.channel) in
    subst (λ (fs : List PieceFrame). AllZip (IsDrawn lens back) fs sent)
    (ap (λ (ls : List LoadState). frames_in ls whole) is ∙ (dealt_on before old whole so_far.frames).frames
    ∙ ap (λ (fs : List PieceFrame). frames_in before whole ++ fs) (one_short old left few) ∙ append-nil (frames_in before whole))
    drawn

-- The last piece of a list was drawn.
drawn_list : (lens : Lens) (back : List ℕ) (before : List LoadState) (old : LoadState) (lists : PieceLists) (p : Cut)
    (raster added after : PieceWork) (f g : Drawing) → IsDrawnTo lens back before old lists.whole f → HasBegun raster lists.begun →
    DrawsMore raster added (instances_in p.list) → EndsChannel lens back p.stats added after f g →
    IsDrawnTo lens back before old (lists.whole ++ (lists.begun ++ p ∷ []) ∷ []) g
drawn_list lens back before old lists p raster added after f g so_far begun draws ends =
    let list = lists.begun ++ p ∷ [] in
    let left = left_in before lists.whole in
    let over = left_over before lists.whole list so_far.frames in
    let push = length_push left list in
    let here : HasBegun added list = begun_more raster added lists.begun p begun draws in
    let puts : CanDrawInTurn (items_of list) → Puts lens (length left) f.load.images g.load.images (ShowsAll lens back (items_of list)) =
    λ can.
    subst (λ (n : ℕ). Puts lens n f.load.images g.load.images (ShowsAll lens back (items_of list))) so_far.channel
    (ends.shown (pieces_of list) (here [] (subst IsGlassLast (sym (append-nil (items_of list))) can.last)) can.order) in
    record {
      frames = ap length over.frames ∙ so_far.frames;
      channel = omega (arith, ends.channel, so_far.channel, push, ap length over.left);
      stats =
          ends.numbers ∙ ap (λ (s : Stats). added_numbers s p.stats) so_far.stats
          ∙ ap (λ (s : Stats). added_numbers (summed left) s) (sym (last_is lists.begun p)) ∙ sym (summed_more left list)
          ∙ sym (ap summed over.left);
      load = ends.load ∙ ap (λ (l : LoadState). record l { images = g.load.images }) so_far.load;
      images =
          subst (λ (ls : List (List Cut)). AreShownTo lens back ls (channels_of old) old.images g.load.images) (sym over.left)
          (shown_more lens back left list (channels_of old) old.images f.load.images g.load.images so_far.images
          (subst (λ (n : ℕ). ChangesOne n f.load.images g.load.images) so_far.channel ends.images) puts);
    }

-- it draws a piece that came, and is ready to go on
pub ready_drawn : (lens : Lens) (back : List ℕ) (first : List Cut) (d : StreamDrawState) (raster : PieceWork) (taken sent : List Packet) (came came' gone : List Cut)
    (p : Cut) (f g : Drawing) → d.held ≡ None → f.channel < channels_of f.load → d.raster.lens ≡ lens → d.raster.back ≡ back →
    came' ≡ came ++ p ∷ [] → DrawsPiece p d.raster raster f g → StreamDrawPart lens back first (record d { frame = Some f }) taken sent came gone →
    IsReadyFor lens back (record d { frame = None; spent = Some p; raster = raster }) taken sent (lists_in came') g
ready_drawn lens back first d raster taken sent came came' gone p f g bare more of_lens of_back next draws part =
    by p.last refl
  where
    ready : PieceLists → Type 0
    ready lists = IsReadyFor lens back (record d { frame = None; spent = Some p; raster = raster }) taken sent lists g

    last : Last (loads_in taken)
    last = last_of (loads_in taken) part.frame.some

    so_far : IsDrawnTo lens back last.before last.old (lists_in came).whole f
    so_far = part.frame.last last.before last.old last.is

    old_more : f.channel < channels_of last.old
    old_more = subst (λ (l : LoadState). f.channel < channels_of l) so_far.load more

    passed : sent_and_held sent d.held ≡ sent
    passed = passed_bare sent d.held bare

    drawn : AllZip (IsDrawn lens back) (frames_in last.before (lists_in came).whole) (loads_in sent)
    drawn =
        sent_before lens back last.before last.old (loads_in taken) (lists_in came).whole f (loads_in sent) last.is so_far old_more
        (subst (λ (ps : List Packet). AllZip (IsDrawn lens back) (frames_in (loads_in taken) (lists_in came).whole) (loads_in ps)) passed part.drawn)

    by : (t : Bool) → p.last ≡ t → ready (lists_in came')
    by false mark =
        let same = draws.more mark in
        subst ready (sym (ap lists_in next ∙ lists_on came p mark))
        (record {
          before = last.before;
          old = last.old;
          loads = last.is;
          drawn = drawn;
          so_far = subst (λ (h : Drawing). IsDrawnTo lens back last.before last.old (lists_in came).whole h) (sym same.0) so_far;
          few = let channel = ap (λ (h : Drawing). h.channel) same.0 in omega (arith, channel, old_more);
          begun = subst (λ (r : PieceWork). HasBegun r ((lists_in came).begun ++ p ∷ [])) (sym same.1)
              (begun_more d.raster draws.added (lists_in came).begun p part.frame.begun draws.draws);
          over = λ past. absurd (let channel = ap (λ (h : Drawing). h.channel) same.0 in omega (arith, channel, old_more, past));
          ends = ap has_end (sym passed) ∙ part.ends;
          ended = part.ended;
        })
    by true mark =
        let ends : EndsChannel lens back p.stats draws.added raster f g =
        subst (λ (b : List ℕ). EndsChannel lens b p.stats draws.added raster f g) of_back
        (subst (λ (l : Lens). EndsChannel l d.raster.back p.stats draws.added raster f g) of_lens (draws.ends mark)) in
        let over = left_over last.before (lists_in came).whole ((lists_in came).begun ++ p ∷ []) so_far.frames in
        subst ready (sym (ap lists_in next ∙ lists_end came p mark))
        (record {
          before = last.before;
          old = last.old;
          loads = last.is;
          drawn = subst (λ (fs : List PieceFrame). AllZip (IsDrawn lens back) fs (loads_in sent)) (sym over.frames) drawn;
          so_far = drawn_list lens back last.before last.old (lists_in came) p d.raster draws.added raster f g so_far part.frame.begun draws.draws ends;
          few = omega (arith, ends.channel, old_more);
          begun = λ xs at_end. ends.drawn;
          over = λ past. refl;
          ends = ap has_end (sym passed) ∙ part.ends;
          ended = part.ended;
        })

-- the piece that came is held to be given back
pub held_back : (first came came' gone : List Cut) (spent : Option Cut) (p : Cut) → spent ≡ None → came' ≡ came ++ p ∷ [] →
    gone ++ option_to_list spent ≡ first ++ came → gone ++ option_to_list (Some p) ≡ first ++ came'
held_back first came came' gone spent p none next given =
    let same : gone ≡ first ++ came = sym (append-nil gone) ∙ ap (λ (o : Option Cut). gone ++ option_to_list o) (sym none) ∙ given in
    ap (λ (ps : List Cut). ps ++ p ∷ []) same ∙ append_assoc first came (p ∷ []) ∙ ap (λ (ps : List Cut). first ++ ps) (sym next)
