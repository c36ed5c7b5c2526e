-- A frame whose pieces are all there, as an ordinary load.
use Rattle.std.proofs.Common.{◌≡◌, ◌∙◌, ℕ, zero, suc, ◌≤◌, List, [], ◌∷◌, ◌++◌, map, length, slice_get, Some, refl, ap, subst, arith}
use Rattle.std.proofs.Math.Nat.{min-eq_left}
use Rattle.std.specs.List.{AllByRecursion, AllZip, flat_map}
use Rattle.std.proofs.lemmas.List.{length-map}
use Rattle.fx_math.specs.declared.lenses.Lens.{Lens}
use Rattle.pf_model.specs.Angles.{Viewpoint}
use Rattle.pf_model.specs.Graphs.{Look}
use Rattle.pf_model.specs.Limits.{KeepsLimits}
use Rattle.draw_list.specs.declared.stats.Stats.{Stats}
use Rattle.draw_list.specs.Lists.{instances_in}
use Rattle.draw_list.specs.Shown.{draw_list, stats_of}
use Rattle.stage_parts.specs.Loads.{LoadState, AreImages}
use Rattle.stage_parts.specs.Pictures.{picture_of_list, painted, sums}
use Rattle.stage_parts.specs.Parts.{nameless, IsCulled, kept}
use Rattle.stage_parts.proofs.Places.{get_length, each_all, map_map}
use Rattle.stream_stages.specs.Cuts.{Cut}
use Rattle.stream_stages.specs.PieceFrames.{items_of, CanDrawInTurn, last_numbers, capped, summed, channels_of, PieceFrame}
use Rattle.stream_stages.specs.CullParts.{IsListOf, AreListsOf}
use Rattle.stream_stages.specs.DrawParts.{IsDrawn}
use Rattle.stream_stages.proofs.Channels.{RightPieces, whole_list, whole_draws, whole_picture, whole_in_turn}
use Rattle.stream_stages.proofs.FrameNumbers.{sums_kept}

-- the load with its lists of pieces as ordinary draw lists, and with the numbers of the frame
abbrev pub whole_load : PieceFrame → LoadState
whole_load f = record f.load { lists = map whole_list f.lists; stats = summed f.lists }

-- What an ordinary cull makes

-- two lists that look alike place by place
alike : {X Y Z : Type 0} (f : X → Z) (g : Y → Z) (xs : List X) (ys : List Y) → length xs ≡ length ys →
    ((j : ℕ) (x : X) (y : Y) → slice_get xs j ≡ Some x → slice_get ys j ≡ Some y → f x ≡ g y) → map f xs ≡ map g ys
alike f g [] [] many each = refl
alike f g [] (y ∷ ys) many each = absurd (omega (arith, many))
alike f g (x ∷ xs) [] many each = absurd (omega (arith, many))
alike f g (x ∷ xs) (y ∷ ys) many each = λ i.
    each 0 x y refl refl i ∷ alike f g xs ys (omega (arith, many)) (λ j u v at_x at_y. each (suc j) u v at_x at_y) i

pub whole_culled : RightPieces → (lens : Lens) (limit : ℕ) (look : Look) → KeepsLimits look →
    (old : LoadState) (f : PieceFrame) →
    length old.cut.views ≤ 4 → length f.lists ≡ channels_of old → AreListsOf lens limit look old f.lists →
    IsCulled lens look old.cut (whole_load f)
whole_culled law lens limit look limits old f few many right = record {
  lists =
      map_map whole_list instances_in f.lists
      ∙ alike (λ (ps : List Cut). instances_in (whole_list ps))
      (λ (v : Viewpoint). map nameless (draw_list look time v lens)) f.lists views all
      (λ j ps v at at_view. whole_draws law look time v lens limit ps (right j v ps at_view at).pieces);
  stats =
      ap (λ (ss : List Stats). capped (sums ss))
      (alike last_numbers (λ (v : Viewpoint). stats_of look time v lens) f.lists views all
      (λ j ps v at at_view. (right j v ps at_view at).numbers))
      ∙ sums_kept look time lens views limits few;
}
  where
    time : ℕ
    time = old.cut.frame

    views : List Viewpoint
    views = old.cut.views

    all : length f.lists ≡ length views
    all = many ∙ min-eq_left few

-- What an ordinary draw makes

-- a list is right for some view
abbrev IsRight : Lens → (limit : ℕ) → Look → (time : ℕ) → List Cut → Type 0
IsRight lens limit look time ps = (v : Viewpoint) × IsListOf lens limit look time v ps

-- each of the lists is right
abbrev pub AreRight : Lens → (limit : ℕ) → Look → (time : ℕ) → List (List Cut) → Type 0
AreRight lens limit look time lists = AllByRecursion (IsRight lens limit look time) lists

get_there : {X : Type 0} (xs : List X) (i : ℕ) → suc i ≤ length xs → (x : X) × (slice_get xs i ≡ Some x)
get_there [] i l = absurd (omega (arith, l))
get_there (x ∷ xs) zero l = (x, refl)
get_there (y ∷ xs) (suc i) l = get_there xs i (omega (arith, l))

pub all_right : (lens : Lens) (limit : ℕ) (look : Look) (l : LoadState) (lists : List (List Cut)) →
    length lists ≡ channels_of l →
    AreListsOf lens limit look l lists → AreRight lens limit look l.cut.frame lists
all_right lens limit look l lists many right =
    each_all (IsRight lens limit look l.cut.frame) lists
    (λ i ps at.
    let v = get_there l.cut.views i (omega (arith, many, get_length lists i ps at)) in
    (v.0, right i v.0 ps v.1 at))

in_turn : (lens : Lens) (limit : ℕ) (look : Look) (time : ℕ) (lists : List (List Cut)) →
    AreRight lens limit look time lists →
    AllByRecursion (λ ps. CanDrawInTurn (items_of ps)) lists
in_turn lens limit look time [] right = tt
in_turn lens limit look time (ps ∷ lists) right =
    (whole_in_turn limit _ ps right.0.1.pieces, in_turn lens limit look time lists right.1)

pictures_kept : RightPieces →
    (lens : Lens) (back : List ℕ) (limit : ℕ) (look : Look) (time : ℕ) (lists : List (List Cut)) →
    AreRight lens limit look time lists →
    flat_map (λ ps. picture_of_list lens back (items_of ps)) lists ≡ painted lens back (map whole_list lists)
pictures_kept law lens back limit look time [] right = refl
pictures_kept law lens back limit look time (ps ∷ lists) right = λ i.
    whole_picture law look time right.0.0 lens back limit ps right.0.1.pieces i
    ++ pictures_kept law lens back limit look time lists right.1 i

-- what was drawn of the frame is what is painted of the ordinary load
pub whole_painted : RightPieces →
    (lens : Lens) (back : List ℕ) (limit : ℕ) (look : Look) (time : ℕ) (f : PieceFrame) (new : LoadState) →
    length f.lists ≡ channels_of f.load → AreRight lens limit look time f.lists → IsDrawn lens back f new →
    AreImages lens (length (whole_load f).lists) (whole_load f).images →
    new.bytes ≡ painted lens back (whole_load f).lists
whole_painted law lens back limit look time f new many right drawn sized =
    drawn.painted (subst (λ (k : ℕ). AreImages lens k f.load.images) (length-map f.lists whole_list ∙ many) sized)
    (in_turn lens limit look time f.lists right)
    ∙ pictures_kept law lens back limit look time f.lists right

-- the cuts and the numbers that were drawn
pub whole_kept : (lens : Lens) (back : List ℕ) (fs : List PieceFrame) (ls : List LoadState) →
    AllZip (IsDrawn lens back) fs ls →
    map kept ls ≡ map kept (map whole_load fs)
whole_kept lens back [] [] all = refl
whole_kept lens back [] (l ∷ ls) all = absurd all
whole_kept lens back (f ∷ fs) [] all = absurd all
whole_kept lens back (f ∷ fs) (l ∷ ls) all =
    λ i. record { cut = all.0.cut i; stats = all.0.stats i } ∷ whole_kept lens back fs ls all.1 i
