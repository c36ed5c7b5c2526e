-- Images that are exchanged, channel by channel.
use Rattle.std.proofs.Common.{◌≡◌, ◌⊎◌, ℕ, zero, suc, ◌+◌, ◌==◌, ◌&&◌, Bool, true, false, if◌then◌else◌, eqb-true, List, [], ◌∷◌, ◌++◌, length, slice_get, get_or, Option, Some, refl, sym, ap, ◌∙◌, subst, arith, inl, inr}
use Rattle.std.proofs.lemmas.Option.{same_Some, slice_get_within, slice_get-get_or}
use Rattle.std.proofs.lemmas.List.{length_push}
use Rattle.std.proofs.lemmas.Bool.Decides.{nat_tests}
use Rattle.std.specs.Prelude.{slice_index_or, slice_set}
use Rattle.std.specs.Option.{option_map_or}
use Rattle.std.specs.List.{AllByRecursion, flat_map}
use Rattle.fx_math.specs.declared.lenses.Lens.{Lens}
use Rattle.ppm_out.specs.Pixmap.{Pixmap, Shows}
use Rattle.ppm_out.specs.Ppm.{ppm_bytes, picture_bytes}
use Rattle.ppm_out.proofs.Pictures.{ppm_bytes-shown}
use Rattle.pf_model.specs.Walks.{Instance}
use Rattle.tri_cover.specs.Picture.{picture}
use Rattle.draw_list.specs.declared.stats.Stats.{Stats}
use Rattle.depth_raster.specs.InPieces.{PieceWork, HasDrawn, joined, glass_in_turn, IsGlassInOrder}
use Rattle.stage_parts.specs.Loads.{LoadState, IsOfSize, AreImages, have_one_size, can_swap}
use Rattle.stage_parts.specs.Pictures.{picture_of_list}
use Rattle.stage_parts.proofs.Pushes.{get_push}
use Rattle.stream_stages.specs.Cuts.{Cut}
use Rattle.stream_stages.specs.PieceFrames.{items_of, CanDrawInTurn}
use Rattle.stream_stages.specs.declared.drawing.Drawing.{Drawing}
use Rattle.stream_stages.specs.Drawing.{added, ShowsAll, ChangesOne, Puts, EndsChannel}
use Rattle.stream_stages.specs.DrawParts.{AreShownTo}

both : (a b : Bool) → (a && b) ≡ true → (a ≡ true) × (b ≡ true)
both true b e = (refl, e)
both false b e = absurd (cc)

true_false : true ≡ false → ⊥
true_false e = absurd (cc)

eqb-same : (n m : ℕ) → n ≡ m → (n == m) ≡ true
eqb-same n m same = grind (arith, nat_tests, same)

-- an image that is put at a place
get_here : (images : List Pixmap) (i : ℕ) (image there new : Pixmap) → slice_get images i ≡ Some there →
    slice_get (slice_set images i image) i ≡ Some new → image ≡ new
get_here [] i image there new stands at = absurd (cc)
get_here (x ∷ images) zero image there new stands at = same_Some image new at
get_here (x ∷ images) (suc i) image there new stands at = get_here images i image there new stands at

get_else : (images : List Pixmap) (i j : ℕ) (image : Pixmap) → (j ≡ i → ⊥) → slice_get (slice_set images i image) j ≡ slice_get images j
get_else [] i j image other = refl
get_else (x ∷ images) zero zero image other = absurd (other refl)
get_else (x ∷ images) zero (suc j) image other = refl
get_else (x ∷ images) (suc i) zero image other = refl
get_else (x ∷ images) (suc i) (suc j) image other = get_else images i j image (λ e. other (ap suc e))

set_length : (images : List Pixmap) (i : ℕ) (image : Pixmap) → length (slice_set images i image) ≡ length images
set_length [] i image = refl
set_length (x ∷ images) zero image = refl
set_length (x ∷ images) (suc i) image = ap suc (set_length images i image)

-- an image of the lens's size can be exchanged with another one
sized : (lens : Lens) (a b : Pixmap) → IsOfSize lens a → IsOfSize lens b → have_one_size a b ≡ true
sized lens a b of_a of_b =
    ap (λ t. t && (a.height == b.height)) (eqb-same a.width b.width (of_a.width ∙ sym of_b.width))
    ∙ eqb-same a.height b.height (of_a.height ∙ sym of_b.height)

-- what comes back of an exchange has the lens's size
pub swapped_size : (lens : Lens) (images : List Pixmap) (i : ℕ) (image back : Pixmap) (swapped : Bool) → IsOfSize lens image →
    swapped ≡ can_swap images i image → back ≡ (if swapped then slice_index_or images i image else image) → IsOfSize lens back
swapped_size lens images i image back false of_size can is = subst (λ (x : Pixmap). IsOfSize lens x) (sym is) of_size
swapped_size lens [] i image back true of_size can is = absurd (true_false can)
swapped_size lens (x ∷ images) zero image back true of_size can is =
    let sizes = both (image.width == x.width) (image.height == x.height) (sym can) in
    record {
      width = ap (λ (p : Pixmap). p.width) is ∙ sym (eqb-true image.width x.width sizes.0) ∙ of_size.width;
      height = ap (λ (p : Pixmap). p.height) is ∙ sym (eqb-true image.height x.height sizes.1) ∙ of_size.height;
    }
swapped_size lens (x ∷ images) (suc i) image back true of_size can is = swapped_size lens images i image back true of_size can is

-- an exchange changes at most one image
pub changes_one : (channel : ℕ) (before after : List Pixmap) (image : Pixmap) (swapped : Bool) →
    after ≡ (if swapped then slice_set before channel image else before) → ChangesOne channel before after
changes_one channel before after image true is =
    record {
      many = ap length is ∙ set_length before channel image;
      others = λ i other. ap (λ (xs : List Pixmap). slice_get xs i) is ∙ get_else before channel i image other;
    }
changes_one channel before after image false is =
    record { many = ap length is; others = λ i other. ap (λ (xs : List Pixmap). slice_get xs i) is }

-- and puts the image in, where the one in its place had the lens's size too
pub puts_one : (lens : Lens) (channel : ℕ) (before after : List Pixmap) (image : Pixmap) (swapped : Bool) (P : Pixmap → Type 0) →
    IsOfSize lens image → P image → swapped ≡ can_swap before channel image →
    after ≡ (if swapped then slice_set before channel image else before) → Puts lens channel before after P
puts_one lens channel before after image true P of_size here can is old new stood old_size at =
    subst P (get_here before channel image old new stood (sym (ap (λ (xs : List Pixmap). slice_get xs channel) is) ∙ at)) here
puts_one lens channel before after image false P of_size here can is old new stood old_size at =
    absurd (true_false (sym (sized lens image old of_size old_size)
    ∙ sym (ap (λ (o : Option Pixmap). option_map_or (have_one_size image) o false) stood) ∙ sym can))

-- A channel ends as its picture is exchanged with the channel's image.
pub channel_ended : (lens : Lens) (back : List ℕ) (stats : Stats) (before after : PieceWork) (old new : Drawing) (image : Pixmap)
    (swapped : Bool) → HasDrawn after [] [] → new.channel ≡ old.channel + 1 → new.stats ≡ added old.stats stats → IsOfSize lens image →
    ((pieces : List (List Instance)) → HasDrawn before (joined pieces) (glass_in_turn pieces) → IsGlassInOrder (joined pieces) →
    Shows image (picture lens back (joined pieces))) → swapped ≡ can_swap old.load.images old.channel image →
    new.load ≡ record old.load { images = if swapped then slice_set old.load.images old.channel image else old.load.images } →
    EndsChannel lens back stats before after old new
channel_ended lens back stats before after old new image swapped drawn channel numbers of_size pixels can is =
    let images = ap (λ (l : LoadState). l.images) is in
    record {
      drawn = drawn;
      channel = channel;
      numbers = numbers;
      load = is ∙ ap (λ (xs : List Pixmap). record old.load { images = xs }) (sym images);
      images = changes_one old.channel old.load.images new.load.images image swapped images;
      shown = λ pieces had order.
          puts_one lens old.channel old.load.images new.load.images image swapped (ShowsAll lens back (joined pieces)) of_size
          (record { size = of_size; pixels = pixels pieces had order }) can images;
    }

-- Before the first list none is shown.
pub shown_none : (lens : Lens) (back : List ℕ) (channels : ℕ) (images : List Pixmap) → AreShownTo lens back [] channels images images
shown_none lens back channels images =
    record { many = refl; behind = λ i l. refl; shown = λ are i ps image at_list at_image can. absurd (cc) }

-- One list more is shown.
pub shown_more : (lens : Lens) (back : List ℕ) (lists : List (List Cut)) (ps : List Cut) (channels : ℕ) (first before after : List Pixmap) →
    AreShownTo lens back lists channels first before → ChangesOne (length lists) before after →
    (CanDrawInTurn (items_of ps) → Puts lens (length lists) before after (ShowsAll lens back (items_of ps))) →
    AreShownTo lens back (lists ++ ps ∷ []) channels first after
shown_more lens back lists ps channels first before after old changes puts =
    record {
      many = changes.many ∙ old.many;
      behind = λ i l.
          let longer = length_push lists ps in
          changes.others i (λ same. omega (arith, l, same, longer)) ∙ old.behind i (omega (arith, l, longer));
      shown = λ are i qs image at_list at_image can. at_place are i qs image at_image can (get_push lists ps i qs at_list);
    }
  where
    here : AreImages lens channels first → (image : Pixmap) → slice_get after (length lists) ≡ Some image → CanDrawInTurn (items_of ps) →
        ShowsAll lens back (items_of ps) image
    here are image at_image can =
        let n = length lists in
        let there = get_or before n image in
        let stands : slice_get before n ≡ Some there =
        slice_get-get_or before n image (let within = slice_get_within after n image at_image in omega (arith, within, changes.many)) in
        puts can there image stands (are.sized n there (sym (old.behind n (omega arith)) ∙ stands)) at_image

    at_place : AreImages lens channels first → (i : ℕ) (qs : List Cut) (image : Pixmap) → slice_get after i ≡ Some image →
        CanDrawInTurn (items_of qs) → (slice_get lists i ≡ Some qs) ⊎ ((i ≡ length lists) × (ps ≡ qs)) → ShowsAll lens back (items_of qs) image
    at_place are i qs image at_image can (inl there) =
        let below = slice_get_within lists i qs there in
        old.shown are i qs image there (sym (changes.others i (λ same. omega (arith, below, same))) ∙ at_image) can
    at_place are i qs image at_image can (inr last) =
        subst (λ (xs : List Cut). ShowsAll lens back (items_of xs) image) last.1
        (here are image (ap (slice_get after) (sym last.0) ∙ at_image) (subst (λ (xs : List Cut). CanDrawInTurn (items_of xs)) (sym last.1) can))

-- The bytes of images that show lists, place by place.
bytes_shown : (lens : Lens) (back : List ℕ) (lists : List (List Cut)) (images : List Pixmap) → length images ≡ length lists →
    ((i : ℕ) (ps : List Cut) (image : Pixmap) → slice_get lists i ≡ Some ps → slice_get images i ≡ Some image →
    ShowsAll lens back (items_of ps) image) → flat_map ppm_bytes images ≡ flat_map (λ ps. picture_of_list lens back (items_of ps)) lists
bytes_shown lens back [] [] many shown = refl
bytes_shown lens back [] (x ∷ images) many shown = absurd (omega (arith, many))
bytes_shown lens back (ps ∷ lists) [] many shown = absurd (omega (arith, many))
bytes_shown lens back (ps ∷ lists) (x ∷ images) many shown =
    let here = shown 0 ps x refl refl in
    let rest = bytes_shown lens back lists images (omega (arith, many)) (λ i qs image at_list at_image. shown (suc i) qs image at_list at_image) in
    let colours = picture lens back (items_of ps) in
    let one : ppm_bytes x ≡ picture_of_list lens back (items_of ps) =
    ppm_bytes-shown x colours here.pixels
    ∙ ap (λ w. picture_bytes w x.height colours) here.size.width ∙ ap (λ h. picture_bytes lens.w h colours) here.size.height in
    ap (λ (bytes : List ℕ). bytes ++ flat_map ppm_bytes images) one
    ∙ ap (λ (bytes : List ℕ). picture_of_list lens back (items_of ps) ++ bytes) rest

all_get : {X : Type 0} (P : X → Type 0) (xs : List X) (i : ℕ) (x : X) → AllByRecursion P xs → slice_get xs i ≡ Some x → P x
all_get P [] i x all at = absurd (cc)
all_get P (y ∷ xs) zero x all at = subst P (same_Some y x at) all.0
all_get P (y ∷ xs) (suc i) x all at = all_get P xs i x all.1 at

pub bytes_are : (lens : Lens) (back : List ℕ) (lists : List (List Cut)) (channels : ℕ) (first after : List Pixmap) →
    AreShownTo lens back lists channels first after → length lists ≡ channels → AreImages lens channels first →
    AllByRecursion (λ ps. CanDrawInTurn (items_of ps)) lists →
    flat_map ppm_bytes after ≡ flat_map (λ ps. picture_of_list lens back (items_of ps)) lists
bytes_are lens back lists channels first after shown many are can =
    bytes_shown lens back lists after (shown.many ∙ are.many ∙ sym many)
    (λ i ps image at_list at_image.
    shown.shown are i ps image at_list at_image (all_get (λ (qs : List Cut). CanDrawInTurn (items_of qs)) lists i ps can at_list))

-- the same of a renderer for this lens and background, and of these numbers
pub ended_for : (lens : Lens) (back : List ℕ) (stats stats' : Stats) (before after : PieceWork) (old new : Drawing) → before.lens ≡ lens →
    before.back ≡ back → stats ≡ stats' → EndsChannel before.lens before.back stats before after old new →
    EndsChannel lens back stats' before after old new
ended_for lens back stats stats' before after old new of_lens of_back same ends =
    subst (λ (s : Stats). EndsChannel lens back s before after old new) same
    (subst (λ (b : List ℕ). EndsChannel lens b stats before after old new) of_back
    (subst (λ (l : Lens). EndsChannel l before.back stats before after old new) of_lens ends))
