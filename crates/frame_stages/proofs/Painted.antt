-- Loads whose pictures are drawn channel by channel.
use Rattle.std.proofs.Common.{◌≡◌, ◌⊎◌, ℕ, zero, suc, ◌+◌, ◌<◌, ◌==◌, ◌&&◌, Bool, true, false, if◌then◌else◌, eqb-true, List, [], ◌∷◌, length, slice_get, get_or, Option, Some, refl, sym, ap, ◌∙◌, subst, arith, inl, inr}
use Rattle.std.proofs.lemmas.Option.{same_Some, slice_get_within, slice_get-get_or}
use Rattle.std.proofs.lemmas.Bool.Decides.{nat_tests}
use Rattle.std.specs.Prelude.{slice_index_or, slice_set}
use Rattle.std.specs.Option.{option_map_or}
use Rattle.std.specs.List.{flat_map}
use Rattle.fx_math.specs.declared.lenses.Lens.{Lens}
use Rattle.ppm_out.specs.Pixmap.{Pixmap}
use Rattle.ppm_out.specs.Ppm.{ppm_bytes}
use Rattle.draw_list.specs.Lists.{Drawables}
use Rattle.stage_parts.specs.Loads.{LoadState, IsOfSize, AreImages, have_one_size, can_swap}
use Rattle.stage_parts.specs.Laws.{IsShown}
use Rattle.stage_parts.specs.Parts.{kept}
use Rattle.stage_parts.specs.Steps.{Draws}
use Rattle.stage_parts.proofs.Shown.{painted_law}
use Rattle.frame_stages.specs.Painting.{IsPainted, ArePaintedTo}

both : (a b : Bool) → (a && b) ≡ true → (a ≡ true) × (b ≡ true)
both true b e = (refl, e)
both false b e = absurd (cc)

true_false : true ≡ false → ⊥
true_false e = absurd (cc)

eqb-same : (n m : ℕ) → n ≡ m → (n == m) ≡ true
eqb-same n m same = grind (arith, nat_tests, same)

-- a place before the next one is before this one, or is it
split : (i n : ℕ) → i < n + 1 → (i < n) ⊎ (i ≡ n)
split zero zero below = inr refl
split zero (suc n) below = inl (omega arith)
split (suc i) zero below = absurd (omega (arith, below))
split (suc i) (suc n) below = next (split i n (omega (arith, below)))
  where
    next : (i < n) ⊎ (i ≡ n) → (suc i < suc n) ⊎ (suc i ≡ suc n)
    next (inl l) = inl (omega (arith, l))
    next (inr e) = inr (ap suc e)

-- before the first channel nothing is drawn
pub painted_none : (lens : Lens) (back : List ℕ) (lists : List Drawables) (images : List Pixmap) → ArePaintedTo lens back lists 0 images images
painted_none lens back lists images =
    record { many = refl; behind = λ i l. refl; shown = λ are i image d below at_image at_list. absurd (omega (arith, below)) }

-- one more channel is drawn
pub painted_more : (lens : Lens) (back : List ℕ) (lists : List Drawables) (n : ℕ) (first before after : List Pixmap) →
    ArePaintedTo lens back lists n first before → IsPainted lens back lists n before after → ArePaintedTo lens back lists (n + 1) first after
painted_more lens back lists n first before after old new =
    record {
      many = new.many ∙ old.many;
      behind = λ i l. new.others i (λ same. omega (arith, l, same)) ∙ old.behind i (omega (arith, l));
      shown = shown;
    }
  where
    here : AreImages lens (length lists) first → (image : Pixmap) (d : Drawables) → slice_get after n ≡ Some image → slice_get lists n ≡ Some d →
        IsShown lens back image d
    here are image d at_image at_list =
        let there = get_or before n image in
        let stands : slice_get before n ≡ Some there =
        slice_get-get_or before n image (let within = slice_get_within after n image at_image in omega (arith, within, new.many)) in
        new.shown there image d stands (are.sized n there (sym (old.behind n (omega arith)) ∙ stands)) at_image at_list

    at_place : AreImages lens (length lists) first → (i : ℕ) (image : Pixmap) (d : Drawables) → (i < n) ⊎ (i ≡ n) →
        slice_get after i ≡ Some image → slice_get lists i ≡ Some d → IsShown lens back image d
    at_place are i image d (inl below) at_image at_list =
        old.shown are i image d below (sym (new.others i (λ same. omega (arith, below, same))) ∙ at_image) at_list
    at_place are i image d (inr same) at_image at_list =
        here are image d (ap (slice_get after) (sym same) ∙ at_image) (ap (slice_get lists) (sym same) ∙ at_list)

    shown : AreImages lens (length lists) first → (i : ℕ) (image : Pixmap) (d : Drawables) → i < n + 1 →
        slice_get after i ≡ Some image → slice_get lists i ≡ Some d → IsShown lens back image d
    shown are i image d below = at_place are i image d (split i n below)

-- an image that is put at a place
get_here : (images : List Pixmap) (i : ℕ) (image there new : Pixmap) → slice_get images i ≡ Some there →
    slice_get (slice_set images i image) i ≡ Some new → image ≡ new
get_here [] i image there new stands at = absurd (cc)
get_here (x ∷ images) zero image there new stands at = same_Some image new at
get_here (x ∷ images) (suc i) image there new stands at = get_here images i image there new stands at

get_else : (images : List Pixmap) (i j : ℕ) (image : Pixmap) → (j ≡ i → ⊥) → slice_get (slice_set images i image) j ≡ slice_get images j
get_else [] i j image other = refl
get_else (x ∷ images) zero zero image other = absurd (other refl)
get_else (x ∷ images) zero (suc j) image other = refl
get_else (x ∷ images) (suc i) zero image other = refl
get_else (x ∷ images) (suc i) (suc j) image other = get_else images i j image (λ e. other (ap suc e))

set_length : (images : List Pixmap) (i : ℕ) (image : Pixmap) → length (slice_set images i image) ≡ length images
set_length [] i image = refl
set_length (x ∷ images) zero image = refl
set_length (x ∷ images) (suc i) image = ap suc (set_length images i image)

-- an image of the lens's size can be exchanged with another one
sized : (lens : Lens) (a b : Pixmap) → IsOfSize lens a → IsOfSize lens b → have_one_size a b ≡ true
sized lens a b of_a of_b =
    ap (λ t. t && (a.height == b.height)) (eqb-same a.width b.width (of_a.width ∙ sym of_b.width))
    ∙ eqb-same a.height b.height (of_a.height ∙ sym of_b.height)

-- the image of a channel after an exchange with a drawn one
pub painted_channel : (lens : Lens) (back : List ℕ) (lists : List Drawables) (channel : ℕ) (before after : List Pixmap) (image : Pixmap)
    (d : Drawables) (swapped : Bool) → slice_get lists channel ≡ Some d → IsShown lens back image d →
    swapped ≡ can_swap before channel image → after ≡ (if swapped then slice_set before channel image else before) →
    IsPainted lens back lists channel before after
painted_channel lens back lists channel before after image d true stands drawn can is =
    record {
      many = ap length is ∙ set_length before channel image;
      others = λ i other. ap (λ (xs : List Pixmap). slice_get xs i) is ∙ get_else before channel i image other;
      shown = λ old new e stood of_size at_new at_list.
          subst (λ (x : Pixmap). IsShown lens back x e)
          (get_here before channel image old new stood (sym (ap (λ (xs : List Pixmap). slice_get xs channel) is) ∙ at_new))
          (subst (λ (x : Drawables). IsShown lens back image x) (same_Some d e (sym stands ∙ at_list)) drawn);
    }
painted_channel lens back lists channel before after image d false stands drawn can is =
    record {
      many = ap length is;
      others = λ i other. ap (λ (xs : List Pixmap). slice_get xs i) is;
      shown = λ old new e stood of_size at_new at_list.
          absurd (true_false (sym (sized lens image old drawn.size of_size)
          ∙ sym (ap (λ (o : Option Pixmap). option_map_or (have_one_size image) o false) stood) ∙ sym can));
    }

-- what comes back of an exchange has the lens's size
pub swapped_size : (lens : Lens) (images : List Pixmap) (i : ℕ) (image back : Pixmap) (swapped : Bool) → IsOfSize lens image →
    swapped ≡ can_swap images i image → back ≡ (if swapped then slice_index_or images i image else image) → IsOfSize lens back
swapped_size lens images i image back false of_size can is = subst (λ (x : Pixmap). IsOfSize lens x) (sym is) of_size
swapped_size lens [] i image back true of_size can is = absurd (true_false can)
swapped_size lens (x ∷ images) zero image back true of_size can is =
    let sizes = both (image.width == x.width) (image.height == x.height) (sym can) in
    record {
      width = ap (λ (p : Pixmap). p.width) is ∙ sym (eqb-true image.width x.width sizes.0) ∙ of_size.width;
      height = ap (λ (p : Pixmap). p.height) is ∙ sym (eqb-true image.height x.height sizes.1) ∙ of_size.height;
    }
swapped_size lens (x ∷ images) (suc i) image back true of_size can is = swapped_size lens images i image back true of_size can is

-- a load all of whose channels are drawn and whose bytes are written
pub load_drawn : (lens : Lens) (back : List ℕ) (old new : LoadState) (after : List Pixmap) →
    ArePaintedTo lens back old.lists (length old.lists) old.images after →
    new ≡ record old { images = after; bytes = flat_map ppm_bytes after } → Draws lens back old new
load_drawn lens back old new after drawn is =
    record {
      keeps = ap kept is;
      paints = λ are. ap (λ (l : LoadState). l.bytes) is
          ∙ painted_law lens back after old.lists (drawn.many ∙ are.many)
          (λ i image d at_image at_list. drawn.shown are i image d (slice_get_within old.lists i d at_list) at_image at_list);
    }
