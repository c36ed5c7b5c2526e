-- What is painted of culled lists are the pictures of the state that the copy has.
use Rattle.std.proofs.Common.{◌≡◌, ℕ, suc, List, [], ◌∷◌, ◌++◌, map, refl, sym, ap, ◌∙◌, arith}
use Rattle.std.specs.List.{AllZip, flat_map}
use Rattle.fx_math.specs.declared.lenses.Lens.{Lens}
use Rattle.ppm_out.specs.Ppm.{ppm_bytes, picture_bytes}
use Rattle.ppm_out.proofs.Pictures.{picture_bytes_same, ppm_bytes-shown}
use Rattle.pf_model.specs.Angles.{Viewpoint}
use Rattle.pf_model.specs.Graphs.{Look}
use Rattle.pf_model.specs.Walks.{Instance, instances}
use Rattle.tri_cover.specs.Labels.{IsRelabelled, AreInOneOrder, PlacesAgree}
use Rattle.tri_cover.specs.Picture.{picture}
use Rattle.tri_cover.proofs.Alike.{one_picture}
use Rattle.draw_list.specs.Lists.{Drawables, instances_in}
use Rattle.draw_list.specs.Shown.{draw_list}
use Rattle.stage_parts.specs.Pictures.{picture_of_list, painted}
use Rattle.stage_parts.specs.Parts.{nameless}
use Rattle.stage_parts.specs.Laws.{CullingKeepsPictures, PaintedLaw}
use Rattle.stage_parts.proofs.Places.{flat_mapped, flat_same}

relabelled : (xs : List Instance) → AllZip IsRelabelled xs (map nameless xs)
relabelled [] = tt
relabelled (x ∷ xs) = (record { tint = refl; shift = refl; steps = refl; tris = refl; far = refl }, relabelled xs)

in_order : (x : Instance) (xs : List Instance) →
    AllZip (λ v w. AreInOneOrder x.place (nameless x).place v.place w.place) xs (map nameless xs)
in_order x [] = tt
in_order x (y ∷ xs) = (record { below = refl; above = refl }, in_order x xs)

agree : (xs : List Instance) → PlacesAgree xs (map nameless xs)
agree [] = tt
agree (x ∷ xs) = (in_order x xs, agree xs)

-- a channel's culled list shows the whole walk
drawn_culled : CullingKeepsPictures → (lens : Lens) (back : List ℕ) (look : Look) (time : ℕ) (v : Viewpoint) →
    picture_of_list lens back (map nameless (draw_list look time v lens)) ≡ picture_of_list lens back (instances look time v)
drawn_culled culling lens back look time v =
    let list = draw_list look time v lens in
    picture_bytes_same lens.w lens.h (picture lens back (map nameless list)) (picture lens back (instances look time v))
    (λ px py across down.
    one_picture list (map nameless list) (relabelled list) (agree list) lens px py back
    ∙ culling look time v lens px py across down back)

pub painted_culled : CullingKeepsPictures →
    (lens : Lens) (back : List ℕ) (look : Look) (time : ℕ) (views : List Viewpoint) (lists : List Drawables) →
    map instances_in lists ≡ map (λ v. map nameless (draw_list look time v lens)) views →
    painted lens back lists ≡ flat_map (λ v. picture_of_list lens back (instances look time v)) views
painted_culled culling lens back look time views lists same =
    sym (flat_mapped instances_in (picture_of_list lens back) lists)
    ∙ ap (flat_map (picture_of_list lens back)) same
    ∙ flat_mapped (λ v. map nameless (draw_list look time v lens)) (picture_of_list lens back) views
    ∙ flat_same (λ v. picture_of_list lens back (map nameless (draw_list look time v lens))) (λ v. picture_of_list lens back (instances look time v))
    (drawn_culled culling lens back look time) views

pub painted_law : PaintedLaw
painted_law lens back [] [] many shown = refl
painted_law lens back [] (d ∷ lists) many shown = absurd (omega (arith, many))
painted_law lens back (x ∷ images) [] many shown = absurd (omega (arith, many))
painted_law lens back (x ∷ images) (d ∷ lists) many shown =
    let here = shown 0 x d refl refl in
    let rest =
    painted_law lens back images lists (omega (arith, many)) (λ i image e at_image at_list. shown (suc i) image e at_image at_list) in
    let colours = picture lens back (instances_in d) in
    let one : ppm_bytes x ≡ picture_of_list lens back (instances_in d) =
    ppm_bytes-shown x colours here.pixels
    ∙ ap (λ w. picture_bytes w x.height colours) here.size.width ∙ ap (λ h. picture_bytes lens.w h colours) here.size.height in
    ap (λ (bytes : List ℕ). bytes ++ flat_map ppm_bytes images) one
    ∙ ap (λ (bytes : List ℕ). picture_of_list lens back (instances_in d) ++ bytes) rest
