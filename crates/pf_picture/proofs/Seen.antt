-- A shape shows what its instance shows.
use Rattle.std.proofs.Common.{◌≡◌, ℕ, ◌+◌, List, [], ◌∷◌, Option, option_map, refl, ap, ◌∙◌}
use Rattle.std.specs.Prelude.{filter_map}
use Rattle.std.specs.List.{enumerate_from, cons_option}
use Rattle.fx_math.specs.Plain.{Matrix}
use Rattle.fx_math.specs.declared.lenses.Lens.{Lens}
use Rattle.pf_model.specs.declared.geometry.Tri.{Tri}
use Rattle.tri_cover.specs.declared.hit.Hit.{Hit}
use Rattle.tri_cover.specs.Hits.{hit}
use Rattle.tri_cover.specs.Picture as pictures
use Rattle.pf_picture.specs.Shapes.{AreCarried}

pub carried_fragments : (f : ℕ → Hit → pictures.Fragment) (lens : Lens) (px py : ℕ) (steps : List Matrix) (n : ℕ) (ts us : List Tri) → AreCarried steps ts us → filter_map (λ (e : ℕ × Tri). option_map (f e.0) (hit lens px py [] e.1)) (enumerate_from n us) ≡ filter_map (λ (e : ℕ × Tri). option_map (f e.0) (hit lens px py steps e.1)) (enumerate_from n ts)
carried_fragments f lens px py steps n [] [] same = refl
carried_fragments f lens px py steps n [] (u ∷ us) same = absurd same
carried_fragments f lens px py steps n (t ∷ ts) [] same = absurd same
carried_fragments f lens px py steps n (t ∷ ts) (u ∷ us) same =
    ap (λ (h : Option Hit). cons_option (option_map (f n) h) (filter_map (λ (e : ℕ × Tri). option_map (f e.0) (hit lens px py [] e.1)) (enumerate_from (n + 1) us))) (same.0 lens px py)
    ∙ ap (cons_option (option_map (f n) (hit lens px py steps t))) (carried_fragments f lens px py steps (n + 1) ts us same.1)
