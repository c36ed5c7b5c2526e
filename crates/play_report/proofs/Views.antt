-- The line of a view, piece by piece.
use Rattle.std.proofs.Common.{◌≡◌, ℕ, zero, suc, List, ◌++◌, append-nil, append_assoc, refl, sym, ap, ◌∙◌}
use Rattle.std.specs.Prelude.{codes, decimal}
use Rattle.pf_model.specs.Angles.{Viewpoint}
use Rattle.play_format.specs.Spelling.{line_of, view_entry, view_numbers}
use Rattle.play_format.specs.Texts.{numbers_text}

first_view : (v : Viewpoint) → line_of (view_entry 0 v) ≡ codes "view" ++ numbers_text (view_numbers v)
first_view v = simp append-nil

channel_view : (c : ℕ) (v : Viewpoint) → (c ≡ 0 → ⊥) →
    line_of (view_entry c v) ≡ codes "cview " ++ decimal c ++ numbers_text (view_numbers v)
channel_view zero v h = absurd (h refl)
channel_view (suc c) v h = simp append-nil

-- a text that goes on by a word and the numbers of a view
pub as_view : (text named whole : List ℕ) (c : ℕ) (v : Viewpoint) → c ≡ 0 → named ≡ text ++ codes "view" →
    whole ≡ named ++ numbers_text (view_numbers v) → whole ≡ text ++ line_of (view_entry c v)
as_view text named whole c v z n w =
    w ∙ ap (λ (t : List ℕ). t ++ numbers_text (view_numbers v)) n
    ∙ append_assoc text (codes "view") (numbers_text (view_numbers v))
    ∙ ap (λ (t : List ℕ). text ++ t) (sym (first_view v))
    ∙ ap (λ (k : ℕ). text ++ line_of (view_entry k v)) (sym z)

pub as_channel_view : (text named whole : List ℕ) (c : ℕ) (v : Viewpoint) → (c ≡ 0 → ⊥) →
    named ≡ text ++ (codes "cview " ++ decimal c) → whole ≡ named ++ numbers_text (view_numbers v) →
    whole ≡ text ++ line_of (view_entry c v)
as_channel_view text named whole c v z n w =
    w ∙ ap (λ (t : List ℕ). t ++ numbers_text (view_numbers v)) n
    ∙ append_assoc text (codes "cview " ++ decimal c) (numbers_text (view_numbers v))
    ∙ ap (λ (t : List ℕ). text ++ t) (sym (channel_view c v z))
