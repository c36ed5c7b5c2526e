-- The seat in charge is nothing to the copies.
use Rattle.std.proofs.Common.{◌≡◌, ℕ, List, sym, subst}
use Rattle.pf_model.specs.Copies.{UpdateList}
use Rattle.pf_scene.specs.Scenes.{SceneState, KeepsCopies, AreOfRetired, TakesHome}

pub seated_kept : (found seated left : SceneState) (seat : ℕ) → seated ≡ record found { shared = record found.shared { seat = seat } } → (KeepsCopies seated → KeepsCopies left)
    → KeepsCopies found → KeepsCopies left
seated_kept found seated left seat is h k = h (subst (λ (v : SceneState). KeepsCopies v) (sym is) k)

pub seated_synced : (found seated left : SceneState) (seat r : ℕ) (lists : List UpdateList) → seated ≡ record found { shared = record found.shared { seat = seat } }
    → (AreOfRetired r seated.shared lists → KeepsCopies seated → KeepsCopies left) → AreOfRetired r found.shared lists → KeepsCopies found → KeepsCopies left
seated_synced found seated left seat r lists is h came k =
    h (subst (λ (v : SceneState). AreOfRetired r v.shared lists) (sym is) came) (subst (λ (v : SceneState). KeepsCopies v) (sym is) k)

pub seated_taken : (found seated left : SceneState) (seat : ℕ) (lists : List UpdateList) → seated ≡ record found { shared = record found.shared { seat = seat } }
    → TakesHome lists seated left → TakesHome lists found left
seated_taken found seated left seat lists is h = subst (λ (v : SceneState). TakesHome lists v left) is h
