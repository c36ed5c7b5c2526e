-- Draws: their states one behind the other, and their bounds.
use Rattle.std.proofs.Common.{◌≡◌, ℕ, zero, suc, ◌+◌, ◌*◌, ◌<◌, refl, ap, sym, ◌∙◌, arith, [], ◌∷◌, ◌++◌}
use Rattle.std.proofs.Math.Nat.{mod-lt}
use Rattle.play_gen.specs.Draws.{next_state, state_after, draw}
use Rattle.play_gen.specs.Lines.{triangle, triangles, turn, turns, buffer, buffers}

state_is : (j k s : ℕ) → j ≡ k → state_after j s ≡ state_after k s
state_is j k s e = ap (λ (n : ℕ). state_after n s) e

-- j draws, and k more
after_more : (j k s : ℕ) → state_after k (state_after j s) ≡ state_after (j + k) s
unfolding state_after
after_more j zero s = state_is j (j + zero) s (omega arith)
after_more j (suc k) s = ap next_state (after_more j k s) ∙ state_is (suc (j + k)) (j + suc k) s (omega arith)

pub after_is : (j k n s : ℕ) → j + k ≡ n → state_after k (state_after j s) ≡ state_after n s
after_is j k n s e = after_more j k s ∙ state_is (j + k) n s e

pub draw_below : (s k m : ℕ) → 0 < m → draw s k m < m
draw_below s k m h = mod-lt _ h

pub no_draws : (s : ℕ) → state_after 0 s ≡ s
unfolding state_after
no_draws s = refl

next_number : (k : ℕ) → k + 1 ≡ suc k
next_number k = omega arith

pub no_triangles : (s : ℕ) → triangles 0 s ≡ []
unfolding triangles
no_triangles s = refl

pub triangles_more : (k s : ℕ) → triangles (k + 1) s ≡ triangles k s ++ triangle (state_after (18 * k) s) ∷ []
unfolding triangles
triangles_more k s = ap (λ (n : ℕ). triangles n s) (next_number k)

pub no_turns : turns 0 ≡ []
unfolding turns
no_turns = refl

pub turns_more : (k : ℕ) → turns (k + 1) ≡ turns k ++ turn (k + 1)
unfolding turns
turns_more k = ap turns (next_number k) ∙ ap (λ (n : ℕ). turns k ++ turn n) (sym (next_number k))

pub no_buffers : (s : ℕ) → buffers 0 s ≡ []
unfolding buffers
no_buffers s = refl

pub buffers_more : (k s : ℕ) → buffers (k + 1) s ≡ buffers k s ++ buffer (k + 1) (state_after (293 * k) s)
unfolding buffers
buffers_more k s = ap (λ (n : ℕ). buffers n s) (next_number k)
    ∙ ap (λ (n : ℕ). buffers k s ++ buffer n (state_after (293 * k) s)) (sym (next_number k))
