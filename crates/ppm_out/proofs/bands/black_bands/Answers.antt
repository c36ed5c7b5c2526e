use Rattle.std.proofs.Common.{rules, ◌≡◌, ◌+◌, ◌<◌, get_or, [], ◌∷◌, ◌++◌, ap, sym, subst, ◌∙◌, List, ℕ, replicate, length}
use Rattle.std.proofs.lemmas.List.{map-append, length_push}
use Rattle.std.specs.List.{concat}
use Rattle.ppm_out.specs.Bands.{band_size, bytes_of_each}
use Rattle.ppm_out.proofs.Blackness.{next_sizes, next_black}
use Rattle.ppm_out.proofs.bands.black_bands.Goals as goal

pub loop-i-preserved : goal.loop-i-preserved
loop-i-preserved c =
    let before = bytes_of_each c.loop-i.bands.items in
    let band = c.in_ok-band.band.items in
    let i = c.loop-i.i in
    let width = c.args.width in
    let height = c.args.height in
    let black : band ≡ replicate (band_size width height i) 0 = search rules in
    let after : bytes_of_each c.push.new.self.items ≡ before ++ band ∷ [] =
    ap bytes_of_each c.in_ok-push.ensures.items ∙ map-append (λ v. v.items) c.loop-i.bands.items (c.in_ok-band.band ∷ []) in
    let so_far = c.loop-i.invariant in
    record {
      count = ap length after ∙ length_push before band ∙ ap (λ n. n + 1) so_far.count;
      sizes = subst (λ (bands : List (List ℕ)). (j : ℕ) → j < i + 1 → length (get_or bands j []) ≡ band_size width height j) (sym after)
          (next_sizes width height i before band so_far.count so_far.sizes black);
      black = ap concat after ∙ next_black width height i before band so_far.black black;
    }
