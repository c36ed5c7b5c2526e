-- The places of the chosen children.
use Rattle.std.proofs.Common.{◌≡◌, ℕ, zero, suc, ◌+◌, ◌-◌, ◌<◌, ◌≤◌, List, [], ◌∷◌, length, get_or, Option, None, option_map, refl, ap, sym, ◌∙◌, subst, arith, zero-add}
use Rattle.std.specs.Prelude.{slice_index}
use Rattle.std.specs.List.{enumerate_from, slice_get}
use Rattle.std.specs.Option.{option_to_list}
use Rattle.std.proofs.lemmas.Option.{slice_get-get_or}
use Rattle.std.proofs.lemmas.List.FromFn.{fill_by_all, length-enumerate_from, get_or-enumerate_from}
use Rattle.pf_model.specs.declared.nodes.Chosen.TheVariants as chosen
use Rattle.pf_model.specs.ShownPlaces.{places, ArePlaces}

abbrev pair : ℕ → ℕ → ℕ × ℕ
pair a b = (a, b)

all_places : (cs : List ℕ) (n : ℕ) → length cs ≡ n → enumerate_from 0 cs ≡ places cs 0 n
all_places cs n e = fill_by_all (λ (k : ℕ). pair k (slice_index cs k)) (enumerate_from 0 cs) n (pair 0 0) (length-enumerate_from 0 cs ∙ e) at
  where
    at : (k : ℕ) → k < n → get_or (enumerate_from 0 cs) k (pair 0 0) ≡ pair k (slice_index cs k)
    at k l = get_or-enumerate_from 0 cs k (pair 0 0) (subst (λ (m : ℕ). k < m) (sym e) l) ∙ ap (λ (a : ℕ). pair a (slice_index cs k)) (zero-add k)

sub_same : (n : ℕ) → n - 0 ≡ n
sub_same n = omega arith

one_more : (n : ℕ) → n + 1 - n ≡ 1
one_more n = omega arith

pub places_all : (n : ℕ) → ArePlaces chosen.All n 0 n
places_all n = record {
  ordered = omega arith;
  within = omega arith;
  are = λ cs e. all_places cs n e ∙ ap (places cs 0) (sym (sub_same n));
}

get_past : (cs : List ℕ) (i : ℕ) → length cs ≤ i → slice_get cs i ≡ None
get_past [] i l = refl
get_past (c ∷ cs) zero l = absurd (omega (arith, l))
get_past (c ∷ cs) (suc i) l = get_past cs i (omega (arith, l))

pub places_one : (n i : ℕ) → i < n → ArePlaces (chosen.One i) n i (i + 1)
places_one n i l = record {
  ordered = omega arith;
  within = omega arith;
  are = λ cs e.
      ap (λ (o : Option ℕ). option_to_list (option_map (λ (c : ℕ). pair i c) o)) (slice_get-get_or cs i 0 (subst (λ (m : ℕ). i < m) (sym e) l))
      ∙ ap (places cs i) (sym (one_more i));
}

pub places_none : (n i : ℕ) → n ≤ i → ArePlaces (chosen.One i) n 0 0
places_none n i l = record {
  ordered = omega arith;
  within = omega arith;
  are = λ cs e. ap (λ (o : Option ℕ). option_to_list (option_map (λ (c : ℕ). pair i c) o)) (get_past cs i (subst (λ (m : ℕ). m ≤ i) (sym e) l));
}
