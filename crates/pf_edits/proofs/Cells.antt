-- Cells of keys.
use Rattle.std.proofs.Common.{◌≡◌, ℕ, ◌+◌, ◌-◌, ◌<◌, ◌≤◌, ◌==◌, Bool, false, cond, List, [], ◌++◌, Option, Some, None, map, length, get_or, set, replicate, sym, ◌∙◌, ap, arith}
use Rattle.std.proofs.lemmas.List.{map-set, length-set, set-append_left, set-get_or}
use Rattle.std.proofs.Math.ListN.{get_or-map, get_or-eq_default}
use Rattle.std.proofs.lemmas.Bool.Decides.{nat_tests}
use Rattle.pf_model.proofs.Written.{read_longer, length_longer, length_written, whole_longer}
use Rattle.pf_edits.specs.Tables.{key_in, cells_of_all}

-- what is read of a cell is the key of its id
pub read_at : (cells : List ℕ) (id : ℕ) → key_in (get_or cells id 0) ≡ get_or (map key_in (cells_of_all cells)) id None
read_at cells id = ap key_in (sym (read_longer 0 cells (65536 - length cells) id)) ∙ sym (get_or-map key_in (cells_of_all cells) id 0)

-- a cell written is the key of its id set
pub cell_set : (cells : List ℕ) (id cell : ℕ) (key : Option ℕ) → id < length cells → key_in cell ≡ key
    → map key_in (cells_of_all (set cells id cell)) ≡ set (map key_in (cells_of_all cells)) id key
cell_set cells id cell key within is =
    ap (map key_in) (sym grown) ∙ map-set key_in (cells_of_all cells) id cell ∙ ap (set (map key_in (cells_of_all cells)) id) is
  where
    grown : set (cells_of_all cells) id cell ≡ cells_of_all (set cells id cell)
    grown = (set-append_left cells (replicate (65536 - length cells) 0) id cell within
        ∙ ap (λ n. set cells id cell ++ replicate (65536 - n) 0) (sym (length-set cells id cell)))

-- where no cell is written, no key is to be taken away
pub cell_unwritten : (cells : List ℕ) (id : ℕ) → length cells ≤ id → map key_in (cells_of_all cells) ≡ set (map key_in (cells_of_all cells)) id None
cell_unwritten cells id past =
    sym (ap (set (map key_in (cells_of_all cells)) id) (sym (sym (read_at cells id) ∙ ap key_in (get_or-eq_default cells 0 past)))
    ∙ set-get_or (map key_in (cells_of_all cells)) id None)

-- a key and one more in a cell
pub cell_of : (key : ℕ) → key_in (key + 1) ≡ Some key
cell_of key = ap (λ (t : Bool). cond t None (Some (key + 1 - 1))) other ∙ ap Some less
  where
    other : (key + 1 == 0) ≡ false
    other = grind (arith, nat_tests)

    less : key + 1 - 1 ≡ key
    less = omega arith

-- Cells of 0

-- cells of 0 that are written, up to a place
module _ (cells longer : List ℕ) (place : ℕ) (written : longer ≡ cells ++ replicate (place + 1 - length cells) 0) (within : place < 65536) (few : length cells ≤ 65536) where
  pub few_longer : length longer ≤ 65536
  few_longer = omega (arith, length_written 0 cells longer place written, within, few)

  pub cells_longer : cells_of_all longer ≡ cells_of_all cells
  cells_longer = ap (λ (cs : List ℕ). cells_of_all cs) written ∙ whole_longer 0 cells (place + 1 - length cells) 65536 (omega (arith, within, few))

-- all ids have a cell
pub all_wide : (cells : List ℕ) → length cells ≤ 65536 → length (cells_of_all cells) ≡ 65536
all_wide cells few = length_longer 0 cells (65536 - length cells) ∙ omega (arith, few)

-- where nothing is written, no id has a key
pub no_key : (cells : List ℕ) → cells ≡ [] → (id : ℕ) → get_or (map key_in (cells_of_all cells)) id None ≡ None
no_key cells none id = sym (read_at cells id) ∙ ap (λ (cs : List ℕ). key_in (get_or cs id 0)) none
