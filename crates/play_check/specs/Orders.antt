-- The orders in which the calls of a play can be made.
use Rattle.std.specs.Prelude.{◌≡◌, ℕ, ◌+◌, nat_le, List, [], ◌∷◌, map, if◌then◌else◌, Option, Some, None, option_and_then}
use Rattle.std.specs.Option.{option_map}
use Rattle.pf_model.specs.declared.lines.AppLine.{AppLine}
use Rattle.pf_model.specs.declared.lines.BaseLine.{BaseLine}
use Rattle.pf_history.specs.declared.commands.Caller.{Caller}
use Rattle.pf_history.specs.declared.commands.Caller.TheVariants.{App, Dbase}
use Rattle.pf_history.specs.Asks.{Ask, BaseAsk, Wanted, WantFrame, asked_app, asked_dbase}

-- An entry that is asked of a caller: how many entries of the other one it waits for, and how many Frames, or Merges, it
-- adds.
pub record Due : Type 0 where
  pub need : ℕ
  pub adds : ℕ

-- 1 for a Frame
abbrev pub frames_of : Wanted → ℕ
frames_of WantFrame = 1
frames_of _ = 0

-- what is asked of the application: it waits for Merges and adds Frames
abbrev pub app_dues : List Ask → List Due
app_dues asks = map (λ a. record { need = a.need; adds = frames_of a.wanted }) asks

-- what is asked of the database process: it waits for Frames, and each entry is a Merge
abbrev pub base_dues : List BaseAsk → List Due
base_dues asks = map (λ b. record { need = b.need; adds = 1 }) asks

-- Where an order stands: what is still asked of the two callers, and how many Frames and Merges it has.
pub record Standing : Type 0 where
  pub app : List Due
  pub dbase : List Due
  pub frames : ℕ
  pub merges : ℕ

-- before the first entry
abbrev pub opening : List AppLine → List BaseLine → Standing
opening app dbase =
    record { app = app_dues (asked_app app); dbase = base_dues (asked_dbase dbase); frames = 0; merges = 0 }

-- the next entry that is asked for, where the other caller has come to so many: what it adds, and what is then still asked
abbrev pub next_due : ℕ → List Due → Option (ℕ × List Due)
next_due reached [] = None
next_due reached (d ∷ ds) = if nat_le d.need reached then Some (d.adds, ds) else None

-- one more entry of this caller
abbrev pub with_entry : Caller → Standing → Option Standing
with_entry App s = option_map (λ p. record s { app = p.1; frames = s.frames + p.0 }) (next_due s.merges s.app)
with_entry Dbase s = option_map (λ p. record s { dbase = p.1; merges = s.merges + p.0 }) (next_due s.frames s.dbase)

-- Where an order ends that names the caller of each of its entries; none where one of them may not be made there.
abbrev pub after_order : List Caller → Standing → Option Standing
after_order [] s = Some s
after_order (caller ∷ order) s = option_and_then (after_order order) (with_entry caller s)

-- The callers' names are an order of a play that ends here: an interleaving of the first entries that are asked of the
-- application and the first Merges that are asked of the database process, each behind as many Merges, or Frames, as it
-- waits for.
abbrev pub IsOrder : List AppLine → List BaseLine → List Caller → Standing → Type 0
IsOrder app dbase order end = after_order order (opening app dbase) ≡ Some end

-- what the entries add that wait for at most so many
abbrev pub within : ℕ → List Due → ℕ
within most [] = 0
within most (d ∷ ds) = (if nat_le d.need most then d.adds else 0) + within most ds
