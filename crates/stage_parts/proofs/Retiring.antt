-- The number of retired frames is that of the last Sync.
use Rattle.std.proofs.Common.{◌≡◌, ℕ, Bool, true, false, cond, List, [], ◌∷◌, refl, sym, ap, ◌∙◌}
use Rattle.std.specs.List.{fold}
use Rattle.pf_history.specs.declared.commands.Caller.{Caller}
use Rattle.pf_history.specs.declared.commands.Caller.TheVariants.{App}
use Rattle.pf_history.specs.declared.commands.Command.{Command}
use Rattle.pf_history.specs.declared.commands.Command.TheVariants as command
use Rattle.pf_history.specs.Commands.{caller_of}
use Rattle.pf_history.specs.Objects.{FrameState, opening_state, next_state}
use Rattle.pf_history.specs.Logs.{Log, state_after, state_of, IsLegal, IsLegalFrom, is_caller, is_by}
use Rattle.pf_history.specs.Asks.{Turn, turns_from}
use Rattle.pf_history.specs.Fits.{turns_of}
use Rattle.stage_parts.specs.Frames.{retired_after, last_sync}

retired_next : (s : FrameState) (c : Command) → (next_state s c).retired ≡ retired_after s.retired c
retired_next s (command.Edit e) = refl
retired_next s (command.Merge m) = refl
retired_next s (command.View channel v) = refl
retired_next s (command.Sync r) = refl
retired_next s command.Frame = refl

-- only the application's commands retire frames
others_retire_none : (r : ℕ) (caller : Caller) (c : Command) → caller ≡ caller_of c → is_caller App caller ≡ false → retired_after r c ≡ r
others_retire_none r caller (command.Edit e) same other = refl
others_retire_none r caller (command.Merge m) same other = refl
others_retire_none r caller (command.View channel v) same other = refl
others_retire_none r caller (command.Sync n) same other = absurd (let app : is_caller App caller ≡ true = ap (is_caller App) same in cc)
others_retire_none r caller command.Frame same other = refl

abbrev retired_by : ℕ → List Turn → ℕ
retired_by r turns = fold (λ n t. retired_after n t.made) r turns

last_from : (s : FrameState) (log : Log) → IsLegalFrom s log →
    retired_by s.retired (turns_from (is_by App) s log) ≡ (state_after s log).retired
last_from s [] legal = refl
last_from s (e ∷ es) legal = by (is_by App e) refl (last_from (next_state s e.1.command) es legal.1)
  where
    turns : List Turn
    turns = turns_from (is_by App) (next_state s e.1.command) es

    by : (t : Bool) → is_by App e ≡ t →
        retired_by (next_state s e.1.command).retired turns ≡ (state_after (next_state s e.1.command) es).retired →
        retired_by s.retired (cond t (record { found = s; made = e.1.command } ∷ turns) turns) ≡
        (state_after (next_state s e.1.command) es).retired
    by true is rest = ap (λ n. retired_by n turns) (sym (retired_next s e.1.command)) ∙ rest
    by false is rest =
        ap (λ n. retired_by n turns)
        (sym (retired_next s e.1.command ∙ others_retire_none s.retired e.1.caller e.1.command legal.0.caller is)) ∙ rest

pub retired_is_last_sync : (channels : ℕ) (log : Log) → IsLegal channels log →
    last_sync (turns_of channels App log) ≡ (state_of channels log).retired
retired_is_last_sync channels log legal = last_from (opening_state channels) log legal
