-- The counts of a state: frames, merges, and retired frames.
use Rattle.std.proofs.Common.{◌≡◌, ℕ, ◌+◌, ◌≤◌, Bool, true, false, cond, [], ◌∷◌, length, refl, arith}
use Rattle.std.specs.List.{filter}
use Rattle.pf_history.specs.declared.commands.Command.{Command}
use Rattle.pf_history.specs.declared.commands.Command.TheVariants as command
use Rattle.pf_history.specs.declared.commands.Entry.{Entry}
use Rattle.pf_history.specs.Objects.{FrameState, opening_state, next_state}
use Rattle.pf_history.specs.Commands.{is_frame, is_merge}
use Rattle.pf_history.specs.Logs.{Log, state_after, state_of, IsLegalFrom, CanMake, how_many}
use Rattle.pf_history.specs.Laws.{CountsLaw, NeverFallLaw}
use Rattle.pf_history.proofs.Folds.{state_append, legal_rest}

abbrev pub one : Bool → ℕ
one t = cond t 1 0

pub one_most : (t : Bool) → one t ≤ 1
one_most true = omega arith
one_most false = omega arith

pub frames_next : (s : FrameState) (c : Command) → (next_state s c).frames ≡ s.frames + one (is_frame c)
frames_next s (command.Edit e) = omega arith
frames_next s (command.Merge m) = omega arith
frames_next s (command.View channel v) = omega arith
frames_next s (command.Sync r) = omega arith
frames_next s command.Frame = refl

pub merges_next : (s : FrameState) (c : Command) → (next_state s c).merges ≡ s.merges + one (is_merge c)
merges_next s (command.Edit e) = omega arith
merges_next s (command.Merge m) = refl
merges_next s (command.View channel v) = omega arith
merges_next s (command.Sync r) = omega arith
merges_next s command.Frame = omega arith

pub how_many_step : (test : Command → Bool) (e : ℕ × Entry) (es : Log) → how_many test (e ∷ es) ≡ one (test e.1.command) + how_many test es
how_many_step test e es = by (test e.1.command)
  where
    by : (t : Bool) → length (cond t (e ∷ filter (λ e. test e.1.command) es) (filter (λ e. test e.1.command) es)) ≡ one t + how_many test es
    by true = omega arith
    by false = omega arith

pub frames_after : (s : FrameState) (log : Log) → (state_after s log).frames ≡ s.frames + how_many is_frame log
frames_after s [] = omega arith
frames_after s (e ∷ es) =
    let rest = frames_after (next_state s e.1.command) es in
    let now = frames_next s e.1.command in
    let more = how_many_step is_frame e es in
    omega (arith, rest, now, more)

pub merges_after : (s : FrameState) (log : Log) → (state_after s log).merges ≡ s.merges + how_many is_merge log
merges_after s [] = omega arith
merges_after s (e ∷ es) =
    let rest = merges_after (next_state s e.1.command) es in
    let now = merges_next s e.1.command in
    let more = how_many_step is_merge e es in
    omega (arith, rest, now, more)

retired_next : (s : FrameState) (c : Command) → CanMake s c → s.retired ≤ s.frames → (next_state s c).retired ≤ (next_state s c).frames
retired_next s (command.Edit e) can l = l
retired_next s (command.Merge m) can l = l
retired_next s (command.View channel v) can l = l
retired_next s (command.Sync r) can l = can.1
retired_next s command.Frame can l = omega (arith, l)

pub retired_after : (s : FrameState) (log : Log) → IsLegalFrom s log → s.retired ≤ s.frames → (state_after s log).retired ≤ (state_after s log).frames
retired_after s [] legal l = l
retired_after s (e ∷ es) legal l = retired_after (next_state s e.1.command) es legal.1 (retired_next s e.1.command legal.0.sync l)

retired_grows : (s : FrameState) (c : Command) → CanMake s c → s.retired ≤ (next_state s c).retired
retired_grows s (command.Edit e) can = omega arith
retired_grows s (command.Merge m) can = omega arith
retired_grows s (command.View channel v) can = omega arith
retired_grows s (command.Sync r) can = can.0
retired_grows s command.Frame can = omega arith

retired_later : (s : FrameState) (log : Log) → IsLegalFrom s log → s.retired ≤ (state_after s log).retired
retired_later s [] legal = omega arith
retired_later s (e ∷ es) legal =
    let one = retired_grows s e.1.command legal.0.sync in
    let rest = retired_later (next_state s e.1.command) es legal.1 in
    omega (arith, one, rest)

pub never_fall_law : NeverFallLaw
never_fall_law channels log more =
    let longer = state_append (opening_state channels) log more in
    record {
      frames = rw longer (let f = frames_after (state_of channels log) more in omega (arith, f));
      merges = rw longer (let m = merges_after (state_of channels log) more in omega (arith, m));
      retired = λ legal. rw longer (retired_later (state_of channels log) more (legal_rest (opening_state channels) log more legal));
    }

pub counts_law : CountsLaw
counts_law channels log =
    record {
      frames = let f = frames_after (opening_state channels) log in omega (arith, f);
      merges = let m = merges_after (opening_state channels) log in omega (arith, m);
      retired = λ legal. retired_after (opening_state channels) log legal (omega arith);
    }
