-- How far a play has come, by counts alone: what may be made next reads no graph.
use Rattle.std.proofs.Common.{◌≡◌, ℕ, ◌+◌, ◌≤◌, cond, List, [], ◌∷◌, drop, refl, sym, ap, subst}
use Rattle.pf_model.specs.Graphs.{empty_scene}
use Rattle.pf_history.specs.declared.commands.Caller.{Caller}
use Rattle.pf_history.specs.declared.commands.Caller.TheVariants.{App, Dbase}
use Rattle.pf_history.specs.declared.commands.Command.{Command}
use Rattle.pf_history.specs.declared.commands.Command.TheVariants as command
use Rattle.pf_history.specs.declared.commands.Merge.{Merge}
use Rattle.pf_history.specs.Commands.{caller_of}
use Rattle.pf_history.specs.Objects.{FrameState, next_state}
use Rattle.pf_history.specs.Logs.{Log, IsLegalFrom, CanMake, is_by, is_caller, entry_of}
use Rattle.pf_history.specs.Asks.{Ask, BaseAsk, Wanted, WantEdit, WantView, WantSync, WantFrame, WantClose, Turn, Meets, Follows, FollowsBase, turns_from}
use Rattle.pf_history.proofs.Folds.{own_entry_legal}
use Rattle.play_fences.proofs.Bare.{commands_of}

-- What is still asked of the two callers, and how many frames were begun and retired and how many merges made.
pub record Point : Type 0 where
  pub asks : List Ask
  pub bases : List BaseAsk
  pub frames : ℕ
  pub retired : ℕ
  pub merges : ℕ

-- where a state stands with this still asked
abbrev pub point : List Ask → List BaseAsk → FrameState → Point
point asks bases s = record { asks = asks; bases = bases; frames = s.frames; retired = s.retired; merges = s.merges }

-- a state with these counts
abbrev pub counts_at : Point → FrameState
counts_at p = record { graph = empty_scene; views = []; frames = p.frames; retired = p.retired; merges = p.merges; graves = [] }

-- one command further
abbrev pub made : Point → Command → Point
made p (command.Edit e) = record p { asks = drop 1 p.asks }
made p (command.Merge m) = record p { bases = drop 1 p.bases; merges = p.merges + 1 }
made p (command.View channel v) = record p { asks = drop 1 p.asks }
made p (command.Sync r) = record p { asks = drop 1 p.asks; retired = r }
made p command.Frame = record p { asks = drop 1 p.asks; frames = p.frames + 1 }

abbrev pub after_all : Point → List Command → Point
after_all p [] = p
after_all p (c ∷ cs) = after_all (made p c) cs

module _ (ahead all : ℕ) where
  -- a command is what is asked of the application first, and may be made
  abbrev pub MeetsFirst : List Ask → Point → Command → Type 0
  MeetsFirst [] p c = ⊥
  MeetsFirst (a ∷ asks) p c = Meets ahead all a.wanted (counts_at p) c × (a.need ≤ p.merges) × CanMake (counts_at p) c

  -- and of the database process
  abbrev pub MergesFirst : List BaseAsk → Point → Merge → Type 0
  MergesFirst [] p m = ⊥
  MergesFirst (b ∷ bases) p m = (command.Merge m ≡ command.Merge b.merge) × (b.need ≤ p.frames)

  abbrev pub May : Point → Command → Type 0
  May p (command.Edit e) = MeetsFirst p.asks p (command.Edit e)
  May p (command.Merge m) = MergesFirst p.bases p m
  May p (command.View channel v) = MeetsFirst p.asks p (command.View channel v)
  May p (command.Sync r) = MeetsFirst p.asks p (command.Sync r)
  May p command.Frame = MeetsFirst p.asks p command.Frame

  -- each command may be made, and then nothing is still asked
  abbrev pub Along : Point → List Command → Type 0
  Along p [] = (p.asks ≡ []) × (p.bases ≡ [])
  Along p (c ∷ cs) = May p c × Along (made p c) cs

  -- From a history to its commands

  meets_counts : (w : Wanted) (asks : List Ask) (bases : List BaseAsk) (s : FrameState) (c : Command) → Meets ahead all w s c → Meets ahead all w (counts_at (point asks bases s)) c
  meets_counts (WantEdit e) asks bases s c h = h
  meets_counts (WantView channel v) asks bases s c h = h
  meets_counts WantSync asks bases s (command.Sync r) h = h
  meets_counts WantSync asks bases s _ h = absurd h
  meets_counts WantFrame asks bases s command.Frame h = h
  meets_counts WantFrame asks bases s _ h = absurd h
  meets_counts WantClose asks bases s (command.Sync r) h = h
  meets_counts WantClose asks bases s _ h = absurd h

  counts_meet : (w : Wanted) (asks : List Ask) (bases : List BaseAsk) (s : FrameState) (c : Command) → Meets ahead all w (counts_at (point asks bases s)) c → Meets ahead all w s c
  counts_meet (WantEdit e) asks bases s c h = h
  counts_meet (WantView channel v) asks bases s c h = h
  counts_meet WantSync asks bases s (command.Sync r) h = h
  counts_meet WantSync asks bases s _ h = absurd h
  counts_meet WantFrame asks bases s command.Frame h = h
  counts_meet WantFrame asks bases s _ h = absurd h
  counts_meet WantClose asks bases s (command.Sync r) h = h
  counts_meet WantClose asks bases s _ h = absurd h

  can_counts : (asks : List Ask) (bases : List BaseAsk) (s : FrameState) (c : Command) → CanMake s c → CanMake (counts_at (point asks bases s)) c
  can_counts asks bases s (command.Edit e) h = tt
  can_counts asks bases s (command.Merge m) h = tt
  can_counts asks bases s (command.View channel v) h = tt
  can_counts asks bases s (command.Sync r) h = h
  can_counts asks bases s command.Frame h = tt

  counts_can : (asks : List Ask) (bases : List BaseAsk) (s : FrameState) (c : Command) → CanMake (counts_at (point asks bases s)) c → CanMake s c
  counts_can asks bases s (command.Edit e) h = tt
  counts_can asks bases s (command.Merge m) h = tt
  counts_can asks bases s (command.View channel v) h = tt
  counts_can asks bases s (command.Sync r) h = h
  counts_can asks bases s command.Frame h = tt

  pub along_of : (s : FrameState) (log : Log) (asks : List Ask) (bases : List BaseAsk) → IsLegalFrom s log → Follows ahead all asks (turns_from (is_by App) s log) [] → FollowsBase bases (turns_from (is_by Dbase) s log) [] → Along (point asks bases s) (commands_of log)
  along_of s [] asks bases legal h g = (h, g)
  along_of s (e ∷ es) asks bases legal h g =
      by e.1.command legal.0.sync
      (λ asks' bases' h' g'. along_of (next_state s e.1.command) es asks' bases' legal.1 h' g')
      (subst (λ (k : Caller). Follows ahead all asks (cond (is_caller App k) (turn e.1.command ∷ app_turns e.1.command) (app_turns e.1.command)) []) legal.0.caller h)
      (subst (λ (k : Caller). FollowsBase bases (cond (is_caller Dbase k) (turn e.1.command ∷ base_turns e.1.command) (base_turns e.1.command)) []) legal.0.caller g)
    where
      turn : Command → Turn
      turn c = record { found = s; made = c }

      app_turns : Command → List Turn
      app_turns c = turns_from (is_by App) (next_state s c) es

      base_turns : Command → List Turn
      base_turns c = turns_from (is_by Dbase) (next_state s c) es

      More : Command → Type 0
      More c = (asks' : List Ask) (bases' : List BaseAsk) → Follows ahead all asks' (app_turns c) [] → FollowsBase bases' (base_turns c) [] → Along (point asks' bases' (next_state s c)) (commands_of es)

      -- a command of the application that leads to this point
      app_case : (c : Command) → ((asks' : List Ask) → made (point asks' bases s) c ≡ point (drop 1 asks') bases (next_state s c)) → CanMake s c → More c → (asks' : List Ask) → Follows ahead all asks' (turn c ∷ app_turns c) [] → FollowsBase bases (base_turns c) [] →
          MeetsFirst asks' (point asks' bases s) c × Along (made (point asks' bases s) c) (commands_of es)
      app_case c leads can more [] h g = absurd h
      app_case c leads can more (a ∷ asks') h g = (
        (meets_counts a.wanted (a ∷ asks') bases s c h.0, h.1, can_counts (a ∷ asks') bases s c can),
        subst (λ (p : Point). Along p (commands_of es)) (sym (leads (a ∷ asks'))) (more asks' bases h.2 g),
      )

      merge_case : (m : Merge) → More (command.Merge m) → (bases' : List BaseAsk) → Follows ahead all asks (app_turns (command.Merge m)) [] → FollowsBase bases' (turn (command.Merge m) ∷ base_turns (command.Merge m)) [] →
          MergesFirst bases' (point asks bases' s) m × Along (made (point asks bases' s) (command.Merge m)) (commands_of es)
      merge_case m more [] h g = absurd g
      merge_case m more (b ∷ bases') h g = ((g.0, g.1), more asks bases' h g.2)

      by : (c : Command) → CanMake s c → More c → Follows ahead all asks (cond (is_caller App (caller_of c)) (turn c ∷ app_turns c) (app_turns c)) [] → FollowsBase bases (cond (is_caller Dbase (caller_of c)) (turn c ∷ base_turns c) (base_turns c)) [] → Along (point asks bases s) (c ∷ commands_of es)
      by (command.Edit x) can more h g = app_case (command.Edit x) (λ asks'. refl) can more asks h g
      by (command.Merge m) can more h g = merge_case m more bases h g
      by (command.View channel v) can more h g = app_case (command.View channel v) (λ asks'. refl) can more asks h g
      by (command.Sync r) can more h g = app_case (command.Sync r) (λ asks'. refl) can more asks h g
      by command.Frame can more h g = app_case command.Frame (λ asks'. refl) can more asks h g

  -- From commands to a history

  -- the object's own entries
  abbrev pub own_log : FrameState → List Command → Log
  own_log s [] = []
  own_log s (c ∷ cs) = (0, entry_of s c) ∷ own_log (next_state s c) cs

  pub own_commands_of : (s : FrameState) (cs : List Command) → commands_of (own_log s cs) ≡ cs
  own_commands_of s [] = refl
  own_commands_of s (c ∷ cs) = ap (λ xs. c ∷ xs) (own_commands_of (next_state s c) cs)

  -- Own entries make a legal history that follows what is asked.
  pub record IsOwnLog (s : FrameState) (cs : List Command) (asks : List Ask) (bases : List BaseAsk) : Type 0 where
    pub legal : IsLegalFrom s (own_log s cs)
    pub follows_app : Follows ahead all asks (turns_from (is_by App) s (own_log s cs)) []
    pub follows_dbase : FollowsBase bases (turns_from (is_by Dbase) s (own_log s cs)) []

  -- the same where the first command is one of the application's
  record IsAppLog (s : FrameState) (c : Command) (cs : List Command) (asks : List Ask) (bases : List BaseAsk) : Type 0 where
    legal : IsLegalFrom s (own_log s (c ∷ cs))
    app : Follows ahead all asks (record { found = s; made = c } ∷ turns_from (is_by App) (next_state s c) (own_log (next_state s c) cs)) []
    dbase : FollowsBase bases (turns_from (is_by Dbase) (next_state s c) (own_log (next_state s c) cs)) []

  pub own_log_follows : (s : FrameState) (cs : List Command) (asks : List Ask) (bases : List BaseAsk) → Along (point asks bases s) cs → IsOwnLog s cs asks bases
  own_log_follows s [] asks bases h = record { legal = tt; follows_app = h.0; follows_dbase = h.1 }
  own_log_follows s (c ∷ cs) asks bases h = by c (λ asks' bases'. own_log_follows (next_state s c) cs asks' bases') h
    where
      More : Command → Type 0
      More c = (asks' : List Ask) (bases' : List BaseAsk) → Along (point asks' bases' (next_state s c)) cs → IsOwnLog (next_state s c) cs asks' bases'

      app_case : (c : Command) → ((asks' : List Ask) → made (point asks' bases s) c ≡ point (drop 1 asks') bases (next_state s c)) → More c → (asks' : List Ask) →
          MeetsFirst asks' (point asks' bases s) c → Along (made (point asks' bases s) c) cs → IsAppLog s c cs asks' bases
      app_case c leads more [] meets rest = absurd meets
      app_case c leads more (a ∷ asks') meets rest =
          let own = more asks' bases (subst (λ (p : Point). Along p cs) (leads (a ∷ asks')) rest) in
          record {
            legal = (own_entry_legal s c (counts_can (a ∷ asks') bases s c meets.2), own.legal);
            app = (counts_meet a.wanted (a ∷ asks') bases s c meets.0, meets.1, own.follows_app);
            dbase = own.follows_dbase;
          }

      merge_case : (m : Merge) → More (command.Merge m) → (bases' : List BaseAsk) → MergesFirst bases' (point asks bases' s) m → Along (made (point asks bases' s) (command.Merge m)) cs → IsOwnLog s (command.Merge m ∷ cs) asks bases'
      merge_case m more [] meets rest = absurd meets
      merge_case m more (b ∷ bases') meets rest =
          let own = more asks bases' rest in
          record { legal = (own_entry_legal s (command.Merge m) tt, own.legal); follows_app = own.follows_app; follows_dbase = (meets.0, meets.1, own.follows_dbase) }

      by : (c : Command) → More c → Along (point asks bases s) (c ∷ cs) → IsOwnLog s (c ∷ cs) asks bases
      by (command.Edit x) more h = let l = app_case (command.Edit x) (λ asks'. refl) more asks h.0 h.1 in record { legal = l.legal; follows_app = l.app; follows_dbase = l.dbase }
      by (command.Merge m) more h = merge_case m more bases h.0 h.1
      by (command.View channel v) more h = let l = app_case (command.View channel v) (λ asks'. refl) more asks h.0 h.1 in record { legal = l.legal; follows_app = l.app; follows_dbase = l.dbase }
      by (command.Sync r) more h = let l = app_case (command.Sync r) (λ asks'. refl) more asks h.0 h.1 in record { legal = l.legal; follows_app = l.app; follows_dbase = l.dbase }
      by command.Frame more h = let l = app_case command.Frame (λ asks'. refl) more asks h.0 h.1 in record { legal = l.legal; follows_app = l.app; follows_dbase = l.dbase }
