-- What a whole history made of what its play asks, without Syncs.
use Rattle.std.proofs.Common.{◌≡◌, ℕ, Bool, true, false, cond, not, List, [], ◌∷◌, map, refl, ap, ◌∙◌}
use Rattle.std.specs.List.{filter}
use Rattle.pf_history.specs.declared.commands.Caller.{Caller}
use Rattle.pf_history.specs.declared.commands.Caller.TheVariants.{App, Dbase}
use Rattle.pf_history.specs.declared.commands.Command.{Command}
use Rattle.pf_history.specs.declared.commands.Command.TheVariants as command
use Rattle.pf_history.specs.declared.commands.Entry.{Entry}
use Rattle.pf_history.specs.Commands.{caller_of, is_merge}
use Rattle.pf_history.specs.Objects.{FrameState, next_state}
use Rattle.pf_history.specs.Logs.{Log, IsLegalFrom, is_by, is_caller, own}
use Rattle.pf_history.specs.Asks.{Ask, BaseAsk, Wanted, WantEdit, WantView, WantSync, WantFrame, WantClose, Turn, Meets, Follows, FollowsBase}
use Rattle.play_fences.specs.Fences.{is_own}
use Rattle.play_fences.proofs.Bare.{commands_of, unsynced}

abbrev pub merges_in : List Command → List Command
merges_in cs = filter is_merge cs

abbrev pub others_in : List Command → List Command
others_in cs = filter (λ c. not (is_merge c)) cs

-- the command that meets a wish of the application's own
abbrev pub own_command : Wanted → Command
own_command (WantEdit e) = command.Edit e
own_command (WantView channel v) = command.View channel v
own_command WantFrame = command.Frame
own_command WantSync = command.Frame
own_command WantClose = command.Frame

abbrev pub own_commands : List Ask → List Command
own_commands asks = map (λ a. own_command a.wanted) (filter (λ a. is_own a.wanted) asks)

-- the commands of a caller in a legal log, by what they are
pub own_split : (caller : Caller) (test : Command → Bool) → ((c : Command) → is_caller caller (caller_of c) ≡ test c) → (s : FrameState) (log : Log) → IsLegalFrom s log → own caller log ≡ filter test (commands_of log)
own_split caller test tells s [] legal = refl
own_split caller test tells s (e ∷ es) legal =
    ap (λ b. map (λ (x : ℕ × Entry). x.1.command) (cond b (e ∷ filter (is_by caller) es) (filter (is_by caller) es))) (ap (is_caller caller) legal.0.caller ∙ tells e.1.command)
    ∙ by (test e.1.command) (own_split caller test tells (next_state s e.1.command) es legal.1)
  where
    by : (b : Bool) → own caller es ≡ filter test (commands_of es) →
        map (λ (x : ℕ × Entry). x.1.command) (cond b (e ∷ filter (is_by caller) es) (filter (is_by caller) es))
        ≡ cond b (e.1.command ∷ filter test (commands_of es)) (filter test (commands_of es))
    by true rest = ap (λ cs. e.1.command ∷ cs) rest
    by false rest = rest

pub dbase_merges : (c : Command) → is_caller Dbase (caller_of c) ≡ is_merge c
dbase_merges (command.Edit e) = refl
dbase_merges (command.Merge m) = refl
dbase_merges (command.View channel v) = refl
dbase_merges (command.Sync r) = refl
dbase_merges command.Frame = refl

pub app_others : (c : Command) → is_caller App (caller_of c) ≡ not (is_merge c)
app_others (command.Edit e) = refl
app_others (command.Merge m) = refl
app_others (command.View channel v) = refl
app_others (command.Sync r) = refl
app_others command.Frame = refl

-- no merge is a Sync
pub merges_unsynced : (cs : List Command) → merges_in (unsynced cs) ≡ merges_in cs
merges_unsynced [] = refl
merges_unsynced (c ∷ cs) = by c (merges_unsynced cs)
  where
    by : (c : Command) → merges_in (unsynced cs) ≡ merges_in cs → merges_in (unsynced (c ∷ cs)) ≡ merges_in (c ∷ cs)
    by (command.Edit e) rest = rest
    by (command.Merge m) rest = ap (λ ms. command.Merge m ∷ ms) rest
    by (command.View channel v) rest = rest
    by (command.Sync r) rest = rest
    by command.Frame rest = rest

pub others_unsynced : (cs : List Command) → others_in (unsynced cs) ≡ unsynced (others_in cs)
others_unsynced [] = refl
others_unsynced (c ∷ cs) = by c (others_unsynced cs)
  where
    by : (c : Command) → others_in (unsynced cs) ≡ unsynced (others_in cs) → others_in (unsynced (c ∷ cs)) ≡ unsynced (others_in (c ∷ cs))
    by (command.Edit e) rest = ap (λ xs. command.Edit e ∷ xs) rest
    by (command.Merge m) rest = rest
    by (command.View channel v) rest = ap (λ xs. command.View channel v ∷ xs) rest
    by (command.Sync r) rest = rest
    by command.Frame rest = ap (λ xs. command.Frame ∷ xs) rest

-- what turns made that leave nothing asked
pub base_made : (asks : List BaseAsk) (ts : List Turn) → FollowsBase asks ts [] → map (λ t. t.made) ts ≡ map (λ b. command.Merge b.merge) asks
base_made [] [] h = refl
base_made (a ∷ asks) [] h = absurd (cc)
base_made [] (t ∷ ts) h = absurd h
base_made (a ∷ asks) (t ∷ ts) h = λ i. h.0 i ∷ base_made asks ts h.2 i

pub app_made : (ahead merges : ℕ) (asks : List Ask) (ts : List Turn) → Follows ahead merges asks ts [] → unsynced (map (λ t. t.made) ts) ≡ own_commands asks
app_made ahead merges [] [] h = refl
app_made ahead merges (a ∷ asks) [] h = absurd (cc)
app_made ahead merges [] (t ∷ ts) h = absurd h
app_made ahead merges (a ∷ asks) (t ∷ ts) h = by a.wanted t.made h.0 (app_made ahead merges asks ts h.2)
  where
    front : Wanted → List Ask
    front w = cond (is_own w) (record { need = a.need; wanted = w } ∷ filter (λ a. is_own a.wanted) asks) (filter (λ a. is_own a.wanted) asks)

    by : (w : Wanted) (c : Command) → Meets ahead merges w t.found c → unsynced (map (λ t. t.made) ts) ≡ own_commands asks →
        unsynced (c ∷ map (λ t. t.made) ts) ≡ map (λ (a : Ask). own_command a.wanted) (front w)
    by (WantEdit e) c meets rest = ap (λ x. unsynced (x ∷ map (λ t. t.made) ts)) meets ∙ ap (λ cs. command.Edit e ∷ cs) rest
    by (WantView channel v) c meets rest = ap (λ x. unsynced (x ∷ map (λ t. t.made) ts)) meets ∙ ap (λ cs. command.View channel v ∷ cs) rest
    by WantSync (command.Sync r) meets rest = rest
    by WantSync _ meets rest = absurd meets
    by WantFrame command.Frame meets rest = ap (λ cs. command.Frame ∷ cs) rest
    by WantFrame _ meets rest = absurd meets
    by WantClose (command.Sync r) meets rest = rest
    by WantClose _ meets rest = absurd meets
