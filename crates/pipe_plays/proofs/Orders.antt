-- In what order a history has the commands of a play whose sections grow while it is played.
use Rattle.std.proofs.Common.{◌≡◌, ℕ, max, Bool, true, false, cond, List, [], ◌∷◌, ◌++◌, map, drop, length, refl, sym, ap, ◌∙◌, append_assoc}
use Rattle.std.specs.List.{filter}
use Rattle.std.proofs.lemmas.List.{append-nil, append_cancel_left, map-append, length-map, drop-map}
use Rattle.std.proofs.lemmas.List.Elements.{filter-append}
use Rattle.pf_model.specs.declared.lines.AppLine.{AppLine}
use Rattle.pf_model.specs.declared.lines.AppStep.{AppStep}
use Rattle.pf_model.specs.declared.lines.AppStep.TheVariants as app
use Rattle.pf_model.specs.declared.lines.BaseLine.{BaseLine}
use Rattle.pf_history.specs.declared.commands.Caller.{Caller}
use Rattle.pf_history.specs.declared.commands.Caller.TheVariants.{App, Dbase}
use Rattle.pf_history.specs.declared.commands.Command.{Command}
use Rattle.pf_history.specs.declared.commands.Command.TheVariants as command
use Rattle.pf_history.specs.declared.commands.Entry.{Entry}
use Rattle.pf_history.specs.Objects.{FrameState, opening_state}
use Rattle.pf_history.specs.Logs.{Log, is_caller, is_by, own}
use Rattle.pf_history.specs.Asks.{Wanted, WantEdit, WantView, WantSync, WantFrame, WantClose, Ask, BaseAsk, Turn, asked_from, asked_app, asked_dbase, Meets, Follows, FollowsBase}
use Rattle.pf_history.proofs.Turns.{turns_own}
use Rattle.pipe_plays.specs.Orders.{is_no_sync, commands_of, step_commands, line_commands, merges_behind, IsMade, OrderLaw}

-- Commands, Syncs left out

abbrev others : List Command → List Command
others cs = filter is_no_sync cs

-- the command of an ask, unless it is a Sync
abbrev wanted_commands : Wanted → List Command
wanted_commands (WantEdit e) = command.Edit e ∷ []
wanted_commands (WantView channel v) = command.View channel v ∷ []
wanted_commands WantFrame = command.Frame ∷ []
wanted_commands WantSync = []
wanted_commands WantClose = []

abbrev asks_commands : List Ask → List Command
asks_commands [] = []
asks_commands (a ∷ asks) = wanted_commands a.wanted ++ asks_commands asks

-- what a command that meets an ask is, Syncs left out
met : (ahead merges : ℕ) (w : Wanted) (s : FrameState) (c : Command) (cs : List Command) → Meets ahead merges w s c →
    others (c ∷ cs) ≡ wanted_commands w ++ others cs
met ahead merges (WantEdit e) s c cs h = ap (λ (x : Command). others (x ∷ cs)) h
met ahead merges (WantView channel v) s c cs h = ap (λ (x : Command). others (x ∷ cs)) h
met ahead merges WantSync s (command.Sync r) cs h = refl
met ahead merges WantSync s _ cs h = absurd h
met ahead merges WantFrame s command.Frame cs h = refl
met ahead merges WantFrame s _ cs h = absurd h
met ahead merges WantClose s (command.Sync r) cs h = refl
met ahead merges WantClose s _ cs h = absurd h

-- what was made and what is still asked are what is asked
all_made : (ahead merges : ℕ) (asks : List Ask) (turns : List Turn) (left : List Ask) → Follows ahead merges asks turns left →
    others (map (λ (t : Turn). t.made) turns) ++ asks_commands left ≡ asks_commands asks
all_made ahead merges asks [] left h = ap asks_commands (sym h)
all_made ahead merges [] (t ∷ ts) left h = absurd h
all_made ahead merges (a ∷ asks) (t ∷ ts) left h =
    ap (λ (cs : List Command). cs ++ asks_commands left) (met ahead merges a.wanted t.found t.made (map (λ (u : Turn). u.made) ts) h.0)
    ∙ append_assoc (wanted_commands a.wanted) (others (map (λ (u : Turn). u.made) ts)) (asks_commands left)
    ∙ ap (λ (cs : List Command). wanted_commands a.wanted ++ cs) (all_made ahead merges asks ts left h.2)

-- what lines ask for are their commands
lines_ask : (need : ℕ) (synced : Bool) (lines : List AppLine) →
    asks_commands (asked_from need synced (map (λ (l : AppLine). l.step) lines)) ≡ line_commands lines
lines_ask need synced [] = refl
lines_ask need synced (l ∷ ls) = by l.step synced (λ n b. lines_ask n b ls)
  where
    by : (s : AppStep) (b : Bool) → ((n : ℕ) (b : Bool) → asks_commands (asked_from n b (map (λ (x : AppLine). x.step) ls)) ≡ line_commands ls) →
        asks_commands (asked_from need b (s ∷ map (λ (x : AppLine). x.step) ls)) ≡ step_commands s ++ line_commands ls
    by (app.Edit e) b more = ap (λ (cs : List Command). command.Edit e ∷ cs) (more need b)
    by (app.View channel v) b more = ap (λ (cs : List Command). command.View channel v ∷ cs) (more need b)
    by app.Sync b more = more need true
    by app.Frame true more = ap (λ (cs : List Command). command.Frame ∷ cs) (more need false)
    by app.Frame false more = ap (λ (cs : List Command). command.Frame ∷ cs) (more need false)
    by (app.Wait n) b more = more (max need n) b

-- Of the database process all merges asked for were made.
all_merged : (asks : List BaseAsk) (turns : List Turn) → FollowsBase asks turns [] →
    map (λ (t : Turn). t.made) turns ≡ map (λ (a : BaseAsk). command.Merge a.merge) asks
all_merged asks [] h = ap (λ (x : List BaseAsk). map (λ (a : BaseAsk). command.Merge a.merge) x) (sym h)
all_merged [] (t ∷ ts) h = absurd h
all_merged (a ∷ asks) (t ∷ ts) h = λ i. h.0 i ∷ all_merged asks ts h.2 i

-- What was made of each section

abbrev merges_of : List BaseLine → List Command
merges_of dbase = map (λ a. command.Merge a.merge) (asked_dbase dbase)

record Made (app : List AppLine) (dbase : List BaseLine) (log : Log) : Type 0 where
  of_app : others (own App log) ≡ line_commands app
  of_dbase : own Dbase log ≡ merges_of dbase

made_of : (channels ahead : ℕ) (app : List AppLine) (dbase : List BaseLine) (log : Log) → IsMade channels ahead app dbase log → Made app dbase log
made_of channels ahead app dbase log made =
    record {
      of_app =
          ap others (sym (turns_own App (opening_state channels) log))
          ∙ sym (append-nil _)
          ∙ all_made ahead (length (asked_dbase dbase)) (asked_app app) _ _ made.follows.follows_app
          ∙ lines_ask 0 false app;
      of_dbase = sym (turns_own Dbase (opening_state channels) log) ∙ all_merged (asked_dbase dbase) _ made.follows.follows_dbase;
    }

-- One caller alone

own_append : (caller : Caller) (xs ys : Log) → own caller (xs ++ ys) ≡ own caller xs ++ own caller ys
own_append caller xs ys =
    ap (λ (es : Log). map (λ e. e.1.command) es) (filter-append (is_by caller) xs ys)
    ∙ map-append (λ (e : ℕ × Entry). e.1.command) (filter (is_by caller) xs) (filter (is_by caller) ys)

commands_append : (xs ys : Log) → commands_of (xs ++ ys) ≡ commands_of xs ++ commands_of ys
commands_append xs ys =
    ap others (map-append (λ (e : ℕ × Entry). e.1.command) xs ys)
    ∙ filter-append is_no_sync (map (λ e. e.1.command) xs) (map (λ e. e.1.command) ys)

-- a list that follows one in front is what is behind it
behind : {X : Type 0} (xs ys zs : List X) → xs ++ ys ≡ xs ++ zs → ys ≡ zs
behind xs ys zs h = append_cancel_left xs ys zs h

one_more : (c : Command) (xs ys : List Command) → others xs ≡ others ys → others (c ∷ xs) ≡ others (c ∷ ys)
one_more c xs ys same = ap (λ (cs : List Command). cond (is_no_sync c) (c ∷ cs) cs) same

-- where the database process made nothing, all was made by the application
only_app : (log : Log) → own Dbase log ≡ [] → commands_of log ≡ others (own App log)
only_app [] none = refl
only_app (e ∷ es) none = by e.1.caller none (only_app es)
  where
    cs : List Command
    cs = map (λ x. x.1.command) es

    by : (k : Caller) → map (λ x. x.1.command) (cond (is_caller Dbase k) (e ∷ filter (is_by Dbase) es) (filter (is_by Dbase) es)) ≡ [] →
        (own Dbase es ≡ [] → commands_of es ≡ others (own App es)) →
        others (e.1.command ∷ cs) ≡ others (map (λ x. x.1.command) (cond (is_caller App k) (e ∷ filter (is_by App) es) (filter (is_by App) es)))
    by App none more = one_more e.1.command cs (own App es) (more none)
    by Dbase none more = absurd (let clash : e.1.command ∷ own Dbase es ≡ [] = none in cc)

-- where the application made Syncs alone, all else was made by the database process
only_dbase : (log : Log) → others (own App log) ≡ [] → commands_of log ≡ others (own Dbase log)
only_dbase [] none = refl
only_dbase (e ∷ es) none = by e.1.caller none (only_dbase es)
  where
    cs : List Command
    cs = map (λ x. x.1.command) es

    app_case : (c : Command) → others (c ∷ own App es) ≡ [] → (others (own App es) ≡ [] → commands_of es ≡ others (own Dbase es)) →
        others (c ∷ cs) ≡ others (own Dbase es)
    app_case (command.Sync r) none more = more none
    app_case (command.Edit x) none more = absurd (cc)
    app_case (command.Merge x) none more = absurd (cc)
    app_case (command.View channel v) none more = absurd (cc)
    app_case command.Frame none more = absurd (cc)

    by : (k : Caller) → others (map (λ x. x.1.command) (cond (is_caller App k) (e ∷ filter (is_by App) es) (filter (is_by App) es))) ≡ [] →
        (others (own App es) ≡ [] → commands_of es ≡ others (own Dbase es)) →
        others (e.1.command ∷ cs) ≡ others (map (λ x. x.1.command) (cond (is_caller Dbase k) (e ∷ filter (is_by Dbase) es) (filter (is_by Dbase) es)))
    by App none more = app_case e.1.command none more
    by Dbase none more = one_more e.1.command cs (own Dbase es) (more none)

-- merges are no Syncs
merges_stay : (asks : List BaseAsk) → others (map (λ a. command.Merge a.merge) asks) ≡ map (λ a. command.Merge a.merge) asks
merges_stay [] = refl
merges_stay (a ∷ asks) = ap (λ (cs : List Command). command.Merge a.merge ∷ cs) (merges_stay asks)

drop_front : {X : Type 0} (xs ys : List X) → drop (length xs) (xs ++ ys) ≡ ys
drop_front [] ys = refl
drop_front (x ∷ xs) ys = drop_front xs ys

lines_append : (xs ys : List AppLine) → line_commands (xs ++ ys) ≡ line_commands xs ++ line_commands ys
lines_append [] ys = refl
lines_append (l ∷ ls) ys =
    ap (λ (cs : List Command). step_commands l.step ++ cs) (lines_append ls ys)
    ∙ sym (append_assoc (step_commands l.step) (line_commands ls) (line_commands ys))

lines_in_order : (app : List AppLine) (dbase : List BaseLine) (log more : Log) (ls : List AppLine) → Made app dbase log →
    Made (app ++ ls) dbase (log ++ more) → commands_of (log ++ more) ≡ commands_of log ++ line_commands ls
lines_in_order app dbase log more ls old new =
    let none : own Dbase more ≡ [] =
    behind (own Dbase log) (own Dbase more) []
    (sym (own_append Dbase log more) ∙ new.of_dbase ∙ sym old.of_dbase ∙ sym (append-nil (own Dbase log))) in
    let mine : others (own App more) ≡ line_commands ls =
    behind (others (own App log)) (others (own App more)) (line_commands ls)
    (sym (filter-append is_no_sync (own App log) (own App more)) ∙ ap others (sym (own_append App log more)) ∙ new.of_app
    ∙ lines_append app ls ∙ ap (λ (cs : List Command). cs ++ line_commands ls) (sym old.of_app)) in
    commands_append log more ∙ ap (λ (cs : List Command). commands_of log ++ cs) (only_app more none ∙ mine)

block_in_order : (app : List AppLine) (dbase : List BaseLine) (log more : Log) (ls : List BaseLine) → Made app dbase log →
    Made app (dbase ++ ls) (log ++ more) → commands_of (log ++ more) ≡ commands_of log ++ merges_behind dbase ls
block_in_order app dbase log more ls old new =
    let none : others (own App more) ≡ [] =
    behind (others (own App log)) (others (own App more)) []
    (sym (filter-append is_no_sync (own App log) (own App more)) ∙ ap others (sym (own_append App log more)) ∙ new.of_app
    ∙ sym old.of_app ∙ sym (append-nil (others (own App log)))) in
    let asks = asked_dbase (dbase ++ ls) in
    let n = length (asked_dbase dbase) in
    let many : n ≡ length (own Dbase log) = sym (ap length old.of_dbase ∙ length-map (asked_dbase dbase) _) in
    let mine : own Dbase more ≡ merges_behind dbase ls =
    sym (drop_front (own Dbase log) (own Dbase more))
    ∙ ap (drop (length (own Dbase log))) (sym (own_append Dbase log more) ∙ new.of_dbase)
    ∙ ap (λ (k : ℕ). drop k (merges_of (dbase ++ ls))) (sym many)
    ∙ drop-map (λ (a : BaseAsk). command.Merge a.merge) n asks in
    commands_append log more
    ∙ ap (λ (cs : List Command). commands_of log ++ cs) (only_dbase more none ∙ ap others mine ∙ merges_stay (drop n asks))

pub order_law : OrderLaw
order_law channels ahead app dbase log more made =
    let old = made_of channels ahead app dbase log made in
    record {
      lines = λ ls grown. lines_in_order app dbase log more ls old (made_of channels ahead (app ++ ls) dbase (log ++ more) grown);
      block = λ ls grown. block_in_order app dbase log more ls old (made_of channels ahead app (dbase ++ ls) (log ++ more) grown);
    }
