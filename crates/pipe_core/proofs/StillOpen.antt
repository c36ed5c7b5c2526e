-- An application that adds no entry does not close.
use Rattle.std.proofs.Common.{◌≡◌, ℕ, ◌+◌, max, ◌<◌, Bool, true, false, cond, List, [], ◌∷◌, map, drop, length, refl, ap, arith}
use Rattle.pf_model.specs.declared.lines.AppLine.{AppLine}
use Rattle.pf_model.specs.declared.lines.AppStep.{AppStep}
use Rattle.pf_model.specs.declared.lines.AppStep.TheVariants as app
use Rattle.pf_history.specs.declared.commands.Caller.TheVariants.{App}
use Rattle.pf_history.specs.Asks.{Ask, Turn, asked_app, asked_from, Follows}
use Rattle.pf_history.specs.Fits.{turns_of}
use Rattle.pf_history.specs.Logs.{Log}
use Rattle.play_format.specs.Plays.{Script}
use Rattle.stage_parts.specs.States.{still_asked}
use Rattle.pipe_plays.specs.Plays.{setup_of}
use Rattle.pipe_core.specs.Cores.{CoreState, CoreFits}

-- what was made and what is still asked are as many as what is asked
left_many : (ahead merges : ℕ) (asks : List Ask) (turns : List Turn) (left : List Ask) → Follows ahead merges asks turns left →
    length turns + length left ≡ length asks
left_many ahead merges asks [] left h = let same = ap (λ (l : List Ask). length l) h in omega (arith, same)
left_many ahead merges [] (t ∷ ts) left h = absurd h
left_many ahead merges (a ∷ asks) (t ∷ ts) left h = let rest = left_many ahead merges asks ts left h.2 in omega (arith, rest)

-- something is always asked: the close at least
some_asked : (need : ℕ) (synced : Bool) (steps : List AppStep) → 0 < length (asked_from need synced steps)
some_asked need synced [] = omega arith
some_asked need synced (app.Edit e ∷ steps) = omega arith
some_asked need synced (app.View channel v ∷ steps) = omega arith
some_asked need synced (app.Sync ∷ steps) = omega arith
some_asked need true (app.Frame ∷ steps) = omega arith
some_asked need false (app.Frame ∷ steps) = omega arith
some_asked need synced (app.Wait n ∷ steps) = some_asked (max need n) synced steps

-- what was made and what is still asked of a core are as many as what its play asks
many_left : (play : Script) (ahead : ℕ) (x : CoreState) → CoreFits play ahead x →
    length (turns_of play.channels App x.pipe.log) + length (still_asked (setup_of play ahead) x.pipe.app) ≡ length (asked_app play.app)
many_left play ahead x fits = left_many ahead _ (asked_app play.app) _ _ fits.pipe.history.follows.follows_app

-- before the first entry it has not closed
pub begins_open : (play : Script) (ahead : ℕ) (s : CoreState) → CoreFits play ahead s → s.pipe.log ≡ [] → s.pipe.app.closed ≡ false
begins_open play ahead s fits log = by s.pipe.app.closed refl
  where
    by : (b : Bool) → s.pipe.app.closed ≡ b → s.pipe.app.closed ≡ false
    by false is = is
    by true is =
        let asks = asked_from s.pipe.app.need s.pipe.app.synced (drop s.pipe.app.at (map (λ (l : AppLine). l.step) play.app)) in
        let all = many_left play ahead s fits in
        let turns : length (turns_of play.channels App s.pipe.log) ≡ 0 = ap (λ (l : Log). length (turns_of play.channels App l)) log in
        let none : length (still_asked (setup_of play ahead) s.pipe.app) ≡ 0 = ap (λ (b : Bool). length (cond b [] asks)) is in
        let some = some_asked 0 false (map (λ (l : AppLine). l.step) play.app) in
        absurd (omega (arith, all, turns, none, some))

pub still_open : (play : Script) (ahead : ℕ) (s t : CoreState) → CoreFits play ahead s → CoreFits play ahead t → t.pipe.log ≡ s.pipe.log →
    s.pipe.app.closed ≡ false → t.pipe.app.closed ≡ false
still_open play ahead s t fits later same going = by t.pipe.app.closed refl
  where
    asks : CoreState → List Ask
    asks x = asked_from x.pipe.app.need x.pipe.app.synced (drop x.pipe.app.at (map (λ (l : AppLine). l.step) play.app))

    by : (b : Bool) → t.pipe.app.closed ≡ b → t.pipe.app.closed ≡ false
    by false is = is
    by true is =
        let before = many_left play ahead s fits in
        let after = many_left play ahead t later in
        let logs = ap (λ (log : Log). length (turns_of play.channels App log)) same in
        let none : length (still_asked (setup_of play ahead) t.pipe.app) ≡ 0 = ap (λ (b : Bool). length (cond b [] (asks t))) is in
        let left : length (still_asked (setup_of play ahead) s.pipe.app) ≡ length (asks s) = ap (λ (b : Bool). length (cond b [] (asks s))) going in
        let some = some_asked s.pipe.app.need s.pipe.app.synced (drop s.pipe.app.at (map (λ (l : AppLine). l.step) play.app)) in
        absurd (omega (arith, before, after, logs, none, left, some))
