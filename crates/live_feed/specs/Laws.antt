-- What the definitions of a feed imply.
use Rattle.std.specs.Prelude.{◌≡◌, ℕ, ◌+◌, ◌<◌, List, [], ◌∷◌, ◌++◌, length}
use Rattle.pf_model.specs.declared.lines.AppLine.{AppLine}
use Rattle.pf_model.specs.declared.lines.BaseLine.{BaseLine}
use Rattle.live_text.specs.declared.given.Given.{Given}
use Rattle.live_text.specs.declared.given.Given.TheVariants as live
use Rattle.live_text.specs.LiveCommands.{LiveCommand, Line, Block, LiveHeader, wait_at, first_number, play_of}
use Rattle.live_feed.specs.Feeds.{FeedState, Fed, IsSpelled, commands_of}

-- Where anything was given, it is one header and then commands, and a front of the text spells them.
abbrev pub FedIsSpelled : Type 0
FedIsSpelled = (text : List ℕ) (gs : List Given) (f : FeedState) → Fed text gs f → 0 < length gs → IsSpelled text gs

-- one more that was given is one command more
pub record GivenGrows : Type 0 where
  pub line : (gs : List Given) (l : AppLine) → commands_of (gs ++ live.Line l ∷ []) ≡ commands_of gs ++ Line l ∷ []
  pub block : (gs : List Given) (ls : _) → commands_of (gs ++ live.Block ls ∷ []) ≡ commands_of gs ++ Block ls.items ∷ []

abbrev pub blocks_in : List LiveCommand → ℕ
blocks_in [] = 0
blocks_in (Line l ∷ cs) = blocks_in cs
blocks_in (Block ls ∷ cs) = blocks_in cs + 1

-- the play of one command more: a line stands behind the others; a block stands behind the others, and its wait behind the lines
pub record PlayGrows : Type 0 where
  pub line : (h : LiveHeader) (cs : List LiveCommand) (l : AppLine)
      → play_of h (cs ++ Line l ∷ []) ≡ record (play_of h cs) { app = (play_of h cs).app ++ l ∷ [] }
  pub block : (h : LiveHeader) (cs : List LiveCommand) (ls : List BaseLine)
      → play_of h (cs ++ Block ls ∷ []) ≡ record (play_of h cs) {
        app = (play_of h cs).app ++ wait_at (first_number ls) (blocks_in cs + 1) ∷ [];
        dbase = (play_of h cs).dbase ++ ls;
      }
