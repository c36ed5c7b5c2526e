-- The commands of a live text, and the lines that spell them.
use Rattle.std.specs.Prelude.{◌≡◌, ℕ, ◌+◌, Bool, true, false, List, [], ◌∷◌, ◌++◌, length, Option, Some, Result, Ok}
use Rattle.std.specs.List.{flat_map, list_all, AllByRecursion}
use Rattle.fx_math.specs.declared.lenses.Lens.{Lens}
use Rattle.pf_model.specs.declared.lines.AppStep.{AppStep}
use Rattle.pf_model.specs.declared.lines.AppStep.TheVariants as app_step
use Rattle.pf_model.specs.declared.lines.AppLine.{AppLine}
use Rattle.pf_model.specs.declared.lines.BaseStep.{BaseStep}
use Rattle.pf_model.specs.declared.lines.BaseStep.TheVariants as base_step
use Rattle.pf_model.specs.declared.lines.BaseLine.{BaseLine}
use Rattle.play_format.specs.Commands.{Entry}
use Rattle.play_format.specs.Spelling.{app_lines, base_entries, header_entries, AreBaseNumbered}
use Rattle.play_format.specs.Written.{IsAppStep, IsBaseStep}
use Rattle.play_format.specs.Plays.{Script, app_fits, base_fits, open_after}
use Rattle.play_format.specs.Reads.{first_line}
use Rattle.live_text.specs.LiveGrammar.{live_reading}

-- a line of the application, or a block: the steps of the database process from `buffer` to `merge`
pub data LiveCommand : Type 0 where
  Line : AppLine → LiveCommand
  Block : List BaseLine → LiveCommand

-- what the header says
pub record LiveHeader : Type 0 where
  pub lens : Lens
  pub back : List ℕ
  pub channels : ℕ

abbrev pub is_wait : AppStep → Bool
is_wait (app_step.Wait n) = true
is_wait _ = false

abbrev pub is_merge : BaseStep → Bool
is_merge base_step.Merge = true
is_merge _ = false

-- steps of which the last is the only `merge`
abbrev pub MergesOnce : List BaseLine → Type 0
MergesOnce [] = ⊥
MergesOnce (l ∷ []) = is_merge l.step ≡ true
MergesOnce (l ∷ m ∷ ls) = (is_merge l.step ≡ false) × MergesOnce (m ∷ ls)

-- the first step opens the block
abbrev pub BeginsWithBuffer : List BaseLine → Type 0
BeginsWithBuffer [] = ⊥
BeginsWithBuffer (l ∷ ls) = l.step ≡ base_step.Buffer

-- lines that spell a header
pub record SpellsHeader (h : LiveHeader) (es : List Entry) : Type 0 where
  pub says : Bool
  pub lines : es ≡ header_entries says h.lens h.back h.channels
  pub one_channel : says ≡ false → h.channels ≡ 1
  pub back : length h.back ≡ 3

-- lines from number n on that spell a line of the application; a live text has no `wait`
pub record SpellsLine (channels n : ℕ) (l : AppLine) (es : List Entry) : Type 0 where
  pub lines : es ≡ app_lines l.step
  pub number : l.line ≡ n
  pub written : IsAppStep l.step
  pub fitting : app_fits channels l.step ≡ true
  pub goes : is_wait l.step ≡ false

-- lines from number n on that spell a block
pub record SpellsBlock (n : ℕ) (ls : List BaseLine) (es : List Entry) : Type 0 where
  pub lines : es ≡ base_entries ls
  pub numbered : AreBaseNumbered n ls
  pub written : AllByRecursion (λ l. IsBaseStep l.step) ls
  pub fitting : list_all (λ l. base_fits l.step) ls ≡ true
  pub begins : BeginsWithBuffer ls
  pub closed : open_after false ls ≡ Some false
  pub once : MergesOnce ls

abbrev pub SpellsCommand : ℕ → ℕ → LiveCommand → List Entry → Type 0
SpellsCommand channels n (Line l) es = SpellsLine channels n l es
SpellsCommand channels n (Block ls) es = SpellsBlock n ls es

-- lines from number n on that spell commands, one after the other
abbrev pub SpellCommands : ℕ → ℕ → List LiveCommand → List Entry → Type 0
SpellCommands channels n [] es = es ≡ []
SpellCommands channels n (c ∷ cs) es =
    (first : List Entry) × (more : List Entry) × (es ≡ first ++ more) × SpellsCommand channels n c first
    × SpellCommands channels (n + length first) cs more

-- a live text of a header and commands
pub record SpellsLive (text : List ℕ) (h : LiveHeader) (cs : List LiveCommand) : Type 0 where
  pub header_lines : List Entry
  pub lines : List Entry
  pub read : live_reading text ≡ Ok (header_lines ++ lines)
  pub header : SpellsHeader h header_lines
  pub commands : SpellCommands h.channels (2 + length header_lines) cs lines

-- the play of a live text

-- `wait k`, at line n
abbrev pub wait_at : ℕ → ℕ → AppLine
wait_at n k = record { line = n; step = app_step.Wait k }

abbrev pub first_number : List BaseLine → ℕ
first_number [] = 0
first_number (l ∷ ls) = l.line

-- the steps of the application: its lines, and behind the k-th block `wait k`, with the number of the block's first line
abbrev pub app_steps : ℕ → List LiveCommand → List AppLine
app_steps k [] = []
app_steps k (Line l ∷ cs) = l ∷ app_steps k cs
app_steps k (Block ls ∷ cs) = wait_at (first_number ls) (k + 1) ∷ app_steps (k + 1) cs

-- the steps of the database process: the blocks
abbrev pub dbase_steps : List LiveCommand → List BaseLine
dbase_steps [] = []
dbase_steps (Line l ∷ cs) = dbase_steps cs
dbase_steps (Block ls ∷ cs) = ls ++ dbase_steps cs

-- a live text as a play, in which the application waits for each merge where the block stands
abbrev pub play_of : LiveHeader → List LiveCommand → Script
play_of h cs = record {
  lens = h.lens;
  back = h.back;
  channels = h.channels;
  app = app_steps 0 cs;
  dbase = dbase_steps cs;
}
