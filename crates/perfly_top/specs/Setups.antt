-- How the words divide the stages of a play among threads.
use Rattle.std.specs.Prelude.{Bool, true, false, not, ◌&&◌, None, if◌then◌else◌}
use Rattle.std.specs.Option.{is_some}
use Rattle.mode_hosts.specs.declared.modes.Mode.{Mode as HostMode}
use Rattle.mode_hosts.specs.declared.modes.Mode.TheVariants as host
use Rattle.mode_hosts.specs.declared.modes.Setup.{Setup}
use Rattle.program_words.specs.declared.words.Mode.{Mode}
use Rattle.program_words.specs.declared.words.Mode.TheVariants as mode
use Rattle.program_words.specs.declared.words.Words.{Words}
use Rattle.perfly_top.specs.declared.setup.AloneWords.{AloneWords}
use Rattle.perfly_top.specs.declared.setup.Players.{Players}
use Rattle.perfly_top.specs.declared.setup.Players.TheVariants as players

-- the mode of hosts of the same name
abbrev pub host_mode : Mode → HostMode
host_mode mode.Appculldraw = host.Appculldraw
host_mode mode.AppCulldraw = host.AppCulldraw
host_mode mode.AppcullDraw = host.AppcullDraw
host_mode mode.AppCullDraw = host.AppCullDraw

abbrev pub setup_of : Words → Setup
setup_of words =
    record { mode = host_mode words.mode; dbase = words.dbase; ahead = words.ahead; probe = words.probe; stream = words.stream }

-- one thread has all stages
abbrev pub has_one : Mode → Bool
has_one mode.Appculldraw = true
has_one _ = false

-- no stage has a thread of its own, and draw lists are sent whole
abbrev pub is_on_one_thread : Words → Bool
is_on_one_thread words = has_one words.mode && (not words.dbase && (not (is_some words.probe) && not (is_some words.stream)))

-- the words that ask this of one thread
abbrev pub words_alone : AloneWords → Words
words_alone w = record { mode = mode.Appculldraw; dbase = false; ahead = w.ahead; make = w.make; probe = None; stream = None }

-- who plays a play: one thread, with nothing shared, or else the hosts of the setup
abbrev pub players_of : Words → Players
players_of words = if is_on_one_thread words then players.Alone words.ahead else players.Hosts (setup_of words)
