-- What the words of a live run mean.
use Rattle.std.specs.Prelude.{Bool, false, not, ◌&&◌, List, Option, Some, None, if◌then◌else◌}
use Rattle.std.specs.Option.{is_some}
use Rattle.clap.specs.Words.{Text}
use Rattle.mode_hosts.specs.declared.modes.Mode.{Mode as HostMode}
use Rattle.mode_hosts.specs.declared.modes.Mode.TheVariants as host
use Rattle.mode_hosts.specs.declared.modes.Setup.{Setup}
use Rattle.program_words.specs.declared.words.Mode.{Mode}
use Rattle.program_words.specs.declared.words.Mode.TheVariants as mode
use Rattle.program_words.specs.declared.words.Words.{Words}
use Rattle.program_words.specs.Meaning.{meaning_of_words}

-- the mode of hosts of the same name
abbrev pub live_mode : Mode → HostMode
live_mode mode.Appculldraw = host.Appculldraw
live_mode mode.AppCulldraw = host.AppCulldraw
live_mode mode.AppcullDraw = host.AppcullDraw
live_mode mode.AppCullDraw = host.AppCullDraw

-- the words of perfly that a live run has: all but `--dbase`, `--make` and `--probe`
abbrev pub are_live : Words → Bool
are_live words = not words.dbase && (not (is_some words.make) && not (is_some words.probe))

abbrev pub live_setup : Words → Setup
live_setup words =
    record { mode = live_mode words.mode; dbase = false; ahead = words.ahead; probe = None; stream = words.stream }

-- what words ask for, where they are right ones of perfly that a live run has
abbrev pub setup_if_live : Option Words → Option Setup
setup_if_live None = None
setup_if_live (Some words) = if are_live words then Some (live_setup words) else None

abbrev pub live_meaning : List Text → Option Setup
live_meaning words = setup_if_live (meaning_of_words words)
