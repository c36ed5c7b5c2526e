-- The usage `[--mode m] [--dbase] [--ahead n] [--make n] [--probe s] [--stream n]`, as a simple command of clap.
use Rattle.std.specs.Prelude.{true, Some, codes}
use Rattle.clap.specs.Words.{App, Rule, Text, new_app, new_rule, with_rule}
use Rattle.clap.specs.Simple.{on_top}
use Rattle.clap.specs.declared.builder.ArgAction.TheVariants.{Set, SetTrue}

-- a long option with one value
abbrev pub option_rule : Text → Rule
option_rule name = record (new_rule name) { long = Some name; action = Some Set }

-- a flag
abbrev pub flag_rule : Text → Rule
flag_rule name = record (new_rule name) { long = Some name; action = Some SetTrue }

-- the command without options: its words begin behind the program's name, and there is neither help nor version
abbrev pub bare : App
bare =
    on_top (λ s. record s { no_binary_name = true; disable_help_flag = true; disable_version_flag = true })
    (new_app (codes "perfly"))

-- with the options that say how a play is played
abbrev pub playing : App
playing =
    with_rule (with_rule (with_rule bare (option_rule (codes "mode"))) (flag_rule (codes "dbase")))
    (option_rule (codes "ahead"))

-- and those that say what is played, what is told of it, and in what pieces draw lists are sent
abbrev pub usage : App
usage =
    with_rule (with_rule (with_rule playing (option_rule (codes "make"))) (option_rule (codes "probe")))
    (option_rule (codes "stream"))
