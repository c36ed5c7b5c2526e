-- Which words are right, and what they mean.
use Rattle.std.specs.Prelude.{ℕ, Bool, false, not, ◌&&◌, nat_lt, if◌then◌else◌, ◌==◌, List, length, Option, Some, None, option_map, codes, decimal}
use Rattle.std.specs.List.{list_any}
use Rattle.std.specs.Option.{option_map_or}
use Rattle.std.specs.Str.{bytes_eq}
use Rattle.std.specs.Str.Parse.{digits_value}
use Rattle.nearest_hit.specs.declared.segment.Segment.{Segment}
use Rattle.clap.specs.Words.{Row, Text, first_of, fault_of, matches_of}
use Rattle.program_words.specs.Usage.{usage}
use Rattle.program_words.specs.Probes.{segment_in}
use Rattle.program_words.specs.declared.words.Mode.{Mode}
use Rattle.program_words.specs.declared.words.Mode.TheVariants as mode
use Rattle.program_words.specs.declared.words.Words.{Words}

-- the number that a text spells as it would be written, from low to high
abbrev pub number_in : ℕ → ℕ → Text → Option ℕ
number_in low high text =
    let n = digits_value 10 text in if bytes_eq (decimal n) text && (not (nat_lt n low) && not (nat_lt high n)) then Some n else None

-- a value that was given has to be right, and one that was not given is the default
abbrev pub given_or : {X : Type 0} → X → (Text → Option X) → Option Text → Option X
given_or default read None = Some default
given_or default read (Some text) = read text

-- the mode that has this name
abbrev pub mode_named : Text → Option Mode
mode_named text =
    if bytes_eq text (codes "appculldraw") then Some mode.Appculldraw
    else (if bytes_eq text (codes "app_culldraw") then Some mode.AppCulldraw
    else (if bytes_eq text (codes "appcull_draw") then Some mode.AppcullDraw
    else (if bytes_eq text (codes "app_cull_draw") then Some mode.AppCullDraw else None)))

abbrev pub mode_of : Option Text → Option Mode
mode_of given = given_or mode.Appculldraw mode_named given

-- a flag that stands has the value `true`, and one that doesn't has `false`
abbrev pub dbase_of : Option Text → Bool
dbase_of given = option_map_or (λ text. bytes_eq text (codes "true")) given false

abbrev pub ahead_of : Option Text → Option ℕ
ahead_of given = given_or 1 (number_in 1 4) given

abbrev pub make_of : Option Text → Option (Option ℕ)
make_of given = given_or None (λ text. option_map Some (number_in 1 256 text)) given

-- the segment whose nearest hit is asked for in each frame, where one is
abbrev pub probe_of : Option Text → Option (Option Segment)
probe_of given = given_or None (λ text. option_map Some (segment_in text)) given

-- the number of items that a piece of a draw list has at most, where draw lists are sent in pieces
abbrev pub stream_of : Option Text → Option (Option ℕ)
stream_of given = given_or None (λ text. option_map Some (number_in 1 4096 text)) given

-- all of them, where each is right
abbrev pub words_of : Option Mode → Bool → Option ℕ → Option (Option ℕ) → Option (Option Segment) → Option (Option ℕ) → Option Words
words_of (Some mode) dbase (Some ahead) (Some make) (Some probe) (Some stream) =
    Some (record { mode = mode; dbase = dbase; ahead = ahead; make = make; probe = probe; stream = stream })
words_of _ _ _ _ _ _ = None

-- what the values of the options mean
abbrev pub meaning_of_values : List Row → Option Words
meaning_of_values rows =
    words_of (mode_of (first_of (codes "mode") rows)) (dbase_of (first_of (codes "dbase") rows))
    (ahead_of (first_of (codes "ahead") rows)) (make_of (first_of (codes "make") rows))
    (probe_of (first_of (codes "probe") rows)) (stream_of (first_of (codes "stream") rows))

-- The meaning of words: there is one where none is `--`, clap has matches for them, and the values are right.
unfoldable pub meaning_of_words : List Text → Option Words
meaning_of_words words =
    if list_any (λ w. bytes_eq w (codes "--")) words then None
    else (if length (fault_of usage words) == 0 then meaning_of_values (matches_of usage words) else None)
