-- Command lines.
-- Cited by contracts of public items: Asks.
use Rattle.std.specs.Prelude.{◌≡◌, ◌<◌, ◌^◌, ◌-◌, ℕ, ◌+◌, true, false, ◌||◌, if◌then◌else◌, List, [], ◌∷◌, codes, get_or, map, Option, Some, None, Result, Ok, Err, string_bytes}
use Rattle.std.specs.Global.{Global}
use Rattle.std.specs.Str.{bytes_eq}
use Rattle.std.specs.Str.Parse.{IsNumeral, digits_value, without_leading_plus}
use Rattle.std.specs.declared.string.String.{String}
use Rattle.jj_log.specs.declared.arguments.Awaited.{Awaited}
use Rattle.jj_log.specs.declared.arguments.Awaited.TheVariants.{Nothing, Columns, Style as style}
use Rattle.jj_log.specs.declared.arguments.CommandLine.{CommandLine}
use Rattle.jj_log.specs.declared.arguments.LogOptions.{LogOptions}
use Rattle.jj_log.specs.declared.arguments.OptionName.{OptionName}
use Rattle.jj_log.specs.declared.arguments.OptionName.TheVariants.{Help, Version, Nul, Columns as columns, Style as style'}
use Rattle.jj_log.specs.declared.arguments.Task.TheVariants.{Draw, Help as help, Version as version}
use Rattle.jj_log.specs.declared.arguments.UsageError.{UsageError}
use Rattle.jj_log.specs.declared.arguments.UsageError.TheVariants.{UnknownArgument, UnknownStyle, NoColumns, NoStyle}
use Rattle.jj_log.specs.declared.style.Style.{Style}
use Rattle.jj_log.specs.declared.style.Style.TheVariants.{Ascii, Unicode}

-- the option of a word
unfoldable pub option_named : List ℕ → Option OptionName
option_named word =
    if bytes_eq word (codes "-h") || bytes_eq word (codes "--help") then Some Help
    else (if bytes_eq word (codes "-V") || bytes_eq word (codes "--version") then Some Version
    else (if bytes_eq word (codes "-z") || bytes_eq word (codes "--null") then Some Nul
    else (if bytes_eq word (codes "--columns") then Some columns
    else (if bytes_eq word (codes "--style") then Some style' else None))))

-- the style of a word
unfoldable pub style_named : List ℕ → Option Style
style_named word = if bytes_eq word (codes "ascii") then Some Ascii
    else (if bytes_eq word (codes "unicode") then Some Unicode else None)

abbrev pub no_words : CommandLine
no_words = record { task = Draw; columns = None; style = Ascii; nul = false; awaited = Nothing }

abbrev pub after_option : CommandLine → OptionName → CommandLine
after_option line Help = record line { task = help }
after_option line Version = record line { task = version }
after_option line Nul = record line { nul = true }
after_option line columns = record line { awaited = Columns }
after_option line style' = record line { awaited = style }

abbrev pub after_named : CommandLine → ℕ → Option OptionName → Result CommandLine UsageError
after_named line index (Some name) = Ok (after_option line name)
after_named line index None = Err (UnknownArgument index)

abbrev pub with_style : CommandLine → ℕ → Option Style → Result CommandLine UsageError
with_style line index (Some own) = Ok (record line { style = own; awaited = Nothing })
with_style line index None = Err (UnknownStyle index)

-- the line after the word at this index: an option, or the value of one
abbrev pub after_awaited : CommandLine → Awaited → ℕ → List ℕ → Result CommandLine UsageError
after_awaited line Nothing index word = after_named line index (option_named word)
after_awaited line Columns index word =
    Ok (record line { columns = Some index; awaited = Nothing })
after_awaited line style index word = with_style line index (style_named word)

-- the line after the word at this index
abbrev pub after_word : CommandLine → ℕ → List ℕ → Result CommandLine UsageError
after_word line = after_awaited line line.awaited

-- the line if no value of an option is awaited, else the error that it is missing
abbrev pub ended : CommandLine → Awaited → Result CommandLine UsageError
ended line Nothing = Ok line
ended line Columns = Err NoColumns
ended line style = Err NoStyle

-- the line at the end of the words, or the error that a value is missing
abbrev pub complete : CommandLine → Result CommandLine UsageError
complete line = ended line line.awaited

-- the command line of the words from this index on
abbrev pub after_words : Result CommandLine UsageError → ℕ → List (List ℕ)
    → Result CommandLine UsageError
after_words (Err error) index words = Err error
after_words (Ok line) index [] = complete line
after_words (Ok line) index (word ∷ words) =
    after_words (after_word line index word) (index + 1) words

-- the command line of these words, or its first error
abbrev pub command_line : List (List ℕ) → Result CommandLine UsageError
command_line words = after_words (Ok no_words) 0 words

-- the most columns: the number that the word at this index is, or any number
abbrev pub IsMost : List (List ℕ) → Option ℕ → (most : ℕ) → Type 0
IsMost words None most = most ≡ 2 ^ 64 - 1
IsMost words (Some index) most = IsNumeral 10 (without_leading_plus (get_or words index []))
    × (most < 2 ^ 64) × (most ≡ digits_value 10 (without_leading_plus (get_or words index [])))

-- the words ask for a drawing with these options
pub record Asks (words : List (String Global)) (options : LogOptions) : Type 0 where
  pub line : CommandLine
  pub parsed : command_line (map string_bytes words) ≡ Ok line
  pub draws : line.task ≡ Draw
  pub most : IsMost (map string_bytes words) line.columns options.max_columns
  pub style : options.style ≡ line.style
  pub nul : options.nul ≡ line.nul
