-- Command lines.
use Rattle.std.specs.Prelude.{ℕ, ◌+◌, Bool, true, false, not, ◌==◌, ◌&&◌, ◌||◌, nat_lt, if◌then◌else◌, List, [], ◌∷◌, length, slice_index, codes, Option, Some, None, Result, Ok, Err}
use Rattle.std.specs.Str.{bytes_eq}
use Rattle.jj_filesets_cli.specs.declared.arguments.CommandLine.{CommandLine}
use Rattle.jj_filesets_cli.specs.declared.arguments.OptionName.{OptionName}
use Rattle.jj_filesets_cli.specs.declared.arguments.OptionName.TheVariants.{Help, Version, Nul, SkipInvalid, FailIfNone, End}
use Rattle.jj_filesets_cli.specs.declared.arguments.Task.{Task}
use Rattle.jj_filesets_cli.specs.declared.arguments.Task.TheVariants.{Select, Help as help, Version as version}
use Rattle.jj_filesets_cli.specs.declared.arguments.UsageError.{UsageError}
use Rattle.jj_filesets_cli.specs.declared.arguments.UsageError.TheVariants.{UnknownOption, SecondExpression, NoExpression}

-- the option of a word
unfoldable pub option_named : List ℕ → Option OptionName
option_named word =
    if bytes_eq word (codes "-h") || bytes_eq word (codes "--help") then Some Help
    else (if bytes_eq word (codes "-V") || bytes_eq word (codes "--version") then Some Version
    else (if bytes_eq word (codes "-z") || bytes_eq word (codes "--null") then Some Nul
    else (if bytes_eq word (codes "--skip-invalid") then Some SkipInvalid
    else (if bytes_eq word (codes "--fail-if-none") then Some FailIfNone
    else (if bytes_eq word (codes "--") then Some End else None)))))

-- a hyphen and more
abbrev pub is_option : List ℕ → Bool
is_option word = nat_lt 1 (length word) && (slice_index word 0 == 45)

abbrev pub no_words : CommandLine
no_words = record {
  task = Select;
  options = record { nul = false; skips_invalid = false };
  fails_if_none = false;
  has_ended = false;
  expression = None;
}

abbrev pub after_option : CommandLine → OptionName → CommandLine
after_option line Help = record line { task = help }
after_option line Version = record line { task = version }
after_option line Nul = record line { options = record line.options { nul = true } }
after_option line SkipInvalid =
    record line { options = record line.options { skips_invalid = true } }
after_option line FailIfNone = record line { fails_if_none = true }
after_option line End = record line { has_ended = true }

abbrev pub after_named : CommandLine → ℕ → Option OptionName → Result CommandLine UsageError
after_named line index (Some name) = Ok (after_option line name)
after_named line index None = Err (UnknownOption index)

abbrev pub as_expression : CommandLine → ℕ → Option ℕ → Result CommandLine UsageError
as_expression line index (Some earlier) = Err (SecondExpression index)
as_expression line index None = Ok (record line { expression = Some index })

abbrev pub with_expression : CommandLine → ℕ → Result CommandLine UsageError
with_expression line index = as_expression line index line.expression

-- the line after the word at this index; after `--` no word is an option
abbrev pub after_word : CommandLine → ℕ → List ℕ → Result CommandLine UsageError
after_word line index word =
    if line.has_ended || not (is_option word) then with_expression line index
    else after_named line index (option_named word)

abbrev pub needs_expression : Task → Option ℕ → Bool
needs_expression Select None = true
needs_expression task expression = false

abbrev pub complete : CommandLine → Result CommandLine UsageError
complete line = if needs_expression line.task line.expression then Err NoExpression else Ok line

-- the command line of the words from this index on
abbrev pub after_words : Result CommandLine UsageError → ℕ → List (List ℕ)
    → Result CommandLine UsageError
after_words (Err error) index words = Err error
after_words (Ok line) index [] = complete line
after_words (Ok line) index (word ∷ words) =
    after_words (after_word line index word) (index + 1) words

abbrev pub command_line : List (List ℕ) → Result CommandLine UsageError
command_line words = after_words (Ok no_words) 0 words
