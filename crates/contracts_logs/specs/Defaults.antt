-- The options of a drawing without arguments.
-- Cited by contracts of public items: default_options.
use Rattle.std.specs.Prelude.{◌^◌, ◌-◌, false}
use Rattle.jj_log.specs.declared.arguments.LogOptions.{LogOptions}
use Rattle.jj_log.specs.declared.style.Style.TheVariants.{Ascii}

-- the options of a log that is as wide as needed, in ASCII
abbrev pub default_options : LogOptions
default_options = record { max_columns = 2 ^ 64 - 1; style = Ascii; nul = false }
