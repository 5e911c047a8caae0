-- Outcomes of an application.
use Rattle.std.specs.Prelude.{◌≡◌, ◌-◌, ℕ, List, Option, Result, Ok, Err, drop, string_bytes}
use Rattle.std.specs.Option.{option_map}
use Rattle.std.specs.declared.string.String.{String}
use Rattle.std.proofs.Common.{Vec, Global}
use Rattle.jj_diff_presentation.specs.Applying.{applied, first_excerpt}
use Rattle.jj_diff_presentation.specs.Lines.{split_lines}
use Rattle.jj_diff_presentation.specs.declared.unified.application.ApplyError.{ApplyError}
use Rattle.jj_diff_presentation.specs.declared.unified.application.ApplyError.TheVariants.{Memory, Fault}
use Rattle.jj_diff_presentation.specs.declared.unified.patch.PatchFault.{PatchFault}

-- an error, if there is one, is a failed allocation
abbrev pub IsOutOfMemory : Result (Vec ℕ Global) ApplyError → Type 0
IsOutOfMemory (Ok bytes) = Unit {0}
IsOutOfMemory (Err (Memory e)) = Unit {0}
IsOutOfMemory (Err (Fault f found)) = ⊥

-- the number of the first line that is not as expected, and an excerpt of it if there is one
pub record IsWrongLine (left patch : List ℕ) (wrong : ℕ × Option (String Global)) : Type 0 where
  pub fault : PatchFault
  pub is : applied left patch ≡ Err fault
  pub line : wrong.0 ≡ fault.line
  pub quoted : option_map string_bytes wrong.1
      ≡ first_excerpt (drop (wrong.0 - 1) (split_lines patch))
