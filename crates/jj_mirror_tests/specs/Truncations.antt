-- The error of a tree that ends before its entries.
use Rattle.std.specs.Prelude.{◌≡◌, ⊤}
use Rattle.jj_decode.specs.declared.error.Malformation.TheVariants.{Truncated}
use Rattle.jj_mirror.specs.declared.error.ReplayError.{ReplayError}
use Rattle.jj_mirror.specs.declared.error.ReplayError.TheVariants.{Memory, Malformed, WrongObject, Backend}

-- if an entry is malformed, it is truncated at its start
abbrev pub IsTruncatedAtStart : ReplayError → Type 0
IsTruncatedAtStart Memory = ⊤
IsTruncatedAtStart (Malformed kind id reason offset) = (reason ≡ Truncated) × (offset ≡ 0)
IsTruncatedAtStart (WrongObject kind id) = ⊤
IsTruncatedAtStart (Backend error) = ⊤
