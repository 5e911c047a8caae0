-- The display form of an id.
-- Cited by contracts of public items: display_bytes.
use Rattle.std.specs.Prelude.{ℕ, List, Bool, if◌then◌else◌}
use Rattle.jj_content.specs.Hex.{hex, reverse_hex}

-- encodes the bytes as reverse hex or as hex
abbrev pub display_bytes : Bool → List ℕ → List ℕ
display_bytes is_reversed bytes = if is_reversed then reverse_hex bytes else hex bytes
