-- Terms with their indices, which are equal if their bytes are.
-- Machinery of private functions and fields.
use Rattle.std.specs.Prelude.{Bool}
use Rattle.std.specs.Ordering.{on}
use Rattle.std.specs.Str.{bytes_eq}
use Rattle.jj_core_c.specs.declared.merges.Term.{Term}

abbrev pub term_eq : Term → Term → Bool
term_eq = on (λ term. term.bytes.now) bytes_eq
