-- Buffers that a caller lends for results.
-- Cited by contracts of public items: Writes, Fails.
use Rattle.std.specs.Prelude.{◌≡◌, ℕ, ◌++◌, List, length, drop}
use Rattle.jj_core_c.specs.declared.error.Error.{Error}

-- the items replace the first ones of the buffer, and n is their number
abbrev pub Writes : {X : Type 0} → (old new items : List X) → ℕ → Type 0
Writes old new items n = (n ≡ length items) × (new ≡ items ++ drop (length items) old)

-- the error has a cause, and the buffer is unchanged
abbrev pub Fails : {X : Type 0} → (old new : List X) → (Error → Type 0) → Error → Type 0
Fails old new IsCause error = IsCause error × (new ≡ old)
