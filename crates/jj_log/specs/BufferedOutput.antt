-- Output through a buffer.
-- Machinery of private functions and fields.
use Rattle.std.specs.Prelude.{◌≡◌, ◌++◌, ℕ, List, MatchResult, Option, Result}
use Rattle.std.specs.Io.KnownBytes.{Appends}
use Rattle.jj_files.specs.Streams.{AppendsPrefixOf}

-- of the bytes that were pending, followed by new ones, a prefix was written, and the others are
-- pending
abbrev pub AppendsBuffered : (old new : Option (List ℕ)) → (before after bytes : List ℕ) → Type 0
AppendsBuffered old new before after bytes = (written : List ℕ) × Appends old new written
    × (written ++ after ≡ before ++ bytes)

-- likewise; after an error, some prefix was written
abbrev pub WritesBuffered : {A E : Type 0} → Result A E → (old new : Option (List ℕ))
    → (before after bytes : List ℕ) → Type 0
WritesBuffered result old new before after bytes = MatchResult result
    (λ _. AppendsBuffered old new before after bytes)
    (λ _. AppendsPrefixOf old new (before ++ bytes))
