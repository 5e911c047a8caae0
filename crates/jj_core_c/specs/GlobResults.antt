-- Results of the calls on globs.
-- Cited by contracts of public items: IsGlobCause, IsValidCall, WritesMatches.
use Rattle.std.specs.Prelude.{◌≡◌, ◌↔◌, ◌⊎◌, ◌<◌, ℕ, List, length, take, drop, Bool, true, false, IsTrue, IsOk, IsErr, ⊤}
use Rattle.std.specs.List.{AllZip}
use Rattle.std.specs.Str.{IsUtf8}
use Rattle.jj_globs.specs.GlobMeaning.{GlobSpec, IsMatch}
use Rattle.jj_globs.specs.GlobSyntax.{tokens_of}
use Rattle.jj_core_c.specs.declared.error.Error.{Error}
use Rattle.jj_core_c.specs.declared.error.Error.TheVariants.{Memory, Ends, Length, Syntax}
use Rattle.jj_core_c.specs.Pieces.{are_ends}

-- a flag for each byte string: whether the glob matches it
abbrev pub AreMatches : GlobSpec → List (List ℕ) → List Bool → Type 0
AreMatches glob paths matches = AllZip (λ path matched. IsTrue matched ↔ IsMatch glob path)
    paths matches

-- the flags of the byte strings replace the first ones of the buffer, and n is their number
abbrev pub WritesMatches : GlobSpec → List (List ℕ) → (old new : List Bool) → ℕ → Type 0
WritesMatches glob paths old new n = (n ≡ length paths) × AreMatches glob paths (take n new)
    × (drop n new ≡ drop n old)

-- the pattern is UTF-8 without a syntax error
abbrev pub IsWellFormed : List ℕ → Type 0
IsWellFormed glob = IsUtf8 glob × IsOk (tokens_of glob)

-- these are ends of pieces of this many bytes, and the glob is well-formed
abbrev pub IsValidCall : List ℕ → (len : ℕ) (ends : List ℕ) → Type 0
IsValidCall glob len ends = (are_ends len ends ≡ true) × IsWellFormed glob

-- the pattern is not UTF-8, or has a syntax error
abbrev pub IsMalformed : List ℕ → Type 0
IsMalformed glob = (¬ (IsUtf8 glob)) ⊎ IsErr (tokens_of glob)

abbrev pub IsParseCause : List ℕ → Error → Type 0
IsParseCause glob Memory = ⊤
IsParseCause glob Syntax = IsMalformed glob
IsParseCause glob other = ⊥

-- the cause of an error: the argument that it rejects, or memory ran out
abbrev pub IsGlobCause : List ℕ → (len : ℕ) (ends : List ℕ) (room : ℕ) → Error → Type 0
IsGlobCause glob len ends room Memory = ⊤
IsGlobCause glob len ends room Ends = are_ends len ends ≡ false
IsGlobCause glob len ends room Length = room < length ends
IsGlobCause glob len ends room Syntax = IsMalformed glob
IsGlobCause glob len ends room other = ⊥
