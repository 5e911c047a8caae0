-- The literal suffix of an NFA.
-- Machinery of private functions and fields.
use Rattle.std.specs.Prelude.{◌≡◌, ℕ, ◌+◌, ◌<◌, ◌≤◌, Bool, true, false, ◌&&◌, List, [], ◌∷◌, length, slice_get, Some}
use Rattle.jj_globs.specs.declared.glob.token.Options.{Options}
use Rattle.jj_globs.specs.declared.glob.step.Step.{Step}
use Rattle.jj_globs.specs.declared.glob.step.Step.TheVariants.{Byte, AnyByte, OneOf, Star, Everything, Fork, Jump}
use Rattle.jj_globs.specs.GlobMeaning.{same_byte}
use Rattle.jj_globs.specs.GlobNfa.{max_offset}

-- the step consumes one literal byte
abbrev pub IsLiteralStep : Step → Type 0
IsLiteralStep s = (b : ℕ) × (s ≡ Byte b)

-- this step and all later ones are literal bytes, and no earlier step leads past this state
pub record IsLiteralSuffix (steps : List Step) (state : ℕ) : Type 0 where
  pub within : state ≤ length steps
  pub inside : (k : ℕ) (s : Step) → slice_get steps k ≡ Some s → k < state
      → k + 1 + max_offset s ≤ state
  pub bytes : (k : ℕ) (s : Step) → slice_get steps k ≡ Some s → state ≤ k → IsLiteralStep s

-- the reversed bytes begin with a match of the literals at the head of the reversed steps
abbrev pub matches_reversed : Options → List Step → List ℕ → Bool
matches_reversed o (Byte own ∷ ss) [] = false
matches_reversed o (Byte own ∷ ss) (b ∷ bs) = same_byte o own b && matches_reversed o ss bs
matches_reversed o [] bs = true
matches_reversed o (AnyByte ∷ ss) bs = true
matches_reversed o (OneOf set ∷ ss) bs = true
matches_reversed o (Star ∷ ss) bs = true
matches_reversed o (Everything ∷ ss) bs = true
matches_reversed o (Fork further ∷ ss) bs = true
matches_reversed o (Jump further ∷ ss) bs = true
