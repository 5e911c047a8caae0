-- Lines and words of comparisons.
-- Cited by contracts of public items: StartsInContext, HasPartsApart.
use Rattle.std.specs.Prelude.{◌≡◌, ℕ, List, [], ◌∷◌, length, take}
use Rattle.jj_diff.specs.Tokens.{is_word_end}
use Rattle.jj_diff.specs.Hunks.{HasTrimmedEnds}
use Rattle.jj_diff_presentation.specs.Scripts.{lines_of_type, typed_lines}
use Rattle.jj_diff_presentation.specs.declared.unified.script.DiffLine.{DiffLine}
use Rattle.jj_diff_presentation.specs.declared.unified.script.DiffLineType.TheVariants.{Context}
use Rattle.jj_diff_presentation.specs.declared.unified.words.DiffToken.{DiffToken}
use Rattle.jj_diff_presentation.specs.declared.unified.words.DiffTokenType.TheVariants.{Different}

-- the first lines of a diff are these, as context
abbrev pub StartsInContext : List (List ℕ) → List DiffLine → Type 0
StartsInContext first lines = take (length first) (typed_lines lines) ≡ lines_of_type Context first

-- if the token differs, its two parts neither start nor end with the same words
abbrev pub HasPartsApart : DiffToken → Type 0
HasPartsApart token = token.token_type ≡ Different
    → HasTrimmedEnds is_word_end (token.left.now ∷ token.right.now ∷ [])
