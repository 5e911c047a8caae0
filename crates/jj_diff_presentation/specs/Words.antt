-- Differences of words.
-- Cited by contracts of public items: left_text, right_text, AreComparedWords, IsToken,
-- tokens_text, IsWordDiff.
use Rattle.std.specs.Prelude.{◌≡◌, ℕ, List, [], ◌∷◌, ◌++◌, codes, All}
use Rattle.std.specs.List.{concat, slice_index_or, AllZip}
use Rattle.jj_diff.specs.Tokens.{is_word_end}
use Rattle.jj_diff.specs.Hunks.{row_of, AreTrimmed, IsDiff}
use Rattle.jj_diff.specs.declared.diff.hunks.DiffHunk.{DiffHunk}
use Rattle.jj_diff.specs.declared.diff.hunks.DiffHunkKind.TheVariants.{Matching as HunkMatching, Different as HunkDifferent}
use Rattle.jj_diff_presentation.specs.Scripts.{left_lines, right_lines}
use Rattle.jj_diff_presentation.specs.PatchText.{header_text}
use Rattle.jj_diff_presentation.specs.declared.unified.hunks.UnifiedDiffHunk.{UnifiedDiffHunk}
use Rattle.jj_diff_presentation.specs.declared.unified.words.DiffToken.{DiffToken}
use Rattle.jj_diff_presentation.specs.declared.unified.words.DiffTokenType.{DiffTokenType}
use Rattle.jj_diff_presentation.specs.declared.unified.words.DiffTokenType.TheVariants.{Matching, Different}

-- the left parts: all but the additions
abbrev pub left_text : List DiffToken → List ℕ
left_text [] = []
left_text (t ∷ ts) = t.left.now ++ left_text ts

-- the right parts: all but the removals
abbrev pub right_text : List DiffToken → List ℕ
right_text [] = []
right_text (t ∷ ts) = t.right.now ++ right_text ts

-- the parts of a token that matches are equal
abbrev pub IsToken : DiffToken → Type 0
IsToken token = token.token_type ≡ Matching → token.left.now ≡ token.right.now

-- the token has the parts of the hunk, and matches if the hunk does
pub record IsTokenOf (hunk : DiffHunk) (token : DiffToken) : Type 0 where
  pub left : token.left.now ≡ slice_index_or (row_of hunk) 0 []
  pub right : token.right.now ≡ slice_index_or (row_of hunk) 1 []
  pub matching : hunk.kind ≡ HunkMatching → token.token_type ≡ Matching
  pub different : hunk.kind ≡ HunkDifferent → token.token_type ≡ Different

-- The tokens are the hunks of a comparison by words: none that differs starts or ends with a word
-- that is equal on both sides, nor has one that is once on each, of at most 64.
pub record AreComparedWords (left right : List ℕ) (tokens : List DiffToken) : Type 0 where
  pub hunks : List DiffHunk
  pub diff : IsDiff is_word_end (left ∷ right ∷ []) hunks
  pub trimmed : AreTrimmed is_word_end hunks
  pub each : AllZip IsTokenOf hunks tokens

-- the string between two marks, or nothing if it is empty
abbrev pub marked : List ℕ → List ℕ → List ℕ → List ℕ
marked first [] last = []
marked first (b ∷ bs) last = first ++ b ∷ bs ++ last

abbrev pub token_text : DiffTokenType → List ℕ → List ℕ → List ℕ
token_text Matching left right = left
token_text Different left right =
    marked (codes "[-") left (codes "-]") ++ marked (codes "{+") right (codes "+}")

-- `[-removed-]{+added+}` where the sides differ
abbrev pub tokens_text : List DiffToken → List ℕ
tokens_text [] = []
tokens_text (t ∷ ts) = token_text t.token_type t.left.now t.right.now ++ tokens_text ts

-- the tokens of a hunk: without the additions they are its left lines, without the removals its
-- right ones, and the parts of a token that matches are equal
pub record AreWordsOf (hunk : UnifiedDiffHunk) (tokens : List DiffToken) : Type 0 where
  pub left : left_text tokens ≡ concat (left_lines hunk.lines.items)
  pub right : right_text tokens ≡ concat (right_lines hunk.lines.items)
  pub matching : All IsToken tokens

-- the header of the hunk and its tokens
pub record IsWordHunk (hunk : UnifiedDiffHunk) (text : List ℕ) : Type 0 where
  pub tokens : List DiffToken
  pub words : AreWordsOf hunk tokens
  pub bytes : text
      ≡ header_text hunk.left_line_range hunk.right_line_range ++ tokens_text tokens

-- the hunks one after the other
pub record IsWordDiff (hunks : List UnifiedDiffHunk) (text : List ℕ) : Type 0 where
  pub parts : List (List ℕ)
  pub each : AllZip IsWordHunk hunks parts
  pub bytes : text ≡ concat parts
