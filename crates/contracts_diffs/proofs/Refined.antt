-- A comparison of two versions by lines that was refined by words.
use Rattle.std.proofs.Common.{◌≡◌, ℕ, ◌≤◌, List, [], ◌∷◌, ◌++◌, length, sym, subst, arith}
use Rattle.jj_diff.specs.Tokens.{AreEndsToo, TokenEnds, is_line_end, is_word_end}
use Rattle.jj_diff.specs.Tokenizers.{lines_end_words}
use Rattle.jj_diff.specs.declared.diff.hunks.DiffHunk.{DiffHunk}
use Rattle.jj_diff.specs.Hunks.{matched_start, matched_end, AreTrimmed, IsDiff, MatchesEnds}
use Rattle.jj_diff.specs.Refined.{AreHunksOf, KeepsEnds, KeepsMatches}
use Rattle.contracts_diffs.specs.Lines.{EndsInLine}
use Rattle.contracts_diffs.proofs.Ends.{start_matches, end_matches}

module _ (inputs : List (List ℕ)) (l r : List ℕ) (hs refined : List DiffHunk) (e : inputs ≡ l ∷ r ∷ [])
    (lines : IsDiff is_line_end (l ∷ r ∷ []) hs) where
  lines_of : IsDiff is_line_end inputs hs
  lines_of = subst (λ xs. IsDiff is_line_end xs hs) (sym e) lines

  hunks_of : AreHunksOf inputs hs
  hunks_of = record { width = λ k x lt. (lines_of.hunks k x lt).len; sides = lines_of.sides }

  pub words_of : ((before : TokenEnds) → AreEndsToo before is_word_end → IsDiff before inputs hs → IsDiff is_word_end inputs refined)
      → IsDiff is_word_end (l ∷ r ∷ []) refined
  words_of diff = subst (λ xs. IsDiff is_word_end xs refined) e (diff is_line_end lines_end_words lines_of)

  pub kept_of : (AreHunksOf inputs hs → KeepsMatches (length inputs) hs refined) → KeepsMatches 2 hs refined
  kept_of kept = subst (λ xs. KeepsMatches (length xs) hs refined) e (kept hunks_of)

  pub trimmed_of : (AreHunksOf inputs hs → AreTrimmed is_word_end refined) → AreTrimmed is_word_end refined
  trimmed_of trimmed = trimmed hunks_of

  module _ (m : MatchesEnds is_line_end (l ∷ r ∷ []) hs) (longer : AreHunksOf inputs hs → KeepsEnds hs refined) where
    pub refined_start : (ls xs ys : List ℕ) → EndsInLine ls → l ≡ ls ++ xs → r ≡ ls ++ ys → length ls ≤ matched_start refined
    refined_start ls xs ys ends el er = omega (arith, start_matches l r hs m ls xs ys ends el er, (longer hunks_of).0)

    pub refined_end : (xs ys ls : List ℕ) → EndsInLine xs → EndsInLine ys → l ≡ xs ++ ls → r ≡ ys ++ ls
        → matched_start refined ≤ length xs → matched_start refined ≤ length ys → length ls ≤ matched_end refined
    refined_end xs ys ls ends_xs ends_ys el er lx ly = omega (
      arith,
      end_matches l r hs m xs ys ls ends_xs ends_ys el er (omega (arith, lx, (longer hunks_of).0)) (omega (arith, ly, (longer hunks_of).0)),
      (longer hunks_of).1,
    )
