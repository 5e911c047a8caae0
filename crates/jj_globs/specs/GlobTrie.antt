-- Tries of literal alternatives: which byte strings they accept. The trie is built from the last
-- byte of the last literal, so a literal is seen from its end while its bytes are prepended.
-- Machinery of private functions and fields.
use Rattle.std.specs.Prelude.{◌≡◌, ℕ, ◌≤◌, ◌==◌, ◌||◌, Bool, List, [], ◌∷◌, ◌++◌, length, reverse, take, if◌then◌else◌}
use Rattle.std.specs.List.{list_any}
use Rattle.jj_globs.specs.declared.glob.token.Options.{Options}
use Rattle.jj_globs.specs.declared.glob.token.Part.TheVariants.{Byte as byte}
use Rattle.jj_globs.specs.declared.glob.token.Token.{Token}
use Rattle.jj_globs.specs.declared.glob.token.Token.TheVariants.{Part as part, Open, Or, Close}
use Rattle.jj_globs.specs.declared.glob.step.Step.{Step}
use Rattle.jj_globs.specs.declared.glob.trie.Branch.{Branch}
use Rattle.jj_globs.specs.GlobMeaning.{same_byte}
use Rattle.jj_globs.specs.GlobBacktracking.{Test, one}
use Rattle.jj_globs.specs.GlobNfa.{accepts_from, TargetsInRange}
use Rattle.jj_globs.specs.GlobCompilation.{test_at}

-- 1. Words.

-- a literal alternative
abbrev pub Word : Type 0
Word = List ℕ

-- the word, then the continuation
abbrev pub word_then : Options → Word → Test → Test
word_then o [] t = t
word_then o (c ∷ cs) t = one (same_byte o c) (word_then o cs t)

-- one of the words, then the continuation
abbrev pub any_word : Options → List Word → Test → Test
any_word o words t bs = list_any (λ word. word_then o word t bs) words

-- the tokens of a word
abbrev pub word_tokens : Word → List Token
word_tokens [] = []
word_tokens (c ∷ cs) = part (byte c) ∷ word_tokens cs

-- the tokens after the first alternative of a group: a `,` before each further one, and the `}`
abbrev pub further_alternatives : List Word → List Token
further_alternatives [] = Close ∷ []
further_alternatives (word ∷ words) = Or ∷ word_tokens word ++ further_alternatives words

-- the tokens of a group with these alternatives
abbrev pub group_tokens : List Word → List Token
group_tokens [] = []
group_tokens (word ∷ words) = Open ∷ word_tokens word ++ further_alternatives words

-- 2. Prepended steps.

-- the old steps are a suffix of the new ones
abbrev pub Extends : List Step → List Step → Type 0
Extends old new = (more : List Step) × (new ≡ more ++ old)

-- the new steps accept one of the words, then the continuation that the old ones accept
pub record EmitsTrie (words : List Word) (old new : List Step) : Type 0 where
  pub same : (o : Options) (below : Bool) (bs : List ℕ)
      → accepts_from o below new 0 bs ≡ any_word o words (accepts_from o below old 0) bs
  pub grows : Extends old new
  pub inside : TargetsInRange old → TargetsInRange new

-- 3. Branches, the innermost first: states at which other words leave the current one after `depth`
-- bytes.

-- the test, or that of the branch at this depth
abbrev pub with_branch : Options → Bool → List Step → ℕ → List Branch → Test → Test
with_branch o below ss depth [] t bs = t bs
with_branch o below ss depth (b ∷ branches) t bs =
    if b.depth == depth then t bs || test_at o below ss b.state bs else t bs

-- the branches without the one at this depth
abbrev pub without_branch : ℕ → List Branch → List Branch
without_branch depth [] = []
without_branch depth (b ∷ branches) = if b.depth == depth then branches else b ∷ branches

-- the test of a reversed word before t, with its branches: each byte is prepended, then the branch
-- before it joined
abbrev pub climb : Options → Bool → List Step → Word → List Branch → Test → Test
climb o below ss [] branches t = t
climb o below ss (c ∷ cs) branches t =
    climb o below ss cs (without_branch (length cs) branches)
    (with_branch o below ss (length cs) branches (one (same_byte o c) t))

-- `climb` after the branch at the end of the word is joined
abbrev pub climb_from : Options → Bool → List Step → Word → List Branch → Test → Test
climb_from o below ss cs branches t =
    climb o below ss cs (without_branch (length cs) branches)
    (with_branch o below ss (length cs) branches t)

-- no branch leads past the end
abbrev pub BranchesInRange : ℕ → List Branch → Type 0
BranchesInRange end [] = Unit {0}
BranchesInRange end (b ∷ branches) = (b.state ≤ end) × BranchesInRange end branches

-- the branch at this depth, if there is one, was joined to the steps
pub record JoinsBranch (depth : ℕ) (old : List Step) (branches : List Branch) (new : List Step)
    (rest : List Branch) : Type 0 where
  pub same : (o : Options) (below : Bool) (bs : List ℕ) → accepts_from o below new 0 bs
      ≡ with_branch o below old depth branches (accepts_from o below old 0) bs
  pub left : rest ≡ without_branch depth branches
  pub grows : Extends old new
  pub inside : TargetsInRange old → TargetsInRange new

-- the bytes of the word after the first `from` were prepended, with the branches among them
pub record EmitsBytes (word : Word) (from : ℕ) (old : List Step) (branches : List Branch)
    (new : List Step) (rest : List Branch) : Type 0 where
  pub same : (o : Options) (below : Bool) (bs : List ℕ) → BranchesInRange (length old) branches
      → climb o below new (reverse (take from word)) rest (accepts_from o below new 0) bs
      ≡ climb_from o below old (reverse word) branches (accepts_from o below old 0) bs
  pub lead : BranchesInRange (length old) branches → BranchesInRange (length new) rest
  pub grows : Extends old new
  pub inside : TargetsInRange old → TargetsInRange new
