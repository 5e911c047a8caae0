-- The bytes of the word after those left were prepended, with the branches among them.
use Rattle.std.proofs.Common.{◌≡◌, ◌≤◌, ◌++◌, ℕ, List, length, reverse}
use Rattle.jj_globs.specs.GlobTrie.{EmitsBytes}
use Rattle.jj_globs.proofs.glob.trie.emit_bytes.Given as goal

abbrev pub invariant-loop-left : goal.invariant-loop-left
invariant-loop-left l = record {
  insert : EmitsBytes l.word (length l.left) (reverse l.fn.steps.items) (reverse l.fn.branches.items)
      (reverse l.steps.items) (reverse l.branches.items);
  prefix : (after : List ℕ) × (l.word ≡ l.left ++ after);
  within : l.from ≤ length l.left;
}

abbrev pub decreases-loop-left : goal.decreases-loop-left
decreases-loop-left l = length l.left
