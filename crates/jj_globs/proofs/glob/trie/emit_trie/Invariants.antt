-- The trie of the words after those left was prepended.
use Rattle.std.proofs.Common.{◌≡◌, length, map, reverse}
use Rattle.jj_globs.proofs.Tries.{HasPut}
use Rattle.jj_globs.proofs.glob.trie.emit_trie.Given as goal

abbrev pub invariant-loop-word : goal.invariant-loop-word
invariant-loop-word l = record {
  insert : HasPut (map (λ word. word.items) l.words) (reverse l.fn.steps.items)
      (map (λ word. word.items) l.left) l.current (reverse l.steps.items) (reverse l.branches.items);
  after : l.after ≡ length l.fn.steps.items;
}

abbrev pub decreases-loop-word : goal.decreases-loop-word
decreases-loop-word l = length l.left
