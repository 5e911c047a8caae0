-- The tokens are those left, the word that is being collected, and the words after it.
use Rattle.std.proofs.Common.{◌≡◌, ◌++◌, length, map, reverse}
use Rattle.jj_globs.specs.GlobTrie.{word_tokens, further_alternatives}
use Rattle.jj_globs.proofs.glob.trie.literal_group.Given as goal

abbrev pub invariant-loop-token : goal.invariant-loop-token
invariant-loop-token l = l.tokens ≡ l.left ++ word_tokens (reverse l.word.items)
    ++ further_alternatives (reverse (map (λ word. word.items) l.words.items))

abbrev pub decreases-loop-token : goal.decreases-loop-token
decreases-loop-token l = length l.left
