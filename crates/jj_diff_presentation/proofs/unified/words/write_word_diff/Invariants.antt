use Rattle.std.proofs.Common.{◌≡◌, ◌++◌, drop}
use Rattle.jj_diff_presentation.specs.Words.{tokens_text}
use Rattle.jj_diff_presentation.proofs.unified.words.write_word_diff.Given as goal

abbrev pub invariant-loop-token : goal.invariant-loop-token
invariant-loop-token l =
    l.text.items ++ tokens_text (drop l.token-index l.tokens) ≡ tokens_text l.tokens
