use Rattle.std.proofs.Common.{◌≡◌, filter}
use Rattle.std.specs.List.{range_with_len}
use Rattle.jj_diff.proofs.diff.tokens.Tokenizer.find_ends.Given as goal

abbrev pub invariant-loop-index : goal.invariant-loop-index
invariant-loop-index g l = l.ends.items ≡ filter (g.Self.Tokenizer.is_end l.self l.text) (range_with_len 1 l.index)
