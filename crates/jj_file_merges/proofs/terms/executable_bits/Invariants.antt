use Rattle.std.proofs.Common.{◌≡◌, map, take}
use Rattle.jj_file_merges.proofs.terms.executable_bits.Given as goal

abbrev pub invariant-loop-term : goal.invariant-loop-term
invariant-loop-term l = l.bits.items ≡ map (λ term. term.executable) (take l.term-index l.terms)
