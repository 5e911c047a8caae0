use Rattle.std.proofs.Common.{◌≡◌, map, take}
use Rattle.jj_file_merges.proofs.terms.file_ids.Given as goal

abbrev pub invariant-loop-term : goal.invariant-loop-term
invariant-loop-term l = l.ids.items ≡ map (λ term. term.id) (take l.term-index l.terms)
