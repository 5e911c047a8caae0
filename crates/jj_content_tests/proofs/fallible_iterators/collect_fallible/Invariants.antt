use Rattle.std.proofs.Common.{◌≡◌, Ok, map}
use Rattle.jj_content_tests.proofs.fallible_iterators.collect_fallible.Given as goal

abbrev pub invariant-loop-item : goal.invariant-loop-item
invariant-loop-item g l = record {
  can : (goal.iterator-loop-item g).can_next l.item-iterator;
  finite : (goal.iterator-loop-item g).is_finite l.item-iterator;
  given : l.yielded ≡ map (λ x. Ok x) l.all.items;
}
