-- The terms of the entries so far have their classes.
use Rattle.std.proofs.Common.{◌≡◌, ◌<◌, All, length}
use Rattle.jj_program.proofs.ClassedTerms.{AreClassedBelow}
use Rattle.jj_program.proofs.term_classes.classes_of_sorted.Given as goal

abbrev pub invariant-loop-at : goal.invariant-loop-at
invariant-loop-at l = record {
  size : length l.classes.items ≡ length l.terms;
  bounds : All (λ class. class < length l.terms) l.classes.items;
  bound : 0 < l.at → l.class < length l.terms;
  classed : AreClassedBelow l.terms l.entries l.classes.items l.at l.class;
}
