use Rattle.std.proofs.Common.{◌∙◌, ◌-◌, sym, arith}
use Rattle.jj_backend.proofs.SortedEntries.{sorted}
use Rattle.jj_backend.proofs.UnsortedEntries.{same_at}
use Rattle.jj_backend.proofs.backend.tree.find_duplicate.Goals as goal

pub returns-then-not-precedes : goal.returns-then-not-precedes
returns-then-not-precedes c = (
  omega arith,
  λ d. same_at c.args.entries.now (c.loop-i.i - 1) c.loop-i.i c.index-entries-i.result c.index-entries-i-in-loop-i.result d (omega arith) (omega arith) c.index-entries-i.is c.index-entries-i-in-loop-i.is
      (c.requires (c.loop-i.i - 1) d (omega arith) (omega arith)) (sym c.precedes.ensures ∙ c.if-not-precedes.true),
)

pub returns : goal.returns
returns c = sorted c.args.entries.now (λ k d lt. c.loop-i.invariant k d (omega arith))
