-- The NFA accepts all bytes exactly if a live state accepts the remaining ones.
use Rattle.std.proofs.Common.{◌↔◌, List, length}
use Rattle.std.specs.Prelude.{IsTrue}
use Rattle.jj_globs.specs.declared.glob.token.Options.{Options}
use Rattle.jj_globs.specs.declared.glob.step.Step.{Step}
use Rattle.jj_globs.specs.GlobNfa.{accepts_from}
use Rattle.jj_globs.specs.GlobTables.{AnyAtOnce, AreTablesOf}
use Rattle.jj_globs.proofs.glob.bit_tables.BitTables.accept.Given as goal

abbrev pub invariant-loop-byte : goal.invariant-loop-byte
invariant-loop-byte l = record {
  same : (o : Options) (steps : List Step) → AreTablesOf o steps l.self
      → AnyAtOnce o l.below steps l.live l.left ↔ IsTrue (accepts_from o l.below steps 0 l.bytes);
}

abbrev pub decreases-loop-byte : goal.decreases-loop-byte
decreases-loop-byte l = length l.left
