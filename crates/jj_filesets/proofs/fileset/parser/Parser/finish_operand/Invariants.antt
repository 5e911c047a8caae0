use Rattle.std.proofs.Common.{◌≡◌, length, reverse}
use Rattle.jj_filesets.specs.Parsing.{after_operand}
use Rattle.jj_filesets.proofs.fileset.parser.Parser.finish_operand.Given as goal

abbrev pub invariant-loop-pending : goal.invariant-loop-pending
invariant-loop-pending l =
    after_operand (reverse l.self.pending.items) l.self.program.items
    ≡ after_operand (reverse l.fn.self.pending.items) l.fn.self.program.items

abbrev pub decreases-loop-pending : goal.decreases-loop-pending
decreases-loop-pending l = length l.self.pending.items
