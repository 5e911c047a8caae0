-- No field so far is wrong.
use Rattle.std.proofs.Common.{◌≡◌, drop}
use Rattle.jj_program.specs.Lines.{texts_of}
use Rattle.jj_program.specs.Messages.{first_wrong, is_wrong}
use Rattle.jj_program.proofs.message.first_wrong.Given as goal

abbrev pub invariant-loop-index : goal.invariant-loop-index
invariant-loop-index l = first_wrong (is_wrong l.shape l.kind) l.index (drop l.index (texts_of l.fields)) ≡ first_wrong (is_wrong l.shape l.kind) 1 (drop 1 (texts_of l.fields))
