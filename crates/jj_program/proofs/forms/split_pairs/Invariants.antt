-- The pairs so far, followed by the remaining ones, are all pairs.
use Rattle.std.proofs.Common.{◌≡◌, ◌++◌, length}
use Rattle.jj_program.specs.Forms.{evens, odds}
use Rattle.jj_program.specs.Lines.{texts_of}
use Rattle.jj_program.proofs.forms.split_pairs.Given as goal

abbrev pub invariant-loop-rest : goal.invariant-loop-rest
invariant-loop-rest l = record {
  firsts : texts_of l.firsts.items ++ evens (texts_of l.rest) ≡ evens (texts_of l.initial.rest);
  seconds : texts_of l.seconds.items ++ odds (texts_of l.rest) ≡ odds (texts_of l.initial.rest);
}

abbrev pub decreases-loop-rest : goal.decreases-loop-rest
decreases-loop-rest l = length l.rest
