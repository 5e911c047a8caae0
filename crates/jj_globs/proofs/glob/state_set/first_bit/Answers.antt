use Rattle.jj_globs.proofs.BitSets.{none_in_word}
use Rattle.jj_globs.proofs.glob.state_set.first_bit.Goals as goal

pub loop-word-preserved : goal.loop-word-preserved
loop-word-preserved c = record { before = none_in_word c.args.words.now c.loop-word.word c.if-bits-ne0.false c.loop-word.invariant.before }
