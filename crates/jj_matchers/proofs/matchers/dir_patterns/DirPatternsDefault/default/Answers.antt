use Rattle.jj_matchers.proofs.LinkedPatterns.{linked_none}
use Rattle.jj_matchers.proofs.matchers.dir_patterns.DirPatternsDefault.default.Goals as goal

pub invariant_of-result : goal.invariant_of-result
invariant_of-result c sorted = linked_none
