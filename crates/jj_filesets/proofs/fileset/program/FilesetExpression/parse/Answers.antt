use Rattle.std.proofs.Common.{subst}
use Rattle.jj_filesets.specs.Expressions.{Spells}
use Rattle.jj_filesets.specs.Programs.{tree_of}
use Rattle.jj_filesets.proofs.Compiled.{has_program, spells_tree}
use Rattle.jj_filesets.proofs.fileset.program.FilesetExpression.parse.Goals as goal

pub invariant_of-result : goal.invariant_of-result
invariant_of-result c = has_program c.as_bytes.result.now c.in_ok-program.program.items c.in_ok-program.ensures.spelled

pub returns-clause-spelled : goal.returns-clause-spelled
returns-clause-spelled c =
    subst (λ text. Spells text (tree_of c.in_ok-program.program.items)) c.as_bytes.ensures.value
    (spells_tree c.as_bytes.result.now c.in_ok-program.program.items c.in_ok-program.ensures.spelled)
