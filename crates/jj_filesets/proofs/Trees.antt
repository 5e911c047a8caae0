-- The tree of a tree's program is the tree.
use Rattle.std.proofs.Common.{◌≡◌, ◌∙◌, List, ap, sym}
use Rattle.jj_filesets.specs.declared.fileset.program.Step.{Step}
use Rattle.jj_filesets.specs.SyntaxTrees.{SyntaxTree}
use Rattle.jj_filesets.specs.Programs.{postfix, tree_of, tree_of-postfix, IsProgram}

-- a program that is some tree's has that tree
pub tree_of-program : (steps : List Step) (set : SyntaxTree) → steps ≡ postfix set → tree_of steps ≡ set
tree_of-program steps set is = ap tree_of is ∙ tree_of-postfix set

pub is_program : (steps : List Step) (set : SyntaxTree) → steps ≡ postfix set → IsProgram steps
is_program steps set is = is ∙ ap postfix (sym (tree_of-program steps set is))
