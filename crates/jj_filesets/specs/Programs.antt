-- Postfix programs: the program of a tree, the tree of a program, and evaluation on a stack.
use Rattle.std.specs.Prelude.{◌≡◌, ◌↔◌, Bool, not, ◌&&◌, ◌||◌, IsTrue, List, [], ◌∷◌, ◌++◌}
use Rattle.std.proofs.Common.{◌∙◌, ap, sym, refl, append_assoc, append-nil}
use Rattle.std.specs.Coded.{Coded, code_by, coded_list}
use Rattle.jj_paths.specs.Paths.{Path}
use Rattle.jj_filesets.specs.declared.fileset.pattern.FilePattern.TheVariants.{Nothing}
use Rattle.jj_filesets.specs.declared.fileset.program.Operator.{Operator}
use Rattle.jj_filesets.specs.declared.fileset.program.Operator.TheVariants.{Complement, Intersection, Difference, Union}
use Rattle.jj_filesets.specs.declared.fileset.program.Step.{Step}
use Rattle.jj_filesets.specs.declared.fileset.program.Step.TheVariants.{Push, Apply}
use Rattle.jj_filesets.specs.SyntaxTrees.{SyntaxTree, IsIn, pattern, complement, intersection, difference, union}

-- the program of a tree: an operator follows its operands
abbrev pub postfix : SyntaxTree → List Step
postfix (pattern leaf) = Push leaf ∷ []
postfix (complement set) = postfix set ++ Apply Complement ∷ []
postfix (intersection first second) = postfix first ++ postfix second ++ Apply Intersection ∷ []
postfix (difference first second) = postfix first ++ postfix second ++ Apply Difference ∷ []
postfix (union first second) = postfix first ++ postfix second ++ Apply Union ∷ []

-- the tree of a binary operator
abbrev pub joined : Operator → SyntaxTree → SyntaxTree → SyntaxTree
joined Complement first second = difference first second
joined Intersection first second = intersection first second
joined Difference first second = difference first second
joined Union first second = union first second

-- the stack of trees, from the top, after an operator; without its operands it clears the stack
abbrev pub applied : Operator → List SyntaxTree → List SyntaxTree
applied Complement (set ∷ stack) = complement set ∷ stack
applied operator (second ∷ first ∷ stack) = joined operator first second ∷ stack
applied operator stack = []

-- the stack of syntax trees after this step
abbrev pub performed : Step → List SyntaxTree → List SyntaxTree
performed (Push leaf) stack = pattern leaf ∷ stack
performed (Apply operator) stack = applied operator stack

-- the stack of trees after the steps of a program
abbrev pub built : List Step → List SyntaxTree → List SyntaxTree
built [] stack = stack
built (step ∷ steps) stack = built steps (performed step stack)

-- the syntax tree on top of the stack; that of the empty set if there is none
abbrev pub top_of : List SyntaxTree → SyntaxTree
top_of [] = pattern Nothing
top_of (set ∷ stack) = set

-- the tree of a program
abbrev pub tree_of : List Step → SyntaxTree
tree_of steps = top_of (built steps [])

-- The tree of the program of a tree is the tree.

two : (first second : List Step) (x : Step) (rest : List Step)
    → ((first ++ second) ++ x ∷ []) ++ rest ≡ first ++ (second ++ x ∷ rest)
two first second x rest = append_assoc (first ++ second) (x ∷ []) rest
    ∙ append_assoc first second (x ∷ rest)

built_first : (set : SyntaxTree) (rest : List Step) (stack : List SyntaxTree)
    → built (postfix set ++ rest) stack ≡ built rest (set ∷ stack)
built_first (pattern leaf) rest stack = refl
built_first (complement set) rest stack =
    ap (λ l. built l stack) (append_assoc (postfix set) (Apply Complement ∷ []) rest)
    ∙ built_first set (Apply Complement ∷ rest) stack
built_first (intersection first second) rest stack =
    ap (λ l. built l stack) (two (postfix first) (postfix second) (Apply Intersection) rest)
    ∙ built_first first (postfix second ++ Apply Intersection ∷ rest) stack
    ∙ built_first second (Apply Intersection ∷ rest) (first ∷ stack)
built_first (difference first second) rest stack =
    ap (λ l. built l stack) (two (postfix first) (postfix second) (Apply Difference) rest)
    ∙ built_first first (postfix second ++ Apply Difference ∷ rest) stack
    ∙ built_first second (Apply Difference ∷ rest) (first ∷ stack)
built_first (union first second) rest stack =
    ap (λ l. built l stack) (two (postfix first) (postfix second) (Apply Union) rest)
    ∙ built_first first (postfix second ++ Apply Union ∷ rest) stack
    ∙ built_first second (Apply Union ∷ rest) (first ∷ stack)

pub built-postfix : (set : SyntaxTree) → built (postfix set) [] ≡ set ∷ []
built-postfix set = ap (λ l. built l []) (sym (append-nil (postfix set))) ∙ built_first set [] []

pub tree_of-postfix : (set : SyntaxTree) → tree_of (postfix set) ≡ set
tree_of-postfix set = ap top_of (built-postfix set)

-- the code of a tree is that of its program
abbrev pub tree_code : Coded Step → Coded SyntaxTree
tree_code code = code_by (List Step) (coded_list code) postfix tree_of tree_of-postfix

-- the value of a binary operator
abbrev pub combined : Operator → Bool → Bool → Bool
combined Complement first second = first && not second
combined Intersection first second = first && second
combined Difference first second = first && not second
combined Union first second = first || second

-- the stack of values, from the top, after an operator
abbrev pub applied_values : Operator → List Bool → List Bool
applied_values Complement (value ∷ stack) = not value ∷ stack
applied_values operator (second ∷ first ∷ stack) = combined operator first second ∷ stack
applied_values operator stack = []

-- the program is that of a tree
abbrev pub IsProgram : List Step → Type 0
IsProgram steps = steps ≡ postfix (tree_of steps)

-- the values decide membership of the path in the sets of the trees, both from the top of a stack
abbrev pub Decide : Path → List SyntaxTree → List Bool → Type 0
Decide path [] [] = Unit {0}
Decide path [] (value ∷ values) = ⊥
Decide path (set ∷ sets) [] = ⊥
Decide path (set ∷ sets) (value ∷ values) = (IsTrue value ↔ IsIn set path) × Decide path sets values
