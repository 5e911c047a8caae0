-- The components rewrite to the stack followed by the remaining ones, and the stack is a normal form.
use Rattle.std.proofs.Common.{◌++◌, map}
use Rattle.std.specs.Path.{path_components, components_remaining}
use Rattle.jj_files.specs.PathComponents.{ReducesTo}
use Rattle.jj_files.proofs.NormalForms.{IsIrreducible}
use Rattle.jj_files.proofs.file_util.path_components.normalize_path.Given as goal

abbrev pub invariant-loop-component : goal.invariant-loop-component
invariant-loop-component l = record {
  steps : ReducesTo (path_components l.path) (map (λ text. text.now) l.stack.items ++ components_remaining l.component-iterator);
  irreducible : IsIrreducible (map (λ text. text.now) l.stack.items);
}
