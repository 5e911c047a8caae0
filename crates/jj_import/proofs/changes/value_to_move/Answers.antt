use Rattle.std.proofs.Common.{◌∙◌, sym}
use Rattle.jj_paths.specs.Names.{path_of}
use Rattle.jj_import.specs.AppliedChanges.{files_of}
use Rattle.jj_import.proofs.MovedFiles.{found_at}
use Rattle.jj_import.proofs.changes.value_to_move.Goals as goal

pub returns-in-Some-clause-value : goal.returns-in-Some-clause-value
returns-in-Some-clause-value g c = λ objects extended.
    found_at objects.trees (g.B.Backend.objects c.write_tree.new.backend).trees extended.trees c.in_ok-base.base (path_of c.args.from) c.in-Some.value (files_of objects.trees c.args.earlier)
    (sym c.in-Some.is ∙ c.in_ok-value.ensures) (c.in_ok-base.ensures.files objects.trees extended.trees)
