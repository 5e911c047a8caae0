use Rattle.std.proofs.Common.{subst}
use Rattle.jj_import.specs.AppliedChanges.{IsFound, files_of}
use Rattle.jj_import.proofs.MovedFiles.{copied}
use Rattle.jj_import.proofs.changes.copy.Goals as goal

pub returns-clause-copied : goal.returns-clause-copied
returns-clause-copied g c = λ objects extended.
    copied objects.trees c.in_ok-base.base (files_of objects.trees c.args.earlier) (c.in_ok-base.ensures.tree objects extended) c.new-builder.result c.new-builder.ensures c.args.from c.args.to c.in_ok-base.value c.set.new.self
    (subst (λ p. IsFound objects.trees p c.in_ok-base.value (files_of objects.trees c.args.earlier)) c.as_path.ensures (c.in_ok-base.ensures.value objects extended))
    c.in_ok-set.ensures.set
