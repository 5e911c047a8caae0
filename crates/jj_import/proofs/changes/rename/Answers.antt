use Rattle.std.proofs.Common.{subst}
use Rattle.jj_import.specs.AppliedChanges.{IsFound, files_of}
use Rattle.jj_import.proofs.MovedFiles.{renamed}
use Rattle.jj_import.proofs.changes.rename.Goals as goal

pub returns-clause-renamed : goal.returns-clause-renamed
returns-clause-renamed g c = λ objects extended.
    renamed objects.trees c.in_ok-base.base (files_of objects.trees c.args.earlier) (c.in_ok-base.ensures.tree objects extended) c.new-builder.result c.new-builder.ensures c.args.from c.args.to c.in_ok-base.value c.remove.new.self c.set.new.self
    (subst (λ p. IsFound objects.trees p c.in_ok-base.value (files_of objects.trees c.args.earlier)) c.as_path.ensures (c.in_ok-base.ensures.value objects extended))
    c.in_ok-remove.ensures.removed c.in_ok-set.ensures.set
