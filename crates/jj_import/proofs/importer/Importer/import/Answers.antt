use Rattle.std.proofs.Common.{List, ℕ, subst, sym}
use Rattle.std.specs.Prelude.{OnOk}
use Rattle.std.specs.Option.{option_map}
use Rattle.std.proofs.lemmas.Result.{on_ok_weaker}
use Rattle.jj_backend.specs.Objects.{Objects}
use Rattle.jj_fast_import.specs.declared.command.Command.{Command}
use Rattle.jj_fast_import.specs.Values.{Resets, Tags, command_value, reference_value, tag_value}
use Rattle.jj_import.specs.ImportStates.{state_of}
use Rattle.jj_import.specs.ImportedCommands.{IsCommandImported}
use Rattle.jj_import.specs.Stored.{IsExtended}
use Rattle.jj_import.proofs.importer.Importer.import.Goals as goal

pub returns-in-Blob-clause-imported : goal.returns-in-Blob-clause-imported
returns-in-Blob-clause-imported g c =
    subst (λ (command : Command). OnOk c.import_blob.result ((objects : Objects) → IsExtended (g.B.Backend.objects c.import_blob.new.backend) objects
    → IsCommandImported objects (g.B.Backend.fixed c.args.backend.now).root_commit_id (command_value command) (state_of c.args.self.now) (state_of c.import_blob.new.self)))
    (sym c.in-Blob.is) c.import_blob.ensures.imported

pub returns-in-Commit-clause-imported : goal.returns-in-Commit-clause-imported
returns-in-Commit-clause-imported g c =
    subst (λ (command : Command). OnOk c.import_commit.result ((objects : Objects) → IsExtended (g.B.Backend.objects c.import_commit.new.backend) objects
    → IsCommandImported objects (g.B.Backend.fixed c.args.backend.now).root_commit_id (command_value command) (state_of c.args.self.now) (state_of c.import_commit.new.self)))
    (sym c.in-Commit.is) c.import_commit.ensures.imported

pub returns-in-Tag-clause-imported : goal.returns-in-Tag-clause-imported
returns-in-Tag-clause-imported g c =
    let root = (g.B.Backend.fixed c.args.backend.now).root_commit_id in
    on_ok_weaker {P = (objects : Objects) → (root : List ℕ) → IsCommandImported objects root (Tags (tag_value c.in-Tag.tag)) (state_of c.args.self.now) (state_of c.import_tag.new.self)}
    c.import_tag.result
    (λ h objects extended. subst (λ (command : Command). IsCommandImported objects root (command_value command) (state_of c.args.self.now) (state_of c.import_tag.new.self)) (sym c.in-Tag.is) (h objects root))
    c.import_tag.ensures.imported

pub returns-in-Reset-clause-imported : goal.returns-in-Reset-clause-imported
returns-in-Reset-clause-imported g c =
    let root = (g.B.Backend.fixed c.args.backend.now).root_commit_id in
    let old = state_of c.args.self.now in
    let new = state_of c.reset.new.self in
    on_ok_weaker {P = (objects : Objects) → (root : List ℕ) → IsCommandImported objects root (Resets c.deref.result.now (option_map reference_value c.in-Reset.from)) old new}
    c.reset.result
    (λ h objects extended. subst (λ (command : Command). IsCommandImported objects root (command_value command) old new) (sym c.in-Reset.is)
    (subst (λ (name : List ℕ). IsCommandImported objects root (Resets name (option_map reference_value c.in-Reset.from)) old new) c.deref.ensures.value (h objects root)))
    c.reset.ensures.imported
