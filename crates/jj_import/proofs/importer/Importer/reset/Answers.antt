use Rattle.std.proofs.Common.{List, ℕ, Option, subst, sym}
use Rattle.std.specs.Prelude.{OnOk}
use Rattle.std.specs.Option.{option_map}
use Rattle.jj_backend.specs.Objects.{Objects}
use Rattle.jj_fast_import.specs.declared.command.Reference.{Reference}
use Rattle.jj_fast_import.specs.Values.{Resets, reference_value}
use Rattle.jj_import.specs.ImportStates.{state_of}
use Rattle.jj_import.specs.ImportedCommands.{IsCommandImported}
use Rattle.jj_import.proofs.importer.Importer.reset.Goals as goal

pub returns-in-Some-clause-imported : goal.returns-in-Some-clause-imported
returns-in-Some-clause-imported c =
    subst (λ (from : Option Reference). OnOk c.move_ref.result ((objects : Objects) → (root : List ℕ) → IsCommandImported objects root (Resets c.args.ref_name.now (option_map reference_value from)) (state_of c.args.self.now) (state_of c.move_ref.new.self)))
    (sym c.in-Some.is) c.move_ref.ensures.imported

pub returns-in-None-clause-imported : goal.returns-in-None-clause-imported
returns-in-None-clause-imported c =
    subst (λ (from : Option Reference). OnOk c.clear_ref.result ((objects : Objects) → (root : List ℕ) → IsCommandImported objects root (Resets c.args.ref_name.now (option_map reference_value from)) (state_of c.args.self.now) (state_of c.clear_ref.new.self)))
    (sym c.in-None.is) c.clear_ref.ensures.imported
