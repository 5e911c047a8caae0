use Rattle.std.proofs.Common.{◌≡◌, ◌∙◌, List, ℕ, Option, ap}
use Rattle.std.specs.Prelude.{string_bytes}
use Rattle.std.specs.Option.{option_map}
use Rattle.jj_import.specs.Imported.{imported_string}
use Rattle.jj_import.specs.ImportStates.{state_of, with_commit}
use Rattle.jj_import.proofs.States.{same_state}
use Rattle.jj_import.proofs.importer.Importer.import_commit.Goals as goal

pub returns-clause-imported : goal.returns-clause-imported
returns-clause-imported g c = λ objects extended.
    let old = state_of c.args.self.now in
    let mark = c.args.commit.now.mark in
    let name : string_bytes c.in_ok-ref_name.ref_name ≡ imported_string c.args.commit.now.ref_name.items = c.in_ok-ref_name.ensures ∙ ap imported_string c.deref.ensures.value in (
      c.in_ok-check_new.ensures,
      (
        c.in_ok-id.id,
        c.in_ok-id.ensures.commit objects extended,
        same_state (with_commit old mark (string_bytes c.in_ok-ref_name.ref_name) (option_map string_bytes c.in_ok-git_id.git_id) c.in_ok-id.id) (state_of c.set_commit.new.self) c.in_ok-set_commit.ensures.named
            ∙ ap (λ (n : List ℕ). with_commit old mark n (option_map string_bytes c.in_ok-git_id.git_id) c.in_ok-id.id) name
            ∙ ap (λ (g : Option (List ℕ)). with_commit old mark (imported_string c.args.commit.now.ref_name.items) g c.in_ok-id.id) c.in_ok-git_id.ensures,
      ),
    )
