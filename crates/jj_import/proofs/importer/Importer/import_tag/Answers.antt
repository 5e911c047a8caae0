use Rattle.std.proofs.Common.{◌≡◌, ◌∙◌, ◌++◌, List, ℕ, None, ap, inl, inr, refl}
use Rattle.std.specs.Prelude.{codes, string_bytes}
use Rattle.jj_import.specs.Imported.{imported_string}
use Rattle.jj_import.specs.ImportStates.{state_of, with_commit}
use Rattle.jj_import.proofs.States.{same_state}
use Rattle.jj_import.proofs.importer.Importer.import_tag.Goals as goal

pub returns-then-is_blob-clause-imported : goal.returns-then-is_blob-clause-imported
returns-then-is_blob-clause-imported c = λ objects root. (c.in_ok-check_new.ensures, inr (c.is_blob.ensures c.if-is_blob.true, refl))

pub returns-clause-imported : goal.returns-clause-imported
returns-clause-imported c = λ objects root.
    let old = state_of c.args.self.now in
    let name : string_bytes c.in_ok-name.name ≡ codes "refs/tags/" ++ imported_string c.args.tag.now.name.items =
    c.in_ok-name.ensures ∙ ap (λ (tag : List ℕ). codes "refs/tags/" ++ imported_string tag) c.deref.ensures.value in (
      c.in_ok-check_new.ensures,
      inl (
        c.in_ok-id.id,
        c.in_ok-id.ensures,
        same_state (with_commit old c.args.tag.now.mark (string_bytes c.in_ok-name.name) None c.in_ok-id.id) (state_of c.set_commit.new.self) c.in_ok-set_commit.ensures.named
            ∙ ap (λ (n : List ℕ). with_commit old c.args.tag.now.mark n None c.in_ok-id.id) name,
      ),
    )
