-- Trees that differ at a path of a set.
use Rattle.std.proofs.Common.{◌≡◌, ◌==◌, ◌∙◌, ◌<◌, ℕ, zero, Bool, true, false, not, List, [], ◌∷◌, length, Contains, Option, Some, refl, sym, ap, arith}
use Rattle.std.specs.Prelude.{◌≢◌, ◌↔◌, IsTrue}
use Rattle.std.proofs.lemmas.Bool.Decides.{Decides-eqb}
use Rattle.jj_backend.specs.Objects.{ById}
use Rattle.jj_backend.specs.Trees.{Entries}
use Rattle.jj_backend.specs.declared.backend.tree_value.TreeValue.TheVariants.{Tree}
use Rattle.jj_filesets.specs.SyntaxTrees.{SyntaxTree}
use Rattle.jj_tree_builder.specs.Changes.{files_at}
use Rattle.jj_tree_files.specs.declared.changes.Change.{Change}
use Rattle.jj_history_commands.specs.FileSets.{AreChangesIn, DifferIn, IsInSet}

-- a list of all that has a property is not empty exactly if something has it
is_listed : {X : Type 0} (P : X → Type 0) (xs : List X) → ((x : X) → Contains xs x ↔ P x) → IsTrue (not (length xs == 0)) ↔ ((x : X) × P x)
is_listed P [] h = ((λ t. let both : false ≡ true = t in absurd cc), (λ e. let c = (h e.0).1 e.1 in let low : c.0 < 0 = c.1 in absurd (omega arith)))
is_listed {X} P (x ∷ xs) h = ((λ t. (x, (h x).0 (zero, omega arith, refl))), (λ e. by_test (length (x ∷ xs) == 0) refl))
  where
    by_test : (t : Bool) → (length (x ∷ xs) == 0) ≡ t → not (length (x ∷ xs) == 0) ≡ true
    by_test true is = absurd (omega (arith, (Decides-eqb (length (x ∷ xs)) 0).0 is))
    by_test false is = ap not is

module _ (trees : ById Entries) (before after : List ℕ) (set : Option SyntaxTree) where
  abbrev IsChange : Change → Type 0
  IsChange change = (change.before ≡ files_at trees (Some (Tree before)) change.path)
      × (change.after ≡ files_at trees (Some (Tree after)) change.path)
      × (change.before ≢ change.after) × IsInSet set change.path

  of_change : ((change : Change) × IsChange change) → DifferIn trees before after set
  of_change found = (found.0.path, found.1.3, λ same. found.1.2 (found.1.0 ∙ same ∙ sym found.1.1))

  to_change : DifferIn trees before after set → ((change : Change) × IsChange change)
  to_change d = (
    record {
      path = d.0;
      before = files_at trees (Some (Tree before)) d.0;
      after = files_at trees (Some (Tree after)) d.0;
    },
    (refl, refl, d.2, d.1),
  )

  -- there are changes exactly if the files differ at a path
  pub differ_in : (changes : List Change) → AreChangesIn trees before after set changes → IsTrue (not (length changes == 0)) ↔ DifferIn trees before after set
  differ_in changes are =
      let listed : IsTrue (not (length changes == 0)) ↔ ((change : Change) × IsChange change) = is_listed IsChange changes are in
      ((λ t. of_change (listed.0 t)), (λ d. listed.1 (to_change d)))
