-- The step of a merge that appends a conflict.
use Rattle.std.proofs.Common.{◌≡◌, ℕ, Bool, inr, List, [], ◌∷◌, ◌++◌, Option, None, Some, refl, ap, ◌∙◌}
use Rattle.std.specs.List.{AllZip}
use Rattle.std.proofs.lemmas.List.{map-append}
use Rattle.std.proofs.lemmas.List.Elements.{same_from_all_zip}
use Rattle.jj_paths.specs.Paths.{Path}
use Rattle.jj_merges.specs.declared.merge.SameChange.{SameChange}
use Rattle.jj_merges.specs.Simplify.{simplified_indices, at_indices}
use Rattle.jj_merges.specs.Labels.{normalized_labels}
use Rattle.jj_backend.specs.declared.backend.tree_value.TreeValue.{TreeValue}
use Rattle.jj_backend.specs.MergedTreeValues.{Values}
use Rattle.jj_trees.specs.TreeMerges.{IsUnresolved}
use Rattle.jj_trees.specs.DirectoryMerges.{AreTreesOrAbsent, Conflict, AppendsOutcome, conflict_entries}

abbrev pub Entry : Type 0
Entry = Path × Values × List (List ℕ)

entry_of : Entry → Path × Conflict
entry_of c = (c.0, record { terms = c.1; labels = c.2 })

pub conflict_done : (eq : Option TreeValue → Option TreeValue → Bool) (same_change : SameChange) (values : Values) (labels : List (List ℕ)) (path : Path)
    (old_r new_r : List (Path × TreeValue)) (old_c new_c : List Entry) (terms : Values) (texts : List (List ℕ))
    → IsUnresolved eq same_change values → (AreTreesOrAbsent values → ⊥)
    → terms ≡ at_indices values (simplified_indices eq values) → texts ≡ normalized_labels (at_indices labels (simplified_indices eq values))
    → new_r ≡ old_r → ◌≡◌ {A = List Entry} new_c (old_c ++ (path, terms, texts) ∷ [])
    → AppendsOutcome eq same_change values labels path old_r new_r (conflict_entries old_c) (conflict_entries new_c)
unfolding entry_of
conflict_done eq same_change values labels path old_r new_r old_c new_c terms texts undecided mixed t l r c = (
  λ entered. mixed entered.1,
  inr (inr (record { terms = terms; labels = texts }, (undecided, t, l), r, ap conflict_entries c ∙ map-append entry_of old_c ((path, terms, texts) ∷ []))),
)

pub cloned_values : (IsClone : Option TreeValue → Option TreeValue → Type 0) (values clones : Values) → AllZip IsClone values clones
    → ((v : TreeValue) → IsClone (Some v) None → ⊥) → ((w : TreeValue) → IsClone None (Some w) → ⊥)
    → ((v w : TreeValue) → IsClone (Some v) (Some w) → w ≡ v) → clones ≡ values
cloned_values IsClone values clones zipped lost made kept = same_from_all_zip IsClone values clones zipped same
  where
    same : (v w : Option TreeValue) → IsClone v w → w ≡ v
    same None None h = refl
    same (Some v) None h = absurd (lost v h)
    same None (Some w) h = absurd (made w h)
    same (Some v) (Some w) h = ap Some (kept v w h)
