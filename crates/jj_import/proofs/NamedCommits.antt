-- Commits that references name, one after the other, and trees before changes in later stores.
use Rattle.std.proofs.Common.{◌≡◌, ◌∙◌, ℕ, ◌<◌, ◌+◌, Bor, List, [], ◌∷◌, ◌++◌, Option, Some, None, get_or, length, map, take, refl, ap, subst, sym}
use Rattle.std.specs.Option.{option_copied, option_map}
use Rattle.std.proofs.lemmas.List.{map-append, take_more}
use Rattle.jj_backend.specs.Objects.{Objects}
use Rattle.jj_fast_import.specs.Values.{ReferenceValue, reference_value}
use Rattle.jj_fast_import.specs.declared.command.Reference.{Reference}
use Rattle.jj_import.specs.ImportStates.{AreReferences, ImportState, IsReference, IsTreeBefore}
use Rattle.jj_import.specs.Stored.{IsExtended}

references_push : (state : ImportState) (references : List ReferenceValue) (ids : List (List ℕ)) (reference : ReferenceValue) (id : List ℕ) → AreReferences state references ids
    → IsReference state reference id → AreReferences state (references ++ reference ∷ []) (ids ++ id ∷ [])
references_push state [] [] reference id h k = (k, tt)
references_push state [] (other ∷ ids) reference id h k = absurd h
references_push state (other ∷ references) [] reference id h k = absurd h
references_push state (other ∷ references) (first ∷ ids) reference id h k = (h.0, references_push state references ids reference id h.1 k)

pub references_step : (state : ImportState) (references : List Reference) (i : ℕ) (item : Reference) (ids new : List (List ℕ)) (id : List ℕ) → i < length references → item ≡ get_or references i item
    → AreReferences state (map reference_value (take i references)) ids → IsReference state (reference_value item) id → new ≡ ids ++ id ∷ []
    → AreReferences state (map reference_value (take (i + 1) references)) new
references_step state references i item ids new id inside is h k pushed =
    let values = map reference_value (take i references) in
    let taken : take (i + 1) references ≡ take i references ++ item ∷ [] = take_more references i item inside ∙ ap (λ (r : Reference). take i references ++ r ∷ []) (sym is) in
    let mapped : map reference_value (take (i + 1) references) ≡ values ++ reference_value item ∷ [] =
    ap (map reference_value) taken ∙ map-append reference_value (take i references) (item ∷ []) in
    subst (λ (rs : List ReferenceValue). AreReferences state rs new) (sym mapped)
    (subst (λ (xs : List (List ℕ)). AreReferences state (values ++ reference_value item ∷ []) xs) (sym pushed) (references_push state values ids (reference_value item) id h k))

pub copied_reference : (from : Option (Bor Reference)) → option_map (λ r. reference_value r.now) from ≡ option_map reference_value (option_copied from)
copied_reference None = refl
copied_reference (Some from) = refl

pub tree_before_later : (earlier later : Objects) → IsExtended earlier later → (first : Option (List ℕ)) (tree : List ℕ) → IsTreeBefore earlier first tree → IsTreeBefore later first tree
tree_before_later earlier later extended None tree h = extended.trees tree [] h
tree_before_later earlier later extended (Some parent) tree h = (h.0, extended.commits parent h.0 h.1, h.2)
