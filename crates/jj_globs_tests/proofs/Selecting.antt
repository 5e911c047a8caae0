-- Appending an element that is in the set, or is not.
use Rattle.std.proofs.Common.{◌≡◌, ℕ, ◌+◌, ◌<◌, List, [], ◌∷◌, ◌++◌, map, take, get_or, length, ◌∙◌, ap, subst, sym}
use Rattle.std.proofs.lemmas.List.{map-append, take_more}
use Rattle.jj_globs_tests.specs.Selected.{IsSelected, none, takes, leaves}

module _ {X : Type 0} (InSet : X → Type 0) where
  takes_last : (x : X) (all some : List X) → InSet x → IsSelected InSet all some → IsSelected InSet (all ++ x ∷ []) (some ++ x ∷ [])
  takes_last x all some inside none = takes inside none
  takes_last x all some inside (takes first rest) = takes first (takes_last x _ _ inside rest)
  takes_last x all some inside (leaves first rest) = leaves first (takes_last x _ _ inside rest)

  leaves_last : (x : X) (all some : List X) → (¬ InSet x) → IsSelected InSet all some → IsSelected InSet (all ++ x ∷ []) some
  leaves_last x all some outside none = leaves outside none
  leaves_last x all some outside (takes first rest) = takes first (leaves_last x _ _ outside rest)
  leaves_last x all some outside (leaves first rest) = leaves first (leaves_last x _ _ outside rest)

module _ {X Y : Type 0} (InSet : Y → Type 0) (shown : X → Y) (all : List X) (i : ℕ) (d : X) (found new : List X) where
  one_more : i < length all → map shown (take (i + 1) all) ≡ map shown (take i all) ++ shown (get_or all i d) ∷ []
  one_more below = ap (map shown) (take_more all i d below) ∙ map-append shown (take i all) (get_or all i d ∷ [])

  -- the element at index i is in the set, and is appended
  pub takes_at : i < length all → IsSelected InSet (map shown (take i all)) (map shown found) → InSet (shown (get_or all i d)) → new ≡ found ++ get_or all i d ∷ []
      → IsSelected InSet (map shown (take (i + 1) all)) (map shown new)
  takes_at below before inside is =
      subst (λ l. IsSelected InSet l (map shown new)) (sym (one_more below))
      (subst (λ l. IsSelected InSet (map shown (take i all) ++ shown (get_or all i d) ∷ []) l) (sym (ap (map shown) is ∙ map-append shown found (get_or all i d ∷ [])))
      (takes_last InSet (shown (get_or all i d)) _ _ inside before))

  -- the element at index i is not in the set, and is skipped
  pub leaves_at : i < length all → IsSelected InSet (map shown (take i all)) (map shown found) → (¬ InSet (shown (get_or all i d))) → new ≡ found
      → IsSelected InSet (map shown (take (i + 1) all)) (map shown new)
  leaves_at below before outside is =
      subst (λ l. IsSelected InSet l (map shown new)) (sym (one_more below))
      (subst (λ l. IsSelected InSet (map shown (take i all) ++ shown (get_or all i d) ∷ []) (map shown l)) (sym is)
      (leaves_last InSet (shown (get_or all i d)) _ _ outside before))
