-- Selecting the next element of a list, and the members of a selection.
use Rattle.std.proofs.Common.{◌≡◌, ◌⊎◌, ℕ, ◌+◌, ◌<◌, List, [], ◌∷◌, ◌++◌, map, take, get_or, length, ◌∙◌, refl, ap, subst, sym, inl, inr, Contains, arith}
use Rattle.std.specs.Prelude.{◌↔◌}
use Rattle.std.proofs.lemmas.List.{map-append, take_more}
use Rattle.std.proofs.lemmas.List.Elements.{Contains-append_cases, Contains-append_left, Contains-append_right, Contains-push, Contains-push_cases}
use Rattle.jj_filesets.specs.Selection.{IsSelected, none, takes, leaves}

module _ {X : Type 0} (InSet : X → Type 0) where
  -- one more element that is in the set
  pub takes_last : (x : X) (all some : List X) → InSet x → IsSelected InSet all some → IsSelected InSet (all ++ x ∷ []) (some ++ x ∷ [])
  takes_last x all some inside none = takes inside none
  takes_last x all some inside (takes first rest) = takes first (takes_last x _ _ inside rest)
  takes_last x all some inside (leaves first rest) = leaves first (takes_last x _ _ inside rest)

  -- one more element that is not
  pub leaves_last : (x : X) (all some : List X) → (¬ InSet x) → IsSelected InSet all some → IsSelected InSet (all ++ x ∷ []) some
  leaves_last x all some outside none = leaves outside none
  leaves_last x all some outside (takes first rest) = takes first (leaves_last x _ _ outside rest)
  leaves_last x all some outside (leaves first rest) = leaves first (leaves_last x _ _ outside rest)

module _ {X Y : Type 0} (InSet : Y → Type 0) (shown : X → Y) (all : List X) (i : ℕ) (d : X) (found new : List X) where
  one_more : i < length all → map shown (take (i + 1) all) ≡ map shown (take i all) ++ shown (get_or all i d) ∷ []
  one_more below = ap (map shown) (take_more all i d below) ∙ map-append shown (take i all) (get_or all i d ∷ [])

  -- the element at index i is in the set, and is appended
  pub takes_at : i < length all → IsSelected InSet (map shown (take i all)) (map shown found) → InSet (shown (get_or all i d)) → new ≡ found ++ get_or all i d ∷ []
      → IsSelected InSet (map shown (take (i + 1) all)) (map shown new)
  takes_at below before inside is =
      subst (λ l. IsSelected InSet l (map shown new)) (sym (one_more below))
      (subst (λ l. IsSelected InSet (map shown (take i all) ++ shown (get_or all i d) ∷ []) l) (sym (ap (map shown) is ∙ map-append shown found (get_or all i d ∷ [])))
      (takes_last InSet (shown (get_or all i d)) _ _ inside before))

  -- the element at index i is not in the set, and is skipped
  pub leaves_at : i < length all → IsSelected InSet (map shown (take i all)) (map shown found) → (¬ InSet (shown (get_or all i d))) → new ≡ found
      → IsSelected InSet (map shown (take (i + 1) all)) (map shown new)
  leaves_at below before outside is =
      subst (λ l. IsSelected InSet l (map shown new)) (sym (one_more below))
      (subst (λ l. IsSelected InSet (map shown (take i all) ++ shown (get_or all i d) ∷ []) (map shown l)) (sym is)
      (leaves_last InSet (shown (get_or all i d)) _ _ outside before))

module _ {X : Type 0} where
  empty-contains : (x : X) → Contains [] x → ⊥
  empty-contains x (k, below, is) = absurd (omega arith)

  -- an element of a list is its first or in the rest
  cases : (x : X) (xs : List X) (y : X) → Contains (x ∷ xs) y → (x ≡ y) ⊎ Contains xs y
  cases x xs y h = elim (Contains-append_cases (x ∷ []) xs y h) [
    | inl one ↦ elim (Contains-push_cases [] x y one) [ inl nowhere ↦ absurd (empty-contains y nowhere) | inr is ↦ inl is ]
    | inr other ↦ inr other
  ]

  first : (x : X) (xs : List X) (y : X) → x ≡ y → Contains (x ∷ xs) y
  first x xs y is = subst (Contains (x ∷ xs)) is (Contains-append_left (x ∷ []) xs x (Contains-push [] x))

  more : (x : X) (xs : List X) (y : X) → Contains xs y → Contains (x ∷ xs) y
  more x xs y h = Contains-append_right (x ∷ []) xs y h

module _ {X : Type 0} (InSet : X → Type 0) where
  to_members : {all some : List X} → IsSelected InSet all some → (y : X) → Contains some y → Contains all y × InSet y
  to_members none y h = absurd (empty-contains y h)
  to_members (takes {x = x} {all = all} {some = some} inside rest) y h = elim (cases x some y h) [
    | inl is ↦ (first x all y is, subst InSet is inside)
    | inr other ↦ let found = to_members rest y other in (more x all y found.0, found.1)
  ]
  to_members (leaves {x = x} {all = all} outside rest) y h = let found = to_members rest y h in (more x all y found.0, found.1)

  from_members : {all some : List X} → IsSelected InSet all some → (y : X) → Contains all y → InSet y → Contains some y
  from_members none y h inside = h
  from_members (takes {x = x} {all = all} {some = some} one rest) y h inside = elim (cases x all y h) [
    | inl is ↦ first x some y is
    | inr other ↦ more x some y (from_members rest y other inside)
  ]
  from_members (leaves {x = x} {all = all} outside rest) y h inside = elim (cases x all y h) [
    | inl is ↦ absurd (outside (subst InSet (sym is) inside))
    | inr other ↦ from_members rest y other inside
  ]

  -- the members of a selection are those of the list that are in the set
  pub selected-members : (all some : List X) → IsSelected InSet all some → (y : X) → Contains some y ↔ (Contains all y × InSet y)
  selected-members all some is y = (to_members is y, λ h. from_members is y h.0 h.1)

-- a list has one selection
pub selection_is_unique : {X : Type 0} (InSet : X → Type 0) (all some other : List X) → IsSelected InSet all some → IsSelected InSet all other → some ≡ other
selection_is_unique InSet [] [] [] none none = refl
selection_is_unique {X = X} InSet [] [] (x ∷ other) empty selected = elim selected [ ]
selection_is_unique {X = X} InSet [] (x ∷ some) other selected empty = elim selected [ ]
selection_is_unique InSet (x ∷ all) (x' ∷ some) (x'' ∷ other) (takes inside rest) (takes also later) = ap (λ l. x ∷ l) (selection_is_unique InSet all some other rest later)
selection_is_unique InSet (x ∷ all) (x' ∷ some) other (takes inside rest) (leaves outside later) = absurd (outside inside)
selection_is_unique InSet (x ∷ all) some (x' ∷ other) (leaves outside rest) (takes inside later) = absurd (outside inside)
selection_is_unique InSet (x ∷ all) some other (leaves outside rest) (leaves also later) = selection_is_unique InSet all some other rest later
