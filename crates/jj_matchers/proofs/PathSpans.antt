-- Paths between two others in path order, prefixes of a path by their length, and strictly ascending lists with the same members.
use Rattle.std.proofs.Common.{◌≡◌, ◌≢◌, ◌⊎◌, inl, inr, ℕ, zero, suc, ◌<◌, List, [], ◌∷◌, ◌++◌, length, take, Contains, refl, ap, sym, subst, ◌∙◌, arith}
use Rattle.std.specs.declared.cmp.Ordering.{Ordering}
use Rattle.std.specs.declared.cmp.Ordering.TheVariants.{Less, Equal, Greater}
use Rattle.std.specs.Ordering.{ordering_reverse, ordering_then}
use Rattle.std.specs.Cmp.Lexicographic.{nat_list_cmp_total}
use Rattle.std.specs.List.{AllByRecursion}
use Rattle.std.specs.List.Sorted.{IsStrictlySortedBy}
use Rattle.std.proofs.Math.Seq.{take-append_seam}
use Rattle.jj_paths.specs.Paths.{Name, Path, name_cmp, path_cmp}
use Rattle.jj_paths.specs.Orders.{path_cmp_total}
use Rattle.jj_paths.proofs.PathOrders.{name_cmp-same, before_below}

-- 1. Comparisons.

less≢equal : Equal ≡ Less → ⊥
less≢equal e = cc

less≢greater : Greater ≡ Less → ⊥
less≢greater e = cc

pub path_cmp-itself : (x : Path) → path_cmp x x ≡ Less → ⊥
path_cmp-itself x e =
    let back : Less ≡ Greater = sym e ∙ path_cmp_total.antisymm x x ∙ ap ordering_reverse e in
    less≢greater (sym back)

pub path_cmp-equal : (x y : Path) → path_cmp x y ≡ Equal → path_cmp y x ≡ Less → ⊥
path_cmp-equal x y e less =
    let back : Equal ≡ Greater = sym e ∙ path_cmp_total.antisymm x y ∙ ap ordering_reverse less in
    less≢equal (back ∙ sym back ∙ absurd (equal≢greater back))
  where
    equal≢greater : Equal ≡ Greater → ⊥
    equal≢greater e = cc

pub root_first : (name : Name) (rest : Path) → path_cmp [] (name ∷ rest) ≡ Less
root_first name rest = refl

-- a path between a directory and one below it is itself below the directory
pub convex : (dir path rest : Path) → path_cmp dir path ≡ Less → path_cmp path (dir ++ rest) ≡ Less → (name : Name) × (more : Path) × (path ≡ dir ++ name ∷ more)
convex [] [] rest low high = absurd (less≢equal low)
convex [] (name ∷ more) rest low high = (name, more, refl)
convex (a ∷ dir) [] rest low high = absurd (less≢greater low)
convex (a ∷ dir) (b ∷ path) rest low high = by_name (convex dir path rest) (name_cmp a b) refl
  where
    Deeper : Type 0
    Deeper = path_cmp dir path ≡ Less → path_cmp path (dir ++ rest) ≡ Less → (name : Name) × (more : Path) × (path ≡ dir ++ name ∷ more)

    back : (r : Ordering) → name_cmp a b ≡ r → name_cmp b a ≡ ordering_reverse r
    back r e = nat_list_cmp_total.antisymm b a ∙ ap ordering_reverse e

    by_name : Deeper → (r : Ordering) → name_cmp a b ≡ r → (name : Name) × (more : Path) × (b ∷ path ≡ a ∷ (dir ++ name ∷ more))
    by_name deeper Less e = absurd (less≢greater (sym (ap (λ r. ordering_then r (path_cmp path (dir ++ rest))) (back Less e)) ∙ high))
    by_name deeper Equal e =
        let (name, more, is) = deeper (sym (ap (λ r. ordering_then r (path_cmp dir path)) e) ∙ low) (sym (ap (λ r. ordering_then r (path_cmp path (dir ++ rest))) (back Equal e)) ∙ high) in
        (name, more, ap (λ n. n ∷ path) (sym (name_cmp-same a b e)) ∙ ap (λ p. a ∷ p) is)
    by_name deeper Greater e = absurd (less≢greater (sym (ap (λ r. ordering_then r (path_cmp dir path)) e) ∙ low))

-- a directory above an earlier path precedes each directory that is above a later path and not above the last of the earlier ones
pub before_new : (above last dir rest : Path) (name : Name) (more : Path) → (above ++ name ∷ more ≡ last) ⊎ (path_cmp (above ++ name ∷ more) last ≡ Less) → path_cmp last (dir ++ rest) ≡ Less
    → ((n : Name) (r : Path) → last ≢ dir ++ n ∷ r) → path_cmp above dir ≡ Less
before_new above last dir rest name more earlier later fresh = by_order (path_cmp above dir) refl
  where
    below : path_cmp above last ≡ Less
    below = by_case earlier
      where
        by_case : (above ++ name ∷ more ≡ last) ⊎ (path_cmp (above ++ name ∷ more) last ≡ Less) → path_cmp above last ≡ Less
        by_case (inl is) = subst (λ p. path_cmp above p ≡ Less) is (before_below above name more)
        by_case (inr less) = path_cmp_total.trans above (above ++ name ∷ more) last (before_below above name more) less

    clash : path_cmp dir last ≡ Less → ⊥
    clash low = let (n, r, is) = convex dir last rest low later in fresh n r is

    by_order : (r : Ordering) → path_cmp above dir ≡ r → r ≡ Less
    by_order Less e = refl
    by_order Equal e = absurd (clash (sym (path_cmp_total.congr above dir last e) ∙ below))
    by_order Greater e = absurd (clash (path_cmp_total.trans dir above last (path_cmp_total.antisymm dir above ∙ ap ordering_reverse e) below))

-- 2. Prefixes by their length.

pub take_prefix : (dir rest path : Path) → path ≡ dir ++ rest → take (length dir) path ≡ dir
take_prefix dir rest path is = ap (take (length dir)) is ∙ take-append_seam dir rest

pub cut_at : (j : ℕ) (path : Path) → j < length path → (name : Name) × (rest : Path) × (path ≡ take j path ++ name ∷ rest)
cut_at j [] lt = absurd (omega (arith, lt))
cut_at zero (name ∷ rest) lt = (name, rest, refl)
cut_at (suc j) (first ∷ path) lt = let (name, rest, is) = cut_at j path (omega (arith, lt)) in (name, rest, ap (λ p. first ∷ p) is)

-- 3. Members of strictly ascending lists.

module _ {X : Type 0} where
  pub contains_cases : (y : X) (ys : List X) (x : X) → Contains (y ∷ ys) x → (y ≡ x) ⊎ Contains ys x
  contains_cases y ys x (zero, lt, is) = inl is
  contains_cases y ys x (suc k, lt, is) = inr (k, omega (arith, lt), is)

  pub contains_first : (y : X) (ys : List X) → Contains (y ∷ ys) y
  contains_first y ys = (0, omega arith, refl)

  pub contains_later : (y : X) (ys : List X) (x : X) → Contains ys x → Contains (y ∷ ys) x
  contains_later y ys x h = (suc h.0, omega (arith, h.1), h.2)

  pub all_contained : (P : X → Type 0) (xs : List X) (x : X) → AllByRecursion P xs → Contains xs x → P x
  all_contained P [] x h c = absurd (omega (arith, c.1))
  all_contained P (y ∷ ys) x h c = by_case (all_contained P ys x h.1) (contains_cases y ys x c)
    where
      by_case : (Contains ys x → P x) → (y ≡ x) ⊎ Contains ys x → P x
      by_case rest (inl is) = subst P is h.0
      by_case rest (inr later) = rest later

pub same_sorted : (xs ys : List Path) → IsStrictlySortedBy path_cmp xs → IsStrictlySortedBy path_cmp ys → ((x : Path) → Contains xs x → Contains ys x) → ((y : Path) → Contains ys y → Contains xs y) → xs ≡ ys
unfolding IsStrictlySortedBy
same_sorted [] [] h k to from = refl
same_sorted [] (y ∷ ys) h k to from = absurd (omega (arith, (from y (contains_first y ys)).1))
same_sorted (x ∷ xs) [] h k to from = absurd (omega (arith, (to x (contains_first x xs)).1))
same_sorted (x ∷ xs) (y ∷ ys) h k to from = ap (λ z. z ∷ xs) first ∙ ap (λ l. y ∷ l) (same_sorted xs ys h.1 k.1 to_rest from_rest)
  where
    first : x ≡ y
    first = by_cases (contains_cases y ys x (to x (contains_first x xs))) (contains_cases x xs y (from y (contains_first y ys)))
      where
        by_cases : (y ≡ x) ⊎ Contains ys x → (x ≡ y) ⊎ Contains xs y → x ≡ y
        by_cases (inl is) other = sym is
        by_cases (inr later) (inl is) = is
        by_cases (inr later) (inr other) =
            absurd (path_cmp-itself x (path_cmp_total.trans x y x (all_contained (λ z. path_cmp x z ≡ Less) xs y h.0 other) (all_contained (λ z. path_cmp y z ≡ Less) ys x k.0 later)))

    to_rest : (z : Path) → Contains xs z → Contains ys z
    to_rest z c = by_case (contains_cases y ys z (to z (contains_later x xs z c)))
      where
        by_case : (y ≡ z) ⊎ Contains ys z → Contains ys z
        by_case (inl is) = absurd (path_cmp-itself x (subst (λ w. path_cmp x w ≡ Less) (sym is ∙ sym first) (all_contained (λ w. path_cmp x w ≡ Less) xs z h.0 c)))
        by_case (inr later) = later

    from_rest : (z : Path) → Contains ys z → Contains xs z
    from_rest z c = by_case (contains_cases x xs z (from z (contains_later y ys z c)))
      where
        by_case : (x ≡ z) ⊎ Contains xs z → Contains xs z
        by_case (inl is) = absurd (path_cmp-itself y (subst (λ w. path_cmp y w ≡ Less) (sym is ∙ first) (all_contained (λ w. path_cmp y w ≡ Less) ys z k.0 c)))
        by_case (inr later) = later
