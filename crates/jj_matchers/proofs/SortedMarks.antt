-- Sorted and deduplicated marks ascend strictly, and are the marks.
use Rattle.std.proofs.Common.{◌≡◌, ◌⊎◌, inl, inr, ◌↔◌, ℕ, Bool, List, [], ◌∷◌, ◌++◌, length, map, take, drop, Contains, ap, sym, subst, ◌∙◌, arith, append-nil}
use Rattle.std.specs.declared.cmp.Ordering.{Ordering}
use Rattle.std.specs.declared.cmp.Ordering.TheVariants.{Less}
use Rattle.std.specs.Cmp.{on_total, on_equiv}
use Rattle.std.specs.List.{AllByRecursion, dedup}
use Rattle.std.specs.List.Retain.{IsFiltered, DiffersFromLast}
use Rattle.std.specs.List.Sorted.{IsPermutation, IsSorted, IsStrictlySortedBy}
use Rattle.std.proofs.lemmas.List.{drop_all, map-append, take_all}
use Rattle.std.proofs.lemmas.List.Filters.{dedup_is}
use Rattle.std.proofs.lemmas.List.Kept.{Any-dedup, Contains-from_dedup, IsStrictlySortedBy-dedup}
use Rattle.std.proofs.lemmas.List.Sorted.{Contains-permutation, IsPermutation-append_left, IsPermutation-append_right, IsPermutation-map, IsPermutation-sym}
use borrow.Rule.Slice.PartMut.{mid_of, post_of, put_mid, put_same}
use Rattle.jj_paths.specs.Names.{path_of}
use Rattle.jj_paths.specs.Orders.{path_cmp_total, path_eq, path_eq-Decides, path_eq_equiv, path_ties}
use Rattle.jj_paths.specs.Paths.{Path, path_cmp}
use Rattle.jj_paths.specs.declared.repo_path.RepoPath.{RepoPath}
use Rattle.jj_matchers.specs.Walk.{AreInOrder}
use Rattle.jj_matchers.proofs.PathSpans.{contains_cases, contains_first, contains_later}

abbrev cmp : RepoPath → RepoPath → Ordering
cmp a b = path_cmp (path_of a) (path_of b)

abbrev same : RepoPath → RepoPath → Bool
same a b = path_eq (path_of a) (path_of b)

-- 1. Members.

module _ {X Y : Type 0} (f : X → Y) where
  contains_map : (xs : List X) (x : X) → Contains xs x → Contains (map f xs) (f x)
  contains_map [] x c = absurd (omega (arith, c.1))
  contains_map (y ∷ ys) x c = by_case (contains_map ys x) (contains_cases y ys x c)
    where
      by_case : (Contains ys x → Contains (map f ys) (f x)) → (y ≡ x) ⊎ Contains ys x → Contains (f y ∷ map f ys) (f x)
      by_case rest (inl is) = subst (Contains (f y ∷ map f ys)) (ap f is) (contains_first (f y) (map f ys))
      by_case rest (inr later) = contains_later (f y) (map f ys) (f x) (rest later)

  map_contains : (xs : List X) (y : Y) → Contains (map f xs) y → (x : X) × Contains xs x × (f x ≡ y)
  map_contains [] y c = absurd (omega (arith, c.1))
  map_contains (x ∷ xs) y c = by_case (map_contains xs y) (contains_cases (f x) (map f xs) y c)
    where
      by_case : (Contains (map f xs) y → (z : X) × Contains xs z × (f z ≡ y)) → (f x ≡ y) ⊎ Contains (map f xs) y → (z : X) × Contains (x ∷ xs) z × (f z ≡ y)
      by_case rest (inl is) = (x, contains_first x xs, is)
      by_case rest (inr later) = let (z, c, is) = rest later in (z, contains_later x xs z c, is)

-- 2. A part of a list is permuted.

pub put_permuted : {X Y : Type 0} (f : X → Y) (a k : ℕ) (xs ys : List X) → IsPermutation (map f (mid_of a k xs)) (map f ys) → IsPermutation (map f xs) (map f (put_mid a k xs ys))
put_permuted {X} f a k xs ys moved =
    subst (λ l. IsPermutation (map f l) (map f (put_mid a k xs ys))) (put_same a k xs)
    (subst (λ l. IsPermutation l (map f (put_mid a k xs ys))) (sym (parts (mid_of a k xs)))
    (subst (IsPermutation (map f (take a xs) ++ (map f (mid_of a k xs) ++ map f (post_of a k xs)))) (sym (parts ys))
    (IsPermutation-append_right (map f (take a xs)) _ _ (IsPermutation-append_left (map f (post_of a k xs)) _ _ moved))))
  where
    parts : (zs : List X) → map f (put_mid a k xs zs) ≡ map f (take a xs) ++ (map f zs ++ map f (post_of a k xs))
    parts zs = map-append f (take a xs) (zs ++ post_of a k xs) ∙ ap (λ l. map f (take a xs) ++ l) (map-append f zs (post_of a k xs))

-- the whole list is permuted
pub put_whole : {X : Type 0} (n : ℕ) (items part : List X) → length part ≡ length items → n ≡ length items → take n (part ++ drop (length part) items) ≡ part
put_whole n items part same all =
    ap (λ l. take n (part ++ l)) (drop_all (length part) items (omega (arith, same))) ∙ ap (take n) (append-nil part) ∙ take_all n part (omega (arith, same, all))

-- 3. Deduplication of sorted marks.

all_mapped : (a : RepoPath) (xs : List RepoPath) → AllByRecursion (λ b. cmp a b ≡ Less) xs → AllByRecursion (λ q. path_cmp (path_of a) q ≡ Less) (map path_of xs)
all_mapped a [] h = tt
all_mapped a (x ∷ xs) h = (h.0, all_mapped a xs h.1)

sorted_map : (xs : List RepoPath) → IsStrictlySortedBy cmp xs → IsStrictlySortedBy path_cmp (map path_of xs)
unfolding IsStrictlySortedBy
sorted_map [] h = tt
sorted_map (x ∷ xs) h = (all_mapped x xs h.0, sorted_map xs h.1)

module _ (sorted kept : List RepoPath) (filtered : IsFiltered (DiffersFromLast same) [] sorted kept) where
  is_dedup : kept ≡ dedup same sorted
  is_dedup = dedup_is same sorted kept filtered

  pub deduped_ascend : IsSorted cmp sorted → AreInOrder (map path_of kept)
  deduped_ascend up = sorted_map kept (subst (IsStrictlySortedBy cmp) (sym is_dedup) (IsStrictlySortedBy-dedup (on_total path_of path_cmp_total) (λ a b. path_ties (path_of a) (path_of b)) sorted up))

  to_sorted : (path : Path) → Contains (map path_of kept) path → Contains (map path_of sorted) path
  to_sorted path c =
      let (x, there, is) = map_contains path_of kept path c in
      subst (Contains (map path_of sorted)) is (contains_map path_of sorted x (Contains-from_dedup same sorted x (subst (λ l. Contains l x) is_dedup there)))

  from_sorted : (path : Path) → Contains (map path_of sorted) path → Contains (map path_of kept) path
  from_sorted path c =
      let (x, there, is) = map_contains path_of sorted path c in
      let found = Any-dedup {E = same} (on_equiv path_of path_eq_equiv) sorted x there in
      let y = found.1 in
      let listed : Contains kept y = subst (λ l. Contains l y) (sym is_dedup) (found.0, found.2, found.3) in
      subst (Contains (map path_of kept)) (sym ((path_eq-Decides (path_of x) (path_of y)).0 found.4) ∙ is) (contains_map path_of kept y listed)

  pub same_marks : (marks keyed : List Path) (copied : List RepoPath) → IsPermutation marks keyed → map path_of copied ≡ keyed → IsPermutation copied sorted → (path : Path) → Contains (map path_of kept) path ↔ Contains marks path
  same_marks marks keyed copied moved copy moved' path = (
    (λ c. Contains-permutation keyed marks path (IsPermutation-sym marks keyed moved) (subst (λ l. Contains l path) copy
        (Contains-permutation (map path_of sorted) (map path_of copied) path (IsPermutation-sym (map path_of copied) (map path_of sorted) (IsPermutation-map path_of copied sorted moved')) (to_sorted path c)))),
    (λ c. from_sorted path (Contains-permutation (map path_of copied) (map path_of sorted) path (IsPermutation-map path_of copied sorted moved') (subst (λ l. Contains l path) (sym copy) (Contains-permutation marks keyed path moved c)))),
  )
