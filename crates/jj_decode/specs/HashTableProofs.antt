-- Proofs that the contents of hash maps and hash sets are prefix-free and nonempty.
-- Cited by contracts of public items: hash_map_contents, hash_set_contents.
use Rattle.std.proofs.Common.{◌≡◌, ℕ, List, [], ◌∷◌, map, Bool, arith}
use Rattle.std.specs.List.{AllByRecursion}
use Rattle.std.specs.List.Sorted.{IsStrictlySortedBy}
use Rattle.std.specs.Cmp.{IsTotalOrder}
use Rattle.std.specs.Ordering.{on, is_eq}
use Rattle.std.specs.declared.cmp.Ordering.{Ordering}
use Rattle.std.specs.declared.cmp.Ordering.TheVariants.{Less}
use Rattle.std.specs.HashMap.{HashMap}
use Rattle.std.specs.HashMap as hash
use Rattle.std.specs.HashSet.{HashSet}
use Rattle.std.specs.HashSet as bag
use Rattle.std.proofs.lemmas.Cmp.{on_total}
use Rattle.std.proofs.lemmas.List.Elements.{recursion_from_All, All-from_recursion}
use Rattle.jj_content.specs.Content.{IsLawful, AreValues, insertion_sort, map_content, set_content}
use Rattle.jj_content.specs.SortingProofs.{sorted_sort, all_sorted, length_sorted}
use Rattle.jj_content.specs.HashTableProofs.{distinct_items, distinct_by_order}
use Rattle.jj_decode.specs.Decoding.{AreBoth}
use Rattle.jj_decode.specs.Contents.{AreContents, MapContents, SetContents}
use Rattle.jj_decode.specs.ContentsProofs.{map_contents, set_contents}

values_sorted : {X : Type 0} (S : X → X → Ordering) (v : X → Type 0) (xs : List X) → AreValues v xs
    → AreValues v (insertion_sort S xs)
values_sorted S v xs a =
    let long = length_sorted S xs in (
      omega (arith, a.0),
      All-from_recursion v (insertion_sort S xs)
          (all_sorted S v xs (recursion_from_All v xs a.1)),
    )

-- ---- a list sorted by keys has sorted keys, and conversely

module _ {X K : Type 0} (key : X → K) (R : K → K → Ordering) where
  keys_above : (x : X) (ys : List X) → AllByRecursion (λ y. R (key x) (key y) ≡ Less) ys
      → AllByRecursion (λ q. R (key x) q ≡ Less) (map key ys)
  keys_above x [] a = tt
  keys_above x (y ∷ ys) a = (a.0, keys_above x ys a.1)

  items_above : (x : X) (ys : List X) → AllByRecursion (λ q. R (key x) q ≡ Less) (map key ys)
      → AllByRecursion (λ y. R (key x) (key y) ≡ Less) ys
  items_above x [] a = tt
  items_above x (y ∷ ys) a = (a.0, items_above x ys a.1)

  pub sorted_keys : (xs : List X) → IsStrictlySortedBy (on key R) xs
      → IsStrictlySortedBy R (map key xs)
  unfolding IsStrictlySortedBy
  sorted_keys [] s = tt
  sorted_keys (x ∷ xs) s = (keys_above x xs s.0, sorted_keys xs s.1)

  pub sorted_by_keys : (xs : List X) → IsStrictlySortedBy R (map key xs)
      → IsStrictlySortedBy (on key R) xs
  unfolding IsStrictlySortedBy
  sorted_by_keys [] s = tt
  sorted_by_keys (x ∷ xs) s = (items_above x xs s.0, sorted_by_keys xs s.1)

-- ---- hash maps and hash sets

module _ {K : Type 0} {R : K → K → Ordering} (o : IsTotalOrder R) {E : K → K → Bool}
    (ties : (x y : K) → E x y ≡ is_eq (R x y))
    {vk : K → Type 0} {ck : K → List ℕ} (lk : IsLawful vk E ck) where
  pub hash_map_contents : {V Z : Type 0} {vv : V → Type 0} {F : V → V → Bool} {cv : V → List ℕ}
      → IsLawful vv F cv
      → AreContents {X = HashMap K V Z} (λ m. hash.IsUnique E m
      × AreValues (λ e. vk e.0 × vv e.1) m.entries) (λ m. map_content R ck cv m.entries)
      (MapContents R vk ck vv cv)
  hash_map_contents {V} {Z} {vv} {F} {cv} lv =
      let key : K × V → K = λ e. e.0 in
      let maps = map_contents R lk lv in
      record {
        covers = λ m valid.
            let distinct = distinct_by_order key R E ties m.entries
            (distinct_items key E m.entries valid.0) in
            maps.covers (insertion_sort (on key R) m.entries) (
              sorted_keys key R (insertion_sort (on key R) m.entries)
                  (sorted_sort (on_total key o) m.entries distinct),
              values_sorted (on key R) (AreBoth vk vv) m.entries valid.1,
            );
        prefix_free = maps.prefix_free;
        nonempty = maps.nonempty;
      }

  pub hash_set_contents : {Z : Type 0} → AreContents {X = HashSet K Z} (λ s. bag.IsUnique E s
      × AreValues vk s.keys) (λ s. set_content R ck s.keys) (SetContents R vk ck)
  hash_set_contents {Z} =
      let sets = set_contents R lk in
      record {
        covers = λ s valid.
            sets.covers (insertion_sort R s.keys) (
              sorted_sort o s.keys (distinct_by_order (λ (k : K). k) R E ties s.keys valid.0),
              values_sorted R vk s.keys valid.1,
            );
        prefix_free = sets.prefix_free;
        nonempty = sets.nonempty;
      }
