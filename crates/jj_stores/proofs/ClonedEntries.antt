-- Clones of lists item by item, and of sorted maps by inserting clones in ascending order.
use Rattle.std.proofs.Common.{◌≡◌, ◌++◌, ◌∷◌, [], ◌∙◌, ◌&&◌, Bool, true, ℕ, List, Option, Some, None, refl, sym, ap, ap₂, subst, string_bytes}
use Rattle.std.specs.BTreeMap.{BTreeMap, insert_entry}
use Rattle.std.specs.Cmp.{IsEquivalence, IsTotalOrder}
use Rattle.std.specs.Cmp.Lexicographic.{pointwise, nat_list_eq_equiv}
use Rattle.std.specs.HashSet.{HashSet, hash_set_eq}
use Rattle.std.specs.HashSet.Eq.{hash_set_eq_equiv}
use Rattle.std.specs.List.{AllZip, AllByRecursion, list_all, list_any}
use Rattle.std.specs.List.Sorted.{IsStrictlySortedBy}
use Rattle.std.specs.Map.{keys_of}
use Rattle.std.specs.Option.{option_eq}
use Rattle.std.specs.Ordering.{ordering_reverse, match_ordering}
use Rattle.std.specs.declared.cmp.Ordering.{Ordering}
use Rattle.std.specs.declared.cmp.Ordering.TheVariants.{Less, Greater}
use Rattle.std.specs.Str.{bytes_eq}
use Rattle.std.proofs.lemmas.Bool.{and_from}
use Rattle.std.proofs.lemmas.List.{map-append}
use Rattle.std.proofs.lemmas.List.Elements.{AllZip-push}
use Rattle.std.specs.Vec.{vec_len}
use Rattle.std.specs.declared.string.String.{String}
use Rattle.std.specs.declared.vec.Vec.{Vec}
use Rattle.jj_merges.specs.Options.{IsOptionClone}
use Rattle.jj_stores.specs.OperationLaws.{attributes_eq, predecessors_eq}
use Rattle.jj_stores.specs.ViewLaws.{named_eq}

module _ {X : Type 0} where
  -- equality is reflexive
  pub equal_same : {eq : X → X → Bool} → IsEquivalence eq → (x y : X) → y ≡ x → eq y x ≡ true
  equal_same {eq} laws x y same = ap (λ (z : X). eq z x) same ∙ laws.refl x

  -- lists are equal if their items are
  pub pointwise_cloned : (R : X → X → Type 0) (eq : X → X → Bool)
      → ((x y : X) → R x y → eq y x ≡ true)
      → (xs ys : List X) → AllZip R xs ys → pointwise eq ys xs ≡ true
  pointwise_cloned R eq equal [] [] z = refl
  pointwise_cloned R eq equal [] (y ∷ ys) z = absurd z
  pointwise_cloned R eq equal (x ∷ xs) [] z = absurd z
  pointwise_cloned R eq equal (x ∷ xs) (y ∷ ys) z =
      and_from _ _ (equal x y z.0) (pointwise_cloned R eq equal xs ys z.1)

at_key : {K : Type 0} (P : K → Type 0) (before after : List K) (k : K)
    → AllByRecursion P (before ++ k ∷ after) → P k
at_key P [] after k all = all.0
at_key P (q ∷ before) after k all = at_key P before after k all.1

module _ {K X : Type 0} where
  module _ {cmp : K → K → Ordering} (total : IsTotalOrder cmp) where
    -- a key greater than all others is inserted at the end
    insert_last : (es : List (K × X)) (k : K) (v : X) (after : List K)
        → IsStrictlySortedBy cmp (keys_of es ++ k ∷ after)
        → insert_entry cmp es k v ≡ es ++ (k, v) ∷ []
    unfolding IsStrictlySortedBy
    insert_last [] k v after sorted = refl
    insert_last (e ∷ es) k v after sorted =
        let below = at_key (λ q. cmp e.0 q ≡ Less) (keys_of es) after k sorted.0 in
        let above : cmp k e.0 ≡ Greater = total.antisymm k e.0 ∙ ap ordering_reverse below in
        ap (λ o. match_ordering o ((k, v) ∷ e ∷ es) ((e.0, v) ∷ es)
        (e ∷ insert_entry cmp es k v)) above
        ∙ ap (λ rest. e ∷ rest) (insert_last es k v after sorted.1)

  module _ (R : X → X → Type 0) where
    -- equal keys, and a clone of the value
    abbrev pub IsClonedEntry : K × X → K × X → Type 0
    IsClonedEntry e f = (f.0 ≡ e.0) × R e.1 f.1

    same_keys : (es fs : List (K × X)) → AllZip IsClonedEntry es fs → keys_of fs ≡ keys_of es
    same_keys [] [] z = refl
    same_keys [] (f ∷ fs) z = absurd z
    same_keys (e ∷ es) [] z = absurd z
    same_keys (e ∷ es) (f ∷ fs) z =
        let first = z.0.0 in let rest = same_keys es fs z.1 in λ i. first i ∷ rest i

    -- inserts the clone of the next entry
    pub push_cloned : {cmp : K → K → Ordering} → IsTotalOrder cmp
        → (done rest fs : List (K × X)) (e f : K × X)
        → IsStrictlySortedBy cmp (keys_of (done ++ e ∷ rest))
        → AllZip IsClonedEntry done fs → IsClonedEntry e f
        → AllZip IsClonedEntry (done ++ e ∷ []) (insert_entry cmp fs f.0 f.1)
    push_cloned {cmp} total done rest fs e f sorted copied next =
        let keys : keys_of (done ++ e ∷ rest) ≡ keys_of fs ++ f.0 ∷ keys_of rest =
        map-append (λ (e : K × X). e.0) done (e ∷ rest)
        ∙ ap₂ (λ (qs : List K) (k : K). qs ++ k ∷ keys_of rest)
        (sym (same_keys done fs copied)) (sym next.0) in
        let last = insert_last total fs f.0 f.1 (keys_of rest)
        (subst (IsStrictlySortedBy cmp) keys sorted) in
        subst (AllZip IsClonedEntry (done ++ e ∷ [])) (sym last)
        (AllZip-push IsClonedEntry done fs e f copied next)

-- clones of the entries of a map from names
pub named_cloned : {V : Type 0} (eq : V → V → Bool) (es fs : List (List ℕ × V))
    → AllZip (IsClonedEntry (λ v w. eq w v ≡ true)) es fs → named_eq eq fs es ≡ true
named_cloned eq es fs copied = pointwise_cloned (IsClonedEntry (λ v w. eq w v ≡ true)) _
    (λ e f same. and_from _ _ (equal_same nat_list_eq_equiv e.0 f.0 same.0) same.1) es fs copied

-- clones of maps from names to ids
pub ids_cloned : (es fs : List (List ℕ × List ℕ))
    → AllZip (λ e f. (f.0 ≡ e.0) × (f.1 ≡ e.1)) es fs → named_eq bytes_eq fs es ≡ true
ids_cloned es fs copied = pointwise_cloned _ _
    (λ e f same. and_from _ _ (equal_same nat_list_eq_equiv e.0 f.0 same.0)
    (equal_same nat_list_eq_equiv e.1 f.1 same.1)) es fs copied

-- clones of maps from strings to strings
pub strings_cloned : {A : Type 0} (es fs : List (String A × String A))
    → AllZip (λ e f. (string_bytes f.0 ≡ string_bytes e.0)
    × (string_bytes f.1 ≡ string_bytes e.1)) es fs
    → attributes_eq fs es ≡ true
strings_cloned es fs copied = pointwise_cloned _ _
    (λ e f same. and_from _ _ (equal_same nat_list_eq_equiv (string_bytes e.0) (string_bytes f.0) same.0)
    (equal_same nat_list_eq_equiv (string_bytes e.1) (string_bytes f.1) same.1)) es fs copied

pub set_cloned : {S : Type 0} (s t : HashSet (List ℕ) S) → t.keys ≡ s.keys
    → hash_set_eq bytes_eq t s ≡ true
set_cloned s t same =
    ap (λ (ks : List (List ℕ)). list_all (λ k. list_any (bytes_eq k) s.keys) ks
    && list_all (λ k. list_any (bytes_eq k) ks) s.keys) same
    ∙ (hash_set_eq_equiv nat_list_eq_equiv).refl s

pub option_cloned : {A : Type 0} (R : A → A → Type 0) (eq : A → A → Bool)
    → ((x y : A) → R x y → eq y x ≡ true)
    → (o p : Option A) → IsOptionClone R o p → option_eq eq p o ≡ true
option_cloned R eq equal (Some x) (Some y) k = equal x y k
option_cloned R eq equal (Some x) None k = absurd k
option_cloned R eq equal None (Some y) k = absurd k
option_cloned R eq equal None None k = refl

pub predecessors_cloned : {A : Type 0} (m n : BTreeMap (List ℕ) (Vec (List ℕ) A))
    → AllZip (λ e f. (f.0 ≡ e.0)
    × (AllZip (λ x y. y ≡ x) e.1.items f.1.items × (vec_len f.1 ≡ vec_len e.1)))
    m.entries n.entries
    → predecessors_eq n m ≡ true
predecessors_cloned m n copied = pointwise_cloned _ _
    (λ e f same. and_from _ _ (equal_same nat_list_eq_equiv e.0 f.0 same.0)
    (pointwise_cloned _ bytes_eq (equal_same nat_list_eq_equiv) e.1.items f.1.items same.1.0))
    m.entries n.entries copied
