-- Contents of maps and sets: items with ascending keys.
use Rattle.std.proofs.Common.{◌≡◌, ℕ, suc, ◌-◌, ◌^◌, ◌<◌, ◌≤◌, Bool, List, [], ◌∷◌, ◌++◌, length, drop, map, Some, arith, refl, sym, ap, subst, ◌∙◌, zero, true, false}
use Rattle.std.specs.Prelude.{All, MatchBool, slice_get}
use Rattle.std.specs.List.{flat_map, AllByRecursion}
use Rattle.std.proofs.lemmas.Bool.{and_parts}
use Rattle.std.proofs.lemmas.List.Elements.{recursion_from_All}
use Rattle.std.proofs.lemmas.List.{append_assoc}
use Rattle.std.specs.List.Sorted.{IsStrictlySortedBy}
use Rattle.std.specs.Map.{keys_of}
use Rattle.std.specs.BTreeMap.{insert_entry}
use Rattle.std.specs.Cmp.{IsTotalOrder}
use Rattle.std.specs.Ordering.{is_lt, is_eq, ordering_reverse, eq_by_cmp, eq_of_both, on}
use Rattle.std.specs.declared.cmp.Ordering.{Ordering}
use Rattle.std.specs.declared.cmp.Ordering.TheVariants.{Less, Equal, Greater}
use Rattle.std.proofs.lemmas.Cmp.{alike_right}
use Rattle.std.proofs.lemmas.Map.Keys.{sorted_head, sorted_tail}
use Rattle.jj_content.specs.Content.{IsLawful, AreValues, u64_content, list_content}
use Rattle.jj_content.specs.PrefixFreeProofs.{u64_prefix_free, u64_lawful}
use Rattle.jj_decode.specs.declared.error.DecodeError.{DecodeError}
use Rattle.jj_decode.specs.declared.error.DecodeError.TheVariants.{Memory, Malformed}
use Rattle.jj_decode.specs.Decoding.{IsContentAt, NoContentAt, IsErrorAt, AreItems, IsGreater, IsCounted, counted_content, IsMalformedAt}
use Rattle.jj_decode.specs.Contents.{IsContentOf}
use Rattle.jj_decode.proofs.ContentAt.{end_is, rest_equal, error_narrow, error_image}
use Rattle.jj_decode.proofs.ListItems.{items_error, ItemsRead, list_count_error, list_decoded}

less_is : (o : Ordering) → is_lt o ≡ true → o ≡ Less
less_is Less e = refl
less_is Equal e = cc
less_is Greater e = cc

equal_is : (o : Ordering) → is_eq o ≡ true → o ≡ Equal
equal_is Less e = cc
equal_is Equal e = refl
equal_is Greater e = cc

-- the key of an item at an index
at_index : {X K : Type 0} (key : X → K) (P : K → Type 0) (xs : List X) (n : ℕ) (x : X)
    → AllByRecursion P (map key xs) → slice_get xs n ≡ Some x → P (key x)
at_index key P [] n x p h = absurd cc
at_index key P (y ∷ xs) zero x p h = let y-is : y ≡ x = cc in subst (λ z. P (key z)) y-is p.0
at_index key P (y ∷ xs) (suc n) x p h = at_index key P xs n x p.1 h

-- an item at an index
item_at : {X : Type 0} (P : X → Type 0) (xs : List X) (n : ℕ) (x : X) → AllByRecursion P xs
    → slice_get xs n ≡ Some x → P x
item_at P [] n x p h = absurd cc
item_at P (y ∷ xs) zero x p h = let y-is : y ≡ x = cc in subst P y-is p.0
item_at P (y ∷ xs) (suc n) x p h = item_at P xs n x p.1 h

module _ {K : Type 0} {cmp : K → K → Ordering} (o : IsTotalOrder cmp) where
  below : (l q k : K) → is_lt (cmp l q) ≡ false → cmp l k ≡ Less → cmp q k ≡ Less
  below l q k not h = below_by (cmp l q) refl not
    where
      below_by : (r : Ordering) → cmp l q ≡ r → is_lt r ≡ false → cmp q k ≡ Less
      below_by Less e f = absurd cc
      below_by Equal e f = sym (o.congr l q k e) ∙ h
      below_by Greater e f = o.trans q l k (o.antisymm q l ∙ ap ordering_reverse e) h

  greater_than_each : (ks : List K) (l k : K) → AllByRecursion (λ q. is_lt (cmp l q) ≡ false) ks
      → cmp l k ≡ Less → IsGreater cmp ks k
  greater_than_each [] l k p h = tt
  greater_than_each (q ∷ ks) l k p h = (below l q k p.0 h, greater_than_each ks l k p.1 h)

  -- a key is greater than each key of a map if it is greater than the last
  pub greater_by_last : {V : Type 0} (es : List (K × V)) (l : K × V) (k : K) (n : ℕ) (b : Bool)
      → slice_get es n ≡ Some l → All (λ q. is_lt (cmp l.0 q) ≡ false) (keys_of es)
      → b ≡ is_lt (cmp l.0 k)
      → MatchBool b (IsGreater cmp (keys_of es) k) (¬ (IsGreater cmp (keys_of es) k))
  greater_by_last es l k n true found last e = greater_than_each (keys_of es) l.0 k
      (recursion_from_All (λ q. is_lt (cmp l.0 q) ≡ false) (keys_of es) last)
      (less_is (cmp l.0 k) (sym e))
  greater_by_last {V} es l k n false found last e = λ greater.
      let less : cmp l.0 k ≡ Less = at_index (λ (e : K × V). e.0) (λ q. cmp q k ≡ Less) es n l
      greater found in
      let yes : is_lt (cmp l.0 k) ≡ true = ap is_lt less in
      absurd cc

  -- a member is greater than each sorted member if it is greater than the last
  greater_than_sorted : (ks : List K) (l k : K) → slice_get ks (length ks - 1) ≡ Some l
      → IsStrictlySortedBy cmp ks → cmp l k ≡ Less → IsGreater cmp ks k
  unfolding IsStrictlySortedBy
  greater_than_sorted [] l k found s h = tt
  greater_than_sorted (q ∷ []) l k found s h =
      let is : q ≡ l = cc in (ap (λ (z : K). cmp z k) is ∙ h, tt)
  greater_than_sorted (q ∷ p ∷ ks) l k found s h =
      let n : length (q ∷ p ∷ ks) - 1 ≡ suc (length (p ∷ ks) - 1) = omega arith in
      let later : slice_get (p ∷ ks) (length (p ∷ ks) - 1) ≡ Some l =
      subst (λ (m : ℕ). slice_get (q ∷ p ∷ ks) m ≡ Some l) n found in
      let less : cmp q l ≡ Less = item_at (λ z. cmp q z ≡ Less) (p ∷ ks) (length (p ∷ ks) - 1) l
      s.0 later in (
        o.trans q l k less h,
        greater_than_sorted (p ∷ ks) l k later s.1 h,
      )

  pub greatest_by_last : (ks : List K) (l k : K) (b : Bool)
      → slice_get ks (length ks - 1) ≡ Some l → IsStrictlySortedBy cmp ks → b ≡ is_lt (cmp l k)
      → MatchBool b (IsGreater cmp ks k) (¬ (IsGreater cmp ks k))
  greatest_by_last ks l k true found s e =
      greater_than_sorted ks l k found s (less_is (cmp l k) (sym e))
  greatest_by_last ks l k false found s e = λ greater.
      let less : cmp l k ≡ Less = item_at (λ q. cmp q k ≡ Less) ks (length ks - 1) l greater found in
      let yes : is_lt (cmp l k) ≡ true = ap is_lt less in
      absurd cc

  all_push : (P : K → Type 0) (ks : List K) (k : K) → AllByRecursion P ks → P k
      → AllByRecursion P (ks ++ k ∷ [])
  all_push P [] k a p = (p, tt)
  all_push P (q ∷ ks) k a p = (a.0, all_push P ks k a.1 p)

  pub sorted_nil : IsStrictlySortedBy cmp []
  unfolding IsStrictlySortedBy
  sorted_nil = tt

  pub sorted_push : (ks : List K) (k : K) → IsStrictlySortedBy cmp ks → IsGreater cmp ks k
      → IsStrictlySortedBy cmp (ks ++ k ∷ [])
  unfolding IsStrictlySortedBy
  sorted_push [] k s g = (tt, tt)
  sorted_push (q ∷ ks) k s g = (
    all_push (λ z. cmp q z ≡ Less) ks k s.0 g.0,
    sorted_push ks k s.1 g.1,
  )

  -- a key greater than all is inserted at the end
  pub insert_last : {V : Type 0} (es : List (K × V)) (k : K) (x : V) → IsGreater cmp (keys_of es) k
      → insert_entry cmp es k x ≡ es ++ (k, x) ∷ []
  insert_last [] k x p = refl
  insert_last {V} (e ∷ es) k x p =
      let greater : cmp k e.0 ≡ Greater = o.antisymm k e.0 ∙ ap ordering_reverse p.0 in
      rw greater (ap (λ (z : List (K × V)). e ∷ z) (insert_last es k x p.1))

-- ---- items read one after the other, from the laws of their content

module _ {X K : Type 0} (key : X → K) {cmp : K → K → Ordering} (o : IsTotalOrder cmp)
    {v : X → Type 0} {e : X → X → Bool} {c : X → List ℕ} (l : IsLawful v e c)
    (alike : (x y : X) → e x y ≡ true → cmp (key x) (key y) ≡ Equal) where
  -- the item read after `done` has a key of the longer list `xs`, in which all keys satisfy P
  key_among : (P : K → Type 0) (done xs : List X) (x : X) (rest s : List ℕ)
      → AllByRecursion v done → v x → AllByRecursion v xs → length done < length xs
      → AllByRecursion P (map key xs) → flat_map c done ++ (c x ++ rest) ≡ flat_map c xs ++ s
      → (y : K) × P y × (cmp (key x) y ≡ Equal)
  key_among P [] [] x rest s p r q lt all h = absurd (omega arith)
  key_among P [] (y ∷ xs) x rest s p r q lt all h = (
    key y,
    all.0,
    alike x y (l.decides x y rest (flat_map c xs ++ s) r q.0
        (h ∙ append_assoc (c y) (flat_map c xs) s)),
  )
  key_among P (a ∷ done) [] x rest s p r q lt all h = absurd (omega arith)
  key_among P (a ∷ done) (y ∷ xs) x rest s p r q lt all h =
      let h' : c a ++ (flat_map c done ++ (c x ++ rest)) ≡ c y ++ (flat_map c xs ++ s) =
      sym (append_assoc (c a) (flat_map c done) (c x ++ rest)) ∙ h
      ∙ append_assoc (c y) (flat_map c xs) s in
      key_among P done xs x rest s p.1 r q.1 (omega arith) all.1
      (rest_equal l a y (flat_map c done ++ (c x ++ rest)) (flat_map c xs ++ s) p.0 q.0 h')

  -- if the keys of `xs` ascend, the key read after `done` is greater than those of `done`
  ascends : (done xs : List X) (x : X) (rest s : List ℕ) → AllByRecursion v done → v x
      → AllByRecursion v xs → length done < length xs → IsStrictlySortedBy cmp (map key xs)
      → flat_map c done ++ (c x ++ rest) ≡ flat_map c xs ++ s
      → IsGreater cmp (map key done) (key x)
  ascends [] xs x rest s p r q lt sorted h = tt
  ascends (a ∷ done) [] x rest s p r q lt sorted h = absurd (omega arith)
  ascends (a ∷ done) (y ∷ xs) x rest s p r q lt sorted h =
      let h' : c a ++ (flat_map c done ++ (c x ++ rest)) ≡ c y ++ (flat_map c xs ++ s) =
      sym (append_assoc (c a) (flat_map c done) (c x ++ rest)) ∙ h
      ∙ append_assoc (c y) (flat_map c xs) s in
      let after = rest_equal l a y (flat_map c done ++ (c x ++ rest)) (flat_map c xs ++ s) p.0 q.0
      h' in
      let same : cmp (key a) (key y) ≡ Equal = alike a y (l.decides a y
      (flat_map c done ++ (c x ++ rest)) (flat_map c xs ++ s) p.0 q.0 h') in
      let z = key_among (λ z. cmp (key y) z ≡ Less) done xs x rest s p.1 r q.1 (omega arith)
      (sorted_head cmp (key y) (map key xs) sorted) after in (
        o.congr (key a) (key y) (key x) same
            ∙ alike_right o (key x) z.0 (key y) z.2 ∙ z.1,
        ascends done xs x rest s p.1 r q.1 (omega arith)
            (sorted_tail cmp (key y) (map key xs) sorted) after,
      )

  module _ (ordered : List X → Type 0)
      (ascending : (xs : List X) → ordered xs → IsStrictlySortedBy cmp (map key xs))
      (bytes : List ℕ) (start current count i : ℕ) (done : List X)
      (b : ItemsRead v c bytes start current i done) (lt : i < count) where
    pub none_if_unordered : (end : ℕ) (x : X) → IsContentAt v c bytes current x end
        → (IsGreater cmp (map key done) (key x) → ⊥)
        → NoContentAt (λ xs. AreItems count v xs × ordered xs) (flat_map c) bytes start current
    none_if_unordered end x s not = record {
      none = λ xs rest valid h.
          not (ascends done xs x (drop end bytes) rest (recursion_from_All v done b.values) s.valid
          (recursion_from_All v xs valid.0.1) (omega (arith, b.len, valid.0.0))
          (ascending xs valid.1)
          (ap (λ (z : List ℕ). flat_map c done ++ z) (sym s.split) ∙ sym b.split ∙ h));
      from = b.from;
      within = b.within;
    }

    pub ordered_item_error : (err : DecodeError) → IsErrorAt v c bytes current err
        → IsErrorAt (λ xs. AreItems count v xs × ordered xs) (flat_map c) bytes start err
    ordered_item_error err n =
        error_narrow (AreItems count v) (λ xs. AreItems count v xs × ordered xs) (flat_map c) bytes
        start err (λ xs p. p.0)
        (items_error l bytes start current count done err b.from b.values
        (omega (arith, b.len)) b.split n)

-- entries with equal contents have equal keys
pub entries_alike : {K V : Type 0} (cmp : K → K → Ordering) (e : K → K → Bool) (f : V → V → Bool)
    → ((x y : K) → e x y ≡ eq_by_cmp cmp x y) → (x y : K × V)
    → eq_of_both (on (λ (p : K × V). p.0) e) (on (λ (p : K × V). p.1) f) x y ≡ true
    → cmp x.0 y.0 ≡ Equal
entries_alike cmp e f ties x y h =
    equal_is (cmp x.0 y.0) (sym (ties x.0 y.0) ∙ (and_parts (e x.0 y.0) (f x.1 y.1) h).0)

-- members with equal contents are equal
pub members_alike : {K : Type 0} (cmp : K → K → Ordering) (e : K → K → Bool)
    → ((x y : K) → e x y ≡ eq_by_cmp cmp x y) → (x y : K) → e x y ≡ true → cmp x y ≡ Equal
members_alike cmp e ties x y h = equal_is (cmp x y) (sym (ties x y) ∙ h)

-- ---- a count, then items in order

module _ {X : Type 0} (ordered : List X → Type 0) (v : X → Type 0) (c : X → List ℕ)
    (bytes : List ℕ) (start : ℕ) where
  abbrev AreOrdered : List X → Type 0
  AreOrdered xs = ordered xs × AreValues v xs

  abbrev AreOrderedItems : ℕ → List X → Type 0
  AreOrderedItems count xs = AreItems count v xs × ordered xs

  pub ordered_count_error : (err : DecodeError) → ((x : X) → v x → 0 < length (c x))
      → IsErrorAt IsCounted counted_content bytes start err
      → IsMalformedAt (IsContentOf AreOrdered (list_content c)) bytes start err
  ordered_count_error err long n =
      error_image AreOrdered (list_content c) bytes start err
      (error_narrow (AreValues v) AreOrdered (list_content c) bytes start err (λ xs p. p.1)
      (list_count_error v c long bytes start err n))

  module _ (count mid : ℕ)
      (s : IsContentAt (λ n. n < 2 ^ 64) u64_content bytes start count mid) where
    pub ordered_decoded : (xs : List X) (end : ℕ)
        → IsContentAt (AreOrderedItems count) (flat_map c) bytes mid xs end
        → IsContentAt AreOrdered (list_content c) bytes start xs end
    ordered_decoded xs end t =
        let l = list_decoded v c bytes start count mid s xs end
        (record { valid = t.valid.0; split = t.split; within = t.within }) in
        record { valid = (t.valid.1, l.valid); split = l.split; within = l.within }

    ordered_values_error : (err : DecodeError) → start ≤ length bytes
        → IsErrorAt (AreOrderedItems count) (flat_map c) bytes mid err
        → IsErrorAt AreOrdered (list_content c) bytes start err
    unfolding list_content
    ordered_values_error Memory le n = tt
    ordered_values_error (Malformed reason offset) le n = record {
      none = λ xs rest valid h.
          let h' : u64_content count ++ drop mid bytes ≡ u64_content (length xs)
          ++ (flat_map c xs ++ rest) = sym s.split ∙ h
          ∙ append_assoc (u64_content (length xs)) (flat_map c xs) rest in
          n.none xs rest (
            (
              sym (u64_prefix_free count (length xs) (drop mid bytes)
                  (flat_map c xs ++ rest) s.valid valid.1.0 h'),
              valid.1.1,
            ),
            valid.0,
          )
          (rest_equal u64_lawful count (length xs) (drop mid bytes) (flat_map c xs ++ rest) s.valid
          valid.1.0 h');
      from = omega (arith, n.from, end_is (λ n. n < 2 ^ 64) u64_content bytes start mid count le s);
      within = n.within;
    }

    pub ordered_list_error : (err : DecodeError) → start ≤ length bytes
        → IsErrorAt (AreOrderedItems count) (flat_map c) bytes mid err
        → IsMalformedAt (IsContentOf AreOrdered (list_content c)) bytes start err
    ordered_list_error err le n = error_image AreOrdered (list_content c) bytes start err
        (ordered_values_error err le n)
