-- Steps of the join: the first row is that of the least name, the others join the remaining refs.
use Rattle.std.proofs.Common.{◌≡◌, ◌+◌, ◌<◌, ℕ, List, [], ◌∷◌, Bool, true, false, cond, Option, Some, None, length, sym, refl, ap, ap₂, length-append, subst, ◌∙◌, ⊎_elim, arith}
use Rattle.std.specs.Cmp.Lexicographic.{nat_list_eq_equiv}
use Rattle.std.specs.List.{All, AllZip, AllByRecursion, cons_option, sum_by}
use Rattle.std.specs.List.Sorted.{IsStrictlySortedBy}
use Rattle.std.specs.Map.{keys_of, lookup}
use Rattle.std.specs.Option.{option_map, option_to_list, IsSome}
use Rattle.std.specs.Ordering.{is_gt}
use Rattle.std.specs.Str.{bytes_eq}
use Rattle.std.specs.declared.cmp.Ordering.TheVariants.{Less}
use Rattle.std.proofs.lemmas.List.Elements.{recursion_from_All, All-head, All-tail}
use Rattle.std.proofs.lemmas.List.Sums.{sum_by-cons}
use Rattle.std.proofs.lemmas.Map.Keys.{sorted_head}
use Rattle.std.proofs.lemmas.Map.Views.{All-keys_from_lookup}
use Rattle.std.proofs.lemmas.Slice.Eq.{bytes_eq-Decides}
use Rattle.jj_stores.specs.ViewJoins.{Named, IsAscending, IsLeast, RemovesFirst, RemovesAt, remotes_with, join_of, join_at, IsViewJoin, IsFirstName}
use Rattle.jj_stores.proofs.NamesLeft.{cmp, Above, below}
use Rattle.jj_stores.proofs.FirstNames.{IsMore, some_joined}

-- ---- the remaining refs of one map after its ref of the least name is removed

module _ {V : Type 0} (name : List ℕ) where
  missed : (b : Bool) (v : V) (rest : Option V) → None ≡ cond b (Some v) rest → (b ≡ false) × (None ≡ rest)
  missed true v rest h = cc
  missed false v rest h = (refl, h)

  above_missed : (refs : Named V) → AllByRecursion (λ q. is_gt (cmp name q) ≡ false) (keys_of refs)
      → None ≡ lookup (bytes_eq name) refs → Above name (keys_of refs)
  above_missed [] least none = tt
  above_missed (e ∷ es) least none =
      let m = missed (bytes_eq name e.0) e.1 (lookup (bytes_eq name) es) none in
      (below name e.0 least.0 (nat_list_eq_equiv.symm e.0 name ∙ m.0), above_missed es least.1 m.1)

  pub left_above : (old new : Named V) (found : Option V) → IsAscending old → IsLeast name old
      → RemovesFirst name old found new → Above name (keys_of new)
  left_above old new None up least taken = subst (λ refs. Above name (keys_of refs)) taken.1
      (above_missed old (recursion_from_All (λ q. is_gt (cmp name q) ≡ false) (keys_of old) least) taken.0)
  left_above old new (Some v) up least taken =
      sorted_head cmp name (keys_of new) (subst IsAscending taken.1 up)

  pub others_left : (old new : Named V) (found : Option V) → RemovesFirst name old found new
      → (other : List ℕ) → bytes_eq other name ≡ false
      → lookup (bytes_eq other) new ≡ lookup (bytes_eq other) old
  others_left old new None taken other apart = sym (ap (lookup (bytes_eq other)) taken.1)
  others_left old new (Some v) taken other apart =
      let P : Bool → Type 0 = λ b. lookup (bytes_eq other) new ≡ cond b (Some v) (lookup (bytes_eq other) new) in
      subst P (sym apart) refl ∙ sym (ap (lookup (bytes_eq other)) taken.1)

  hit : (other key : List ℕ) (v : V) (b : Bool) (rest : Option V) → bytes_eq other key ≡ b → cmp name key ≡ Less
      → (IsSome rest → cmp name other ≡ Less) → IsSome (cond b (Some v) rest) → cmp name other ≡ Less
  hit other key v true rest same up later some =
      subst (λ q. cmp name q ≡ Less) (sym ((bytes_eq-Decides other key).0 same)) up
  hit other key v false rest same up later some = later some

  pub found_above : (refs : Named V) (other : List ℕ) → Above name (keys_of refs)
      → IsSome (lookup (bytes_eq other) refs) → cmp name other ≡ Less
  found_above [] other up some = cc
  found_above (e ∷ es) other up some =
      hit other e.0 e.1 (bytes_eq other e.0) (lookup (bytes_eq other) es) refl up.0 (found_above es other up.1) some

-- ---- the remaining refs of all remotes

module _ {R : Type 0} (name : List ℕ) where
  pub remotes_left_same : (old new : Named (Named R)) → AllZip (RemovesAt name) old new
      → (other : List ℕ) → bytes_eq other name ≡ false → remotes_with new other ≡ remotes_with old other
  remotes_left_same [] [] lost other apart = refl
  remotes_left_same [] (n ∷ ns) lost other apart = absurd lost
  remotes_left_same (o ∷ os) [] lost other apart = absurd lost
  remotes_left_same (o ∷ os) (n ∷ ns) lost other apart =
      let at : List ℕ → Option R → Option (List ℕ × R) = λ r found. option_map (λ v. (r, v)) found in
      ap₂ cons_option (ap₂ at lost.0.remote (others_left name o.1 n.1 _ lost.0.refs other apart))
      (remotes_left_same os ns lost.1 other apart)

  more_hit : (other : List ℕ) (remote : List ℕ) (found : Option R) (rest : Named R) → (IsSome found → cmp name other ≡ Less)
      → (IsMore rest → cmp name other ≡ Less) → IsMore (cons_option (option_map (λ v. (remote, v)) found) rest) → cmp name other ≡ Less
  more_hit other remote (Some v) rest this later more = this refl
  more_hit other remote None rest this later more = later more

  pub remotes_above : (old new : Named (Named R)) → All (λ r. IsLeast name r.1) old → AllZip (RemovesAt name) old new
      → (other : List ℕ) → IsMore (remotes_with new other) → cmp name other ≡ Less
  remotes_above [] [] least lost other more = cc (more.2)
  remotes_above [] (n ∷ ns) least lost other more = absurd lost
  remotes_above (o ∷ os) [] least lost other more = absurd lost
  remotes_above (o ∷ os) (n ∷ ns) least lost other more =
      let Q : List ℕ × Named R → Type 0 = λ r. IsLeast name r.1 in
      more_hit other n.0 (lookup (bytes_eq other) n.1) (remotes_with ns other)
      (found_above name n.1 other (left_above name o.1 n.1 _ lost.0.ascending (All-head Q o os least) lost.0.refs))
      (remotes_above os ns (All-tail Q o os least) lost.1 other) more

-- if no refs remain, no row does
pub no_remotes : {R : Type 0} (remotes : Named (Named R)) (q : List ℕ) → All (λ r. r.1 ≡ []) remotes → remotes_with remotes q ≡ []
no_remotes [] q none = refl
no_remotes {R} (r ∷ rs) q none =
    let P : List ℕ × Named R → Type 0 = λ r. r.1 ≡ [] in
    let at : Named R → Option (List ℕ × R) = λ refs. option_map (λ v. (r.0, v)) (lookup (bytes_eq q) refs) in
    ap₂ cons_option (ap at (All-head P r rs none)) (no_remotes rs q (All-tail P r rs none))

-- ---- the join

module _ {T R : Type 0} where
  pub joined_is : (local : Option T) (refs : Named R) → IsSome (join_of local refs) → Some (local, refs) ≡ join_of local refs
  joined_is (Some t) refs h = refl
  joined_is None [] h = cc
  joined_is None (r ∷ rs) h = refl

  at_name : (name other : List ℕ) (b : Bool) (row : Option T × Named R) (rest at : Option (Option T × Named R))
      → bytes_eq other name ≡ b → (other ≡ name → Some row ≡ at) → (bytes_eq other name ≡ false → rest ≡ at)
      → cond b (Some row) rest ≡ at
  at_name name other true row rest at is here there = here ((bytes_eq-Decides other name).0 is)
  at_name name other false row rest at is here there = there is

  module _ (locals locals' : Named T) (remotes remotes' : Named (Named R)) (name : List ℕ) (local : Option T)
      (first : IsFirstName locals remotes (Some name)) (up : IsAscending locals)
      (taken : RemovesFirst name locals local locals') (lost : AllZip (RemovesAt name) remotes remotes') where
    rows_above : (rows : Named (Option T × Named R)) → IsViewJoin locals' remotes' rows → Above name (keys_of rows)
    rows_above rows join = recursion_from_All (λ q. cmp name q ≡ Less) (keys_of rows)
        (All-keys_from_lookup nat_list_eq_equiv (λ q. cmp name q ≡ Less) rows
        (λ q h. ⊎_elim (found_above name locals' q (left_above name locals locals' local up first.1 taken))
        (remotes_above name remotes remotes' first.2 lost q)
        (some_joined _ _ (subst IsSome (join.at_each q) h))))

    pub row_first : (rows : Named (Option T × Named R)) → IsViewJoin locals' remotes' rows
        → IsViewJoin locals remotes ((name, (local, remotes_with remotes name)) ∷ rows)
    unfolding IsStrictlySortedBy
    row_first rows join = record {
      ascending = (rows_above rows join, join.ascending);
      at_each = λ q. at_name name q (bytes_eq q name) (local, remotes_with remotes name)
          (lookup (bytes_eq q) rows) (join_at locals remotes q) refl
          (λ same. ap (λ l. Some (l, remotes_with remotes name)) taken.0 ∙ joined_is _ _ first.0
          ∙ sym (ap (join_at locals remotes) same))
          (λ apart. join.at_each q ∙ ap₂ join_of (others_left name locals locals' local taken q apart)
          (remotes_left_same name remotes remotes' lost q apart));
    }

  pub no_rows : (locals : Named T) (remotes : Named (Named R)) → IsFirstName locals remotes None
      → IsViewJoin locals remotes []
  unfolding IsStrictlySortedBy
  no_rows locals remotes none = record {
    ascending = tt;
    at_each = λ q. sym (ap₂ join_of (ap (lookup (bytes_eq q)) none.0) (no_remotes remotes q none.1));
  }

  pub some_row : (locals : Named T) (remotes : Named (Named R)) (name : List ℕ)
      → IsFirstName locals remotes (Some name) → IsViewJoin locals remotes [] → ⊥
  some_row locals remotes name first join = let h = subst IsSome (sym (join.at_each name)) first.0 in cc

-- ---- the number of remaining refs

length_found : {V X : Type 0} (f : V → X) (found : Option V)
    → length (option_to_list (option_map f found)) ≡ length (option_to_list found)
length_found f None = refl
length_found f (Some v) = refl

length_left : {V : Type 0} (name : List ℕ) (old new : Named V) (found : Option V) → RemovesFirst name old found new
    → length old ≡ length (option_to_list found) + length new
length_left {V} name old new found taken =
    let at : V → List ℕ × V = λ v. (name, v) in
    ap length taken.1 ∙ length-append (option_to_list (option_map at found)) new
    ∙ ap (λ n. n + length new) (length_found at found)

abbrev count : {R : Type 0} → Named (Named R) → ℕ
count remotes = sum_by (λ r. length r.1) remotes

length_cons : {X Y : Type 0} (f : X → Y) (o : Option X) (rest : List Y)
    → length (cons_option (option_map f o) rest) ≡ length (option_to_list o) + length rest
length_cons f None rest = omega arith
length_cons f (Some x) rest = omega arith

count_left : {R : Type 0} (name : List ℕ) (old new : Named (Named R)) → AllZip (RemovesAt name) old new
    → count old ≡ length (remotes_with old name) + count new
count_left name [] [] lost = refl
count_left name [] (n ∷ ns) lost = absurd lost
count_left name (o ∷ os) [] lost = absurd lost
count_left {R} name (o ∷ os) (n ∷ ns) lost =
    let a : length o.1 ≡ length (option_to_list (lookup (bytes_eq name) o.1)) + length n.1 =
    length_left name o.1 n.1 _ lost.0.refs in
    let b : count os ≡ length (remotes_with os name) + count ns = count_left name os ns lost.1 in
    let at : R → List ℕ × R = λ v. (o.0, v) in
    let d : length (remotes_with (o ∷ os) name) ≡ length (option_to_list (lookup (bytes_eq name) o.1)) + length (remotes_with os name) =
    length_cons at (lookup (bytes_eq name) o.1) (remotes_with os name) in
    let u : count (o ∷ os) ≡ length o.1 + count os = sum_by-cons (λ r. length r.1) o os in
    let v : count (n ∷ ns) ≡ length n.1 + count ns = sum_by-cons (λ r. length r.1) n ns in
    omega (arith, a, b, d, u, v)

found_some : {T R : Type 0} (local : Option T) (refs : Named R) → IsSome (join_of local refs)
    → 0 < length (option_to_list local) + length refs
found_some (Some t) refs h = omega arith
found_some None [] h = cc
found_some None (r ∷ rs) h = omega arith

pub fewer_left : {T R : Type 0} (locals locals' : Named T) (remotes remotes' : Named (Named R)) (name : List ℕ)
    (local : Option T) → IsSome (join_at locals remotes name) → RemovesFirst name locals local locals'
    → AllZip (RemovesAt name) remotes remotes'
    → length locals' + count remotes' < length locals + count remotes
fewer_left {T} {R} locals locals' remotes remotes' name local some taken lost =
    let P : Option T → Type 0 = λ o. 0 < length (option_to_list o) + length (remotes_with remotes name) in
    let a : 0 < length (option_to_list local) + length (remotes_with remotes name) =
    subst P (sym taken.0) (found_some (lookup (bytes_eq name) locals) (remotes_with remotes name) some) in
    let b = length_left name locals locals' local taken in
    let d = count_left name remotes remotes' lost in
    omega (arith, a, b, d)

looked_up : {V : Type 0} (test : List ℕ → Bool) (refs : Named V) → IsSome (lookup test refs) → 0 < length refs
looked_up test [] h = cc
looked_up test (e ∷ es) h = omega arith

counted_at : {R : Type 0} (remote : List ℕ) (found : Option R) (here : ℕ) (rest : Named R) (others : ℕ)
    → (IsSome found → 0 < here) → (IsMore rest → 0 < others)
    → IsMore (cons_option (option_map (λ v. (remote, v)) found) rest) → 0 < here + others
counted_at remote (Some v) here rest others this later more = let a = this refl in omega (arith, a)
counted_at remote None here rest others this later more = let a = later more in omega (arith, a)

counted : {R : Type 0} (name : List ℕ) (remotes : Named (Named R)) → IsMore (remotes_with remotes name) → 0 < count remotes
counted name [] more = cc (more.2)
counted name (r ∷ rs) more = subst (λ n. 0 < n) (sym (sum_by-cons (λ r. length r.1) r rs)) (counted_at r.0 (lookup (bytes_eq name) r.1) (length r.1) (remotes_with rs name) (count rs)
    (looked_up (bytes_eq name) r.1) (counted name rs) more)

pub some_left : {T R : Type 0} (locals : Named T) (remotes : Named (Named R)) (name : List ℕ)
    → IsSome (join_at locals remotes name) → 0 < length locals + count remotes
some_left locals remotes name some = ⊎_elim
    (λ h. let a = looked_up (bytes_eq name) locals h in omega (arith, a))
    (λ h. let a = counted name remotes h in omega (arith, a)) (some_joined _ _ some)
