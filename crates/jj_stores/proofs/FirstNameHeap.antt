-- The heap of first names: its top is the least name, and removal and insertion preserve it.
use Rattle.std.proofs.Common.{◌≡◌, ◌+◌, ◌<◌, ◌≤◌, ℕ, zero, suc, List, [], ◌∷◌, ◌++◌, Bool, true, false, not, cond, ◌&&◌, Option, Some, None, length, map, take, get_or, set, eqb, true≢false, ⊎_elim, sym, refl, ap, subst, ◌∙◌, arith}
use Rattle.std.specs.Cmp.{nat_cmp_is}
use Rattle.std.specs.Cmp.Lexicographic.{nat_list_eq_equiv, nat_list_cmp_total, texts_ties}
use Rattle.std.specs.BinaryHeap.{IsUpperBound}
use Rattle.std.specs.List.{All, AllByRecursion, cons_option, slice_get, sum_by}
use Rattle.std.specs.List.Sorted.{IsPermutation}
use Rattle.std.specs.Map.{keys_of, lookup}
use Rattle.std.specs.Option.{option_map, option_to_list, IsSome}
use Rattle.std.specs.Ordering.{is_lt, is_gt, is_eq, nat_cmp, ordering_then, ordering_reverse}
use Rattle.std.specs.declared.cmp.Ordering.{Ordering}
use Rattle.std.specs.declared.cmp.Ordering.TheVariants.{Less, Equal, Greater}
use Rattle.std.specs.Str.{bytes_eq}
use Rattle.std.proofs.lemmas.Bool.Decides.{Decides-eqb}
use Rattle.std.proofs.lemmas.List.{get_or-map, get_or-set_same, length-map, length-take, take_more}
use Rattle.std.proofs.lemmas.List.Elements.{All-nil, All-head, All-tail, All-cons, All-more, All-set}
use Rattle.std.proofs.lemmas.List.Sorted.{IsPermutation-map, sum_by-IsPermutation}
use Rattle.std.proofs.lemmas.List.Sums.{sum_by-cons, get_or-le-sum_by}
use Rattle.std.proofs.lemmas.Slice.Eq.{bytes_eq-Decides}
use Rattle.std.proofs.lemmas.Bool.{and_parts}
use Rattle.jj_stores.specs.FirstNameHeap.{earlier_cmp, first_name_at, first_names_from, AreFirstNames}
use Rattle.jj_stores.specs.ViewJoins.{Named, IsAscending, IsLeast, remotes_with, IsFirstOfRemotes}
use Rattle.jj_stores.proofs.FirstNames.{IsMore, at_first, joined_more, more_at, some_joined}
use Rattle.jj_stores.proofs.FlatSteps.{least_of_all}
use Rattle.jj_stores.proofs.FlatTaken.{at_remote}
use Rattle.jj_stores.proofs.NamesLeft.{cmp, none_at, least_at_first, least_lower, not_above_from_not_below}

-- ---- sums over first names

module _ {X : Type 0} (count : X → ℕ) where
  pub sum_option : (o : Option X) (xs : List X)
      → sum_by count (cons_option o xs) ≡ sum_by count (option_to_list o) + sum_by count xs
  sum_option None xs = omega arith
  sum_option (Some x) xs = let a = sum_by-cons count x xs in let b = sum_by-cons count x [] in omega (arith, a, b)

module _ {R : Type 0} (count : List ℕ × ℕ → ℕ) where
  abbrev sum_first : ℕ → Named R → ℕ
  sum_first remote_index refs = sum_by count (option_to_list (first_name_at remote_index refs))

  pub firsts_more : (k remote_index : ℕ) (remotes : Named (Named R)) (remote : List ℕ × Named R)
      → remote_index ≡ k + length remotes
      → sum_by count (first_names_from k (remotes ++ remote ∷ []))
      ≡ sum_by count (first_names_from k remotes) + sum_first remote_index remote.1
  firsts_more k remote_index [] remote at =
      let here : k ≡ remote_index = omega (arith, at) in
      let a = sum_option count (first_name_at k remote.1) [] in
      let b = ap (λ p. sum_first p remote.1) here in
      omega (arith, a, b)
  firsts_more k remote_index (r ∷ rs) remote at =
      let a = sum_option count (first_name_at k r.1) (first_names_from (suc k) (rs ++ remote ∷ [])) in
      let b = sum_option count (first_name_at k r.1) (first_names_from (suc k) rs) in
      let h = firsts_more (suc k) remote_index rs remote (omega (arith, at)) in
      omega (arith, a, b, h)

  pub firsts_set : (k remote_index : ℕ) (remotes : Named (Named R)) (i : ℕ) (new d : List ℕ × Named R)
      → remote_index ≡ k + i → i < length remotes
      → sum_by count (first_names_from k (set remotes i new)) + sum_first remote_index (get_or remotes i d).1
      ≡ sum_by count (first_names_from k remotes) + sum_first remote_index new.1
  firsts_set k remote_index [] i new d at below = absurd (omega (arith, below))
  firsts_set k remote_index (r ∷ rs) zero new d at below =
      let here : k ≡ remote_index = omega (arith, at) in
      let a = sum_option count (first_name_at k new.1) (first_names_from (suc k) rs) in
      let b = sum_option count (first_name_at k r.1) (first_names_from (suc k) rs) in
      let e = ap (λ p. sum_first p new.1) here in
      let f = ap (λ p. sum_first p r.1) here in
      omega (arith, a, b, e, f)
  firsts_set k remote_index (r ∷ rs) (suc i) new d at below =
      let a = sum_option count (first_name_at k r.1) (first_names_from (suc k) (set rs i new)) in
      let b = sum_option count (first_name_at k r.1) (first_names_from (suc k) rs) in
      let h = firsts_set (suc k) remote_index rs i new d (omega (arith, at)) (omega (arith, below)) in
      omega (arith, a, b, h)

-- ---- the remote of a first name

abbrev pub is_here : List ℕ → ℕ → List ℕ × ℕ → Bool
is_here name remote_index q = bytes_eq name q.0 && eqb remote_index q.1

abbrev once : Bool → ℕ
once b = cond b 1 0

abbrev pub here_count : List ℕ → ℕ → List ℕ × ℕ → ℕ
here_count name remote_index q = once (is_here name remote_index q)

pub here_itself : (name : List ℕ) (remote_index : ℕ) → here_count name remote_index (name, remote_index) ≡ 1
here_itself name remote_index =
    let P : Bool → Type 0 = λ b. once (b && eqb remote_index remote_index) ≡ 1 in
    let Q : Bool → Type 0 = λ b. once (true && b) ≡ 1 in
    subst P (sym (nat_list_eq_equiv.refl name)) (subst Q (sym ((Decides-eqb remote_index remote_index).1 refl)) refl)

-- the remote at this index has this first name
abbrev pub IsFirstNameAt : {R : Type 0} → List ℕ → Named (Named R) → ℕ → Type 0
IsFirstNameAt {R} name remotes i = (i < length remotes)
    × ((d : List ℕ × Named R) → Some name ≡ slice_get (keys_of (get_or remotes i d).1) 0)

module _ {R : Type 0} where
  stands_or : (name m : List ℕ) (remote_index k : ℕ) (v : R) (remote : List ℕ) (es : Named R) (rs : Named (Named R)) (b : Bool)
      → is_here name remote_index (m, k) ≡ b → 0 < once b + sum_by (here_count name remote_index) (first_names_from (suc k) rs)
      → (0 < sum_by (here_count name remote_index) (first_names_from (suc k) rs) → (i : ℕ) × (remote_index ≡ suc k + i) × IsFirstNameAt name rs i)
      → (i : ℕ) × (remote_index ≡ k + i) × IsFirstNameAt name ((remote, (m, v) ∷ es) ∷ rs) i
  stands_or name m remote_index k v remote es rs true is some later =
      let parts = and_parts (bytes_eq name m) (eqb remote_index k) is in
      let named : name ≡ m = (bytes_eq-Decides name m).0 parts.0 in
      let at : remote_index ≡ k = (Decides-eqb remote_index k).0 parts.1 in
      (0, omega (arith, at), (omega arith, λ d. ap (λ n. Some n) named))
  stands_or name m remote_index k v remote es rs false is some later =
      let h = later (omega (arith, some)) in
      (suc h.0, omega (arith, h.1), (omega (arith, h.2.0), h.2.1))

  pub stands_at : (name : List ℕ) (remote_index k : ℕ) (remotes : Named (Named R))
      → 0 < sum_by (here_count name remote_index) (first_names_from k remotes)
      → (i : ℕ) × (remote_index ≡ k + i) × IsFirstNameAt name remotes i
  stands_at name remote_index k [] some = absurd (omega (arith, some))
  stands_at name remote_index k ((remote, []) ∷ rs) some =
      let h = stands_at name remote_index (suc k) rs some in
      (suc h.0, omega (arith, h.1), (omega (arith, h.2.0), h.2.1))
  stands_at name remote_index k ((remote, (m, v) ∷ es) ∷ rs) some =
      let whole = sum_by-cons (here_count name remote_index) (m, k) (first_names_from (suc k) rs) in
      stands_or name m remote_index k v remote es rs (is_here name remote_index (m, k)) refl (subst (λ n. 0 < n) whole some)
      (stands_at name remote_index (suc k) rs)

-- ---- no first name is less than the top

abbrev pub is_before : List ℕ → ℕ → List ℕ × ℕ → Bool
is_before name remote_index q = is_lt (earlier_cmp (name, remote_index) q)

abbrev pub before_count : List ℕ → ℕ → List ℕ × ℕ → ℕ
before_count name remote_index q = once (is_before name remote_index q)

pub none_before : {X : Type 0} (shows : X → List ℕ × ℕ) (name : List ℕ) (remote_index : ℕ) (xs : List X)
    → AllByRecursion (λ x. is_before name remote_index (shows x) ≡ false) xs
    → sum_by (before_count name remote_index) (map shows xs) ≡ 0
none_before shows name remote_index [] h = refl
none_before shows name remote_index (x ∷ xs) h =
    let whole = sum_by-cons (before_count name remote_index) (shows x) (map shows xs) in
    let this : before_count name remote_index (shows x) ≡ 0 = ap once h.0 in
    let rest = none_before shows name remote_index xs h.1 in
    omega (arith, whole, this, rest)

not_before : (b : Bool) (n : ℕ) → once b + n ≡ 0 → (b ≡ false) × (n ≡ 0)
not_before false n h = (refl, omega (arith, h))
not_before true n h = absurd (omega (arith, h))

-- a pair that is not less has a name that is not less
not_below : (r s : Ordering) → is_lt (ordering_then r s) ≡ false → false ≡ is_lt r
not_below Less s h = sym h
not_below Equal s h = refl
not_below Greater s h = refl

-- a pair that is not less, with a lower index, has a different name
above_of : (r s : Ordering) → s ≡ Less → is_lt (ordering_then r s) ≡ false → true ≡ not (is_eq r)
above_of Less s low h = refl
above_of Equal s low h = let lower : is_lt s ≡ true = ap is_lt low in cc
above_of Greater s low h = refl

lower_place : (a b : ℕ) → a < b → nat_cmp a b ≡ Less
lower_place a b low = sym (nat_cmp_is a b Less low)

module _ {R : Type 0} (name : List ℕ) (remote_index : ℕ) where
  -- no first name of the remotes from this index is less
  abbrev pub IsEarliest : ℕ → Named (Named R) → Type 0
  IsEarliest k remotes = All (λ r. IsLeast name r.1) remotes
      × ((i : ℕ) → k + i ≤ remote_index → remotes_with (take i remotes) name ≡ [])

  none_so_far : (k i : ℕ) (remote : List ℕ × Named R) (rs : Named (Named R)) → (k < remote_index → None ≡ lookup (bytes_eq name) remote.1)
      → ((i : ℕ) → suc k + i ≤ remote_index → remotes_with (take i rs) name ≡ []) → k + i ≤ remote_index
      → remotes_with (take i (remote ∷ rs)) name ≡ []
  none_so_far k zero remote rs here later low = refl
  none_so_far k (suc i) remote rs here later low =
      ap (λ o. cons_option (option_map (λ v. (remote.0, v)) o) (remotes_with (take i rs) name)) (sym (here (omega (arith, low))))
      ∙ later i (omega (arith, low))

  none_of_none : (i : ℕ) → remotes_with {R = R} (take i []) name ≡ []
  none_of_none zero = refl
  none_of_none (suc i) = refl

  pub earliest : (k : ℕ) (remotes : Named (Named R)) → sum_by (before_count name remote_index) (first_names_from k remotes) ≡ 0
      → All (λ r. IsAscending r.1) remotes → IsEarliest k remotes
  earliest k [] none up = (All-nil (λ r. IsLeast name r.1), λ i low. none_of_none i)
  earliest k ((remote, []) ∷ rs) none up =
      let h = earliest (suc k) rs none (All-tail (λ r. IsAscending r.1) (remote, []) rs up) in (
        All-cons (λ r. IsLeast name r.1) (remote, []) rs (All-nil (λ q. is_gt (cmp name q) ≡ false)) h.0,
        λ i low. none_so_far k i (remote, []) rs (λ lower. refl) h.1 low,
      )
  earliest k ((remote, (m, v) ∷ es) ∷ rs) none up =
      let whole = sum_by-cons (before_count name remote_index) (m, k) (first_names_from (suc k) rs) in
      let parts = not_before (is_before name remote_index (m, k)) _ (sym whole ∙ none) in
      let h = earliest (suc k) rs parts.1 (All-tail (λ r. IsAscending r.1) (remote, (m, v) ∷ es) rs up) in
      let this : IsAscending ((m, v) ∷ es) = All-head (λ r. IsAscending r.1) (remote, (m, v) ∷ es) rs up in
      let under : is_gt (cmp name m) ≡ false = not_above_from_not_below name m (not_below (cmp m name) (nat_cmp k remote_index) parts.0) in
      let least : IsLeast name ((m, v) ∷ es) = least_lower name m ((m, v) ∷ es) under (least_at_first m v es ((m, v) ∷ es) refl this) in (
        All-cons (λ r. IsLeast name r.1) (remote, (m, v) ∷ es) rs least h.0,
        λ i low. none_so_far k i (remote, (m, v) ∷ es) rs
            (λ lower. none_at name m v es ((m, v) ∷ es) refl this least
            (subst (λ b. true ≡ not b) (sym (texts_ties m name)) (above_of (cmp m name) (nat_cmp k remote_index) (lower_place k remote_index lower) parts.0)))
            h.1 low,
      )

-- ---- the top of the heap

empty_of : {X : Type 0} (xs : List X) → length xs ≡ 0 → xs ≡ []
empty_of [] none = refl
empty_of (x ∷ xs) none = absurd (omega (arith, none))

nothing_in : {R : Type 0} (k : ℕ) (remotes : Named (Named R)) → sum_by (λ q. 1) (first_names_from k remotes) ≡ 0
    → All (λ r. r.1 ≡ []) remotes
nothing_in k [] none = All-nil (λ r. r.1 ≡ [])
nothing_in k ((remote, []) ∷ rs) none =
    All-cons (λ r. r.1 ≡ []) (remote, []) rs refl (nothing_in (suc k) rs none)
nothing_in k ((remote, (m, v) ∷ es) ∷ rs) none =
    let whole = sum_by-cons (λ (q : List ℕ × ℕ). 1) (m, k) (first_names_from (suc k) rs) in
    absurd (omega (arith, whole, none))

pub first_of_remotes : {R : Type 0} (name : List ℕ) (remote_index : ℕ) (remotes : Named (Named R)) (d : List ℕ × Named R)
    → IsFirstNameAt name remotes remote_index → IsEarliest name remote_index 0 remotes → IsFirstOfRemotes remotes (Some name)
first_of_remotes name remote_index remotes d stands earliest = (
  joined_more {T = Unit {0}} None (remotes_with remotes name)
      (more_at name remotes remote_index d stands.0 (at_first name (get_or remotes remote_index d).1 (stands.1 d))),
  All-nil (λ q. is_gt (cmp name q) ≡ false),
  earliest.0,
)

module _ {X R : Type 0} (shows : X → List ℕ × ℕ) (remotes : Named (Named R)) (xs : List X)
    (are : AreFirstNames remotes (map shows xs)) where
  pub no_firsts : length xs ≡ 0 → All (λ r. r.1 ≡ []) remotes
  no_firsts none =
      let empty : xs ≡ [] = empty_of xs none in
      nothing_in 0 remotes (sym (are.same (λ q. 1)) ∙ ap (λ l. sum_by (λ q. 1) (map shows l)) empty)

  pub top_stands : (x : X) → 0 < length xs → x ≡ get_or xs 0 x → IsFirstNameAt (shows x).0 remotes (shows x).1
  top_stands x some top =
      let count = here_count (shows x).0 (shows x).1 in
      let one : count (shows x) ≡ 1 = here_itself (shows x).0 (shows x).1 in
      let at : get_or (map shows xs) 0 (shows x) ≡ shows x = get_or-map shows xs 0 x (shows x) some ∙ ap shows (sym top) in
      let low = get_or-le-sum_by count (map shows xs) 0 (shows x) (subst (λ n. 0 < n) (sym (length-map xs shows)) some) in
      let same = ap count at in
      let whole = are.same count in
      let h = stands_at (shows x).0 (shows x).1 0 remotes (omega (arith, one, low, same, whole)) in
      let here : h.0 ≡ (shows x).1 = omega (arith, h.1) in
      subst (IsFirstNameAt (shows x).0 remotes) here h.2

  -- the index of the top is in range
  pub top_below : (x : X) → 0 < length xs → x ≡ get_or xs 0 x → (shows x).1 < length remotes
  top_below x some top = (top_stands x some top).0

  pub top_earliest : (x : X) → IsUpperBound (λ a b. earlier_cmp (shows a) (shows b)) x xs
      → IsEarliest (shows x).0 (shows x).1 0 remotes
  top_earliest x bound = earliest (shows x).0 (shows x).1 0 remotes
      (sym (are.same (before_count (shows x).0 (shows x).1)) ∙ none_before shows (shows x).0 (shows x).1 xs bound) are.ascending

pub same_top : {X : Type 0} (xs : List X) (x y : X) → 0 < length xs → x ≡ get_or xs 0 x → y ≡ get_or xs 0 y → x ≡ y
same_top [] x y some a b = absurd (omega (arith, some))
same_top (z ∷ zs) x y some a b = a ∙ sym b

-- ---- removal and insertion

pub pushed : {X : Type 0} (shows : X → List ℕ × ℕ) (x : X) (xs ys : List X) → IsPermutation (x ∷ xs) ys
    → (o : Option (List ℕ × ℕ)) → Some (shows x) ≡ o → (count : List ℕ × ℕ → ℕ)
    → sum_by count (map shows ys) ≡ sum_by count (option_to_list o) + sum_by count (map shows xs)
pushed shows x xs ys moved o is count =
    let a = sum_by-IsPermutation count (shows x ∷ map shows xs) (map shows ys) (IsPermutation-map shows (x ∷ xs) ys moved) in
    let b = sum_by-cons count (shows x) (map shows xs) in
    let d = sum_by-cons count (shows x) [] in
    let e = ap (λ p. sum_by count (option_to_list p)) is in
    omega (arith, a, b, d, e)

pub not_pushed : (o : Option (List ℕ × ℕ)) → None ≡ o → (firsts : List (List ℕ × ℕ)) (count : List ℕ × ℕ → ℕ)
    → sum_by count firsts ≡ sum_by count (option_to_list o) + sum_by count firsts
not_pushed o is firsts count = let e = ap (λ p. sum_by count (option_to_list p)) is in omega (arith, e)

popped : {X : Type 0} (shows : X → List ℕ × ℕ) (x : X) (xs ys : List X) → IsPermutation xs (x ∷ ys)
    → (count : List ℕ × ℕ → ℕ) → sum_by count (map shows ys) + count (shows x) ≡ sum_by count (map shows xs)
popped shows x xs ys moved count =
    let a = sum_by-IsPermutation count (map shows xs) (shows x ∷ map shows ys) (IsPermutation-map shows xs (x ∷ ys) moved) in
    let b = sum_by-cons count (shows x) (map shows ys) in
    omega (arith, a, b)

module _ {R : Type 0} (remotes : Named (Named R)) where
  pub firsts_so_far : (i : ℕ) (remote : List ℕ × Named R) (old new : List (List ℕ × ℕ))
      → i < length remotes → remote ≡ get_or remotes i remote → AreFirstNames (take i remotes) old → IsAscending remote.1
      → ((count : List ℕ × ℕ → ℕ) → sum_by count new ≡ sum_by count (option_to_list (first_name_at i remote.1)) + sum_by count old)
      → AreFirstNames (take (i + 1) remotes) new
  firsts_so_far i remote old new below here are up grown =
      let more : take (i + 1) remotes ≡ take i remotes ++ remote ∷ [] =
      take_more remotes i remote below ∙ ap (λ r. take i remotes ++ r ∷ []) (sym here) in
      let long : i ≡ 0 + length (take i remotes) = omega (arith, length-take i remotes) in
      record {
        same = λ count.
            let a = grown count in
            let b = are.same count in
            let d = firsts_more count 0 i (take i remotes) remote long in
            let e = ap (λ v. sum_by count (first_names_from 0 v)) more in
            omega (arith, a, b, d, e);
        ascending = All-more (λ r. IsAscending r.1) remotes i remote below are.ascending (subst (λ r. IsAscending r.1) here up);
      }

  firsts_taken : (name : List ℕ) (remote_index : ℕ) (new : List ℕ × Named R) (old mid now : List (List ℕ × ℕ))
      → IsFirstNameAt name remotes remote_index → AreFirstNames remotes old
      → ((count : List ℕ × ℕ → ℕ) → sum_by count mid + count (name, remote_index) ≡ sum_by count old)
      → ((count : List ℕ × ℕ → ℕ) → sum_by count now ≡ sum_by count (option_to_list (first_name_at remote_index new.1)) + sum_by count mid)
      → IsAscending new.1 → AreFirstNames (set remotes remote_index new) now
  firsts_taken name remote_index new old mid now stands are gone come up = record {
    same = λ count.
        let a = gone count in
        let b = come count in
        let d = are.same count in
        let e = firsts_set count 0 remote_index remotes remote_index new new (omega arith) stands.0 in
        let f = ap (λ o. sum_by count (option_to_list (option_map (λ n. (n, remote_index)) o))) (stands.1 new) in
        let g = sum_by-cons count (name, remote_index) [] in
        omega (arith, a, b, d, e, f, g);
    ascending = All-set (λ r. IsAscending r.1) remotes remote_index new up are.ascending;
  }

  -- replacing the top by the next first name of its remote restores the invariant
  pub firsts_left : {X : Type 0} (shows : X → List ℕ × ℕ) (xs ys : List X) (x : X) (new there : List ℕ × Named R) (now : List (List ℕ × ℕ))
      → AreFirstNames remotes (map shows xs) → 0 < length xs → x ≡ get_or xs 0 x → IsPermutation xs (x ∷ ys)
      → there ≡ get_or (set remotes (shows x).1 new) (shows x).1 there
      → ((count : List ℕ × ℕ → ℕ) → sum_by count now ≡ sum_by count (option_to_list (first_name_at (shows x).1 there.1)) + sum_by count (map shows ys))
      → IsAscending there.1 → AreFirstNames (set remotes (shows x).1 new) now
  firsts_left shows xs ys x new there now are some top moved at come up =
      let stands = top_stands shows remotes xs are x some top in
      let is : there ≡ new = at ∙ get_or-set_same remotes (shows x).1 new there stands.0 in
      firsts_taken (shows x).0 (shows x).1 new (map shows xs) (map shows ys) now stands are (popped shows x xs ys moved)
      (λ count. come count ∙ ap (λ r. sum_by count (option_to_list (first_name_at (shows x).1 r.1)) + sum_by count (map shows ys)) is)
      (subst (λ r. IsAscending r.1) is up)

  -- ---- a name that is at most each name, and is not the first

  tied_of : (r s : Ordering) → s ≡ ordering_reverse r → is_gt r ≡ false → is_gt s ≡ false → is_eq r ≡ true
  tied_of Less s e p q = absurd (true≢false (sym (ap is_gt e) ∙ q))
  tied_of Equal s e p q = refl
  tied_of Greater s e p q = cc

  absent_or : (first name : List ℕ) (refs : Named R) → (IsMore refs → bytes_eq first name ≡ true) → true ≡ not (bytes_eq first name) → refs ≡ []
  absent_or first name [] same other = refl
  absent_or first name (r ∷ rs) same other =
      let no : true ≡ false = other ∙ ap not (same (r, rs, refl)) in cc

  pub absent_name : (first name : List ℕ) → IsFirstOfRemotes remotes (Some first) → All (λ r. IsLeast name r.1) remotes
      → true ≡ not (bytes_eq first name) → remotes_with remotes name ≡ []
  absent_name first name is least other =
      let here : IsMore (remotes_with remotes first) = ⊎_elim (λ none. cc) (λ more. more)
      (some_joined {T = Unit {0}} None (remotes_with remotes first) is.0) in
      absent_or first name (remotes_with remotes name) (λ more. texts_ties first name
      ∙ tied_of (cmp first name) (cmp name first) (nat_list_cmp_total.antisymm name first)
      (least_of_all first remotes is.2 name more) (least_of_all name remotes least first here)) other

same_of : (b : Bool) → false ≡ not b → b ≡ true
same_of true h = refl
same_of false h = cc

-- peek and pop return the same item
pub named_top : {X R : Type 0} (shows : X → List ℕ × ℕ) (remotes : Named (Named R)) (xs : List X) → AreFirstNames remotes (map shows xs)
    → (x y : X) (name shown : List ℕ) → 0 < length xs → x ≡ get_or xs 0 x → y ≡ get_or xs 0 y → shown ≡ name
    → false ≡ not (bytes_eq (shows x).0 shown) → IsFirstNameAt name remotes (shows y).1 × ((shows y).0 ≡ name)
named_top shows remotes xs are x y name shown some at_x at_y is same =
    let named : (shows y).0 ≡ name = ap (λ z. (shows z).0) (same_top xs y x some at_y at_x)
    ∙ (bytes_eq-Decides (shows x).0 shown).0 (same_of _ same) ∙ is in
    (subst (λ n. IsFirstNameAt n remotes (shows y).1) named (top_stands shows remotes xs are y some at_y), named)

none_mapped : {A B : Type 0} (f : A → B) (o : Option A) → IsSome o → None ≡ option_map f o → ⊥
none_mapped f (Some a) some h = cc
none_mapped f None some h = cc

-- a remote with this first name has its ref
pub never_missed : {R : Type 0} (name : List ℕ) (remotes : Named (Named R)) (remote_index : ℕ) (remote : List ℕ × Named R)
    → IsFirstNameAt name remotes remote_index → remote ≡ get_or remotes remote_index remote
    → None ≡ option_map (λ (r : R). at_remote remote.0 r) (lookup (bytes_eq name) remote.1) → ⊥
never_missed {R} name remotes remote_index remote stands here h =
    none_mapped (λ (r : R). at_remote remote.0 r) (lookup (bytes_eq name) remote.1)
    (at_first name remote.1 (subst (λ r. Some name ≡ slice_get (keys_of r.1) 0) (sym here) (stands.1 remote))) h
