-- The k-way merge of sorted entry lists: its loop invariant and its steps.
use Rattle.std.proofs.Common.{◌≡◌, ℕ, zero, suc, ◌+◌, ◌<◌, ◌≤◌, ◌⊎◌, inl, inr, Bool, true, false, cond, List, [], ◌∷◌, ◌++◌, length, map, get_or, take, Option, None, Some, refl, sym, ap, subst, ◌∙◌, true≢false, arith}
use Rattle.std.specs.Prelude.{All, Any, AllPairs}
use Rattle.std.specs.Map.{lookup}
use Rattle.std.specs.FinMap.{is_sorted, slice_cmp-IsAntisymmetric, nat_cmp-IsAntisymmetric}
use Rattle.std.specs.FinMap.Entries.{below_all}
use Rattle.std.specs.Ordering.{is_lt, ordering_reverse}
use Rattle.std.specs.Str.{bytes_eq}
use Rattle.std.specs.Cmp.Lexicographic.{bytes_decides, nat_list_cmp_total}
use Rattle.std.specs.declared.cmp.Ordering.{Ordering}
use Rattle.std.specs.declared.cmp.Ordering.TheVariants.{Less, Equal, Greater}
use Rattle.std.proofs.lemmas.Bool.{and_parts, and_from}
use Rattle.std.proofs.lemmas.List.Elements.{All-nil, All-cons, All-push, All-weaker, All-head, All-tail, Contains-append_left}
use Rattle.std.proofs.lemmas.List.{take_more, map-append, with_items_is}
use Rattle.std.specs.Vec.{with_items}
use Rattle.std.specs.declared.vec.Vec.{Vec}
use Rattle.std.proofs.lemmas.List.Quantifiers.{Any-push, all_pairs_push}
use Rattle.jj_paths.specs.Paths.{Name, name_cmp}
use Rattle.jj_backend.specs.declared.backend.tree_value.TreeValue.{TreeValue}
use Rattle.jj_trees.specs.Rows.{at_name, AreRows}
use Rattle.jj_trees.specs.FirstNames.{first_name, first_value, without_first, min_name, IsMinName}

less_from : (r : Ordering) → is_lt r ≡ true → r ≡ Less
less_from Less e = refl
less_from Equal e = absurd (true≢false (sym e))
less_from Greater e = absurd (true≢false (sym e))

-- a name b that is neither equal to nor less than a is greater
after_from : (a b : Name) → bytes_eq a b ≡ false → is_lt (name_cmp b a) ≡ false → name_cmp a b ≡ Less
after_from a b other not_before = by (name_cmp b a) refl
  where
    by : (r : Ordering) → name_cmp b a ≡ r → name_cmp a b ≡ Less
    by Less e = absurd (true≢false (ap is_lt (sym e) ∙ not_before))
    by Equal e = absurd (true≢false (sym ((bytes_decides a b).1 (sym (slice_cmp-IsAntisymmetric nat_cmp-IsAntisymmetric b a e))) ∙ other))
    by Greater e = nat_list_cmp_total.antisymm a b ∙ ap ordering_reverse e

not_itself : (a b : Name) → name_cmp a b ≡ Less → bytes_eq a b ≡ false
not_itself a b less = by (bytes_eq a b) refl
  where
    equal : (r : Ordering) → r ≡ ordering_reverse r → r ≡ Less → ⊥
    equal Less e h = cc
    equal Equal e h = cc
    equal Greater e h = cc

    by : (t : Bool) → bytes_eq a b ≡ t → t ≡ false
    by false e = refl
    by true e =
        let same : a ≡ b = (bytes_decides a b).0 e in
        absurd (equal (name_cmp a a) (nat_list_cmp_total.antisymm a a) (ap (name_cmp a) same ∙ less))

abbrev Entries : Type 0
Entries = List (Name × TreeValue)

-- the name is at most the first one; an absent name is greater than all others
abbrev IsAtMostFirst : Name → Option Name → Type 0
IsAtMostFirst name remaining = min_name (Some name) remaining ≡ Some name

not_before : (name other : Name) → IsAtMostFirst name (Some other) → bytes_eq name other ≡ false → is_lt (name_cmp other name) ≡ false
not_before name other remaining differs = by (is_lt (name_cmp other name)) refl
  where
    some_same : (a b : Name) → Some a ≡ Some b → a ≡ b
    some_same a b e = cc

    by : (t : Bool) → is_lt (name_cmp other name) ≡ t → t ≡ false
    by false e = refl
    by true e =
        let same : Some other ≡ Some name = sym (ap (λ t. cond t (Some other) (Some name)) e) ∙ remaining in
        absurd (true≢false (sym ((bytes_decides name other).1 (sym (some_same other name same))) ∙ differs))

below_later : (a b : Name) (es : Entries) → name_cmp a b ≡ Less → below_all name_cmp b es ≡ true → below_all name_cmp a es ≡ true
below_later a b [] less h = refl
below_later a b (e ∷ es) less h =
    let parts = and_parts (is_lt (name_cmp b e.0)) (below_all name_cmp b es) h in
    and_from (is_lt (name_cmp a e.0)) (below_all name_cmp a es)
    (ap is_lt (nat_list_cmp_total.trans a b e.0 less (less_from (name_cmp b e.0) parts.0)))
    (below_later a b es less parts.1)

absent_below : (name : Name) (es : Entries) → below_all name_cmp name es ≡ true → lookup (bytes_eq name) es ≡ None
absent_below name [] h = refl
absent_below name (e ∷ es) h =
    let parts = and_parts (is_lt (name_cmp name e.0)) (below_all name_cmp name es) h in
    ap (λ t. cond t (Some e.1) (lookup (bytes_eq name) es)) (not_itself name e.0 (less_from (name_cmp name e.0) parts.0))
    ∙ absent_below name es parts.1

module _ (name : Name) where
  -- a name that is at most the first one is looked up in the first entry
  value_first : (es : Entries) → is_sorted name_cmp es ≡ true → IsAtMostFirst name (first_name es) → lookup (bytes_eq name) es ≡ first_value name es
  value_first [] sorted remaining = refl
  value_first (e ∷ es) sorted remaining = by (bytes_eq name e.0) refl
    where
      by : (t : Bool) → bytes_eq name e.0 ≡ t → cond t (Some e.1) (lookup (bytes_eq name) es) ≡ cond t (Some e.1) None
      by true h = refl
      by false h =
          absent_below name es (below_later name e.0 es (after_from name e.0 h (not_before name e.0 remaining h))
          (and_parts (below_all name_cmp e.0 es) (is_sorted name_cmp es) sorted).0)

  -- the remaining names are greater
  below_left : (es : Entries) → is_sorted name_cmp es ≡ true → IsAtMostFirst name (first_name es) → below_all name_cmp name (without_first name es) ≡ true
  below_left [] sorted remaining = refl
  below_left (e ∷ es) sorted remaining = by (bytes_eq name e.0) refl
    where
      parts : (below_all name_cmp e.0 es ≡ true) × (is_sorted name_cmp es ≡ true)
      parts = and_parts (below_all name_cmp e.0 es) (is_sorted name_cmp es) sorted

      by : (t : Bool) → bytes_eq name e.0 ≡ t → below_all name_cmp name (cond t es (e ∷ es)) ≡ true
      by true h = subst (λ n. below_all name_cmp n es ≡ true) (sym ((bytes_decides name e.0).0 h)) parts.0
      by false h =
          let less = after_from name e.0 h (not_before name e.0 remaining h) in
          and_from (is_lt (name_cmp name e.0)) (below_all name_cmp name es) (ap is_lt less) (below_later name e.0 es less parts.0)

  sorted_left : (es : Entries) → is_sorted name_cmp es ≡ true → is_sorted name_cmp (without_first name es) ≡ true
  sorted_left [] sorted = refl
  sorted_left (e ∷ es) sorted = by (bytes_eq name e.0)
    where
      by : (t : Bool) → is_sorted name_cmp (cond t es (e ∷ es)) ≡ true
      by true = (and_parts (below_all name_cmp e.0 es) (is_sorted name_cmp es) sorted).1
      by false = sorted

  still_below : (other : Name) (es : Entries) → below_all name_cmp other es ≡ true → below_all name_cmp other (without_first name es) ≡ true
  still_below other [] h = refl
  still_below other (e ∷ es) h = by (bytes_eq name e.0)
    where
      by : (t : Bool) → below_all name_cmp other (cond t es (e ∷ es)) ≡ true
      by true = (and_parts (is_lt (name_cmp other e.0)) (below_all name_cmp other es) h).1
      by false = h

  value_left : (other : Name) (es : Entries) → bytes_eq other name ≡ false → lookup (bytes_eq other) (without_first name es) ≡ lookup (bytes_eq other) es
  value_left other [] differs = refl
  value_left other (e ∷ es) differs = by (bytes_eq name e.0) refl
    where
      by : (t : Bool) → bytes_eq name e.0 ≡ t → lookup (bytes_eq other) (cond t es (e ∷ es)) ≡ lookup (bytes_eq other) (e ∷ es)
      by false h = refl
      by true h =
          let same : name ≡ e.0 = (bytes_decides name e.0).0 h in
          sym (ap (λ t. cond t (Some e.1) (lookup (bytes_eq other) es)) (ap (bytes_eq other) (sym same) ∙ differs))

  no_longer : (es : Entries) → length (without_first name es) ≤ length es
  no_longer [] = omega arith
  no_longer (e ∷ es) = by (bytes_eq name e.0)
    where
      by : (t : Bool) → length (cond t es (e ∷ es)) ≤ length (e ∷ es)
      by true = omega arith
      by false = omega arith

  shorter : (es : Entries) → first_name es ≡ Some name → length (without_first name es) < length es
  shorter [] is = cc
  shorter (e ∷ es) is =
      let same : e.0 ≡ name = some_name e.0 is in
      subst (λ t. length (cond t es (e ∷ es)) < length (e ∷ es)) (sym ((bytes_decides name e.0).1 (sym same))) (omega arith)
    where
      some_name : (n : Name) → Some n ≡ Some name → n ≡ name
      some_name n e = cc

-- ---- all trees of a directory

abbrev Each : (Entries → Type 0) → List Entries → Type 0
Each P [] = Unit {0}
Each P (es ∷ left) = P es × Each P left

abbrev IsSorted : Entries → Type 0
IsSorted es = is_sorted name_cmp es ≡ true

abbrev IsBelow : Name → Entries → Type 0
IsBelow name es = below_all name_cmp name es ≡ true

abbrev IsAtMostEach : Name → Entries → Type 0
IsAtMostEach name es = IsAtMostFirst name (first_name es)

-- the number of remaining entries, which each step lowers
abbrev pub entries_count : List Entries → ℕ
entries_count [] = 0
entries_count (es ∷ left) = length es + entries_count left

module _ (name : Name) where
  values_first : (left : List Entries) → Each IsSorted left → Each (IsAtMostEach name) left → at_name left name ≡ map (first_value name) left
  values_first [] sorted remaining = refl
  values_first (es ∷ left) sorted remaining = λ i. value_first name es sorted.0 remaining.0 i ∷ values_first left sorted.1 remaining.1 i

  each_below : (left : List Entries) → Each IsSorted left → Each (IsAtMostEach name) left → Each (IsBelow name) (map (without_first name) left)
  each_below [] sorted remaining = tt
  each_below (es ∷ left) sorted remaining = (below_left name es sorted.0 remaining.0, each_below left sorted.1 remaining.1)

  each_sorted : (left : List Entries) → Each IsSorted left → Each IsSorted (map (without_first name) left)
  each_sorted [] sorted = tt
  each_sorted (es ∷ left) sorted = (sorted_left name es sorted.0, each_sorted left sorted.1)

  each_still : (other : Name) (left : List Entries) → Each (IsBelow other) left → Each (IsBelow other) (map (without_first name) left)
  each_still other [] h = tt
  each_still other (es ∷ left) h = (still_below name other es h.0, each_still other left h.1)

  values_left : (other : Name) (left : List Entries) → bytes_eq other name ≡ false → at_name (map (without_first name) left) other ≡ at_name left other
  values_left other [] differs = refl
  values_left other (es ∷ left) differs = λ i. value_left name other es differs i ∷ values_left other left differs i

  each_front : (left : List Entries) → All (IsAtMostFirst name) (map first_name left) → Each (IsAtMostEach name) left
  each_front [] h = tt
  each_front (es ∷ left) h =
      (All-head (IsAtMostFirst name) (first_name es) (map first_name left) h, each_front left (All-tail (IsAtMostFirst name) (first_name es) (map first_name left) h))

  -- the name is the first remaining one of a tree
  abbrev IsSomeFirst : List Entries → Type 0
  IsSomeFirst [] = ⊥
  IsSomeFirst (es ∷ left) = (first_name es ≡ Some name) ⊎ IsSomeFirst left

  in_front_at : (left : List Entries) (k : ℕ) (d : Option Name) → k < length (map first_name left) → get_or (map first_name left) k d ≡ Some name → IsSomeFirst left
  in_front_at [] k d lt is = absurd (omega arith)
  in_front_at (es ∷ left) zero d lt is = inl is
  in_front_at (es ∷ left) (suc k) d lt is = inr (in_front_at left k d (omega arith) is)

  in_front : (left : List Entries) → Any (λ remaining. remaining ≡ Some name) (map first_name left) → IsSomeFirst left
  in_front left a = in_front_at left a.0 a.1 a.2 (a.3 ∙ a.4)

  not_more : (left : List Entries) → entries_count (map (without_first name) left) ≤ entries_count left
  not_more [] = omega arith
  not_more (es ∷ left) = omega (arith, no_longer name es, not_more left)

  fewer : (left : List Entries) → IsSomeFirst left → entries_count (map (without_first name) left) < entries_count left
  fewer [] h = absurd h
  fewer (es ∷ left) (inl here) = omega (arith, shorter name es here, not_more left)
  fewer (es ∷ left) (inr later) = omega (arith, no_longer name es, fewer left later)

  before_front : (other : Name) (es : Entries) → IsBelow other es → first_name es ≡ Some name → name_cmp other name ≡ Less
  before_front other [] h is = cc
  before_front other (e ∷ es) h is =
      subst (λ n. name_cmp other n ≡ Less) (some_name e.0 is) (less_from (name_cmp other e.0) (and_parts (is_lt (name_cmp other e.0)) (below_all name_cmp other es) h).0)
    where
      some_name : (n : Name) → Some n ≡ Some name → n ≡ name
      some_name n e = cc

  before : (other : Name) (left : List Entries) → Each (IsBelow other) left → IsSomeFirst left → name_cmp other name ≡ Less
  before other [] h is = absurd is
  before other (es ∷ left) h (inl here) = before_front other es h.0 here
  before other (es ∷ left) h (inr later) = before other left h.1 later

abbrev EachAbsent : List (Option TreeValue) → Type 0
EachAbsent [] = Unit {0}
EachAbsent (v ∷ vs) = (v ≡ None) × EachAbsent vs

-- if no tree has a first name, all values are absent at every name
none_left : (name : Name) (left : List Entries) → All (λ remaining. remaining ≡ None) (map first_name left) → EachAbsent (at_name left name)
none_left name [] none = tt
none_left name (es ∷ left) none = (
  nothing es (All-head (λ remaining. remaining ≡ None) (first_name es) (map first_name left) none),
  none_left name left (All-tail (λ remaining. remaining ≡ None) (first_name es) (map first_name left) none),
)
  where
    nothing : (es : Entries) → first_name es ≡ None → lookup (bytes_eq name) es ≡ None
    nothing [] h = refl
    nothing (e ∷ es) h = cc

all_absent : (name : Name) (trees : List Entries) → EachAbsent (at_name trees name) → All (λ entries. lookup (bytes_eq name) entries ≡ None) trees
all_absent name [] h = All-nil (λ entries. lookup (bytes_eq name) entries ≡ None)
all_absent name (t ∷ ts) h = All-cons (λ entries. lookup (bytes_eq name) entries ≡ None) t ts h.0 (all_absent name ts h.1)

-- the loop invariant: rows of the entries removed so far, and the remaining entries
pub record Passes (trees left : List Entries) (rows : List (Name × List (Option TreeValue))) : Type 0 where
  pub ascending : AllPairs (λ a b. name_cmp a.0 b.0 ≡ Less) rows
  pub values : All (λ row. row.1 ≡ at_name trees row.0) rows
  pub sorted : Each IsSorted left
  pub above : All (λ row. Each (IsBelow row.0) left) rows
  pub every : (name : Name) → (at_name trees name ≡ at_name left name) ⊎ Any (λ row. row.0 ≡ name) rows

-- the invariant before the loop
pub nothing_passed : (trees : List Entries) → Each IsSorted trees → Passes trees trees []
nothing_passed trees sorted = record {
  ascending = λ i j d lt within. absurd (omega arith);
  values = All-nil (λ row. row.1 ≡ at_name trees row.0);
  sorted = sorted;
  above = All-nil (λ row. Each (IsBelow row.0) trees);
  every = λ name. inl refl;
}

module _ (trees left : List Entries) (rows : List (Name × List (Option TreeValue))) (passed : Passes trees left rows) where
  -- one step of the loop
  pub one_passed : (name : Name) → IsMinName (Some name) (map first_name left)
      → Passes trees (map (without_first name) left) (rows ++ (name, map (first_value name) left) ∷ [])
  one_passed name least = record {
    ascending = all_pairs_push (λ a b. name_cmp a.0 b.0 ≡ Less) rows row passed.ascending
        (λ k d lt. before name (get_or rows k d).0 left (passed.above k d lt) ahead);
    values = All-push (λ r. r.1 ≡ at_name trees r.0) rows row passed.values (sym (untaken (passed.every name) ∙ values_first name left passed.sorted remaining));
    sorted = each_sorted name left passed.sorted;
    above = All-push (λ r. Each (IsBelow r.0) (map (without_first name) left)) rows row
        (All-weaker (λ r. Each (IsBelow r.0) left) (λ r. Each (IsBelow r.0) (map (without_first name) left)) (λ r h. each_still name r.0 left h) rows passed.above)
        (each_below name left passed.sorted remaining);
    every = λ other. taken other (bytes_eq other name) refl;
  }
    where
      row : Name × List (Option TreeValue)
      row = (name, map (first_value name) left)

      ahead : IsSomeFirst name left
      ahead = in_front name left least.0

      remaining : Each (IsAtMostEach name) left
      remaining = each_front name left least.1

      untaken : (at_name trees name ≡ at_name left name) ⊎ Any (λ r. r.0 ≡ name) rows → at_name trees name ≡ at_name left name
      untaken (inl same) = same
      untaken (inr a) =
          let less : name_cmp name name ≡ Less =
          subst (λ n. name_cmp n name ≡ Less) (ap (λ r. r.0) a.3 ∙ a.4) (before name (get_or rows a.0 a.1).0 left (passed.above a.0 a.1 a.2) ahead) in
          absurd (true≢false (sym ((bytes_decides name name).1 refl) ∙ not_itself name name less))

      taken : (other : Name) (t : Bool) → bytes_eq other name ≡ t
          → (at_name trees other ≡ at_name (map (without_first name) left) other) ⊎ Any (λ r. r.0 ≡ other) (rows ++ row ∷ [])
      taken other true is = inr (Any-push (λ r. r.0 ≡ other) rows row (sym ((bytes_decides other name).0 is)))
      taken other false differs = still (passed.every other)
        where
          still : (at_name trees other ≡ at_name left other) ⊎ Any (λ r. r.0 ≡ other) rows
              → (at_name trees other ≡ at_name (map (without_first name) left) other) ⊎ Any (λ r. r.0 ≡ other) (rows ++ row ∷ [])
          still (inl same) = inl (same ∙ sym (values_left name other left differs))
          still (inr a) = let c = Contains-append_left rows (row ∷ []) a.1 (a.0, a.2, a.3) in inr (c.0, a.1, c.1, c.2, a.4)

  -- at the end of the loop the rows are those of the trees
  pub all_passed : IsMinName None (map first_name left) → AreRows trees rows
  all_passed none = record {
    ascending = passed.ascending;
    values = passed.values;
    every = λ name. by name (passed.every name);
  }
    where
      by : (name : Name) → (at_name trees name ≡ at_name left name) ⊎ Any (λ r. r.0 ≡ name) rows
          → (All (λ entries. lookup (bytes_eq name) entries ≡ None) trees) ⊎ Any (λ r. r.0 ≡ name) rows
      by name (inl same) = inl (all_absent name trees (subst EachAbsent (sym same) (none_left name left none)))
      by name (inr a) = inr a

-- ---- the least of the first names
at_most_itself : (name : Name) → IsAtMostFirst name (Some name)
at_most_itself name = by (is_lt (name_cmp name name))
  where
    by : (t : Bool) → cond t (Some name) (Some name) ≡ Some name
    by true = refl
    by false = refl

not_less : (name : Name) → name_cmp name name ≡ Less → ⊥
not_less name less = true≢false (sym ((bytes_decides name name).1 refl) ∙ not_itself name name less)

-- a name less than the least so far is at most each of the first names seen
less_at_most : (name other : Name) (remaining : Option Name) → name_cmp other name ≡ Less → IsAtMostFirst name remaining → IsAtMostFirst other remaining
less_at_most name other None less h = refl
less_at_most name other (Some q) less h = by (is_lt (name_cmp q other)) refl
  where
    some_same : (a b : Name) → Some a ≡ Some b → a ≡ b
    some_same a b e = cc

    by : (t : Bool) → is_lt (name_cmp q other) ≡ t → cond t (Some q) (Some other) ≡ Some other
    by false e = refl
    by true e =
        let first : name_cmp q name ≡ Less = nat_list_cmp_total.trans q other name (less_from (name_cmp q other) e) less in
        let same : Some q ≡ Some name = sym (ap (λ r. cond (is_lt r) (Some q) (Some name)) first) ∙ h in
        absurd (not_less name (subst (λ n. name_cmp n name ≡ Less) (some_same q name same) first))

kept_any : (remaining_lists : List (Option Name)) (remaining other : Option Name) → Any (λ f. f ≡ other) remaining_lists → Any (λ f. f ≡ other) (remaining_lists ++ remaining ∷ [])
kept_any remaining_lists remaining other a = let c = Contains-append_left remaining_lists (remaining ∷ []) a.1 (a.0, a.2, a.3) in (c.0, a.1, c.1, c.2, a.4)

pub min_more : (name : Option Name) (remaining_lists : List (Option Name)) (remaining : Option Name) → IsMinName name remaining_lists → IsMinName (min_name name remaining) (remaining_lists ++ remaining ∷ [])
min_more None remaining_lists None least = All-push (λ f. f ≡ None) remaining_lists None least refl
min_more None remaining_lists (Some other) none = (
  Any-push (λ f. f ≡ Some other) remaining_lists (Some other) refl,
  All-push (IsAtMostFirst other) remaining_lists (Some other) (All-weaker (λ f. f ≡ None) (IsAtMostFirst other) (λ f e. ap (min_name (Some other)) e) remaining_lists none) (at_most_itself other),
)
min_more (Some name) remaining_lists None least = (kept_any remaining_lists None (Some name) least.0, All-push (IsAtMostFirst name) remaining_lists None least.1 refl)
min_more (Some name) remaining_lists (Some other) least = by (is_lt (name_cmp other name)) refl
  where
    by : (t : Bool) → is_lt (name_cmp other name) ≡ t → IsMinName (cond t (Some other) (Some name)) (remaining_lists ++ Some other ∷ [])
    by true e = (
      Any-push (λ f. f ≡ Some other) remaining_lists (Some other) refl,
      All-push (IsAtMostFirst other) remaining_lists (Some other)
          (All-weaker (IsAtMostFirst name) (IsAtMostFirst other) (λ f h. less_at_most name other f (less_from (name_cmp other name) e) h) remaining_lists least.1) (at_most_itself other),
    )
    by false e = (
      kept_any remaining_lists (Some other) (Some name) least.0,
      All-push (IsAtMostFirst name) remaining_lists (Some other) least.1 (ap (λ t. cond t (Some other) (Some name)) e),
    )

-- the least of the first names of one tree more
pub least_more : {F : Type 0} (view : F → Entries) (remaining_lists : List F) (i : ℕ) (x : F) → i < length remaining_lists → x ≡ get_or remaining_lists i x
    → (least now other : Option Name) → now ≡ min_name least other → other ≡ first_name (view x)
    → IsMinName least (map first_name (map view (take i remaining_lists))) → IsMinName now (map first_name (map view (take (i + 1) remaining_lists)))
least_more view remaining_lists i x lt at least now other is remaining h =
    let told : map first_name (map view (take (i + 1) remaining_lists)) ≡ map first_name (map view (take i remaining_lists)) ++ other ∷ [] =
    ap (λ l. map first_name (map view l)) (take_more remaining_lists i x lt ∙ ap (λ f. take i remaining_lists ++ f ∷ []) (sym at))
    ∙ ap (map first_name) (map-append view (take i remaining_lists) (x ∷ []))
    ∙ map-append first_name (map view (take i remaining_lists)) (view x ∷ [])
    ∙ ap (λ o. map first_name (map view (take i remaining_lists)) ++ o ∷ []) (sym remaining) in
    subst (IsMinName now) (sym told) (subst (λ o. IsMinName o (map first_name (map view (take i remaining_lists)) ++ other ∷ [])) (sym is)
    (min_more least (map first_name (map view (take i remaining_lists))) other h))

-- the remaining entries after a step, as the items of a vector
pub left_in : {F Z : Type 0} (view : F → Entries) (name : Name) (remaining_lists : Vec F Z) (was now : List F) → was ≡ remaining_lists.items → length now ≡ length was
    → map view now ≡ map (without_first name) (map view was) → map view (with_items remaining_lists now).items ≡ map (without_first name) (map view remaining_lists.items)
left_in view name remaining_lists was now is same_length taken =
    ap (map view) (with_items_is remaining_lists now (same_length ∙ ap length is ∙ sym remaining_lists.ok.0)) ∙ taken ∙ ap (λ l. map (without_first name) (map view l)) is

-- ---- the rows as items of a vector
module _ {F R : Type 0} (view : F → Entries) (parts : R → Name × List (Option TreeValue)) where
  pub start : (trees : List Entries) (remaining_lists : List F) (rows : List R) → map view remaining_lists ≡ trees → rows ≡ [] → Each IsSorted trees
      → Passes trees (map view remaining_lists) (map parts rows)
  start trees remaining_lists rows same none sorted =
      subst (λ left. Passes trees left (map parts rows)) (sym same) (subst (λ l. Passes trees trees (map parts l)) (sym none) (nothing_passed trees sorted))

  module _ (remaining_lists now : List F) (name : Name) (least : IsMinName (Some name) (map first_name (map view remaining_lists)))
      (taken : map view now ≡ map (without_first name) (map view remaining_lists)) where
    pub row_more : (trees : List Entries) (rows after : List R) (row : R) → Passes trees (map view remaining_lists) (map parts rows)
        → parts row ≡ (name, map (first_value name) (map view remaining_lists)) → after ≡ rows ++ row ∷ []
        → Passes trees (map view now) (map parts after)
    row_more trees rows after row passed is added =
        let told : map parts after ≡ map parts rows ++ (name, map (first_value name) (map view remaining_lists)) ∷ [] =
        ap (map parts) added ∙ map-append parts rows (row ∷ []) ∙ ap (λ r. map parts rows ++ r ∷ []) is in
        subst (λ left. Passes trees left (map parts after)) (sym taken)
        (subst (Passes trees (map (without_first name) (map view remaining_lists))) (sym told) (one_passed trees (map view remaining_lists) (map parts rows) passed name least))

    pub fewer_left : entries_count (map view now) < entries_count (map view remaining_lists)
    fewer_left = subst (λ left. entries_count left < entries_count (map view remaining_lists)) (sym taken)
        (fewer name (map view remaining_lists) (in_front name (map view remaining_lists) least.0))

pub each_ascends : (trees : List Entries) → All (λ tree. is_sorted name_cmp tree ≡ true) trees → Each IsSorted trees
each_ascends [] h = tt
each_ascends (es ∷ trees) h =
    (All-head (λ tree. is_sorted name_cmp tree ≡ true) es trees h, each_ascends trees (All-tail (λ tree. is_sorted name_cmp tree ≡ true) es trees h))

-- one more tree has an iterator
pub iterators_more : {F : Type 0} (view : F → Entries) (trees : List Entries) (i : ℕ) (tree : Entries) → i < length trees → tree ≡ get_or trees i tree
    → (remaining_lists after : List F) (remaining : F) → map view remaining_lists ≡ take i trees → view remaining ≡ tree → after ≡ remaining_lists ++ remaining ∷ [] → map view after ≡ take (i + 1) trees
iterators_more view trees i tree lt at remaining_lists after remaining same is added =
    ap (map view) added ∙ map-append view remaining_lists (remaining ∷ []) ∙ (λ j. same j ++ (is ∙ at) j ∷ []) ∙ sym (take_more trees i tree lt)
