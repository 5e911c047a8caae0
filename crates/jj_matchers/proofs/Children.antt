-- The sets of names of the children that satisfy a predicate.
use Rattle.std.proofs.Common.{◌≡◌, Bool, true, false, ◌&&◌, ◌||◌, List, [], ◌∷◌, refl, ap, sym, ◌∙◌, inl, inr}
use mathlib.Core.Bool.{false≢true}
use Rattle.std.specs.Cmp.{both_ways}
use Rattle.std.specs.declared.cmp.Ordering.TheVariants.{Less, Equal}
use Rattle.std.proofs.lemmas.Bool.{and_parts, false_from_ne_true, or_cases, or_left, or_right}
use Rattle.std.specs.Str.{bytes_eq}
use Rattle.std.specs.List.{list_any}
use Rattle.std.specs.FinMap.{is_sorted}
use Rattle.std.specs.FinMap.Entries.{below_all}
use Rattle.std.proofs.lemmas.Slice.Eq.{bytes_eq-Decides}
use Rattle.jj_paths.specs.Paths.{Name, name_cmp}
use Rattle.jj_paths.specs.Tree.{Tree, tree_of, Branches, none, branch, children}
use Rattle.jj_matchers.specs.VisitSpecs.{specific}
use Rattle.jj_matchers.specs.Marks.{child_satisfies, any_child, children_spec}
use Rattle.jj_matchers.specs.Visits.{is_among, sets_spec}
use Rattle.jj_paths.proofs.PathOrders.{name_cmp-itself, less_from_is_lt}
use Rattle.jj_matchers.proofs.PathLists.{any_implies}
use Rattle.jj_matchers.proofs.SortedNames.{named_next}

-- whether a child with this name satisfies a predicate
abbrev pub any_named : (Tree Bool → Bool) → Name → List (Name × Tree Bool) → Bool
any_named test name nodes = list_any (λ node. bytes_eq name node.0 && test node.1) nodes

bytes_eq-sym : (a b : Name) → bytes_eq a b ≡ bytes_eq b a
bytes_eq-sym a b = both_ways (bytes_eq a b) (bytes_eq b a) (λ e. (bytes_eq-Decides b a).1 (sym ((bytes_eq-Decides a b).0 e))) (λ e. (bytes_eq-Decides a b).1 (sym ((bytes_eq-Decides b a).0 e)))

-- a name that is less than all others is none of them
none_named : (test : Tree Bool → Bool) (name : Name) (nodes : List (Name × Tree Bool)) → below_all name_cmp name nodes ≡ true → any_named test name nodes ≡ false
none_named test name [] e = refl
none_named test name (node ∷ nodes) e =
    let parts = and_parts _ _ e in
    let differs : bytes_eq name node.0 ≡ false = false_from_ne_true (bytes_eq name node.0) (λ same. let equal : Less ≡ Equal = sym (less_from_is_lt _ parts.0) ∙ ap (name_cmp name) (sym ((bytes_eq-Decides name node.0).0 same)) ∙ name_cmp-itself name in cc) in
    ap (λ b. (b && test node.1) || any_named test name nodes) differs ∙ none_named test name nodes parts.1

-- among sorted children, at most one has a name
pub any_named-child : (test : Tree Bool → Bool) (b : Branches Bool) → is_sorted name_cmp (children b) ≡ true → (name : Name) → any_named test name (children b) ≡ child_satisfies test b name
any_named-child test none e name = refl
any_named-child test (branch n value below after) e name = by_name (bytes_eq n name) refl (λ rising. any_named-child test after rising name)
  where
    rise : (below_all name_cmp n (children after) ≡ true) × (is_sorted name_cmp (children after) ≡ true)
    rise = and_parts _ _ e

    by_name : (t : Bool) → bytes_eq n name ≡ t → (is_sorted name_cmp (children after) ≡ true → any_named test name (children after) ≡ child_satisfies test after name) → any_named test name (children (branch n value below after)) ≡ child_satisfies test (branch n value below after) name
    by_name true same later =
        let is : n ≡ name = (bytes_eq-Decides n name).0 same in
        rw (same, bytes_eq-sym name n, same) (ap (λ b. test (tree_of value below) || b) (ap (λ m. any_named test m (children after)) (sym is) ∙ none_named test n (children after) rise.0) ∙ or_none (test (tree_of value below)))
      where
        or_none : (b : Bool) → (b || false) ≡ b
        or_none true = refl
        or_none false = refl
    by_name false differs later = rw (differs, bytes_eq-sym name n, differs) (later rise.1)

-- the name of a child that satisfies the predicate
some_named : (test : Tree Bool → Bool) (nodes : List (Name × Tree Bool)) → list_any (λ (c : Name × Tree Bool). test c.1) nodes ≡ true → (name : Name) × (any_named test name nodes ≡ true)
some_named test [] h = absurd (false≢true h)
some_named test (node ∷ nodes) h = elim (or_cases (test node.1) (list_any (λ (c : Name × Tree Bool). test c.1) nodes) h) [
  | inl e ↦ (node.0, or_left _ _ (ap (λ b. b && test node.1) ((bytes_eq-Decides node.0 node.0).1 refl) ∙ e))
  | inr e ↦ let later = some_named test nodes e in (later.0, or_right _ _ later.1)
]

named_some : (test : Tree Bool → Bool) (name : Name) (nodes : List (Name × Tree Bool)) → any_named test name nodes ≡ true → list_any (λ (c : Name × Tree Bool). test c.1) nodes ≡ true
named_some test name = any_implies (λ (c : Name × Tree Bool). bytes_eq name c.0 && test c.1) (λ (c : Name × Tree Bool). test c.1) (λ c h. (and_parts _ _ h).1)

-- the set of names is empty if and only if no child satisfies the predicate
keys_tell : (test : Tree Bool → Bool) (nodes : List (Name × Tree Bool)) (name : Name) (names : List Name) → ((n : Name) → is_among (name ∷ names) n ≡ any_named test n nodes) → list_any (λ (c : Name × Tree Bool). test c.1) nodes ≡ true
keys_tell test nodes name names same = named_some test name nodes (sym (same name) ∙ or_left _ _ ((bytes_eq-Decides name name).1 refl))

no_keys_tell : (test : Tree Bool → Bool) (nodes : List (Name × Tree Bool)) → ((n : Name) → is_among [] n ≡ any_named test n nodes) → list_any (λ (c : Name × Tree Bool). test c.1) nodes ≡ false
no_keys_tell test nodes same = false_from_ne_true _ (λ h. let found = some_named test nodes h in false≢true (same found.0 ∙ found.1))

module _ (dirs files : Tree Bool → Bool) (b : Branches Bool) (sorted : is_sorted name_cmp (children b) ≡ true) where
  -- the visit of the two sets
  specific_is : (dir_keys file_keys : List Name) → ((name : Name) → is_among dir_keys name ≡ any_named dirs name (children b)) → ((name : Name) → is_among file_keys name ≡ any_named files name (children b)) →
      (any_child dirs b || any_child files b) ≡ true → specific (is_among dir_keys) (is_among file_keys) ≡ children_spec dirs files b
  specific_is dir_keys file_keys d f some =
      rw some (λ i. specific (λ name. (d name ∙ any_named-child dirs b sorted name) i) (λ name. (f name ∙ any_named-child files b sorted name) i))

  pub sets_are : (dir_keys file_keys : List Name) → ((name : Name) → is_among dir_keys name ≡ any_named dirs name (children b)) → ((name : Name) → is_among file_keys name ≡ any_named files name (children b)) →
      sets_spec dir_keys file_keys ≡ children_spec dirs files b
  sets_are [] [] d f = rw (no_keys_tell dirs (children b) d, no_keys_tell files (children b) f)
  sets_are [] (name ∷ names) d f = specific_is [] (name ∷ names) d f (or_right _ _ (keys_tell files (children b) name names f))
  sets_are (name ∷ names) file_keys d f = specific_is (name ∷ names) file_keys d f (or_left _ _ (keys_tell dirs (children b) name names d))

-- with no children left, the names so far are all of them
pub none_left : (test : Tree Bool → Bool) (name : Name) (before all : Bool) (left : List (Name × Tree Bool)) → left ≡ [] → (before || any_named test name left) ≡ all → before ≡ all
none_left test name before all left e whole = or_none before ∙ ap (λ l. before || any_named test name l) (sym e) ∙ whole
  where
    or_none : (b : Bool) → b ≡ (b || false)
    or_none true = refl
    or_none false = refl

-- one child moves from those left to those so far
pub add_next : (test : Tree Bool → Bool) (name : Name) (before after all : Bool) (node : Name × Tree Bool) (left later : List (Name × Tree Bool)) → left ≡ node ∷ later → after ≡ (bytes_eq name node.0 && test node.1 || before)
    → (before || any_named test name left) ≡ all → (after || any_named test name later) ≡ all
add_next test name before after all node left later next adds whole =
    ap (λ t. t || any_named test name later) adds
    ∙ named_next (bytes_eq name node.0 && test node.1) before (any_named test name later) all (ap (λ l. before || any_named test name l) (sym next) ∙ whole)
