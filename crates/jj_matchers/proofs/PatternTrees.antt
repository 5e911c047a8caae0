-- Queries of a trie of globs agree with those of the list of its patterns.
use Rattle.std.proofs.Common.{◌≡◌, ◌∙◌, ap, sym, refl, Bool, true, false, ◌&&◌, ◌||◌, inl, inr, List, [], ◌∷◌, ◌++◌, map, Option, Some, None, if◌then◌else◌, unwrap_or}
use mathlib.Core.Bool.{false≢true}
use Rattle.std.specs.Cmp.{both_ways}
use Rattle.std.specs.Option.{option_and_then, option_map}
use Rattle.std.specs.List.{list_any, flat_map}
use Rattle.std.specs.Str.{bytes_eq}
use Rattle.std.proofs.lemmas.Bool.{and_from, and_parts, or_cases, or_left, or_right}
use Rattle.std.specs.FinMap.{is_sorted}
use Rattle.std.specs.FinMap.Entries.{below_all}
use Rattle.std.specs.Ordering.{is_lt}
use Rattle.std.proofs.lemmas.List.Folds.{list_any-append}
use Rattle.jj_paths.specs.Paths.{Name, Path, name_cmp}
use Rattle.jj_paths.specs.Orders.{path_eq, path_eq-Decides}
use Rattle.jj_paths.specs.Tree.{Tree, tree_of, Branches, none, branch, child, children, get, has_branches, nodes_on, value_at}
use Rattle.jj_paths.specs.Nodes.{NodeAt, nodes_under}
use Rattle.jj_matchers.specs.VisitSpecs.{VisitSpec, specific, nothing}
use Rattle.jj_globs.specs.GlobMeaning.{GlobSpec}
use Rattle.jj_matchers.specs.PathLists.{is_at_or_below, is_below, is_listed, HasSamePaths, has_prefix, leads_to_listed, leads_to_prefix}
use Rattle.jj_matchers.specs.Marks.{is_marked, marked_paths, option_satisfies, any_child, children_spec, any_node}
use Rattle.jj_matchers.specs.Patterns.{tail_passes}
use Rattle.jj_matchers.specs.PatternTree.{has_globs, marked_branches, marks_of, no_node, globs_at, patterns_at, patterns_of, LeadsToGlobs}
use Rattle.jj_matchers.proofs.Marks.{path_listed, is_listed-marked, leads-get, leads-none, prefix-child}
use Rattle.jj_matchers.proofs.PatternSound.{tail_passes-append, passed, passes as tail_is_passed}
use Rattle.jj_matchers.specs.Visits.{is_among, sets_spec}
use Rattle.jj_matchers.proofs.Children.{any_named, sets_are}
use Rattle.jj_matchers.proofs.SetMark.{leads-blank}
use Rattle.jj_matchers.proofs.PathLists.{any_implies, same_members}

-- 1. Lists.

module _ {X : Type 0} where
  pub some_of : (test : X → Bool) (xs : List X) → list_any test xs ≡ true → (x : X) × (test x ≡ true)
  some_of test [] h = absurd (false≢true h)
  some_of test (x ∷ xs) h = elim (or_cases (test x) (list_any test xs) h) [ inl e ↦ (x, e) | inr e ↦ some_of test xs e ]

  pub any-map : {Y : Type 0} (f : X → Y) (test : Y → Bool) (xs : List X) → list_any test (map f xs) ≡ list_any (λ x. test (f x)) xs
  any-map f test [] = refl
  any-map f test (x ∷ xs) = ap (λ b. test (f x) || b) (any-map f test xs)

  pub any-flat_map : {Y : Type 0} (f : X → List Y) (test : Y → Bool) (xs : List X) → list_any test (flat_map f xs) ≡ list_any (λ x. list_any test (f x)) xs
  any-flat_map f test [] = refl
  any-flat_map f test (x ∷ xs) = list_any-append test (f x) (flat_map f xs) ∙ ap (λ b. list_any test (f x) || b) (any-flat_map f test xs)

-- 2. Marks.

child-marks : (b : Branches (List GlobSpec)) (name : Name) → child (marked_branches b) name ≡ option_map marks_of (child b name)
child-marks none name = refl
child-marks (branch n globs below after) name = by_name (bytes_eq n name) (child-marks after name)
  where
    by_name : (t : Bool) → child (marked_branches after) name ≡ option_map marks_of (child after name) →
        (if t then Some (tree_of (has_globs globs) (marked_branches below)) else child (marked_branches after) name) ≡ option_map marks_of (if t then Some (tree_of globs below) else child after name)
    by_name true later = refl
    by_name false later = later

pub get-marks : (path : Path) (tree : Tree (List GlobSpec)) → get (marks_of tree) path ≡ option_map marks_of (get tree path)
get-marks [] tree = refl
get-marks (name ∷ rest) tree = ap (option_and_then (λ (sub : Tree Bool). get sub rest)) (child-marks tree.branches name) ∙ by_child (child tree.branches name) (get-marks rest)
  where
    by_child : (o : Option (Tree (List GlobSpec))) → ((sub : Tree (List GlobSpec)) → get (marks_of sub) rest ≡ option_map marks_of (get sub rest)) →
        option_and_then (λ (sub : Tree Bool). get sub rest) (option_map marks_of o) ≡ option_map marks_of (option_and_then (λ (sub : Tree (List GlobSpec)). get sub rest) o)
    by_child None further = refl
    by_child (Some sub) further = further sub

pub value_at-marks : (tree : Tree (List GlobSpec)) (path : Path) → value_at (marks_of tree) path ≡ option_map has_globs (value_at tree path)
value_at-marks tree path = ap (option_map (λ (node : Tree Bool). node.value)) (get-marks path tree) ∙ by_node (get tree path)
  where
    by_node : (o : Option (Tree (List GlobSpec))) → option_map (λ (node : Tree Bool). node.value) (option_map marks_of o) ≡ option_map has_globs (option_map (λ (node : Tree (List GlobSpec)). node.value) o)
    by_node None = refl
    by_node (Some node) = refl

pub is_marked-marks : (tree : Tree (List GlobSpec)) (path : Path) → is_marked (marks_of tree) path ≡ has_globs (globs_at tree path)
is_marked-marks tree path = ap (λ (o : Option Bool). unwrap_or o false) (value_at-marks tree path) ∙ by_value (value_at tree path)
  where
    by_value : (o : Option (List GlobSpec)) → unwrap_or (option_map has_globs o) false ≡ has_globs (unwrap_or o [])
    by_value None = refl
    by_value (Some globs) = refl

abbrev pub marked_children : List (Name × Tree (List GlobSpec)) → List (Name × Tree Bool)
marked_children [] = []
marked_children (node ∷ nodes) = (node.0, marks_of node.1) ∷ marked_children nodes

pub children-marks : (b : Branches (List GlobSpec)) → children (marked_branches b) ≡ marked_children (children b)
children-marks none = refl
children-marks (branch n globs below after) = ap (λ l. (n, tree_of (has_globs globs) (marked_branches below)) ∷ l) (children-marks after)

-- 3. Patterns.

module _ (tree : Tree (List GlobSpec)) where
  abbrev paths : List Path
  paths = [] ∷ map (λ (found : NodeAt (List GlobSpec)). found.path) (nodes_under [] tree.branches)

  at_dir : (test : Path × GlobSpec → Bool) (dir : Path) → list_any test (patterns_at tree dir) ≡ list_any (λ glob. test (dir, glob)) (globs_at tree dir)
  at_dir test dir = any-map (λ glob. (dir, glob)) test (globs_at tree dir)

  pub any_pattern : (test : Path × GlobSpec → Bool) → list_any test (patterns_of tree) ≡ true → (dir : Path) × (list_any (λ glob. test (dir, glob)) (globs_at tree dir) ≡ true)
  any_pattern test h =
      let found = some_of (λ dir. list_any test (patterns_at tree dir)) paths (sym (any-flat_map (patterns_at tree) test paths) ∙ h) in
      (found.0, sym (at_dir test found.0) ∙ found.1)

  -- a directory with globs is among the paths of the nodes
  listed : (dir : Path) (node : Tree (List GlobSpec)) → get tree dir ≡ Some node → list_any (path_eq dir) paths ≡ true
  listed [] node e = refl
  listed (name ∷ rest) node e = path_listed tree.branches [] name rest node [] e

  pub node_of : (dir : Path) (test : GlobSpec → Bool) → list_any test (globs_at tree dir) ≡ true → (node : Tree (List GlobSpec)) × (get tree dir ≡ Some node)
  node_of dir test h = by_node (get tree dir) refl
    where
      by_node : (o : Option (Tree (List GlobSpec))) → get tree dir ≡ o → (node : Tree (List GlobSpec)) × (get tree dir ≡ Some node)
      by_node None e = absurd (false≢true (sym (ap (λ o. list_any test (unwrap_or (option_map (λ (node : Tree (List GlobSpec)). node.value) o) [])) e) ∙ h))
      by_node (Some node) e = (node, e)

  pub pattern_any : (test : Path × GlobSpec → Bool) (dir : Path) → list_any (λ glob. test (dir, glob)) (globs_at tree dir) ≡ true → list_any test (patterns_of tree) ≡ true
  pattern_any test dir h =
      let node = node_of dir (λ glob. test (dir, glob)) h in
      any-flat_map (patterns_at tree) test paths
      ∙ any_implies (path_eq dir) (λ d. list_any test (patterns_at tree d)) (λ d e. ap (λ p. list_any test (patterns_at tree p)) (sym ((path_eq-Decides dir d).0 e)) ∙ at_dir test dir ∙ h) paths (listed dir node.0 node.1)

-- 4. The nodes on the way to a path.

module _ {V : Type 0} (test : Tree V × Path → Bool) where
  pub record OnTheWay (tree : Tree V) (path : Path) : Type 0 where
    pub front : Path
    pub tail : Path
    pub node : Tree V
    pub is : path ≡ front ++ tail
    pub at : get tree front ≡ Some node
    pub passes : test (node, tail) ≡ true

  first_alone : (b : Bool) → (b || false) ≡ true → b ≡ true
  first_alone b h = elim (or_cases b false h) [ inl e ↦ e | inr e ↦ absurd (false≢true e) ]

  pub on_the_way : (path : Path) (tree : Tree V) → list_any test (nodes_on tree path) ≡ true → OnTheWay tree path
  on_the_way [] tree h = record { front = []; tail = []; node = tree; is = refl; at = refl; passes = first_alone (test (tree, [])) h }
  on_the_way (name ∷ path) tree h =
      elim (or_cases (test (tree, name ∷ path)) _ h) [
        | inl e ↦ record { front = []; tail = name ∷ path; node = tree; is = refl; at = refl; passes = e }
        | inr e ↦ by_child (child tree.branches name) refl (on_the_way path) e
      ]
    where
      by_child : (o : Option (Tree V)) → child tree.branches name ≡ o → ((sub : Tree V) → list_any test (nodes_on sub path) ≡ true → OnTheWay sub path) →
          list_any test (elim o [ None ↦ [] | Some sub ↦ nodes_on sub path ]) ≡ true → OnTheWay tree (name ∷ path)
      by_child None is further e = absurd (false≢true e)
      by_child (Some sub) is further e =
          let found = further sub e in
          record {
            front = name ∷ found.front;
            tail = found.tail;
            node = found.node;
            is = ap (λ l. name ∷ l) found.is;
            at = ap (option_and_then (λ (n : Tree V). get n found.front)) is ∙ found.at;
            passes = found.passes;
          }

  pub pass_the_way : (front tail : Path) (tree node : Tree V) → get tree front ≡ Some node → test (node, tail) ≡ true → list_any test (nodes_on tree (front ++ tail)) ≡ true
  pass_the_way [] [] tree node at h = let same : node ≡ tree = cc in or_left (test (tree, [])) false (ap (λ (n : Tree V). test (n, [])) (sym same) ∙ h)
  pass_the_way [] (name ∷ tail) tree node at h = let same : node ≡ tree = cc in or_left (test (tree, name ∷ tail)) _ (ap (λ (n : Tree V). test (n, name ∷ tail)) (sym same) ∙ h)
  pass_the_way (name ∷ front) tail tree node at h = or_right (test (tree, name ∷ (front ++ tail))) _ (by_child (child tree.branches name) (pass_the_way front tail) at)
    where
      by_child : (o : Option (Tree V)) → ((sub node : Tree V) → get sub front ≡ Some node → test (node, tail) ≡ true → list_any test (nodes_on sub (front ++ tail)) ≡ true) →
          option_and_then (λ (n : Tree V). get n front) o ≡ Some node → list_any test (elim o [ None ↦ [] | Some sub ↦ nodes_on sub (front ++ tail) ]) ≡ true
      by_child None further e = absurd (some_none e)
        where
          some_none : None ≡ Some node → ⊥
          some_none e = cc
      by_child (Some sub) further e = further sub node e h

-- 5. The patterns on the way to a path.

any_true : (globs : List GlobSpec) → list_any (λ glob. true) globs ≡ has_globs globs
any_true [] = refl
any_true (glob ∷ globs) = refl

always : (dir path : Path) → tail_passes dir (λ tail. true) path ≡ is_at_or_below dir path
always [] path = refl
always (name ∷ dir) [] = refl
always (name ∷ dir) (first ∷ path) = ap (λ b. bytes_eq name first && b) (always dir path)

module _ (tree : Tree (List GlobSpec)) where
  module _ (test : GlobSpec → Path → Bool) (path : Path) where
    abbrev step_test : Tree (List GlobSpec) × Path → Bool
    step_test step = list_any (λ glob. test glob step.1) step.0.value

    abbrev pattern_test : Path × GlobSpec → Bool
    pattern_test pattern = tail_passes pattern.0 (test pattern.1) path

    to_patterns : list_any step_test (nodes_on tree path) ≡ true → list_any pattern_test (patterns_of tree) ≡ true
    to_patterns h =
        let found = on_the_way step_test path tree h in
        let globs : globs_at tree found.front ≡ found.node.value = ap (λ o. unwrap_or (option_map (λ (node : Tree (List GlobSpec)). node.value) o) []) found.at in
        let here : list_any (λ glob. test glob found.tail) (globs_at tree found.front) ≡ true = ap (list_any (λ glob. test glob found.tail)) globs ∙ found.passes in
        pattern_any tree pattern_test found.front
        (any_implies (λ glob. test glob found.tail) (λ glob. tail_passes found.front (test glob) path)
        (λ glob e. tail_is_passed (test glob) found.front path (record { tail = found.tail; is = found.is; passes = e })) (globs_at tree found.front) here)

    from_patterns : list_any pattern_test (patterns_of tree) ≡ true → list_any step_test (nodes_on tree path) ≡ true
    from_patterns h =
        let found = any_pattern tree pattern_test h in
        let dir = found.0 in
        let one = some_of (λ glob. tail_passes dir (test glob) path) (globs_at tree dir) found.1 in
        let way = passed (test one.0) dir path one.1 in
        let node = node_of tree dir (λ glob. tail_passes dir (test glob) path) found.1 in
        let globs : globs_at tree dir ≡ node.0.value = ap (λ o. unwrap_or (option_map (λ (n : Tree (List GlobSpec)). n.value) o) []) node.1 in
        let here : list_any (λ glob. test glob way.tail) (globs_at tree dir) ≡ true =
        any_implies (λ glob. tail_passes dir (test glob) path) (λ glob. test glob way.tail)
        (λ glob e. sym (ap (tail_passes dir (test glob)) way.is ∙ tail_passes-append (test glob) dir way.tail) ∙ e) (globs_at tree dir) found.1 in
        ap (λ p. list_any step_test (nodes_on tree p)) way.is ∙ pass_the_way step_test dir way.tail tree node.0 node.1 (sym (ap (list_any (λ glob. test glob way.tail)) globs) ∙ here)

    pub way_passes : list_any step_test (nodes_on tree path) ≡ list_any pattern_test (patterns_of tree)
    way_passes = both_ways (list_any step_test (nodes_on tree path)) (list_any pattern_test (patterns_of tree)) to_patterns from_patterns

  abbrev pub dirs : List Path
  dirs = map (λ (pattern : Path × GlobSpec). pattern.0) (patterns_of tree)

  pub way_has : (path : Path) → list_any (λ (step : Tree (List GlobSpec) × Path). has_globs step.0.value) (nodes_on tree path) ≡ has_prefix dirs path
  way_has path =
      let steps : list_any (λ (step : Tree (List GlobSpec) × Path). has_globs step.0.value) (nodes_on tree path) ≡ list_any (λ (step : Tree (List GlobSpec) × Path). list_any (λ glob. true) step.0.value) (nodes_on tree path) =
      λ i. list_any (λ (step : Tree (List GlobSpec) × Path). sym (any_true step.0.value) i) (nodes_on tree path) in
      let patterns : list_any (λ (pattern : Path × GlobSpec). tail_passes pattern.0 (λ tail. true) path) (patterns_of tree) ≡ list_any (λ (pattern : Path × GlobSpec). is_at_or_below pattern.0 path) (patterns_of tree) =
      λ i. list_any (λ (pattern : Path × GlobSpec). always pattern.0 path i) (patterns_of tree) in
      steps ∙ way_passes (λ glob tail. true) path ∙ patterns ∙ sym (any-map (λ (pattern : Path × GlobSpec). pattern.0) (λ dir. is_at_or_below dir path) (patterns_of tree))

  -- the directories of the patterns are the marked paths
  same_dirs : HasSamePaths (marked_paths (marks_of tree)) dirs
  same_dirs = same_members (marked_paths (marks_of tree)) dirs (λ path. is_listed-marked (marks_of tree) path ∙ is_marked-marks tree path ∙ both_ways (has_globs (globs_at tree path)) (is_listed dirs path) (to path) (from path))
    where
      to : (path : Path) → has_globs (globs_at tree path) ≡ true → is_listed dirs path ≡ true
      to path h =
          any-map (λ (pattern : Path × GlobSpec). pattern.0) (path_eq path) (patterns_of tree)
          ∙ pattern_any tree (λ (pattern : Path × GlobSpec). path_eq path pattern.0) path (some (globs_at tree path) h)
        where
          some : (globs : List GlobSpec) → has_globs globs ≡ true → list_any (λ glob. path_eq path path) globs ≡ true
          some [] h = absurd (false≢true h)
          some (glob ∷ globs) h = or_left (path_eq path path) (list_any (λ g. path_eq path path) globs) ((path_eq-Decides path path).1 refl)

      from : (path : Path) → is_listed dirs path ≡ true → has_globs (globs_at tree path) ≡ true
      from path h =
          let found = any_pattern tree (λ (pattern : Path × GlobSpec). path_eq path pattern.0) (sym (any-map (λ (pattern : Path × GlobSpec). pattern.0) (path_eq path) (patterns_of tree)) ∙ h) in
          let one = some_of (λ glob. path_eq path found.0) (globs_at tree found.0) found.1 in
          ap (λ p. has_globs (globs_at tree p)) ((path_eq-Decides path found.0).0 one.1) ∙ some (λ glob. path_eq path found.0) (globs_at tree found.0) found.1
        where
          some : (test : GlobSpec → Bool) (globs : List GlobSpec) → list_any test globs ≡ true → has_globs globs ≡ true
          some test [] h = absurd (false≢true h)
          some test (glob ∷ globs) h = refl

  -- the visit at a node on the way to directories with globs
  module _ (leads : LeadsToGlobs tree) where
    abbrev pub children_on_the_way : Path → VisitSpec
    children_on_the_way dir = if leads_to_listed dirs dir then specific (λ name. leads_to_prefix dirs (dir ++ name ∷ [])) (λ name. false) else nothing

    leads_there : (dir : Path) (o : Option (Tree (List GlobSpec))) → get tree dir ≡ o → get (marks_of tree) dir ≡ option_map marks_of o
    leads_there dir o e = get-marks dir tree ∙ ap (option_map marks_of) e

    unmarked : (o : Option (Tree Bool)) → option_satisfies no_node o ≡ false
    unmarked None = refl
    unmarked (Some node) = refl

    nodes : (b : Branches Bool) → (any_child any_node b || any_child no_node b) ≡ has_branches b
    nodes none = refl
    nodes (branch n value below after) = refl

    pub children_are : (dir : Path) (node : Tree (List GlobSpec)) → get tree dir ≡ Some node → children_spec any_node no_node (marked_branches node.branches) ≡ children_on_the_way dir
    children_are dir node e =
        let there : get (marks_of tree) dir ≡ Some (marks_of node) = leads_there dir (Some node) e in
        let some : (any_child any_node (marked_branches node.branches) || any_child no_node (marked_branches node.branches)) ≡ leads_to_listed dirs dir =
        nodes (marked_branches node.branches) ∙ sym (leads-get (marks_of tree) leads dir (marks_of node) there) ∙ same_dirs (is_below dir) in
        λ i. if some i then specific
        (λ name. (prefix-child (marks_of tree) leads dir (marks_of node) name there ∙ same_dirs (is_at_or_below (dir ++ name ∷ []))) i)
        (λ name. unmarked (child (marked_branches node.branches) name) i) else nothing

    pub no_children_are : (dir : Path) → get tree dir ≡ None → nothing ≡ children_on_the_way dir
    no_children_are dir e =
        ap (λ b. if b then specific (λ name. leads_to_prefix dirs (dir ++ name ∷ [])) (λ name. false) else nothing)
        (sym (sym (same_dirs (is_below dir)) ∙ leads-none (marks_of tree) leads dir (leads_there dir None e)))

-- 6. The trie of a list.

or_false : (b : Bool) → (b || false) ≡ b
or_false true = refl
or_false false = refl

-- a tree of a root without globs has none anywhere
pub bare_tree : (tree : Tree (List GlobSpec)) → tree.value ≡ [] → tree.branches ≡ none → (dir : Path) → globs_at tree dir ≡ []
bare_tree tree bare alone [] = bare
bare_tree tree bare alone (name ∷ rest) = ap (λ b. unwrap_or (option_map (λ (node : Tree (List GlobSpec)). node.value) (option_and_then (λ (sub : Tree (List GlobSpec)). get sub rest) (child b name))) []) alone

pub bare_leads : (tree : Tree (List GlobSpec)) → tree.branches ≡ none → LeadsToGlobs tree
bare_leads tree alone = leads-blank (marks_of tree) (ap marked_branches alone)

module _ {X : Type 0} where
  -- an element of a list that satisfies a predicate
  pub record Member (test : X → Bool) (xs : List X) : Type 0 where
    pub item : X
    pub passes : test item ≡ true
    pub found : (other : X → Bool) → other item ≡ true → list_any other xs ≡ true

  pub member_of : (test : X → Bool) (xs : List X) → list_any test xs ≡ true → Member test xs
  member_of test [] h = absurd (false≢true h)
  member_of test (x ∷ xs) h = elim (or_cases (test x) (list_any test xs) h) [
    | inl e ↦ record { item = x; passes = e; found = λ other f. or_left (other x) (list_any other xs) f }
    | inr e ↦ let later = member_of test xs e in record { item = later.item; passes = later.passes; found = λ other f. or_right (other x) (list_any other xs) (later.found other f) }
  ]

  module _ (tree : Tree (List GlobSpec)) (dir_of : X → Path) (glob_of : X → GlobSpec) (items : List X)
      (known : (dir : Path) (test : GlobSpec → Bool) → list_any test (globs_at tree dir) ≡ list_any (λ x. path_eq dir (dir_of x) && test (glob_of x)) items) where
    -- the patterns of the trie are those of the list
    pub same_patterns : (test : Path × GlobSpec → Bool) → list_any test (patterns_of tree) ≡ list_any (λ x. test (dir_of x, glob_of x)) items
    same_patterns test = both_ways (list_any test (patterns_of tree)) (list_any (λ x. test (dir_of x, glob_of x)) items) to from
      where
        to : list_any test (patterns_of tree) ≡ true → list_any (λ x. test (dir_of x, glob_of x)) items ≡ true
        to h =
            let found = any_pattern tree test h in
            any_implies (λ x. path_eq found.0 (dir_of x) && test (found.0, glob_of x)) (λ x. test (dir_of x, glob_of x))
            (λ x e.
            let parts = and_parts (path_eq found.0 (dir_of x)) (test (found.0, glob_of x)) e in
            ap (λ p. test (p, glob_of x)) (sym ((path_eq-Decides found.0 (dir_of x)).0 parts.0)) ∙ parts.1)
            items (sym (known found.0 (λ glob. test (found.0, glob))) ∙ found.1)

        from : list_any (λ x. test (dir_of x, glob_of x)) items ≡ true → list_any test (patterns_of tree) ≡ true
        from h =
            let one = member_of (λ x. test (dir_of x, glob_of x)) items h in
            let dir = dir_of one.item in
            pattern_any tree test dir
            (known dir (λ glob. test (dir, glob))
            ∙ one.found (λ x. path_eq dir (dir_of x) && test (dir, glob_of x)) (and_from (path_eq dir dir) (test (dir, glob_of one.item)) ((path_eq-Decides dir dir).1 refl) one.passes))

-- 7. The names of the children.

below_marks : (name : Name) (nodes : List (Name × Tree (List GlobSpec))) → below_all name_cmp name (marked_children nodes) ≡ below_all name_cmp name nodes
below_marks name [] = refl
below_marks name (node ∷ nodes) = ap (λ b. is_lt (name_cmp name node.0) && b) (below_marks name nodes)

sorted_marks : (nodes : List (Name × Tree (List GlobSpec))) → is_sorted name_cmp (marked_children nodes) ≡ is_sorted name_cmp nodes
sorted_marks [] = refl
sorted_marks (node ∷ nodes) = λ i. below_marks node.0 nodes i && sorted_marks nodes i

no_names : (name : Name) (nodes : List (Name × Tree Bool)) → false ≡ any_named no_node name nodes
no_names name [] = refl
no_names name (node ∷ nodes) = by_name (bytes_eq name node.0) (no_names name nodes)
  where
    by_name : (t : Bool) → false ≡ any_named no_node name nodes → false ≡ ((t && false) || any_named no_node name nodes)
    by_name true later = later
    by_name false later = later

-- the visit of all children as directories
pub directories_are : (b : Branches (List GlobSpec)) (names : List Name) → is_sorted name_cmp (children b) ≡ true → ((name : Name) → is_among names name ≡ any_named any_node name (marked_children (children b))) →
    sets_spec names [] ≡ children_spec any_node no_node (marked_branches b)
directories_are b names sorted known =
    sets_are any_node no_node (marked_branches b) (ap (is_sorted name_cmp) (children-marks b) ∙ sorted_marks (children b) ∙ sorted) names []
    (λ name. known name ∙ ap (any_named any_node name) (sym (children-marks b))) (λ name. no_names name (children (marked_branches b)))

-- with no children left, the names so far are all of them
pub none_left : (names : List Name) (left all : List (Name × Tree (List GlobSpec))) → left ≡ [] → ((name : Name) → (is_among names name || any_named any_node name (marked_children left)) ≡ any_named any_node name (marked_children all)) →
    (name : Name) → is_among names name ≡ any_named any_node name (marked_children all)
none_left names left all e known name = sym (or_false (is_among names name)) ∙ ap (λ l. is_among names name || any_named any_node name (marked_children l)) (sym e) ∙ known name
