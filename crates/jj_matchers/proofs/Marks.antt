-- Queries of a tree of marked paths agree with those of the list of the marks.
use Rattle.std.proofs.Common.{◌≡◌, Bool, true, false, ◌||◌, List, [], ◌∷◌, ◌++◌, Option, Some, None, map, refl, ap, sym, ◌∙◌, append_assoc, append-nil, inl, inr, if◌then◌else◌, unwrap_or}
use mathlib.Core.Bool.{false≢true}
use Rattle.std.specs.Cmp.{both_ways}
use Rattle.std.specs.Option.{option_and_then, option_map}
use Rattle.std.proofs.lemmas.Bool.{false_from_ne_true, or_cases, or_left, or_right}
use Rattle.std.specs.Str.{bytes_eq}
use Rattle.std.specs.List.{list_any, filter}
use Rattle.std.proofs.lemmas.List.Folds.{list_any-append}
use Rattle.std.proofs.lemmas.List.{map-append}
use Rattle.std.proofs.lemmas.Slice.Eq.{bytes_eq-Decides}
use Rattle.jj_paths.specs.Paths.{Name, Path}
use Rattle.jj_paths.specs.Orders.{path_eq, path_eq-Decides}
use Rattle.jj_paths.specs.Tree.{Tree, tree_of, Branches, none, branch, child, get, has_branches, nodes_on}
use Rattle.jj_paths.specs.Nodes.{NodeAt, nodes_under}
use Rattle.jj_matchers.specs.VisitSpecs.{VisitSpec, all_recursively, specific, nothing}
use Rattle.jj_matchers.specs.PathLists.{is_at_or_below, is_below, is_listed, leads_to_listed, files_spec, has_prefix, leads_to_prefix, prefix_spec}
use Rattle.jj_matchers.specs.Marks.{is_marked, marked_paths, LeadsToMarks, option_satisfies, child_satisfies, any_child, children_spec, has_children, has_mark, any_node}
use Rattle.jj_matchers.proofs.PathLists.{is_below-append, is_at_or_below-append, below_base, below_dir}

module _ {V : Type 0} where
  -- the node at a path relative to another node
  pub get-append : (tree : Tree V) (dir rest : Path) → get tree (dir ++ rest) ≡ option_and_then (λ node. get node rest) (get tree dir)
  get-append tree [] rest = refl
  get-append tree (name ∷ dir) rest = by_child (child tree.branches name) (λ sub. get-append sub dir rest)
    where
      by_child : (o : Option (Tree V)) → ((sub : Tree V) → get sub (dir ++ rest) ≡ option_and_then (λ node. get node rest) (get sub dir)) →
          option_and_then (λ sub. get sub (dir ++ rest)) o ≡ option_and_then (λ node. get node rest) (option_and_then (λ sub. get sub dir) o)
      by_child None further = refl
      by_child (Some sub) further = further sub

  pub get-below : (tree node : Tree V) (dir rest : Path) → get tree dir ≡ Some node → get tree (dir ++ rest) ≡ get node rest
  get-below tree node dir rest e = get-append tree dir rest ∙ ap (option_and_then (λ n. get n rest)) e

  pub get-child : (tree node : Tree V) (dir : Path) (name : Name) → get tree dir ≡ Some node → get tree (dir ++ name ∷ []) ≡ child node.branches name
  get-child tree node dir name e = get-below tree node dir (name ∷ []) e ∙ itself (child node.branches name)
    where
      itself : (o : Option (Tree V)) → option_and_then (λ sub. get sub []) o ≡ o
      itself None = refl
      itself (Some sub) = refl

  -- a path with a node is among the paths of the nodes
  pub path_listed : (b : Branches V) (dir : Path) (name : Name) (rest : Path) (sub : Tree V) (v : V) → option_and_then (λ n. get n rest) (child b name) ≡ Some sub →
      list_any (path_eq (dir ++ name ∷ rest)) (map (λ (found : NodeAt V). found.path) (nodes_under dir b)) ≡ true
  path_listed none dir name rest sub v e = absurd (no_node e)
    where
      no_node : None ≡ Some sub → ⊥
      no_node h = cc
  path_listed (branch n value below after) dir name rest sub v e =
      by_name (bytes_eq n name) refl rest e (λ next more h. path_listed below (dir ++ n ∷ []) next more sub v h) (λ h. path_listed after dir name rest sub v h)
    where
      paths : List (NodeAt V) → List Path
      paths = map (λ (found : NodeAt V). found.path)

      here : (m : Name) → n ≡ m → path_eq (dir ++ m ∷ []) (dir ++ n ∷ []) ≡ true
      here m is = (path_eq-Decides (dir ++ m ∷ []) (dir ++ n ∷ [])).1 (ap (λ x. dir ++ x ∷ []) (sym is))

      split : (p : Path) → list_any (path_eq p) (paths (nodes_under (dir ++ n ∷ []) below ++ nodes_under dir after)) ≡ (list_any (path_eq p) (paths (nodes_under (dir ++ n ∷ []) below)) || list_any (path_eq p) (paths (nodes_under dir after)))
      split p = ap (list_any (path_eq p)) (map-append (λ (found : NodeAt V). found.path) (nodes_under (dir ++ n ∷ []) below) (nodes_under dir after)) ∙ list_any-append (path_eq p) (paths (nodes_under (dir ++ n ∷ []) below)) (paths (nodes_under dir after))

      by_name : (t : Bool) → bytes_eq n name ≡ t → (rest : Path) → option_and_then (λ n. get n rest) (child (branch n value below after) name) ≡ Some sub →
          ((next : Name) (more : Path) → option_and_then (λ n. get n more) (child below next) ≡ Some sub → list_any (path_eq ((dir ++ n ∷ []) ++ next ∷ more)) (paths (nodes_under (dir ++ n ∷ []) below)) ≡ true) →
          (option_and_then (λ n. get n rest) (child after name) ≡ Some sub → list_any (path_eq (dir ++ name ∷ rest)) (paths (nodes_under dir after)) ≡ true) →
          list_any (path_eq (dir ++ name ∷ rest)) (paths (nodes_under dir (branch n value below after))) ≡ true
      by_name true same [] h deep later = or_left _ _ (here name ((bytes_eq-Decides n name).0 same))
      by_name true same (next ∷ more) h deep later =
          let is : n ≡ name = (bytes_eq-Decides n name).0 same in
          let found : option_and_then (λ n. get n more) (child below next) ≡ Some sub = rw same at h in
          or_right _ _ (split (dir ++ name ∷ next ∷ more)
          ∙ or_left _ _ (ap (λ p. list_any (path_eq p) (paths (nodes_under (dir ++ n ∷ []) below))) (ap (λ x. dir ++ x ∷ next ∷ more) (sym is) ∙ sym (append_assoc dir (n ∷ []) (next ∷ more))) ∙ deep next more found))
      by_name false differs rest h deep later =
          let found : option_and_then (λ n. get n rest) (child after name) ≡ Some sub = rw differs at h in
          or_right _ _ (split (dir ++ name ∷ rest) ∙ or_right _ _ (later found))

-- a path is marked if and only if it is on the list of marked paths
module _ where
  any_filter : (keep test : Path → Bool) (path : Path) → keep path ≡ true → test path ≡ true → (xs : List Path) → list_any (path_eq path) xs ≡ true → list_any test (filter keep xs) ≡ true
  any_filter keep test path k t [] h = absurd (false≢true h)
  any_filter keep test path k t (x ∷ xs) h = elim (or_cases (path_eq path x) (list_any (path_eq path) xs) h) [ inl e ↦ at_first ((path_eq-Decides path x).0 e) | inr e ↦ at_later (keep x) refl (any_filter keep test path k t xs e) ]
    where
      at_first : path ≡ x → list_any test (filter keep (x ∷ xs)) ≡ true
      at_first is = let kept : keep x ≡ true = ap keep (sym is) ∙ k in rw kept (or_left (test x) (list_any test (filter keep xs)) (ap test (sym is) ∙ t))

      at_later : (b : Bool) → keep x ≡ b → list_any test (filter keep xs) ≡ true → list_any test (filter keep (x ∷ xs)) ≡ true
      at_later true is later = rw is (or_right (test x) (list_any test (filter keep xs)) later)
      at_later false is later = rw is later

  -- an element of a filtered list that satisfies a predicate
  pub found_in : (keep test : Path → Bool) (xs : List Path) → list_any test (filter keep xs) ≡ true → (x : Path) × ((keep x ≡ true) × (test x ≡ true))
  found_in keep test [] h = absurd (false≢true h)
  found_in keep test (x ∷ xs) h = by_keep (keep x) refl (found_in keep test xs)
    where
      by_keep : (b : Bool) → keep x ≡ b → (list_any test (filter keep xs) ≡ true → (y : Path) × ((keep y ≡ true) × (test y ≡ true))) → (y : Path) × ((keep y ≡ true) × (test y ≡ true))
      by_keep true is further = elim (or_cases (test x) (list_any test (filter keep xs)) (rw is at h)) [ inl e ↦ (x, (is, e)) | inr e ↦ further e ]
      by_keep false is further = further (rw is at h)

  -- a marked path is among the paths of the nodes
  listed : (tree : Tree Bool) (path : Path) → is_marked tree path ≡ true → list_any (path_eq path) ([] ∷ map (λ (found : NodeAt Bool). found.path) (nodes_under [] tree.branches)) ≡ true
  listed tree [] marked = refl
  listed tree (name ∷ rest) marked = by_node (get tree (name ∷ rest)) refl
    where
      by_node : (o : Option (Tree Bool)) → get tree (name ∷ rest) ≡ o → list_any (path_eq (name ∷ rest)) ([] ∷ map (λ (found : NodeAt Bool). found.path) (nodes_under [] tree.branches)) ≡ true
      by_node None is = absurd (false≢true (sym (ap (λ o. unwrap_or (option_map (λ (node : Tree Bool). node.value) o) false) is) ∙ marked))
      by_node (Some sub) is = path_listed tree.branches [] name rest sub true is

  pub any_marked : (tree : Tree Bool) (test : Path → Bool) → list_any test (marked_paths tree) ≡ true → (path : Path) × ((is_marked tree path ≡ true) × (test path ≡ true))
  any_marked tree test = found_in (is_marked tree) test ([] ∷ map (λ (found : NodeAt Bool). found.path) (nodes_under [] tree.branches))

  pub marked_any : (tree : Tree Bool) (test : Path → Bool) (path : Path) → is_marked tree path ≡ true → test path ≡ true → list_any test (marked_paths tree) ≡ true
  marked_any tree test path marked passing = any_filter (is_marked tree) test path marked passing ([] ∷ map (λ (found : NodeAt Bool). found.path) (nodes_under [] tree.branches)) (listed tree path marked)

  pub is_listed-marked : (tree : Tree Bool) (path : Path) → is_listed (marked_paths tree) path ≡ is_marked tree path
  is_listed-marked tree path =
      both_ways (is_listed (marked_paths tree) path) (is_marked tree path)
      (λ h. let found = any_marked tree (path_eq path) h in ap (is_marked tree) ((path_eq-Decides path found.0).0 found.1.1) ∙ found.1.0)
      (λ h. marked_any tree (path_eq path) path h ((path_eq-Decides path path).1 refl))

-- whether a path is marked, by the node there
pub marked_at : (tree : Tree Bool) (path : Path) (o : Option (Tree Bool)) → get tree path ≡ o → is_marked tree path ≡ option_satisfies has_mark o
marked_at tree path None e = ap (λ o. unwrap_or (option_map (λ (node : Tree Bool). node.value) o) false) e
marked_at tree path (Some node) e = ap (λ o. unwrap_or (option_map (λ (node : Tree Bool). node.value) o) false) e

child-first : (n : Name) (value : Bool) (below after : Branches Bool) → child (branch n value below after) n ≡ Some (tree_of value below)
child-first n value below after = rw ((bytes_eq-Decides n n).1 refl)

no_branches : (b : Branches Bool) → has_branches b ≡ false → b ≡ none
no_branches none e = refl
no_branches (branch n value below after) e = absurd (false≢true (sym e))

module _ (tree : Tree Bool) (leads : LeadsToMarks tree) where
  -- a node below the root is marked or has a child
  not_idle : (dir : Path) (name : Name) → get tree (dir ++ name ∷ []) ≡ Some (tree_of false none) → ⊥
  not_idle dir name e =
      leads dir name (ap (option_map (λ (node : Tree Bool). node.value)) e)
      (λ next. ap (option_map (λ (node : Tree Bool). node.value)) (ap (get tree) (sym (append_assoc dir (name ∷ []) (next ∷ []))) ∙ get-below tree (tree_of false none) (dir ++ name ∷ []) (next ∷ []) e))

  -- below a node with children there is a mark
  mark_below : (b : Branches Bool) (dir : Path) (v : Bool) → get tree dir ≡ Some (tree_of v b) → has_branches b ≡ true → (name : Name) × ((rest : Path) × (is_marked tree (dir ++ name ∷ rest) ≡ true))
  mark_below none dir v e h = absurd (false≢true h)
  mark_below (branch n value below after) dir v e h = by_value value below here (mark_below below (dir ++ n ∷ []) value here)
    where
      here : get tree (dir ++ n ∷ []) ≡ Some (tree_of value below)
      here = get-child tree (tree_of v (branch n value below after)) dir n e ∙ child-first n value below after

      by_value : (w : Bool) (b : Branches Bool) → get tree (dir ++ n ∷ []) ≡ Some (tree_of w b) → (has_branches b ≡ true → (name : Name) × ((rest : Path) × (is_marked tree ((dir ++ n ∷ []) ++ name ∷ rest) ≡ true))) → (name : Name) × ((rest : Path) × (is_marked tree (dir ++ name ∷ rest) ≡ true))
      by_value true b is deeper = (n, ([], marked_at tree (dir ++ n ∷ []) (Some (tree_of true b)) is))
      by_value false none is deeper = absurd (not_idle dir n is)
      by_value false (branch m u x y) is deeper = let found = deeper refl in (n, (found.0 ∷ found.1.0, ap (is_marked tree) (sym (append_assoc dir (n ∷ []) (found.0 ∷ found.1.0))) ∙ found.1.1))

  -- an existing node leads to marks if and only if it has children
  pub leads-get : (dir : Path) (node : Tree Bool) → get tree dir ≡ Some node → leads_to_listed (marked_paths tree) dir ≡ has_branches node.branches
  leads-get dir node e =
      both_ways (leads_to_listed (marked_paths tree) dir) (has_branches node.branches)
      (λ h. let found = any_marked tree (is_below dir) h in let below = below_dir dir found.0 found.1.1 in by_branches node.branches refl below.0 below.1.0 (ap (is_marked tree) (sym below.1.1) ∙ found.1.0))
      (λ h. let found = mark_below node.branches dir node.value e h in marked_any tree (is_below dir) (dir ++ found.0 ∷ found.1.0) found.1.1 (is_below-append dir found.0 found.1.0))
    where
      by_branches : (b : Branches Bool) → node.branches ≡ b → (name : Name) (rest : Path) → is_marked tree (dir ++ name ∷ rest) ≡ true → has_branches node.branches ≡ true
      by_branches none is name rest marked =
          let missing : get tree (dir ++ name ∷ rest) ≡ None = get-below tree node dir (name ∷ rest) e ∙ ap (λ b. option_and_then (λ sub. get sub rest) (child b name)) is in
          absurd (false≢true (sym (marked_at tree (dir ++ name ∷ rest) None missing) ∙ marked))
      by_branches (branch n value below after) is name rest marked = ap has_branches is

  missing_below : (dir rest : Path) → get tree dir ≡ None → is_marked tree (dir ++ rest) ≡ false
  missing_below dir rest e = marked_at tree (dir ++ rest) None (get-append tree dir rest ∙ ap (option_and_then (λ n. get n rest)) e)

  pub leads-none : (dir : Path) → get tree dir ≡ None → leads_to_listed (marked_paths tree) dir ≡ false
  leads-none dir e = false_from_ne_true _ (λ h.
      let found = any_marked tree (is_below dir) h in let below = below_dir dir found.0 found.1.1 in
      false≢true (sym (missing_below dir (below.0 ∷ below.1.0) e) ∙ ap (is_marked tree) (sym below.1.1) ∙ found.1.0))

  pub leads_to-child : (dir : Path) (node : Tree Bool) (name : Name) → get tree dir ≡ Some node → child_satisfies has_children node.branches name ≡ leads_to_listed (marked_paths tree) (dir ++ name ∷ [])
  leads_to-child dir node name e = by_child (child node.branches name) (get-child tree node dir name e)
    where
      by_child : (o : Option (Tree Bool)) → get tree (dir ++ name ∷ []) ≡ o → option_satisfies has_children o ≡ leads_to_listed (marked_paths tree) (dir ++ name ∷ [])
      by_child None is = sym (leads-none (dir ++ name ∷ []) is)
      by_child (Some sub) is = sym (leads-get (dir ++ name ∷ []) sub is)

  pub wanted-child : (dir : Path) (node : Tree Bool) (name : Name) → get tree dir ≡ Some node → child_satisfies has_mark node.branches name ≡ is_listed (marked_paths tree) (dir ++ name ∷ [])
  wanted-child dir node name e = sym (is_listed-marked tree (dir ++ name ∷ []) ∙ marked_at tree (dir ++ name ∷ []) (child node.branches name) (get-child tree node dir name e))

  -- a node below the root is at or above a mark
  pub prefix-child : (dir : Path) (node : Tree Bool) (name : Name) → get tree dir ≡ Some node → child_satisfies any_node node.branches name ≡ leads_to_prefix (marked_paths tree) (dir ++ name ∷ [])
  prefix-child dir node name e = by_child (child node.branches name) (get-child tree node dir name e)
    where
      p : Path
      p = dir ++ name ∷ []

      there : (v : Bool) (b : Branches Bool) → get tree p ≡ Some (tree_of v b) → leads_to_prefix (marked_paths tree) p ≡ true
      there true b is = marked_any tree (is_at_or_below p) p (marked_at tree p (Some (tree_of true b)) is) (ap (is_at_or_below p) (sym (append-nil p)) ∙ is_at_or_below-append p [])
      there false none is = absurd (not_idle dir name is)
      there false (branch n u x y) is = let found = mark_below (branch n u x y) p false is refl in marked_any tree (is_at_or_below p) (p ++ found.0 ∷ found.1.0) found.1.1 (is_at_or_below-append p (found.0 ∷ found.1.0))

      by_child : (o : Option (Tree Bool)) → get tree p ≡ o → option_satisfies any_node o ≡ leads_to_prefix (marked_paths tree) p
      by_child None is = sym (false_from_ne_true _ (λ h.
          let found = any_marked tree (is_at_or_below p) h in let below = below_base p found.0 found.1.1 in
          false≢true (sym (missing_below p below.0 is) ∙ ap (is_marked tree) (sym below.1) ∙ found.1.0)))
      by_child (Some sub) is = sym (there sub.value sub.branches is)

  -- a node has children if and only if one of them is marked or has children
  files_or_dirs : (dir : Path) (v : Bool) (b : Branches Bool) → get tree dir ≡ Some (tree_of v b) → (any_child has_children b || any_child has_mark b) ≡ has_branches b
  files_or_dirs dir v none e = refl
  files_or_dirs dir v (branch n value below after) e = by_value value below (get-child tree (tree_of v (branch n value below after)) dir n e ∙ child-first n value below after)
    where
      by_value : (w : Bool) (b : Branches Bool) → get tree (dir ++ n ∷ []) ≡ Some (tree_of w b) → (any_child has_children (branch n w b after) || any_child has_mark (branch n w b after)) ≡ true
      by_value true b is = or_right (any_child has_children (branch n true b after)) _ refl
      by_value false none is = absurd (not_idle dir n is)
      by_value false (branch m u x y) is = refl

  nodes_or_marks : (b : Branches Bool) → (any_child any_node b || any_child has_mark b) ≡ has_branches b
  nodes_or_marks none = refl
  nodes_or_marks (branch n value below after) = refl

  -- the visits at a node are those of the list of marked paths
  pub files_are : (dir : Path) (node : Tree Bool) → get tree dir ≡ Some node → children_spec has_children has_mark node.branches ≡ files_spec (marked_paths tree) dir
  files_are dir node e =
      let some : (any_child has_children node.branches || any_child has_mark node.branches) ≡ leads_to_listed (marked_paths tree) dir = files_or_dirs dir node.value node.branches e ∙ sym (leads-get dir node e) in
      λ i. if some i then specific (λ name. leads_to-child dir node name e i) (λ name. wanted-child dir node name e i) else nothing

  pub no_files_are : (dir : Path) → get tree dir ≡ None → nothing ≡ files_spec (marked_paths tree) dir
  no_files_are dir e = ap (λ b. if b then specific (λ name. leads_to_listed (marked_paths tree) (dir ++ name ∷ [])) (λ name. is_listed (marked_paths tree) (dir ++ name ∷ [])) else nothing) (sym (leads-none dir e))

  abbrev visit_below : Path → VisitSpec
  visit_below dir = if leads_to_listed (marked_paths tree) dir then specific (λ name. leads_to_prefix (marked_paths tree) (dir ++ name ∷ [])) (λ name. is_listed (marked_paths tree) (dir ++ name ∷ [])) else nothing

  pub prefixes_are : (dir : Path) (node : Tree Bool) → get tree dir ≡ Some node → has_prefix (marked_paths tree) dir ≡ false → children_spec any_node has_mark node.branches ≡ prefix_spec (marked_paths tree) dir
  prefixes_are dir node e refused =
      let some : (any_child any_node node.branches || any_child has_mark node.branches) ≡ leads_to_listed (marked_paths tree) dir = nodes_or_marks node.branches ∙ sym (leads-get dir node e) in
      let named : children_spec any_node has_mark node.branches ≡ visit_below dir = λ i. if some i then specific (λ name. prefix-child dir node name e i) (λ name. wanted-child dir node name e i) else nothing in
      named ∙ ap (λ b. if b then all_recursively else visit_below dir) (sym refused)

  pub no_prefixes_are : (dir : Path) → get tree dir ≡ None → has_prefix (marked_paths tree) dir ≡ false → nothing ≡ prefix_spec (marked_paths tree) dir
  no_prefixes_are dir e refused =
      let none_below : nothing ≡ visit_below dir = ap (λ b. if b then specific (λ name. leads_to_prefix (marked_paths tree) (dir ++ name ∷ [])) (λ name. is_listed (marked_paths tree) (dir ++ name ∷ [])) else nothing) (sym (leads-none dir e)) in
      none_below ∙ ap (λ b. if b then all_recursively else visit_below dir) (sym refused)

-- a marked node on the way to a path is a marked ancestor
on_the_way : (path : Path) (tree : Tree Bool) → list_any (λ (step : Tree Bool × Path). step.0.value) (nodes_on tree path) ≡ true → (front : Path) × ((rest : Path) × ((path ≡ front ++ rest) × (is_marked tree front ≡ true)))
on_the_way [] tree h = ([], ([], (refl, elim (or_cases tree.value false h) [ inl e ↦ e | inr e ↦ absurd (false≢true e) ])))
on_the_way (name ∷ path) tree h =
    elim (or_cases tree.value _ h) [
      | inl e ↦ ([], (name ∷ path, (refl, e)))
      | inr e ↦ by_child (child tree.branches name) refl (on_the_way path) e
    ]
  where
    by_child : (o : Option (Tree Bool)) → child tree.branches name ≡ o → ((sub : Tree Bool) → list_any (λ (step : Tree Bool × Path). step.0.value) (nodes_on sub path) ≡ true → (front : Path) × ((rest : Path) × ((path ≡ front ++ rest) × (is_marked sub front ≡ true)))) →
        list_any (λ (step : Tree Bool × Path). step.0.value) (elim o [ None ↦ [] | Some sub ↦ nodes_on sub path ]) ≡ true → (front : Path) × ((rest : Path) × ((name ∷ path ≡ front ++ rest) × (is_marked tree front ≡ true)))
    by_child None is further e = absurd (false≢true e)
    by_child (Some sub) is further e =
        let found = further sub e in
        (name ∷ found.0, (found.1.0, (ap (λ l. name ∷ l) found.1.1.0, ap (λ o. unwrap_or (option_map (λ (node : Tree Bool). node.value) (option_and_then (λ n. get n found.0) o)) false) is ∙ found.1.1.1)))

pass_the_way : (front rest : Path) (tree : Tree Bool) → is_marked tree front ≡ true → list_any (λ (step : Tree Bool × Path). step.0.value) (nodes_on tree (front ++ rest)) ≡ true
pass_the_way [] [] tree h = or_left _ _ h
pass_the_way [] (name ∷ rest) tree h = or_left _ _ h
pass_the_way (name ∷ front) rest tree h = or_right tree.value _ (by_child (child tree.branches name) (pass_the_way front rest) h)
  where
    by_child : (o : Option (Tree Bool)) → ((sub : Tree Bool) → is_marked sub front ≡ true → list_any (λ (step : Tree Bool × Path). step.0.value) (nodes_on sub (front ++ rest)) ≡ true) →
        unwrap_or (option_map (λ (node : Tree Bool). node.value) (option_and_then (λ n. get n front) o)) false ≡ true → list_any (λ (step : Tree Bool × Path). step.0.value) (elim o [ None ↦ [] | Some sub ↦ nodes_on sub (front ++ rest) ]) ≡ true
    by_child None further e = absurd (false≢true e)
    by_child (Some sub) further e = further sub e

pub has_prefix-way : (tree : Tree Bool) (path : Path) → list_any (λ (step : Tree Bool × Path). step.0.value) (nodes_on tree path) ≡ has_prefix (marked_paths tree) path
has_prefix-way tree path =
    both_ways _ (has_prefix (marked_paths tree) path)
    (λ h. let found = on_the_way path tree h in marked_any tree (λ prefix. is_at_or_below prefix path) found.0 found.1.1.1 (ap (is_at_or_below found.0) found.1.1.0 ∙ is_at_or_below-append found.0 found.1.0))
    (λ h.
    let found = any_marked tree (λ prefix. is_at_or_below prefix path) h in
    let below = below_base found.0 path found.1.1 in
    ap (λ p. list_any (λ (step : Tree Bool × Path). step.0.value) (nodes_on tree p)) below.1 ∙ pass_the_way found.0 below.0 tree found.1.0)
