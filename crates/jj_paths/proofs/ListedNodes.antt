-- The preorder list of a tree contains a node with its path if and only if `get` finds it there.
use Rattle.std.proofs.Common.{◌≡◌, ◌⊎◌, inl, inr, zero, suc, Option, Some, None, Bool, true, false, [], ◌∷◌, ◌++◌, refl, ap, sym, subst, ◌∙◌, append_assoc, arith}
use mathlib.Core.Bool.{false≢true}
use Rattle.std.specs.Prelude.{◌↔◌, Contains}
use Rattle.std.specs.Ordering.{is_lt}
use Rattle.std.specs.Str.{bytes_eq}
use Rattle.std.specs.Option.{option_and_then}
use Rattle.std.specs.FinMap.Entries.{below_all}
use Rattle.std.proofs.lemmas.Bool.{and_parts}
use Rattle.std.proofs.lemmas.Option.{none-some}
use Rattle.std.proofs.lemmas.Slice.Eq.{bytes_eq-Decides}
use Rattle.std.proofs.lemmas.List.Elements.{Contains-append_left, Contains-append_right, Contains-append_cases}
use Rattle.jj_paths.specs.Paths.{Name, Path, name_cmp}
use Rattle.jj_paths.specs.Tree.{Tree, tree_of, Branches, none, branch, children, child, get, is_ordered}
use Rattle.jj_paths.specs.Nodes.{NodeAt, node_at, nodes_under, all_nodes}
use Rattle.jj_paths.proofs.Insertion.{differs, some_same}
use Rattle.jj_paths.proofs.PathOrders.{less_from_is_lt}
use Rattle.jj_paths.proofs.ChildLookup.{not_same}

pub nothing_there : {X : Type 0} (x : X) → Contains [] x → ⊥
nothing_there x (k, below, is) = absurd (omega arith)

pub the_one : {X : Type 0} (x y : X) → Contains (x ∷ []) y → y ≡ x
the_one x y (zero, below, is) = sym is
the_one x y (suc k, below, is) = absurd (omega arith)

module _ {V : Type 0} where
  -- the node at `name` and, relative to that, `rest`
  abbrev node_below : Branches V → Name → Path → Option (Tree V)
  node_below b name rest = option_and_then (λ sub. get sub rest) (child b name)

  -- the path is below the directory, and the node is there
  record LeadsTo (dir : Path) (b : Branches V) (path : Path) (node : Tree V) : Type 0 where
    name : Name
    rest : Path
    path_is : path ≡ dir ++ name ∷ rest
    there : node_below b name rest ≡ Some node

  -- no child has a name that is less than all names of the children
  not_among : (b : Branches V) (k : Name) → below_all name_cmp k (children b) ≡ true → child b k ≡ None
  not_among none k up = refl
  not_among (branch n value below after) k up =
      let parts = and_parts (is_lt (name_cmp k n)) (below_all name_cmp k (children after)) up in
      let other : bytes_eq n k ≡ false = differs n k (λ e. false≢true (sym (not_same k n n (less_from_is_lt _ parts.0) refl) ∙ (bytes_eq-Decides k n).1 e)) in
      rw other (not_among after k parts.1)

  -- every listed node is in the tree
  leads_to : (dir : Path) (b : Branches V) (path : Path) (node : Tree V) → is_ordered b ≡ true → Contains (nodes_under dir b) (node_at path node) → LeadsTo dir b path node
  leads_to dir none path node up listed = absurd (nothing_there (node_at path node) listed)
  leads_to dir (branch n value below after) path node up listed =
      let parts = and_parts (below_all name_cmp n (children after)) _ up in
      let both = and_parts (is_ordered below) (is_ordered after) parts.1 in
      by_first parts.0 (λ h. leads_to here below path node both.0 h) (λ h. leads_to dir after path node both.1 h) (Contains-append_cases (node_at here (tree_of value below) ∷ []) (nodes_under here below ++ nodes_under dir after) (node_at path node) listed)
    where
      here : Path
      here = dir ++ n ∷ []

      first : child (branch n value below after) n ≡ Some (tree_of value below)
      first = rw ((bytes_eq-Decides n n).1 refl)

      from_deep : LeadsTo here below path node → LeadsTo dir (branch n value below after) path node
      from_deep deep = record {
        name = n;
        rest = deep.name ∷ deep.rest;
        path_is = deep.path_is ∙ append_assoc dir (n ∷ []) (deep.name ∷ deep.rest);
        there = ap (λ o. option_and_then (λ sub. get sub (deep.name ∷ deep.rest)) o) first ∙ deep.there;
      }

      from_later : below_all name_cmp n (children after) ≡ true → LeadsTo dir after path node → LeadsTo dir (branch n value below after) path node
      from_later up later = record { name = later.name; rest = later.rest; path_is = later.path_is; there = by_name (bytes_eq n later.name) refl }
        where
          by_name : (t : Bool) → bytes_eq n later.name ≡ t → node_below (branch n value below after) later.name later.rest ≡ Some node
          by_name true is =
              let same : n ≡ later.name = (bytes_eq-Decides n later.name).0 is in
              let gone : child after later.name ≡ None = ap (child after) (sym same) ∙ not_among after n up in
              absurd (none-some _ (sym (ap (λ o. option_and_then (λ sub. get sub later.rest) o) gone) ∙ later.there))
          by_name false is = rw is later.there

      by_rest : below_all name_cmp n (children after) ≡ true → (Contains (nodes_under here below) (node_at path node) → LeadsTo here below path node) → (Contains (nodes_under dir after) (node_at path node) → LeadsTo dir after path node)
          → Contains (nodes_under here below) (node_at path node) ⊎ Contains (nodes_under dir after) (node_at path node) → LeadsTo dir (branch n value below after) path node
      by_rest up deep later (inl h) = from_deep (deep h)
      by_rest up deep later (inr h) = from_later up (later h)

      by_first : below_all name_cmp n (children after) ≡ true → (Contains (nodes_under here below) (node_at path node) → LeadsTo here below path node) → (Contains (nodes_under dir after) (node_at path node) → LeadsTo dir after path node)
          → Contains {X = NodeAt V} (node_at here (tree_of value below) ∷ []) (node_at path node) ⊎ Contains (nodes_under here below ++ nodes_under dir after) (node_at path node) → LeadsTo dir (branch n value below after) path node
      by_first up deep later (inl one) =
          let same = the_one (node_at here (tree_of value below)) (node_at path node) one in
          record {
            name = n;
            rest = [];
            path_is = ap (λ (x : NodeAt V). x.path) same;
            there = ap (λ o. option_and_then (λ sub. get sub []) o) first ∙ ap (λ (x : NodeAt V). Some x.node) (sym same);
          }
      by_first up deep later (inr h) = by_rest up deep later (Contains-append_cases (nodes_under here below) (nodes_under dir after) (node_at path node) h)

  -- every node of the tree is listed
  is_listed : (dir : Path) (b : Branches V) (name : Name) (rest : Path) (node : Tree V) → node_below b name rest ≡ Some node → Contains (nodes_under dir b) (node_at (dir ++ name ∷ rest) node)
  is_listed dir none name rest node there = absurd (none-some _ there)
  is_listed dir (branch n value below after) name rest node there =
      by_name (bytes_eq n name) refl (λ next more h. is_listed (dir ++ n ∷ []) below next more node h) (λ h. is_listed dir after name rest node h)
    where
      here : Path
      here = dir ++ n ∷ []

      Listed : Path → Type 0
      Listed path = Contains {X = NodeAt V} (node_at here (tree_of value below) ∷ (nodes_under here below ++ nodes_under dir after)) (node_at path node)

      past_first : (path : Path) → Contains (nodes_under here below ++ nodes_under dir after) (node_at path node) → Listed path
      past_first path h = Contains-append_right (node_at here (tree_of value below) ∷ []) (nodes_under here below ++ nodes_under dir after) (node_at path node) h

      by_rest : ((next : Name) (more : Path) → node_below below next more ≡ Some node → Contains (nodes_under here below) (node_at (here ++ next ∷ more) node)) → (r : Path) → get (tree_of value below) r ≡ Some node → Listed (dir ++ n ∷ r)
      by_rest deep [] at = (0, omega arith, ap (node_at here) (some_same at))
      by_rest deep (next ∷ more) at =
          past_first (dir ++ n ∷ next ∷ more)
          (Contains-append_left (nodes_under here below) (nodes_under dir after) (node_at (dir ++ n ∷ next ∷ more) node)
          (subst (λ p. Contains (nodes_under here below) (node_at p node)) (append_assoc dir (n ∷ []) (next ∷ more)) (deep next more at)))

      by_name : (t : Bool) → bytes_eq n name ≡ t → ((next : Name) (more : Path) → node_below below next more ≡ Some node → Contains (nodes_under here below) (node_at (here ++ next ∷ more) node))
          → (node_below after name rest ≡ Some node → Contains (nodes_under dir after) (node_at (dir ++ name ∷ rest) node)) → Listed (dir ++ name ∷ rest)
      by_name true is deep later =
          let at : get (tree_of value below) rest ≡ Some node = rw is at there in
          subst (λ k. Listed (dir ++ k ∷ rest)) ((bytes_eq-Decides n name).0 is) (by_rest deep rest at)
      by_name false is deep later =
          let at : node_below after name rest ≡ Some node = rw is at there in
          past_first (dir ++ name ∷ rest) (Contains-append_right (nodes_under here below) (nodes_under dir after) (node_at (dir ++ name ∷ rest) node) (later at))

  pub lists_nodes : (tree : Tree V) (path : Path) (node : Tree V) → is_ordered tree.branches ≡ true → Contains (all_nodes tree) (node_at path node) ↔ (get tree path ≡ Some node)
  lists_nodes tree path node up = (
    (λ listed. found (Contains-append_cases (node_at [] tree ∷ []) (nodes_under [] tree.branches) (node_at path node) listed)),
    (λ at. kept path at),
  )
    where
      found : Contains {X = NodeAt V} (node_at [] tree ∷ []) (node_at path node) ⊎ Contains (nodes_under [] tree.branches) (node_at path node) → get tree path ≡ Some node
      found (inl one) =
          let same = the_one (node_at [] tree) (node_at path node) one in
          ap (λ (x : NodeAt V). get tree x.path) same ∙ ap (λ (x : NodeAt V). Some x.node) (sym same)
      found (inr h) = let way = leads_to [] tree.branches path node up h in ap (get tree) way.path_is ∙ way.there

      kept : (p : Path) → get tree p ≡ Some node → Contains (all_nodes tree) (node_at p node)
      kept [] at = (0, omega arith, ap (node_at []) (some_same at))
      kept (name ∷ rest) at = Contains-append_right (node_at [] tree ∷ []) (nodes_under [] tree.branches) (node_at (name ∷ rest) node) (is_listed [] tree.branches name rest node at)
