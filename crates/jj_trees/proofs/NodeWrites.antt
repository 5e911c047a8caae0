-- The writes of trees for the directories of a trie: their run, the paths, and the trees that are at them.
use Rattle.std.proofs.Common.{◌≡◌, inl, inr, ℕ, ◌+◌, ◌<◌, Bool, true, false, List, [], ◌∷◌, ◌++◌, length, get_or, take, Option, Some, None, refl, sym, ap, subst, ◌∙◌, append_assoc, append-nil}
use Rattle.std.specs.Prelude.{Result, Ok, Err, IfOk, IfSome, IsOkAnd, All, Any, Contains, option_and_then, option_map}
use Rattle.std.specs.Map.{lookup}
use Rattle.std.specs.Str.{bytes_eq}
use Rattle.std.specs.FinMap.{is_sorted}
use Rattle.std.proofs.lemmas.List.{take_more}
use Rattle.std.proofs.lemmas.List.Elements.{All-nil, All-append, All-push, All-contains, All-weaker, Contains-append_left, Contains-append_right, Contains-push}
use Rattle.std.proofs.Math.Seq.{take-length}
use Rattle.std.proofs.lemmas.Slice.Eq.{bytes_eq-Decides}
use Rattle.jj_paths.specs.Paths.{Name, Path, IsBelow, name_cmp}
use Rattle.jj_paths.specs.Tree.{tree_of, none, branch, children, child, get, value_at}
use Rattle.jj_backend.proofs.BinarySearch.{value-at}
use Rattle.jj_backend.specs.Objects.{ById, Object, Objects, AddsTree, tree_object}
use Rattle.jj_backend.specs.Trees.{Entries}
use Rattle.jj_backend.specs.declared.backend.tree_value.TreeValue.{TreeValue}
use Rattle.jj_backend.specs.declared.backend.tree_value.TreeValue.TheVariants.{File, Symlink, Tree, GitSubmodule}
use Rattle.jj_backend.specs.declared.backend.errors.BackendError.{BackendError}
use Rattle.jj_trees.specs.WrittenTrees.{PathValues, stored_at}
use Rattle.jj_trees.specs.TreeWrites.{TreeWrite, IsAtPath, IsDirectory, IsRun, WritesDirectories}
use Rattle.jj_trees.specs.PathTries.{Node, Nodes, IsTrieOf, IsEntryValue, AreStored, IsStored, WritesNodes}
use Rattle.jj_trees.proofs.StoredTries.{adds_one, added_there, alike, directory_entry, AreAlike, IsNodeValue, stored_at-none, stored_at-tree}

-- an element with a property
pub any_of : {X : Type 0} (P : X → Type 0) (xs : List X) (x : X) → Contains xs x → P x → Any P xs
any_of P xs x c p = (c.0, x, c.1, c.2, p)

any_left : {X : Type 0} (P : X → Type 0) (xs ys : List X) → Any P xs → Any P (xs ++ ys)
any_left P xs ys h = any_of P (xs ++ ys) h.1 (Contains-append_left xs ys h.1 (h.0, h.2, h.3)) h.4

any_right : {X : Type 0} (P : X → Type 0) (xs ys : List X) → Any P ys → Any P (xs ++ ys)
any_right P xs ys h = any_of P (xs ++ ys) h.1 (Contains-append_right xs ys h.1 (h.0, h.2, h.3)) h.4

any_weaker : {X : Type 0} (P Q : X → Type 0) → ((x : X) → P x → Q x) → (xs : List X) → Any P xs → Any Q xs
any_weaker P Q to xs h = (h.0, h.1, h.2, h.3, to h.1 h.4)

-- values at paths stay with further trees
module _ (old new : ById Entries) (kept : (id : List ℕ) (entries : Entries) → old id ≡ Some entries → new id ≡ Some entries) where
  pub stored_at-kept : (path : Path) (o : Option TreeValue) (v : TreeValue) → stored_at old o path ≡ Some v → stored_at new o path ≡ Some v
  stored_at-kept [] o v is = is
  stored_at-kept (name ∷ rest) None v is = let e = stored_at-none old rest in absurd cc
  stored_at-kept (name ∷ rest) (Some (File id executable copy_id)) v is = let e = stored_at-none old rest in absurd cc
  stored_at-kept (name ∷ rest) (Some (Symlink id)) v is = let e = stored_at-none old rest in absurd cc
  stored_at-kept (name ∷ rest) (Some (GitSubmodule id)) v is = let e = stored_at-none old rest in absurd cc
  stored_at-kept (name ∷ rest) (Some (Tree id)) v is = by_tree (λ o h. stored_at-kept rest o v h) (old id) refl
    where
      by_tree : ((o : Option TreeValue) → stored_at old o rest ≡ Some v → stored_at new o rest ≡ Some v) → (found : Option Entries) → old id ≡ found
          → stored_at new (Some (Tree id)) (name ∷ rest) ≡ Some v
      by_tree hyp None at =
          let e : None ≡ Some v = sym (stored_at-none old rest) ∙ ap (λ (o : Option Entries). stored_at old (option_and_then (λ entries. lookup (bytes_eq name) entries) o) rest) (sym at) ∙ is in absurd cc
      by_tree hyp (Some entries) at =
          stored_at-tree new id entries name rest (kept id entries at) ∙ hyp (lookup (bytes_eq name) entries) (sym (stored_at-tree old id entries name rest at) ∙ is)

  pub at_path-kept : (root : List ℕ) (path : Path) (write : TreeWrite) → IsAtPath old root path write → IsAtPath new root path write
  at_path-kept root path (p, entries, Ok id) h = (stored_at-kept path (Some (Tree root)) (Tree id) h.0, kept id entries h.1)
  at_path-kept root path (p, entries, Err e) h = h

-- the write stored the tree that is at this path below a value
abbrev pub IsBelowValue : ById Entries → TreeValue → Path → TreeWrite → Type 0
IsBelowValue trees value path write = IsOkAnd write.2 (λ id. (stored_at trees (Some value) path ≡ Some (Tree id)) × (trees id ≡ Some write.1))

below_value-kept : (old new : ById Entries) → ((id : List ℕ) (entries : Entries) → old id ≡ Some entries → new id ≡ Some entries)
    → (value : TreeValue) (path : Path) (write : TreeWrite) → IsBelowValue old value path write → IsBelowValue new value path write
below_value-kept old new kept value path (p, entries, Ok id) h = (stored_at-kept old new kept path (Some value) (Tree id) h.0, kept id entries h.1)
below_value-kept old new kept value path (p, entries, Err e) h = h

-- the directories of a node
abbrev pub IsDirectoryOf : Path → Node → TreeWrite → Type 0
IsDirectoryOf dir node write = (rest : Path) × (write.0 ≡ dir ++ rest) × (value_at node rest ≡ Some None)

-- the write is one for a subdirectory of these entries
abbrev pub IsBelowEntry : ById Entries → Path → Entries → TreeWrite → Type 0
IsBelowEntry trees dir entries write = (name : Name) × (value : TreeValue) × (rest : Path) × (write.0 ≡ dir ++ name ∷ rest)
    × Contains entries (name, value) × IsBelowValue trees value rest write

-- every directory of the children was written
abbrev pub AreAllWritten : Path → List TreeWrite → Name × Node → Type 0
AreAllWritten dir writes x = (rest : Path) → value_at x.1 rest ≡ Some None → Any (λ write. write.0 ≡ dir ++ x.0 ∷ rest) writes

module _ {B : Type 0} (may_write : B → Path → Object → Result (List ℕ) BackendError → B → Type 0) where
  pub run-append : (a b c : B) (ws vs : List TreeWrite) → IsRun may_write a ws b → IsRun may_write b vs c → IsRun may_write a (ws ++ vs) c
  run-append a b c [] vs h k = subst (λ s. IsRun may_write s vs c) h k
  run-append a b c (w ∷ ws) vs h k = (h.0, h.1, run-append h.0 b c ws vs h.2 k)

  -- the writes for the first children, of which these are the entries
  pub record WritesChildren (trees : ById Entries) (dir : Path) (node : Node) (items : List (Name × Node)) (entries : Entries) (old new : B) : Type 0 where
    pub writes : List TreeWrite
    pub run : IsRun may_write old writes new
    pub directories : All (IsDirectoryOf dir node) writes
    pub below : All (IsBelowEntry trees dir entries) writes
    pub all : All (AreAllWritten dir writes) items

  pub no_children : (trees : ById Entries) (dir : Path) (node : Node) (b : B) → WritesChildren trees dir node [] [] b b
  no_children trees dir node b = record {
    writes = [];
    run = refl;
    directories = All-nil (IsDirectoryOf dir node);
    below = All-nil (IsBelowEntry trees dir []);
    all = All-nil (AreAllWritten dir []);
  }

  more_entries : (trees : ById Entries) (dir : Path) (es : Entries) (e : Name × TreeValue) (write : TreeWrite) → IsBelowEntry trees dir es write → IsBelowEntry trees dir (es ++ e ∷ []) write
  more_entries trees dir es e write h = (h.0, h.1, h.2, h.3, Contains-append_left es (e ∷ []) (h.0, h.1) h.4, h.5)

  -- a leaf has no directories
  leaf_all : (x : Name × Node) (v : TreeValue) (dir : Path) (writes : List TreeWrite) → x.1.value ≡ Some v → x.1.branches ≡ none → AreAllWritten dir writes x
  leaf_all x v dir writes value leaf [] is = let e : Some None ≡ Some (Some v) = sym is ∙ ap Some value in absurd cc
  leaf_all x v dir writes value leaf (name ∷ rest) is =
      let e : ◌≡◌ {A = Option (Option TreeValue)} None (Some None) = ap (λ b. value_at (tree_of x.1.value b) (name ∷ rest)) (sym leaf) ∙ is in absurd cc

  -- the directories of a child are directories of its node
  child_directory : (dir : Path) (node : Node) (x : Name × Node) (write : TreeWrite) → child node.branches x.0 ≡ Some x.1
      → IsDirectoryOf (dir ++ x.0 ∷ []) x.1 write → IsDirectoryOf dir node write
  child_directory dir node x write at h = (
    x.0 ∷ h.0,
    h.1 ∙ append_assoc dir (x.0 ∷ []) h.0,
    ap (λ (c : Option Node). option_map (λ sub. sub.value) (option_and_then (λ sub. get sub h.0) c)) at ∙ h.2,
  )

  -- after an error at a child or later
  pub stopped_below : (trees below : ById Entries) (dir path : Path) (node : Node) (items : List (Name × Node)) (es : Entries) (x : Name × Node) (old mid new : B) (r s : Result (List ℕ) BackendError) (e : BackendError)
      → r ≡ Err e → path ≡ dir ++ x.0 ∷ [] → child node.branches x.0 ≡ Some x.1 → WritesChildren trees dir node items es old mid → WritesNodes may_write below path x.1 mid new s
      → WritesNodes may_write below dir node old new r
  stopped_below trees below dir path node items es x old mid new r s e is at_path at h below_writes =
      let k = subst (λ p. WritesNodes may_write below p x.1 mid new s) at_path below_writes in
      subst (WritesNodes may_write below dir node old new) (sym is) (record {
        writes = h.writes ++ k.writes;
        run = run-append old mid new h.writes k.writes h.run k.run;
        directories = All-append (IsDirectoryOf dir node) h.writes k.writes h.directories
            (All-weaker (IsDirectoryOf (dir ++ x.0 ∷ []) x.1) (IsDirectoryOf dir node) (λ write. child_directory dir node x write at) k.writes k.directories);
        at_paths = tt;
        all = tt;
      })

  module _ (old_trees new_trees : ById Entries) (kept : (id : List ℕ) (entries : Entries) → old_trees id ≡ Some entries → new_trees id ≡ Some entries) (dir : Path) where
    later_below : (es more : Entries) (write : TreeWrite) → IsBelowEntry old_trees dir es write → IsBelowEntry new_trees dir (es ++ more) write
    later_below es more write h = (h.0, h.1, h.2, h.3, Contains-append_left es more (h.0, h.1) h.4, below_value-kept old_trees new_trees kept h.1 h.2 write h.5)

    later_all : (ws vs : List TreeWrite) (x : Name × Node) → AreAllWritten dir ws x → AreAllWritten dir (ws ++ vs) x
    later_all ws vs x h rest is = any_left (λ write. write.0 ≡ dir ++ x.0 ∷ rest) ws vs (h rest is)

    -- a child without children has no directories
    leaf_added : (node : Node) (items : List (Name × Node)) (es : Entries) (x : Name × Node) (v : TreeValue) (old now : B) → x.1.value ≡ Some v → x.1.branches ≡ none
        → WritesChildren old_trees dir node items es old now → WritesChildren new_trees dir node (items ++ x ∷ []) (es ++ (x.0, v) ∷ []) old now
    leaf_added node items es x v old now value leaf h = record {
      writes = h.writes;
      run = h.run;
      directories = h.directories;
      below = All-weaker (IsBelowEntry old_trees dir es) (IsBelowEntry new_trees dir (es ++ (x.0, v) ∷ [])) (later_below es ((x.0, v) ∷ [])) h.writes h.below;
      all = All-push (AreAllWritten dir h.writes) items x h.all (leaf_all x v dir h.writes value leaf);
    }

    -- the writes for a subdirectory come after the ones before
    directory_added : (node : Node) (items : List (Name × Node)) (es : Entries) (x : Name × Node) (id : List ℕ) (old mid new : B) → child node.branches x.0 ≡ Some x.1
        → WritesChildren old_trees dir node items es old mid → WritesNodes may_write new_trees (dir ++ x.0 ∷ []) x.1 mid new (Ok id)
        → WritesChildren new_trees dir node (items ++ x ∷ []) (es ++ (x.0, Tree id) ∷ []) old new
    directory_added node items es x id old mid new at h k =
        let entries : Entries = es ++ (x.0, Tree id) ∷ [] in
        let P : TreeWrite → Type 0 = λ write. (rest : Path) × (write.0 ≡ (dir ++ x.0 ∷ []) ++ rest) × IsAtPath new_trees id rest write in
        record {
          writes = h.writes ++ k.writes;
          run = run-append old mid new h.writes k.writes h.run k.run;
          directories = All-append (IsDirectoryOf dir node) h.writes k.writes h.directories
              (All-weaker (IsDirectoryOf (dir ++ x.0 ∷ []) x.1) (IsDirectoryOf dir node) (λ write. child_directory dir node x write at) k.writes k.directories);
          below = All-append (IsBelowEntry new_trees dir entries) h.writes k.writes
              (All-weaker (IsBelowEntry old_trees dir es) (IsBelowEntry new_trees dir entries) (later_below es ((x.0, Tree id) ∷ [])) h.writes h.below)
              (All-weaker P (IsBelowEntry new_trees dir entries)
              (λ write a. (x.0, Tree id, a.0, a.1 ∙ append_assoc dir (x.0 ∷ []) a.0, Contains-push es (x.0, Tree id), a.2)) k.writes k.at_paths);
          all = All-push (AreAllWritten dir (h.writes ++ k.writes)) items x
              (All-weaker (AreAllWritten dir h.writes) (AreAllWritten dir (h.writes ++ k.writes)) (later_all h.writes k.writes) items h.all)
              (λ rest is. any_right (λ write. write.0 ≡ dir ++ x.0 ∷ rest) h.writes k.writes
              (any_weaker (λ write. write.0 ≡ (dir ++ x.0 ∷ []) ++ rest) (λ write. write.0 ≡ dir ++ x.0 ∷ rest) (λ write e. e ∙ append_assoc dir (x.0 ∷ []) rest) k.writes (k.all rest is)));
        }

  -- ---- one more child in the loop over them

  module _ (dir : Path) (node : Node) (i : ℕ) (x : Name × Node) (lt : i < length (children node.branches)) (is : get_or (children node.branches) i x ≡ x) where
    more_items : take i (children node.branches) ++ x ∷ [] ≡ take (i + 1) (children node.branches)
    more_items = ap (λ y. take i (children node.branches) ++ y ∷ []) (sym is) ∙ sym (take_more (children node.branches) i x lt)

    pub leaf_next : (trees : ById Entries) (es es' : Entries) (o : Option TreeValue) (v : TreeValue) (old now : B) → o ≡ x.1.value → o ≡ Some v → IfSome o (λ _. x.1.branches ≡ none)
        → es' ≡ es ++ (x.0, v) ∷ [] → WritesChildren trees dir node (take i (children node.branches)) es old now
        → WritesChildren trees dir node (take (i + 1) (children node.branches)) es' old now
    leaf_next trees es es' o v old now value some leaf pushed h =
        subst (λ l. WritesChildren trees dir node l es' old now) more_items
        (subst (λ l. WritesChildren trees dir node (take i (children node.branches) ++ x ∷ []) l old now) (sym pushed)
        (leaf_added trees trees (λ id entries e. e) dir node (take i (children node.branches)) es x v old now (sym value ∙ some) (subst (λ q. IfSome q (λ _. x.1.branches ≡ none)) some leaf) h))

    pub directory_next : (old_trees new_trees : ById Entries) (kept : (id : List ℕ) (entries : Entries) → old_trees id ≡ Some entries → new_trees id ≡ Some entries)
        (path : Path) (es es' : Entries) (id : List ℕ) (old mid new : B) → path ≡ dir ++ x.0 ∷ [] → child node.branches x.0 ≡ Some x.1
        → es' ≡ es ++ (x.0, Tree id) ∷ [] → WritesChildren old_trees dir node (take i (children node.branches)) es old mid → WritesNodes may_write new_trees path x.1 mid new (Ok id)
        → WritesChildren new_trees dir node (take (i + 1) (children node.branches)) es' old new
    directory_next old_trees new_trees kept path es es' id old mid new at_path at pushed h k =
        subst (λ l. WritesChildren new_trees dir node l es' old new) more_items
        (subst (λ l. WritesChildren new_trees dir node (take i (children node.branches) ++ x ∷ []) l old new) (sym pushed)
        (directory_added old_trees new_trees kept dir node (take i (children node.branches)) es x id old mid new at h
        (subst (λ p. WritesNodes may_write new_trees p x.1 mid new (Ok id)) at_path k)))

  -- ---- the write of the directory itself

  child_contained : (b : Nodes) (name : Name) (sub : Node) → child b name ≡ Some sub → Contains (children b) (name, sub)
  child_contained none name sub is = absurd cc
  child_contained (branch n value below after) name sub is = by_test (λ h. child_contained after name sub h) (bytes_eq n name) refl
    where
      by_test : (child after name ≡ Some sub → Contains (children after) (name, sub)) → (t : Bool) → bytes_eq n name ≡ t → Contains (children (branch n value below after)) (name, sub)
      by_test hyp true h =
          let same : n ≡ name = (bytes_eq-Decides n name).0 h in
          let e : Some (tree_of value below) ≡ Some sub = rw h at is in
          let f : tree_of value below ≡ sub = cc in
          let first : Name × Node = (n, tree_of value below) in
          subst (Contains (children (branch n value below after))) (λ i. (same i, f i)) (Contains-append_left (first ∷ []) (children after) first (Contains-push [] first))
      by_test hyp false h = Contains-append_right ((n, tree_of value below) ∷ []) (children after) (name, sub) (hyp (rw h at is))

  -- the value of an entry of a tree
  found : (entries : Entries) (name : Name) (value : TreeValue) → is_sorted name_cmp entries ≡ true → Contains entries (name, value) → lookup (bytes_eq name) entries ≡ Some value
  found entries name value sorted c =
      value-at entries name c.0 (name, value) sorted c.1 (ap (λ (e : Name × TreeValue). e.0) c.2) ∙ ap (λ (e : Name × TreeValue). Some e.1) c.2

  at_entry : (trees : ById Entries) (id : List ℕ) (entries : Entries) (dir : Path) (write : TreeWrite) → trees id ≡ Some entries → is_sorted name_cmp entries ≡ true
      → IsBelowEntry trees dir entries write → (rest : Path) × (write.0 ≡ dir ++ rest) × IsAtPath trees id rest write
  at_entry trees id entries dir (p, es, Ok t) there sorted h = (
    h.0 ∷ h.2,
    h.3,
    (
      stored_at-tree trees id entries h.0 h.2 there ∙ ap (λ o. stored_at trees o h.2) (found entries h.0 h.1 sorted h.4) ∙ h.5.0,
      h.5.1,
    ),
  )
  at_entry trees id entries dir (p, es, Err e) there sorted h = absurd h.5

  -- the tree of the directory itself is written last
  pub all_written : (old_objects new_objects : Objects) (dir : Path) (node : Node) (n : ℕ) (entries tree : Entries) (old mid new : B) (r : Result (List ℕ) BackendError) → node.value ≡ None → n ≡ length (children node.branches) → tree ≡ entries
      → is_sorted name_cmp entries ≡ true → IfOk r (λ id. AddsTree old_objects new_objects id tree) → may_write mid dir (tree_object tree) r new
      → WritesChildren old_objects.trees dir node (take n (children node.branches)) entries old mid → WritesNodes may_write new_objects.trees dir node old new r
  all_written old_objects new_objects dir node n entries tree old mid new r value every_child same sorted added may first = by_result r added may
    where
      h : WritesChildren old_objects.trees dir node (children node.branches) entries old mid
      h = subst (λ l. WritesChildren old_objects.trees dir node l entries old mid) (ap (λ k. take k (children node.branches)) every_child ∙ take-length (children node.branches)) first

      runs : (s : Result (List ℕ) BackendError) → may_write mid dir (tree_object tree) s new → IsRun may_write old (h.writes ++ (dir, tree, s) ∷ []) new
      runs s w = run-append old mid new h.writes ((dir, tree, s) ∷ []) h.run (new, w, refl)

      of_directories : (s : Result (List ℕ) BackendError) → All (IsDirectoryOf dir node) (h.writes ++ (dir, tree, s) ∷ [])
      of_directories s = All-push (IsDirectoryOf dir node) h.writes (dir, tree, s) h.directories ([], sym (append-nil dir), ap Some value)

      by_result : (s : Result (List ℕ) BackendError) → IfOk s (λ id. AddsTree old_objects new_objects id tree) → may_write mid dir (tree_object tree) s new → WritesNodes may_write new_objects.trees dir node old new s
      by_result (Err e) add w = record { writes = h.writes ++ (dir, tree, Err e) ∷ []; run = runs (Err e) w; directories = of_directories (Err e); at_paths = tt; all = tt }
      by_result (Ok id) add w =
          let there : new_objects.trees id ≡ Some tree = added_there old_objects new_objects id tree add in
          let kept = (adds_one old_objects new_objects id tree add).kept in
          let P : TreeWrite → Type 0 = λ write. (rest : Path) × (write.0 ≡ dir ++ rest) × IsAtPath new_objects.trees id rest write in
          record {
            writes = h.writes ++ (dir, tree, Ok id) ∷ [];
            run = runs (Ok id) w;
            directories = of_directories (Ok id);
            at_paths = All-push P h.writes (dir, tree, Ok id)
                (All-weaker (IsBelowEntry old_objects.trees dir entries) P
                (λ write a. at_entry new_objects.trees id entries dir write (there ∙ ap Some same) sorted
                (a.0, a.1, a.2, a.3, a.4, below_value-kept old_objects.trees new_objects.trees kept a.1 a.2 write a.5)) h.writes h.below)
                ([], sym (append-nil dir), (refl, there));
            all = every (dir, tree, Ok id) refl;
          }
        where
          every : (write : TreeWrite) → write.0 ≡ dir → (rest : Path) → value_at node rest ≡ Some None → Any (λ w. w.0 ≡ dir ++ rest) (h.writes ++ write ∷ [])
          every write at_dir [] is = any_of (λ w. w.0 ≡ dir ++ []) (h.writes ++ write ∷ []) write (Contains-push h.writes write) (at_dir ∙ sym (append-nil dir))
          every write at_dir (name ∷ rest) is = by_child (child node.branches name) refl
            where
              by_child : (c : Option Node) → child node.branches name ≡ c → Any (λ w. w.0 ≡ dir ++ name ∷ rest) (h.writes ++ write ∷ [])
              by_child None at =
                  let e : ◌≡◌ {A = Option (Option TreeValue)} None (Some None) = ap (λ (c : Option Node). option_map (λ sub. sub.value) (option_and_then (λ sub. get sub rest) c)) (sym at) ∙ is in absurd cc
              by_child (Some sub) at =
                  let below : value_at sub rest ≡ Some None = ap (λ (c : Option Node). option_map (λ sub. sub.value) (option_and_then (λ sub. get sub rest) c)) (sym at) ∙ is in
                  let there = child_contained node.branches name sub at in
                  any_left (λ w. w.0 ≡ dir ++ name ∷ rest) h.writes (write ∷ []) (All-contains (AreAllWritten dir h.writes) (children node.branches) (name, sub) h.all there rest below)

-- ---- the whole trie

module _ (trees : ById Entries) where
  above_leaf : (o : Option TreeValue) (below : Nodes) (P : Entries → Type 0) (w v : TreeValue) (name : Name) (rest : Path) → IsEntryValue trees o below P w
      → value_at (tree_of o below) (name ∷ rest) ≡ Some (Some v) → Some o ≡ Some None
  above_leaf None below P w v name rest h is = refl
  above_leaf (Some u) below P w v name rest h is =
      let e : None ≡ Some (Some v) = subst (λ b. value_at (tree_of (Some u) b) (name ∷ rest) ≡ Some (Some v)) h.0 is in absurd cc

  -- an ancestor of a value is a directory
  abbrev Above : Path → Type 0
  Above path = (node : Node) (w v : TreeValue) (name : Name) (rest : Path) → IsNodeValue trees node w → value_at node (path ++ name ∷ rest) ≡ Some (Some v) → value_at node path ≡ Some None

  above-below : (n : Name) (path : Path) → Above path → (o : Option TreeValue) (below : Nodes) (w v : TreeValue) (name : Name) (rest : Path) → IsEntryValue trees o below (AreStored trees below) w
      → value_at (tree_of o below) (n ∷ path ++ name ∷ rest) ≡ Some (Some v) → value_at (tree_of o below) (n ∷ path) ≡ Some None
  above-below n path hyp (Some u) below w v name rest h is =
      let e : None ≡ Some (Some v) = subst (λ b. value_at (tree_of (Some u) b) (n ∷ path ++ name ∷ rest) ≡ Some (Some v)) h.0 is in absurd cc
  above-below n path hyp None below w v name rest h is = by_child (child below n) (lookup (bytes_eq n) h.1) (alike trees below h.1 n h.4) is
    where
      by_child : (c : Option Node) (x : Option TreeValue) → AreAlike trees c x → option_map (λ node. node.value) (option_and_then (λ sub. get sub (path ++ name ∷ rest)) c) ≡ Some (Some v)
          → option_map (λ node. node.value) (option_and_then (λ sub. get sub path) c) ≡ Some None
      by_child None None like is' = absurd cc
      by_child None (Some y) like is' = absurd like
      by_child (Some c) None like is' = absurd like
      by_child (Some c) (Some y) like is' = hyp c y v name rest like is'

  above : (path : Path) → Above path
  above [] node w v name rest h is = above_leaf node.value node.branches (AreStored trees node.branches) w v name rest h is
  above (n ∷ path) node w v name rest h is = above-below n path (above path) node.value node.branches w v name rest h is

module _ (values : PathValues) (trie : Node) (of : IsTrieOf values trie) where
  -- a directory of the trie is one of the values
  of_values : (path : Path) → value_at trie path ≡ Some None → IsDirectory values path
  of_values [] is = inl refl
  of_values (name ∷ rest) is = by_value (of.directory name rest is)
    where
      by_value : (v : Path × TreeValue) × Contains values v × IsBelow v.0 (name ∷ rest) → IsDirectory values (name ∷ rest)
      by_value (v, c, ([], e)) =
          let same : v ≡ (name ∷ rest, v.1) = λ i. ((e ∙ append-nil (name ∷ rest)) i, v.1) in
          let there : Some None ≡ Some (Some v.1) = sym is ∙ of.has (name ∷ rest) v.1 (subst (Contains values) same c) in
          absurd cc
      by_value (v, c, (n ∷ more, e)) = inr (any_of (λ v. (n : Name) × (more : Path) × (v.0 ≡ (name ∷ rest) ++ n ∷ more)) values v c (n, more, e))

  -- a directory of the values is one of the trie, if the trie was written
  in_trie : (trees : ById Entries) (id : List ℕ) (path : Path) → IsStored trees trie.branches id → IsDirectory values path → value_at trie path ≡ Some None
  in_trie trees id path stored (inl root) = ap (value_at trie) root ∙ ap Some of.root
  in_trie trees id path stored (inr v) =
      above trees path trie (Tree id) v.1.1 v.4.0 v.4.1 (directory_entry trees trie.value trie.branches id (sym of.root) stored)
      (ap (value_at trie) (sym v.4.2) ∙ of.has v.1.0 v.1.1 (v.0, v.2, v.3))

  -- the writes of the trie are those of the values
  pub of_trie : {B : Type 0} (may_write : B → Path → Object → Result (List ℕ) BackendError → B → Type 0) (trees : ById Entries) (dir : Path) (old new : B) (r : Result (List ℕ) BackendError) → dir ≡ []
      → IfOk r (IsStored trees trie.branches) → WritesNodes may_write trees dir trie old new r → WritesDirectories may_write trees values old new r
  of_trie may_write trees dir old new r root stored h = by_result r stored (subst (λ d. WritesNodes may_write trees d trie old new r) root h)
    where
      of_writes : (ws : List TreeWrite) → All (λ write. (rest : Path) × (write.0 ≡ rest) × (value_at trie rest ≡ Some None)) ws → All (λ write. IsDirectory values write.0) ws
      of_writes ws = All-weaker (λ write. (rest : Path) × (write.0 ≡ rest) × (value_at trie rest ≡ Some None)) (λ write. IsDirectory values write.0) (λ write a. subst (IsDirectory values) (sym a.1) (of_values a.0 a.2)) ws

      by_result : (s : Result (List ℕ) BackendError) → IfOk s (IsStored trees trie.branches) → WritesNodes may_write trees [] trie old new s → WritesDirectories may_write trees values old new s
      by_result (Err e) there k = record { writes = k.writes; run = k.run; directories = of_writes k.writes k.directories; at_paths = tt; all = tt }
      by_result (Ok id) there k = record {
        writes = k.writes;
        run = k.run;
        directories = of_writes k.writes k.directories;
        at_paths = All-weaker (λ write. (rest : Path) × (write.0 ≡ rest) × IsAtPath trees id rest write) (λ write. IsAtPath trees id write.0 write)
            (λ write a. subst (λ p. IsAtPath trees id p write) (sym a.1) a.2) k.writes k.at_paths;
        all = λ path is. k.all path (in_trie trees id path there is);
      }
