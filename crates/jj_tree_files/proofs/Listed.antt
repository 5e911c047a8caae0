-- The files of a directory: those of its entries, and none below what is not visited.
use Rattle.std.proofs.Common.{◌≡◌, ◌∙◌, ℕ, ◌+◌, Bool, true, false, cond, List, [], ◌∷◌, ◌++◌, map, Option, Some, None, refl, sym, ap, subst, append-nil, append_assoc, if◌then◌else◌, true≢false}
use Rattle.std.specs.Prelude.{All, Contains, IsSome, IsSomeAnd, Result, Ok}
use Rattle.std.specs.Map.{lookup}
use Rattle.std.specs.FinMap.{is_sorted}
use Rattle.std.specs.FinMap.Entries.{below_all}
use Rattle.std.specs.Ordering.{is_lt}
use Rattle.std.specs.Str.{bytes_eq}
use Rattle.std.specs.declared.cmp.Ordering.{Ordering}
use Rattle.std.specs.declared.cmp.Ordering.TheVariants.{Less, Equal, Greater}
use Rattle.std.proofs.lemmas.Bool.{and_parts}
use Rattle.std.proofs.lemmas.List.{map-append}
use Rattle.std.proofs.lemmas.List.Elements.{All-nil, All-cons}
use Rattle.std.proofs.lemmas.Map.Views.{Contains-keys_from_lookup}
use Rattle.std.proofs.lemmas.Option.{none-some, same_Some}
use Rattle.std.proofs.lemmas.Slice.Eq.{bytes_eq-Decides}
use Rattle.jj_paths.specs.Paths.{Name, Path, name_cmp}
use Rattle.jj_backend.specs.Objects.{ById}
use Rattle.jj_backend.specs.Trees.{Entries}
use Rattle.jj_backend.specs.declared.backend.errors.BackendError.{BackendError}
use Rattle.jj_backend.specs.declared.backend.tree_value.TreeValue.{TreeValue}
use Rattle.jj_backend.specs.declared.backend.tree_value.TreeValue.TheVariants.{File, Symlink, Tree, GitSubmodule}
use Rattle.jj_trees.specs.DirectoryMerges.{IsListOf}
use Rattle.jj_trees.specs.TreeMerges.{child}
use Rattle.jj_trees.specs.WrittenTrees.{stored_at}
use Rattle.jj_trees.proofs.Joining.{under}
use Rattle.jj_trees.proofs.Merging.{one_list, no_list}
use Rattle.jj_matchers.specs.VisitSpecs.{IsSound, VisitSpec, all_recursively, specific, nothing}
use Rattle.jj_matchers.specs.Walk.{is_entered, walk_enters}
use Rattle.jj_matchers.specs.WalkInvariants.{DeterminesWalk}
use Rattle.jj_matchers.proofs.WalkSteps.{root_goes_on}
use Rattle.jj_tree_builder.specs.Changes.{file_of, files_at}
use Rattle.jj_tree_builder.proofs.ChangedFiles.{files_at-none}
use Rattle.jj_tree_builder.proofs.EntryMaps.{child_at, earlier_absent}
use Rattle.jj_tree_files.specs.Listings.{IsFileBelow}
use Rattle.jj_tree_files.specs.Walked.{IsWalked}
use Rattle.jj_tree_files.specs.Walks.{IsEntered, IsReadIfEntered, IsWalkError}
use Rattle.jj_tree_files.proofs.Walked.{Passed, passed_more, passed_all, reads_below, read_at, fails_below, from_root}

-- ---- names of sorted entries

less_from : (r : Ordering) → is_lt r ≡ true → r ≡ Less
less_from Less e = refl
less_from Equal e = absurd (true≢false (sym e))
less_from Greater e = absurd (true≢false (sym e))

below_last : (n : Name) (xs es : Entries) (e : Name × TreeValue) → below_all name_cmp n (xs ++ e ∷ es) ≡ true → is_lt (name_cmp n e.0) ≡ true
below_last n [] es e h = (and_parts _ _ h).0
below_last n (x ∷ xs) es e h = below_last n xs es e (and_parts _ _ h).1

abbrev pub names_of : Entries → List Name
names_of entries = map (λ e. e.0) entries

pub names_above : (xs es : Entries) (e : Name × TreeValue) → is_sorted name_cmp (xs ++ e ∷ es) ≡ true → All (λ m. name_cmp m e.0 ≡ Less) (names_of xs)
names_above [] es e sorted = All-nil (λ m. name_cmp m e.0 ≡ Less)
names_above (x ∷ xs) es e sorted =
    let p = and_parts _ _ sorted in
    All-cons (λ m. name_cmp m e.0 ≡ Less) x.0 (names_of xs) (less_from (name_cmp x.0 e.0) (below_last x.0 xs es e p.0)) (names_above xs es e p.1)

-- an entry of a sorted list is found by its name
lookup_past : (test : Name → Bool) (xs ys : Entries) → lookup test xs ≡ None → lookup test (xs ++ ys) ≡ lookup test ys
lookup_past test [] ys h = refl
lookup_past test (x ∷ xs) ys h = by_test (lookup_past test xs ys) (test x.0) h
  where
    by_test : (lookup test xs ≡ None → lookup test (xs ++ ys) ≡ lookup test ys) → (t : Bool) → cond t (Some x.1) (lookup test xs) ≡ None
        → cond t (Some x.1) (lookup test (xs ++ ys)) ≡ lookup test ys
    by_test rest true e = absurd (none-some x.1 (sym e))
    by_test rest false e = rest e

pub lookup_here : (xs es : Entries) (e : Name × TreeValue) → is_sorted name_cmp (xs ++ e ∷ es) ≡ true → lookup (bytes_eq e.0) (xs ++ e ∷ es) ≡ Some e.1
lookup_here xs es e sorted =
    lookup_past (bytes_eq e.0) xs (e ∷ es) (earlier_absent xs es e sorted)
    ∙ ap (λ b. cond b (Some e.1) (lookup (bytes_eq e.0) es)) ((bytes_eq-Decides e.0 e.0).1 refl)

-- a visit other than `nothing` enters a directory
pub not_nothing : (known : VisitSpec) → (known ≡ nothing → ⊥) → is_entered known ≡ true
not_nothing all_recursively h = refl
not_nothing (specific dirs files) h = refl
not_nothing nothing h = absurd (h refl)

-- ---- values below a name

tree_id : TreeValue → List ℕ
tree_id (Tree id) = id
tree_id (File id executable copy_id) = []
tree_id (Symlink id) = []
tree_id (GitSubmodule id) = []

same_id : (i j : List ℕ) → Some (Tree i) ≡ Some (Tree j) → i ≡ j
unfolding tree_id
same_id i j h = ap tree_id (same_Some (Tree i) (Tree j) h)

module _ (trees : ById Entries) where
  pub stored_at-none : (path : Path) → stored_at trees None path ≡ None
  stored_at-none [] = refl
  stored_at-none (name ∷ path) = stored_at-none path

  some_below : (o : Option TreeValue) (path : Path) (v : TreeValue) → stored_at trees o path ≡ Some v → IsSome o
  some_below None path v h = absurd (none-some v (sym (stored_at-none path) ∙ h))
  some_below (Some w) path v h = refl

  some_file : (o : Option TreeValue) (path : Path) (v : TreeValue) → files_at trees o path ≡ Some v → IsSome o
  some_file None path v h = absurd (none-some v (sym (files_at-none trees path) ∙ h))
  some_file (Some w) path v h = refl

  module _ (id : List ℕ) (tree : Entries) (is : trees id ≡ Some tree) where
    named : (name : Name) → IsSome (child trees name (Some (Tree id))) → Contains (names_of tree) name
    named name h = Contains-keys_from_lookup (λ x y. (bytes_eq-Decides x y).0) name tree (subst IsSome (child_at trees id tree name is) h)

    pub named_value : (name : Name) (path : Path) (v : TreeValue) → stored_at trees (Some (Tree id)) (name ∷ path) ≡ Some v → Contains (names_of tree) name
    named_value name path v h = named name (some_below (child trees name (Some (Tree id))) path v h)

    pub named_file : (name : Name) (path : Path) (v : TreeValue) → files_at trees (Some (Tree id)) (name ∷ path) ≡ Some v → Contains (names_of tree) name
    named_file name path v h = named name (some_file (child trees name (Some (Tree id))) path v h)

-- a value that is not a directory has nothing below it
module _ (trees : ById Entries) (value : TreeValue) (no_directory : file_of (Some value) ≡ Some value) where
  nothing_in : (v : TreeValue) → file_of (Some v) ≡ Some v → (name : Name) → child trees name (Some v) ≡ None
  nothing_in (Tree id) h name = absurd (none-some (Tree id) h)
  nothing_in (File id executable copy_id) h name = refl
  nothing_in (Symlink id) h name = refl
  nothing_in (GitSubmodule id) h name = refl

  pub not_below : (name : Name) (path : Path) → stored_at trees (Some value) (name ∷ path) ≡ None
  not_below name path = ap (λ o. stored_at trees o path) (nothing_in value no_directory name) ∙ stored_at-none trees path

  pub not_directory : (path : Path) (id : List ℕ) → stored_at trees (Some value) path ≡ Some (Tree id) → ⊥
  not_directory [] id h =
      let same : file_of (Some value) ≡ file_of (Some (Tree id)) = ap file_of h in
      none-some value (sym same ∙ no_directory)
  not_directory (name ∷ path) id h = none-some (Tree id) (sym (not_below name path) ∙ h)

module _ (trees : ById Entries) (accepts : Path → Bool) (visits : Path → VisitSpec) where
  abbrev pub NotEntered : Path → Option TreeValue → Path → Type 0
  NotEntered dir value path = (id : List ℕ) → IsEntered trees visits dir value path id → ⊥

  abbrev pub IsEntry : Path → Option TreeValue → List (Path × TreeValue) → List (Path × TreeValue) → Type 0
  IsEntry dir value old new = IsWalked (IsFileBelow trees accepts dir value) (NotEntered dir value) dir old new

  -- ---- one entry

  -- a file is appended if its path is accepted
  pub file_listed : (dir : Path) (value : TreeValue) (old new : List (Path × TreeValue)) → file_of (Some value) ≡ Some value
      → new ≡ old ++ (if accepts dir then (dir, value) ∷ [] else []) → IsEntry dir (Some value) old new
  file_listed dir value old new no_directory h = by (accepts dir) refl
    where
      same : (path : Path) (file : TreeValue) → IsFileBelow trees accepts dir (Some value) path file → (path ≡ []) × (file ≡ value)
      same [] file is = (refl, same_Some file value (sym is.0 ∙ no_directory))
      same (name ∷ path) file is = absurd (none-some file (sym (ap file_of (not_below trees value no_directory name path)) ∙ is.0))

      at : accepts (dir ++ []) ≡ accepts dir
      at = ap accepts (append-nil dir)

      never : accepts dir ≡ false → (path : Path) (file : TreeValue) → IsFileBelow trees accepts dir (Some value) path file → ⊥
      never e path file is =
          let empty = (same path file is).0 in
          true≢false (sym (subst (λ p. accepts (dir ++ p) ≡ true) empty is.1) ∙ at ∙ e)

      read : (path : Path) → NotEntered dir (Some value) path
      read path = λ id entered. (not_directory trees value no_directory path id entered.0)

      by : (b : Bool) → accepts dir ≡ b → IsEntry dir (Some value) old new
      by true e = record {
        entries = ([], value) ∷ [];
        exactly = one_list (IsFileBelow trees accepts dir (Some value)) value (no_directory, at ∙ e) same;
        added = h ∙ ap (λ b. old ++ (if b then (dir, value) ∷ [] else [])) e ∙ ap (λ p. old ++ (p, value) ∷ []) (sym (append-nil dir));
        read = read;
      }
      by false e = record {
        entries = [];
        exactly = no_list (IsFileBelow trees accepts dir (Some value)) (never e);
        added = h ∙ ap (λ b. old ++ (if b then (dir, value) ∷ [] else [])) e;
        read = read;
      }

  -- nothing is accepted below a directory with the visit `nothing`, and none is entered
  pub nothing_listed : (opens : Path → Bool) (dir : Path) (id : List ℕ) (old new : List (Path × TreeValue)) → new ≡ old
      → DeterminesWalk accepts opens visits dir nothing → IsEntry dir (Some (Tree id)) old new
  nothing_listed opens dir id old new same walk = record {
    entries = [];
    exactly = no_list (IsFileBelow trees accepts dir (Some (Tree id))) never;
    added = same ∙ sym (append-nil old);
    read = λ path. λ other entered. not_entered path entered.1;
  }
    where
      never : (path : Path) (file : TreeValue) → IsFileBelow trees accepts dir (Some (Tree id)) path file → ⊥
      never [] file is = none-some file is.0
      never (name ∷ path) file is = true≢false (sym is.1 ∙ walk.sound name path)

      not_entered : (path : Path) → walk_enters visits [] (dir ++ path) ≡ true → ⊥
      not_entered [] h = true≢false (sym h ∙ ap (walk_enters visits []) (append-nil dir) ∙ walk.itself)
      not_entered (name ∷ path) h = true≢false (sym h ∙ walk.below name path)

module _ (trees : ById Entries) (accepts : Path → Bool) (visits : Path → VisitSpec) (may_read_tree : Path → List ℕ → Result Entries BackendError → Type 0) where
  abbrev pub IsRead : Path → Option TreeValue → Path → Type 0
  IsRead dir value = IsReadIfEntered trees may_read_tree (IsEntered trees visits dir value) dir

  abbrev pub IsFiles : Path → Option TreeValue → List (Path × TreeValue) → List (Path × TreeValue) → Type 0
  IsFiles dir value old new = IsWalked (IsFileBelow trees accepts dir value) (IsRead dir value) dir old new

  abbrev pub FilesPassed : Path → Option TreeValue → List Name → List (Path × TreeValue) → List (Path × TreeValue) → Type 0
  FilesPassed dir value names old new = Passed (IsFileBelow trees accepts dir value) (IsRead dir value) dir names old new

  -- nothing is entered, so that there is nothing to read
  pub entry_files : (dir : Path) (value : Option TreeValue) (old new : List (Path × TreeValue)) → IsEntry trees accepts visits dir value old new → IsFiles dir value old new
  entry_files dir value old new walked = record {
    entries = walked.entries;
    exactly = walked.exactly;
    added = walked.added;
    read = λ path. λ id entered. absurd (walked.read path id entered);
  }

  -- ---- the loop over the entries

  module _ (dir : Path) (id : List ℕ) (name : Name) (value : TreeValue) (is : child trees name (Some (Tree id)) ≡ Some value) where
    entered_below : (path : Path) (i : List ℕ) → IsEntered trees visits dir (Some (Tree id)) (name ∷ path) i → IsEntered trees visits (dir ++ name ∷ []) (Some value) path i
    entered_below path i h = (ap (λ o. stored_at trees o path) (sym is) ∙ h.0, ap (walk_enters visits []) (append_assoc dir (name ∷ []) path) ∙ h.1)

    pub entered_above : (path : Path) (i : List ℕ) → IsEntered trees visits (dir ++ name ∷ []) (Some value) path i → IsEntered trees visits dir (Some (Tree id)) (name ∷ path) i
    entered_above path i h = (ap (λ o. stored_at trees o path) is ∙ h.0, ap (walk_enters visits []) (sym (append_assoc dir (name ∷ []) path)) ∙ h.1)

    pub entry_passed : (names : List Name) (old mid new : List (Path × TreeValue)) → All (λ m. name_cmp m name ≡ Less) names
        → FilesPassed dir (Some (Tree id)) names old mid → IsFiles (dir ++ name ∷ []) (Some value) mid new → FilesPassed dir (Some (Tree id)) (names ++ name ∷ []) old new
    entry_passed names old mid new above =
        passed_more (IsFileBelow trees accepts dir (Some (Tree id))) (IsRead dir (Some (Tree id))) dir names name old mid new above
        (IsFileBelow trees accepts (dir ++ name ∷ []) (Some value)) (IsRead (dir ++ name ∷ []) (Some value))
        (λ path file. (
          λ h. (ap (λ o. files_at trees o path) is ∙ h.0, ap accepts (sym (append_assoc dir (name ∷ []) path)) ∙ h.1),
          λ h. (ap (λ o. files_at trees o path) (sym is) ∙ h.0, ap accepts (append_assoc dir (name ∷ []) path) ∙ h.1),
        ))
        (λ path. reads_below trees may_read_tree (IsEntered trees visits dir (Some (Tree id))) dir name (IsEntered trees visits (dir ++ name ∷ []) (Some value)) path (entered_below path))

  -- the end of the loop
  module _ (dir : Path) (id : List ℕ) (tree : Entries) (old new : List (Path × TreeValue)) (is : trees id ≡ Some tree) (read_here : may_read_tree dir id (Ok tree)) where
    pub all_passed : FilesPassed dir (Some (Tree id)) (names_of tree) old new → IsFiles dir (Some (Tree id)) old new
    all_passed =
        passed_all (IsFileBelow trees accepts dir (Some (Tree id))) (IsRead dir (Some (Tree id))) dir (names_of tree) old new
        (λ file h. none-some file h.0)
        (λ name path file h. named_file trees id tree is name path file h.0)
        (λ i h.
        subst (λ j. IsSomeAnd (trees j) (λ entries. may_read_tree (dir ++ []) j (Ok entries))) (same_id id i h.0)
        (read_at trees may_read_tree (IsEntered trees visits dir (Some (Tree id))) dir id tree is read_here))
        (λ name path read. λ i h. read (named_value trees id tree is name path (Tree i) h.0) i h)

  pub entered_here : (opens : Path → Bool) (dir : Path) (id : List ℕ) (known : VisitSpec) → DeterminesWalk accepts opens visits dir known → is_entered known ≡ true
      → IsEntered trees visits dir (Some (Tree id)) [] id
  entered_here opens dir id known walk entered = (refl, ap (walk_enters visits []) (append-nil dir) ∙ walk.itself ∙ entered)

  -- ---- one turn of the loop, and the errors of a directory

  module _ (dir : Path) (id : List ℕ) (xs rest tree : Entries) (e : Name × TreeValue) (is : trees id ≡ Some tree) (whole : xs ++ e ∷ rest ≡ tree) (sorted : is_sorted name_cmp tree ≡ true) where
    pub entry_found : child trees e.0 (Some (Tree id)) ≡ Some e.1
    entry_found =
        child_at trees id tree e.0 is ∙ ap (λ (l : Entries). lookup (bytes_eq e.0) l) (sym whole)
        ∙ lookup_here xs rest e (ap (is_sorted name_cmp) whole ∙ sorted)

    pub entry_step : (name : Name) (value : TreeValue) (old mid new : List (Path × TreeValue)) → name ≡ e.0 → value ≡ e.1 → FilesPassed dir (Some (Tree id)) (names_of xs) old mid
        → IsFiles (dir ++ name ∷ []) (Some value) mid new → FilesPassed dir (Some (Tree id)) (names_of (xs ++ e ∷ [])) old new
    entry_step name value old mid new same_name same_value passed walked =
        subst (λ names. FilesPassed dir (Some (Tree id)) names old new) (sym (map-append (λ (e : Name × TreeValue). e.0) xs (e ∷ [])))
        (entry_passed dir id e.0 e.1 entry_found (names_of xs) old mid new (names_above xs rest e (ap (is_sorted name_cmp) whole ∙ sorted)) passed
        (subst (λ n. IsFiles (dir ++ n ∷ []) (Some e.1) mid new) same_name (subst (λ v. IsFiles (dir ++ name ∷ []) (Some v) mid new) same_value walked)))

    pub error_below : (may_fail : BackendError → Type 0) (path : Path) (below : List ℕ) (levels upto : ℕ) (error : BackendError)
        → path ≡ dir ++ e.0 ∷ [] → e.1 ≡ Tree below → levels ≡ upto + 1
        → IsWalkError trees may_read_tree (IsEntered trees visits path (Some (Tree below))) path may_fail upto error
        → IsWalkError trees may_read_tree (IsEntered trees visits dir (Some (Tree id))) dir may_fail levels error
    error_below may_fail path below levels upto error at same more h =
        fails_below trees may_read_tree (IsEntered trees visits dir (Some (Tree id))) dir may_fail e.0 (IsEntered trees visits (dir ++ e.0 ∷ []) (Some e.1))
        (entered_above dir id e.0 e.1 entry_found) levels upto error more
        (subst (λ v. IsWalkError trees may_read_tree (IsEntered trees visits (dir ++ e.0 ∷ []) (Some v)) (dir ++ e.0 ∷ []) may_fail upto error) (sym same)
        (subst (λ p. IsWalkError trees may_read_tree (IsEntered trees visits p (Some (Tree below))) p may_fail upto error) at h))

  -- the files of a subdirectory, at the path and of the value of its entry
  pub subdirectory_files : (path at : Path) (below : List ℕ) (value : TreeValue) (mid old new : List (Path × TreeValue)) → path ≡ at → value ≡ Tree below → mid ≡ old
      → IsFiles path (Some (Tree below)) mid new → IsFiles at (Some value) old new
  subdirectory_files path at below value mid old new same_path same_value same h =
      subst (λ l. IsFiles at (Some value) l new) same
      (subst (λ v. IsFiles at (Some v) mid new) (sym same_value)
      (subst (λ p. IsFiles p (Some (Tree below)) mid new) same_path h))

  -- ---- the root

  pub root_list : (value : Option TreeValue) (old new : List (Path × TreeValue)) → old ≡ [] → IsFiles [] value old new → IsListOf (IsFileBelow trees accepts [] value) new
  root_list value old new empty walked =
      subst (IsListOf (IsFileBelow trees accepts [] value)) (sym (walked.added ∙ ap (λ (l : List (Path × TreeValue)). l ++ map (under []) walked.entries) empty ∙ from_root walked.entries)) walked.exactly

  pub root_walk : (opens : Path → Bool) (root : Path) (known : VisitSpec) → root ≡ [] → IsSound accepts opens root known → known ≡ visits root → DeterminesWalk accepts opens visits [] known
  root_walk opens root known empty sound is = root_goes_on accepts opens visits known (subst (λ p. IsSound accepts opens p known) empty sound) (sym (is ∙ ap visits empty))
