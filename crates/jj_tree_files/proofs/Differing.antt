-- The changes of a directory: its own, and those of its entries; none below what is equal or not visited.
use Rattle.std.proofs.Common.{◌≡◌, ◌≢◌, ◌∙◌, ℕ, suc, ◌+◌, ◌<◌, ◌⊎◌, ◌&&◌, ◌||◌, inl, inr, Bool, true, false, cond, List, [], ◌∷◌, ◌++◌, length, get_or, map, Option, Some, None, unwrap_or, refl, sym, ap, subst, arith, append-nil, append_assoc, true≢false}
use Rattle.std.specs.Prelude.{All, AllPairs, Contains, IsSome, IsSomeAnd, option_and_then, Result, Ok, Err, ◌↔◌}
use Rattle.std.specs.List.{AllByRecursion}
use Rattle.std.specs.List.Sorted.{IsStrictlySortedBy}
use Rattle.std.specs.Map.{lookup}
use Rattle.std.specs.Option.{option_eq}
use Rattle.std.specs.Str.{bytes_eq}
use Rattle.std.specs.declared.cmp.Ordering.TheVariants.{Less}
use Rattle.std.proofs.lemmas.List.{get_or-map, length-map, map-append}
use Rattle.std.proofs.lemmas.List.Elements.{All-nil, All-cons, Contains-append_left, Contains-append_right, Contains-append_cases}
use Rattle.std.proofs.lemmas.List.Kept.{AllPairs-cons}
use Rattle.std.proofs.lemmas.Map.Views.{Contains-from_any}
use Rattle.std.proofs.lemmas.Option.{none-some}
use Rattle.std.proofs.lemmas.Slice.Eq.{bytes_eq-Decides}
use Rattle.jj_paths.specs.Names.{name_of}
use Rattle.jj_paths.specs.Paths.{Name, Path, name_cmp, path_cmp}
use Rattle.jj_paths.specs.declared.repo_path.RepoPathComponent.{RepoPathComponent}
use Rattle.jj_backend.specs.Objects.{ById}
use Rattle.jj_backend.specs.contracts.backend.tree_value.TreeValuePartialEq.TheImpl as tree_values
use Rattle.jj_backend.specs.Trees.{Entries, value_at}
use Rattle.jj_backend.specs.declared.backend.errors.BackendError.{BackendError}
use Rattle.jj_backend.specs.declared.backend.tree_value.TreeValue.{TreeValue}
use Rattle.jj_backend.specs.declared.backend.tree_value.TreeValue.TheVariants.{File, Symlink, Tree, GitSubmodule}
use Rattle.jj_trees.specs.DirectoryMerges.{FailsAt, IsListOf, IsReadAt, entries_of}
use Rattle.jj_trees.specs.TreeMerges.{child}
use Rattle.jj_trees.specs.WrittenTrees.{stored_at}
use Rattle.jj_trees.proofs.Joining.{under, AllPairs-append, image_of, into_image}
use Rattle.jj_trees.proofs.Merging.{one_list, no_list}
use Rattle.jj_matchers.specs.SortedVisits.{is_named}
use Rattle.jj_matchers.specs.VisitSpecs.{VisitSpec, nothing}
use Rattle.jj_matchers.specs.Visits.{is_among}
use Rattle.jj_matchers.specs.Walk.{is_entered, walk_enters}
use Rattle.jj_matchers.specs.WalkInvariants.{DeterminesWalk}
use Rattle.jj_tree_builder.specs.Changes.{file_of, files_at}
use Rattle.jj_tree_builder.proofs.ChangedFiles.{files_at-none}
use Rattle.jj_tree_files.specs.Differences.{AppendsChange, IsChangeAt, IsChangeBelow, IsChangedPair, IsEnteredChange, Sides, sides_of}
use Rattle.jj_tree_files.specs.declared.changes.Change.{Change}
use Rattle.jj_tree_files.specs.declared.changes.Pair.{Pair}
use Rattle.jj_tree_files.specs.Walked.{IsWalked}
use Rattle.jj_tree_files.specs.Walks.{IsReadIfEntered, IsWalkError}
use Rattle.jj_tree_files.proofs.Walked.{Passed, passed_more, passed_all, reads_below, read_at, fails_here, fails_below, from_root}
use Rattle.jj_tree_files.proofs.Listed.{not_below, not_directory, stored_at-none}

-- ---- an entry at the empty path before those below it

module _ {E : Type 0} (At Below : Path → E → Type 0) (never : (e : E) → Below [] e → ⊥)
    (same : (name : Name) (path : Path) (e : E) → At (name ∷ path) e ↔ Below (name ∷ path) e) where
  abbrev Own : Path → E → Type 0
  Own path e = (path ≡ []) × At path e

  is_below : (path : Path) (e : E) → Below path e → (path_cmp [] path ≡ Less) × At path e
  is_below [] e h = absurd (never e h)
  is_below (name ∷ path) e h = (refl, (same name path e).1 h)

  pub own_first : (own ys : List (Path × E)) → IsListOf Own own → IsListOf Below ys → IsListOf At (own ++ ys)
  own_first own ys first rest = record {
    in_order = AllPairs-append (λ a b. path_cmp a.0 b.0 ≡ Less) own ys first.in_order rest.in_order
        (λ x y cx cy.
        subst (λ p. path_cmp p y.0 ≡ Less) (sym ((first.exactly x.0 x.1).0 cx).0) (is_below y.0 y.1 ((rest.exactly y.0 y.1).0 cy)).0);
    exactly = λ path e. (λ c. to path e (Contains-append_cases own ys (path, e) c), back path e);
  }
    where
      to : (path : Path) (e : E) → Contains own (path, e) ⊎ Contains ys (path, e) → At path e
      to path e (inl c) = ((first.exactly path e).0 c).1
      to path e (inr c) = (is_below path e ((rest.exactly path e).0 c)).1

      back : (path : Path) (e : E) → At path e → Contains (own ++ ys) (path, e)
      back [] e h = Contains-append_left own ys ([], e) ((first.exactly [] e).1 (refl, h))
      back (name ∷ path) e h = Contains-append_right own ys (name ∷ path, e) ((rest.exactly (name ∷ path) e).1 ((same name path e).0 h))

-- a value that is no directory has nothing below it
file_below : (trees : ById Entries) (value : Option TreeValue) → file_of value ≡ value → (name : Name) (path : Path) → stored_at trees value (name ∷ path) ≡ None
file_below trees None h name path = stored_at-none trees path
file_below trees (Some value) h name path = not_below trees value h name path

no_tree : (trees : ById Entries) (value : Option TreeValue) → file_of value ≡ value → (path : Path) (id : List ℕ) → stored_at trees value path ≡ Some (Tree id) → ⊥
no_tree trees None h path id is = none-some (Tree id) (sym (stored_at-none trees path) ∙ is)
no_tree trees (Some value) h path id is = not_directory trees value h path id is

same_sides : (a b : Sides) → a.0 ≡ b.0 → a.1 ≡ b.1 → b ≡ a
same_sides a b h k = λ i. (sym h i, sym k i)

module _ (trees : ById Entries) (accepts : Path → Bool) (visits : Path → VisitSpec) (may_read_tree : Path → List ℕ → Result Entries BackendError → Type 0) where
  abbrev pub Entered : Path → Option TreeValue → Option TreeValue → Path → List ℕ → Type 0
  Entered dir before after = IsEnteredChange trees visits dir before after

  abbrev pub IsRead : Path → Option TreeValue → Option TreeValue → Path → Type 0
  IsRead dir before after = IsReadIfEntered trees may_read_tree (Entered dir before after) dir

  abbrev pub AreChanges : Path → Option TreeValue → Option TreeValue → List Change → List Change → Type 0
  AreChanges dir before after old new =
      IsWalked (IsChangeAt trees accepts dir before after) (IsRead dir before after) dir (map sides_of old) (map sides_of new)

  abbrev pub AreChangesBelow : Path → Option TreeValue → Option TreeValue → List Change → List Change → Type 0
  AreChangesBelow dir before after old new =
      IsWalked (IsChangeBelow trees accepts dir before after) (IsRead dir before after) dir (map sides_of old) (map sides_of new)

  abbrev pub ChangesPassed : Path → Option TreeValue → Option TreeValue → List Name → List Change → List Change → Type 0
  ChangesPassed dir before after names old new =
      Passed (IsChangeBelow trees accepts dir before after) (IsRead dir before after) dir names (map sides_of old) (map sides_of new)

  module _ (dir : Path) (before after : Option TreeValue) where
    abbrev pub NotEntered : Path → Type 0
    NotEntered path = (id : List ℕ) → Entered dir before after path id → ⊥

    abbrev pub AreEntryChanges : List Change → List Change → Type 0
    AreEntryChanges old new = IsWalked (IsChangeAt trees accepts dir before after) NotEntered dir (map sides_of old) (map sides_of new)

    pub entry_changes : (old new : List Change) → AreEntryChanges old new → AreChanges dir before after old new
    entry_changes old new walked = record {
      entries = walked.entries;
      exactly = walked.exactly;
      added = walked.added;
      read = λ path. λ id entered. absurd (walked.read path id entered);
    }

    -- equal values have no changes
    pub equal_listed : before ≡ after → (old new : List Change) → new ≡ old → AreEntryChanges old new
    equal_listed equal old new unchanged = record {
      entries = [];
      exactly = no_list (IsChangeAt trees accepts dir before after)
          (λ path sides is. is.differ (is.old ∙ ap (λ o. files_at trees o path) equal ∙ sym is.new));
      added = ap (λ (l : List Change). map sides_of l) unchanged ∙ sym (append-nil (map sides_of old));
      read = λ path. λ id entered. entered.differ (ap (λ o. stored_at trees o path) equal);
    }

    abbrev pub NothingBelow : List Change → Type 0
    NothingBelow changes = IsWalked (IsChangeBelow trees accepts dir before after) NotEntered dir (map sides_of changes) (map sides_of changes)

    -- there is nothing below two files
    pub files_listed : file_of before ≡ before → file_of after ≡ after → (changes : List Change) → NothingBelow changes
    files_listed first second changes = record {
      entries = [];
      exactly = no_list (IsChangeBelow trees accepts dir before after) never;
      added = sym (append-nil (map sides_of changes));
      read = λ path. λ id entered. no path id entered.tree;
    }
      where
        never : (path : Path) (sides : Sides) → IsChangeBelow trees accepts dir before after path sides → ⊥
        never [] sides is = is
        never (name ∷ path) sides is =
            is.differ
            (is.old ∙ ap file_of (file_below trees before first name path) ∙ sym (ap file_of (file_below trees after second name path)) ∙ sym is.new)

        no : (path : Path) (id : List ℕ) → (stored_at trees before path ≡ Some (Tree id)) ⊎ (stored_at trees after path ≡ Some (Tree id)) → ⊥
        no path id (inl h) = no_tree trees before first path id h
        no path id (inr h) = no_tree trees after second path id h

    -- nothing is accepted below a directory with the visit `nothing`, and none is entered
    pub nothing_below : (opens : Path → Bool) → DeterminesWalk accepts opens visits dir nothing → (changes : List Change) → NothingBelow changes
    nothing_below opens walk changes = record {
      entries = [];
      exactly = no_list (IsChangeBelow trees accepts dir before after) never;
      added = sym (append-nil (map sides_of changes));
      read = λ path. λ id entered. not_entered path entered.entered;
    }
      where
        never : (path : Path) (sides : Sides) → IsChangeBelow trees accepts dir before after path sides → ⊥
        never [] sides is = is
        never (name ∷ path) sides is = true≢false (sym is.accepted ∙ walk.sound name path)

        not_entered : (path : Path) → walk_enters visits [] (dir ++ path) ≡ true → ⊥
        not_entered [] h = true≢false (sym h ∙ ap (walk_enters visits []) (append-nil dir) ∙ walk.itself)
        not_entered (name ∷ path) h = true≢false (sym h ∙ walk.below name path)

    -- the change at the path before those below it
    abbrev OwnChange : Path → Sides → Type 0
    OwnChange path sides = (path ≡ []) × IsChangeAt trees accepts dir before after path sides

    with_own : (R : Path → Type 0) (own : List (Path × Sides)) → IsListOf OwnChange own → (old mid new : List Change) → map sides_of mid ≡ map sides_of old ++ map (under dir) own
        → IsWalked (IsChangeBelow trees accepts dir before after) R dir (map sides_of mid) (map sides_of new) → IsWalked (IsChangeAt trees accepts dir before after) R dir (map sides_of old) (map sides_of new)
    with_own R own listed old mid new pushed walked = record {
      entries = own ++ walked.entries;
      exactly = own_first (IsChangeAt trees accepts dir before after) (IsChangeBelow trees accepts dir before after) (λ sides h. h) (λ name path sides. (λ h. h, λ h. h))
          own walked.entries listed walked.exactly;
      added = walked.added ∙ ap (λ (l : List (Path × Sides)). l ++ map (under dir) walked.entries) pushed
          ∙ append_assoc (map sides_of old) (map (under dir) own) (map (under dir) walked.entries)
          ∙ ap (λ (l : List (Path × Sides)). map sides_of old ++ l) (sym (map-append (under dir) own walked.entries));
      read = walked.read;
    }

    pub own_and_below : (R : Path → Type 0) (old mid new : List Change) → AppendsChange trees accepts dir before after old mid
        → IsWalked (IsChangeBelow trees accepts dir before after) R dir (map sides_of mid) (map sides_of new) → IsWalked (IsChangeAt trees accepts dir before after) R dir (map sides_of old) (map sides_of new)
    own_and_below R old mid new (inl own) =
        let change = own.0 in
        let sides : Sides = (change.before, change.after) in
        with_own R (([], sides) ∷ [])
        (one_list OwnChange sides (refl, own.2) (λ path other h. (h.0, only path other h.0 h.1))) old mid new
        (ap (λ (l : List Change). map sides_of l) own.3 ∙ map-append sides_of old (change ∷ [])
        ∙ ap (λ p. map sides_of old ++ (p, sides) ∷ []) (own.1 ∙ sym (append-nil dir)))
      where
        only : (path : Path) (other : Sides) → path ≡ [] → IsChangeAt trees accepts dir before after path other → other ≡ (own.0.before, own.0.after)
        only path other empty is =
            let here = subst (λ p. IsChangeAt trees accepts dir before after p other) empty is in
            same_sides (own.0.before, own.0.after) other (own.2.old ∙ sym here.old) (own.2.new ∙ sym here.new)
    own_and_below R old mid new (inr own) =
        with_own R [] (no_list OwnChange (λ path sides h. own.1 sides (subst (λ p. IsChangeAt trees accepts dir before after p sides) h.0 h.1))) old mid new
        (ap (λ (l : List Change). map sides_of l) own.0 ∙ sym (append-nil (map sides_of old)))

  -- ---- the loop over the names

  module _ (dir : Path) (before after : Option TreeValue) (name : Name) (first second : Option TreeValue)
      (is_first : child trees name before ≡ first) (is_second : child trees name after ≡ second) where
    entered_below : (path : Path) (id : List ℕ) → Entered dir before after (name ∷ path) id → Entered (dir ++ name ∷ []) first second path id
    entered_below path id h = record {
      differ = λ same. h.differ (ap (λ o. stored_at trees o path) is_first ∙ same ∙ sym (ap (λ o. stored_at trees o path) is_second));
      tree = side h.tree;
      entered = ap (walk_enters visits []) (append_assoc dir (name ∷ []) path) ∙ h.entered;
    }
      where
        side : (stored_at trees before (name ∷ path) ≡ Some (Tree id)) ⊎ (stored_at trees after (name ∷ path) ≡ Some (Tree id))
            → (stored_at trees first path ≡ Some (Tree id)) ⊎ (stored_at trees second path ≡ Some (Tree id))
        side (inl e) = inl (sym (ap (λ o. stored_at trees o path) is_first) ∙ e)
        side (inr e) = inr (sym (ap (λ o. stored_at trees o path) is_second) ∙ e)

    pub entered_above : (path : Path) (id : List ℕ) → Entered (dir ++ name ∷ []) first second path id → Entered dir before after (name ∷ path) id
    entered_above path id h = record {
      differ = λ same. h.differ (sym (ap (λ o. stored_at trees o path) is_first) ∙ same ∙ ap (λ o. stored_at trees o path) is_second);
      tree = side h.tree;
      entered = ap (walk_enters visits []) (sym (append_assoc dir (name ∷ []) path)) ∙ h.entered;
    }
      where
        side : (stored_at trees first path ≡ Some (Tree id)) ⊎ (stored_at trees second path ≡ Some (Tree id))
            → (stored_at trees before (name ∷ path) ≡ Some (Tree id)) ⊎ (stored_at trees after (name ∷ path) ≡ Some (Tree id))
        side (inl e) = inl (ap (λ o. stored_at trees o path) is_first ∙ e)
        side (inr e) = inr (ap (λ o. stored_at trees o path) is_second ∙ e)

    change_above : (path : Path) (sides : Sides) → IsChangeAt trees accepts (dir ++ name ∷ []) first second path sides → IsChangeAt trees accepts dir before after (name ∷ path) sides
    change_above path sides h = record {
      old = h.old ∙ sym (ap (λ o. files_at trees o path) is_first);
      new = h.new ∙ sym (ap (λ o. files_at trees o path) is_second);
      differ = h.differ;
      accepted = ap accepts (sym (append_assoc dir (name ∷ []) path)) ∙ h.accepted;
    }

    change_below : (path : Path) (sides : Sides) → IsChangeAt trees accepts dir before after (name ∷ path) sides → IsChangeAt trees accepts (dir ++ name ∷ []) first second path sides
    change_below path sides h = record {
      old = h.old ∙ ap (λ o. files_at trees o path) is_first;
      new = h.new ∙ ap (λ o. files_at trees o path) is_second;
      differ = h.differ;
      accepted = ap accepts (append_assoc dir (name ∷ []) path) ∙ h.accepted;
    }

    pub change_passed : (names : List Name) (old mid new : List Change) → All (λ m. name_cmp m name ≡ Less) names
        → ChangesPassed dir before after names old mid → AreChanges (dir ++ name ∷ []) first second mid new → ChangesPassed dir before after (names ++ name ∷ []) old new
    change_passed names old mid new above =
        passed_more (IsChangeBelow trees accepts dir before after) (IsRead dir before after) dir names name (map sides_of old) (map sides_of mid) (map sides_of new) above
        (IsChangeAt trees accepts (dir ++ name ∷ []) first second) (IsRead (dir ++ name ∷ []) first second)
        (λ path sides. (change_above path sides, change_below path sides))
        (λ path. reads_below trees may_read_tree (Entered dir before after) dir name (Entered (dir ++ name ∷ []) first second) path (entered_below path))

  -- the end of the loop
  module _ (dir : Path) (before after : Option TreeValue) (names : List Name)
      (named : (name : Name) → IsSome (child trees name before) ⊎ IsSome (child trees name after) → Contains names name)
      (read_here : IsRead dir before after []) where
    is_or_none : (o : Option TreeValue) → (o ≡ None) ⊎ IsSome o
    is_or_none None = inl refl
    is_or_none (Some v) = inr refl

    by_children : (name : Name) → ((child trees name before ≡ None) → (child trees name after ≡ None) → ⊥) → Contains names name
    by_children name both = first (is_or_none (child trees name before)) (is_or_none (child trees name after))
      where
        first : (child trees name before ≡ None) ⊎ IsSome (child trees name before) → (child trees name after ≡ None) ⊎ IsSome (child trees name after) → Contains names name
        first (inr h) other = named name (inl h)
        first (inl e) (inr h) = named name (inr h)
        first (inl e) (inl f) = absurd (both e f)

    pub all_changes : (old new : List Change) → ChangesPassed dir before after names old new → AreChangesBelow dir before after old new
    all_changes old new =
        passed_all (IsChangeBelow trees accepts dir before after) (IsRead dir before after) dir names (map sides_of old) (map sides_of new)
        (λ sides h. h)
        (λ name path sides h. by_children name (λ e f.
        h.differ (h.old ∙ ap (λ o. files_at trees o path) e ∙ sym (ap (λ o. files_at trees o path) f) ∙ sym h.new)))
        read_here
        (λ name path read. λ id h.
        read (by_children name (λ e f. h.differ (ap (λ o. stored_at trees o path) e ∙ sym (ap (λ o. stored_at trees o path) f)))) id h)

-- ---- one entry

module _ (trees : ById Entries) (accepts : Path → Bool) (dir : Path) (before after : Option TreeValue) where
  pub no_change : file_of before ≡ file_of after → (changes : List Change) → AppendsChange trees accepts dir before after changes changes
  no_change same changes = inr (refl, λ sides is. is.differ (is.old ∙ same ∙ sym is.new))

  pub not_accepted : accepts dir ≡ false → (changes : List Change) → AppendsChange trees accepts dir before after changes changes
  not_accepted refused changes = inr (refl, λ sides is. true≢false (sym is.accepted ∙ ap accepts (append-nil dir) ∙ refused))

  pub one_change : (change : Change) → change.path ≡ dir → change.before ≡ file_of before → change.after ≡ file_of after → change.before ≢ change.after → accepts dir ≡ true
      → (old new : List Change) → new ≡ old ++ change ∷ [] → AppendsChange trees accepts dir before after old new
  one_change change at old_side new_side differ accepted old new pushed =
      inl (change, at, record { old = old_side; new = new_side; differ = differ; accepted = ap accepts (append-nil dir) ∙ accepted }, pushed)

-- ---- the names of the entries, in order

passed_by : (P : RepoPathComponent → Type 0) (xs rest : List RepoPathComponent) (key : RepoPathComponent) → AllByRecursion P (xs ++ key ∷ rest) → P key
passed_by P [] rest key h = h.0
passed_by P (x ∷ xs) rest key h = passed_by P xs rest key h.1

pub names_below : (xs rest : List RepoPathComponent) (key : RepoPathComponent) → IsStrictlySortedBy (λ a b. name_cmp (name_of a) (name_of b)) (xs ++ key ∷ rest)
    → All (λ m. name_cmp m (name_of key) ≡ Less) (map name_of xs)
unfolding IsStrictlySortedBy
names_below [] rest key h = All-nil (λ m. name_cmp m (name_of key) ≡ Less)
names_below (x ∷ xs) rest key h =
    All-cons (λ m. name_cmp m (name_of key) ≡ Less) (name_of x) (map name_of xs)
    (passed_by (λ k. name_cmp (name_of x) (name_of k) ≡ Less) xs rest key h.0) (names_below xs rest key h.1)

among : (name : Name) (entries : Entries) → IsSome (value_at entries name) → is_among (map (λ e. e.0) entries) name ≡ true
among name [] h = absurd (true≢false (sym h))
among name (e ∷ entries) h = by (among name entries) (bytes_eq name e.0) h
  where
    by : (IsSome (value_at entries name) → is_among (map (λ e. e.0) entries) name ≡ true) → (t : Bool) → IsSome (cond t (Some e.1) (value_at entries name)) → (t || is_among (map (λ e. e.0) entries) name) ≡ true
    by later true k = refl
    by later false k = later k

from_among : (keys : List RepoPathComponent) (name : Name) → is_named keys name ≡ true → Contains (map name_of keys) name
from_among keys name h = Contains-from_any (λ x y. (bytes_eq-Decides x y).0) name (map name_of keys) h

-- the value of an entry by name
pub child_value : (trees : ById Entries) (value : Option TreeValue) (name : Name) → child trees name value ≡ value_at (entries_of trees value) name
child_value trees None name = refl
child_value trees (Some (Tree id)) name = by (trees id)
  where
    by : (found : Option Entries) → option_and_then (λ entries. lookup (bytes_eq name) entries) found ≡ lookup (bytes_eq name) (unwrap_or found [])
    by None = refl
    by (Some entries) = refl
child_value trees (Some (File id executable copy_id)) name = refl
child_value trees (Some (Symlink id)) name = refl
child_value trees (Some (GitSubmodule id)) name = refl

module _ (trees : ById Entries) (before after : Option TreeValue) (keys : List RepoPathComponent)
    (all : (name : Name) → is_named keys name ≡ (is_among (map (λ e. e.0) (entries_of trees before)) name || is_among (map (λ e. e.0) (entries_of trees after)) name)) where
  pub each_named : (name : Name) → IsSome (child trees name before) ⊎ IsSome (child trees name after) → Contains (map name_of keys) name
  each_named name h = from_among keys name (all name ∙ found h)
    where
      right : (b : Bool) → (b || true) ≡ true
      right true = refl
      right false = refl

      found : IsSome (child trees name before) ⊎ IsSome (child trees name after)
          → (is_among (map (λ e. e.0) (entries_of trees before)) name || is_among (map (λ e. e.0) (entries_of trees after)) name) ≡ true
      found (inl h) =
          ap (λ b. b || is_among (map (λ e. e.0) (entries_of trees after)) name) (among name (entries_of trees before) (subst IsSome (child_value trees before name) h))
      found (inr h) =
          ap (λ b. is_among (map (λ e. e.0) (entries_of trees before)) name || b) (among name (entries_of trees after) (subst IsSome (child_value trees after name) h))
          ∙ right (is_among (map (λ e. e.0) (entries_of trees before)) name)

-- ---- reads of the two sides

module _ (trees : ById Entries) (may_read_tree : Path → List ℕ → Result Entries BackendError → Type 0) (Reached : Path → List ℕ → Type 0) (dir : Path) where
  pub side_read : (value : Option TreeValue) (id : List ℕ) → IsReadAt trees may_read_tree dir value → value ≡ Some (Tree id)
      → IsSomeAnd (trees id) (λ entries. may_read_tree (dir ++ []) id (Ok entries))
  side_read value id h is =
      let read : IsReadAt trees may_read_tree dir (Some (Tree id)) = subst (IsReadAt trees may_read_tree dir) is h in
      read_at trees may_read_tree Reached dir id read.0 read.2 read.1

  pub side_fails : (may_fail : BackendError → Type 0) (value : Option TreeValue) (e : BackendError) → ((id : List ℕ) → value ≡ Some (Tree id) → Reached [] id) → (levels : ℕ)
      → FailsAt trees may_read_tree may_fail dir e value → IsWalkError trees may_read_tree Reached dir may_fail levels e
  side_fails may_fail None e reached levels h = absurd h
  side_fails may_fail (Some (Tree id)) e reached levels h = fails_here trees may_read_tree Reached dir may_fail id (reached id refl) levels e h.0 h.1
  side_fails may_fail (Some (File id executable copy_id)) e reached levels h = absurd h
  side_fails may_fail (Some (Symlink id)) e reached levels h = absurd h
  side_fails may_fail (Some (GitSubmodule id)) e reached levels h = absurd h

module _ (trees : ById Entries) (accepts : Path → Bool) (visits : Path → VisitSpec) (may_read_tree : Path → List ℕ → Result Entries BackendError → Type 0) (dir : Path) where
  -- ---- the directory itself

  module _ (opens : Path → Bool) (known : VisitSpec) (walk : DeterminesWalk accepts opens visits dir known) (enters : is_entered known ≡ true) (pair : Pair) (changed : IsChangedPair pair) where
    pub reached_here : (id : List ℕ) → (pair.before ≡ Some (Tree id)) ⊎ (pair.after ≡ Some (Tree id)) → IsEnteredChange trees visits dir pair.before pair.after [] id
    reached_here id tree = record {
      differ = changed.differ;
      tree = tree;
      entered = ap (walk_enters visits []) (append-nil dir) ∙ walk.itself ∙ enters;
    }

  pub both_read : (before after : Option TreeValue) → IsReadAt trees may_read_tree dir before → IsReadAt trees may_read_tree dir after → IsRead trees accepts visits may_read_tree dir before after []
  both_read before after first second = λ id h. by id h.tree
    where
      by : (id : List ℕ) → (before ≡ Some (Tree id)) ⊎ (after ≡ Some (Tree id)) → IsSomeAnd (trees id) (λ entries. may_read_tree (dir ++ []) id (Ok entries))
      by id (inl is) = side_read trees may_read_tree (IsEnteredChange trees visits dir before after) dir before id first is
      by id (inr is) = side_read trees may_read_tree (IsEnteredChange trees visits dir before after) dir after id second is

  -- ---- one turn of the loop

  module _ (before after : Option TreeValue) (done rest : List RepoPathComponent) (key : RepoPathComponent)
      (ordered : IsStrictlySortedBy (λ a b. name_cmp (name_of a) (name_of b)) (done ++ key ∷ rest)) where
    pub change_step : (name : Name) (first second : Option TreeValue) (old mid new : List Change) → name ≡ name_of key
        → first ≡ value_at (entries_of trees before) (name_of key) → second ≡ value_at (entries_of trees after) (name_of key)
        → ChangesPassed trees accepts visits may_read_tree dir before after (map name_of done) old mid
        → AreChanges trees accepts visits may_read_tree (dir ++ name ∷ []) first second mid new
        → ChangesPassed trees accepts visits may_read_tree dir before after (map name_of (done ++ key ∷ [])) old new
    change_step name first second old mid new same is_first is_second passed walked =
        subst (λ names. ChangesPassed trees accepts visits may_read_tree dir before after names old new) (sym (map-append name_of done (key ∷ [])))
        (change_passed trees accepts visits may_read_tree dir before after (name_of key) first second
        (child_value trees before (name_of key) ∙ sym is_first) (child_value trees after (name_of key) ∙ sym is_second)
        (map name_of done) old mid new (names_below done rest key ordered) passed
        (subst (λ n. AreChanges trees accepts visits may_read_tree (dir ++ n ∷ []) first second mid new) same walked))

  pub change_fails_below : (before after : Option TreeValue) (key : Name) (may_fail : BackendError → Type 0) (path : Path) (name : Name) (first second : Option TreeValue) (levels upto : ℕ) (error : BackendError)
      → path ≡ dir ++ name ∷ [] → name ≡ key → first ≡ value_at (entries_of trees before) key → second ≡ value_at (entries_of trees after) key → levels ≡ upto + 1
      → IsWalkError trees may_read_tree (IsEnteredChange trees visits path first second) path may_fail upto error
      → IsWalkError trees may_read_tree (IsEnteredChange trees visits dir before after) dir may_fail levels error
  change_fails_below before after key may_fail path name first second levels upto error at same is_first is_second more h =
      fails_below trees may_read_tree (IsEnteredChange trees visits dir before after) dir may_fail key (IsEnteredChange trees visits (dir ++ key ∷ []) first second)
      (entered_above trees accepts visits may_read_tree dir before after key first second (child_value trees before key ∙ sym is_first) (child_value trees after key ∙ sym is_second))
      levels upto error more
      (subst (λ p. IsWalkError trees may_read_tree (IsEnteredChange trees visits p first second) p may_fail upto error) (at ∙ ap (λ n. dir ++ n ∷ []) same) h)

  -- a change appended at a directory, and those below it
  pub changes_of_directory : (path : Path) (pair other : Pair) (old mid new : List Change) → path ≡ dir → other ≡ pair
      → AppendsChange trees accepts dir pair.before pair.after old mid
      → AreChangesBelow trees accepts visits may_read_tree path other.before other.after mid new
      → AreChanges trees accepts visits may_read_tree dir pair.before pair.after old new
  changes_of_directory path pair other old mid new at same appended walked =
      own_and_below trees accepts visits may_read_tree dir pair.before pair.after (IsRead trees accepts visits may_read_tree dir pair.before pair.after) old mid new appended
      (subst (λ p. AreChangesBelow trees accepts visits may_read_tree dir p.before p.after mid new) same
      (subst (λ p. AreChangesBelow trees accepts visits may_read_tree p other.before other.after mid new) at walked))

-- ---- the root

change_is : (x y : Change) → sides_of x ≡ sides_of y → x ≡ y
change_is x y h = λ i. record { path = (h i).0; before = (h i).1.0; after = (h i).1.1 }

module _ {X Y : Type 0} (f : Y → X) where
  AllPairs-unmap : (R : X → X → Type 0) (ys : List Y) → AllPairs R (map f ys) → AllPairs (λ a b. R (f a) (f b)) ys
  AllPairs-unmap R [] h = λ i j d lt within. absurd (omega arith)
  AllPairs-unmap R (y ∷ ys) h =
      AllPairs-cons (λ a b. R (f a) (f b)) y ys
      (λ k d lt. subst (R (f y)) (get_or-map f ys k d (f d) lt) (h 0 (suc k) (f d) (omega arith) (simp length-map (omega arith))))
      (AllPairs-unmap R ys (λ i j d lt within. h (suc i) (suc j) d (omega arith) (omega arith)))

module _ (trees : ById Entries) (accepts : Path → Bool) (visits : Path → VisitSpec) (may_read_tree : Path → List ℕ → Result Entries BackendError → Type 0) (before after : List ℕ) where
  abbrev pub IsListed : Change → Type 0
  IsListed change =
      (change.before ≡ files_at trees (Some (Tree before)) change.path) × (change.after ≡ files_at trees (Some (Tree after)) change.path)
      × (change.before ≢ change.after) × (accepts change.path ≡ true)

  pub record IsRootList (new : List Change) : Type 0 where
    pub changes : (change : Change) → Contains new change ↔ IsListed change
    pub ascending : AllPairs (λ (a b : Change). path_cmp a.path b.path ≡ Less) new
    pub read : (path : Path) → IsRead trees accepts visits may_read_tree [] (Some (Tree before)) (Some (Tree after)) path

  pub root_changes : (old new : List Change) → old ≡ [] → AreChanges trees accepts visits may_read_tree [] (Some (Tree before)) (Some (Tree after)) old new → IsRootList new
  root_changes old new empty walked = record {
    changes = λ change. (to change, back change);
    ascending = AllPairs-unmap sides_of (λ a b. path_cmp a.0 b.0 ≡ Less) new (subst (AllPairs (λ a b. path_cmp a.0 b.0 ≡ Less)) (sym all) walked.exactly.in_order);
    read = walked.read;
  }
    where
      all : map sides_of new ≡ walked.entries
      all = walked.added ∙ ap (λ (l : List Change). map sides_of l ++ map (under []) walked.entries) empty ∙ from_root walked.entries

      to : (change : Change) → Contains new change → IsListed change
      to change c =
          let is = (walked.exactly.exactly change.path (change.before, change.after)).0 (subst (λ (l : List (Path × Sides)). Contains l (sides_of change)) all (into_image sides_of new change c)) in
          (is.old, is.new, is.differ, is.accepted)

      back : (change : Change) → IsListed change → Contains new change
      back change h =
          let c = (walked.exactly.exactly change.path (change.before, change.after)).1 (record { old = h.0; new = h.1; differ = h.2; accepted = h.3 }) in
          let found = image_of sides_of new (sides_of change) (subst (λ (l : List (Path × Sides)). Contains l (sides_of change)) (sym all) c) in
          subst (Contains new) (change_is found.0 change found.2) found.1

  root_below : (old new : List Change) → old ≡ [] → AreChangesBelow trees accepts visits may_read_tree [] (Some (Tree before)) (Some (Tree after)) old new → IsRootList new
  root_below old new empty walked =
      root_changes old new empty
      (own_and_below trees accepts visits may_read_tree [] (Some (Tree before)) (Some (Tree after)) (IsRead trees accepts visits may_read_tree [] (Some (Tree before)) (Some (Tree after)))
      old old new (no_change trees accepts [] (Some (Tree before)) (Some (Tree after)) refl old) walked)

  pub root_list : (root : Path) (pair : Pair) (old new : List Change) → root ≡ [] → pair.before ≡ Some (Tree before) → pair.after ≡ Some (Tree after) → old ≡ []
      → AreChangesBelow trees accepts visits may_read_tree root pair.before pair.after old new → IsRootList new
  root_list root pair old new at first second empty walked =
      root_below old new empty
      (subst (λ v. AreChangesBelow trees accepts visits may_read_tree [] (Some (Tree before)) v old new) second
      (subst (λ v. AreChangesBelow trees accepts visits may_read_tree [] v pair.after old new) first
      (subst (λ p. AreChangesBelow trees accepts visits may_read_tree p pair.before pair.after old new) at walked)))

  pub root_equal : before ≡ after → (changes : List Change) → changes ≡ [] → IsRootList changes
  root_equal same changes empty =
      root_changes changes changes empty
      (entry_changes trees accepts visits may_read_tree [] (Some (Tree before)) (Some (Tree after)) changes changes
      (equal_listed trees accepts visits may_read_tree [] (Some (Tree before)) (Some (Tree after)) (ap (λ id. Some (Tree id)) same) changes changes refl))

  pub root_nothing : (opens : Path → Bool) → DeterminesWalk accepts opens visits [] nothing → (changes : List Change) → changes ≡ [] → IsRootList changes
  root_nothing opens walk changes empty =
      root_changes changes changes empty
      (entry_changes trees accepts visits may_read_tree [] (Some (Tree before)) (Some (Tree after)) changes changes
      (own_and_below trees accepts visits may_read_tree [] (Some (Tree before)) (Some (Tree after)) (NotEntered trees accepts visits may_read_tree [] (Some (Tree before)) (Some (Tree after)))
      changes changes changes (no_change trees accepts [] (Some (Tree before)) (Some (Tree after)) refl changes)
      (nothing_below trees accepts visits may_read_tree [] (Some (Tree before)) (Some (Tree after)) opens walk changes)))

-- ---- equality of values

both_true : (a b : Bool) → a ≡ true → b ≡ true → (a && b) ≡ true
both_true true b h k = k
both_true false b h k = h

bytes_same : (a : List ℕ) → bytes_eq a a ≡ true
bytes_same a = (bytes_eq-Decides a a).1 refl

equal_self : (v : Option TreeValue) → option_eq tree_values.eq-value.it v v ≡ true
equal_self None = refl
equal_self (Some (File id true copy_id)) = both_true (bytes_eq id id) (bytes_eq copy_id copy_id) (bytes_same id) (bytes_same copy_id)
equal_self (Some (File id false copy_id)) = both_true (bytes_eq id id) (bytes_eq copy_id copy_id) (bytes_same id) (bytes_same copy_id)
equal_self (Some (Symlink id)) = bytes_same id
equal_self (Some (Tree id)) = bytes_same id
equal_self (Some (GitSubmodule id)) = bytes_same id

pub values_differ : (v w : Option TreeValue) → option_eq tree_values.eq-value.it v w ≡ false → v ≢ w
values_differ v w h = λ same. true≢false (sym (equal_self v) ∙ ap (option_eq tree_values.eq-value.it v) same ∙ h)
