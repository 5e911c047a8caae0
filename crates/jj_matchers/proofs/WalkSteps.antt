-- The loop invariant of `walk_matching` is established at the start and preserved by each step.
use Rattle.std.proofs.Common.{◌≡◌, ◌⊎◌, inl, inr, ◌+◌, ◌*◌, ◌<◌, arith, Bool, true, false, ◌&&◌, List, [], ◌∷◌, ◌++◌, length, refl, ap, sym, subst, ◌∙◌, append_assoc, append-nil}
use mathlib.Core.Bool.{false≢true}
use Rattle.std.proofs.Math.Bool.{and-false}
use Rattle.std.proofs.lemmas.Bool.{and_parts}
use Rattle.std.specs.FinMap.{is_sorted}
use Rattle.std.specs.List.{AllByRecursion}
use Rattle.std.specs.List.Sorted.{IsStrictlySortedBy}
use denote.Ref.{Bor}
use Rattle.jj_paths.specs.Paths.{Name, Path, name_cmp, path_cmp}
use Rattle.jj_paths.specs.Tree.{Tree, branches_of, branch_count, children, has_branches}
use Rattle.jj_paths.specs.Nodes.{NodeAt, node_at, nodes_under}
use Rattle.jj_matchers.specs.declared.matchers.tree_walk.Frame.{Frame}
use Rattle.jj_matchers.specs.VisitSpecs.{VisitSpec, all_recursively, specific, nothing, IsSound}
use Rattle.jj_matchers.specs.SortedVisits.{sorted_visit_spec}
use Rattle.jj_matchers.specs.Walk.{paths_where, entered_by, is_file, is_entered, continues_into, walk_enters, is_entered_directory, path_if}
use Rattle.jj_matchers.specs.WalkInvariants.{paths_below, DeterminesWalk, PushesFrame, IsNewFrame, IsValidFrame, WalkInvariant, CompletesTo, pending_in, pending_paths, walk_measure, with_left}
use Rattle.std.specs.declared.cmp.Ordering.TheVariants.{Less}
use Rattle.jj_paths.proofs.PathOrders.{sorted_none, sorted-cons, before_below, all-append}
use Rattle.jj_matchers.proofs.PreorderPaths.{branches_of-children, paths_where_first, found_step, ordered_step, none_below, nothing_below, all_anywhere}

false_and : (a b : Bool) → b ≡ false → (a && b) ≡ false
false_and a b e = rw e (and-false a)

module _ (accepts opens : Path → Bool) (visit : Path → VisitSpec) where
  -- the visit of the root determines the walk
  pub root_goes_on : (known : VisitSpec) → IsSound accepts opens [] known → visit [] ≡ known → DeterminesWalk accepts opens visit [] known
  root_goes_on known sound is = record {
    sound = sound;
    itself = ap is_entered is;
    below = λ name rest. ap (λ a. continues_into a name (walk_enters visit (name ∷ []) rest)) is;
  }

  -- with the visit `nothing` no file is found below, and no directory is entered
  pub no_files : (dir : Path) (tree : Tree Bool) → DeterminesWalk accepts opens visit dir nothing → paths_below (is_file accepts) dir tree ≡ []
  no_files dir tree on = none_below (is_file accepts) dir tree.branches (λ name rest sub. false_and sub.value _ (on.sound name rest))

  pub none_entered : (dir : Path) (tree : Tree Bool) → DeterminesWalk accepts opens visit dir nothing → paths_below (is_entered_directory visit) dir tree ≡ []
  none_entered dir tree on = none_below (is_entered_directory visit) dir tree.branches (λ name rest sub. false_and (has_branches sub.branches) _ (on.below name rest))

  -- whether the directory itself is entered
  pub entered_itself : (dir : Path) (tree : Tree Bool) (known : VisitSpec) → DeterminesWalk accepts opens visit dir known → has_branches tree.branches ≡ true → is_entered_directory visit (node_at dir tree) ≡ is_entered known
  entered_itself dir tree known on e = ap (λ b. b && walk_enters visit [] dir) e ∙ on.itself

  not_without_children : (dir : Path) (tree : Tree Bool) → has_branches tree.branches ≡ false → is_entered_directory visit (node_at dir tree) ≡ false
  not_without_children dir tree e = ap (λ b. b && walk_enters visit [] dir) e

  pub opened_is_under_way : (dir : Path) (known : VisitSpec) (tree : Tree Bool) (directory : Frame) → DeterminesWalk accepts opens visit dir known → IsNewFrame dir known tree directory → IsValidFrame accepts opens visit directory
  opened_is_under_way dir known tree directory on opened = record {
    goes_on = subst (λ d. DeterminesWalk accepts opens visit d (sorted_visit_spec directory.visit)) (sym opened.path) (subst (DeterminesWalk accepts opens visit dir) (sym opened.visit) on);
    by_name = opened.by_name;
  }

module _ {X : Type 0} where
  pub all_append_parts : (P : X → Type 0) (xs ys : List X) → AllByRecursion P (xs ++ ys) → AllByRecursion P xs × AllByRecursion P ys
  all_append_parts P [] ys h = (tt, h)
  all_append_parts P (x ∷ xs) ys h = let later = all_append_parts P xs ys h.1 in ((h.0, later.0), later.1)

-- the paths of the topmost stack frame come first
pub pending_paths-snoc : (test : NodeAt Bool → Bool) (further : List Frame) (directory : Frame) → pending_paths test (further ++ directory ∷ []) ≡ pending_in test directory ++ pending_paths test further
pending_paths-snoc test [] directory = sym (append-nil (pending_in test directory))
pending_paths-snoc test (first ∷ further) directory =
    ap (λ l. l ++ pending_in test first) (pending_paths-snoc test further directory)
    ∙ append_assoc (pending_in test directory) (pending_paths test further) (pending_in test first)

pub walk_measure-snoc : (further : List Frame) (directory : Frame) → walk_measure (further ++ directory ∷ []) ≡ 1 + 2 * branch_count (branches_of directory.left.now) + walk_measure further
walk_measure-snoc [] directory = refl
walk_measure-snoc (first ∷ further) directory = omega (arith, walk_measure-snoc further directory)

-- a stack frame without children has no paths left
left_none : (test : NodeAt Bool → Bool) (directory : Frame) → directory.left.now ≡ [] → pending_in test directory ≡ []
left_none test directory done = ap (λ l. paths_where test (nodes_under directory.dir (branches_of l))) done

abbrev IsInOrder : (NodeAt Bool → Bool) → Frame → Type 0
IsInOrder test directory = IsStrictlySortedBy path_cmp (pending_in test directory)

-- a stack frame without children can be popped
finished : (test : NodeAt Bool → Bool) (all found : List Path) (further : List Frame) (directory : Frame) → directory.left.now ≡ [] → CompletesTo test all found (further ++ directory ∷ []) → CompletesTo test all found further
finished test all found further directory done gives = record {
  whole = ap (λ l. found ++ l) (sym (pending_paths-snoc test further directory ∙ ap (λ l. l ++ pending_paths test further) (left_none test directory done))) ∙ gives.whole;
  ordered = λ h. gives.ordered (all-append (IsInOrder test) further (directory ∷ []) h (subst (IsStrictlySortedBy path_cmp) (sym (left_none test directory done)) sorted_none, tt));
}

-- visiting a child adds its own path, and leaves those below it and those of the later children
module _ (test : NodeAt Bool → Bool) (further stack : List Frame) (directory : Frame) (name : Name) (sub : Tree Bool) (after : List (Name × Tree Bool)) where
  past_child : (all found new : List Path) → directory.left.now ≡ (name, sub) ∷ after → is_sorted name_cmp directory.left.now ≡ true →
      new ≡ found ++ path_if (test (node_at (directory.dir ++ name ∷ []) sub)) (directory.dir ++ name ∷ []) →
      pending_paths test stack ≡ (paths_below test (directory.dir ++ name ∷ []) sub ++ paths_where test (nodes_under directory.dir (branches_of after))) ++ pending_paths test further →
      (AllByRecursion (IsInOrder test) stack → AllByRecursion (IsInOrder test) further × IsStrictlySortedBy path_cmp (paths_below test (directory.dir ++ name ∷ []) sub) × IsStrictlySortedBy path_cmp (paths_where test (nodes_under directory.dir (branches_of after)))) →
      CompletesTo test all found (further ++ directory ∷ []) → CompletesTo test all new stack
  past_child all found new left names is parts sorted gives = record {
    whole = ap (λ l. new ++ l) parts
        ∙ sym (append_assoc new (deep ++ later) (pending_paths test further))
        ∙ ap (λ l. l ++ pending_paths test further) (sym (append_assoc new deep later) ∙ found_step test directory.dir name sub after directory.left.now found (found ++ pending_in test directory) (new ++ deep) left refl (ap (λ l. l ++ deep) is))
        ∙ append_assoc found (pending_in test directory) (pending_paths test further)
        ∙ ap (λ l. found ++ l) (sym (pending_paths-snoc test further directory))
        ∙ gives.whole;
    ordered = λ h. let s = sorted h in gives.ordered (all-append (IsInOrder test) further (directory ∷ []) s.0 (ordered_step test directory.dir name sub after directory.left.now (pending_in test directory) left names (λ x. x) s.1 s.2, tt));
  }
    where
      deep : List Path
      deep = paths_below test (directory.dir ++ name ∷ []) sub

      later : List Path
      later = paths_where test (nodes_under directory.dir (branches_of after))

module _ (accepts opens : Path → Bool) (visit : Path → VisitSpec) (tree : Tree Bool) (files entered : List Path) (further : List Frame) (directory : Frame) where
  -- a stack frame without children can be popped
  pub way_finished : directory.left.now ≡ [] → WalkInvariant accepts opens visit tree files entered (further ++ directory ∷ []) → WalkInvariant accepts opens visit tree files entered further
  way_finished done way = record {
    of_files = finished (is_file accepts) _ files further directory done way.of_files;
    of_directories = finished (is_entered_directory visit) _ entered further directory done way.of_directories;
    under_way = (all_append_parts (IsValidFrame accepts opens visit) further (directory ∷ []) way.under_way).0;
    only_open = way.only_open;
  }

  module _ (next : Frame) (name : Name) (sub : Tree Bool) (after : List (Name × Tree Bool)) (left : directory.left.now ≡ (name, sub) ∷ after)
      (path : next.dir ≡ directory.dir) (same_visit : next.visit ≡ directory.visit) (rest : next.left.now ≡ after) where
    abbrev child : Path
    child = directory.dir ++ name ∷ []

    rest_in : (test : NodeAt Bool → Bool) → pending_in test next ≡ paths_where test (nodes_under directory.dir (branches_of after))
    rest_in test = ap (λ d. paths_where test (nodes_under d (branches_of next.left.now))) path ∙ ap (λ l. paths_where test (nodes_under directory.dir (branches_of l))) rest

    -- the rest of the stack frame is valid
    next_under_way : IsValidFrame accepts opens visit directory → IsValidFrame accepts opens visit next
    next_under_way on = record {
      goes_on = subst (λ d. DeterminesWalk accepts opens visit d (sorted_visit_spec next.visit)) (sym path) (subst (λ a. DeterminesWalk accepts opens visit directory.dir (sorted_visit_spec a)) (sym same_visit) on.goes_on);
      by_name = ap (is_sorted name_cmp) rest ∙ (and_parts _ _ (sym (ap (is_sorted name_cmp) left) ∙ on.by_name)).1;
    }

    -- a child that is not entered
    module _ (test : NodeAt Bool → Bool) (all found new : List Path) (names : is_sorted name_cmp directory.left.now ≡ true) (is : new ≡ found ++ path_if (test (node_at (directory.dir ++ name ∷ []) sub)) (directory.dir ++ name ∷ [])) where
      past_leaf : paths_below test (directory.dir ++ name ∷ []) sub ≡ [] → CompletesTo test all found (further ++ directory ∷ []) → CompletesTo test all new (further ++ next ∷ [])
      past_leaf nothing_there = past_child test further (further ++ next ∷ []) directory name sub after all found new left names is
          (pending_paths-snoc test further next ∙ ap (λ l. l ++ pending_paths test further) (rest_in test ∙ ap (λ l. l ++ paths_where test (nodes_under directory.dir (branches_of after))) (sym nothing_there)))
          (λ h. let parts = all_append_parts (IsInOrder test) further (next ∷ []) h in (parts.0, subst (IsStrictlySortedBy path_cmp) (sym nothing_there) sorted_none, subst (IsStrictlySortedBy path_cmp) (rest_in test) parts.1.0))

      -- a child that is entered
      past_directory : (below : Frame) → below.dir ≡ directory.dir ++ name ∷ [] → below.left.now ≡ children sub.branches → CompletesTo test all found (further ++ directory ∷ []) → CompletesTo test all new ((further ++ next ∷ []) ++ below ∷ [])
      past_directory below at all_left = past_child test further ((further ++ next ∷ []) ++ below ∷ []) directory name sub after all found new left names is
          (pending_paths-snoc test (further ++ next ∷ []) below
          ∙ ap (λ l. pending_in test below ++ l) (pending_paths-snoc test further next)
          ∙ sym (append_assoc (pending_in test below) (pending_in test next) (pending_paths test further))
          ∙ ap (λ l. (l ++ pending_in test next) ++ pending_paths test further) deep
          ∙ ap (λ l. (paths_below test (directory.dir ++ name ∷ []) sub ++ l) ++ pending_paths test further) (rest_in test))
          (λ h. let outer = all_append_parts (IsInOrder test) (further ++ next ∷ []) (below ∷ []) h in
          let parts = all_append_parts (IsInOrder test) further (next ∷ []) outer.0 in
          (parts.0, subst (IsStrictlySortedBy path_cmp) deep outer.1.0, subst (IsStrictlySortedBy path_cmp) (rest_in test) parts.1.0))
        where
          deep : pending_in test below ≡ paths_below test (directory.dir ++ name ∷ []) sub
          deep = ap (λ d. paths_where test (nodes_under d (branches_of below.left.now))) at ∙ ap (λ b. paths_where test (nodes_under (directory.dir ++ name ∷ []) b)) (ap branches_of all_left ∙ branches_of-children sub.branches)

    module _ (new_files new_entered : List Path) (file_is : new_files ≡ files ++ path_if (is_file accepts (node_at (directory.dir ++ name ∷ []) sub)) (directory.dir ++ name ∷ [])) where
      way_past : (is_entered_directory visit (node_at (directory.dir ++ name ∷ []) sub)) ≡ false → new_entered ≡ entered →
          paths_below (is_file accepts) (directory.dir ++ name ∷ []) sub ≡ [] → paths_below (is_entered_directory visit) (directory.dir ++ name ∷ []) sub ≡ [] →
          WalkInvariant accepts opens visit tree files entered (further ++ directory ∷ []) → WalkInvariant accepts opens visit tree new_files new_entered (further ++ next ∷ [])
      way_past not_entered same no_file none way =
          let under = all_append_parts (IsValidFrame accepts opens visit) further (directory ∷ []) way.under_way in
          let names = under.1.0.by_name in record {
            of_files = past_leaf (is_file accepts) _ files new_files names file_is no_file way.of_files;
            of_directories = past_leaf (is_entered_directory visit) _ entered new_entered names (same ∙ sym (append-nil entered) ∙ ap (λ b. entered ++ path_if b child) (sym not_entered)) none way.of_directories;
            under_way = all-append (IsValidFrame accepts opens visit) further (next ∷ []) under.0 (next_under_way under.1.0, tt);
            only_open = subst (AllByRecursion (λ dir. (dir ≡ []) ⊎ (opens dir ≡ true))) (sym same) way.only_open;
          }

      pub way_below : (below : Frame) (known : VisitSpec) → DeterminesWalk accepts opens visit (directory.dir ++ name ∷ []) known → IsNewFrame (directory.dir ++ name ∷ []) known sub below → has_branches sub.branches ≡ true →
          opens (directory.dir ++ name ∷ []) ≡ true → new_entered ≡ entered ++ (directory.dir ++ name ∷ []) ∷ [] →
          WalkInvariant accepts opens visit tree files entered (further ++ directory ∷ []) → WalkInvariant accepts opens visit tree new_files new_entered ((further ++ next ∷ []) ++ below ∷ [])
      way_below below known on opened has open_there is way =
          let under = all_append_parts (IsValidFrame accepts opens visit) further (directory ∷ []) way.under_way in
          let names = under.1.0.by_name in
          let itself = entered_itself accepts opens visit child sub known on has ∙ opened.entered in record {
            of_files = past_directory (is_file accepts) _ files new_files names file_is below opened.path opened.left way.of_files;
            of_directories = past_directory (is_entered_directory visit) _ entered new_entered names (is ∙ ap (λ b. entered ++ path_if b child) (sym itself)) below opened.path opened.left way.of_directories;
            under_way = all-append (IsValidFrame accepts opens visit) (further ++ next ∷ []) (below ∷ []) (all-append (IsValidFrame accepts opens visit) further (next ∷ []) under.0 (next_under_way under.1.0, tt)) (opened_is_under_way accepts opens visit child known sub below on opened, tt);
            only_open = subst (AllByRecursion (λ dir. (dir ≡ []) ⊎ (opens dir ≡ true))) (sym is) (all-append (λ dir. (dir ≡ []) ⊎ (opens dir ≡ true)) entered (child ∷ []) way.only_open (inr open_there, tt));
          }

-- the invariant at the start: the root is entered, or not
module _ (accepts opens : Path → Bool) (visit : Path → VisitSpec) (tree : Tree Bool) where
  alone : (test : NodeAt Bool → Bool) (all : List Path) → all ≡ [] → CompletesTo test all [] []
  alone test all e = record { whole = sym e; ordered = λ h. subst (IsStrictlySortedBy path_cmp) (sym e) sorted_none }

  pub way_without_children : has_branches tree.branches ≡ false → WalkInvariant accepts opens visit tree [] [] []
  way_without_children e = record {
    of_files = alone (is_file accepts) _ (nothing_below (is_file accepts) [] tree.branches e);
    of_directories = alone (is_entered_directory visit) _ (from_parts false (not_without_children accepts opens visit [] tree e) ∙ nothing_below (is_entered_directory visit) [] tree.branches e);
    under_way = tt;
    only_open = tt;
  }
    where
      from_parts : (t : Bool) → is_entered_directory visit (node_at [] tree) ≡ t → entered_by visit tree ≡ path_if t [] ++ paths_below (is_entered_directory visit) [] tree
      from_parts t e = paths_where_first (is_entered_directory visit) [] tree (nodes_under [] tree.branches) ∙ ap (λ b. path_if b [] ++ paths_below (is_entered_directory visit) [] tree) e

  module _ (known : VisitSpec) (on : DeterminesWalk accepts opens visit [] known) (has : has_branches tree.branches ≡ true) where
    root_first : (t : Bool) → is_entered known ≡ t → entered_by visit tree ≡ path_if t [] ++ paths_below (is_entered_directory visit) [] tree
    root_first t e = paths_where_first (is_entered_directory visit) [] tree (nodes_under [] tree.branches) ∙ ap (λ b. path_if b [] ++ paths_below (is_entered_directory visit) [] tree) (entered_itself accepts opens visit [] tree known on has ∙ e)

    pub way_at_root : (root : Frame) (entered : List Path) → entered ≡ [] ∷ [] → IsNewFrame [] known tree root → WalkInvariant accepts opens visit tree [] entered (root ∷ [])
    way_at_root root entered is opened = record {
      of_files = record { whole = deep (is_file accepts); ordered = λ h. subst (IsStrictlySortedBy path_cmp) (deep (is_file accepts)) h.0 };
      of_directories = record {
        whole = ap (λ l. l ++ pending_in (is_entered_directory visit) root) is ∙ ap (λ l. [] ∷ l) (deep (is_entered_directory visit)) ∙ sym (root_first true opened.entered);
        ordered = λ h. subst (IsStrictlySortedBy path_cmp) (sym (root_first true opened.entered))
            (sorted-cons [] _ (all_anywhere (λ y. path_cmp [] y ≡ Less) (is_entered_directory visit) [] tree.branches (λ n rest. before_below [] n rest)) (subst (IsStrictlySortedBy path_cmp) (deep (is_entered_directory visit)) h.0));
      };
      under_way = (opened_is_under_way accepts opens visit [] known tree root on opened, tt);
      only_open = subst (AllByRecursion (λ dir. (dir ≡ []) ⊎ (opens dir ≡ true))) (sym is) (inl refl, tt);
    }
      where
        deep : (test : NodeAt Bool → Bool) → pending_in test root ≡ paths_below test [] tree
        deep test = ap (λ d. paths_where test (nodes_under d (branches_of root.left.now))) opened.path ∙ ap (λ b. paths_where test (nodes_under [] b)) (ap branches_of opened.left ∙ branches_of-children tree.branches)

  pub way_past_root : (known : VisitSpec) → DeterminesWalk accepts opens visit [] known → has_branches tree.branches ≡ true → is_entered known ≡ false → WalkInvariant accepts opens visit tree [] [] []
  way_past_root all_recursively on has e = absurd (false≢true (sym e))
  way_past_root (specific dirs files) on has e = absurd (false≢true (sym e))
  way_past_root nothing on has e = record {
    of_files = alone (is_file accepts) _ (no_files accepts opens visit [] tree on);
    of_directories = alone (is_entered_directory visit) _ (root_first nothing on has false refl ∙ none_entered accepts opens visit [] tree on);
    under_way = tt;
    only_open = tt;
  }

  no_entry : (known : VisitSpec) → is_entered known ≡ false → known ≡ nothing
  no_entry all_recursively e = absurd (false≢true (sym e))
  no_entry (specific dirs files) e = absurd (false≢true (sym e))
  no_entry nothing e = refl

  same_way : (files new_files entered new_entered : List Path) (stack new_stack : List Frame) → new_files ≡ files → new_entered ≡ entered → new_stack ≡ stack →
      WalkInvariant accepts opens visit tree files entered stack → WalkInvariant accepts opens visit tree new_files new_entered new_stack
  same_way files new_files entered new_entered stack new_stack f e u way =
      subst (λ l. WalkInvariant accepts opens visit tree l new_entered new_stack) (sym f)
      (subst (λ l. WalkInvariant accepts opens visit tree files l new_stack) (sym e)
      (subst (WalkInvariant accepts opens visit tree files entered) (sym u) way))

  -- after `enter_root`, for a root without and with children
  pub begins_without_children : (files entered : List Path) (stack : List Frame) → files ≡ [] → entered ≡ [] → stack ≡ [] → has_branches tree.branches ≡ false → WalkInvariant accepts opens visit tree files entered stack
  begins_without_children files entered stack f e u none = same_way [] files [] entered [] stack f e u (way_without_children none)

  pub begins : (files new_files entered new_entered : List Path) (stack new_stack : List Frame) (root asked : Path) (known : VisitSpec) → files ≡ [] → entered ≡ [] → stack ≡ [] → new_files ≡ files → root ≡ [] → asked ≡ [] →
      has_branches tree.branches ≡ true → IsSound accepts opens asked known → known ≡ visit asked → PushesFrame root known tree entered new_entered stack new_stack → WalkInvariant accepts opens visit tree new_files new_entered new_stack
  begins files new_files entered new_entered stack new_stack root asked known f e u same at at' has sound is walk_enters = by_entry (subst (λ r. PushesFrame r known tree entered new_entered stack new_stack) at walk_enters)
    where
      on : DeterminesWalk accepts opens visit [] known
      on = root_goes_on accepts opens visit known (subst (λ d. IsSound accepts opens d known) at' sound) (sym (is ∙ ap visit at'))

      by_entry : PushesFrame [] known tree entered new_entered stack new_stack → WalkInvariant accepts opens visit tree new_files new_entered new_stack
      by_entry (inl h) = same_way [] new_files [] new_entered [] new_stack (same ∙ f) (h.1 ∙ e) (h.2 ∙ u) (way_past_root known on has h.0)
      by_entry (inr h) = same_way [] new_files new_entered new_entered (h.0 ∷ []) new_stack (same ∙ f) refl (h.3 ∙ ap (λ l. l ++ h.0 ∷ []) u) (way_at_root known on has h.0 new_entered (h.2 ∙ ap (λ l. l ++ [] ∷ []) e) h.1)

  module _ (files entered : List Path) (further : List Frame) (directory : Frame) (name : Name) (sub : Tree Bool) (after : Bor (List (Name × Tree Bool))) (left : directory.left.now ≡ (name, sub) ∷ after.now)
      (new_files old_entered : List Path) (file_is : new_files ≡ files ++ path_if (is_file accepts (node_at (directory.dir ++ name ∷ []) sub)) (directory.dir ++ name ∷ [])) (e : old_entered ≡ entered) where
    -- a step at a child without children
    pub goes_on_past : (stack : List Frame) → stack ≡ further ++ with_left directory after ∷ [] → has_branches sub.branches ≡ false →
        WalkInvariant accepts opens visit tree files entered (further ++ directory ∷ []) → WalkInvariant accepts opens visit tree new_files old_entered stack
    goes_on_past stack u none way =
        subst (WalkInvariant accepts opens visit tree new_files old_entered) (sym u)
        (way_past accepts opens visit tree files entered further directory (with_left directory after) name sub after.now left refl refl refl new_files old_entered file_is
        (not_without_children accepts opens visit (directory.dir ++ name ∷ []) sub none) e
        (nothing_below (is_file accepts) (directory.dir ++ name ∷ []) sub.branches none) (nothing_below (is_entered_directory visit) (directory.dir ++ name ∷ []) sub.branches none) way)

    -- a step at a child with children, below which nothing is accepted
    pub goes_on_without : (stack : List Frame) → stack ≡ further ++ with_left directory after ∷ [] → has_branches sub.branches ≡ true → DeterminesWalk accepts opens visit (directory.dir ++ name ∷ []) nothing →
        WalkInvariant accepts opens visit tree files entered (further ++ directory ∷ []) → WalkInvariant accepts opens visit tree new_files old_entered stack
    goes_on_without stack u has on way =
        subst (WalkInvariant accepts opens visit tree new_files old_entered) (sym u)
        (way_past accepts opens visit tree files entered further directory (with_left directory after) name sub after.now left refl refl refl new_files old_entered file_is
        (entered_itself accepts opens visit (directory.dir ++ name ∷ []) sub nothing on has) e
        (no_files accepts opens visit (directory.dir ++ name ∷ []) sub on) (none_entered accepts opens visit (directory.dir ++ name ∷ []) sub on) way)

    -- a step at a child with children and a visit
    pub goes_on_below : (new_entered : List Path) (stack new_stack : List Frame) (path : Path) (known : VisitSpec) → stack ≡ further ++ with_left directory after ∷ [] → path ≡ directory.dir ++ name ∷ [] →
        has_branches sub.branches ≡ true → DeterminesWalk accepts opens visit path known → (is_entered known ≡ true → opens path ≡ true) → PushesFrame path known sub old_entered new_entered stack new_stack →
        WalkInvariant accepts opens visit tree files entered (further ++ directory ∷ []) → WalkInvariant accepts opens visit tree new_files new_entered new_stack
    goes_on_below new_entered stack new_stack path known u at has goes open_there walk_enters way =
        by_entry (subst (λ p. PushesFrame p known sub old_entered new_entered stack new_stack) at walk_enters)
      where
        on : DeterminesWalk accepts opens visit (directory.dir ++ name ∷ []) known
        on = subst (λ p. DeterminesWalk accepts opens visit p known) at goes

        by_entry : PushesFrame (directory.dir ++ name ∷ []) known sub old_entered new_entered stack new_stack → WalkInvariant accepts opens visit tree new_files new_entered new_stack
        by_entry (inl h) =
            subst (λ l. WalkInvariant accepts opens visit tree new_files l new_stack) (sym h.1)
            (goes_on_without new_stack (h.2 ∙ u) has (subst (DeterminesWalk accepts opens visit (directory.dir ++ name ∷ [])) (no_entry known h.0) on) way)
        by_entry (inr h) =
            same_way new_files new_files new_entered new_entered ((further ++ with_left directory after ∷ []) ++ h.0 ∷ []) new_stack refl refl (h.3 ∙ ap (λ s. s ++ h.0 ∷ []) u)
            (way_below accepts opens visit tree files entered further directory (with_left directory after) name sub after.now left refl refl refl new_files new_entered file_is
            h.0 known on h.1 has (ap opens (sym at) ∙ open_there h.1.entered) (h.2 ∙ ap (λ s. s ++ (directory.dir ++ name ∷ []) ∷ []) e) way)

-- each step decreases the termination measure
pub less_finished : (further : List Frame) (directory : Frame) → walk_measure further < walk_measure (further ++ directory ∷ [])
less_finished further directory = omega (arith, walk_measure-snoc further directory)

module _ (further : List Frame) (directory next : Frame) (name : Name) (sub : Tree Bool) (after : List (Name × Tree Bool)) (left : directory.left.now ≡ (name, sub) ∷ after) (rest : next.left.now ≡ after) where
  pub less_past : walk_measure (further ++ next ∷ []) < walk_measure (further ++ directory ∷ [])
  less_past = omega (arith, walk_measure-snoc further next, walk_measure-snoc further directory, ap (λ l. branch_count (branches_of l)) left, ap (λ l. branch_count (branches_of l)) rest)

  pub less_below : (entered new_entered : List Path) (stack new_stack : List Frame) (path : Path) (known : VisitSpec) → stack ≡ further ++ next ∷ [] → PushesFrame path known sub entered new_entered stack new_stack → walk_measure new_stack < walk_measure (further ++ directory ∷ [])
  less_below entered new_entered stack new_stack path known u (inl h) = omega (arith, ap walk_measure (h.2 ∙ u), less_past)
  less_below entered new_entered stack new_stack path known u (inr h) =
      omega (
        arith,
        ap walk_measure (h.3 ∙ ap (λ s. s ++ h.0 ∷ []) u),
        walk_measure-snoc (further ++ next ∷ []) h.0,
        walk_measure-snoc further next,
        walk_measure-snoc further directory,
        ap (λ l. branch_count (branches_of l)) left,
        ap (λ l. branch_count (branches_of l)) rest,
        ap branch_count (ap branches_of h.1.left ∙ branches_of-children sub.branches),
      )

-- a list of length zero is empty
pub no_length : {X : Type 0} (xs : List X) → length xs ≡ 0 → xs ≡ []
no_length [] e = refl
no_length (x ∷ xs) e = absurd (omega arith)
