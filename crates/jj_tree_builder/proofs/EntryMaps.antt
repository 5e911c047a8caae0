-- Entries of a directory as a map, and one step of writing a directory.
use Rattle.std.proofs.Common.{◌≡◌, ◌∙◌, ◌&&◌, not, ℕ, ◌<◌, arith, length, Bool, true, false, cond, List, [], ◌∷◌, ◌++◌, Option, Some, None, refl, sym, ap, subst, if◌then◌else◌}
use Rattle.std.specs.Prelude.{option_and_then, is_some, IsSome, IsTrue, IfOk, Result, Ok, Err, ◌↔◌}
use Rattle.std.specs.Option.{option_map, unwrap_or}
use Rattle.std.specs.Global.{Vec}
use Rattle.std.specs.BTreeMap.{BTreeMap, get}
use Rattle.std.specs.Map.{lookup}
use Rattle.std.specs.FinMap.{is_sorted}
use Rattle.std.specs.FinMap.Entries.{below_all}
use Rattle.std.specs.Ordering.{is_eq, is_lt}
use Rattle.std.specs.declared.cmp.Ordering.{Ordering}
use Rattle.std.specs.declared.cmp.Ordering.TheVariants.{Less, Equal, Greater}
use Rattle.std.specs.Str.{bytes_eq}
use Rattle.std.specs.Cmp.Lexicographic.{texts_ties}
use Rattle.std.proofs.lemmas.Bool.{and_parts}
use Rattle.std.proofs.lemmas.Slice.Eq.{bytes_eq-Decides}
use Rattle.jj_paths.specs.Paths.{Name, Path, name_cmp}
use Rattle.jj_backend.specs.Objects.{ById, Objects, AddsTree}
use Rattle.jj_backend.specs.Trees.{Entries, value_at}
use Rattle.jj_backend.specs.declared.backend.errors.BackendError.{BackendError}
use Rattle.jj_trees.proofs.StoredTries.{added_there}
use Rattle.jj_backend.specs.declared.backend.tree_value.TreeValue.{TreeValue}
use Rattle.jj_backend.specs.declared.backend.tree_value.TreeValue.TheVariants.{File, Symlink, Tree, GitSubmodule}
use Rattle.jj_trees.specs.TreeMerges.{child}
use Rattle.jj_tree_builder.specs.Changes.{Change, Files, changed, file_of, files_at, put}
use Rattle.jj_tree_builder.specs.PendingChanges.{changes_of, is_file, pending_files}
use Rattle.jj_tree_builder.specs.declared.tree_builder.Pending.{Pending}
use Rattle.jj_tree_builder.proofs.ChangedFiles.{changed-append, changed-cong, files_at-none, put-cong, put-none}

-- ---- tests of names

pub name_test : (a b : Name) → is_eq (name_cmp a b) ≡ bytes_eq a b
name_test a b = sym (texts_ties a b)

pub same_name : (a b : Name) → is_eq (name_cmp a b) ≡ true → a ≡ b
same_name a b h = (bytes_eq-Decides a b).0 (sym (name_test a b) ∙ h)

lookup-tests : {X : Type 0} (f g : Name → Bool) → ((k : Name) → f k ≡ g k) → (es : List (Name × X)) → lookup f es ≡ lookup g es
lookup-tests f g same [] = refl
lookup-tests f g same (e ∷ es) = ap (λ b. cond b (Some e.1) (lookup f es)) (same e.0) ∙ ap (λ o. cond (g e.0) (Some e.1) o) (lookup-tests f g same es)

pub get-lookup : {X : Type 0} (m : BTreeMap Name X) (name : Name) → get name_cmp m name ≡ lookup (bytes_eq name) m.entries
get-lookup m name = lookup-tests (λ k. is_eq (name_cmp name k)) (bytes_eq name) (name_test name) m.entries

-- the entry of a stored directory
pub child_at : (trees : ById Entries) (id : List ℕ) (entries : Entries) (name : Name) → trees id ≡ Some entries → child trees name (Some (Tree id)) ≡ lookup (bytes_eq name) entries
child_at trees id entries name is = ap (λ (o : Option Entries). option_and_then (λ es. lookup (bytes_eq name) es) o) is

-- ---- one more entry of a sorted list

lookup-skips : {X : Type 0} (test : Name → Bool) (xs : List (Name × X)) (e : Name × X) → lookup test xs ≡ None → lookup test (xs ++ e ∷ []) ≡ cond (test e.0) (Some e.1) None
lookup-skips test [] e is = refl
lookup-skips test (x ∷ xs) e is = by_test (λ h. lookup-skips test xs e h) (test x.0) is
  where
    by_test : (lookup test xs ≡ None → lookup test (xs ++ e ∷ []) ≡ cond (test e.0) (Some e.1) None)
        → (t : Bool) → cond t (Some x.1) (lookup test xs) ≡ None → cond t (Some x.1) (lookup test (xs ++ e ∷ [])) ≡ cond (test e.0) (Some e.1) None
    by_test hyp true h = absurd cc
    by_test hyp false h = hyp h

lookup-before : {X : Type 0} (test : Name → Bool) (xs : List (Name × X)) (e : Name × X) → test e.0 ≡ false → lookup test (xs ++ e ∷ []) ≡ lookup test xs
lookup-before test [] e is = ap (λ b. cond b (Some e.1) None) is
lookup-before test (x ∷ xs) e is = ap (λ o. cond (test x.0) (Some x.1) o) (lookup-before test xs e is)

bytes_eq-swap : (a b : List ℕ) (t : Bool) → bytes_eq a b ≡ t → bytes_eq b a ≡ t
bytes_eq-swap a b true h = (bytes_eq-Decides b a).1 (sym ((bytes_eq-Decides a b).0 h))
bytes_eq-swap a b false h = by_test (bytes_eq b a) refl
  where
    by_test : (s : Bool) → bytes_eq b a ≡ s → s ≡ false
    by_test true k = let e : bytes_eq a b ≡ true = (bytes_eq-Decides a b).1 (sym ((bytes_eq-Decides b a).0 k)) in let both : true ≡ false = sym e ∙ h in absurd cc
    by_test false k = refl

pub lookup-pushed : {X : Type 0} (xs : List (Name × X)) (e : Name × X) (name : Name) → lookup (bytes_eq e.0) xs ≡ None
    → lookup (bytes_eq name) (xs ++ e ∷ []) ≡ cond (is_eq (name_cmp e.0 name)) (Some e.1) (lookup (bytes_eq name) xs)
lookup-pushed xs e name absent = by_test (bytes_eq e.0 name) refl
  where
    by_test : (t : Bool) → bytes_eq e.0 name ≡ t → lookup (bytes_eq name) (xs ++ e ∷ []) ≡ cond (is_eq (name_cmp e.0 name)) (Some e.1) (lookup (bytes_eq name) xs)
    by_test true h =
        let is : e.0 ≡ name = (bytes_eq-Decides e.0 name).0 h in
        lookup-skips (bytes_eq name) xs e (subst (λ n. lookup (bytes_eq n) xs ≡ None) is absent)
        ∙ ap (λ b. cond b (Some e.1) None) (bytes_eq-swap e.0 name true h)
        ∙ ap (λ b. cond b (Some e.1) (lookup (bytes_eq name) xs)) (sym (name_test e.0 name ∙ h))
    by_test false h =
        lookup-before (bytes_eq name) xs e (bytes_eq-swap e.0 name false h)
        ∙ ap (λ b. cond b (Some e.1) (lookup (bytes_eq name) xs)) (sym (name_test e.0 name ∙ h))

below_all-last : {X : Type 0} (n : Name) (xs es : List (Name × X)) (e : Name × X) → below_all name_cmp n (xs ++ e ∷ es) ≡ true → is_lt (name_cmp n e.0) ≡ true
below_all-last n [] es e h = (and_parts _ _ h).0
below_all-last n (x ∷ xs) es e h = below_all-last n xs es e (and_parts _ _ h).1

not_both : (o : Ordering) → is_lt o ≡ true → is_eq o ≡ true → ⊥
not_both Less less equal = absurd cc
not_both Equal less equal = absurd cc
not_both Greater less equal = absurd cc

less_apart : (a b : Name) → is_lt (name_cmp a b) ≡ true → bytes_eq b a ≡ false
less_apart a b less = by_test (bytes_eq a b) refl
  where
    by_test : (t : Bool) → bytes_eq a b ≡ t → bytes_eq b a ≡ false
    by_test false h = bytes_eq-swap a b false h
    by_test true h = absurd (not_both (name_cmp a b) less (name_test a b ∙ h))

-- no earlier entry of a sorted list has the name
pub earlier_absent : {X : Type 0} (xs es : List (Name × X)) (e : Name × X) → is_sorted name_cmp (xs ++ e ∷ es) ≡ true → lookup (bytes_eq e.0) xs ≡ None
earlier_absent [] es e sorted = refl
earlier_absent (x ∷ xs) es e sorted =
    let p = and_parts _ _ sorted in
    ap (λ b. cond b (Some x.1) (lookup (bytes_eq e.0) xs)) (less_apart x.0 e.0 (below_all-last x.0 xs es e p.0)) ∙ earlier_absent xs es e p.1

-- ---- one step of writing a directory

abbrev items_of : Option (Vec Change) → List Change
items_of o = unwrap_or (option_map (λ (changes : Vec Change). changes.items) o) []

abbrev step_files : ById Entries → Path → Option (Vec Change) → Option TreeValue → Option TreeValue
step_files t p o w = changed t (items_of o) (files_at t w) p

module _ (t : ById Entries) (below below' : BTreeMap Name (Vec Change)) (entries entries1 entries' : BTreeMap Name TreeValue) (name : Name) (cs : Vec Change) (v base : Option TreeValue) where
  pub written_step : get name_cmp below name ≡ Some cs
      → ((q : Name) → get name_cmp below' q ≡ cond (is_eq (name_cmp name q)) None (get name_cmp below q))
      → base ≡ get name_cmp entries name
      → ((q : Name) → get name_cmp entries1 q ≡ cond (is_eq (name_cmp name q)) None (get name_cmp entries q))
      → ((q : Name) → get name_cmp entries' q ≡ (if is_eq (name_cmp name q) then v else get name_cmp entries1 q))
      → ((p : Path) → files_at t v p ≡ changed t cs.items (files_at t base) p)
      → (q : Name) (p : Path) → changed t (changes_of below' q) (files_at t (get name_cmp entries' q)) p ≡ changed t (changes_of below q) (files_at t (get name_cmp entries q)) p
  written_step has popped is_base removed set written q p = by_test (is_eq (name_cmp name q)) refl
    where
      by_test : (s : Bool) → is_eq (name_cmp name q) ≡ s → step_files t p (get name_cmp below' q) (get name_cmp entries' q) ≡ step_files t p (get name_cmp below q) (get name_cmp entries q)
      by_test true h =
          let same : name ≡ q = same_name name q h in
          ap (λ o. step_files t p o (get name_cmp entries' q)) (popped q ∙ ap (λ b. cond b None (get name_cmp below q)) h)
          ∙ ap (λ w. step_files t p None w) (set q ∙ ap (λ b. if b then v else get name_cmp entries1 q) h)
          ∙ written p
          ∙ ap (λ w. step_files t p (Some cs) w) is_base
          ∙ ap (λ o. step_files t p o (get name_cmp entries name)) (sym has)
          ∙ ap (λ n. step_files t p (get name_cmp below n) (get name_cmp entries n)) same
      by_test false h =
          ap (λ o. step_files t p o (get name_cmp entries' q)) (popped q ∙ ap (λ b. cond b None (get name_cmp below q)) h)
          ∙ ap (λ w. step_files t p (get name_cmp below q) w) (set q ∙ ap (λ b. if b then v else get name_cmp entries1 q) h ∙ removed q ∙ ap (λ b. cond b None (get name_cmp entries q)) h)

pub file_of-directory : (v : Option TreeValue) → is_file v ≡ false → file_of v ≡ None
file_of-directory None h = refl
file_of-directory (Some (Tree id)) h = refl
file_of-directory (Some (File id executable copy_id)) h = absurd cc
file_of-directory (Some (Symlink id)) h = absurd cc
file_of-directory (Some (GitSubmodule id)) h = absurd cc

-- ---- the empty tree

pub files_at-empty : (trees : ById Entries) (id : List ℕ) → trees id ≡ Some [] → (place : Path) → files_at trees (Some (Tree id)) place ≡ files_at trees None place
files_at-empty trees id is [] = refl
files_at-empty trees id is (name ∷ rest) = ap (λ o. files_at trees o rest) (child_at trees id [] name is)

-- ---- one more change

pub file_below : (t : ById Entries) (v : Option TreeValue) → is_file v ≡ true → (name : Name) (place : Path) → files_at t v (name ∷ place) ≡ None
file_below t None h name place = absurd cc
file_below t (Some (Tree id)) h name place = absurd cc
file_below t (Some (File id executable copy_id)) h name place = files_at-none t place
file_below t (Some (Symlink id)) h name place = files_at-none t place
file_below t (Some (GitSubmodule id)) h name place = files_at-none t place

pub changes_of-empty : (below : BTreeMap Name (Vec Change)) (name : Name) → below.entries ≡ [] → changes_of below name ≡ []
changes_of-empty below name e = ap (λ (es : List (Name × Vec Change)). unwrap_or (option_map (λ (changes : Vec Change). changes.items) (lookup (λ k. is_eq (name_cmp name k)) es)) []) e

-- a removal below a file changes nothing
file_ignores : (t : ById Entries) (p : Pending) (name : Name) (rest : Path) → is_file p.value ≡ true → p.below.entries ≡ []
    → (place : Path) → pending_files t p place ≡ put t (name ∷ rest) None (pending_files t p) place
file_ignores t p name rest file empty [] = refl
file_ignores t p name rest file empty (other ∷ l) = by_test (bytes_eq name other)
  where
    nothing : (r : Path) → pending_files t p (other ∷ r) ≡ None
    nothing r = ap (λ (cs : List Change). changed t cs (λ below. files_at t p.value (other ∷ below)) r) (changes_of-empty p.below other empty) ∙ file_below t p.value file other r

    by_test : (s : Bool) → pending_files t p (other ∷ l) ≡ (if s then put t rest None (λ below. pending_files t p (other ∷ below)) l else pending_files t p (other ∷ l))
    by_test true = nothing l ∙ sym (put-none t rest (λ below. pending_files t p (other ∷ below)) nothing l)
    by_test false = refl

pub ignored : (t : ById Entries) (p : Pending) (path : Path) (name : Name) (rest : Path) (v : Option TreeValue) → path ≡ name ∷ rest → (is_file p.value && not (is_some v)) ≡ true
    → (is_file p.value ≡ true → p.below.entries ≡ []) → (place : Path) → pending_files t p place ≡ put t path v (pending_files t p) place
ignored t p path name rest (Some w) is both open_below place = let both : false ≡ true = (and_parts _ _ both).1 in absurd cc
ignored t p path name rest None is both open_below place =
    let file = (and_parts _ _ both).0 in
    file_ignores t p name rest file (open_below file) place ∙ ap (λ (l : Path). put t l None (pending_files t p) place) (sym is)

pub pushed : (t : ById Entries) (old new : Pending) (path : Path) (name : Name) (rest : Path) (v : Option TreeValue) → path ≡ name ∷ rest
    → ((q : Name) → changes_of new.below q ≡ (if is_eq (name_cmp name q) then changes_of old.below q ++ (rest, v) ∷ [] else changes_of old.below q))
    → is_file new.value ≡ false → (is_file old.value && not (is_some v)) ≡ false
    → ((q : Name) (r : Path) → files_at t new.value (q ∷ r) ≡ files_at t old.value (q ∷ r))
    → (place : Path) → pending_files t new place ≡ put t path v (pending_files t old) place
pushed t old new path name rest v is changes directory room same place = by_place place ∙ ap (λ (l : Path). put t l v (pending_files t old) place) (sym is)
  where
    no_file : (w : Option TreeValue) → (is_file old.value && not (is_some w)) ≡ false → None ≡ (if is_some w then None else file_of old.value)
    no_file (Some w) h = refl
    no_file None h = by_test (is_file old.value) refl h
      where
        by_test : (s : Bool) → is_file old.value ≡ s → (s && true) ≡ false → None ≡ file_of old.value
        by_test true k h' = absurd cc
        by_test false k h' = sym (file_of-directory old.value k)

    by_place : (l : Path) → pending_files t new l ≡ put t (name ∷ rest) v (pending_files t old) l
    by_place [] = file_of-directory new.value directory ∙ no_file v room
    by_place (q ∷ l) =
        changed-cong t (changes_of new.below q) (λ r. files_at t new.value (q ∷ r)) (λ r. files_at t old.value (q ∷ r)) (same q) l
        ∙ ap (λ cs. changed t cs (λ r. files_at t old.value (q ∷ r)) l) (changes q)
        ∙ by_test (is_eq (name_cmp name q)) (bytes_eq name q) (name_test name q)
      where
        by_test : (s s' : Bool) → s ≡ s' → changed t (if s then changes_of old.below q ++ (rest, v) ∷ [] else changes_of old.below q) (λ r. files_at t old.value (q ∷ r)) l
            ≡ (if s' then put t rest v (λ below. pending_files t old (q ∷ below)) l else pending_files t old (q ∷ l))
        by_test true true e = changed-append t (changes_of old.below q) (rest, v) (λ r. files_at t old.value (q ∷ r)) l
        by_test false false e = refl
        by_test true false e = absurd cc
        by_test false true e = absurd cc

pub pushed_below : (old mid new : BTreeMap Name (Vec Change)) (name : Name) (cs taken : Vec Change) (c : Change) → taken.items ≡ changes_of old name → cs.items ≡ taken.items ++ c ∷ []
    → ((q : Name) → get name_cmp mid q ≡ (if is_eq (name_cmp name q) then None else get name_cmp old q))
    → ((q : Name) → get name_cmp new q ≡ cond (is_eq (name_cmp name q)) (Some cs) (get name_cmp mid q))
    → (other : Name) → changes_of new other ≡ (if is_eq (name_cmp name other) then changes_of old other ++ c ∷ [] else changes_of old other)
pushed_below old mid new name cs taken c took pushed_one removed inserted other = by_test (is_eq (name_cmp name other)) refl
  where
    by_test : (s : Bool) → is_eq (name_cmp name other) ≡ s → changes_of new other ≡ (if s then changes_of old other ++ c ∷ [] else changes_of old other)
    by_test true h =
        ap items_of (inserted other ∙ ap (λ b. cond b (Some cs) (get name_cmp mid other)) h) ∙ pushed_one ∙ ap (λ l. l ++ c ∷ []) took
        ∙ ap (λ n. changes_of old n ++ c ∷ []) (same_name name other h)
    by_test false h =
        ap items_of (inserted other ∙ ap (λ b. cond b (Some cs) (get name_cmp mid other)) h ∙ removed other ∙ ap (λ b. if b then None else get name_cmp old other) h)

-- ---- the end of writing a directory

no_file_above : (pending : Pending) → (is_file pending.value ≡ true → pending.below.entries ≡ []) → (pending.below.entries ≡ [] → ⊥) → is_file pending.value ≡ false
no_file_above pending open_below some = by_test (is_file pending.value) refl
  where
    by_test : (s : Bool) → is_file pending.value ≡ s → s ≡ false
    by_test true h = absurd (some (open_below h))
    by_test false h = refl

empty_from : {X : Type 0} (es : List X) → (0 < length es → ⊥) → es ≡ []
empty_from [] h = refl
empty_from (e ∷ es) h = absurd (h (omega arith))

pub is_none_from : {X Y : Type 0} (es : List X) (o : Option Y) → o ≡ None → (IsSome o ↔ (0 < length es)) → es ≡ []
is_none_from es o none h = empty_from es (λ lt. let both : false ≡ true = sym (ap is_some none) ∙ h.1 lt in absurd cc)

pub some_from : {X : Type 0} (es : List X) (r : Bool) → r ≡ false → (IsTrue r ↔ (length es ≡ 0)) → es ≡ [] → ⊥
some_from es r wrong h empty = let right : r ≡ true = h.1 (ap length empty) in let both : false ≡ true = sym wrong ∙ right in absurd cc

module _ (t : ById Entries) (pending : Pending) (result : Option TreeValue) (below : BTreeMap Name (Vec Change)) (entries0 entries : BTreeMap Name TreeValue) where
  pub finished : (is_file pending.value ≡ true → pending.below.entries ≡ []) → (pending.below.entries ≡ [] → ⊥) → is_file result ≡ false
      → ((name : Name) → child t name result ≡ get name_cmp entries name)
      → ((name : Name) → get name_cmp entries0 name ≡ child t name pending.value)
      → below.entries ≡ []
      → ((name : Name) (place : Path) → changed t (changes_of below name) (files_at t (get name_cmp entries name)) place ≡ changed t (changes_of pending.below name) (files_at t (get name_cmp entries0 name)) place)
      → (place : Path) → files_at t result place ≡ pending_files t pending place
  finished open_below some directory written read done invariant [] = file_of-directory result directory ∙ sym (file_of-directory pending.value (no_file_above pending open_below some))
  finished open_below some directory written read done invariant (name ∷ place) =
      ap (λ o. files_at t o place) (written name)
      ∙ ap (λ (cs : List Change). changed t cs (files_at t (get name_cmp entries name)) place) (sym (changes_of-empty below name done))
      ∙ invariant name place
      ∙ ap (λ o. changed t (changes_of pending.below name) (files_at t o) place) (read name)

-- ---- a written tree, and the entries of a tree

pub written_tree : (old new : Objects) (entries tree : Entries) (r : Result (List ℕ) BackendError) → IfOk r (λ id. AddsTree old new id tree) → ((name : Name) → value_at tree name ≡ value_at entries name)
    → IfOk r (λ id. (stored : Entries) × (new.trees id ≡ Some stored) × ((name : Name) → value_at stored name ≡ value_at entries name))
written_tree old new entries tree (Ok id) added same = (tree, added_there old new id tree added, same)
written_tree old new entries tree (Err e) added same = tt

pub entry_step : (xs rest tree : Entries) (e : Name × TreeValue) (old new : BTreeMap Name TreeValue) → xs ++ e ∷ rest ≡ tree → is_sorted name_cmp tree ≡ true
    → ((q : Name) → get name_cmp old q ≡ lookup (bytes_eq q) xs) → ((q : Name) → get name_cmp new q ≡ (if is_eq (name_cmp e.0 q) then Some e.1 else get name_cmp old q))
    → (q : Name) → get name_cmp new q ≡ lookup (bytes_eq q) (xs ++ e ∷ [])
entry_step xs rest tree e old new whole sorted found set q =
    set q ∙ ap (λ o. if is_eq (name_cmp e.0 q) then Some e.1 else o) (found q)
    ∙ sym (lookup-pushed xs e q (earlier_absent xs rest e (ap (is_sorted name_cmp) whole ∙ sorted)))
