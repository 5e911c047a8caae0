-- Components of a file system path, split at slashes, as components of a repository path.
use Rattle.std.proofs.Common.{◌≡◌, ℕ, suc, ◌+◌, ◌-◌, ◌<◌, ◌≤◌, Bool, true, false, not, cond, ◌||◌, List, [], ◌∷◌, ◌++◌, eqb, length, get_or, take, drop, filter, eqb-true, append-nil, Some, refl, sym, ap, ap₂, subst, ◌∙◌, arith, add-one, drop-cons, take-append-drop, length-take}
use Rattle.std.specs.List.{list_all, find, slice_index}
use Rattle.std.specs.Str.{bytes_eq, is_utf8}
use Rattle.std.specs.Path.{slash, root_dir, cur_dir, parent_dir, is_dot_at, first_piece, later_pieces, is_name, path_names, path_components}
use Rattle.std.proofs.lemmas.List.{take_rest, get_or-take, drop_all}
use Rattle.std.proofs.lemmas.Bool.{and_parts, and_from, ne_eqb}
use Rattle.std.proofs.lemmas.List.Elements.{filter-append}
use Rattle.jj_paths.specs.Paths.{is_name as is_repo_name}
use Rattle.jj_paths.specs.RelativePaths.{is_disallowed, without_lone_dot, relative_components}
use Rattle.jj_paths.proofs.PathStrings.{is_plain}

by_test : {G : Type 0} (b : Bool) → (b ≡ true → G) → (b ≡ false → G) → G
by_test true holds fails = holds refl
by_test false holds fails = fails refl

-- the string has no slash
abbrev pub Lacks : List ℕ → Type 0
Lacks text = (k : ℕ) → k < length text → get_or text k 0 ≡ slash → ⊥

-- splitting `xs/ys` yields the pieces of `xs` and then those of `ys`
first-append : (xs ys : List ℕ) → first_piece (xs ++ slash ∷ ys) ≡ first_piece xs
first-append [] ys = refl
first-append (x ∷ xs) ys = ap (λ l. cond (eqb x slash) [] (x ∷ l)) (first-append xs ys)

later-append : (xs ys : List ℕ) → later_pieces (xs ++ slash ∷ ys) ≡ later_pieces xs ++ (first_piece ys ∷ later_pieces ys)
later-append [] ys = refl
later-append (x ∷ xs) ys =
    by_test (eqb x slash) (λ e. rw e (ap₂ (λ a b. a ∷ b) (first-append xs ys) (later-append xs ys))) (λ e. rw e (later-append xs ys))

names-append : (xs ys : List ℕ) → path_names (xs ++ slash ∷ ys) ≡ path_names xs ++ path_names ys
unfolding path_names
names-append xs ys =
    ap (filter is_name) (ap₂ (λ a b. a ∷ b) (first-append xs ys) (later-append xs ys))
    ∙ filter-append is_name (first_piece xs ∷ later_pieces xs) (first_piece ys ∷ later_pieces ys)

-- a string without slashes is one piece
lacks-rest : (x : ℕ) (xs : List ℕ) → Lacks (x ∷ xs) → Lacks xs
lacks-rest x xs h = λ k l. h (suc k) (omega arith)

first-whole : (xs : List ℕ) → Lacks xs → first_piece xs ≡ xs
first-whole [] h = refl
first-whole (x ∷ xs) h = let e : eqb x slash ≡ false = ne_eqb x slash (h 0 (omega arith)) in rw e (ap (λ l. x ∷ l) (first-whole xs (lacks-rest x xs h)))

later-none : (xs : List ℕ) → Lacks xs → later_pieces xs ≡ []
later-none [] h = refl
later-none (x ∷ xs) h = let e : eqb x slash ≡ false = ne_eqb x slash (h 0 (omega arith)) in rw e (later-none xs (lacks-rest x xs h))

-- a string without slashes has at most one component, itself
names-plain : (text : List ℕ) → Lacks text → path_names text ≡ filter is_name (text ∷ [])
unfolding path_names
names-plain text h = ap (filter is_name) (ap₂ (λ a b. a ∷ b) (first-whole text h) (later-none text h))

-- the empty string has no components
names-none : path_names [] ≡ []
unfolding path_names
names-none = refl

pub names-empty : (text : List ℕ) → true ≡ eqb (length text) 0 → path_names text ≡ []
names-empty [] e = names-none
names-empty (b ∷ bs) e = let none : length (b ∷ bs) ≡ 0 = eqb-true (length (b ∷ bs)) 0 (sym e) in absurd (omega arith)

-- the components of a path, split at its first slash
pub names-cut : (path : List ℕ) (i : ℕ) → i < length path → get_or path i 0 ≡ slash → ((k : ℕ) → k < i → get_or path k 0 ≡ slash → ⊥)
    → path_names path ≡ filter is_name (take i path ∷ []) ++ path_names (take (length path - (i + 1)) (drop (i + 1) path))
names-cut path i lt here before =
    let plain : Lacks (take i path) = λ k l e. let below : k < i = omega (arith, length-take i path, l) in before k below (sym (get_or-take i path k 0 below) ∙ e) in
    let rest : drop i path ≡ slash ∷ drop (i + 1) path = drop-cons path i 0 lt ∙ ap₂ (λ b n. b ∷ drop n path) here (sym (add-one i)) in
    let whole : path ≡ take i path ++ slash ∷ drop (i + 1) path = sym (take-append-drop i path) ∙ ap (λ l. take i path ++ l) rest in
    ap path_names whole ∙ names-append (take i path) (drop (i + 1) path)
    ∙ ap₂ (λ a b. a ++ path_names b) (names-plain (take i path) plain) (sym (take_rest path (i + 1)))

-- the components of a path without slashes
pub names-uncut : (path : List ℕ) (i : ℕ) → length path ≤ i → ((k : ℕ) → k < i → get_or path k 0 ≡ slash → ⊥)
    → path_names path ≡ filter is_name (path ∷ []) ++ path_names (take (length path - length path) (drop (length path) path))
names-uncut path i le before =
    let plain : Lacks path = λ k l e. before k (omega arith) e in
    let rest : take (length path - length path) (drop (length path) path) ≡ [] = take_rest path (length path) ∙ drop_all (length path) path (omega arith) in
    names-plain path plain ∙ sym (ap (λ l. filter is_name (path ∷ []) ++ path_names l) rest ∙ ap (λ l. filter is_name (path ∷ []) ++ l) names-none ∙ append-nil (filter is_name (path ∷ [])))

-- no piece has a slash
first-plain : (path : List ℕ) → is_plain (first_piece path) ≡ true
first-plain [] = refl
first-plain (b ∷ rest) = by_test (eqb b slash) (λ e. rw e refl) (λ e. rw e (and_from _ _ (ap not e) (first-plain rest)))

later-plain : (path : List ℕ) → list_all is_plain (later_pieces path) ≡ true
later-plain [] = refl
later-plain (b ∷ rest) = by_test (eqb b slash) (λ e. rw e (and_from _ _ (first-plain rest) (later-plain rest))) (λ e. rw e (later-plain rest))

-- a file system component without slashes is a valid repository component
repo-name : (part : List ℕ) → is_plain part ≡ true → is_name part ≡ true → is_repo_name part ≡ true
repo-name [] plain named = cc named
repo-name (b ∷ rest) plain named = plain

repo-names : (parts : List (List ℕ)) → list_all is_plain parts ≡ true → list_all is_repo_name (filter is_name parts) ≡ true
repo-names [] plain = refl
repo-names (part ∷ parts) plain =
    let both = and_parts (is_plain part) (list_all is_plain parts) plain in
    by_test (is_name part)
    (λ e. rw e (and_from _ _ (repo-name part both.0 e) (repo-names parts both.1)))
    (λ e. rw e (repo-names parts both.1))

pub names-valid : (path : List ℕ) → list_all is_repo_name (path_names path) ≡ true
unfolding path_names
names-valid path = repo-names (first_piece path ∷ later_pieces path) (and_from _ _ (first-plain path) (later-plain path))

not_or : (a b : Bool) → not (a || b) ≡ true → (a ≡ false) × (b ≡ false)
not_or true b e = cc e
not_or false true e = cc e
not_or false false e = (refl, refl)

all-kept : (parts : List (List ℕ)) → list_all is_name (filter is_name parts) ≡ true
all-kept [] = refl
all-kept (part ∷ parts) = by_test (is_name part) (λ e. rw e (and_from _ _ e (all-kept parts))) (λ e. rw e (all-kept parts))

all-names : (path : List ℕ) → list_all is_name (path_names path) ≡ true
unfolding path_names
all-names path = all-kept (first_piece path ∷ later_pieces path)

no-root : (name : List ℕ) → is_repo_name name ≡ true → bytes_eq name root_dir ≡ false
no-root [] named = cc named
no-root (b ∷ bs) named = by_test (eqb b 47) (λ e. let f : false ≡ true = rw e at named in cc f) (λ e. rw e refl)

-- a component other than `..` is not allowed if and only if it is not UTF-8
pub disallowed-not_utf8 : (path name : List ℕ) (rest : List (List ℕ)) → path_names path ≡ name ∷ rest → false ≡ bytes_eq name parent_dir → is_disallowed name ≡ not (is_utf8 name)
disallowed-not_utf8 path name rest is other =
    let named : is_name name ≡ true = (and_parts (is_name name) (list_all is_name rest) (subst (λ l. list_all is_name l ≡ true) is (all-names path))).0 in
    let valid : is_repo_name name ≡ true = (and_parts (is_repo_name name) (list_all is_repo_name rest) (subst (λ l. list_all is_repo_name l ≡ true) is (names-valid path))).0 in
    let root : bytes_eq name root_dir ≡ false = no-root name valid in
    let cur : bytes_eq name cur_dir ≡ false = (not_or (eqb (length name) 0) (bytes_eq name cur_dir) named).1 in
    rw (root, cur, ← other) refl

-- `without_lone_dot` changes nothing, since no component is `.`
kept-first : (part : List ℕ) (parts : List (List ℕ)) → is_name part ≡ true → without_lone_dot (part ∷ parts) ≡ part ∷ parts
kept-first part (next ∷ parts) named = refl
kept-first part [] named =
    let cur : bytes_eq part cur_dir ≡ false = (not_or (eqb (length part) 0) (bytes_eq part cur_dir) named).1 in rw cur refl

kept-names : (parts : List (List ℕ)) → without_lone_dot (filter is_name parts) ≡ filter is_name parts
kept-names [] = refl
kept-names (part ∷ parts) = by_test (is_name part) (λ e. rw e (kept-first part (filter is_name parts) e)) (λ e. rw e (kept-names parts))

-- the components of a path without a leading `/` or `.`
pub relative-names : (path : List ℕ) → eqb (slice_index path 0) slash ≡ false → is_dot_at path 0 ≡ false → relative_components path ≡ path_names path
unfolding path_components path_names
relative-names path root cur = rw (root, cur) (kept-names (first_piece path ∷ later_pieces path))

-- a leading `/` is the first component that is not allowed
disallowed-root : (names : List (List ℕ)) → find is_disallowed (without_lone_dot (root_dir ∷ names)) ≡ Some root_dir
disallowed-root [] = refl
disallowed-root (name ∷ names) = refl

pub relative-root : (path : List ℕ) → eqb (slice_index path 0) slash ≡ true → find is_disallowed (relative_components path) ≡ Some root_dir
unfolding path_components
relative-root path root = rw root (disallowed-root (path_names path))

-- a leading `.` is the root by itself, and not allowed before further components
pub relative-dot : (path : List ℕ) → eqb (slice_index path 0) slash ≡ false → is_dot_at path 0 ≡ true → path_names path ≡ [] → relative_components path ≡ []
unfolding path_components
relative-dot path root cur none = rw (root, cur, none) refl

pub relative-dot-name : (path name : List ℕ) (rest : List (List ℕ)) → eqb (slice_index path 0) slash ≡ false → is_dot_at path 0 ≡ true → path_names path ≡ name ∷ rest
    → find is_disallowed (relative_components path) ≡ Some cur_dir
unfolding path_components
relative-dot-name path name rest root cur some = rw (root, cur, some) refl
