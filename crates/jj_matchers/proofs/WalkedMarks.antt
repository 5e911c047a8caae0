-- The marks that a walk of sorted marks keeps are those that it has to find; it has one result.
use Rattle.std.proofs.Common.{◌≡◌, ◌≢◌, ◌⊎◌, inl, inr, ◌↔◌, Bool, true, false, List, [], ◌∷◌, ◌++◌, filter, Contains, cond, ap, subst, sym, ◌∙◌, refl, arith}
use mathlib.Core.Bool.{false≢true}
use Rattle.std.proofs.lemmas.List.Kept.{IsStrictlySortedBy-filter}
use Rattle.jj_paths.specs.Paths.{Path, path_cmp}
use Rattle.jj_matchers.specs.MarkWalk.{IsAboveMark, WalksMarks}
use Rattle.jj_matchers.specs.MarkWalkInvariants.{is_found}
use Rattle.jj_matchers.specs.VisitSpecs.{VisitSpec}
use Rattle.jj_matchers.specs.Walk.{AreInOrder, walk_enters}
use Rattle.jj_matchers.proofs.PathSpans.{contains_cases, contains_first, contains_later, same_sorted}

-- the elements of a filtered list
kept_is : (test : Path → Bool) (xs : List Path) (x : Path) → Contains (filter test xs) x → Contains xs x × (test x ≡ true)
kept_is test [] x h = absurd (false≢true (nothing h))
  where
    nothing : Contains [] x → false ≡ true
    nothing (k, lt, e) = absurd (omega (arith, lt))
kept_is test (y ∷ ys) x h = by_test (kept_is test ys x) (test y) refl h
  where
    by_test : (Contains (filter test ys) x → Contains ys x × (test x ≡ true)) → (b : Bool) → test y ≡ b → Contains (cond b (y ∷ filter test ys) (filter test ys)) x → Contains (y ∷ ys) x × (test x ≡ true)
    by_test rest false e h = let r = rest h in (contains_later y ys x r.0, r.1)
    by_test rest true e h = by_case (contains_cases y (filter test ys) x h)
      where
        by_case : (y ≡ x) ⊎ Contains (filter test ys) x → Contains (y ∷ ys) x × (test x ≡ true)
        by_case (inl same) = (subst (Contains (y ∷ ys)) same (contains_first y ys), sym (ap test same) ∙ e)
        by_case (inr later) = let r = rest later in (contains_later y ys x r.0, r.1)

is_kept : (test : Path → Bool) (xs : List Path) (x : Path) → Contains xs x → test x ≡ true → Contains (filter test xs) x
is_kept test [] x (k, lt, e) t = absurd (omega (arith, lt))
is_kept test (y ∷ ys) x h t = by_case (is_kept test ys x) (contains_cases y ys x h) (test y) refl
  where
    by_case : (Contains ys x → test x ≡ true → Contains (filter test ys) x) → (y ≡ x) ⊎ Contains ys x → (b : Bool) → test y ≡ b → Contains (cond b (y ∷ filter test ys) (filter test ys)) x
    by_case rest (inl same) true e = subst (Contains (y ∷ filter test ys)) same (contains_first y (filter test ys))
    by_case rest (inl same) false e = absurd (false≢true (sym e ∙ ap test same ∙ t))
    by_case rest (inr later) true e = contains_later y (filter test ys) x (rest later t)
    by_case rest (inr later) false e = rest later t

not_found_root : (accepts : Path → Bool) (path : Path) → is_found accepts path ≡ true → (path ≢ []) × (accepts path ≡ true)
not_found_root accepts [] h = absurd (false≢true h)
not_found_root accepts (name ∷ rest) h = ((λ e. cc), h)

found_below : (accepts : Path → Bool) (path : Path) → path ≢ [] → accepts path ≡ true → is_found accepts path ≡ true
found_below accepts [] ne h = absurd (ne refl)
found_below accepts (name ∷ rest) ne h = h

-- the files and directories of sorted marks are those of the marks
pub walks_marks : (accepts : Path → Bool) (visit : Path → VisitSpec) (marks sorted files entered : List Path)
    → ((path : Path) → Contains sorted path ↔ Contains marks path) → AreInOrder sorted → files ≡ filter (is_found accepts) sorted → AreInOrder entered
    → ((dir : Path) → Contains entered dir ↔ ((walk_enters visit [] dir ≡ true) × IsAboveMark sorted dir)) → WalksMarks accepts visit marks files entered
walks_marks accepts visit marks sorted files entered same ascending found up are = record {
  found = λ path. (to_file path, from_file path);
  opened = λ dir. (to_directory dir, from_directory dir);
  files_ordered = subst AreInOrder (sym found) (IsStrictlySortedBy-filter path_cmp (is_found accepts) sorted ascending);
  entered_ordered = up;
}
  where
    to_file : (path : Path) → Contains files path → Contains marks path × (path ≢ []) × (accepts path ≡ true)
    to_file path h =
        let kept = kept_is (is_found accepts) sorted path (subst (λ l. Contains l path) found h) in
        let parts = not_found_root accepts path kept.1 in
        ((same path).0 kept.0, parts.0, parts.1)

    from_file : (path : Path) → Contains marks path × (path ≢ []) × (accepts path ≡ true) → Contains files path
    from_file path (marked, below, accepted) =
        subst (λ l. Contains l path) (sym found) (is_kept (is_found accepts) sorted path ((same path).1 marked) (found_below accepts path below accepted))

    to_directory : (dir : Path) → Contains entered dir → IsAboveMark marks dir × (walk_enters visit [] dir ≡ true)
    to_directory dir h =
        let (on, above) = (are dir).0 h in
        let (name, rest, marked) = above in
        ((name, rest, (same (dir ++ name ∷ rest)).0 marked), on)

    from_directory : (dir : Path) → IsAboveMark marks dir × (walk_enters visit [] dir ≡ true) → Contains entered dir
    from_directory dir (above, on) =
        let (name, rest, marked) = above in
        (are dir).1 (on, (name, rest, (same (dir ++ name ∷ rest)).1 marked))

-- a walk of marks has one result
pub walks_once : (accepts : Path → Bool) (visit : Path → VisitSpec) (marks files files' entered entered' : List Path)
    → WalksMarks accepts visit marks files entered → WalksMarks accepts visit marks files' entered' → (files ≡ files') × (entered ≡ entered')
walks_once accepts visit marks files files' entered entered' a b = (
  same_sorted files files' a.files_ordered b.files_ordered (λ path h. (b.found path).1 ((a.found path).0 h)) (λ path h. (a.found path).1 ((b.found path).0 h)),
  same_sorted entered entered' a.entered_ordered b.entered_ordered (λ dir h. (b.opened dir).1 ((a.opened dir).0 h)) (λ dir h. (a.opened dir).1 ((b.opened dir).0 h)),
)
