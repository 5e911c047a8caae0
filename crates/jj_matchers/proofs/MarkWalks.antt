-- The loop invariant of `walk_marks` is established at the start and preserved by each step.
use Rattle.std.proofs.Common.{◌≡◌, ◌≢◌, ◌⊎◌, inl, inr, ℕ, zero, suc, ◌+◌, ◌-◌, ◌<◌, ◌≤◌, ◌↔◌, Bool, true, false, cond, Some, None, List, [], ◌∷◌, ◌++◌, length, take, drop, get_or, map, filter, Contains, refl, ap, sym, subst, ◌∙◌, arith, append_assoc, append-nil}
use mathlib.Core.Bool.{false≢true}
use Rattle.std.specs.declared.cmp.Ordering.TheVariants.{Less}
use Rattle.std.specs.List.{AllByRecursion}
use Rattle.std.specs.List.Sorted.{IsStrictlySortedBy}
use Rattle.std.proofs.lemmas.List.{length-append, length-map, get_or_push, get_or-take, take-append-le, take-append-drop, take-take, length-take-le}
use Rattle.std.proofs.Math.ListN.{get_or-append}
use Rattle.std.proofs.Math.Seq.{take-length}
use Rattle.std.proofs.lemmas.List.Elements.{All-append, All-from_recursion, Contains-append_left, Contains-append_right, Contains-append_cases, filter-append}
use Rattle.jj_paths.specs.Names.{path_of}
use Rattle.jj_paths.specs.Paths.{Name, Path, path_cmp}
use Rattle.std.specs.List.{slice_get}
use Rattle.std.proofs.lemmas.List.{take-map}
use Rattle.std.proofs.Math.ListN.{get_or-map}
use Rattle.jj_paths.specs.declared.repo_path.RepoPath.{RepoPath}
use Rattle.jj_paths.proofs.PathOrders.{before_below, sorted-append, sorted-cons, sorted_none}
use Rattle.jj_matchers.specs.VisitSpecs.{VisitSpec, IsSound, all_recursively, specific, nothing}
use Rattle.jj_matchers.specs.SortedVisits.{sorted_visit_spec}
use Rattle.jj_matchers.specs.Walk.{AreInOrder, is_entered, path_if, walk_enters}
use Rattle.jj_matchers.specs.WalkInvariants.{DeterminesWalk}
use Rattle.jj_matchers.specs.MarkWalk.{IsAboveMark}
use Rattle.jj_matchers.specs.MarkWalkInvariants.{DecidesFile, IsAtOrAbove, IsClosed, IsCutTo, IsFresh, IsFull, IsOnWay, IsOpenAt, IsValidOpen, WalkedMarks, dir_of, is_found, top}
use Rattle.jj_matchers.specs.declared.matchers.mark_walk.OpenDirectory.{OpenDirectory}
use Rattle.jj_matchers.proofs.PathSpans.{before_new, contains_cases, contains_first, cut_at, take_prefix}
use Rattle.jj_matchers.proofs.WalkSteps.{root_goes_on}

-- 1. Numbers and lists.

pub lt_cases : (i k : ℕ) → i < k + 1 → (i < k) ⊎ (i ≡ k)
lt_cases zero zero h = inr refl
lt_cases zero (suc k) h = inl (omega arith)
lt_cases (suc i) zero h = absurd (omega (arith, h))
lt_cases (suc i) (suc k) h = by_case (lt_cases i k (omega (arith, h)))
  where
    by_case : (i < k) ⊎ (i ≡ k) → (suc i < suc k) ⊎ (suc i ≡ suc k)
    by_case (inl lt) = inl (omega (arith, lt))
    by_case (inr is) = inr (ap suc is)

some_of : {X : Type 0} (xs : List X) → 0 < length xs → X
some_of [] lt = absurd (omega (arith, lt))
some_of (x ∷ xs) lt = x

all_from : {X : Type 0} (P : X → Type 0) (xs : List X) → ((x : X) → Contains xs x → P x) → AllByRecursion P xs
all_from P [] h = tt
all_from P (x ∷ xs) h = (h x (contains_first x xs), all_from P xs (λ y c. h y (suc c.0, omega (arith, c.1), c.2)))

the_only : (x y : Path) → Contains (x ∷ []) y → x ≡ y
the_only x y c = by_case (contains_cases x [] y c)
  where
    by_case : (x ≡ y) ⊎ Contains [] y → x ≡ y
    by_case (inl is) = is
    by_case (inr none) = absurd (omega (arith, none.1))

-- a shorter prefix of a path precedes a longer one
shorter_first : (path : Path) (i j : ℕ) → i < j → j ≤ length path → path_cmp (take i path) (take j path) ≡ Less
shorter_first path i j lt le =
    let cut = cut_at i (take j path) (omega (arith, lt, length-take-le j path le)) in
    let same : take i (take j path) ≡ take i path = take-take i j path (omega (arith, lt)) in
    subst (λ p. path_cmp (take i path) p ≡ Less) (sym (cut.2 ∙ ap (λ p. p ++ cut.0 ∷ cut.1) same)) (before_below (take i path) cut.0 cut.1)

in_path_if : (t : Bool) (dir x : Path) → Contains (path_if t dir) x → (t ≡ true) × (dir ≡ x)
in_path_if true dir x c = (refl, the_only dir x c)
in_path_if false dir x c = absurd (omega (arith, c.1))

from_path_if : (t : Bool) (dir : Path) → t ≡ true → Contains (path_if t dir) dir
from_path_if true dir e = contains_first dir []
from_path_if false dir e = absurd (false≢true e)

module _ (accepts opens : Path → Bool) (visit : Path → VisitSpec) where
  -- 2. Opening a directory.

  module _ (done : List Path) (path : Path) (entered new_entered : List Path) (stack : List OpenDirectory) (directory : OpenDirectory)
      (way : IsOnWay accepts opens visit done path entered stack) (more : IsClosed stack → ⊥) (below : length stack < length path)
      (is : dir_of directory ≡ take (length stack) path) (known : IsValidOpen accepts opens visit directory)
      (adds : new_entered ≡ entered ++ path_if (is_entered (sorted_visit_spec directory.visit)) (dir_of directory)) where
    abbrev grown : List OpenDirectory
    grown = stack ++ directory ∷ []

    longer : length grown ≡ length stack + 1
    longer = length-append stack (directory ∷ [])

    abbrev enters : Bool
    enters = is_entered (sorted_visit_spec directory.visit)

    grown_later : (j : ℕ) → length stack ≤ j → j < length path → (dir : Path) → Contains entered dir → path_cmp dir (take j path) ≡ Less
    grown_later = by_case way.fresh
      where
        by_case : IsFresh path entered stack → (j : ℕ) → length stack ≤ j → j < length path → (dir : Path) → Contains entered dir → path_cmp dir (take j path) ≡ Less
        by_case (inl closed) = absurd (more closed)
        by_case (inr grown_fresh) = grown_fresh

    grown_chain : (i : ℕ) (d : OpenDirectory) → i < length grown → dir_of (get_or grown i d) ≡ take i path
    grown_chain i d lt = by_case (lt_cases i (length stack) (omega (arith, lt, longer)))
      where
        by_case : (i < length stack) ⊎ (i ≡ length stack) → dir_of (get_or grown i d) ≡ take i path
        by_case (inl old) = ap dir_of (get_or-append stack (directory ∷ []) d i old) ∙ way.to.chain i d old
        by_case (inr last) = ap dir_of (get_or_push stack directory d i (sym last)) ∙ is ∙ ap (λ k. take k path) (sym last)

    grown_ascending : (enters : Bool) → AreInOrder (entered ++ path_if enters (dir_of directory))
    grown_ascending false = subst AreInOrder (sym (append-nil entered)) way.to.ascending
    grown_ascending true =
        sorted-append entered (dir_of directory ∷ []) way.to.ascending (sorted-cons (dir_of directory) [] tt sorted_none)
        (all_from (λ x. AllByRecursion (λ y. path_cmp x y ≡ Less) (dir_of directory ∷ [])) entered
        (λ x c. (subst (λ y. path_cmp x y ≡ Less) (sym is) (grown_later (length stack) (omega arith) below x c), tt)))

    grown_to : (dir : Path) → Contains (entered ++ path_if enters (dir_of directory)) dir → (walk_enters visit [] dir ≡ true) × (IsAboveMark done dir ⊎ IsOpenAt grown path dir)
    grown_to dir c = by_case (Contains-append_cases entered (path_if enters (dir_of directory)) dir c)
      where
        lift : IsAboveMark done dir ⊎ IsOpenAt stack path dir → IsAboveMark done dir ⊎ IsOpenAt grown path dir
        lift (inl above) = inl above
        lift (inr (i, lt, e)) = inr (i, omega (arith, lt, longer), e)

        by_case : Contains entered dir ⊎ Contains (path_if enters (dir_of directory)) dir → (walk_enters visit [] dir ≡ true) × (IsAboveMark done dir ⊎ IsOpenAt grown path dir)
        by_case (inl old) = let parts = (way.to.are dir).0 old in (parts.0, lift parts.1)
        by_case (inr one) =
            let parts = in_path_if enters (dir_of directory) dir one in
            (sym (ap (walk_enters visit []) parts.1) ∙ known.itself ∙ parts.0, inr (length stack, omega (arith, longer), sym parts.1 ∙ is))

    grown_from : (dir : Path) → (walk_enters visit [] dir ≡ true) × (IsAboveMark done dir ⊎ IsOpenAt grown path dir) → Contains (entered ++ path_if enters (dir_of directory)) dir
    grown_from dir (on, inl above) = Contains-append_left entered (path_if enters (dir_of directory)) dir ((way.to.are dir).1 (on, inl above))
    grown_from dir (on, inr (i, lt, e)) = by_case (lt_cases i (length stack) (omega (arith, lt, longer)))
      where
        by_case : (i < length stack) ⊎ (i ≡ length stack) → Contains (entered ++ path_if enters (dir_of directory)) dir
        by_case (inl old) = Contains-append_left entered (path_if enters (dir_of directory)) dir ((way.to.are dir).1 (on, inr (i, old, e)))
        by_case (inr last) =
            let same : dir ≡ dir_of directory = e ∙ ap (λ k. take k path) last ∙ sym is in
            Contains-append_right entered (path_if enters (dir_of directory)) dir
            (subst (Contains (path_if enters (dir_of directory))) (sym same) (from_path_if enters (dir_of directory) (sym known.itself ∙ sym (ap (walk_enters visit []) same) ∙ on)))

    grown_fresh : (s : Bool) → is_entered (sorted_visit_spec directory.visit) ≡ s → IsFresh path (entered ++ path_if s (dir_of directory)) grown
    grown_fresh false e = inl (omega (arith, longer), λ d. ap (λ (o : OpenDirectory). sorted_visit_spec o.visit) (get_or_push stack directory d (length grown - 1) (omega (arith, longer))) ∙ no_entry_of (sorted_visit_spec directory.visit) e)
      where
        no_entry_of : (v : VisitSpec) → is_entered v ≡ false → v ≡ nothing
        no_entry_of all_recursively e = absurd (false≢true (sym e))
        no_entry_of (specific dirs files) e = absurd (false≢true (sym e))
        no_entry_of nothing e = refl
    grown_fresh true e = inr (λ j le lt dir c. by_case j le lt dir (Contains-append_cases entered (dir_of directory ∷ []) dir c))
      where
        by_case : (j : ℕ) → length grown ≤ j → j < length path → (dir : Path) → Contains entered dir ⊎ Contains (dir_of directory ∷ []) dir → path_cmp dir (take j path) ≡ Less
        by_case j le lt dir (inl old) = grown_later j (omega (arith, le, longer)) lt dir old
        by_case j le lt dir (inr one) =
            subst (λ x. path_cmp x (take j path) ≡ Less) (sym is ∙ the_only (dir_of directory) dir one) (shorter_first path (length stack) j (omega (arith, le, longer)) (omega (arith, lt)))

    pub opened_next : IsOnWay accepts opens visit done path new_entered grown
    opened_next = subst (λ l. IsOnWay accepts opens visit done path l grown) (sym adds) (record {
      to = record {
        chain = grown_chain;
        valid = All-append (IsValidOpen accepts opens visit) stack (directory ∷ []) way.to.valid (All-from_recursion (IsValidOpen accepts opens visit) (directory ∷ []) (known, tt));
        within = omega (arith, longer, below);
        ascending = grown_ascending enters;
        are = λ dir. (grown_to dir, grown_from dir);
      };
      fresh = grown_fresh enters refl;
    })

  -- 3. Closing directories before the next mark.

  module _ (done files entered : List Path) (old new : List OpenDirectory) (walked : WalkedMarks accepts opens visit done files entered old)
      (above : Path) (name : Name) (path : Path) (whole : path ≡ above ++ name ∷ []) (cut : IsCutTo above old new)
      (follows : (earlier : Path) → Contains done earlier → path_cmp earlier path ≡ Less) where
    abbrev k : ℕ
    k = length new

    abbrev p : Path
    p = walked.last

    path_length : length path ≡ length above + 1
    path_length = ap length whole ∙ length-append above (name ∷ [])

    kept_at : (i : ℕ) (d : OpenDirectory) → i < k → get_or new i d ≡ get_or old i d
    kept_at i d lt = ap (λ l. get_or l i d) cut.is ∙ get_or-take k old i d lt

    front_is : (i : ℕ) (d : OpenDirectory) → i < k → dir_of (get_or new i d) ≡ take i p
    front_is i d lt = ap dir_of (kept_at i d lt) ∙ walked.to.chain i d (omega (arith, lt, cut.within))

    -- the last remaining directory is above the mark
    base : 0 < k → (rest : Path) × (above ≡ take (k - 1) p ++ rest)
    base lt = by_case cut.above
      where
        by_case : IsAtOrAbove above new → (rest : Path) × (above ≡ take (k - 1) p ++ rest)
        by_case (inl none) = absurd (omega (arith, lt, none))
        by_case (inr below) =
            let d = some_of new lt in
            let (rest, e) = below d in
            (rest, e ∙ ap (λ q. q ++ rest) (front_is (k - 1) d (omega (arith, lt))))

    k_within_last : k ≤ length p
    k_within_last = omega (arith, cut.within, walked.to.within)

    same_front : (i : ℕ) → i < k → take i path ≡ take i p
    same_front i lt =
        let (rest, e) = base (omega (arith, lt)) in
        let shape : path ≡ take (k - 1) p ++ (rest ++ name ∷ []) = whole ∙ ap (λ q. q ++ name ∷ []) e ∙ append_assoc (take (k - 1) p) rest (name ∷ []) in
        ap (take i) shape
        ∙ take-append-le i (take (k - 1) p) (rest ++ name ∷ []) (omega (arith, lt, length-take-le (k - 1) p (omega (arith, k_within_last))))
        ∙ take-take i (k - 1) p (omega (arith, lt))

    k_within : k ≤ length path
    k_within = by_case (lt_cases 0 k (omega arith))
      where
        by_case : (0 < k) ⊎ (0 ≡ k) → k ≤ length path
        by_case (inr none) = omega (arith, none)
        by_case (inl lt) =
            let (rest, e) = base lt in
            let long : length above ≡ length (take (k - 1) p) + length rest = ap length e ∙ length-append (take (k - 1) p) rest in
            omega (arith, lt, path_length, long, length-take-le (k - 1) p (omega (arith, k_within_last)))

    kept_to : (dir : Path) → Contains entered dir → (walk_enters visit [] dir ≡ true) × (IsAboveMark done dir ⊎ IsOpenAt new path dir)
    kept_to dir c = let parts = (walked.to.are dir).0 c in (parts.0, by_case parts.1)
      where
        by_from : (i : ℕ) → i < length old → dir ≡ take i p → (p ≡ []) ⊎ Contains done p → IsAboveMark done dir
        by_from i lt e (inl root) = absurd (omega (arith, lt, walked.to.within, ap length root))
        by_from i lt e (inr marked) =
            let (n, r, is) = cut_at i p (omega (arith, lt, walked.to.within)) in
            (n, r, subst (Contains done) (is ∙ ap (λ q. q ++ n ∷ r) (sym e)) marked)

        by_case : IsAboveMark done dir ⊎ IsOpenAt old p dir → IsAboveMark done dir ⊎ IsOpenAt new path dir
        by_case (inl marked) = inl marked
        by_case (inr (i, lt, e)) = inl (by_from i lt e walked.from)

    kept_from : (dir : Path) → (walk_enters visit [] dir ≡ true) × (IsAboveMark done dir ⊎ IsOpenAt new path dir) → Contains entered dir
    kept_from dir (on, inl marked) = (walked.to.are dir).1 (on, inl marked)
    kept_from dir (on, inr (i, lt, e)) = (walked.to.are dir).1 (on, inr (i, omega (arith, lt, cut.within), e ∙ same_front i lt))

    last_first : path_cmp p path ≡ Less
    last_first = by_from walked.from
      where
        nonroot : (q : Path) → path_cmp [] (q ++ name ∷ []) ≡ Less
        nonroot [] = refl
        nonroot (n ∷ q) = refl

        by_from : (p ≡ []) ⊎ Contains done p → path_cmp p path ≡ Less
        by_from (inl root) = subst (λ q. path_cmp q path ≡ Less) (sym root) (subst (λ q. path_cmp [] q ≡ Less) (sym whole) (nonroot above))
        by_from (inr marked) = follows p marked

    -- directories that are not above the last mark follow all that are entered
    new_follow : ((j : ℕ) → k ≤ j → j < length path → (n : Name) (r : Path) → p ≢ take j path ++ n ∷ r) → IsFresh path entered new
    new_follow unshared = inr (λ j le lt dir c. by_case j le lt dir (kept_to dir c).1)
      where
        by_case : (j : ℕ) → k ≤ j → j < length path → (dir : Path) → IsAboveMark done dir ⊎ IsOpenAt new path dir → path_cmp dir (take j path) ≡ Less
        by_case j le lt dir (inl (n, r, marked)) =
            let (m, rest, is) = cut_at j path lt in
            before_new dir p (take j path) (m ∷ rest) n r (walked.greatest (dir ++ n ∷ r) marked) (subst (λ q. path_cmp p q ≡ Less) is last_first) (unshared j le lt)
        by_case j le lt dir (inr (i, in_range, e)) = subst (λ q. path_cmp q (take j path) ≡ Less) (sym e) (shorter_first path i j (omega (arith, in_range, le)) (omega (arith, lt)))

    fresh_uncut : k ≡ length old → IsFresh path entered new
    fresh_uncut all = by_full walked.full
      where
        by_full : IsFull p old → IsFresh path entered new
        by_full (inl full) = new_follow (λ j le lt n r e. absurd (omega (arith, all, full, le, ap length e, length-append (take j path) (n ∷ r), length-take-le j path (omega (arith, lt)))))
        by_full (inr closed) = inl (subst IsClosed (sym (cut.is ∙ ap (λ m. take m old) all ∙ take-length old)) closed)

    fresh_cut : k < length old → ((d : OpenDirectory) (rest : Path) → above ≢ dir_of (get_or old k d) ++ rest) → IsFresh path entered new
    fresh_cut lt unlike = new_follow (λ j le in_range n r e. shared j le in_range n r e)
      where
        d : OpenDirectory
        d = some_of old (omega (arith, lt))

        shared : (j : ℕ) → k ≤ j → j < length path → (n : Name) (r : Path) → p ≡ take j path ++ n ∷ r → ⊥
        shared j le in_range n r e =
            let of_path : take k p ≡ take k path =
            ap (take k) e
            ∙ take-append-le k (take j path) (n ∷ r) (omega (arith, le, length-take-le j path (omega (arith, in_range))))
            ∙ take-take k j path le in
            let of_above : take k path ≡ take k above = ap (take k) whole ∙ take-append-le k above (name ∷ []) (omega (arith, le, in_range, path_length)) in
            unlike d (drop k above) (sym (take-append-drop k above) ∙ ap (λ q. q ++ drop k above) (sym (walked.to.chain k d lt ∙ of_path ∙ of_above)))

    kept_fresh : IsFresh path entered new
    kept_fresh = by_cut cut.cut (lt_cases k (length old) (omega (arith, cut.within)))
      where
        by_cut : (k ≡ length old) ⊎ ((d : OpenDirectory) (rest : Path) → above ≢ dir_of (get_or old k d) ++ rest) → (k < length old) ⊎ (k ≡ length old) → IsFresh path entered new
        by_cut (inl all) either = fresh_uncut all
        by_cut (inr unlike) (inl lt) = fresh_cut lt unlike
        by_cut (inr unlike) (inr all) = fresh_uncut all

    pub way_to_next : IsOnWay accepts opens visit done path entered new
    way_to_next = record {
      to = record {
        chain = λ i d lt. front_is i d lt ∙ sym (same_front i lt);
        valid = λ i d lt. subst (IsValidOpen accepts opens visit) (sym (kept_at i d lt)) (walked.to.valid i d (omega (arith, lt, cut.within)));
        within = k_within;
        ascending = walked.to.ascending;
        are = λ dir. (kept_to dir, kept_from dir);
      };
      fresh = kept_fresh;
    }

  -- 4. After a mark.

  module _ (done : List Path) (above : Path) (name : Name) (path : Path) (whole : path ≡ above ++ name ∷ []) (entered : List Path) (stack : List OpenDirectory)
      (way : IsOnWay accepts opens visit done path entered stack) (full : IsFull path stack) where
    path_is_longer : length path ≡ length above + 1
    path_is_longer = ap length whole ∙ length-append above (name ∷ [])

    -- below a directory whose visit is `nothing`
    module _ (closed : IsClosed stack) where
      d : OpenDirectory
      d = some_of stack closed.0

      abbrev last : ℕ
      last = length stack - 1

      in_stack : last < length stack
      in_stack = omega (arith, closed.0)

      shut : DeterminesWalk accepts opens visit (take last path) nothing
      shut =
          subst (λ q. DeterminesWalk accepts opens visit q nothing) (way.to.chain last d in_stack)
          (subst (DeterminesWalk accepts opens visit (dir_of (get_or stack last d))) (closed.1 d) (way.to.valid last d in_stack))

      not_entered : (j : ℕ) → length stack ≤ j → j < length path → walk_enters visit [] (take j path) ≡ false
      not_entered j le lt =
          let cut = cut_at last (take j path) (omega (arith, le, closed.0, length-take-le j path (omega (arith, lt)))) in
          let same : take last (take j path) ≡ take last path = take-take last j path (omega (arith, le)) in
          ap (walk_enters visit []) (cut.2 ∙ ap (λ q. q ++ cut.0 ∷ cut.1) same) ∙ shut.below cut.0 cut.1

      not_accepted : accepts path ≡ false
      not_accepted = let cut = cut_at last path (omega (arith, closed.0, way.to.within)) in ap accepts cut.2 ∙ shut.sound cut.0 cut.1

    pub decides_file : 0 < length stack → (d : OpenDirectory) → DecidesFile accepts opens path name (top stack d)
    decides_file some d = by_full full
      where
        by_full : IsFull path stack → DecidesFile accepts opens path name (top stack d)
        by_full (inr closed) = inl (closed.1 d, not_accepted closed)
        by_full (inl all) =
            let last = length stack - 1 in
            let at = way.to.chain last d (omega (arith, some)) in
            let parent : take last path ≡ above = ap (λ m. take m path) (omega (arith, all, path_is_longer)) ∙ take_prefix above (name ∷ []) path whole in
            inr ((way.to.valid last d (omega (arith, some))).sound, whole ∙ ap (λ q. q ++ name ∷ []) (sym (at ∙ parent)))

    module _ (files new_files : List Path) (old : List OpenDirectory) (entered_before : List Path) (walked : WalkedMarks accepts opens visit done files entered_before old)
        (follows : (earlier : Path) → Contains done earlier → path_cmp earlier path ≡ Less) (adds : new_files ≡ files ++ path_if (accepts path) path) where
      one_found : (q : Path) → q ++ name ∷ [] ≡ path → filter (is_found accepts) (path ∷ []) ≡ path_if (accepts path) path
      one_found q e = subst (λ x. filter (is_found accepts) (x ∷ []) ≡ path_if (accepts x) x) e (at q)
        where
          by_test : (b : Bool) (x : Path) → cond b (x ∷ []) [] ≡ path_if b x
          by_test true x = refl
          by_test false x = refl

          at : (q : Path) → filter (is_found accepts) ((q ++ name ∷ []) ∷ []) ≡ path_if (accepts (q ++ name ∷ [])) (q ++ name ∷ [])
          at [] = by_test (accepts (name ∷ [])) (name ∷ [])
          at (n ∷ q) = by_test (accepts (n ∷ (q ++ name ∷ []))) (n ∷ (q ++ name ∷ []))

      abbrev all_done : List Path
      all_done = done ++ path ∷ []

      done_greatest : (mark : Path) → Contains all_done mark → (mark ≡ path) ⊎ (path_cmp mark path ≡ Less)
      done_greatest mark c = by_case (Contains-append_cases done (path ∷ []) mark c)
        where
          by_case : Contains done mark ⊎ Contains (path ∷ []) mark → (mark ≡ path) ⊎ (path_cmp mark path ≡ Less)
          by_case (inl earlier) = inr (follows mark earlier)
          by_case (inr one) = inl (sym (the_only path mark one))

      done_to : (dir : Path) → Contains entered dir → (walk_enters visit [] dir ≡ true) × (IsAboveMark all_done dir ⊎ IsOpenAt stack path dir)
      done_to dir c = let parts = (way.to.are dir).0 c in (parts.0, by_case parts.1)
        where
          by_case : IsAboveMark done dir ⊎ IsOpenAt stack path dir → IsAboveMark all_done dir ⊎ IsOpenAt stack path dir
          by_case (inl (n, r, marked)) = inl (n, r, Contains-append_left done (path ∷ []) (dir ++ n ∷ r) marked)
          by_case (inr at) = inr at

      done_from : (dir : Path) → (walk_enters visit [] dir ≡ true) × (IsAboveMark all_done dir ⊎ IsOpenAt stack path dir) → Contains entered dir
      done_from dir (on, inr at) = (way.to.are dir).1 (on, inr at)
      done_from dir (on, inl (n, r, marked)) = by_case (Contains-append_cases done (path ∷ []) (dir ++ n ∷ r) marked)
        where
          here : path ≡ dir ++ n ∷ r → (length dir < length stack) ⊎ (length stack ≤ length dir) → Contains entered dir
          here e (inl lt) = (way.to.are dir).1 (on, inr (length dir, lt, sym (take_prefix dir (n ∷ r) path e)))
          here e (inr le) = by_full full
            where
              short : length dir < length path
              short = omega (arith, ap length e, length-append dir (n ∷ r))

              by_full : IsFull path stack → Contains entered dir
              by_full (inl all) = absurd (omega (arith, all, le, short))
              by_full (inr closed) = absurd (false≢true (sym (not_entered closed (length dir) le short) ∙ ap (walk_enters visit []) (take_prefix dir (n ∷ r) path e) ∙ on))

          sides : (i m : ℕ) → (i < m) ⊎ (m ≤ i)
          sides i zero = inr (omega arith)
          sides zero (suc m) = inl (omega arith)
          sides (suc i) (suc m) = elim (sides i m) [ inl lt ↦ inl (omega (arith, lt)) | inr le ↦ inr (omega (arith, le)) ]

          by_case : Contains done (dir ++ n ∷ r) ⊎ Contains (path ∷ []) (dir ++ n ∷ r) → Contains entered dir
          by_case (inl earlier) = (way.to.are dir).1 (on, inl (n, r, earlier))
          by_case (inr one) = here (the_only path (dir ++ n ∷ r) one) (sides (length dir) (length stack))

      pub walked_next : WalkedMarks accepts opens visit all_done new_files entered stack
      walked_next = record {
        last = path;
        from = inr (Contains-append_right done (path ∷ []) path (contains_first path []));
        greatest = done_greatest;
        found = adds ∙ ap (λ l. l ++ path_if (accepts path) path) walked.found
            ∙ ap (λ l. filter (is_found accepts) done ++ l) (sym (one_found above (sym whole)))
            ∙ sym (filter-append (is_found accepts) done (path ∷ []));
        to = record { chain = way.to.chain; valid = way.to.valid; within = way.to.within; ascending = way.to.ascending; are = λ dir. (done_to dir, done_from dir) };
        full = full;
      }

  -- the root as a mark is no file, and no directory is above it
  pub walked_root : (done files entered : List Path) (stack : List OpenDirectory) (mark : Path) → mark ≡ [] → WalkedMarks accepts opens visit done files entered stack → WalkedMarks accepts opens visit (done ++ mark ∷ []) files entered stack
  walked_root done files entered stack mark root walked = subst (λ m. WalkedMarks accepts opens visit (done ++ m ∷ []) files entered stack) (sym root) (record {
    last = walked.last;
    from = root_from walked.from;
    greatest = λ m c. root_greatest m (Contains-append_cases done ([] ∷ []) m c);
    found = walked.found ∙ sym (append-nil (filter (is_found accepts) done)) ∙ sym (filter-append (is_found accepts) done ([] ∷ []));
    to = record {
      chain = walked.to.chain;
      valid = walked.to.valid;
      within = walked.to.within;
      ascending = walked.to.ascending;
      are = λ dir. ((λ c. let parts = (walked.to.are dir).0 c in (parts.0, widen dir parts.1)), (λ h. (walked.to.are dir).1 (h.0, narrow dir h.1)));
    };
    full = walked.full;
  })
    where
      root_from : (walked.last ≡ []) ⊎ Contains done walked.last → (walked.last ≡ []) ⊎ Contains (done ++ [] ∷ []) walked.last
      root_from (inl e) = inl e
      root_from (inr c) = inr (Contains-append_left done ([] ∷ []) walked.last c)

      after_root : (q : Path) → ([] ≡ q) ⊎ (path_cmp [] q ≡ Less)
      after_root [] = inl refl
      after_root (n ∷ q) = inr refl

      root_greatest : (m : Path) → Contains done m ⊎ Contains ([] ∷ []) m → (m ≡ walked.last) ⊎ (path_cmp m walked.last ≡ Less)
      root_greatest m (inl c) = walked.greatest m c
      root_greatest m (inr c) = subst (λ q. (q ≡ walked.last) ⊎ (path_cmp q walked.last ≡ Less)) (the_only [] m c) (after_root walked.last)

      widen : (dir : Path) → IsAboveMark done dir ⊎ IsOpenAt stack walked.last dir → IsAboveMark (done ++ [] ∷ []) dir ⊎ IsOpenAt stack walked.last dir
      widen dir (inl (n, r, c)) = inl (n, r, Contains-append_left done ([] ∷ []) (dir ++ n ∷ r) c)
      widen dir (inr at) = inr at

      not_empty : (dir : Path) (n : Name) (r : Path) → [] ≡ dir ++ n ∷ r → ⊥
      not_empty [] n r e = cc
      not_empty (m ∷ dir) n r e = cc

      narrow : (dir : Path) → IsAboveMark (done ++ [] ∷ []) dir ⊎ IsOpenAt stack walked.last dir → IsAboveMark done dir ⊎ IsOpenAt stack walked.last dir
      narrow dir (inr at) = inr at
      narrow dir (inl (n, r, c)) = by_case (Contains-append_cases done ([] ∷ []) (dir ++ n ∷ r) c)
        where
          by_case : Contains done (dir ++ n ∷ r) ⊎ Contains ([] ∷ []) (dir ++ n ∷ r) → IsAboveMark done dir ⊎ IsOpenAt stack walked.last dir
          by_case (inl old) = inl (n, r, old)
          by_case (inr one) = absurd (not_empty dir n r (the_only [] (dir ++ n ∷ r) one))

  pub walked_none : WalkedMarks accepts opens visit [] [] [] []
  walked_none = record {
    last = [];
    from = inl refl;
    greatest = λ m c. absurd (omega (arith, c.1));
    found = refl;
    to = record {
      chain = λ i d lt. absurd (omega (arith, lt));
      valid = λ i d lt. absurd (omega (arith, lt));
      within = omega arith;
      ascending = sorted_none;
      are = λ dir. ((λ c. absurd (omega (arith, c.1))), (λ h. absurd (nowhere dir h.1)));
    };
    full = inl refl;
  }
    where
      nowhere : (dir : Path) → IsAboveMark [] dir ⊎ IsOpenAt [] [] dir → ⊥
      nowhere dir (inl (n, r, c)) = omega (arith, c.1)
      nowhere dir (inr (i, lt, e)) = omega (arith, lt)

  -- 5. Answers of the functions that open directories.

  pub root_opened : (known : VisitSpec) (root asked : Path) → root ≡ [] → IsSound accepts opens asked known → asked ≡ [] → known ≡ visit asked → DeterminesWalk accepts opens visit root known
  root_opened known root asked at sound at' is =
      subst (λ q. DeterminesWalk accepts opens visit q known) (sym at) (root_goes_on accepts opens visit known (subst (λ q. IsSound accepts opens q known) at' sound) (sym (is ∙ ap visit at')))

  pub pushes_next : (done : List Path) (path : Path) (entered new_entered : List Path) (stack new : List OpenDirectory) (dir : Path) (known : VisitSpec) (directory : OpenDirectory) → dir_of directory ≡ dir → sorted_visit_spec directory.visit ≡ known
      → new ≡ stack ++ directory ∷ [] → new_entered ≡ entered ++ path_if (is_entered known) dir → (IsClosed stack → ⊥) → length stack < length path → dir ≡ take (length stack) path → DeterminesWalk accepts opens visit dir known
      → IsOnWay accepts opens visit done path entered stack → IsOnWay accepts opens visit done path new_entered new
  pushes_next done path entered new_entered stack new dir known directory at seen adds enters_it more below is on way =
      subst (IsOnWay accepts opens visit done path new_entered) (sym adds)
      (opened_next done path entered new_entered stack directory way more below (at ∙ is)
      (subst (λ q. DeterminesWalk accepts opens visit q (sorted_visit_spec directory.visit)) (sym at) (subst (DeterminesWalk accepts opens visit dir) (sym seen) on))
      (enters_it ∙ ap (λ q. entered ++ path_if (is_entered known) q) (sym at) ∙ ap (λ v. entered ++ path_if (is_entered v) (dir_of directory)) (sym seen)))

  -- a mark whose parent is open, or below a directory whose visit is `nothing`
  pub visited : (done files new_files entered new_entered : List Path) (old stack : List OpenDirectory) (above : Path) (name : Name) (path : Path) → path ≡ above ++ name ∷ []
      → ((earlier : Path) → Contains done earlier → path_cmp earlier path ≡ Less) → WalkedMarks accepts opens visit done files entered old
      → IsOnWay accepts opens visit done (above ++ name ∷ []) new_entered stack → IsFull (above ++ name ∷ []) stack
      → (0 < length stack → ((d : OpenDirectory) → DecidesFile accepts opens path name (top stack d)) → new_files ≡ files ++ path_if (accepts path) path)
      → WalkedMarks accepts opens visit (done ++ path ∷ []) new_files new_entered stack
  visited done files new_files entered new_entered old stack above name path whole follows walked way full adds =
      walked_next done above name path whole new_entered stack here filled files new_files old entered walked follows (adds some (decides_file done above name path whole new_entered stack here filled some))
    where
      here : IsOnWay accepts opens visit done path new_entered stack
      here = subst (λ q. IsOnWay accepts opens visit done q new_entered stack) (sym whole) way

      filled : IsFull path stack
      filled = subst (λ q. IsFull q stack) (sym whole) full

      some : 0 < length stack
      some = by_full full
        where
          by_full : IsFull (above ++ name ∷ []) stack → 0 < length stack
          by_full (inl all) = omega (arith, all, length-append above (name ∷ []))
          by_full (inr closed) = closed.0

  pub walked_start : (files entered : List RepoPath) (stack : List OpenDirectory) → files ≡ [] → entered ≡ [] → stack ≡ [] → WalkedMarks accepts opens visit [] (map path_of files) (map path_of entered) stack
  walked_start files entered stack no_files no_directories none =
      subst (λ l. WalkedMarks accepts opens visit [] (map path_of l) (map path_of entered) stack) (sym no_files)
      (subst (λ l. WalkedMarks accepts opens visit [] [] (map path_of l) stack) (sym no_directories) (subst (WalkedMarks accepts opens visit [] [] []) (sym none) walked_none))

  -- at the end the entered directories are those above all marks
  pub walked_all : (done files entered : List Path) (stack : List OpenDirectory) → WalkedMarks accepts opens visit done files entered stack → (dir : Path) → Contains entered dir ↔ ((walk_enters visit [] dir ≡ true) × IsAboveMark done dir)
  walked_all done files entered stack walked dir = ((λ c. let parts = (walked.to.are dir).0 c in (parts.0, by_case parts.1)), (λ h. (walked.to.are dir).1 (h.0, inl h.1)))
    where
      by_from : (i : ℕ) → i < length stack → dir ≡ take i walked.last → (walked.last ≡ []) ⊎ Contains done walked.last → IsAboveMark done dir
      by_from i lt e (inl root) = absurd (omega (arith, lt, walked.to.within, ap length root))
      by_from i lt e (inr marked) =
          let (n, r, is) = cut_at i walked.last (omega (arith, lt, walked.to.within)) in
          (n, r, subst (Contains done) (is ∙ ap (λ q. q ++ n ∷ r) (sym e)) marked)

      by_case : IsAboveMark done dir ⊎ IsOpenAt stack walked.last dir → IsAboveMark done dir
      by_case (inl marked) = marked
      by_case (inr (i, lt, e)) = by_from i lt e walked.from

-- the last element
pub got : {X : Type 0} (xs : List X) (i : ℕ) (x d : X) → Some x ≡ slice_get xs i → x ≡ get_or xs i d
got [] i x d e = absurd (some_none x e)
  where
    some_none : {Y : Type 0} (y : Y) → Some y ≡ None → ⊥
    some_none y h = cc
got (y ∷ ys) zero x d e = cc
got (y ∷ ys) (suc i) x d e = got ys i x d e

-- after the root is opened it is the last open directory
pub root_above : (stack new : List OpenDirectory) (directory : OpenDirectory) → length stack ≡ 0 → new ≡ stack ++ directory ∷ [] → dir_of directory ≡ [] → (path : Path) → (0 < length new) × IsAtOrAbove path new
root_above stack new directory none adds root path = (omega (arith, long), inr (λ d. (path, ap (λ q. q ++ path) (sym (ap dir_of (at d) ∙ root)))))
  where
    long : length new ≡ length stack + 1
    long = ap length adds ∙ length-append stack (directory ∷ [])

    at : (d : OpenDirectory) → top new d ≡ directory
    at d = ap (λ l. get_or l (length new - 1) d) adds ∙ get_or_push stack directory d (length new - 1) (omega (arith, long, none))

-- an open directory that is the last one
pub not_closed : (stack : List OpenDirectory) (parent : OpenDirectory) → Some parent ≡ slice_get stack (length stack - 1) → (sorted_visit_spec parent.visit ≡ nothing → false ≡ true) → IsClosed stack → ⊥
not_closed stack parent last open_still closed =
    false≢true (open_still (ap (λ (o : OpenDirectory). sorted_visit_spec o.visit) (got stack (length stack - 1) parent parent last) ∙ closed.1 parent))

pub grows_by_one : (stack new : List OpenDirectory) (directory : OpenDirectory) → new ≡ stack ++ directory ∷ [] → length new ≡ length stack + 1
grows_by_one stack new directory adds = ap length adds ∙ length-append stack (directory ∷ [])

at_each : (P : Path → Type 0) (xs : List Path) (i : ℕ) (d : Path) → AllByRecursion P xs → i < length xs → P (get_or xs i d)
at_each P [] i d h lt = absurd (omega (arith, lt))
at_each P (x ∷ xs) zero d h lt = h.0
at_each P (x ∷ xs) (suc i) d h lt = at_each P xs i d h.1 (omega (arith, lt))

precedes : (xs : List Path) (i : ℕ) (d : Path) → AreInOrder xs → i < length xs → (e : Path) → Contains (take i xs) e → path_cmp e (get_or xs i d) ≡ Less
unfolding IsStrictlySortedBy
precedes [] i d h lt e c = absurd (omega (arith, lt))
precedes (x ∷ xs) zero d h lt e c = absurd (omega (arith, c.1))
precedes (x ∷ xs) (suc i) d h lt e c = by_case (precedes xs i d h.1 (omega (arith, lt)) e) (contains_cases x (take i xs) e c)
  where
    by_case : (Contains (take i xs) e → path_cmp e (get_or xs i d) ≡ Less) → (x ≡ e) ⊎ Contains (take i xs) e → path_cmp e (get_or xs i d) ≡ Less
    by_case rest (inl is) = subst (λ y. path_cmp y (get_or xs i d) ≡ Less) is (at_each (λ y. path_cmp x y ≡ Less) xs i d h.0 (omega (arith, lt)))
    by_case rest (inr later) = rest later

-- marks precede the later ones
pub follows_earlier : (items : List RepoPath) (i : ℕ) (mark : RepoPath) → AreInOrder (map path_of items) → i < length items → mark ≡ get_or items i mark
    → (earlier : Path) → Contains (map path_of (take i items)) earlier → path_cmp earlier (path_of mark) ≡ Less
follows_earlier items i mark up lt at earlier c =
    subst (λ p. path_cmp earlier p ≡ Less) (get_or-map path_of items i mark ∙ sym (ap path_of at))
    (precedes (map path_of items) i (path_of mark) up (omega (arith, lt, length-map items path_of)) earlier (subst (λ l. Contains l earlier) (sym (take-map path_of i items)) c))
