-- Soundness of the visits for sets of paths from a list.
use Rattle.std.proofs.Common.{◌≡◌, Bool, true, false, ◌||◌, List, [], ◌∷◌, ◌++◌, map, Contains, Decides, get_or, refl, ap, sym, subst, ◌∙◌, append_assoc, inl, inr, if◌then◌else◌}
use mathlib.Core.Bool.{false≢true}
use Rattle.std.proofs.lemmas.Bool.{and_from, and_parts, false_from_ne_true, or_cases, or_left, or_right}
use Rattle.std.specs.Str.{bytes_eq}
use Rattle.std.specs.Cmp.{both_ways}
use Rattle.std.specs.List.{list_any}
use Rattle.std.proofs.lemmas.List.Folds.{Any-from_list_any, list_any_at}
use Rattle.std.proofs.lemmas.Slice.Eq.{bytes_eq-Decides}
use Rattle.jj_paths.specs.Paths.{Name, Path}
use Rattle.jj_paths.specs.Orders.{path_eq, path_eq-Decides}
use Rattle.jj_matchers.specs.VisitSpecs.{all_recursively, specific, nothing, IsSound}
use Rattle.jj_matchers.specs.PathLists.{is_at_or_below, is_below, is_listed, HasSamePaths, leads_to_listed, files_spec, has_prefix, leads_to_prefix, prefix_spec}

module _ {X : Type 0} where
  -- `list_any` is monotone in the predicate
  pub any_implies : (p q : X → Bool) → ((x : X) → p x ≡ true → q x ≡ true) → (xs : List X) → list_any p xs ≡ true → list_any q xs ≡ true
  any_implies p q f [] h = absurd (false≢true h)
  any_implies p q f (x ∷ xs) h = elim (or_cases (p x) (list_any p xs) h) [ inl e ↦ or_left (q x) (list_any q xs) (f x e) | inr e ↦ or_right (q x) (list_any q xs) (any_implies p q f xs e) ]

  -- `list_any` is monotone in the predicate, on a list of which no element satisfies `q`
  pub any_beyond : (p q r : X → Bool) → ((x : X) → p x ≡ true → q x ≡ false → r x ≡ true) → (xs : List X) → list_any q xs ≡ false → list_any p xs ≡ true → list_any r xs ≡ true
  any_beyond p q r f [] none_pass h = absurd (false≢true h)
  any_beyond p q r f (x ∷ xs) none_pass h =
      let here : q x ≡ false = false_from_ne_true (q x) (λ e. false≢true (sym none_pass ∙ or_left (q x) (list_any q xs) e)) in
      let later : list_any q xs ≡ false = false_from_ne_true (list_any q xs) (λ e. false≢true (sym none_pass ∙ or_right (q x) (list_any q xs) e)) in
      elim (or_cases (p x) (list_any p xs) h) [ inl e ↦ or_left (r x) (list_any r xs) (f x e here) | inr e ↦ or_right (r x) (list_any r xs) (any_beyond p q r f xs later e) ]

bytes_eq-same : (name : Name) → bytes_eq name name ≡ true
bytes_eq-same name = (bytes_eq-Decides name name).1 refl

-- paths below a directory
pub is_below-append : (dir : Path) (name : Name) (rest : Path) → is_below dir (dir ++ name ∷ rest) ≡ true
is_below-append [] name rest = refl
is_below-append (d ∷ dir) name rest = and_from (bytes_eq d d) _ (bytes_eq-same d) (is_below-append dir name rest)

pub is_at_or_below-append : (base rest : Path) → is_at_or_below base (base ++ rest) ≡ true
is_at_or_below-append [] rest = refl
is_at_or_below-append (d ∷ base) rest = and_from (bytes_eq d d) _ (bytes_eq-same d) (is_at_or_below-append base rest)

pub at_or_below_more : (base path rest : Path) → is_at_or_below base path ≡ true → is_at_or_below base (path ++ rest) ≡ true
at_or_below_more [] path rest h = refl
at_or_below_more (d ∷ base) [] rest h = absurd (false≢true h)
at_or_below_more (d ∷ base) (p ∷ path) rest h = and_from (bytes_eq d p) _ (and_parts (bytes_eq d p) (is_at_or_below base path) h).0 (at_or_below_more base path rest (and_parts (bytes_eq d p) (is_at_or_below base path) h).1)

-- the rest of a path at or below a base
pub below_base : (base path : Path) → is_at_or_below base path ≡ true → (rest : Path) × (path ≡ base ++ rest)
below_base [] path h = (path, refl)
below_base (d ∷ base) [] h = absurd (false≢true h)
below_base (d ∷ base) (p ∷ path) h =
    let parts = and_parts (bytes_eq d p) (is_at_or_below base path) h in
    let below = below_base base path parts.1 in
    (below.0, ap (λ x. x ∷ path) (sym ((bytes_eq-Decides d p).0 parts.0)) ∙ ap (λ l. d ∷ l) below.1)

pub below_dir : (dir path : Path) → is_below dir path ≡ true → (name : Name) × ((rest : Path) × (path ≡ dir ++ name ∷ rest))
below_dir [] [] h = absurd (false≢true h)
below_dir [] (p ∷ path) h = (p, (path, refl))
below_dir (d ∷ dir) [] h = absurd (false≢true h)
below_dir (d ∷ dir) (p ∷ path) h =
    let parts = and_parts (bytes_eq d p) (is_below dir path) h in
    let below = below_dir dir path parts.1 in
    (below.0, (below.1.0, ap (λ x. x ∷ path) (sym ((bytes_eq-Decides d p).0 parts.0)) ∙ ap (λ l. d ∷ l) below.1.1))

-- an ancestor of a path below a directory that is no ancestor of the directory itself is below the directory
record ReachesBelow (dir rest prefix : Path) : Type 0 where
  pub name : Name
  pub middle : Path
  pub end : Path
  pub is : prefix ≡ dir ++ name ∷ middle
  pub of : rest ≡ name ∷ (middle ++ end)

reaches_below : (prefix dir rest : Path) → is_at_or_below prefix (dir ++ rest) ≡ true → is_at_or_below prefix dir ≡ false → ReachesBelow dir rest prefix
reaches_below [] dir rest h refused = absurd (false≢true (sym refused))
reaches_below (p ∷ prefix) [] rest h refused =
    let below = below_base (p ∷ prefix) rest h in
    record { name = p; middle = prefix; end = below.0; is = refl; of = below.1 }
reaches_below (p ∷ prefix) (d ∷ dir) rest h refused =
    let parts = and_parts (bytes_eq p d) (is_at_or_below prefix (dir ++ rest)) h in
    let further = reaches_below prefix dir rest parts.1 (false_from_ne_true _ (λ e. false≢true (sym refused ∙ and_from (bytes_eq p d) (is_at_or_below prefix dir) parts.0 e))) in
    record { name = further.name; middle = further.middle; end = further.end; is = ap (λ x. x ∷ prefix) ((bytes_eq-Decides p d).0 parts.0) ∙ ap (λ l. d ∷ l) further.is; of = further.of }

module _ (wanted : List Path) where
  -- a directory above a path of the list leads to one
  wanted_below : (dir : Path) (name : Name) (rest : Path) → is_listed wanted (dir ++ name ∷ rest) ≡ true → leads_to_listed wanted dir ≡ true
  wanted_below dir name rest = any_implies (path_eq (dir ++ name ∷ rest)) (is_below dir) (λ w e. ap (is_below dir) (sym ((path_eq-Decides (dir ++ name ∷ rest) w).0 e)) ∙ is_below-append dir name rest) wanted

  pub files_sound : (dir : Path) → IsSound (is_listed wanted) (leads_to_listed wanted) dir (files_spec wanted dir)
  files_sound dir = by_cases (leads_to_listed wanted dir) refl
    where
      by_cases : (t : Bool) → leads_to_listed wanted dir ≡ t → IsSound (is_listed wanted) (leads_to_listed wanted) dir (if t then specific (λ name. leads_to_listed wanted (dir ++ name ∷ [])) (λ name. is_listed wanted (dir ++ name ∷ [])) else nothing)
      by_cases true e = record {
        files_named = λ name h. h;
        dirs_named = λ name next rest h. wanted_below (dir ++ name ∷ []) next rest (ap (is_listed wanted) (append_assoc dir (name ∷ []) (next ∷ rest)) ∙ h);
        dirs_open = λ name h. h;
      }
      by_cases false e = λ name rest. false_from_ne_true _ (λ h. false≢true (sym e ∙ wanted_below dir name rest h))

module _ (prefixes : List Path) where
  abbrev pub prefix_opens : Path → Bool
  prefix_opens path = has_prefix prefixes path || leads_to_prefix prefixes path

  -- if no prefix is at or above a directory, prefixes of paths below it are below it
  pub prefix_below : (dir : Path) (name : Name) (rest : Path) → has_prefix prefixes dir ≡ false → has_prefix prefixes (dir ++ name ∷ rest) ≡ true → leads_to_listed prefixes dir ≡ true
  prefix_below dir name rest =
      any_beyond (λ prefix. is_at_or_below prefix (dir ++ name ∷ rest)) (λ prefix. is_at_or_below prefix dir) (is_below dir)
      (λ prefix h refused. let r = reaches_below prefix dir (name ∷ rest) h refused in ap (is_below dir) r.is ∙ is_below-append dir r.name r.middle) prefixes

  prefix_here : (dir : Path) (name : Name) → has_prefix prefixes dir ≡ false → has_prefix prefixes (dir ++ name ∷ []) ≡ true → is_listed prefixes (dir ++ name ∷ []) ≡ true
  prefix_here dir name =
      any_beyond (λ prefix. is_at_or_below prefix (dir ++ name ∷ [])) (λ prefix. is_at_or_below prefix dir) (path_eq (dir ++ name ∷ []))
      (λ prefix h refused. let r = reaches_below prefix dir (name ∷ []) h refused in (path_eq-Decides (dir ++ name ∷ []) prefix).1 (one_name dir name r.name r.middle r.end r.of ∙ sym r.is)) prefixes
    where
      one_name : (dir : Path) (name n : Name) (middle end : Path) → name ∷ [] ≡ n ∷ (middle ++ end) → dir ++ name ∷ [] ≡ dir ++ n ∷ middle
      one_name dir name n [] end e = let same : name ≡ n = cc in ap (λ x. dir ++ x ∷ []) same
      one_name dir name n (x ∷ middle) end e = let no_more : [] ≡ x ∷ (middle ++ end) = cc in cc

  pub prefix_deeper : (dir : Path) (name next : Name) (rest : Path) → has_prefix prefixes dir ≡ false → has_prefix prefixes (dir ++ name ∷ next ∷ rest) ≡ true → leads_to_prefix prefixes (dir ++ name ∷ []) ≡ true
  prefix_deeper dir name next rest =
      any_beyond (λ prefix. is_at_or_below prefix (dir ++ name ∷ next ∷ rest)) (λ prefix. is_at_or_below prefix dir) (is_at_or_below (dir ++ name ∷ []))
      (λ prefix h refused.
      let r = reaches_below prefix dir (name ∷ next ∷ rest) h refused in
      let same : name ≡ r.name = first_same name r.name (next ∷ rest) (r.middle ++ r.end) r.of in
      ap (is_at_or_below (dir ++ name ∷ [])) (r.is ∙ ap (λ n. dir ++ n ∷ r.middle) (sym same) ∙ sym (append_assoc dir (name ∷ []) r.middle)) ∙ is_at_or_below-append (dir ++ name ∷ []) r.middle)
      prefixes
    where
      first_same : (a b : Name) (xs ys : Path) → a ∷ xs ≡ b ∷ ys → a ≡ b
      first_same a b xs ys e = cc

  pub prefix_sound : (dir : Path) → IsSound (has_prefix prefixes) prefix_opens dir (prefix_spec prefixes dir)
  prefix_sound dir = by_cases (has_prefix prefixes dir) (leads_to_listed prefixes dir) refl refl
    where
      by_cases : (t u : Bool) → has_prefix prefixes dir ≡ t → leads_to_listed prefixes dir ≡ u → IsSound (has_prefix prefixes) prefix_opens dir (if t then all_recursively else (if u then specific (λ name. leads_to_prefix prefixes (dir ++ name ∷ [])) (λ name. is_listed prefixes (dir ++ name ∷ [])) else nothing))
      by_cases true u e f = λ name rest.
          let accepted : has_prefix prefixes (dir ++ name ∷ rest) ≡ true = any_implies (λ prefix. is_at_or_below prefix dir) (λ prefix. is_at_or_below prefix (dir ++ name ∷ rest)) (λ prefix h. at_or_below_more prefix dir (name ∷ rest) h) prefixes e in
          (accepted, or_left _ _ accepted)
      by_cases false true e f = record {
        files_named = λ name h. prefix_here dir name e h;
        dirs_named = λ name next rest h. prefix_deeper dir name next rest e h;
        dirs_open = λ name h. or_right _ _ h;
      }
      by_cases false false e f = λ name rest. false_from_ne_true _ (λ h. false≢true (sym f ∙ prefix_below dir name rest e h))

  -- the visit at or below a prefix
  pub prefix_inside : (dir : Path) → has_prefix prefixes dir ≡ true → all_recursively ≡ prefix_spec prefixes dir
  prefix_inside dir e =
      ap (λ b. if b then all_recursively else (if leads_to_listed prefixes dir then specific (λ name. leads_to_prefix prefixes (dir ++ name ∷ [])) (λ name. is_listed prefixes (dir ++ name ∷ [])) else nothing)) (sym e)

-- `is_listed` decides membership
pub Decides-is_listed : (paths : List Path) (path : Path) → Decides (is_listed paths path) (Contains paths path)
Decides-is_listed paths path = (
  (λ h. let found = Any-from_list_any (path_eq path) paths h in
      (found.0, found.2, subst (λ p. get_or paths found.0 p ≡ p) (sym ((path_eq-Decides path found.1).0 found.4)) found.3)),
  (λ h. list_any_at (path_eq path) paths h.0 path h.1 ((path_eq-Decides path (get_or paths h.0 path)).1 (sym h.2))),
)

some_passes : (test : Path → Bool) (xs : List Path) → list_any test xs ≡ true → (x : Path) × ((is_listed xs x ≡ true) × (test x ≡ true))
some_passes test [] h = absurd (false≢true h)
some_passes test (x ∷ xs) h = elim (or_cases (test x) (list_any test xs) h) [
  | inl e ↦ (x, (or_left (path_eq x x) _ ((path_eq-Decides x x).1 refl), e))
  | inr e ↦ let later = some_passes test xs e in (later.0, (or_right (path_eq later.0 x) _ later.1.0, later.1.1))
]

-- lists with the same members have the same paths
pub same_members : (paths others : List Path) → ((path : Path) → is_listed paths path ≡ is_listed others path) → HasSamePaths paths others
same_members paths others same test = both_ways (list_any test paths) (list_any test others) (moved paths others same) (moved others paths (λ path. sym (same path)))
  where
    moved : (a b : List Path) → ((path : Path) → is_listed a path ≡ is_listed b path) → list_any test a ≡ true → list_any test b ≡ true
    moved a b same h =
        let found = some_passes test a h in
        any_implies (path_eq found.0) test (λ y e. ap test (sym ((path_eq-Decides found.0 y).0 e)) ∙ found.1.1) b (sym (same found.0) ∙ found.1.0)

pub list_any-map : {X : Type 0} (f : X → Path) (test : Path → Bool) (xs : List X) → list_any (λ x. test (f x)) xs ≡ list_any test (map f xs)
list_any-map f test [] = refl
list_any-map f test (x ∷ xs) = ap (λ b. test (f x) || b) (list_any-map f test xs)
