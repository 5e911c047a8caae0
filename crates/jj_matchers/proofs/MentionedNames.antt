-- Visits mention only names of the `mentioned` lists.
use Rattle.std.proofs.Common.{◌≡◌, Bool, true, false, ◌&&◌, ◌||◌, List, [], ◌∷◌, ◌++◌, refl, ap, sym, subst, ◌∙◌, inl, inr, if◌then◌else◌}
use mathlib.Core.Bool.{false≢true}
use Rattle.std.specs.Str.{bytes_eq}
use Rattle.std.specs.List.{list_any}
use Rattle.std.proofs.lemmas.Bool.{and_from, and_parts, or_cases, or_left, or_right}
use Rattle.std.proofs.lemmas.List.Folds.{list_any-append}
use Rattle.std.proofs.lemmas.Slice.Eq.{bytes_eq-Decides}
use Rattle.jj_paths.specs.Paths.{Name, Path}
use Rattle.jj_paths.specs.Orders.{path_eq, path_eq-Decides}
use Rattle.jj_matchers.specs.VisitSpecs.{VisitSpec, all_recursively, specific, nothing, IsSound}
use Rattle.jj_matchers.specs.Visits.{is_among, sets_spec}
use Rattle.jj_matchers.specs.PathLists.{is_at_or_below, is_below, is_listed, leads_to_listed, leads_to_prefix, has_prefix, files_spec, prefix_spec}
use Rattle.jj_matchers.specs.MentionedNames.{IsAllOrAmong, MentionsOnly, mentions_any, names_of}
use Rattle.jj_matchers.specs.Combined.{spec_of_names, union_spec, difference_spec, intersection_spec}
use Rattle.jj_matchers.proofs.PathLists.{any_implies, is_at_or_below-append, below_dir, files_sound, prefix_opens, prefix_sound}

-- if a name of the list satisfies a predicate, then `list_any` finds one
found_among : (test : Name → Bool) (name : Name) → test name ≡ true → (names : List Name) → is_among names name ≡ true → list_any test names ≡ true
found_among test name e = any_implies (bytes_eq name) test (λ n same. ap test (sym ((bytes_eq-Decides name n).0 same)) ∙ e)

pub passes_some : (names : List Name) (test : Name → Bool) → IsAllOrAmong names test → (name : Name) → test name ≡ true → mentions_any names test ≡ true
passes_some names test listed name e = elim listed [
  | inl all ↦ or_left (test []) (list_any test names) (all [])
  | inr among ↦ or_right (test []) (list_any test names) (found_among test name e names (among name e))
]

none_passes : (names : List Name) → list_any (is_among []) names ≡ false
none_passes [] = refl
none_passes (name ∷ names) = none_passes names

or_true : (a b : Bool) → b ≡ true → (a || b) ≡ true
or_true a b e = or_right a b e

-- the visit of two sets of names
pub sets_named : (names dirs files : List Name) → IsAllOrAmong names (is_among dirs) → IsAllOrAmong names (is_among files) → sets_spec dirs files ≡ spec_of_names names (is_among dirs) (is_among files)
sets_named names [] [] d f = rw (none_passes names)
sets_named names [] (name ∷ files) d f =
    let some : mentions_any names (is_among (name ∷ files)) ≡ true = passes_some names (is_among (name ∷ files)) f name (or_left _ _ ((bytes_eq-Decides name name).1 refl)) in
    rw (or_true (mentions_any names (is_among [])) (mentions_any names (is_among (name ∷ files))) some)
sets_named names (name ∷ dirs) files d f =
    let some : mentions_any names (is_among (name ∷ dirs)) ≡ true = passes_some names (is_among (name ∷ dirs)) d name (or_left _ _ ((bytes_eq-Decides name name).1 refl)) in
    rw (or_left (mentions_any names (is_among (name ∷ dirs))) (mentions_any names (is_among files)) some)

-- the visit of all names is specific
pub all_named : (names : List Name) (dirs files : Name → Bool) → dirs [] ≡ true → spec_of_names names dirs files ≡ specific dirs files
all_named names dirs files e = rw e

pub all_files_named : (names : List Name) (dirs files : Name → Bool) → files [] ≡ true → spec_of_names names dirs files ≡ specific dirs files
all_files_named names dirs files e = rw (or_true (mentions_any names dirs) (mentions_any names files) (or_left (files []) (list_any files names) e))

module _ (xs ys : List Name) where
  pub among_left : (name : Name) → is_among xs name ≡ true → is_among (xs ++ ys) name ≡ true
  among_left name e = list_any-append (bytes_eq name) xs ys ∙ or_left _ _ e

  pub among_right : (name : Name) → is_among ys name ≡ true → is_among (xs ++ ys) name ≡ true
  among_right name e = list_any-append (bytes_eq name) xs ys ∙ or_right _ _ e

  listed_left : (test : Name → Bool) → IsAllOrAmong xs test → IsAllOrAmong (xs ++ ys) test
  listed_left test listed = elim listed [ inl all ↦ inl all | inr among ↦ inr (λ name e. among_left name (among name e)) ]

  listed_right : (test : Name → Bool) → IsAllOrAmong ys test → IsAllOrAmong (xs ++ ys) test
  listed_right test listed = elim listed [ inl all ↦ inl all | inr among ↦ inr (λ name e. among_right name (among name e)) ]

  -- names of a list are names of a longer list
  pub chosen_left : (a : VisitSpec) → MentionsOnly xs a → MentionsOnly (xs ++ ys) a
  chosen_left all_recursively chosen = tt
  chosen_left (specific dirs files) chosen = (listed_left dirs chosen.0, listed_left files chosen.1)
  chosen_left nothing chosen = tt

  pub chosen_right : (a : VisitSpec) → MentionsOnly ys a → MentionsOnly (xs ++ ys) a
  chosen_right all_recursively chosen = tt
  chosen_right (specific dirs files) chosen = (listed_right dirs chosen.0, listed_right files chosen.1)
  chosen_right nothing chosen = tt

module _ (names : List Name) where
  pub either_listed : (f g : Name → Bool) → IsAllOrAmong names f → IsAllOrAmong names g → IsAllOrAmong names (λ name. f name || g name)
  either_listed f g one other = elim one [
    | inl all ↦ inl (λ name. or_left (f name) (g name) (all name))
    | inr among ↦ elim other [
      | inl all ↦ inl (λ name. or_right (f name) (g name) (all name))
      | inr others ↦ inr (λ name e. elim (or_cases (f name) (g name) e) [ inl h ↦ among name h | inr h ↦ others name h ])
    ]
  ]

  pub both_listed : (f g : Name → Bool) → IsAllOrAmong names f → IsAllOrAmong names g → IsAllOrAmong names (λ name. f name && g name)
  both_listed f g one other = elim one [
    | inl all ↦ elim other [
      | inl others ↦ inl (λ name. and_from (f name) (g name) (all name) (others name))
      | inr others ↦ inr (λ name e. others name (and_parts (f name) (g name) e).1)
    ]
    | inr among ↦ inr (λ name e. among name (and_parts (f name) (g name) e).0)
  ]

  pub union_chooses : (a b : VisitSpec) → MentionsOnly names a → MentionsOnly names b → MentionsOnly names (union_spec a b)
  union_chooses all_recursively b one other = tt
  union_chooses nothing b one other = other
  union_chooses (specific dirs files) all_recursively one other = tt
  union_chooses (specific dirs files) nothing one other = one
  union_chooses (specific dirs files) (specific more_dirs more_files) one other = (either_listed dirs more_dirs one.0 other.0, either_listed files more_files one.1 other.1)

  pub difference_chooses : (a b : VisitSpec) → MentionsOnly names a → MentionsOnly names (difference_spec a b)
  difference_chooses a all_recursively one = tt
  difference_chooses a nothing one = one
  difference_chooses all_recursively (specific dirs files) one = (inl (λ name. refl), inl (λ name. refl))
  difference_chooses (specific wanted_dirs wanted_files) (specific dirs files) one = one
  difference_chooses nothing (specific dirs files) one = tt

  named_chooses : (dirs files : Name → Bool) → IsAllOrAmong names dirs → IsAllOrAmong names files → MentionsOnly names (spec_of_names names dirs files)
  named_chooses dirs files d f = by_cases (mentions_any names dirs || mentions_any names files)
    where
      by_cases : (t : Bool) → MentionsOnly names (if t then specific dirs files else nothing)
      by_cases true = (d, f)
      by_cases false = tt

  pub intersection_chooses : (a b : VisitSpec) → MentionsOnly names a → MentionsOnly names b → MentionsOnly names (intersection_spec names a b)
  intersection_chooses all_recursively b one other = other
  intersection_chooses nothing b one other = tt
  intersection_chooses (specific dirs files) all_recursively one other = one
  intersection_chooses (specific dirs files) nothing one other = tt
  intersection_chooses (specific dirs files) (specific other_dirs other_files) one other =
      named_chooses (λ name. dirs name && other_dirs name) (λ name. files name && other_files name) (both_listed dirs other_dirs one.0 other.0) (both_listed files other_files one.1 other.1)

-- the name of a child at or above a path is one of the path's components
on_the_way : (dir : Path) (name : Name) (path : Path) → is_at_or_below (dir ++ name ∷ []) path ≡ true → is_among path name ≡ true
on_the_way [] name [] h = absurd (false≢true h)
on_the_way [] name (first ∷ path) h = or_left (bytes_eq name first) (is_among path name) (and_parts (bytes_eq name first) true h).0
on_the_way (d ∷ dir) name [] h = absurd (false≢true h)
on_the_way (d ∷ dir) name (first ∷ path) h = or_right (bytes_eq name first) (is_among path name) (on_the_way dir name path (and_parts (bytes_eq d first) (is_at_or_below (dir ++ name ∷ []) path) h).1)

-- the name of a child at or above a path of a list is one of the components of these paths
pub leads_among : (paths : List Path) (dir : Path) (name : Name) → leads_to_prefix paths (dir ++ name ∷ []) ≡ true → is_among (names_of paths) name ≡ true
leads_among [] dir name h = absurd (false≢true h)
leads_among (path ∷ paths) dir name h = elim (or_cases (is_at_or_below (dir ++ name ∷ []) path) (leads_to_prefix paths (dir ++ name ∷ [])) h) [
  | inl e ↦ among_left path (names_of paths) name (on_the_way dir name path e)
  | inr e ↦ among_right path (names_of paths) name (leads_among paths dir name e)
]

below_leads : (paths : List Path) (path : Path) → leads_to_listed paths path ≡ true → leads_to_prefix paths path ≡ true
below_leads paths path = any_implies (is_below path) (is_at_or_below path) below paths
  where
    below : (wanted : Path) → is_below path wanted ≡ true → is_at_or_below path wanted ≡ true
    below wanted e = let found = below_dir path wanted e in ap (is_at_or_below path) found.1.1 ∙ is_at_or_below-append path (found.0 ∷ found.1.0)

wanted_leads : (paths : List Path) (path : Path) → is_listed paths path ≡ true → leads_to_prefix paths path ≡ true
wanted_leads paths path = any_implies (path_eq path) (is_at_or_below path) at paths
  where
    at_itself : (path : Path) → is_at_or_below path path ≡ true
    at_itself [] = refl
    at_itself (name ∷ path) = and_from (bytes_eq name name) _ ((bytes_eq-Decides name name).1 refl) (at_itself path)

    at : (wanted : Path) → path_eq path wanted ≡ true → is_at_or_below path wanted ≡ true
    at wanted e = ap (is_at_or_below path) (sym ((path_eq-Decides path wanted).0 e)) ∙ at_itself path

files_choose : (wanted : List Path) (dir : Path) → MentionsOnly (names_of wanted) (files_spec wanted dir)
files_choose wanted dir = by_cases (leads_to_listed wanted dir)
  where
    by_cases : (t : Bool) → MentionsOnly (names_of wanted) (if t then specific (λ name. leads_to_listed wanted (dir ++ name ∷ [])) (λ name. is_listed wanted (dir ++ name ∷ [])) else nothing)
    by_cases true = (inr (λ name e. leads_among wanted dir name (below_leads wanted (dir ++ name ∷ []) e)), inr (λ name e. leads_among wanted dir name (wanted_leads wanted (dir ++ name ∷ []) e)))
    by_cases false = tt

prefixes_choose : (prefixes : List Path) (dir : Path) → MentionsOnly (names_of prefixes) (prefix_spec prefixes dir)
prefixes_choose prefixes dir = by_cases (has_prefix prefixes dir) (leads_to_listed prefixes dir)
  where
    by_cases : (t u : Bool) → MentionsOnly (names_of prefixes) (if t then all_recursively else (if u then specific (λ name. leads_to_prefix prefixes (dir ++ name ∷ [])) (λ name. is_listed prefixes (dir ++ name ∷ [])) else nothing))
    by_cases true u = tt
    by_cases false true = (inr (λ name e. leads_among prefixes dir name e), inr (λ name e. leads_among prefixes dir name (wanted_leads prefixes (dir ++ name ∷ []) e)))
    by_cases false false = tt

-- the visits for a list of files and for a list of prefixes are sound, and mention only components of these paths
pub files_visit : (marks files : List Path) (dir : Path) (visit : VisitSpec) → marks ≡ files → visit ≡ files_spec marks dir
    → (visit ≡ files_spec files dir) × IsSound (is_listed files) (leads_to_listed files) dir visit × MentionsOnly (names_of files) visit
files_visit marks files dir visit same is =
    let own = is ∙ ap (λ paths. files_spec paths dir) same in
    (own, subst (IsSound (is_listed files) (leads_to_listed files) dir) (sym own) (files_sound files dir), subst (MentionsOnly (names_of files)) (sym own) (files_choose files dir))

pub prefixes_visit : (marks prefixes : List Path) (dir : Path) (visit : VisitSpec) → marks ≡ prefixes → visit ≡ prefix_spec marks dir
    → (visit ≡ prefix_spec prefixes dir) × IsSound (has_prefix prefixes) (prefix_opens prefixes) dir visit × MentionsOnly (names_of prefixes) visit
prefixes_visit marks prefixes dir visit same is =
    let own = is ∙ ap (λ paths. prefix_spec paths dir) same in
    (own, subst (IsSound (has_prefix prefixes) (prefix_opens prefixes) dir) (sym own) (prefix_sound prefixes dir), subst (MentionsOnly (names_of prefixes)) (sym own) (prefixes_choose prefixes dir))
