-- Soundness of the visits of a set of patterns, and equivalence of `is_accepted` and `IsAccepted`.
use Rattle.std.proofs.Common.{◌≡◌, ◌∙◌, ap, sym, subst, refl, Bool, true, false, ◌&&◌, [], ◌∷◌, ◌++◌, append_assoc, inl, inr, if◌then◌else◌}
use mathlib.Core.Bool.{false≢true}
use Rattle.std.specs.List.{list_any}
use Rattle.std.specs.Bool.{Decides}
use Rattle.std.specs.Str.{bytes_eq}
use Rattle.std.proofs.lemmas.Bool.{and_from, and_parts, false_from_ne_true, or_left, or_right}
use Rattle.std.proofs.lemmas.List.Folds.{Any-from_list_any, list_any-from_Any}
use Rattle.std.proofs.lemmas.Slice.Eq.{bytes_eq-Decides}
use Rattle.jj_paths.specs.Paths.{Name, Path, path_string}
use Rattle.jj_matchers.specs.VisitSpecs.{VisitSpec, all_recursively, specific, nothing, IsSound}
use Rattle.jj_globs.specs.GlobMeaning.{GlobSpec}
use Rattle.jj_matchers.specs.MentionedNames.{MentionsOnly, names_of}
use Rattle.jj_matchers.specs.PathLists.{is_at_or_below, has_prefix, leads_to_listed, leads_to_prefix}
use Rattle.jj_matchers.specs.Patterns.{Patterns, is_prefix_match, accepts_tail, covers_tail, tail_passes, pattern_dirs, is_accepted, is_covered, opens_to_patterns, patterns_spec, MatchesString, IsAccepted, IsSoundForGlobs}
use Rattle.jj_matchers.proofs.PatternTexts.{DecidesAll-is_match, DecidesAll-is_prefix_match, prefix_match_below, stars_fit}
use Rattle.jj_matchers.proofs.MentionedNames.{leads_among}
use Rattle.jj_matchers.proofs.PathLists.{any_implies, list_any-map, is_at_or_below-append, at_or_below_more, prefix_below, prefix_deeper}

-- 1. Tails.

pub tail_passes-append : (test : Path → Bool) (dir tail : Path) → tail_passes dir test (dir ++ tail) ≡ test tail
tail_passes-append test [] tail = refl
tail_passes-append test (d ∷ dir) tail = ap (λ b. b && tail_passes dir test (dir ++ tail)) ((bytes_eq-Decides d d).1 refl) ∙ tail_passes-append test dir tail

-- the tail that satisfied the predicate
pub record Passed (test : Path → Bool) (dir path : Path) : Type 0 where
  pub tail : Path
  pub is : path ≡ dir ++ tail
  pub passes : test tail ≡ true

pub passed : (test : Path → Bool) (dir path : Path) → tail_passes dir test path ≡ true → Passed test dir path
passed test [] path h = record { tail = path; is = refl; passes = h }
passed test (d ∷ dir) [] h = absurd (false≢true h)
passed test (d ∷ dir) (p ∷ path) h =
    let parts = and_parts (bytes_eq d p) (tail_passes dir test path) h in
    let further = passed test dir path parts.1 in
    record { tail = further.tail; is = ap (λ x. x ∷ path) (sym ((bytes_eq-Decides d p).0 parts.0)) ∙ ap (λ l. d ∷ l) further.is; passes = further.passes }

pub passes : (test : Path → Bool) (dir path : Path) → Passed test dir path → tail_passes dir test path ≡ true
passes test dir path p = ap (tail_passes dir test) p.is ∙ tail_passes-append test dir p.tail ∙ p.passes

-- the string of a path below another
path_string-below : (name : Name) (path : Path) (next : Name) (rest : Path) → path_string (name ∷ (path ++ next ∷ rest)) ≡ path_string (name ∷ path) ++ 47 ∷ path_string (next ∷ rest)
path_string-below name [] next rest = refl
path_string-below name (p ∷ path) next rest = ap (λ l. name ++ 47 ∷ l) (path_string-below p path next rest) ∙ sym (append_assoc name (47 ∷ path_string (p ∷ path)) (47 ∷ path_string (next ∷ rest)))

-- all paths below a covered tail are accepted
covers_below : (g : GlobSpec) (tail : Path) (name : Name) (rest : Path) → covers_tail g tail ≡ true → accepts_tail true g (tail ++ name ∷ rest) ≡ true
covers_below g [] name rest h = stars_fit g h (path_string (name ∷ rest))
covers_below g (t ∷ tail) name rest h = ap (is_prefix_match g) (path_string-below t tail name rest) ∙ prefix_match_below g (path_string (t ∷ tail)) (path_string (name ∷ rest)) h

-- a child below a base is in a directory at or below the base
child_within : (base dir : Path) (name first : Name) (tail : Path) → dir ++ name ∷ [] ≡ base ++ first ∷ tail → is_at_or_below base dir ≡ true
child_within [] dir name first tail e = refl
child_within (b ∷ base) [] name first tail e = absurd (too_long base (let rest : [] ≡ base ++ first ∷ tail = cc in rest))
  where
    too_long : (base : Path) → [] ≡ base ++ first ∷ tail → ⊥
    too_long [] h = cc
    too_long (c ∷ base) h = cc
child_within (b ∷ base) (d ∷ dir) name first tail e =
    let same : b ≡ d = cc in
    let rest : dir ++ name ∷ [] ≡ base ++ first ∷ tail = cc in
    and_from (bytes_eq b d) (is_at_or_below base dir) ((bytes_eq-Decides b d).1 same) (child_within base dir name first tail rest)

-- 2. Sets.

module _ (set : Patterns) where
  -- a pattern's directory satisfies a predicate if and only if one of the directories does
  any_dir : (test : Path → Bool) → list_any (λ (pattern : Path × GlobSpec). test pattern.0) set.patterns ≡ list_any test (pattern_dirs set)
  any_dir test = list_any-map (λ (pattern : Path × GlobSpec). pattern.0) test set.patterns

  -- an accepted path is at or below a pattern's directory
  accepted_below : (path : Path) → is_accepted set path ≡ true → has_prefix (pattern_dirs set) path ≡ true
  accepted_below path h =
      sym (any_dir (λ dir. is_at_or_below dir path))
      ∙ any_implies (λ (pattern : Path × GlobSpec). tail_passes pattern.0 (accepts_tail set.prefix_paths pattern.1) path) (λ (pattern : Path × GlobSpec). is_at_or_below pattern.0 path)
      (λ pattern e. let p = passed (accepts_tail set.prefix_paths pattern.1) pattern.0 path e in ap (is_at_or_below pattern.0) p.is ∙ is_at_or_below-append pattern.0 p.tail) set.patterns h

  -- an accepted child is in a directory at or below a pattern's directory
  accepted_child : (dir : Path) (name : Name) → is_accepted set (dir ++ name ∷ []) ≡ true → has_prefix (pattern_dirs set) dir ≡ true
  accepted_child dir name h =
      sym (any_dir (λ d. is_at_or_below d dir))
      ∙ any_implies (λ (pattern : Path × GlobSpec). tail_passes pattern.0 (accepts_tail set.prefix_paths pattern.1) (dir ++ name ∷ [])) (λ (pattern : Path × GlobSpec). is_at_or_below pattern.0 dir)
      (λ pattern e. let p = passed (accepts_tail set.prefix_paths pattern.1) pattern.0 (dir ++ name ∷ []) e in by_tail pattern p.tail p.is p.passes) set.patterns h
    where
      by_tail : (pattern : Path × GlobSpec) (tail : Path) → dir ++ name ∷ [] ≡ pattern.0 ++ tail → accepts_tail set.prefix_paths pattern.1 tail ≡ true → is_at_or_below pattern.0 dir ≡ true
      by_tail pattern [] is e = absurd (false≢true e)
      by_tail pattern (first ∷ tail) is e = child_within pattern.0 dir name first tail is

  -- all paths below a covered directory are accepted
  covered_below : (dir : Path) → is_covered set dir ≡ true → (name : Name) (rest : Path) → is_accepted set (dir ++ name ∷ rest) ≡ true
  covered_below dir h name rest =
      let parts = and_parts set.prefix_paths (list_any (λ (pattern : Path × GlobSpec). tail_passes pattern.0 (covers_tail pattern.1) dir) set.patterns) h in
      any_implies (λ (pattern : Path × GlobSpec). tail_passes pattern.0 (covers_tail pattern.1) dir) (λ (pattern : Path × GlobSpec). tail_passes pattern.0 (accepts_tail set.prefix_paths pattern.1) (dir ++ name ∷ rest))
      (λ pattern e.
      let p = passed (covers_tail pattern.1) pattern.0 dir e in
      passes (accepts_tail set.prefix_paths pattern.1) pattern.0 (dir ++ name ∷ rest) (record {
        tail = p.tail ++ name ∷ rest;
        is = ap (λ d. d ++ name ∷ rest) p.is ∙ append_assoc pattern.0 p.tail (name ∷ rest);
        passes = ap (λ b. accepts_tail b pattern.1 (p.tail ++ name ∷ rest)) parts.0 ∙ covers_below pattern.1 p.tail name rest p.passes;
      })) set.patterns parts.1

  further_below : (dir rest : Path) → has_prefix (pattern_dirs set) dir ≡ true → has_prefix (pattern_dirs set) (dir ++ rest) ≡ true
  further_below dir rest = any_implies (λ d. is_at_or_below d dir) (λ d. is_at_or_below d (dir ++ rest)) (λ d e. at_or_below_more d dir rest e) (pattern_dirs set)

  pub patterns_sound : (dir : Path) → IsSound (is_accepted set) (opens_to_patterns set) dir (patterns_spec set dir)
  patterns_sound dir = by_cases (is_covered set dir) (has_prefix (pattern_dirs set) dir) (leads_to_listed (pattern_dirs set) dir) refl refl refl
    where
      by_cases : (covered within leads : Bool) → is_covered set dir ≡ covered → has_prefix (pattern_dirs set) dir ≡ within → leads_to_listed (pattern_dirs set) dir ≡ leads →
          IsSound (is_accepted set) (opens_to_patterns set) dir (if covered then all_recursively
          else (if within then specific (λ name. true) (λ name. true)
          else (if leads then specific (λ name. leads_to_prefix (pattern_dirs set) (dir ++ name ∷ [])) (λ name. false) else nothing)))
      by_cases true within leads c w l = λ name rest.
          let accepted = covered_below dir c name rest in
          (accepted, or_left (has_prefix (pattern_dirs set) (dir ++ name ∷ rest)) _ (accepted_below (dir ++ name ∷ rest) accepted))
      by_cases false true leads c w l = record {
        files_named = λ name h. refl;
        dirs_named = λ name next rest h. refl;
        dirs_open = λ name h. or_left (has_prefix (pattern_dirs set) (dir ++ name ∷ [])) _ (further_below dir (name ∷ []) w);
      }
      by_cases false false true c w l = record {
        files_named = λ name h. sym w ∙ accepted_child dir name h;
        dirs_named = λ name next rest h. prefix_deeper (pattern_dirs set) dir name next rest w (accepted_below (dir ++ name ∷ next ∷ rest) h);
        dirs_open = λ name h. or_right (has_prefix (pattern_dirs set) (dir ++ name ∷ [])) _ h;
      }
      by_cases false false false c w l = λ name rest. false_from_ne_true _ (λ h. false≢true (sym l ∙ prefix_below (pattern_dirs set) dir name rest w (accepted_below (dir ++ name ∷ rest) h)))

module _ (set : Patterns) where
  -- the visit of a directory that is not covered and has no patterns at or above it
  abbrev pub uncovered_spec : Path → VisitSpec
  uncovered_spec dir = if leads_to_listed (pattern_dirs set) dir then specific (λ name. leads_to_prefix (pattern_dirs set) (dir ++ name ∷ [])) (λ name. false) else nothing

  abbrev pub visit_by : Bool → Bool → Path → VisitSpec
  visit_by covered within dir = if covered then all_recursively else (if within then specific (λ name. true) (λ name. true) else uncovered_spec dir)

  pub visit_is : (covered within : Bool) (dir : Path) → is_covered set dir ≡ covered → has_prefix (pattern_dirs set) dir ≡ within → visit_by covered within dir ≡ patterns_spec set dir
  visit_is covered within dir c w = λ i. visit_by (sym c i) (sym w i) dir

  -- the visit mentions all children, or only children at or above a pattern's directory
  pub patterns_choose : (dir : Path) → MentionsOnly (names_of (pattern_dirs set)) (patterns_spec set dir)
  patterns_choose dir = by_cases (is_covered set dir) (has_prefix (pattern_dirs set) dir) (leads_to_listed (pattern_dirs set) dir)
    where
      by_cases : (t u v : Bool) → MentionsOnly (names_of (pattern_dirs set)) (if t then all_recursively else (if u then specific (λ name. true) (λ name. true) else (if v then specific (λ name. leads_to_prefix (pattern_dirs set) (dir ++ name ∷ [])) (λ name. false) else nothing)))
      by_cases true u v = tt
      by_cases false true v = (inl (λ name. refl), inl (λ name. refl))
      by_cases false false true = (inr (λ name e. leads_among (pattern_dirs set) dir name e), inr (λ name e. absurd (false≢true e)))
      by_cases false false false = tt

  pub sound_visit : (dir : Path) (visit : VisitSpec) → visit ≡ patterns_spec set dir → IsSound (is_accepted set) (opens_to_patterns set) dir visit
  sound_visit dir visit e = subst (IsSound (is_accepted set) (opens_to_patterns set) dir) (sym e) (patterns_sound set dir)

-- 3. Equivalence with `IsAccepted`.

accepts_text : (b : Bool) (g : GlobSpec) (name : Name) (rest : Path) → Decides (accepts_tail b g (name ∷ rest)) (MatchesString b g (path_string (name ∷ rest)))
accepts_text false g name rest = DecidesAll-is_match g (path_string (name ∷ rest))
accepts_text true g name rest = DecidesAll-is_prefix_match g (path_string (name ∷ rest))

module _ (set : Patterns) where
  -- the pattern accepts the path
  abbrev IsAcceptedBy : Path → Path × GlobSpec → Type 0
  IsAcceptedBy path pattern = (name : Name) × (rest : Path) × (path ≡ pattern.0 ++ name ∷ rest) × MatchesString set.prefix_paths pattern.1 (path_string (name ∷ rest))

  abbrev test_of : Path → Path × GlobSpec → Bool
  test_of path pattern = tail_passes pattern.0 (accepts_tail set.prefix_paths pattern.1) path

  accepted_by : (path : Path) (pattern : Path × GlobSpec) → test_of path pattern ≡ true → IsAcceptedBy path pattern
  accepted_by path pattern h = let p = passed (accepts_tail set.prefix_paths pattern.1) pattern.0 path h in by_tail p.tail p.is p.passes
    where
      by_tail : (tail : Path) → path ≡ pattern.0 ++ tail → accepts_tail set.prefix_paths pattern.1 tail ≡ true → IsAcceptedBy path pattern
      by_tail [] is e = absurd (false≢true e)
      by_tail (name ∷ rest) is e = (name, rest, is, (accepts_text set.prefix_paths pattern.1 name rest).0 e)

  passes_if_accepted : (path : Path) (pattern : Path × GlobSpec) → IsAcceptedBy path pattern → test_of path pattern ≡ true
  passes_if_accepted path pattern s = passes (accepts_tail set.prefix_paths pattern.1) pattern.0 path (record { tail = s.0 ∷ s.1; is = s.2; passes = (accepts_text set.prefix_paths pattern.1 s.0 s.1).1 s.3 })

  pub Decides-is_accepted : (path : Path) → Decides (is_accepted set path) (IsAccepted set path)
  Decides-is_accepted path = (
    (λ h. let found = Any-from_list_any (test_of path) set.patterns h in (found.0, found.1, found.2, found.3, accepted_by path found.1 found.4)),
    (λ found. list_any-from_Any (test_of path) set.patterns (found.0, found.1, found.2, found.3, passes_if_accepted path found.1 found.4)),
  )

  -- soundness in terms of `IsAccepted` follows from soundness
  pub sound_for_globs : (dir : Path) (visit : VisitSpec)
      → IsSound (is_accepted set) (opens_to_patterns set) dir visit → IsSoundForGlobs set dir visit
  sound_for_globs dir all_recursively sound = λ name rest.
      (Decides-is_accepted (dir ++ name ∷ rest)).0 (sound name rest).0
  sound_for_globs dir (specific dirs files) sound = (
    (λ name h. sound.files_named name ((Decides-is_accepted (dir ++ name ∷ [])).1 h)),
    (λ name next rest h. sound.dirs_named name next rest
        ((Decides-is_accepted (dir ++ name ∷ next ∷ rest)).1 h)),
  )
  sound_for_globs dir nothing sound = λ name rest h.
      false≢true (sym (sound name rest) ∙ (Decides-is_accepted (dir ++ name ∷ rest)).1 h)
