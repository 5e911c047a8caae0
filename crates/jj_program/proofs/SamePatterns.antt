-- Pattern sets with the same patterns, and lists with the same paths, have the same visits.
use Rattle.std.proofs.Common.{◌≡◌, ◌∙◌, Bool, true, false, List, [], ◌∷◌, ◌++◌, refl, ap, sym, ◌||◌, ◌&&◌, if◌then◌else◌}
use Rattle.std.specs.List.{list_any}
use Rattle.std.proofs.lemmas.List.Folds.{list_any-append}
use Rattle.jj_paths.specs.Paths.{Name, Path}
use Rattle.jj_globs.specs.GlobMeaning.{GlobSpec}
use Rattle.jj_matchers.specs.VisitSpecs.{all_recursively, specific, nothing}
use Rattle.jj_matchers.specs.MentionedNames.{names_of}
use Rattle.jj_matchers.specs.Patterns.{Patterns, HasSamePatterns, pattern_dirs, is_accepted, is_covered, patterns_spec, tail_passes, accepts_tail, covers_tail}
use Rattle.jj_matchers.specs.PathLists.{HasSamePaths, is_below, is_at_or_below}
use Rattle.jj_matchers.proofs.PatternTrees.{any-map}

names_any : (test : Name → Bool) (paths : List Path) → list_any test (names_of paths) ≡ list_any (λ path. list_any test path) paths
names_any test [] = refl
names_any test (path ∷ paths) = list_any-append test path (names_of paths) ∙ ap (λ b. list_any test path || b) (names_any test paths)

-- lists of the same paths have the same names
pub same_names : (paths others : List Path) → HasSamePaths paths others → (test : Name → Bool) → list_any test (names_of paths) ≡ list_any test (names_of others)
same_names paths others same test = names_any test paths ∙ same (λ path. list_any test path) ∙ sym (names_any test others)

module _ (own set : Patterns) (same : HasSamePatterns own set) where
  -- the directories are equal
  pub same_dirs : HasSamePaths (pattern_dirs own) (pattern_dirs set)
  same_dirs test =
      any-map (λ (pattern : Path × GlobSpec). pattern.0) test own.patterns
      ∙ same.members (λ pattern. test pattern.0)
      ∙ sym (any-map (λ (pattern : Path × GlobSpec). pattern.0) test set.patterns)

  pub same_accepted : (path : Path) → is_accepted own path ≡ is_accepted set path
  same_accepted path =
      same.members (λ pattern. tail_passes pattern.0 (accepts_tail own.prefix_paths pattern.1) path)
      ∙ ap (λ flag. list_any (λ pattern. tail_passes pattern.0 (accepts_tail flag pattern.1) path) set.patterns) same.mode

  same_covered : (dir : Path) → is_covered own dir ≡ is_covered set dir
  same_covered dir = λ i. same.mode i && same.members (λ pattern. tail_passes pattern.0 (covers_tail pattern.1) dir) i

  pub same_patterns_answer : (dir : Path) → patterns_spec own dir ≡ patterns_spec set dir
  same_patterns_answer dir = λ i.
      if same_covered dir i then all_recursively
      else (if same_dirs (λ prefix. is_at_or_below prefix dir) i then specific (λ name. true) (λ name. true)
      else (if same_dirs (is_below dir) i then specific (λ name. same_dirs (is_at_or_below (dir ++ name ∷ [])) i) (λ name. false) else nothing))
