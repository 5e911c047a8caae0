-- The paths that matchers accept, in terms of the lists and globs that they are built from.
use Rattle.std.proofs.Common.{◌≡◌, true, List, Contains, ap, sym, ◌∙◌}
use Rattle.std.specs.Prelude.{◌↔◌, Any}
use Rattle.std.specs.List.{list_any}
use Rattle.std.proofs.lemmas.List.Folds.{Any-from_list_any, list_any_at}
use Rattle.jj_paths.specs.Paths.{Path, IsBelow}
use Rattle.jj_paths.specs.Orders.{path_eq}
use Rattle.jj_matchers.specs.Laws.{AcceptsMembers, AcceptsBelow, AcceptsMatches}
use Rattle.jj_matchers.specs.Patterns.{Patterns, HasSamePatterns, IsAccepted, is_accepted, tail_passes, accepts_tail}
use Rattle.jj_matchers.specs.PathLists.{HasSamePaths, has_prefix, is_at_or_below, is_listed}
use Rattle.jj_matchers.proofs.PatternSound.{Decides-is_accepted}
use Rattle.jj_matchers.proofs.PathLists.{Decides-is_listed, below_base, is_at_or_below-append}

pub has_members : AcceptsMembers
has_members = Decides-is_listed

pub has_all_below : AcceptsBelow
has_all_below prefixes path = (
  (λ h. let found = Any-from_list_any (λ base. is_at_or_below base path) prefixes h in
      (found.0, found.1, found.2, found.3, below_base found.1 path found.4)),
  (λ h. list_any_at (λ base. is_at_or_below base path) prefixes h.0 h.1 h.2
      (ap (λ base. is_at_or_below base path) h.3 ∙ (ap (is_at_or_below h.1) h.4.1 ∙ is_at_or_below-append h.1 h.4.0))),
)

pub has_matches : AcceptsMatches
has_matches = Decides-is_accepted

-- a set of files with the same paths as a list
pub members_of : (wanted files : List Path) → HasSamePaths wanted files → (path : Path)
    → (is_listed wanted path ≡ true) ↔ Contains files path
members_of wanted files same path =
    let decides = has_members files path in
    ((λ h. decides.0 (sym (same (path_eq path)) ∙ h)), (λ h. same (path_eq path) ∙ decides.1 h))

-- a set of prefixes with the same paths as a list
pub below_prefixes : (own prefixes : List Path) → HasSamePaths own prefixes → (path : Path)
    → (has_prefix own path ≡ true) ↔ Any (IsBelow path) prefixes
below_prefixes own prefixes same path =
    let is = same (λ prefix. is_at_or_below prefix path) in
    let decides = has_all_below prefixes path in
    ((λ h. decides.0 (sym is ∙ h)), (λ h. is ∙ decides.1 h))

-- a set of patterns with the same patterns as another
pub matched_by : (own set : Patterns) → HasSamePatterns own set → (path : Path)
    → (is_accepted own path ≡ true) ↔ IsAccepted set path
matched_by own set same path =
    let is : is_accepted own path ≡ is_accepted set path =
    same.members (λ pattern. tail_passes pattern.0 (accepts_tail own.prefix_paths pattern.1) path)
    ∙ ap (λ flag. list_any (λ pattern. tail_passes pattern.0 (accepts_tail flag pattern.1) path) set.patterns) same.mode in
    let decides = has_matches set path in
    ((λ h. decides.0 (sym is ∙ h)), (λ h. is ∙ decides.1 h))
