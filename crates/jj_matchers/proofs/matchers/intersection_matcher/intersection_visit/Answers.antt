use Rattle.std.proofs.Common.{◌≡◌, ◌&&◌, ◌∙◌, Bool, ap, sym, subst}
use Rattle.jj_paths.specs.Paths.{Name}
use Rattle.jj_matchers.specs.Combined.{spec_of_names}
use Rattle.jj_matchers.specs.MentionedNames.{IsAllOrAmong}
use Rattle.jj_matchers.specs.SortedVisits.{sorted_names}
use Rattle.jj_matchers.proofs.MentionedNames.{both_listed}
use Rattle.jj_matchers.proofs.matchers.intersection_matcher.intersection_visit.Goals as goal

pub returns : goal.returns
returns c =
    let one_dirs = sorted_names c.in-Specific.dirs in
    let other_dirs = sorted_names c.in-Specific-second.other_dirs in
    let one_files = sorted_names c.in-Specific.files in
    let other_files = sorted_names c.in-Specific-second.other_files in
    let dirs : Name → Bool = λ name. one_dirs name && other_dirs name in
    let files : Name → Bool = λ name. one_files name && other_files name in
    let common_dirs = sorted_names c.in_ok-intersection_names-in-Specific-second.field-0 in
    let common_files = sorted_names c.in_ok-intersection_names-in-Specific-second-2.field-0 in
    let same_dirs : ◌≡◌ {A = Name → Bool} common_dirs dirs = λ i name. (c.in_ok-intersection_names-in-Specific-second.ensures name) i in
    let same_files : ◌≡◌ {A = Name → Bool} common_files files = λ i name. (c.in_ok-intersection_names-in-Specific-second-2.ensures name) i in
    rw (c.in-Specific.is, c.in-Specific-second.is) (λ names one other.
    c.visit_of_names.ensures names (subst (IsAllOrAmong names) (sym same_dirs) (both_listed names one_dirs other_dirs one.0 other.0)) (subst (IsAllOrAmong names) (sym same_files) (both_listed names one_files other_files one.1 other.1))
    ∙ ap (λ (t : Name → Bool). spec_of_names names t common_files) same_dirs
    ∙ ap (spec_of_names names dirs) same_files)
