use Rattle.std.proofs.Common.{◌≡◌, ◌≢◌, ◌++◌, MatchOption, Some, None, ap, sym, subst, ◌∙◌, lit<}
use Rattle.std.proofs.lemmas.Str.Pattern.{strip_prefix_char}
use Rattle.jj_paths.specs.Paths.{Path}
use Rattle.jj_paths.specs.Names.{path_of}
use Rattle.jj_paths.proofs.PathStrings.{not_empty}
use Rattle.jj_paths.proofs.PathPrefixes.{not_below-other, not_below-inside, cut_after}
use Rattle.jj_paths.proofs.repo_path.RepoPath.strip_prefix.Goals as goal

pub returns-in_err-tail : goal.returns-in_err-tail
returns-in_err-tail c =
    subst (λ r. MatchOption r ((rest : Path) → path_of c.args.self ≢ path_of c.args.base ++ rest) (λ rest. path_of c.args.self ≡ path_of c.args.base ++ path_of rest))
    (sym c.from_residual.ensures)
    (λ rest. not_below-other _ _ rest (not_empty _ c.if-is_empty.ensures) c.in_err-tail.ensures.cases)

pub invariant_of-result-in-Some : goal.invariant_of-result-in-Some
invariant_of-result-in-Some c =
    let h = c.in_ok-tail.ensures.cases in
    let is = h.1.1 ∙ ap (λ l. c.args.base.value.now ++ l) (sym h.2) in
    record { valid = (cut_after _ _ _ _ c.args.self.valid is (strip_prefix_char 47 _ (Some c.in-Some.value) c.in-Some.ensures.cases (lit< tt))).back_ok }

pub returns-in-Some : goal.returns-in-Some
returns-in-Some c =
    let h = c.in_ok-tail.ensures.cases in
    let is = h.1.1 ∙ ap (λ l. c.args.base.value.now ++ l) (sym h.2) in
    (cut_after _ _ _ _ c.args.self.valid is (strip_prefix_char 47 _ (Some c.in-Some.value) c.in-Some.ensures.cases (lit< tt))).is

pub returns-in-None : goal.returns-in-None
returns-in-None c =
    let h = c.in_ok-tail.ensures.cases in
    let is = h.1.1 ∙ ap (λ l. c.args.base.value.now ++ l) (sym h.2) in
    λ rest. not_below-inside _ _ _ rest (not_empty _ c.if-is_empty.ensures) (not_empty _ c.if-is_empty-2.ensures) is (strip_prefix_char 47 _ None c.in-None.ensures.cases (lit< tt))
