use Rattle.std.proofs.Common.{Some, None, ◌++◌, ap, sym, ◌∙◌, lit<}
use Rattle.std.proofs.lemmas.Str.Pattern.{strip_suffix_char}
use Rattle.jj_paths.proofs.PathStrings.{not_empty}
use Rattle.jj_paths.proofs.PathPrefixes.{ends_so, nothing_before, cut_before}
use Rattle.jj_paths.proofs.repo_path.RepoPath.without_suffix.Goals as goal

pub unreachable-requires : goal.unreachable-requires
unreachable-requires c = ends_so _ _ c.requires.0 (not_empty _ c.if-is_empty.ensures) c.requires.1 c.in_default.ensures.cases

pub invariant_of-result : goal.invariant_of-result
invariant_of-result c =
    let h = c.in-Some.ensures.cases in
    let is = h.1.1 ∙ ap (λ l. l ++ c.args.rest.value.now) (sym h.2) in
    record { valid = (cut_before _ _ _ _ c.args.self.valid is (strip_suffix_char 47 _ (Some c.in-Some-strip_suffix.value) c.in-Some-strip_suffix.ensures.cases (lit< tt))).front_ok }

pub returns-in-Some-strip_suffix : goal.returns-in-Some-strip_suffix
returns-in-Some-strip_suffix c =
    let h = c.in-Some.ensures.cases in
    let is = h.1.1 ∙ ap (λ l. l ++ c.args.rest.value.now) (sym h.2) in
    (cut_before _ _ _ _ c.args.self.valid is (strip_suffix_char 47 _ (Some c.in-Some-strip_suffix.value) c.in-Some-strip_suffix.ensures.cases (lit< tt))).is

pub returns : goal.returns
returns c =
    let h = c.in-Some.ensures.cases in
    let is = h.1.1 ∙ ap (λ l. l ++ c.args.rest.value.now) (sym h.2) in
    nothing_before _ _ _ c.requires.0 (not_empty _ c.if-is_empty.ensures) c.requires.1 is (strip_suffix_char 47 _ None c.in_default-strip_suffix.ensures.cases (lit< tt))
